use Rattle.std.proofs.Common.{Bool, cond, subst, sym}
use Rattle.sqlite.specs.Files.{file_state}
use Rattle.store.specs.Older.{HoldsOlder}
use Rattle.store.specs.Restart.{Keeps}
use Rattle.store.proofs.FileLemmas.{both_untouched, holds_start, keeps_fresh}
use Rattle.store.proofs.OlderLemmas.{finds_older, shows_found}
use Rattle.store.proofs.open_older.open_older.Goals as goal

pub returns-in-Ok-connect_files-clause-open : goal.returns-in-Ok-connect_files-clause-open
returns-in-Ok-connect_files-clause-open g c clean = (c.in-Ok-connect_files.ensures.opened clean).0.is_open

pub returns-in-Ok-connect_files-clause-found : goal.returns-in-Ok-connect_files-clause-found
returns-in-Ok-connect_files-clause-found g c clean w held =
    let (log, db) = c.in-Ok.ensures.fresh in
    let same = holds_start g.T.Start.log g.T.Start.db _ _ _ _ _ _ log db in
    let opened = c.in-Ok-connect_files.ensures.opened clean in
    finds_older (file_state c.in-Ok-connect_files.conn) _ opened.1 opened.0.is_open opened.0.clean
    (c.in-Ok-connect_files.ensures.found clean) w (subst (λ i. HoldsOlder i w) (sym same) held)

pub returns-in-Ok-connect_files-clause-shows : goal.returns-in-Ok-connect_files-clause-shows
returns-in-Ok-connect_files-clause-shows g c clean =
    let (log, db) = c.in-Ok.ensures.fresh in
    let same = holds_start g.T.Start.log g.T.Start.db _ _ _ _ _ _ log db in
    shows_found (file_state c.in-Ok-connect_files.conn) _ _ same (c.in-Ok-connect_files.ensures.opened clean).0.clean
    (c.in-Ok-connect_files.ensures.found clean)

pub returns-in-Err-connect_files-clause-keeps : goal.returns-in-Err-connect_files-clause-keeps
returns-in-Err-connect_files-clause-keeps g c clean =
    let (log, db) = c.in-Ok.ensures.fresh in
    let files = c.in-Ok.opened.0 in
    let start = λ (b : Bool). cond b g.T.Start.log g.T.Start.db in
    subst (λ i. Keeps i c.in-Err-connect_files.left) (holds_start g.T.Start.log g.T.Start.db _ _ _ _ _ _ log db)
    (keeps_fresh files
    (λ it may. both_untouched g.T.Start.is_mixing (start files.log.is_log) (start files.db.is_log) _ _ _ _ log.1 db.1
    it may.0 may.1)
    c.in-Err-connect_files.left (c.in-Err-connect_files.ensures.unharmed clean))
