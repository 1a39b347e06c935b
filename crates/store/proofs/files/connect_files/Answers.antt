use Rattle.std.specs.Prelude.{true}
use Rattle.std.proofs.Common.{subst, sym}
use Rattle.std.proofs.lemmas.Result.{IfOk-weaker, IfErr-weaker}
use Rattle.sqlite.proofs.FileLemmas.{same_image}
use Rattle.sqlite.specs.Files.{file_state, IsBlankAs}
use Rattle.sqlite.specs.Start.{FindsIn}
use Rattle.store.specs.Restart.{HoldsNoFile}
use Rattle.store.proofs.FileLemmas.{leaves_from, no_database, stray_is_none}
use Rattle.store.proofs.files.connect_files.Goals as goal

pub returns-clause-found : goal.returns-clause-found
returns-clause-found g c =
    IfOk-weaker c.connect_judged.result _ _ (λ conn finds clean.
    let found = finds clean in
    subst (λ i. FindsIn i (file_state conn)) (same_image c.judge.ensures.log c.judge.ensures.db)
    (record { holds = found.holds; reads = found.reads })) c.connect_judged.ensures.found

pub returns-clause-sums : goal.returns-clause-sums
returns-clause-sums g c =
    IfOk-weaker c.connect_judged.result _ _ (λ conn has clean blank.
    has clean (subst (IsBlankAs true) (sym (same_image c.judge.ensures.log c.judge.ensures.db)) blank))
    c.connect_judged.ensures.sums

pub returns-clause-begun : goal.returns-clause-begun
returns-clause-begun g c =
    IfOk-weaker c.connect_judged.result _ _ (λ conn finds clean. c.in-Ok.ensures.begun (finds clean).honest)
    c.connect_judged.ensures.found

pub returns-clause-bad : goal.returns-clause-bad
returns-clause-bad g c =
    IfErr-weaker c.connect_judged.result _ _ (λ refused says bad clean.
    no_database _ (subst HoldsNoFile (same_image c.judge.ensures.log c.judge.ensures.db) (says bad clean)))
    c.connect_judged.ensures.bad

pub returns-clause-unharmed : goal.returns-clause-unharmed
returns-clause-unharmed g c =
    IfErr-weaker c.connect_judged.result _ _ (λ refused leaves clean.
    leaves_from c.args.files c.judge.new.files c.judge.ensures.log c.judge.ensures.db _ (leaves clean))
    c.connect_judged.ensures.unharmed

pub returns-in-Err-clause-bad : goal.returns-in-Err-clause-bad
returns-in-Err-clause-bad g c bad clean = stray_is_none _ (c.in-Err.ensures.bad bad clean)

pub returns-in-Err-clause-unharmed : goal.returns-in-Err-clause-unharmed
returns-in-Err-clause-unharmed g c clean = λ it may.
    (c.judge.ensures.log.crash _ may.0, c.judge.ensures.db.crash _ may.1)
