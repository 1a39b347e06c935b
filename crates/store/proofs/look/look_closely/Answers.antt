use Rattle.std.proofs.Common.{ap, ap₂, subst, ◌∙◌}
use Rattle.sqlite_wal.specs.Recovery.{Image}
use Rattle.peek.specs.Edits.{shown}
use Rattle.store.specs.Restart.{HoldsNoStore}
use Rattle.store.proofs.look.look_closely.Goals as goal

pub returns-then-is_bad-clause-bad : goal.returns-then-is_bad-clause-bad
returns-then-is_bad-clause-bad g c bad clean =
    let none = c.is_no_store-is_bad.ensures c.if-is_bad.true (c.in-Some.ensures.clean clean) in
    let still = c.requires.still in
    let log = ap (shown (g.D.Disk.seen c.over.result.file)) c.over.ensures.whole ∙ ap g.D.Disk.seen c.over.ensures.file
    ∙ c.len.ensures.seen ∙ still.log_seen in
    let db = ap (shown (g.D.Disk.seen c.over-2.result.file)) c.over-2.ensures.whole
    ∙ ap g.D.Disk.seen c.over-2.ensures.file ∙ c.len-2.ensures.seen ∙ still.db_seen in
    subst HoldsNoStore (ap₂ (λ a b. let i : Image = record { log = a; db = b } in i) log db) none
