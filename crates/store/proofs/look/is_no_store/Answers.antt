use Rattle.std.proofs.Common.{subst}
use Rattle.sqlite_wal.specs.Reads.{AreClean}
use Rattle.store.proofs.LookLemmas.{clean_left}
use Rattle.store.proofs.look.is_no_store.Goals as goal

pub returns-in-Err-BadSchema-default : goal.returns-in-Err-BadSchema-default
returns-in-Err-BadSchema-default g c _ clean =
    let it = c.in-Err-BadSchema-default in
    it.ensures.bad it.field-0-0-is
    (clean_left it.left (subst (λ p. AreClean g.D.Disk p.0 p.1) c.into_files.ensures clean))
