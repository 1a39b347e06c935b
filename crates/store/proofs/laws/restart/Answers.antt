use Rattle.std.proofs.Common.{inl, inr, subst}
use Rattle.tables.specs.Means.{StandFor}
use Rattle.store.proofs.laws.restart.Goals as goal

pub returns : goal.returns
returns g c conn w image only left =
    let it = only left.0 left.1 in
    (left.0, left.2, subst (StandFor left.0) (elim it.2 [ inl same ↦ same | inr same ↦ same ]) it.1)
