-- When SQL's <> is true.
use Rattle.std.proofs.Common.{◌≡◌, false, not, refl, sym, ap, ◌∙◌}
use Rattle.std.specs.Ordering.{is_eq, is_ne}
use Rattle.std.specs.declared.cmp.Ordering.{Ordering}
use Rattle.std.specs.declared.cmp.Ordering.TheVariants.{Less, Equal, Greater}
use Rattle.sqlite.specs.declared.types.Value.{Value}
use Rattle.sqlite.specs.Collation.TheVariants.{Binary}
use Rattle.sqlite_sql.specs.Ops.{binary, is_null}
use Rattle.sqlite_value.specs.Order.{value_cmp}
use Rattle.sqlite_schema.specs.Rules.{equal, differ}
use Rattle.tables.proofs.ValueLemmas.{as_truth}

is_other : (o : Ordering) → is_ne o ≡ not (is_eq o)
is_other Less = refl
is_other Equal = refl
is_other Greater = refl

-- for two values that are not NULL, <> is true exactly if = is not
pub differ_is : (v w : Value) → is_null v ≡ false → is_null w ≡ false → differ v w ≡ not (equal Binary v w)
unfolding binary
differ_is v w one two = rw (one, two)
    (as_truth (is_ne (value_cmp v w)) ∙ is_other (value_cmp v w) ∙ ap not (sym (as_truth (is_eq (value_cmp v w)))))
