use Rattle.std.proofs.Common.{◌≡◌, ◌∙◌, Some, option_copied, sym, ap, subst}
use Rattle.std.specs.FinMap as map
use Rattle.cache.specs.declared.keys.KeptKey.{KeptKey}
use Rattle.cache.proofs.RecentLemmas.{one_more_held}
use Rattle.cache.proofs.keys.Recent+KeptKey.keep_holder.Goals as goal

pub returns-in-Ok : goal.returns-in-Ok
returns-in-Ok c w are is =
    one_more_held _ c.args.self.now c.keep.new.self c.in-Ok.kept c.keep.ensures are
    (subst (λ (it : KeptKey). map.get w.keys it.key ≡ Some it.holder) (sym c.in-Ok.ensures)
    (is ∙ ap option_copied c.in-Some.is))
