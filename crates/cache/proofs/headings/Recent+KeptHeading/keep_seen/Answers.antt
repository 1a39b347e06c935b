use Rattle.std.proofs.Common.{◌≡◌, ◌∙◌, Some, option_copied, sym, ap, subst}
use Rattle.world.specs.World.{view}
use Rattle.cache.specs.declared.headings.KeptHeading.{KeptHeading}
use Rattle.outline.specs.Seen.{seen_heading}
use Rattle.cache.proofs.RecentLemmas.{one_more_held}
use Rattle.cache.proofs.headings.Recent+KeptHeading.keep_seen.Goals as goal

pub returns-in-Ok : goal.returns-in-Ok
returns-in-Ok c w are is =
    one_more_held _ c.args.self.now c.keep.new.self c.in-Ok.kept c.keep.ensures are
    (subst (λ (it : KeptHeading). Some it.seen ≡ seen_heading (view w it.shelf it.path it.version))
    (sym c.in-Ok.ensures) (sym (ap option_copied c.in-Some.is) ∙ is))
