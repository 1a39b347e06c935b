use Rattle.std.proofs.Common.{◌∙◌, ap}
use Rattle.world.specs.Lines.{in_order}
use Rattle.world.specs.Versions.{by_precedence, versions_of}
use Rattle.catalog.proofs.PastLemmas.{kept_versions}
use Rattle.catalog.proofs.ReadLemmas.{made_of, then_read}
use Rattle.catalog.specs.Sight.{all_kept, without}
use Rattle.catalog.proofs.sight.versions_before.Goals as goal

pub returns : goal.returns
returns g c =
    let s = c.args.shelf.now in
    let p = c.args.path.now in
    let news = c.args.news.now in
    let vs = c.in_ok-seen.seen in
    let kept = c.keep_all.new.kept.items in
    let adds = rw (c.as_slice.ensures, c.new-kept.ensures.items) at c.in_ok-keep_all.ensures in
    let all = then_read _ _ vs (λ w. versions_of w s p) (λ w. all_kept w news s p (versions_of w s p))
    c.in_ok-seen.ensures.reads _ _ (λ w. all_kept w news s p vs) adds
    (λ w stands is. ap (all_kept w news s p) is) in
    made_of _ _ kept (λ w. all_kept w news s p (versions_of w s p)) (λ w. versions_of (without w news) s p) all
    c.in_ok-sorted.field-0 (λ w stands is. c.in_ok-sorted.ensures
    ∙ ap (λ vs. in_order (by_precedence vs)) is ∙ kept_versions w news s p (g.met.S.Shelves.sound _ w stands))
