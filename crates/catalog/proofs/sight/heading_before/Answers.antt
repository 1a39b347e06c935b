use Rattle.std.proofs.Common.{◌≡◌, ◌∙◌, false, ap, sym}
use Rattle.modver.specs.SemanticVersion.{version_text}
use Rattle.world.specs.World.{view, without_zip}
use Rattle.catalog.proofs.PastLemmas.{names_is, unnamed}
use Rattle.catalog.proofs.ReadLemmas.{read_as}
use Rattle.catalog.specs.Sight.{is_named, without}
use Rattle.catalog.proofs.sight.heading_before.Goals as goal

pub returns-then-not-names : goal.returns-then-not-names
returns-then-not-names g c =
    let s = c.args.shelf.now in
    let p = c.args.path.now in
    let v = version_text c.args.version.now in
    let news = c.args.news.now in
    let told = rw (c.as_str.ensures.value, c.as_str-2.ensures.value) at c.names.ensures in
    let none : is_named news p v ≡ false = sym (names_is news p v c.names.result told) ∙ c.if-not-names.true in
    read_as _ _ c.heading.result (λ w. without_zip (view w s p v)) (λ w. without_zip (view (without w news) s p v))
    (λ w. ap without_zip (sym (unnamed w news p v none s))) c.heading.ensures.reads
