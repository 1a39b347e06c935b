use Rattle.std.proofs.Common.{◌≡◌, ◌∙◌, true, false, ap, sym}
use Rattle.std.specs.Prelude.{◌&&◌, is_some, not}
use Rattle.modver.specs.SemanticVersion.{version_text}
use Rattle.world.specs.World.{view}
use Rattle.catalog.proofs.PastLemmas.{is_gone_by, names_is}
use Rattle.catalog.proofs.ReadLemmas.{made_of, unread}
use Rattle.catalog.specs.Sight.{is_gone, is_named, sighting, without}
use Rattle.catalog.proofs.sight.is_gone.Goals as goal

pub returns-then-not-names : goal.returns-then-not-names
returns-then-not-names g c =
    let s = c.args.shelf.now in
    let p = c.args.path.now in
    let v = version_text c.args.version.now in
    let news = c.args.news.now in
    let told = rw (c.as_str.ensures.value, c.as_str-2.ensures.value) at c.names.ensures in
    let none : is_named news p v ≡ false = sym (names_is news p v c.names.result told) ∙ c.if-not-names.true in
    unread _ false (λ w. is_gone w news s p v)
    (λ w. ap (λ b. b && not (is_some (view (without w news) s p v))) (sym none))

pub returns : goal.returns
returns g c =
    let s = c.args.shelf.now in
    let p = c.args.path.now in
    let v = version_text c.args.version.now in
    let news = c.args.news.now in
    let told = rw (c.as_str.ensures.value, c.as_str-2.ensures.value) at c.names.ensures in
    let named : is_named news p v ≡ true = sym (names_is news p v c.names.result told) ∙ c.if-not-names.false in
    made_of _ _ c.in_ok-behind.field-0 (λ w. sighting (view (without w news) s p v)) (λ w. is_gone w news s p v)
    c.in_ok-behind.ensures c.is_none.result
    (λ w stands is. is_gone_by w news s p v named c.in_ok-behind.field-0 is c.is_none.result c.is_none.ensures)
