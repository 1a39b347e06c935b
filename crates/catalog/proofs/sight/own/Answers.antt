use Rattle.std.proofs.Common.{◌≡◌, ◌∙◌, false, Some, None, ap, sym}
use Rattle.std.specs.Prelude.{bytes_eq}
use Rattle.std.specs.FinMap as map
use Rattle.std.specs.FinSet as set
use Rattle.modver.specs.SemanticVersion.{version_text}
use Rattle.world.proofs.Orders.{text_apart, text_same}
use Rattle.world.specs.World.{place, seen_at, view}
use Rattle.catalog.proofs.PastLemmas.{own_new, own_none, own_other, own_there}
use Rattle.catalog.proofs.ReadLemmas.{made_of}
use Rattle.catalog.specs.Sight.{sighting, without}
use Rattle.catalog.proofs.sight.own.Goals as goal

pub returns-in_default : goal.returns-in_default
returns-in_default g c =
    let d = c.args.owner.now in
    let p = c.args.path.now in
    let v = version_text c.args.version.now in
    let news = c.args.news.now in
    made_of _ _ c.in_ok-it.field-0 (λ w. sighting (view w d p v))
    (λ w. sighting (seen_at (map.get (without w news).entries (place d p v)) d)) c.in_ok-it.ensures None
    (λ w stands is. own_none w news d p v (sym c.in_default.is ∙ is))

pub returns-then-not-is_own : goal.returns-then-not-is_own
returns-then-not-is_own g c =
    let d = c.args.owner.now in
    let p = c.args.path.now in
    let v = version_text c.args.version.now in
    let news = c.args.news.now in
    let it = c.in-Some.it in
    let other : bytes_eq it.outline.shelf d ≡ false =
    sym (rw c.as_str.ensures at c.eq-is_own.ensures) ∙ c.if-not-is_own.true in
    made_of _ _ c.in_ok-it.field-0 (λ w. sighting (view w d p v))
    (λ w. sighting (seen_at (map.get (without w news).entries (place d p v)) d)) c.in_ok-it.ensures None
    (λ w stands is. own_other w news d p v it (sym c.in-Some.is ∙ is) (text_apart it.outline.shelf d other))

pub returns-then-has : goal.returns-then-has
returns-then-has g c =
    let d = c.args.owner.now in
    let p = c.args.path.now in
    let v = version_text c.args.version.now in
    let news = c.args.news.now in
    let at = rw (c.as_str-2.ensures.value, c.as_str-3.ensures.value) at c.in_ok-place.ensures in
    made_of _ _ c.in_ok-it.field-0 (λ w. sighting (view w d p v))
    (λ w. sighting (seen_at (map.get (without w news).entries (place d p v)) d)) c.in_ok-it.ensures None
    (λ w stands is. own_new w news d p v (ap (set.contains news) (sym at) ∙ sym c.has.ensures ∙ c.if-has.true))

pub returns : goal.returns
returns g c =
    let d = c.args.owner.now in
    let p = c.args.path.now in
    let v = version_text c.args.version.now in
    let news = c.args.news.now in
    let it = c.in-Some.it in
    let at = rw (c.as_str-2.ensures.value, c.as_str-3.ensures.value) at c.in_ok-place.ensures in
    let mine : it.outline.shelf ≡ d =
    text_same it.outline.shelf d (sym (rw c.as_str.ensures at c.eq-is_own.ensures) ∙ c.if-not-is_own.false) in
    made_of _ _ c.in_ok-it.field-0 (λ w. sighting (view w d p v))
    (λ w. sighting (seen_at (map.get (without w news).entries (place d p v)) d)) c.in_ok-it.ensures (Some it)
    (λ w stands is. own_there w news d p v it (sym c.in-Some.is ∙ is) mine
    (ap (set.contains news) (sym at) ∙ sym c.has.ensures ∙ c.if-has.false))
