use Rattle.std.proofs.Common.{◌≡◌, ◌∙◌, refl, sym, ap}
use Rattle.std.specs.FinSet as set
use Rattle.world.specs.World.{place}
use Rattle.world.proofs.Orders.{places_total}
use Rattle.world.proofs.Retained.{contains_any}
use Rattle.interleave.proofs.NamedLemmas.{found_first, is_among, passed_over}
use Rattle.interleave.proofs.newcomers.Newcomers.names.Goals as goal

pub loop-place-init : goal.loop-place-init
loop-place-init c =
    let p = c.args.path.now in
    let v = c.args.version.now in
    record {
      left = λ s. ap (λ news. set.contains news (place s p v)) (sym c.self.view_is)
          ∙ contains_any places_total c.self.inside.places.keys (place s p v)
          ∙ ap (λ qs. is_among p v qs s)
          (sym (c.into_iter-place-iterator.ensures.into_iter_gives ∙ c.iter-place-items.ensures.rest));
    }

pub returns-then-is_of : goal.returns-then-is_of
returns-then-is_of c =
    let p = c.args.path.now in
    let v = c.args.version.now in
    let here = c.in-Some.place.now in (
      λ yes. (
        here.shelf,
        c.loop-place.invariant.left here.shelf ∙ ap (λ qs. is_among p v qs here.shelf) c.in-Some.ensures.steps
            ∙ found_first p v here c.next.new.self (sym c.is_of.ensures ∙ c.if-is_of.true),
      ),
      λ named. refl,
    )

pub loop-place-preserved : goal.loop-place-preserved
loop-place-preserved c =
    let p = c.args.path.now in
    let v = c.args.version.now in
    record {
      left = λ s. c.loop-place.invariant.left s ∙ ap (λ qs. is_among p v qs s) c.in-Some.ensures.steps
          ∙ passed_over p v c.in-Some.place.now c.next.new.self (sym c.is_of.ensures ∙ c.if-is_of.false) s;
    }
