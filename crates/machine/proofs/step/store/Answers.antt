use Rattle.std.proofs.Common.{sym, subst}
use Rattle.machine.specs.Machine.{stored, place_of}
use Rattle.world.specs.Store.{DoesAt}
use Rattle.machine.proofs.Checks.{room_for}
use Rattle.machine.proofs.Needs.{told_once}
use Rattle.machine.proofs.step.store.Goals as goal

pub returns-clause-does : goal.returns-clause-does
returns-clause-does g c =
    let shown = g.S.TracedShelves.shown in
    let h = c.args.holder.now in
    let p = c.args.publish.now in
    let does = rw c.as_str-shelf.ensures at c.insert.ensures.does in
    record {
      honest = does.honest;
      at = λ honest w stands fits.
          subst (λ o. DoesAt (shown c.args.shelves.now) (shown c.insert.new.self) w c.insert.result tt
          (stored w (place_of h.shelf p) o)) (sym c.requires)
          (does.at honest w stands (room_for w h p _ fits.0 fits.1 c.requires));
      cause = does.cause;
    }

pub returns-clause-needs : goal.returns-clause-needs
returns-clause-needs g c =
    rw (c.requires, sym c.as_str-shelf.ensures) (told_once _ _ _ c.insert.result c.insert.ensures.asks)
