use Rattle.std.proofs.Common.{◌≡◌, ◌<◌, ◌∙◌, sym, ap, subst, option_copied, rules}
use Rattle.std.specs.FinMap as map
use Rattle.world.specs.FinMaps.{by_text}
use Rattle.cache.specs.Weights.{most_groups}
use Rattle.cache.proofs.GroupLemmas.{no_groups, one_more, one_more_fits, same_or_none}
use Rattle.cache.proofs.groups.Groups.keep.Goals as goal

pub invariant_of-self-else-is_err : goal.invariant_of-self-else-is_err
invariant_of-self-else-is_err c =
    let was = by_text c.self.inside.shelves.entries in
    let put : by_text c.add.new.shelves.entries ≡ map.insert was c.args.shelf.now (option_copied c.args.group) =
    search rules in
    let room = subst (λ m. map.len m < most_groups) (sym c.self.view_is) c.make_room.ensures.room in
    one_more_fits was (by_text c.add.new.shelves.entries) c.args.shelf.now (option_copied c.args.group) most_groups put
    room

pub returns-then-is_err : goal.returns-then-is_err
returns-then-is_err c = λ w _ _. no_groups w (by_text c.drop.inside.shelves.entries) (c.drop.view_is ∙ c.new.ensures)

pub returns-else-is_err : goal.returns-else-is_err
returns-else-is_err c = λ w are is.
    let was = by_text c.self.inside.shelves.entries in
    let put : by_text c.add.new.shelves.entries ≡ map.insert was c.args.shelf.now (option_copied c.args.group) =
    search rules in
    let left = same_or_none w c.args.self.now c.make_room.new.self c.make_room.ensures.fewer are in
    one_more w c.make_room.new.self (by_text c.add.new.shelves.entries) c.args.shelf.now (option_copied c.args.group)
    (put ∙ ap (λ m. map.insert m c.args.shelf.now (option_copied c.args.group)) c.self.view_is) left is
