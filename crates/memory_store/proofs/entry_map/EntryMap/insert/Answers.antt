use Rattle.std.proofs.Common.{◌∙◌, ap, sym, subst}
use Rattle.std.specs.FinMap as map
use Rattle.std.proofs.lemmas.Result.{on_ok_weaker, on_err_weaker}
use Rattle.world.specs.World.{place}
use Rattle.world.specs.FinMaps.{put_under}
use Rattle.memory_store.specs.NestedMaps.{EachHasVersion, by_place}
use Rattle.world.proofs.MapsNested.{same_found}
use Rattle.memory_store.proofs.MapsPlaces.{put_at_place, put_on_shelf, put_on_new}
use Rattle.memory_store.proofs.MapsSeen.{after_either, each_after}
use Rattle.memory_store.proofs.entry_map.EntryMap.insert.Goals as goal

pub returns-in-Some-clause-ok : goal.returns-in-Some-clause-ok
returns-in-Some-clause-ok c =
    let s = c.args.shelf.now in
    let p = c.args.path.now in
    let v = c.args.version.now in
    let lent = rw c.in-Some.is at (c.get_mut.follows.holds c.insert_under.new.self) in
    on_ok_weaker c.insert_under.result
    (λ put. ap by_place (put_on_shelf c.self.inside.shelves s p v c.args.entry c.in-Some.ensures.value lent put)
    ∙ put_at_place c.self.inside.shelves s p v c.args.entry
    ∙ ap (λ m. map.insert m (place s p v) c.args.entry) c.self.view_is)
    c.insert_under.ensures.ok

pub returns-in-Some-clause-err : goal.returns-in-Some-clause-err
returns-in-Some-clause-err c =
    let lent = rw c.in-Some.is at (c.get_mut.follows.holds c.insert_under.new.self) in
    on_err_weaker c.insert_under.result
    (λ same. ap by_place (same_found c.self.inside.shelves c.args.shelf.now c.in-Some.ensures.value lent same)
    ∙ c.self.view_is)
    c.insert_under.ensures.err

pub invariant_of-self : goal.invariant_of-self
invariant_of-self c =
    let s = c.args.shelf.now in
    let p = c.args.path.now in
    let v = c.args.version.now in
    let lent = rw c.in-Some.is at (c.get_mut.follows.holds c.insert_under.new.self) in
    after_either (c.get_mut.follows.lender c.insert_under.new.self) c.insert_under.result c.insert_under.ensures.ok
    c.insert_under.ensures.err
    (λ put. subst EachHasVersion
    (sym (put_on_shelf c.self.inside.shelves s p v c.args.entry c.in-Some.ensures.value lent put))
    (each_after c.self.inside.shelves s p v c.args.entry c.self.invariant))
    (λ same. subst EachHasVersion (sym (same_found c.self.inside.shelves s c.in-Some.ensures.value lent same))
    c.self.invariant)

pub returns-clause-ok : goal.returns-clause-ok
returns-clause-ok c =
    let s = c.args.shelf.now in
    let p = c.args.path.now in
    let v = c.args.version.now in
    on_ok_weaker c.insert.result
    (λ put. ap by_place (put_on_new c.self.inside.shelves s p v c.args.entry c.in_default.ensures.value
    (put ∙ ap (λ t. map.insert c.get_mut.follows.lender-at-none t c.insert_under-2.new.self) c.in_ok-from_str.ensures.ok
    ∙ ap (λ m. map.insert m s c.insert_under-2.new.self) c.get_mut.follows.holds-at-none)
    (c.in_ok-insert_under.ensures.ok ∙ ap (λ paths. put_under paths p v c.args.entry) c.new-paths.ensures))
    ∙ put_at_place c.self.inside.shelves s p v c.args.entry
    ∙ ap (λ m. map.insert m (place s p v) c.args.entry) c.self.view_is)
    c.insert.ensures.ok

pub invariant_of-self-2 : goal.invariant_of-self-2
invariant_of-self-2 c =
    let s = c.args.shelf.now in
    let p = c.args.path.now in
    let v = c.args.version.now in
    after_either c.insert.new.self c.insert.result c.insert.ensures.ok c.insert.ensures.err
    (λ put. subst EachHasVersion (sym (put_on_new c.self.inside.shelves s p v c.args.entry c.in_default.ensures.value
    (put ∙ ap (λ t. map.insert c.get_mut.follows.lender-at-none t c.insert_under-2.new.self) c.in_ok-from_str.ensures.ok
    ∙ ap (λ m. map.insert m s c.insert_under-2.new.self) c.get_mut.follows.holds-at-none)
    (c.in_ok-insert_under.ensures.ok ∙ ap (λ paths. put_under paths p v c.args.entry) c.new-paths.ensures)))
    (each_after c.self.inside.shelves s p v c.args.entry c.self.invariant))
    (λ same. subst EachHasVersion (sym (same ∙ c.get_mut.follows.holds-at-none)) c.self.invariant)
