use Rattle.std.proofs.Common.{◌∙◌, ap}
use Rattle.std.specs.FinMap as map
use Rattle.std.proofs.lemmas.Result.{on_ok_weaker, on_err_weaker}
use Rattle.world.proofs.MapsNested.{put_found, same_found}
use Rattle.world.proofs.text_map.TextMap+TextMap+V.insert_under.Goals as goal

pub returns-in-Some-clause-ok : goal.returns-in-Some-clause-ok
returns-in-Some-clause-ok g c =
    let lent = rw c.in-Some.is at (c.get_mut.follows.holds c.insert.new.self) in
    on_ok_weaker c.insert.result
    (λ put. put_found c.args.self.now c.args.first.now c.args.second.now c.args.value c.in-Some.ensures.value lent
    (put ∙ ap (λ k. map.insert c.in-Some.inner.now k c.args.value) c.in_ok-key.ensures.ok))
    c.insert.ensures.ok

pub returns-in-Some-clause-err : goal.returns-in-Some-clause-err
returns-in-Some-clause-err g c =
    let lent = rw c.in-Some.is at (c.get_mut.follows.holds c.insert.new.self) in
    on_err_weaker c.insert.result
    (λ same. same_found c.args.self.now c.args.first.now c.in-Some.ensures.value lent same) c.insert.ensures.err
