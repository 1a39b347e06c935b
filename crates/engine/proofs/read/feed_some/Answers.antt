use Rattle.std.proofs.Common.{◌≢◌, ℕ, ◌<◌, ◌≤◌, List, [], ◌++◌, Some, None, length, take, sym, subst, arith, ◌∙◌}
use Rattle.std.proofs.Common.{append-nil}
use Rattle.std.proofs.lemmas.Bool.{false≢true}
use Rattle.histories.specs.Account.{Gives}
use Rattle.engine.specs.Served.{IsClosing}
use Rattle.wire.specs.declared.reply.Fixed.TheVariants as fixed
use Rattle.engine.proofs.ReadLemmas.{ends_badly, some_came, are_some, are_few, fed_few}
use Rattle.engine.proofs.read.feed_some.Goals as goal

pub returns-in-0-2-clause-on : goal.returns-in-0-2-clause-on
returns-in-0-2-clause-on g c =
    let ok : Gives _ _ [] = rw c.in-0.is at c.in_ok-n.ensures.ok in
    let some : c.args.framer.now.held ≢ [] = λ e. false≢true (sym c.if-is_empty.false ∙ c.is_empty.ensures.1 e) in
    let none : length {A = ℕ} [] ≤ length c.args.chunk.now = omega arith in (
      [],
      ok,
      c.requires.near [] none,
      (λ more may. subst (λ (l : List ℕ). IsClosing (c.args.framer.now.held ++ l) (Some fixed.BadRequest))
          (sym (may (c.in_ok-n.ensures.end c.in-0.is))) (ends_badly _ c.requires.waits some)),
      λ same. cc,
    )

pub returns-in-Err-clause-on : goal.returns-in-Err-clause-on
returns-in-Err-clause-on g c =
    let n = c.in_ok-n.n in
    let came = take n c.read_some.new.chunk in
    let some : 0 < n = omega (arith, c.in_default) in
    let within = c.in_ok-n.ensures.within in (
      came,
      c.in_ok-n.ensures.ok,
      c.requires.near came (are_few c.read_some.new.chunk n (length c.args.chunk.now) within
          (omega (arith, c.in_ok-n.ensures.room))),
      (λ more may. some_came _ _ more n some within),
      λ same. are_some _ n some within,
    )

pub returns-in-Ok-clause-on : goal.returns-in-Ok-clause-on
returns-in-Ok-clause-on g c =
    let n = c.in_ok-n.n in
    let came = take n c.read_some.new.chunk in (
      came,
      c.in_ok-n.ensures.ok,
      c.requires.near came (are_few c.read_some.new.chunk n (length c.args.chunk.now) c.in_ok-n.ensures.within
          (omega (arith, c.in_ok-n.ensures.room))),
      c.in-Ok.ensures.ok,
    )

pub returns-in-0-clause-on : goal.returns-in-0-clause-on
returns-in-0-clause-on g c =
    let ok : Gives _ _ [] = rw c.in-0.is at c.in_ok-n.ensures.ok in
    let held = append-nil c.args.framer.now.held ∙ c.is_empty.ensures.0 c.if-is_empty.true in
    let none : length {A = ℕ} [] ≤ length c.args.chunk.now = omega arith in (
      [],
      ok,
      c.requires.near [] none,
      (λ more may. subst (λ (l : List ℕ). IsClosing (c.args.framer.now.held ++ l) None)
          (sym (may (c.in_ok-n.ensures.end c.in-0.is))) held),
      λ same. cc,
    )

pub returns-in-Ok-clause-few : goal.returns-in-Ok-clause-few
returns-in-Ok-clause-few g c =
    let n = c.in_ok-n.n in
    let came = take n c.read_some.new.chunk in
    fed_few _ _ came (length c.args.chunk.now) c.in-Ok.ensures.ok
    (are_few c.read_some.new.chunk n (length c.args.chunk.now) c.in_ok-n.ensures.within
    (omega (arith, c.in_ok-n.ensures.room)))
