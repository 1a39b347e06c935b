use Rattle.std.proofs.Common.{◌≡◌, ℕ, List, ◌++◌, refl, ◌∙◌, ap, arith, true≢false}
use Rattle.std.proofs.lemmas.List.{append_assoc}
use Rattle.histories.specs.Account.{Account}
use Rattle.histories.proofs.AccountLemmas.{Gives-trans}
use Rattle.control.specs.Line.{Comes, IsPartAfter, ReadsMore}
use Rattle.control.specs.declared.line.Came.{Came}
use Rattle.control.specs.declared.line.Came.TheVariants.{All, Part, Interrupted, Late}
use Rattle.control.specs.declared.line.Extent.TheVariants.{Line}
use Rattle.control.proofs.HeardLemmas.{all_tried, heard, still_on, unheard}
use Rattle.commands.proofs.Connections.{pings_few, then_pings}
use Rattle.commands.proofs.copy.await_line.Goals as goal

-- what was read behind what was read
more_after : (a b c : Account) (got mid new : List ℕ) → ReadsMore a b got mid → ReadsMore b c mid new
    → ReadsMore a c got new
more_after a b c got mid new one two = record {
  bytes = one.bytes ++ two.bytes;
  gives = Gives-trans _ _ _ _ _ one.gives two.gives;
  behind = two.behind ∙ ap (λ x. x ++ two.bytes) one.behind ∙ append_assoc got one.bytes two.bytes;
}

-- what was not all is a part
is_part : (came : Came) (got : List ℕ) (len len_new : ℕ) (account : Account) → ¬ (came ≡ All)
    → Comes Line came got len len_new account → IsPartAfter Line len len_new
is_part All got len len_new account other comes = absurd (other refl)
is_part Part got len len_new account other comes = comes
is_part Interrupted got len len_new account other comes = comes
is_part Late got len len_new account other comes = comes

pub loop-preserved : goal.loop-preserved
loop-preserved g c =
    let reads = g.R.Hear.reads in
    let before = c.loop.invariant in
    let on = c.in_ok-came.ensures in
    let room = before.room in
    let more_room = on.room in
    record {
      more = more_after _ _ _ _ _ _ before.more on.reads;
      still = still_on _ _ (reads c.args.reader.now) (reads c.loop.reader) (reads c.hear_on.new.reader) before.still _
          on.tried on.fails (λ never. absurd (true≢false never));
      room = omega (arith, room, more_room);
      part = λ long. before.part (is_part _ _ _ _ _ c.in_default.not-All on.came long);
      between = then_pings _ _ _ _ _ _ _ _ _ before.between c.show.ensures
          (pings_few _ (reads c.loop.reader) (reads c.hear_on.new.reader) on.fails);
    }

pub returns-in_err-came-clause-hears : goal.returns-in_err-came-clause-hears
returns-in_err-came-clause-hears g c =
    let reads = g.R.Hear.reads in
    unheard _ _ (reads c.args.reader.now) (reads c.loop.reader) (reads c.hear_on.new.reader) c.loop.invariant.still
    c.in_err-came.field-0.0 c.from_residual.result c.from_residual.ensures.1 c.in_err-came.ensures.fails

pub returns-in-All-clause-hears : goal.returns-in-All-clause-hears
returns-in-All-clause-hears g c =
    let reads = g.R.Hear.reads in
    heard _ _ (reads c.args.reader.now) (reads c.loop.reader) (reads c.hear_on.new.reader) c.loop.invariant.still
    (rw c.in-All.is at c.in_ok-came.ensures.fails)

pub returns-clause-hears : goal.returns-clause-hears
returns-clause-hears g c =
    let reads = g.R.Hear.reads in
    all_tried _ _ (reads c.args.reader.now) (reads c.loop.reader) c.loop.invariant.still
    (omega (arith, c.loop-test.false))
