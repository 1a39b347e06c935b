-- Reading to the end of a reader.
use Rattle.std.proofs.Common.{◌≡◌, ◌≤◌, ◌<◌, ◌+◌, ◌++◌, ◌∙◌, ℕ, List, [], length, Bool, true, arith, refl, sym, ap, subst}
use Rattle.std.proofs.Common.{append-nil}
use Rattle.histories.specs.Account.{Account, Gives}
use Rattle.histories.proofs.AccountLemmas.{Gives-none, Gives-trans}
use Rattle.commands.specs.Front.{Hears, HearsOn, LosesAll}
use Rattle.commands.specs.declared.front.ReadEnd.TheVariants.{Whole, Full, Broken}
use Rattle.commands.specs.declared.sources.SourceFault.{SourceFault}

-- before the first read
pub came_yet : (a : Account) (got : List ℕ) → got ≡ [] → Gives a a got
came_yet a got none = subst (Gives a a) (sym none) (Gives-none a)

-- the bytes so far with what came after them
pub came_after : (old mid new : Account) (got got_new : List ℕ) (over : Bool) → Gives old mid got
    → HearsOn mid new got got_new over → Gives old new got_new
came_after old mid new got got_new over gives came =
    subst (Gives old new) (sym came.behind) (Gives-trans old mid new got came.bytes gives came.gives)

-- more bytes came than were asked for
pub came_full : (old new : Account) (most : ℕ) (got : List ℕ) → Gives old new got → length got ≤ most + 1
    → most < length got → Hears old new most got Full
came_full old new most got gives few many = (gives, omega (arith, few, many))

-- there were no more
pub all_came : (old mid new : Account) (most : ℕ) (got got_new : List ℕ) → length got ≤ most → Gives old mid got
    → HearsOn mid new got got_new true → Hears old new most got_new Whole
all_came old mid new most got got_new few gives came =
    let same : got_new ≡ got = came.behind ∙ ap (λ bs. got ++ bs) (came.none refl) ∙ append-nil got in (
      came_after old mid new got got_new true gives came,
      came.end refl,
      subst (λ bs. length bs ≤ most) (sym same) few,
    )

-- the rest was not read
pub broke_off : (old mid new : Account) (most : ℕ) (got got_new : List ℕ) (fault : SourceFault) → Gives old mid got
    → LosesAll mid new got got_new → Hears old new most got_new (Broken fault)
broke_off old mid new most got got_new fault gives loses = record {
  lost = loses.lost;
  gives = subst (λ bs. Gives old new (bs ++ loses.lost)) (sym loses.same)
      (Gives-trans old mid new got loses.lost gives loses.gives);
}

-- so it is after as many reads as there may be
pub stopped : (old new : Account) (most : ℕ) (got : List ℕ) (fault : SourceFault) → Gives old new got
    → Hears old new most got (Broken fault)
stopped old new most got fault gives = record { lost = []; gives = subst (Gives old new) (sym (append-nil got)) gives }

pub ruleset reads = (came_yet, came_after, came_full, all_came, broke_off, stopped)
