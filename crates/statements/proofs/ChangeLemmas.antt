-- Calls one after another.
use Rattle.std.proofs.Common.{◌≡◌, ◌≤◌, ◌⊎◌, Bool, true, false, inl, inr, refl, sym, subst, arith, IsTrue, true≢false}
use Rattle.std.proofs.Common.{Result, Ok, Err, IsErr, is_ok, IfOk, OnOk}
use Rattle.sqlite_trees.specs.View.{doubt}
use Rattle.sqlite.specs.Tree.{Trees}
use Rattle.sqlite.specs.State.{State, HasCleanDisk}
use Rattle.world.specs.World.{World}
use Rattle.tables.specs.Means.{Holds, Stands}
use Rattle.statements.specs.Calls.{Spares, LeavesOnly, LeavesNoMore, ChangesAt, Changes}
use Rattle.tables.proofs.FailureLemmas.{was_clean}
use Rattle.statements.proofs.WriteLemmas.{open_leaves}

-- a call that wrote nothing and failed is a change that was not done
pub spared : (old new : State) (next : World → World) → Spares old new → Changes old new false next
spared old new next s = record {
  clean = s.clean;
  at = λ w. record {
    world = s.stays w;
    left = λ clean stands only db may. let it = only db (s.left clean w stands db may) in (it.0, it.1, inl it.2);
    alone = λ done. absurd (true≢false (sym done));
    failed = λ _ clean stands. inr (s.left clean w stands);
  };
}

-- a call that wrote nothing is a change that was done, if the next world is this one
pub refused : (old new : State) (next : World → World)
    → ((db : Trees) → IsTrue new.is_open → new.may_leave db → db ≡ new.committed.trees) → Spares old new
    → (HasCleanDisk new → (w : World) → Stands old w → IsTrue new.is_open × (next w ≡ w)) → Changes old new true next
refused old new next law s same = record {
  clean = s.clean;
  at = λ w. record {
    world = λ stands clean shown. subst (Holds new) (sym (same clean w stands).1) (s.stays w stands clean shown);
    left = λ clean stands only db may. let it = only db (s.left clean w stands db may) in (it.0, it.1, inl it.2);
    alone = λ _ clean stands. let it = same clean w stands in
        subst (λ x. LeavesOnly new (λ y. y ≡ x)) (sym it.1)
        (open_leaves new w (λ db. law db it.0) (s.stays w stands clean it.0));
    failed = λ unfinished. absurd (true≢false unfinished);
  };
}

-- what a crash leaves after a change that was not done, it leaves after a read and that change
no_more : (a b c : State) (w next : World) → Spares a b → doubt b.is_clean ≤ doubt c.is_clean → HasCleanDisk c
    → Stands a w
    → LeavesOnly c (λ x. (x ≡ w) ⊎ (x ≡ next)) ⊎ LeavesNoMore b c
    → LeavesOnly c (λ x. (x ≡ w) ⊎ (x ≡ next)) ⊎ LeavesNoMore a c
no_more a b c w next s up clean stands (inl only) = inl only
no_more a b c w next s up clean stands (inr none) =
    inr (λ db may. s.left (was_clean b c up clean) w stands db (none db may))

-- a read, and then a change of what it leaves, is a change of what was there before the read
pub spares_changes : (a b c : State) (done : Bool) (next : World → World) → Spares a b
    → doubt b.is_clean ≤ doubt c.is_clean
    → ((w : World) → (HasCleanDisk c → Stands a w → ChangesAt b c done w (next w))) → Changes a c done next
spares_changes a b c done next s up then = record {
  clean = omega (arith, s.clean, up);
  at = λ w. record {
    world = λ stands clean. (then w clean stands).world (s.stays w stands) clean;
    left = λ clean stands only.
        (then w clean stands).left clean (s.stays w stands)
        (λ db may. only db (s.left (was_clean b c up clean) w stands db may));
    alone = λ done clean stands. (then w clean stands).alone done clean (s.stays w stands);
    failed = λ unfinished clean stands.
        no_more a b c w (next w) s up clean stands ((then w clean stands).failed unfinished clean (s.stays w stands));
  };
}

pub spares_at : (a b c : State) (done : Bool) (w next : World) → Spares a b → doubt b.is_clean ≤ doubt c.is_clean
    → ChangesAt b c done w next → ChangesAt a c done w next
spares_at a b c done w next s up then = record {
  world = λ stands. then.world (s.stays w stands);
  left = λ clean stands only.
      then.left clean (s.stays w stands) (λ db may. only db (s.left (was_clean b c up clean) w stands db may));
  alone = λ done clean stands. then.alone done clean (s.stays w stands);
  failed = λ unfinished clean stands.
      no_more a b c w next s up clean stands (then.failed unfinished clean (s.stays w stands));
}

pub not_ok : {A E : Type 0} (r : Result A E) → IsErr r → is_ok r ≡ false
not_ok (Ok x) h = absurd (true≢false (sym h))
not_ok (Err e) h = refl

pub on_weaker : {A E : Type 0} {P Q : Type 0} (r : Result A E) → (P → Q) → OnOk r P → OnOk r Q
on_weaker (Ok x) then h = then h
on_weaker (Err e) then h = tt

pub when_ok : {A E : Type 0} {P : Type 0} (r : Result A E) → IsTrue (is_ok r) → OnOk r P → P
when_ok (Ok x) done h = h
when_ok (Err e) done h = absurd (true≢false (sym done))

pub weaker : {A E : Type 0} {P Q : A → Type 0} (r : Result A E) → ((x : A) → P x → Q x) → IfOk r P → IfOk r Q
weaker (Ok x) then h = then x h
weaker (Err e) then h = tt
