-- Rows of some shelves that are put into a fresh store, and calls that spare it.
use Rattle.std.proofs.Common.{◌≡◌, ◌≤◌, ℕ, List, [], ◌∷◌, ◌++◌, Bool, true, false, IsTrue, Option, Result, Ok, Err}
use Rattle.std.proofs.Common.{IsErr, is_ok, inl, inr, refl, sym, subst, arith, true≢false}
use Rattle.sqlite_trees.specs.View.{doubt}
use Rattle.sqlite.specs.State.{State, HasCleanDisk}
use Rattle.sqlite.specs.Tree.{Trees}
use Rattle.world.specs.World.{World, IsWorld, common, only_common}
use Rattle.tables.specs.Means.{Stands}
use Rattle.tables.proofs.FailureLemmas.{was_clean}
use Rattle.std.specs.Prelude.{OnOk}
use Rattle.statements.specs.Calls.{Spares, ChangesAt}
use Rattle.statements.specs.Rows.{Filling, GoesOn, Writing}
use Rattle.statements.specs.Extract.{IsReady, Copies, PutsShelf, Along}
use Rattle.statements.proofs.ChangeLemmas.{when_ok}
use Rattle.statements.proofs.ExtractLemmas.{copies_none}
use Rattle.statements.proofs.GoingLemmas.{goes_on_itself, goes_on_then}
use Rattle.statements.specs.Shelves.{names_of, AreShelves, AreAllShelves}
use Rattle.statements.specs.declared.shelf_list.Shelf.{Shelf}
use Rattle.statements.proofs.RowLemmas.{filling_of, writing_of}
use Rattle.setup.specs.Parts.{part_of, registry_of, Puts, PutsShelves, MakesPart, MakesRegistry, is_written}
use Rattle.setup.specs.declared.judge.Judged.{Judged}
use Rattle.statements.specs.declared.extract_rows.CopyError.{CopyError}

-- a store is spared by a first call that spares it, and a second that spares it if its tables stood for a world
pub spares_when : (a b c : State) → Spares a b → doubt b.is_clean ≤ doubt c.is_clean
    → ((w : World) → Stands a w → Spares b c) → Spares a c
spares_when a b c p up then = record {
  clean = let one = p.clean in omega (arith, one, up);
  stays = λ w stands. (then w stands).stays w (p.stays w stands);
  left = λ clean w stands db may.
      p.left (was_clean b c up clean) w stands db ((then w stands).left clean w (p.stays w stands) db may);
}

pub when_done : {A E : Type 0} {P : Type 0} (r : Result A E) → (IsTrue (is_ok r) → P) → OnOk r P
when_done (Ok x) then = then refl
when_done (Err e) then = tt

pub not_written : (r : Result Judged CopyError) → IsErr r → is_written r ≡ false
not_written (Ok x) h = absurd (true≢false (sym h))
not_written (Err e) h = refl

-- a call that spares the store is a change that was not done
pub spared_at : (a b : State) (x next : World) → Spares a b → ChangesAt a b false x next
spared_at a b x next spares = record {
  world = spares.stays x;
  left = λ clean stands only db may. let it = only db (spares.left clean x stands db may) in (it.0, it.1, inl it.2);
  alone = λ done. absurd (true≢false (sym done));
  failed = λ _ clean stands. inr (spares.left clean x stands);
}

-- ---- shelves that are put in

pub puts_if : {A E : Type 0} (r : Result A E) (name : List ℕ) (parent : Option (List ℕ)) (a b : State)
    → GoesOn a b (is_ok r)
    → (HasCleanDisk b → Filling a → OnOk r (PutsShelf name parent a.now.trees b.now.trees × Filling b))
    → Puts (PutsShelf name parent) a b (is_ok r)
puts_if r name parent a b goes puts =
    record { goes_on = goes; makes = λ clean filling done. when_ok r done (puts clean filling) }

pub puts_none : (a : State) → Puts (PutsShelves []) a a true
puts_none a = record { goes_on = goes_on_itself a; makes = λ _ filling _. (refl, filling) }

puts_more : (shelves : List Shelf) (s : Shelf) (db mid after : Trees) → PutsShelves shelves db mid
    → PutsShelf s.name s.parent mid after → PutsShelves (shelves ++ s ∷ []) db after
puts_more [] s db mid after same put = (after, subst (λ t. PutsShelf s.name s.parent t after) (sym same) put, refl)
puts_more (t ∷ shelves) s db mid after puts put = (puts.0, puts.1, puts_more shelves s puts.0 mid after puts.2 put)

pub puts_then : (shelves : List Shelf) (s : Shelf) (a b c : State) → Puts (PutsShelves shelves) a b true
    → Puts (PutsShelf s.name s.parent) b c true → Puts (PutsShelves (shelves ++ s ∷ [])) a c true
puts_then shelves s a b c p q = record {
  goes_on = goes_on_then a b c true p.goes_on q.goes_on;
  makes = λ clean filling all.
      let one = p.makes (was_clean b c q.goes_on.survives.clean clean) filling refl in
      let two = q.makes clean one.1 all in
      (puts_more shelves s a.now.trees b.now.trees c.now.trees one.0 two.0, two.1);
}

-- a second put that failed is a put of anything, because `makes` speaks only of those that were done
pub puts_failed : {A E : Type 0} (r : Result A E) (P Q : Trees → Trees → Type 0) (R : Trees → Trees → Type 0)
    (a b c : State) → IsErr r → Puts P a b true → Puts Q b c false → Puts R a c (is_ok r)
puts_failed (Ok x) P Q R a b c failed p q = absurd (true≢false (sym failed))
puts_failed (Err e) P Q R a b c failed p q =
    record { goes_on = goes_on_then a b c false p.goes_on q.goes_on; makes = λ _ _ all. absurd (true≢false (sym all)) }

-- rows that are put in without the source are a copy that leaves the source as it is
pub puts_copied : (P : Trees → Trees → Type 0) (s a b : State) (done : Bool) → Puts P a b done
    → Copies (λ _. P) s s a b done
puts_copied P s a b done p = record {
  clean = omega arith;
  reads = λ ready. let read = (copies_none s a).reads ready in
      record { left = read.left; outcome = read.outcome; same = λ clean _. read.same clean refl };
  goes_on = p.goes_on;
  makes = λ clean good ready w means filling all. p.makes good filling all;
}

-- P for one element is P along the list of it alone
pub along_one : {E X : Type 0} (P : E → X → X → X → Type 0) (e : E) (w x z : X) → P e w x z → Along P (e ∷ []) w x z
along_one P e w x z it = (z, it, refl)

-- inside the transaction, the fresh tables come to stand for the part of w with these shelves and `common`
pub part_written : (s t a b : State) (done : Bool) (w : World) (shelves : List Shelf)
    → Copies (MakesPart shelves) s t a b done → IsReady s → HasCleanDisk t → HasCleanDisk b → Stands s w → IsWorld w
    → AreShelves w shelves → IsTrue done → Writing a only_common → Writing b (part_of w (common ∷ names_of shelves))
part_written s t a b done w shelves fills ready clean good stands is are all writing =
    let was = was_clean s t fills.clean clean in
    let means = (stands was (ready was).0).trees.means in
    let it = fills.makes clean good ready w means (filling_of a only_common writing) all in
    writing_of b (part_of w (common ∷ names_of shelves)) it.1 (it.0 w means is are writing.trees)

-- inside the transaction, the fresh tables come to stand for w without its entries
pub registry_written : (s t a b : State) (done : Bool) (w : World) (shelves : List Shelf)
    → Copies (MakesRegistry shelves) s t a b done → IsReady s → HasCleanDisk t → HasCleanDisk b → Stands s w → IsWorld w
    → AreAllShelves w shelves → IsTrue done → Writing a only_common → Writing b (registry_of w)
registry_written s t a b done w shelves fills ready clean good stands is all whole writing =
    let was = was_clean s t fills.clean clean in
    let means = (stands was (ready was).0).trees.means in
    let it = fills.makes clean good ready w means (filling_of a only_common writing) whole in
    writing_of b (registry_of w) it.1 (it.0 w means is all writing.trees).means
