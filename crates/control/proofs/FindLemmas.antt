-- The lines of the reserve, and what was found of it, one after another.
use Rattle.std.proofs.Common.{◌≡◌, ◌∙◌, ◌+◌, ℕ, List, [], ◌∷◌, ◌++◌, Option, ap, refl, subst, sym, append_assoc, append-nil}
use Rattle.std.proofs.Common.{arith}
use Rattle.histories.specs.Calls.{Writes}
use Rattle.control.specs.Finds.{AreOfMoments, Did, ForPeer, Looked, Moment, TellsEachFind, WritesAndDoes, Wrote}
use Rattle.control.specs.Finds.{deeds_in, dids, lines_in, wrotes}
use Rattle.control.specs.Noted.{AreOfRoom, LooksOnce, LooksUnlessWhole}
use Rattle.control.specs.Notices.{WritesLines}
use Rattle.control.specs.Reserve.{DiskDeed, DoesMore, Lent, Renewed}
use Rattle.control.specs.declared.reserve.Room.{Room}
use Rattle.control.proofs.NoticeLemmas.{none_written, written_so, written_then}

-- ---- what was written and done

-- lines and deeds that are so, where so much was found before, and so much last
abbrev Are : Type 1
Are = Room → Room → List (List ℕ) → List DiskDeed → Type 0

-- this, and then that
pub does_then : (one two both : Are) (e f g : Option (List ℕ) × Writes) (a b c : Lent)
    → ((xs ys : List (List ℕ)) (ds es : List DiskDeed) → one a.1 b.1 xs ds → two b.1 c.1 ys es
    → both a.1 c.1 (xs ++ ys) (ds ++ es))
    → WritesAndDoes one e f a b → WritesAndDoes two f g b c → WritesAndDoes both e g a c
does_then one two both e f g a b c so (same, ds, is, wrote) (same_then, es, is_then, wrote_then) = (
  same_then ∙ same,
  ds ++ es,
  is_then ∙ ap (λ l. l ++ es) is ∙ append_assoc a.0 ds es,
  written_then (λ xs. one a.1 b.1 xs ds) (λ ys. two b.1 c.1 ys es) (λ zs. both a.1 c.1 zs (ds ++ es)) e f g
      (λ xs ys x y. so xs ys ds es x y) wrote wrote_then,
)

-- so it is of each of these lines and deeds
pub does_so : (one both : Are) (e f : Option (List ℕ) × Writes) (a b : Lent)
    → ((xs : List (List ℕ)) (ds : List DiskDeed) → one a.1 b.1 xs ds → both a.1 b.1 xs ds) → WritesAndDoes one e f a b
    → WritesAndDoes both e f a b
does_so one both e f a b so (same, ds, is, wrote) =
    (same, ds, is, written_so (λ xs. one a.1 b.1 xs ds) (λ xs. both a.1 b.1 xs ds) e f (λ xs x. so xs ds x) wrote)

-- nothing was done or written
pub does_none : (are : Are) (e : Option (List ℕ) × Writes) (a : Lent) → are a.1 a.1 [] [] → WritesAndDoes are e e a a
does_none are e a none = (refl, [], sym (append-nil a.0), none_written (λ xs. are a.1 a.1 xs []) e none)

-- lines were written before
pub does_after : (one : List (List ℕ) → Type 0) (two both : Are) (e f g : Option (List ℕ) × Writes) (a b : Lent)
    → ((xs ys : List (List ℕ)) (ds : List DiskDeed) → one xs → two a.1 b.1 ys ds → both a.1 b.1 (xs ++ ys) ds)
    → WritesLines one e f → WritesAndDoes two f g a b → WritesAndDoes both e g a b
does_after one two both e f g a b so before (same, ds, is, wrote) = (
  same,
  ds,
  is,
  written_then one (λ ys. two a.1 b.1 ys ds) (λ zs. both a.1 b.1 zs ds) e f g (λ xs ys x y. so xs ys ds x y) before wrote,
)

-- lines were written afterwards
pub does_before : (one : Are) (two : List (List ℕ) → Type 0) (both : Are) (e f g : Option (List ℕ) × Writes) (a b : Lent)
    → ((xs ys : List (List ℕ)) (ds : List DiskDeed) → one a.1 b.1 xs ds → two ys → both a.1 b.1 (xs ++ ys) ds)
    → WritesAndDoes one e f a b → WritesLines two f g → WritesAndDoes both e g a b
does_before one two both e f g a b so (same, ds, is, wrote) behind = (
  same,
  ds,
  is,
  written_then (λ xs. one a.1 b.1 xs ds) two (λ zs. both a.1 b.1 zs ds) e f g (λ xs ys x y. so xs ys ds x y) wrote behind,
)

-- an order was carried out before
pub does_behind : (one : List DiskDeed → Type 0) (two both : Are) (e f : Option (List ℕ) × Writes) (a b c : Lent)
    → ((xs : List (List ℕ)) (ds es : List DiskDeed) → one ds → two a.1 c.1 xs es → both a.1 c.1 xs (ds ++ es))
    → DoesMore one a b → WritesAndDoes two e f b c → WritesAndDoes both e f a c
does_behind one two both e f a b c so (same, found, ds, is, done) (same_then, es, is_then, wrote) = (
  same_then ∙ same,
  ds ++ es,
  is_then ∙ ap (λ l. l ++ es) is ∙ append_assoc a.0 ds es,
  written_so (λ xs. two b.1 c.1 xs es) (λ xs. both a.1 c.1 xs (ds ++ es)) e f
      (λ xs x. so xs ds es done (subst (λ r. two r c.1 xs es) found x)) wrote,
)

-- the reserve was looked for, and lines were written of what was found
pub looks_so : (e f : Option (List ℕ) × Writes) (a b : Lent) → b.2 ≡ a.2 → b.0 ≡ a.0 ++ Renewed b.1 ∷ []
    → WritesLines (AreOfRoom a.1 b.1) e f → WritesAndDoes LooksOnce e f a b
looks_so e f a b same is wrote = (
  same,
  Renewed b.1 ∷ [],
  is,
  written_so (AreOfRoom a.1 b.1) (λ xs. LooksOnce a.1 b.1 xs (Renewed b.1 ∷ [])) e f (λ xs are. (are, refl)) wrote,
)

-- ---- what was found

lines_both : (ms ns : List Moment) → lines_in (ms ++ ns) ≡ lines_in ms ++ lines_in ns
lines_both [] ns = refl
lines_both (Looked found lines ∷ ms) ns =
    ap (λ l. lines ++ l) (lines_both ms ns) ∙ sym (append_assoc lines (lines_in ms) (lines_in ns))
lines_both (ForPeer found lines deeds ∷ ms) ns =
    ap (λ l. lines ++ l) (lines_both ms ns) ∙ sym (append_assoc lines (lines_in ms) (lines_in ns))
lines_both (Did deed ∷ ms) ns = lines_both ms ns
lines_both (Wrote line ∷ ms) ns = ap (λ l. line ∷ l) (lines_both ms ns)

deeds_both : (ms ns : List Moment) → deeds_in (ms ++ ns) ≡ deeds_in ms ++ deeds_in ns
deeds_both [] ns = refl
deeds_both (Looked found lines ∷ ms) ns = ap (λ l. Renewed found ∷ l) (deeds_both ms ns)
deeds_both (ForPeer found lines deeds ∷ ms) ns =
    ap (λ l. deeds ++ l) (deeds_both ms ns) ∙ sym (append_assoc deeds (deeds_in ms) (deeds_in ns))
deeds_both (Did deed ∷ ms) ns = ap (λ l. deed ∷ l) (deeds_both ms ns)
deeds_both (Wrote line ∷ ms) ns = deeds_both ms ns

tells_both : (a b c : Room) (ms ns : List Moment) → TellsEachFind a b ms → TellsEachFind b c ns
    → TellsEachFind a c (ms ++ ns)
tells_both a b c [] ns one two = subst (λ r. TellsEachFind r c ns) one two
tells_both a b c (Looked found lines ∷ ms) ns one two = (one.0, tells_both found b c ms ns one.1 two)
tells_both a b c (ForPeer found lines deeds ∷ ms) ns one two = (one.0, tells_both found b c ms ns one.1 two)
tells_both a b c (Did deed ∷ ms) ns one two = tells_both a b c ms ns one two
tells_both a b c (Wrote line ∷ ms) ns one two = tells_both a b c ms ns one two

-- this, and then that
pub moments_then : (ms ns : List Moment) (a b c : Room) (xs ys : List (List ℕ)) (ds es : List DiskDeed)
    → AreOfMoments ms a b xs ds → AreOfMoments ns b c ys es → AreOfMoments (ms ++ ns) a c (xs ++ ys) (ds ++ es)
moments_then ms ns a b c xs ys ds es one two = record {
  are_lines = ap (λ l. l ++ ys) one.are_lines ∙ ap (λ l. lines_in ms ++ l) two.are_lines ∙ sym (lines_both ms ns);
  are_deeds = ap (λ l. l ++ es) one.are_deeds ∙ ap (λ l. deeds_in ms ++ l) two.are_deeds ∙ sym (deeds_both ms ns);
  tells = tells_both a b c ms ns one.tells two.tells;
}

-- nothing
pub no_moments : (a : Room) → AreOfMoments [] a a [] []
no_moments a = record { are_lines = refl; are_deeds = refl; tells = refl }

-- the reserve was looked for
pub looked_once : (a b : Room) (lines : List (List ℕ)) (deeds : List DiskDeed) → LooksOnce a b lines deeds
    → AreOfMoments (Looked b lines ∷ []) a b lines deeds
looked_once a b lines deeds (are, is) =
    record { are_lines = sym (append-nil lines); are_deeds = is; tells = (are, refl) }

-- so it was before a peer, unless all of it was there
pub looked_for_peer : (a b : Room) (lines : List (List ℕ)) (deeds : List DiskDeed) → LooksUnlessWhole a b lines deeds
    → AreOfMoments (ForPeer b lines deeds ∷ []) a b lines deeds
looked_for_peer a b lines deeds looks =
    record { are_lines = sym (append-nil lines); are_deeds = sym (append-nil deeds); tells = (looks, refl) }

-- lines of something else were written
pub only_lines : (a : Room) (lines : List (List ℕ)) → AreOfMoments (wrotes lines) a a lines []
only_lines a [] = record { are_lines = refl; are_deeds = refl; tells = refl }
only_lines a (line ∷ lines) =
    let more = only_lines a lines in
    record { are_lines = ap (λ l. line ∷ l) more.are_lines; are_deeds = more.are_deeds; tells = more.tells }

-- something else was done
pub only_deeds : (a : Room) (deeds : List DiskDeed) → AreOfMoments (dids deeds) a a [] deeds
only_deeds a [] = record { are_lines = refl; are_deeds = refl; tells = refl }
only_deeds a (deed ∷ deeds) =
    let more = only_deeds a deeds in
    record { are_lines = more.are_lines; are_deeds = ap (λ l. deed ∷ l) more.are_deeds; tells = more.tells }
