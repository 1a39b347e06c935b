use Rattle.std.proofs.Common.{Ok, Err, true, map}
use Rattle.sqlite.specs.Held.{state}
use Rattle.sqlite.specs.State.{State}
use Rattle.sqlite.specs.Tree.{Trees}
use Rattle.tables.specs.Walks.{Tests}
use Rattle.tables.specs.Fit.{shelf_shown, IsMetaFit, AreShelvesFit, AreKeysFit, AreNumbersFit, AreEntriesFit}
use Rattle.tables.specs.Fit.{ArePiecesFit, AreFit, meta_shown, name_shown, number_shown, entry_shown, piece_shown}
use Rattle.tables.proofs.WalkLemmas.{tests_same, then_tests}
use Rattle.tables.proofs.WalkCauses.{then_reason, error_says}
use Rattle.tables.proofs.fit.are_fit.Goals as goal

abbrev Named : Trees → Type 0
Named db = IsMetaFit (map meta_shown (db 0))

abbrev Shelved : Trees → Type 0
Shelved db = AreShelvesFit (map shelf_shown (db 2))

abbrev Keyed : Trees → Type 0
Keyed db = AreKeysFit (map name_shown (db 4))

abbrev Numbered : Trees → Type 0
Numbered db = AreNumbersFit (map number_shown (db 4))

abbrev Filled : Trees → Type 0
Filled db = AreEntriesFit (map entry_shown (db 6))

abbrev Pieced : Trees → Type 0
Pieced db = ArePiecesFit (map piece_shown (db 8))

abbrev TwoFit : Trees → Type 0
TwoFit db = Named db × Shelved db

abbrev ThreeFit : Trees → Type 0
ThreeFit db = TwoFit db × Keyed db

abbrev FourFit : Trees → Type 0
FourFit db = ThreeFit db × Numbered db

abbrev FiveFit : Trees → Type 0
FiveFit db = FourFit db × Filled db

module _ {a b c : State} (named : Tests a b (Ok true) Named) (shelved : Tests b c (Ok true) Shelved) where
  two : Tests a c (Ok true) TwoFit
  two = then_tests a b c (Ok true) Named Shelved named shelved

  module _ {d : State} (keyed : Tests c d (Ok true) Keyed) where
    three : Tests a d (Ok true) ThreeFit
    three = then_tests a c d (Ok true) TwoFit Keyed two keyed

    module _ {e : State} (numbered : Tests d e (Ok true) Numbered) where
      four : Tests a e (Ok true) FourFit
      four = then_tests a d e (Ok true) ThreeFit Numbered three numbered

      five : {f : State} → Tests e f (Ok true) Filled → Tests a f (Ok true) FiveFit
      five {f} filled = then_tests a e f (Ok true) FourFit Filled four filled

pub returns-clause-tests : goal.returns-clause-tests
returns-clause-tests g c =
    let named = rw c.if-not-branch.false at c.in_ok-is_meta_fit.ensures.tests in
    let shelved = rw c.if-not-branch-2.false at c.in_ok-are_shelves_fit.ensures.tests in
    let keyed = rw c.if-not-branch-3.false at c.in_ok-are_keys_fit.ensures.tests in
    let numbered = rw c.if-not-branch-4.false at c.in_ok-are_numbers_fit.ensures.tests in
    let filled = rw c.if-not-branch-5.false at c.in_ok-are_entries_fit.ensures.tests in
    tests_same _ _ c.are_pieces_fit.result (λ db. FiveFit db × Pieced db) AreFit
    (λ db it. record {
      named = it.0.0.0.0.0;
      shelves = it.0.0.0.0.1;
      access = it.0.0.0.1;
      numbers = it.0.0.1;
      entries =
          it.0.1;
      pieces = it.1;
    })
    (λ db fit. (((((fit.named, fit.shelves), fit.access), fit.numbers), fit.entries), fit.pieces))
    (then_tests _ _ _ c.are_pieces_fit.result FiveFit Pieced (five named shelved keyed numbered filled)
    c.are_pieces_fit.ensures.tests)

pub returns-in_err-are_shelves_fit-clause-cause : goal.returns-in_err-are_shelves_fit-clause-cause
returns-in_err-are_shelves_fit-clause-cause g c clean has =
    let named = rw c.if-not-branch.false at c.in_ok-is_meta_fit.ensures.tests in
    error_says _ c.from_residual-in_err-are_shelves_fit.result c.in_err-are_shelves_fit.field-0.0
    c.from_residual-in_err-are_shelves_fit.ensures.1
    (then_reason _ _ (state g.S.Store c.are_shelves_fit.new.conn) Named named
    c.are_shelves_fit.ensures.tests.looks.clean clean has (Err _) c.in_err-are_shelves_fit.ensures.cause)

pub returns-in_err-are_keys_fit-clause-cause : goal.returns-in_err-are_keys_fit-clause-cause
returns-in_err-are_keys_fit-clause-cause g c clean has =
    let named = rw c.if-not-branch.false at c.in_ok-is_meta_fit.ensures.tests in
    let shelved = rw c.if-not-branch-2.false at c.in_ok-are_shelves_fit.ensures.tests in
    error_says _ c.from_residual-in_err-are_keys_fit.result c.in_err-are_keys_fit.field-0.0
    c.from_residual-in_err-are_keys_fit.ensures.1
    (then_reason _ _ (state g.S.Store c.are_keys_fit.new.conn) TwoFit (two named shelved)
    c.are_keys_fit.ensures.tests.looks.clean clean has (Err _) c.in_err-are_keys_fit.ensures.cause)

pub returns-in_err-are_numbers_fit-clause-cause : goal.returns-in_err-are_numbers_fit-clause-cause
returns-in_err-are_numbers_fit-clause-cause g c clean has =
    let named = rw c.if-not-branch.false at c.in_ok-is_meta_fit.ensures.tests in
    let shelved = rw c.if-not-branch-2.false at c.in_ok-are_shelves_fit.ensures.tests in
    let keyed = rw c.if-not-branch-3.false at c.in_ok-are_keys_fit.ensures.tests in
    error_says _ c.from_residual-in_err-are_numbers_fit.result c.in_err-are_numbers_fit.field-0.0
    c.from_residual-in_err-are_numbers_fit.ensures.1
    (then_reason _ _ (state g.S.Store c.are_numbers_fit.new.conn) ThreeFit (three named shelved keyed)
    c.are_numbers_fit.ensures.tests.looks.clean clean has (Err _) c.in_err-are_numbers_fit.ensures.cause)

pub returns-in_err-are_entries_fit-clause-cause : goal.returns-in_err-are_entries_fit-clause-cause
returns-in_err-are_entries_fit-clause-cause g c clean has =
    let named = rw c.if-not-branch.false at c.in_ok-is_meta_fit.ensures.tests in
    let shelved = rw c.if-not-branch-2.false at c.in_ok-are_shelves_fit.ensures.tests in
    let keyed = rw c.if-not-branch-3.false at c.in_ok-are_keys_fit.ensures.tests in
    let numbered = rw c.if-not-branch-4.false at c.in_ok-are_numbers_fit.ensures.tests in
    error_says _ c.from_residual-in_err-are_entries_fit.result c.in_err-are_entries_fit.field-0.0
    c.from_residual-in_err-are_entries_fit.ensures.1
    (then_reason _ _ (state g.S.Store c.are_entries_fit.new.conn) FourFit (four named shelved keyed numbered)
    c.are_entries_fit.ensures.tests.looks.clean clean has (Err _) c.in_err-are_entries_fit.ensures.cause)

pub returns-clause-cause : goal.returns-clause-cause
returns-clause-cause g c clean has =
    let named = rw c.if-not-branch.false at c.in_ok-is_meta_fit.ensures.tests in
    let shelved = rw c.if-not-branch-2.false at c.in_ok-are_shelves_fit.ensures.tests in
    let keyed = rw c.if-not-branch-3.false at c.in_ok-are_keys_fit.ensures.tests in
    let numbered = rw c.if-not-branch-4.false at c.in_ok-are_numbers_fit.ensures.tests in
    let filled = rw c.if-not-branch-5.false at c.in_ok-are_entries_fit.ensures.tests in
    then_reason _ _ (state g.S.Store c.are_pieces_fit.new.conn) FiveFit (five named shelved keyed numbered filled)
    c.are_pieces_fit.ensures.tests.looks.clean clean has c.are_pieces_fit.result c.are_pieces_fit.ensures.cause
