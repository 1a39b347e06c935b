-- Places one after another, and how many of a path on a shelf come in a run.
use Rattle.std.proofs.Common.{◌≡◌, ◌≤◌, ◌+◌, ◌++◌, ◌⊎◌, ℕ, Bool, true, false, cond, List, [], ◌∷◌, length, filter}
use Rattle.std.proofs.Common.{Option, Some, None, inl}
use Rattle.std.proofs.Common.{inr, refl, sym, ap, subst, subst₂, ◌∙◌, arith, true≢false, append_assoc, append-nil, Less}
use Rattle.std.proofs.Common.{Equal, Greater}
use Rattle.std.specs.Ordering.{is_lt, is_gt, ordering_then, ordering_reverse}
use Rattle.std.specs.declared.cmp.Ordering.{Ordering}
use Rattle.std.specs.Cmp.{IsTotalOrder, tied_itself, alike_right}
use Rattle.std.proofs.lemmas.Bool.{cases_Bool, and_parts}
use Rattle.std.proofs.lemmas.Cmp.{on_total, then_total}
use Rattle.sqlite.specs.Order.{Row}
use Rattle.sqlite_trees.specs.Tree.{IsAscending}
use Rattle.sqlite_rules.specs.Lists.{Has}
use Rattle.sqlite_trees.proofs.ListLemmas.{filter_none}
use Rattle.sqlite_rules.proofs.ListLemmas.{has_either, has_right, all_from}
use Rattle.world.specs.declared.entry.Place.{Place}
use Rattle.world.specs.World.{text_cmp, place_cmp, version_limit}
use Rattle.world.proofs.Orders.{texts_total, texts_exact, text_self, text_same}
use Rattle.tables.specs.Walks.{Pass, MayFollow, run_with}
use Rattle.tables.specs.Fit.{place_in, is_on}
use Rattle.tables.proofs.Ascending.{Adjacent, Steps, across, filter_push}

-- ---- one after another

-- what is noted of the rows so far is the key of the last one, and no row has that key
module _ {X K : Type 0} (Fits : X → Row → Type 0) (Keeps : X → Row → X → Type 0) (last : X → Option K)
    (key : Row → K) (noted : (x : X) (row : Row) (next : X) → Keeps x row next → last next ≡ Some (key row)) where
  module _ (P : K → K → Type 0) (follows : (x : X) (row : Row) (k : K) → Fits x row → last x ≡ Some k → P k (key row))
    where
      steps_follow : (x : X) (r : Row) (rows : List Row) (end : X) → last x ≡ Some (key r) → Pass Fits Keeps x rows end
          → Steps (λ a b. P (key a) (key b)) r rows
      steps_follow x r [] end is passed = tt
      steps_follow x r (y ∷ rows) end is passed =
          (follows x y (key r) passed.0 is, steps_follow passed.1 y rows end (noted x y passed.1 passed.2) passed.3)

      pub adjacent_follow : (x : X) (rows : List Row) (end : X) → Pass Fits Keeps x rows end
          → Adjacent (λ a b. P (key a) (key b)) rows
      adjacent_follow x [] end passed = tt
      adjacent_follow x (r ∷ rows) end passed = steps_follow passed.1 r rows end (noted x r passed.1 passed.2) passed.3

  pub adjacent_apart : ((x : X) (row : Row) → Fits x row → last x ≡ Some (key row) → ⊥)
      → (x : X) (rows : List Row) (end : X) → Pass Fits Keeps x rows end → Adjacent (λ a b. key a ≡ key b → ⊥) rows
  adjacent_apart apart = adjacent_follow (λ k l. k ≡ l → ⊥)
      (λ x row k fits is same. apart x row fits (is ∙ ap Some same))

  -- a row fits after the one before it, or it is the first
  pub pass_at : (x : X) (rows : List Row) (end : X) → Pass Fits Keeps x rows end → (row : Row) → Has rows row
      → (so_far : X) × Fits so_far row × ((so_far ≡ x) ⊎ ((r : Row) × Has rows r × (last so_far ≡ Some (key r))))
  pass_at x [] end passed row there = absurd there
  pass_at x (r ∷ rows) end passed row (inl same) = (x, subst (Fits x) (sym same) passed.0, inl refl)
  pass_at x (r ∷ rows) end passed row (inr later) =
      let it = pass_at passed.1 rows end passed.3 row later in
      let from : (it.0 ≡ x) ⊎ ((b : Row) × Has (r ∷ rows) b × (last it.0 ≡ Some (key b))) = elim it.2 [
        | inl first ↦ inr (r, inl refl, ap last first ∙ noted x r passed.1 passed.2)
        | inr before ↦ inr (before.0, inr before.1, before.2)
      ] in
      (it.0, it.1, from)

  -- what is noted in the end is that of the last row, if there is one
  pub last_row : (x : X) (rows : List Row) (end : X) → Pass Fits Keeps x rows end
      → ((rows ≡ []) × (end ≡ x))
      ⊎ ((front : List Row) × (r : Row) × (rows ≡ front ++ r ∷ []) × (last end ≡ Some (key r)))
  last_row x [] end passed = inl (refl, passed)
  last_row x (r ∷ rows) end passed = elim (last_row passed.1 rows end passed.3) [
    | inl none ↦ inr ([], r, ap (λ l. r ∷ l) none.0, ap last none.1 ∙ noted x r passed.1 passed.2)
    | inr more ↦ inr (r ∷ more.0, more.1, ap (λ l. r ∷ l) more.2, more.3)
  ]

  -- the last key is that of one of the rows
  pub last_of : (x : X) (rows : List Row) (end : X) → Pass Fits Keeps x rows end → (k : K) → last end ≡ Some k
      → (last x ≡ Some k) ⊎ ((r : Row) × Has rows r × (key r ≡ k))
  last_of x [] end passed k is = inl (ap last (sym passed) ∙ is)
  last_of x (r ∷ rows) end passed k is = elim (last_of passed.1 rows end passed.3 k is) [
    | inl here ↦ (let e : ◌≡◌ {A = Option K} (Some (key r)) (Some k) = sym (noted x r passed.1 passed.2)
        ∙ here in let same : key r ≡ k = cc in inr (r, inl refl, same))
    | inr later ↦ inr (later.0, inr later.1, later.2)
  ]

-- ---- runs

abbrev pub many_on : List ℕ → List ℕ → List Row → ℕ
many_on s p rows = length (filter (λ row. is_on s p (place_in row)) rows)

pub is_on_itself : (q : Place) → is_on q.shelf q.path q ≡ true
is_on_itself q = rw (text_self q.shelf, text_self q.path) refl

same_path : (s p : List ℕ) (q : Place) → is_on s p q ≡ true → (q.shelf ≡ s) × (q.path ≡ p)
same_path s p q h = let sides = and_parts _ _ h in (text_same q.shelf s sides.0, text_same q.path p sides.1)

many_same : (s p : List ℕ) (q : Place) (rows : List Row) → is_on s p q ≡ true
    → many_on q.shelf q.path rows ≡ many_on s p rows
many_same s p q rows h =
    let it = same_path s p q h in
    let one = it.0 in
    let two = it.1 in
    λ i. many_on (one i) (two i) rows

pub push_on : (s p : List ℕ) (rows : List Row) (row : Row) → is_on s p (place_in row) ≡ true
    → many_on s p (rows ++ row ∷ []) ≡ many_on s p rows + 1
push_on s p rows row h = filter_push (λ r. is_on s p (place_in r)) rows row ∙ ap (λ b. many_on s p rows + cond b 1 0) h

push_off : (s p : List ℕ) (rows : List Row) (row : Row) → is_on s p (place_in row) ≡ false
    → many_on s p (rows ++ row ∷ []) ≡ many_on s p rows
push_off s p rows row h = let e = filter_push (λ r. is_on s p (place_in r)) rows row
    ∙ ap (λ b. many_on s p rows + cond b 1 0) h in omega (arith, e)

pub many_more : (s p : List ℕ) (rows more : List Row) → many_on s p rows ≤ many_on s p (rows ++ more)
many_more s p [] more = omega arith
many_more s p (r ∷ rows) more = go (is_on s p (place_in r)) (many_more s p rows more)
  where
    go : (b : Bool) → many_on s p rows ≤ many_on s p (rows ++ more)
        → length (cond b (r ∷ filter (λ row. is_on s p (place_in row)) rows)
        (filter (λ row. is_on s p (place_in row)) rows))
        ≤ length (cond b (r ∷ filter (λ row. is_on s p (place_in row)) (rows ++ more))
        (filter (λ row. is_on s p (place_in row)) (rows ++ more)))
    go true h = omega (arith, h)
    go false h = h

one_at_least : (rows : List Row) (row : Row) → 1 ≤ many_on (place_in row).shelf (place_in row).path (rows ++ row ∷ [])
one_at_least rows row = let e =
    push_on (place_in row).shelf (place_in row).path rows row (is_on_itself (place_in row)) in omega (arith, e)

-- how many come with the last one, at most as many as there are
module _ {X : Type 0} (Fits : X → Row → Type 0) (Keeps : X → Row → X → Type 0) (last : X → Option Place) (many : X → ℕ)
    (noted : (x : X) (row : Row) (next : X) → Keeps x row next
    → (last next ≡ Some (place_in row)) × (many next ≡ run_with (last x) (many x) (place_in row))) where
  abbrev IsWithin : List Row → X → Type 0
  IsWithin done x = (p : Place) → last x ≡ Some p → many x ≤ many_on p.shelf p.path done

  -- with one more row, a walk still counts no more of a path on its shelf than have come
  within_more : (done : List Row) (x : X) (row : Row) (next : X) → IsWithin done x → Keeps x row next
      → IsWithin (done ++ row ∷ []) next
  within_more done x row next within keeps p is =
      let it = noted x row next keeps in
      let e : ◌≡◌ {A = Option Place} (Some p) (Some (place_in row)) = sym is ∙ it.0 in
      let same : p ≡ place_in row = cc in
      subst (λ (q : Place). many next ≤ many_on q.shelf q.path (done ++ row ∷ [])) (sym same) (go (last x) refl it.1)
    where
      go : (o : Option Place) → last x ≡ o → many next ≡ run_with o (many x) (place_in row)
          → many next ≤ many_on (place_in row).shelf (place_in row).path (done ++ row ∷ [])
      go None was is = let one = one_at_least done row in omega (arith, is, one)
      go (Some p) was is = elim (cases_Bool (is_on p.shelf p.path (place_in row))) [
        | inl on ↦ (
            let n : many next ≡ many x + 1 = is ∙ ap (λ b. cond b (many x + 1) 1) on in
            let same = many_same p.shelf p.path (place_in row) (done ++ row ∷ []) on in
            let more = push_on p.shelf p.path done row on in
            let few = within p was in
            omega (arith, n, same, more, few))
        | inr off ↦ (let n : many next ≡ 1 = is
            ∙ ap (λ b. cond b (many x + 1) 1) off in let one = one_at_least done row in omega (arith, n, one))
      ]

  pub run_within : (done : List Row) (x : X) (rows : List Row) (end : X) → IsWithin done x → Pass Fits Keeps x rows end
      → IsWithin (done ++ rows) end
  run_within done x [] end within passed =
      subst (λ l. IsWithin l end) (sym (append-nil done)) (subst (IsWithin done) (sym passed) within)
  run_within done x (r ∷ rows) end within passed =
      subst (λ l. IsWithin l end) (append_assoc done (r ∷ []) rows)
      (run_within (done ++ r ∷ []) passed.1 rows end (within_more done x r passed.1 within passed.2) passed.3)

-- ---- the order of paths

abbrev path_cmp : Place → Place → Ordering
path_cmp a b = ordering_then (text_cmp a.shelf b.shelf) (text_cmp a.path b.path)

paths_total : IsTotalOrder path_cmp
paths_total = then_total (on_total (λ (q : Place). q.shelf) texts_total) (on_total (λ (q : Place). q.path) texts_total)

upto_path : (a b : Place) → place_cmp a b ≡ Less → is_gt (path_cmp a b) ≡ false
upto_path a b h = go (text_cmp a.shelf b.shelf) (text_cmp a.path b.path) h
  where
    go : (s p : Ordering) → ordering_then s (ordering_then p (text_cmp a.version b.version)) ≡ Less
        → is_gt (ordering_then s p) ≡ false
    go Less p h = refl
    go Equal Less h = refl
    go Equal Equal h = refl
    go Equal Greater h = absurd (true≢false (ap is_gt h))
    go Greater p h = absurd (true≢false (ap is_gt h))

on_equal : (q y : Place) → is_on q.shelf q.path y ≡ true → path_cmp y q ≡ Equal
on_equal q y h = let it = same_path q.shelf q.path y h in
    rw (it.0, it.1, tied_itself texts_total q.shelf, tied_itself texts_total q.path) refl

equal_on : (p q : Place) → path_cmp p q ≡ Equal → is_on p.shelf p.path q ≡ true
equal_on p q h = go (text_cmp p.shelf q.shelf) (text_cmp p.path q.path) refl refl h
  where
    go : (s t : Ordering) → text_cmp p.shelf q.shelf ≡ s → text_cmp p.path q.path ≡ t → ordering_then s t ≡ Equal
        → is_on p.shelf p.path q ≡ true
    go Equal Equal one two h =
        rw (texts_exact p.shelf q.shelf one, texts_exact p.path q.path two, text_self q.shelf, text_self q.path) refl
    go Equal Less one two h = absurd (true≢false (ap is_lt h))
    go Equal Greater one two h = absurd (true≢false (ap is_gt h))
    go Less t one two h = absurd (true≢false (ap is_lt h))
    go Greater t one two h = absurd (true≢false (ap is_gt h))

-- what stands between two places of a path is of that path
between : (y p q : Place) → is_gt (path_cmp y p) ≡ false → place_cmp p q ≡ Less → path_cmp y q ≡ Equal
    → path_cmp p q ≡ Equal
between y p q low high same = go (path_cmp p q) refl
  where
    turned : (r : Ordering) → is_gt r ≡ false → is_lt (ordering_reverse r) ≡ false
    turned Less h = refl
    turned Equal h = refl
    turned Greater h = absurd (true≢false h)

    not_below : is_lt (path_cmp p q) ≡ false
    not_below = ap is_lt (sym (alike_right paths_total y q p same) ∙ paths_total.antisymm p y)
        ∙ turned (path_cmp y p) low

    go : (r : Ordering) → path_cmp p q ≡ r → path_cmp p q ≡ Equal
    go Equal is = is
    go Less is = absurd (true≢false (sym (ap is_lt is) ∙ not_below))
    go Greater is = absurd (true≢false (sym (ap is_gt is) ∙ upto_path p q high))

-- ---- where the places rise, a run is all of its path

none_on : (s p : List ℕ) (rows : List Row) → ((y : Row) → Has rows y → is_on s p (place_in y) ≡ false)
    → many_on s p rows ≡ 0
none_on s p rows none = ap length (filter_none (λ row. is_on s p (place_in row)) rows (all_from _ rows none))

record IsRun (done : List Row) (o : Option Place) (n : ℕ) : Type 0 where
  small : (s p : List ℕ) → many_on s p done ≤ version_limit
  run : (p : Place) → o ≡ Some p → many_on p.shelf p.path done ≤ n
  below : (p : Place) → o ≡ Some p → (y : Row) → Has done y → is_gt (path_cmp (place_in y) p) ≡ false
  last : (p : Place) → o ≡ Some p → (y : Row) × Has done y × (place_in y ≡ p)
  none : o ≡ None → done ≡ []

same_some : {p q : Place} → ◌≡◌ {A = Option Place} (Some p) (Some q) → q ≡ p
same_some e = cc

module _ (done : List Row) (row : Row) (up : (y : Row) → Has done y → place_cmp (place_in y) (place_in row) ≡ Less)
  where
    abbrev here : Place
    here = place_in row

    -- a row of its path stands next to it
    not_before : (p : Place) (n : ℕ) → IsRun done (Some p) n → is_on p.shelf p.path here ≡ false → (y : Row)
        → Has done y
        → (b : Bool) → is_on here.shelf here.path (place_in y) ≡ b → is_on here.shelf here.path (place_in y) ≡ false
    not_before p n is off y there false e = e
    not_before p n is off y there true e =
        let end = is.last p refl in
        let high : place_cmp p here ≡ Less = subst (λ q. place_cmp q here ≡ Less) end.2 (up end.0 end.1) in
        absurd (true≢false (sym (equal_on p here
        (between (place_in y) p here (is.below p refl y there) high (on_equal here (place_in y) e))) ∙ off))

    -- with this row, its path on its shelf has no more rows than the walk counts, and the walk counts no more than the
    -- limit
    all_here : (o : Option Place) (n : ℕ) → IsRun done o n → MayFollow o n here
        → (many_on here.shelf here.path (done ++ row ∷ []) ≤ run_with o n here) × (run_with o n here ≤ version_limit)
    all_here None n is may =
        let one = push_on here.shelf here.path done row (is_on_itself here) in
        let empty = ap (many_on here.shelf here.path) (is.none refl) in
        (omega (arith, one, empty), omega arith)
    all_here (Some p) n is may = elim (cases_Bool (is_on p.shelf p.path here)) [
      | inl on ↦ (
          let same = many_same p.shelf p.path here (done ++ row ∷ []) on in
          let more = push_on p.shelf p.path done row on in
          let few = is.run p refl in
          let room = may.1 on in
          rw on (omega (arith, same, more, few), omega (arith, room)))
      | inr off ↦ (
          let more = push_on here.shelf here.path done row (is_on_itself here) in
          let zero = none_on here.shelf here.path done
          (λ y there. not_before p n is off y there (is_on here.shelf here.path (place_in y)) refl) in
          rw off (omega (arith, more, zero), omega arith))
    ]

    -- with one more row at a higher place that may follow, the count of the walk is still that of all of its path on
    -- its
    -- shelf
    run_more : (o : Option Place) (n : ℕ) → IsRun done o n → MayFollow o n here
        → IsRun (done ++ row ∷ []) (Some here) (run_with o n here)
    run_more o n is may =
        let all = all_here o n is may in
        record {
          small = λ s p. elim (cases_Bool (is_on s p here)) [
            | inl on ↦ (let same = many_same s p here (done ++ row ∷ []) on in omega (arith, same, all.0, all.1))
            | inr off ↦ (let same = push_off s p done row off in let few = is.small s p in omega (arith, same, few))
          ];
          run = λ p e. subst (λ (q : Place). many_on q.shelf q.path (done ++ row ∷ []) ≤ run_with o n here)
              (sym (same_some e)) all.0;
          below = λ p e y there. subst (λ q. is_gt (path_cmp (place_in y) q) ≡ false) (sym (same_some e))
              (elim (has_either done (row ∷ []) y there) [
                | inl old ↦ upto_path (place_in y) here (up y old)
                | inr (inl same) ↦ ap is_gt (ap (λ r. path_cmp (place_in r) here) same ∙ tied_itself paths_total here)
                | inr (inr none) ↦ absurd none
              ]);
          last = λ p e. (row, has_right done (row ∷ []) row (inl refl), sym (same_some e));
          none = λ e. absurd (cc);
        }

module _ {X : Type 0} (Fits : X → Row → Type 0) (Keeps : X → Row → X → Type 0) (last : X → Option Place) (many : X → ℕ)
    (noted : (x : X) (row : Row) (next : X) → Keeps x row next
    → (last next ≡ Some (place_in row)) × (many next ≡ run_with (last x) (many x) (place_in row)))
    (may : (x : X) (row : Row) → Fits x row → MayFollow (last x) (many x) (place_in row)) where
  -- rows that rise by place and passed have no more versions of a path on a shelf than the limit, after those that had
  -- no more
  few_from : (done : List Row) (x : X) (rows : List Row) (end : X) → IsRun done (last x) (many x)
      → IsAscending (λ a b. place_cmp (place_in a) (place_in b) ≡ Less) (done ++ rows) → Pass Fits Keeps x rows end
      → (s p : List ℕ) → many_on s p (done ++ rows) ≤ version_limit
  few_from done x [] end is up passed s p =
      subst (λ l. many_on s p l ≤ version_limit) (sym (append-nil done)) (is.small s p)
  few_from done x (r ∷ rows) end is up passed s p =
      let it = noted x r passed.1 passed.2 in
      let one = it.0 in
      let two = it.1 in
      let next : IsRun (done ++ r ∷ []) (last passed.1) (many passed.1) =
      subst₂ (IsRun (done ++ r ∷ [])) (sym one) (sym two)
      (run_more done r (λ y there. across _ done (r ∷ rows) up y r there (inl refl)) (last x) (many x) is
      (may x r passed.0)) in
      subst (λ l. many_on s p l ≤ version_limit) (append_assoc done (r ∷ []) rows)
      (few_from (done ++ r ∷ []) passed.1 rows end next
      (subst (IsAscending (λ a b. place_cmp (place_in a) (place_in b) ≡ Less))
      (sym (append_assoc done (r ∷ []) rows)) up) passed.3 s p)

  -- no path has too many on a shelf
  pub few_in_all : (start : X) (rows : List Row) (end : X) → last start ≡ None
      → IsAscending (λ a b. place_cmp (place_in a) (place_in b) ≡ Less) rows
      → Pass Fits Keeps start rows end → (s p : List ℕ) → many_on s p rows ≤ version_limit
  few_in_all start rows end new up passed = few_from [] start rows end (record {
    small = λ s p. omega arith;
    run = λ p e. absurd (let f = sym new ∙ e in cc);
    below = λ p e y there. absurd there;
    last = λ p e. absurd (let f = sym new ∙ e in cc);
    none = λ _. refl;
  }) up passed
