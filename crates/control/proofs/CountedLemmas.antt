-- The store that a peer is answered from counts what is published in it.
use Rattle.std.proofs.Common.{◌≡◌, ◌-◌, ◌^◌, ◌⊎◌, ℕ, Bool, true, false, cond, List}
use Rattle.std.proofs.Common.{Option, Some, None, Result, Ok, Err, refl, sym, ap, subst, ◌∙◌, arith, inl, inr}
use Rattle.std.proofs.Common.{true≢false}
use Rattle.std.specs.Prelude.{unwrap_or}
use Rattle.std.specs.FinMap as map
use Rattle.std.specs.Ordering.{eq_by_cmp, is_eq}
use Rattle.std.specs.Cmp.{tied_itself}
use Rattle.std.proofs.lemmas.Bool.{cases_Bool, cases_lt}
use Rattle.std.proofs.lemmas.Map.Views.{tells_apart}
use Rattle.world.specs.declared.entry.Entry.{Entry}
use Rattle.world.specs.declared.entry.Place.{Place}
use Rattle.world.specs.declared.registry.StoreFault.{StoreFault}
use Rattle.world.specs.declared.registry.StoreFault.TheVariants.{Memory}
use Rattle.world.specs.World.{World, place_cmp, text_cmp, with_entry}
use Rattle.world.proofs.Orders.{places_exact, places_total, texts_exact, texts_total}
use Rattle.control.specs.Counted.{CountsEach, CountsNoFewer, CountsNoOther, HasCounted, HasTrouble, IsMore}
use Rattle.control.specs.Counted.{IsNoFewer, fetches_of, publishes_of}
use Rattle.control.specs.Noted.{CountsIf, CountsUnmet, IsLost, Noted, NotesFault}
use Rattle.control.specs.Traffic.{CountsOne, none, one_more, was_found, was_published, with_one}
use Rattle.control.specs.declared.store_call.StoreCall.{StoreCall}
use Rattle.control.specs.declared.store_call.StoreCall.TheVariants as errand
use Rattle.control.specs.declared.traffic.ShelfTraffic.{ShelfTraffic}
use Rattle.control.specs.declared.traffic.Traffic.{Traffic}
use Rattle.control.specs.declared.traffic.Transfer.{Transfer}
use Rattle.control.specs.declared.traffic.Transfer.TheVariants.{Fetch, Publish}

-- ---- counts

more_again : (a b c : ℕ) → IsMore a b → IsNoFewer b c → IsMore a c
more_again a b c (inl grew) (inl fewer) = inl (omega (arith, grew, fewer))
more_again a b c (inr full) (inl fewer) = inr (omega (arith, full, fewer))
more_again a b c more (inr full) = inr full

fewer_more : (a b c : ℕ) → IsNoFewer a b → IsMore b c → IsMore a c
fewer_more a b c (inl fewer) (inl grew) = inl (omega (arith, grew, fewer))
fewer_more a b c (inr full) (inl grew) = inr (omega (arith, full, grew))
fewer_more a b c fewer (inr full) = inr full

fewer_again : (a b c : ℕ) → IsNoFewer a b → IsNoFewer b c → IsNoFewer a c
fewer_again a b c (inl one) (inl two) = inl (omega (arith, one, two))
fewer_again a b c (inr full) (inl two) = inr (omega (arith, full, two))
fewer_again a b c one (inr full) = inr full

fewer_same : (n : ℕ) → IsNoFewer n n
fewer_same n = inl (omega arith)

not_less : (a b : ℕ) → IsMore a b → IsNoFewer a b
not_less a b (inl grew) = inl (omega (arith, grew))
not_less a b (inr full) = inr full

one_is_more : (n : ℕ) → IsMore n (one_more n)
one_is_more n = elim (cases_lt n (2 ^ 64 - 1)) [
  | inl few ↦ inl (omega (arith, few))
  | inr full ↦ inr (omega (arith, full))
]

one_is_no_fewer : (n : ℕ) → IsNoFewer n (one_more n)
one_is_no_fewer n = not_less n (one_more n) (one_is_more n)

-- no count fell, and then none
none_fewer_again : (s t u : Traffic) → CountsNoFewer s t → CountsNoFewer t u → CountsNoFewer s u
none_fewer_again s t u one two = λ shelf.
    (fewer_again _ _ _ (one shelf).0 (two shelf).0, fewer_again _ _ _ (one shelf).1 (two shelf).1)

none_fewer_same : (t u : Traffic) → u ≡ t → CountsNoFewer t u
none_fewer_same t u same =
    subst (CountsNoFewer t) (sym same) (λ shelf. (fewer_same (publishes_of t shelf), fewer_same (fetches_of t shelf)))

module _ (count : ShelfTraffic → ℕ) where
  abbrev count_of : Traffic → List ℕ → ℕ
  count_of t shelf = count (unwrap_or (map.get t.shelves shelf) none)

  -- what is counted for a shelf after one was changed
  changed : (t u : Traffic) (shelf : List ℕ) (v : ShelfTraffic) → u.shelves ≡ map.insert t.shelves shelf v
      → (s : List ℕ) → ((s ≡ shelf) × (count_of u s ≡ count v)) ⊎ (count_of u s ≡ count_of t s)
  changed t u shelf v is s =
      let got : count_of u s
      ≡ count (unwrap_or (cond (eq_by_cmp text_cmp s shelf) (Some v) (map.get t.shelves s)) none) =
      ap (λ (m : map.FinMap text_cmp ShelfTraffic). count (unwrap_or (map.get m s) none)) is
      ∙ ap (λ (o : Option ShelfTraffic). count (unwrap_or o none)) (map.get-insert texts_total t.shelves shelf v s) in
      elim (cases_Bool (eq_by_cmp text_cmp s shelf)) [
        | inl same ↦ inl (
          tells_apart texts_exact s shelf same,
          got ∙ ap (λ b. count (unwrap_or (cond b (Some v) (map.get t.shelves s)) none)) same,
        )
        | inr other ↦ inr (got ∙ ap (λ b. count (unwrap_or (cond b (Some v) (map.get t.shelves s)) none)) other)
      ]

  -- it did not fall if that of the one did not
  changed_fewer : (t u : Traffic) (shelf : List ℕ) (v : ShelfTraffic) → u.shelves ≡ map.insert t.shelves shelf v
      → IsNoFewer (count_of t shelf) (count v) → (s : List ℕ) → IsNoFewer (count_of t s) (count_of u s)
  changed_fewer t u shelf v is more s = elim (changed t u shelf v is s) [
    | inl both ↦
        subst (IsNoFewer (count_of t s)) (sym both.1)
        (subst (λ (x : List ℕ). IsNoFewer (count_of t x) (count v)) (sym both.0) more)
    | inr same ↦ subst (IsNoFewer (count_of t s)) (sym same) (fewer_same (count_of t s))
  ]

-- no count falls where one transfer is counted
one_none_fewer : (transfer : Transfer) (shelf : List ℕ) (t u : Traffic) → CountsOne transfer shelf t u
    → CountsNoFewer t u
one_none_fewer Publish shelf t u one =
    let was = unwrap_or (map.get t.shelves shelf) none in
    λ s. (
      changed_fewer (λ x. x.publishes) t u shelf (with_one Publish was) one (one_is_no_fewer was.publishes) s,
      changed_fewer (λ x. x.fetches) t u shelf (with_one Publish was) one (fewer_same was.fetches) s,
    )
one_none_fewer Fetch shelf t u one =
    let was = unwrap_or (map.get t.shelves shelf) none in
    λ s. (
      changed_fewer (λ x. x.publishes) t u shelf (with_one Fetch was) one (fewer_same was.publishes) s,
      changed_fewer (λ x. x.fetches) t u shelf (with_one Fetch was) one (one_is_no_fewer was.fetches) s,
    )

-- a fetch is no publish
fetch_same : (shelf : List ℕ) (t u : Traffic) → CountsOne Fetch shelf t u → (s : List ℕ)
    → publishes_of u s ≡ publishes_of t s
fetch_same shelf t u one s =
    let v = with_one Fetch (unwrap_or (map.get t.shelves shelf) none) in
    elim (changed (λ x. x.publishes) t u shelf v one s) [
      | inl both ↦ both.1 ∙ ap (publishes_of t) (sym both.0)
      | inr same ↦ same
    ]

publish_more : (shelf : List ℕ) (t u : Traffic) → CountsOne Publish shelf t u
    → IsMore (publishes_of t shelf) (publishes_of u shelf)
publish_more shelf t u one =
    let v = with_one Publish (unwrap_or (map.get t.shelves shelf) none) in
    let got : publishes_of u shelf
    ≡ (unwrap_or (cond (eq_by_cmp text_cmp shelf shelf) (Some v) (map.get t.shelves shelf)) none).publishes =
    ap (λ (m : map.FinMap text_cmp ShelfTraffic). (unwrap_or (map.get m shelf) none).publishes) one
    ∙ ap (λ (o : Option ShelfTraffic). (unwrap_or o none).publishes)
    (map.get-insert texts_total t.shelves shelf v shelf) in
    let here = ap (λ r. (unwrap_or (cond (is_eq r) (Some v) (map.get t.shelves shelf)) none).publishes)
    (tied_itself texts_total shelf) in
    subst (IsMore (publishes_of t shelf)) (sym (got ∙ here)) (one_is_more (publishes_of t shelf))

-- ---- what is noted

pub still_trouble : {X : Type 0} (asked : StoreCall) (told : Result X StoreFault) (old new : Option Noted)
    → NotesFault asked told old new → HasTrouble old → HasTrouble new
still_trouble asked (Ok x) old new is trouble = subst HasTrouble (sym is) trouble
still_trouble asked (Err fault) old new is trouble = (asked, fault, is)

lost_trouble : (noted : Option Noted) → IsLost noted → HasTrouble noted
lost_trouble None lost = absurd lost
lost_trouble (Some (Ok notice)) lost = absurd lost
lost_trouble (Some (Err why)) lost = (errand.Key, Memory, tt)

-- ---- what is said of a world

-- what a world has with an entry more
entry_at : (w : World) (q : Place) (e : Entry) (p : Place) (b : Bool) → eq_by_cmp place_cmp p q ≡ b
    → map.get (with_entry w q e).entries p ≡ cond b (Some e) (map.get w.entries p)
entry_at w q e p b is =
    map.get-insert places_total w.entries q e p ∙ ap (λ x. cond x (Some e) (map.get w.entries p)) is

some_is_none : {X : Type 0} (e : Entry) → Some e ≡ None → X
some_is_none e is = cc is

-- where nothing is with it, nothing was
gap_before : (w : World) (q : Place) (e : Entry) (p : Place) → map.get (with_entry w q e).entries p ≡ None
    → map.get w.entries p ≡ None
gap_before w q e p gap = elim (cases_Bool (eq_by_cmp place_cmp p q)) [
  | inl same ↦ some_is_none e (sym (entry_at w q e p true same) ∙ gap)
  | inr other ↦ sym (entry_at w q e p false other) ∙ gap
]

module _ (was : World → Type 0) (held : Bool) (before : Traffic) (w : World) where
  -- no publish was counted, and trouble is still noted
  kept : (t u : Traffic) (n m : Option Noted) → CountsNoFewer t u
      → ((s : List ℕ) → publishes_of u s ≡ publishes_of t s) → (HasTrouble n → HasTrouble m)
      → HasCounted was held before t n w → HasCounted was held before u m w
  kept t u n m more same still counted = record {
    first = counted.first;
    stood = counted.stood;
    kept = counted.kept;
    no_fewer = none_fewer_again before t u counted.no_fewer more;
    each = elim counted.each [
      | inl each ↦ inl (λ q free there. more_again _ _ _ (each q free there) (more q.shelf).0)
      | inr trouble ↦ inr (still trouble)
    ];
    no_other = λ shelf gaps. same shelf ∙ counted.no_other shelf gaps;
    unpublished = counted.unpublished;
  }

  -- nothing was counted
  pub kept_same : {X : Type 0} (asked : StoreCall) (told : Result X StoreFault) (t u : Traffic) (n m : Option Noted)
      → u ≡ t → NotesFault asked told n m → HasCounted was held before t n w → HasCounted was held before u m w
  kept_same asked told t u n m same noted counted =
      kept t u n m (none_fewer_same t u same) (λ s. ap (λ (x : Traffic). publishes_of x s) same)
      (still_trouble asked told n m noted) counted

  -- a fetch was counted if this is true
  kept_if : (found : Bool) (shelf : List ℕ) (t u : Traffic) (n m : Option Noted)
      → CountsIf found Fetch shelf t u n m → HasCounted was held before t n w → HasCounted was held before u m w
  kept_if false shelf t u n m (same, noted) counted =
      kept t u n m (none_fewer_same t u same) (λ s. ap (λ (x : Traffic). publishes_of x s) same)
      (subst HasTrouble (sym noted)) counted
  kept_if true shelf t u n m (inl (one, noted)) counted =
      kept t u n m (one_none_fewer Fetch shelf t u one) (fetch_same shelf t u one) (subst HasTrouble (sym noted)) counted
  kept_if true shelf t u n m (inr ((fresh, same), lost)) counted =
      kept t u n m (none_fewer_same t u same) (λ s. ap (λ (x : Traffic). publishes_of x s) same)
      (λ trouble. lost_trouble m lost) counted

  -- a fault was noted, or what was found was counted
  pub kept_found : {X : Type 0} (asked : StoreCall) (told : Result (Option X) StoreFault) (shelf : List ℕ)
      (t u : Traffic) (n m : Option Noted) → CountsUnmet (was_found told) asked told Fetch shelf t u n m
      → HasCounted was held before t n w → HasCounted was held before u m w
  kept_found asked (Ok found) shelf t u n m is counted = kept_if (was_found (Ok found)) shelf t u n m is counted
  kept_found asked (Err fault) shelf t u n m is counted =
      kept_same {X = Unit {0}} asked (Err fault) t u n m is.0 is.1 counted

  -- the world has other shelves or keys
  pub kept_entries : (t : Traffic) (n : Option Noted) (x : World) → x.entries ≡ w.entries
      → HasCounted was held before t n w → HasCounted was held before t n x
  kept_entries t n x same counted = record {
    first = counted.first;
    stood = counted.stood;
    kept = λ q gap. counted.kept q (sym (ap (λ m. map.get m q) same) ∙ gap);
    no_fewer = counted.no_fewer;
    each = elim counted.each [
      | inl each ↦ inl (λ q free there. each q free (λ is. there (ap (λ m. map.get m q) same ∙ is)))
      | inr trouble ↦ inr trouble
    ];
    no_other = λ shelf gaps. counted.no_other shelf
        (λ q on free. sym (ap (λ m. map.get m q) same) ∙ gaps q on free);
    unpublished = λ is. same ∙ counted.unpublished is;
  }

  module _ (q : Place) (e : Entry) (t u : Traffic) (free : held ≡ false) (room : map.get w.entries q ≡ None) where
    entered : CountsOne Publish q.shelf t u → (first : World) → CountsEach first w before t → CountsNoFewer before t
        → CountsEach first (with_entry w q e) before u
    entered one first each fewer p gap there = elim (cases_Bool (eq_by_cmp place_cmp p q)) [
      | inl same ↦
          subst (λ (x : Place). IsMore (publishes_of before x.shelf) (publishes_of u x.shelf))
          (sym (tells_apart places_exact p q same))
          (fewer_more _ _ _ (fewer q.shelf).0 (publish_more q.shelf t u one))
      | inr other ↦
          more_again _ _ _ (each p gap (λ is. there (entry_at w q e p false other ∙ is)))
          (one_none_fewer Publish q.shelf t u one p.shelf).0
    ]

    -- a shelf without a new version is another one, and has no new version before
    other_shelf : CountsOne Publish q.shelf t u → (counted : World) → CountsNoOther counted w before t
        → ((p : Place) → map.get w.entries p ≡ None → map.get counted.entries p ≡ None)
        → CountsNoOther counted (with_entry w q e) before u
    other_shelf one first no_other gone shelf gaps =
        let v = with_one Publish (unwrap_or (map.get t.shelves q.shelf) none) in
        elim (changed (λ x. x.publishes) t u q.shelf v one shelf) [
          | inl both ↦ some_is_none e (sym (entry_at w q e q true (ap is_eq (tied_itself places_total q)))
              ∙ gaps q (sym both.0) (gone q room))
          | inr same ↦ same ∙ no_other shelf (λ p on gap. gap_before w q e p (gaps p on gap))
        ]

    -- an entry is there, and was counted
    pub kept_entry : (n m : Option Noted) → CountsIf true Publish q.shelf t u n m → HasCounted was held before t n w
        → HasCounted was held before u m (with_entry w q e)
    kept_entry n m (inl (one, noted)) counted = record {
      first = counted.first;
      stood = counted.stood;
      kept = λ p gap. counted.kept p (gap_before w q e p gap);
      no_fewer = none_fewer_again before t u counted.no_fewer (one_none_fewer Publish q.shelf t u one);
      each = elim counted.each [
        | inl each ↦ inl (entered one counted.first each counted.no_fewer)
        | inr trouble ↦ inr (subst HasTrouble (sym noted) trouble)
      ];
      no_other = other_shelf one counted.first counted.no_other counted.kept;
      unpublished = λ is. absurd (true≢false (sym is ∙ free));
    }
    kept_entry n m (inr ((fresh, same), lost)) counted = record {
      first = counted.first;
      stood = counted.stood;
      kept = λ p gap. counted.kept p (gap_before w q e p gap);
      no_fewer = none_fewer_again before t u counted.no_fewer (none_fewer_same t u same);
      each = inr (lost_trouble m lost);
      no_other = λ shelf gaps. ap (λ (x : Traffic). publishes_of x shelf) same
          ∙ counted.no_other shelf (λ p on gap. gap_before w q e p (gaps p on gap));
      unpublished = λ is. absurd (true≢false (sym is ∙ free));
    }

module _ (was : World → Type 0) (held : Bool) (before : Traffic) (w : World) (q : Place) (e : Entry) (t u : Traffic)
    (n m : Option Noted) (asked : StoreCall) where
  -- an entry was put there
  pub entry_later : (told : Result (Unit {0}) StoreFault) (x : Unit {0}) → told ≡ Ok x → held ≡ false
      → map.get w.entries q ≡ None → CountsUnmet (was_published told) asked told Publish q.shelf t u n m
      → HasCounted was held before t n w → HasCounted was held before u m (with_entry w q e)
  entry_later (Ok y) x is free room counts counted = kept_entry was held before w q e t u free room n m counts counted
  entry_later (Err fault) x is free room counts counted = cc is

  -- or it was not
  pub entry_still : (told : Result (Unit {0}) StoreFault) (why : StoreFault) → told ≡ Err why
      → CountsUnmet (was_published told) asked told Publish q.shelf t u n m → HasCounted was held before t n w
      → HasCounted was held before u m w
  entry_still (Err fault) why is (same, noted) counted =
      kept_same was held before w {X = Unit {0}} asked (Err fault) t u n m same noted counted
  entry_still (Ok y) why is counts counted = cc is

-- before anything is asked
pub counted_first : (was : World → Type 0) (held : Bool) (before t : Traffic) (n : Option Noted) (w : World)
    → before ≡ t → was w → HasCounted was held before t n w
counted_first was held before t n w same stood = record {
  first = w;
  stood = stood;
  kept = λ q gap. gap;
  no_fewer = none_fewer_same before t (sym same);
  each = inl (λ q free there. absurd (there free));
  no_other = λ shelf gaps. ap (λ (x : Traffic). publishes_of x shelf) (sym same);
  unpublished = λ is. refl;
}
