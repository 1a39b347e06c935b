-- Kept values: which remain, and what they weigh.
use Rattle.std.proofs.Common.{◌≡◌, ◌∙◌, ◌≤◌, ◌⊎◌, ◌+◌, ◌-◌, ℕ, zero, suc, Bool, true, false, cond, List, [], ◌∷◌, take}
use Rattle.std.proofs.Common.{length, slice_get, Contains, Option, Some, None, inl, inr, refl, sym, ap, subst, arith}
use Rattle.std.specs.Map.{lookup, lookup_entry, remove_entry}
use Rattle.std.specs.Option.{option_map_or}
use Rattle.lru.specs.LruCache.{LruCache, lru_cache, promoted, put_entries, last_entry}
use Rattle.lru.proofs.CallerLemmas.{Contains-take, Contains-lookup, Contains-lookup_entry, Contains-remove_entry}
use Rattle.lru.proofs.CallerLemmas.{Contains-promoted, Contains-put_entries}
use Rattle.lru.proofs.Splits.{Contains-nil, Contains-head, Contains-tail}
use Rattle.cache.specs.Recent.{Holds, weight_in, weighed_in, AreNoted, Fits}

abbrev pub Held : Type 0 → Type 0
Held V = List (ℕ × (ℕ × V))

abbrev pub Cache : Type 0 → Type 0
Cache V = LruCache ℕ (ℕ × V)

-- the entries of a cache, or none without a cache
abbrev pub entries_in : {V : Type 0} → Option (Cache V) → Held V
entries_in {V = V} cache = option_map_or (λ (c : Cache V). c.entries) cache []

module _ {V : Type 0} where
  -- ---- which values remain

  holds_fewer : (new old : Held V) → ((e : ℕ × (ℕ × V)) → Contains new e → Contains old e) → (v : V) → Holds new v
      → Holds old v
  holds_fewer new old among v h = (h.0, among h.0 h.1, h.2)

  pub holds_none : (v : V) → Holds [] v → ⊥
  holds_none v h = Contains-nil h.0 h.1

  -- ---- what is true of each value

  module _ (P : V → Type 0) (old new : Held V) where
    pub fewer_held : ((v : V) → Holds new v → Holds old v) → ((v : V) → Holds old v → P v) → (v : V) → Holds new v → P v
    fewer_held among are v at = are v (among v at)

    pub one_more_held : (it : V) → ((v : V) → Holds new v → Holds old v ⊎ (v ≡ it)) → ((v : V) → Holds old v → P v)
        → P it → (v : V) → Holds new v → P v
    one_more_held it split are is v at = elim (split v at) [
      | inl was ↦ are v was
      | inr same ↦ subst P (sym same) is
    ]

  pub none_held : (P : V → Type 0) (held : Held V) → held ≡ [] → (v : V) → Holds held v → P v
  none_held P held none v at = absurd (holds_none v (subst (λ l. Holds l v) none at))

  -- ---- which values are found, taken and put

  pub holds_found : (test : ℕ → Bool) (es : Held V) (x : ℕ × V) → lookup test es ≡ Some x → Holds es x.1
  holds_found test es x found = let it = Contains-lookup test es x found in ((it.0, x), it.1, refl)

  holds_taken : (test : ℕ → Bool) (es : Held V) (e : ℕ × (ℕ × V)) → lookup_entry test es ≡ Some e → Holds es e.1.1
  holds_taken test es e found = (e, (Contains-lookup_entry test es e found).0, refl)

  holds_put : (eq : ℕ → ℕ → Bool) (c : Cache V) (k : ℕ) (x : ℕ × V) (v : V) → Holds (put_entries eq c k x) v
      → Holds c.entries v ⊎ (v ≡ x.1)
  holds_put eq c k x v h = elim (Contains-put_entries eq c k x h.0 h.1) [
    | inl was ↦ inl (h.0, was, h.2)
    | inr put ↦ inr (sym h.2 ∙ ap (λ y. y.1) put.0)
  ]

  -- ---- what the values weigh

  weight_without : (test : ℕ → Bool) (es : Held V) (e : ℕ × (ℕ × V)) → lookup_entry test es ≡ Some e
      → e.1.0 + weight_in (remove_entry test es) ≡ weight_in es
  weight_without test [] e h = cc
  weight_without test (f ∷ es) e h =
      (elim (test f.0) as (λ y. test f.0 ≡ y → e.1.0 + weight_in (remove_entry test (f ∷ es)) ≡ f.1.0 + weight_in es) [
        | true ↦ λ t. let h' = rw t at h in let same : f ≡ e = cc in rw t (ap (λ g. g.1.0 + weight_in es) (sym same))
        | false ↦ λ t. let on = weight_without test es e (rw t at h) in rw t (omega (arith, on))
      ]) refl

  weight_take : (n : ℕ) (es : Held V) → weight_in (take n es) ≤ weight_in es
  weight_take zero es = omega arith
  weight_take (suc n) [] = omega arith
  weight_take (suc n) (e ∷ es) = let on = weight_take n es in omega (arith, on)

  promoted_by : (test : ℕ → Bool) (es : Held V) (o : Option (ℕ × (ℕ × V))) → lookup_entry test es ≡ o
      → weight_in (option_map_or (λ e. e ∷ remove_entry test es) o es) ≡ weight_in es
  promoted_by test es None h = refl
  promoted_by test es (Some e) h = weight_without test es e h

  weight_promoted : (test : ℕ → Bool) (es : Held V) → weight_in (promoted test es) ≡ weight_in es
  weight_promoted test es = promoted_by test es (lookup_entry test es) refl

  put_by : (eq : ℕ → ℕ → Bool) (c : Cache V) (k : ℕ) (x : ℕ × V) (o : Option (ℕ × (ℕ × V)))
      → lookup_entry (eq k) c.entries ≡ o
      → weight_in (option_map_or (λ e. (e.0, x) ∷ remove_entry (eq k) c.entries) o
      ((k, x) ∷ take (c.cap - 1) c.entries)) ≤ x.0 + weight_in c.entries
  put_by eq c k x None h = let less = weight_take (c.cap - 1) c.entries in omega (arith, less)
  put_by eq c k x (Some e) h = let on = weight_without (eq k) c.entries e h in omega (arith, on)

  weight_put : (eq : ℕ → ℕ → Bool) (c : Cache V) (k : ℕ) (x : ℕ × V)
      → weight_in (put_entries eq c k x) ≤ x.0 + weight_in c.entries
  weight_put eq c k x = put_by eq c k x (lookup_entry (eq k) c.entries) refl

  last_of : (f : ℕ × (ℕ × V)) (es : Held V) (e : ℕ × (ℕ × V)) → slice_get (f ∷ es) (length es) ≡ Some e
      → e.1.0 + weight_in (take (length es) (f ∷ es)) ≡ f.1.0 + weight_in es
  last_of f [] e h = let same : f ≡ e = cc in ap (λ g. g.1.0 + 0) (sym same)
  last_of f (g ∷ es) e h = let on = last_of g es e h in omega (arith, on)

  weight_last : (es : Held V) (e : ℕ × (ℕ × V)) → last_entry es ≡ Some e
      → e.1.0 + weight_in (take (length es - 1) es) ≡ weight_in es
  weight_last [] e h = cc
  weight_last (f ∷ es) e h =
      let same : length (f ∷ es) - 1 ≡ length es = omega arith in
      subst (λ n. e.1.0 + weight_in (take n (f ∷ es)) ≡ f.1.0 + weight_in es) (sym same)
      (last_of f es e (subst (λ n. slice_get (f ∷ es) n ≡ Some e) same h))

  weight_fewer : (test : ℕ → Bool) (es : Held V) → weight_in (remove_entry test es) ≤ weight_in es
  weight_fewer test [] = omega arith
  weight_fewer test (f ∷ es) =
      elim (test f.0) as (λ y. weight_in (cond y es (f ∷ remove_entry test es)) ≤ f.1.0 + weight_in es) [
        | true ↦ omega arith
        | false ↦ let on = weight_fewer test es in omega (arith, on)
      ]

  -- ---- what is noted with each value

  module _ (weighs : V → ℕ) where
    fewer_noted : (new old : Held V) → ((e : ℕ × (ℕ × V)) → Contains new e → Contains old e) → AreNoted weighs old
        → AreNoted weighs new
    fewer_noted new old among are e at = are e (among e at)

    put_noted : (eq : ℕ → ℕ → Bool) (c : Cache V) (k : ℕ) (x : ℕ × V) → weighs x.1 ≤ x.0 → AreNoted weighs c.entries
        → AreNoted weighs (put_entries eq c k x)
    put_noted eq c k x enough are e at = elim (Contains-put_entries eq c k x e at) [
      | inl was ↦ are e was
      | inr put ↦ subst (λ (y : ℕ × V). weighs y.1 ≤ y.0) (sym put.0) enough
    ]

    -- what values weigh is at most what is noted with them
    weighed_at_most : (es : Held V) → AreNoted weighs es → weighed_in weighs es ≤ weight_in es
    weighed_at_most [] are = omega arith
    weighed_at_most (e ∷ es) are =
        let first = are e (Contains-head e es) in
        let on = weighed_at_most es (λ f at. are f (Contains-tail e es f at)) in
        omega (arith, first, on)

    pub weighed_fits : (es : Held V) (noted most : ℕ) → Fits weighs most es noted → weighed_in weighs es ≤ noted
    weighed_fits es noted most fits = let less = weighed_at_most es fits.2 in omega (arith, less, fits.0)

  -- ---- a call on a cache with these entries, which weigh no more than was noted

  module _ (weighs : V → ℕ) (old new : Cache V) (es : Held V) (was : old.entries ≡ es) (noted most : ℕ)
      (fits : Fits weighs most es noted) where
    are_noted : AreNoted weighs old.entries
    are_noted = subst (AreNoted weighs) (sym was) fits.2

    noted_still : (left : Held V) → new ≡ lru_cache left old.cap
        → ((e : ℕ × (ℕ × V)) → Contains left e → Contains old.entries e) → AreNoted weighs new.entries
    noted_still left is among =
        subst (λ (c : Cache V). AreNoted weighs c.entries) (sym is)
        (fewer_noted weighs left old.entries among are_noted)

    module _ (test : ℕ → Bool) where
      module _ (is : new ≡ lru_cache (promoted test old.entries) old.cap) where
        pub promoted_holds : (v : V) → Holds new.entries v → Holds es v
        promoted_holds v h = subst (λ l. Holds l v) was
            (holds_fewer (promoted test old.entries) old.entries (Contains-promoted test old.entries) v
            (subst (λ (c : Cache V). Holds c.entries v) is h))

        pub promoted_fits : Fits weighs most new.entries noted
        promoted_fits =
            let same = ap (λ (c : Cache V). weight_in c.entries) is ∙ weight_promoted test old.entries
            ∙ ap weight_in was in (
              omega (arith, same, fits.0),
              fits.1,
              noted_still (promoted test old.entries) is (Contains-promoted test old.entries),
            )

      module _ (is : new ≡ lru_cache (remove_entry test old.entries) old.cap) where
        pub removed_holds : (v : V) → Holds new.entries v → Holds es v
        removed_holds v h =
            subst (λ l. Holds l v) was
            (holds_fewer (remove_entry test old.entries) old.entries (Contains-remove_entry test old.entries) v
            (subst (λ (c : Cache V). Holds c.entries v) is h))

        pub none_removed_fits : Fits weighs most new.entries noted
        none_removed_fits =
            let same = ap (λ (c : Cache V). weight_in c.entries) is in
            let less = weight_fewer test old.entries in
            let old_is = ap weight_in was in (
              omega (arith, same, less, old_is, fits.0),
              fits.1,
              noted_still (remove_entry test old.entries) is (Contains-remove_entry test old.entries),
            )

        module _ (e : ℕ × (ℕ × V)) (found : lookup_entry test old.entries ≡ Some e) where
          pub removed_fits : Fits weighs most new.entries (noted - e.1.0)
          removed_fits =
              let same = ap (λ (c : Cache V). weight_in c.entries) is in
              let without = weight_without test old.entries e found in
              let old_is = ap weight_in was in (
                omega (arith, same, without, old_is, fits.0),
                omega (arith, fits.1),
                noted_still (remove_entry test old.entries) is (Contains-remove_entry test old.entries),
              )

          pub removed_held : Holds es e.1.1
          removed_held = subst (λ l. Holds l e.1.1) was (holds_taken test old.entries e found)

    module _ (is : new ≡ lru_cache (take (length old.entries - 1) old.entries) old.cap) where
      pub cut_holds : (v : V) → Holds new.entries v → Holds es v
      cut_holds v h = subst (λ l. Holds l v) was
          (holds_fewer (take (length old.entries - 1) old.entries) old.entries
          (Contains-take (length old.entries - 1) old.entries) v (subst (λ (c : Cache V). Holds c.entries v) is h))

      pub none_cut_fits : Fits weighs most new.entries noted
      none_cut_fits =
          let same = ap (λ (c : Cache V). weight_in c.entries) is in
          let less = weight_take (length old.entries - 1) old.entries in
          let old_is = ap weight_in was in (
            omega (arith, same, less, old_is, fits.0),
            fits.1,
            noted_still (take (length old.entries - 1) old.entries) is
                (Contains-take (length old.entries - 1) old.entries),
          )

      pub cut_fits : (e : ℕ × (ℕ × V)) → last_entry old.entries ≡ Some e → Fits weighs most new.entries (noted - e.1.0)
      cut_fits e found =
          let same = ap (λ (c : Cache V). weight_in c.entries) is in
          let without = weight_last old.entries e found in
          let old_is = ap weight_in was in (
            omega (arith, same, without, old_is, fits.0),
            omega (arith, fits.1),
            noted_still (take (length old.entries - 1) old.entries) is
                (Contains-take (length old.entries - 1) old.entries),
          )

    module _ (eq : ℕ → ℕ → Bool) (k : ℕ) (x : ℕ × V) (is : new ≡ lru_cache (put_entries eq old k x) old.cap) where
      pub put_holds : (v : V) → Holds new.entries v → Holds es v ⊎ (v ≡ x.1)
      put_holds v h = subst (λ l. Holds l v ⊎ (v ≡ x.1)) was
          (holds_put eq old k x v (subst (λ (c : Cache V). Holds c.entries v) is h))

      pub put_fits : x.0 ≤ most - noted → weighs x.1 ≤ x.0 → Fits weighs most new.entries (noted + x.0)
      put_fits room enough =
          let same = ap (λ (c : Cache V). weight_in c.entries) is in
          let more = weight_put eq old k x in
          let old_is = ap weight_in was in
          let all = put_noted weighs eq old k x enough are_noted in (
            omega (arith, same, more, old_is, fits.0),
            omega (arith, room, fits.1),
            subst (λ (c : Cache V). AreNoted weighs c.entries) (sym is) all,
          )
