-- A version is among those that a shelf sees exactly where it sees an entry, and a path where it sees one of its
-- versions.
use Rattle.std.proofs.Common.{◌≡◌, ℕ, List, [], ◌∷◌, Bool, true, false, cond, refl, ◌∙◌, sym, ap, Option, Some, None}
use Rattle.std.proofs.Common.{inl, inr, ◌⊎◌}
use Rattle.std.specs.Prelude.{bytes_eq, ◌||◌, ◌&&◌, ◌↔◌, is_some}
use Rattle.std.specs.Option.{option_or}
use Rattle.std.specs.Ordering.{eq_by_cmp, ordering_then, is_eq}
use Rattle.std.specs.Cmp.{tied_itself}
use Rattle.std.specs.FinMap as map
use Rattle.std.specs.FinSet as set
use Rattle.std.proofs.lemmas.Bool.{true≢false, and_parts, false_from_ne_true, or_cases, or_left, or_right}
use Rattle.std.proofs.lemmas.Map.Views.{tells_apart}
use Rattle.world.specs.declared.entry.Place.{Place}
use Rattle.world.specs.declared.entry.Entry.{Entry}
use Rattle.world.specs.declared.entry.Seen.{Seen}
use Rattle.world.specs.World.{World, chain, place, place_cmp, text_cmp, seen_at, first_on, view}
use Rattle.world.specs.Visible.{versions_among, versions_on, versions_seen, paths_among, paths_on, paths_seen}
use Rattle.world.proofs.Orders.{texts_total, texts_exact, places_exact, text_self, text_same}

-- ---- versions

-- places of one path and shelf tie as their versions do
version_tie : (s p v : List ℕ) (q : Place) → q.shelf ≡ s → q.path ≡ p
    → eq_by_cmp place_cmp (place s p v) q ≡ eq_by_cmp text_cmp v q.version
version_tie s p v q qs qp =
    ap (λ x. is_eq (ordering_then (text_cmp s x) (ordering_then (text_cmp p q.path) (text_cmp v q.version)))) qs
    ∙ ap (λ x. is_eq (ordering_then (text_cmp s s) (ordering_then (text_cmp p x) (text_cmp v q.version)))) qp
    ∙ ap (λ o. is_eq (ordering_then o (ordering_then (text_cmp p p) (text_cmp v q.version))))
    (tied_itself texts_total s)
    ∙ ap (λ o. is_eq (ordering_then o (text_cmp v q.version))) (tied_itself texts_total p)

some_or : (b : Bool) (e : Entry) (o : Option Entry) → is_some (cond b (Some e) o) ≡ (b || is_some o)
some_or true e o = refl
some_or false e o = refl

-- a text is among the versions of a path on a shelf exactly if these entries have one at its place
pub contains_among : (s p v : List ℕ) (es : List (Place × Entry))
    → set.contains (versions_among s p es) v ≡ is_some (map.find place_cmp (place s p v) es)
contains_among s p v [] = set.contains-empty text_cmp v
contains_among s p v (e ∷ es) =
    elim (bytes_eq e.0.shelf s && bytes_eq e.0.path p) as (λ b. (bytes_eq e.0.shelf s && bytes_eq e.0.path p) ≡ b
    → set.contains (cond b (set.insert (versions_among s p es) e.0.version) (versions_among s p es)) v
    ≡ is_some (map.find place_cmp (place s p v) (e ∷ es))) [
      | true ↦ λ here.
          let both = and_parts (bytes_eq e.0.shelf s) (bytes_eq e.0.path p) here in
          set.contains-insert texts_total (versions_among s p es) e.0.version v
          ∙ ap (λ b. b || set.contains (versions_among s p es) v)
          (sym (version_tie s p v e.0 (text_same e.0.shelf s both.0) (text_same e.0.path p both.1)))
          ∙ ap (λ b. eq_by_cmp place_cmp (place s p v) e.0 || b) (contains_among s p v es)
          ∙ sym (some_or (eq_by_cmp place_cmp (place s p v) e.0) e.1 (map.find place_cmp (place s p v) es))
      | false ↦ λ other.
          let apart : eq_by_cmp place_cmp (place s p v) e.0 ≡ false = false_from_ne_true _ (λ tie.
          let same : place s p v ≡ e.0 = tells_apart places_exact (place s p v) e.0 tie in
          true≢false (sym (ap (λ b. b && bytes_eq p p) (text_self s) ∙ text_self p)
          ∙ ap (λ (r : Place). bytes_eq r.shelf s && bytes_eq r.path p) same ∙ other)) in
          contains_among s p v es ∙ sym
          (ap (λ b. is_some (cond b (Some e.1) (map.find place_cmp (place s p v) es))) apart)
    ] refl

seen_is_some : (o : Option Entry) (s : List ℕ) (rest : Option Seen)
    → (is_some o || is_some rest) ≡ is_some (option_or (seen_at o s) rest)
seen_is_some None s rest = refl
seen_is_some (Some e) s rest = refl

contains_on : (w : World) (ss : List (List ℕ)) (p v : List ℕ)
    → set.contains (versions_on w ss p) v ≡ is_some (first_on w ss p v)
contains_on w [] p v = set.contains-empty text_cmp v
contains_on w (s ∷ ss) p v =
    set.contains-union texts_total _ _ v
    ∙ ap (λ b. b || set.contains (versions_on w ss p) v)
    (contains_among s p v (map.entries w.entries) ∙ ap is_some (sym (map.get-entries w.entries (place s p v))))
    ∙ ap (λ b. is_some (map.get w.entries (place s p v)) || b) (contains_on w ss p v)
    ∙ seen_is_some (map.get w.entries (place s p v)) s (first_on w ss p v)

pub contains_versions : (w : World) (s p v : List ℕ) → set.contains (versions_seen w s p) v ≡ is_some (view w s p v)
contains_versions w s p v = contains_on w (chain w s) p v

-- ---- paths

-- these entries have one of some version of the path on the shelf
abbrev pub FoundAmong : List ℕ → List ℕ → List (Place × Entry) → Type 0
FoundAmong s p es = (v : List ℕ) × (is_some (map.find place_cmp (place s p v) es) ≡ true)

one_more : (s p : List ℕ) (e : Place × Entry) (es : List (Place × Entry)) → FoundAmong s p es → FoundAmong s p (e ∷ es)
one_more s p e es found = (
  found.0,
  some_or (eq_by_cmp place_cmp (place s p found.0) e.0) e.1 (map.find place_cmp (place s p found.0) es)
      ∙ or_right _ _ found.1,
)

first_or_rest : (s p : List ℕ) (e : Place × Entry) (es : List (Place × Entry)) → FoundAmong s p (e ∷ es)
    → ((e.0.shelf ≡ s) × (e.0.path ≡ p)) ⊎ FoundAmong s p es
first_or_rest s p e es found =
    elim (or_cases (eq_by_cmp place_cmp (place s p found.0) e.0) _
    (sym (some_or (eq_by_cmp place_cmp (place s p found.0) e.0) e.1 (map.find place_cmp (place s p found.0) es))
    ∙ found.1)) [
      | inl tie ↦ let same : place s p found.0 ≡ e.0 = tells_apart places_exact (place s p found.0) e.0 tie in
          inl (ap (λ (q : Place). q.shelf) (sym same), ap (λ (q : Place). q.path) (sym same))
      | inr rest ↦ inr (found.0, rest)
    ]

found_first : (s p : List ℕ) (e : Place × Entry) (es : List (Place × Entry)) → e.0.shelf ≡ s → e.0.path ≡ p
    → FoundAmong s p (e ∷ es)
found_first s p e es same_shelf same_path = (
  e.0.version,
  some_or (eq_by_cmp place_cmp (place s p e.0.version) e.0) e.1 (map.find place_cmp (place s p e.0.version) es)
      ∙ or_left _ _ (version_tie s p e.0.version e.0 same_shelf same_path
      ∙ ap is_eq (tied_itself texts_total e.0.version)),
)

-- a path is among the paths on a shelf exactly if these entries have one of some version of it there
pub path_among : (s p : List ℕ) (es : List (Place × Entry))
    → (set.contains (paths_among s es) p ≡ true) ↔ FoundAmong s p es
path_among s p [] = (
  λ at. absurd (true≢false (sym at ∙ set.contains-empty text_cmp p)),
  λ found.
      absurd (true≢false (sym found.1)),
)
path_among s p (e ∷ es) =
    let rest = path_among s p es in
    elim (bytes_eq e.0.shelf s) as
    (λ b. bytes_eq e.0.shelf s ≡ b
    → (set.contains (cond b (set.insert (paths_among s es) e.0.path) (paths_among s es)) p ≡ true)
    ↔ FoundAmong s p (e ∷ es)) [
      | true ↦ λ here.
          let more = set.contains-insert texts_total (paths_among s es) e.0.path p in (
            λ at. elim (or_cases (eq_by_cmp text_cmp p e.0.path) _ (sym more ∙ at)) [
              | inl tie ↦ found_first s p e es (text_same e.0.shelf s here)
                  (sym (tells_apart texts_exact p e.0.path tie))
              | inr later ↦ one_more s p e es (rest.0 later)
            ],
            λ found. more ∙ elim (first_or_rest s p e es found) [
              | inl first ↦ or_left _ _
                  (ap (λ x. eq_by_cmp text_cmp p x) first.1 ∙ ap is_eq (tied_itself texts_total p))
              | inr later ↦ or_right _ _ (rest.1 later)
            ],
          )
      | false ↦ λ other. (
        λ at. one_more s p e es (rest.0 at),
        λ found. elim (first_or_rest s p e es found) [
          | inl first ↦ absurd (true≢false (sym (ap (λ x. bytes_eq x s) first.0 ∙ text_self s) ∙ other))
          | inr later ↦ rest.1 later
        ],
      )
    ] refl

-- on some of these shelves stands a version of the path
abbrev FoundOn : World → List (List ℕ) → List ℕ → Type 0
FoundOn w ss p = (v : List ℕ) × (is_some (first_on w ss p v) ≡ true)

-- a path is among the paths on these shelves exactly if one of them has an entry at some version of it
path_on : (w : World) (ss : List (List ℕ)) (p : List ℕ) → (set.contains (paths_on w ss) p ≡ true) ↔ FoundOn w ss p
path_on w [] p = (
  λ at. absurd (true≢false (sym at ∙ set.contains-empty text_cmp p)),
  λ found.
      absurd (true≢false (sym found.1)),
)
path_on w (s ∷ ss) p =
    let both = set.contains-union texts_total (paths_among s (map.entries w.entries)) (paths_on w ss) p in
    let first = path_among s p (map.entries w.entries) in
    let rest = path_on w ss p in (
      λ at. elim (or_cases (set.contains (paths_among s (map.entries w.entries)) p) _ (sym both ∙ at)) [
        | inl here ↦
            let found = first.0 here in (
              found.0,
              sym (seen_is_some (map.get w.entries (place s p found.0)) s (first_on w ss p found.0))
                  ∙ or_left _ _ (ap is_some (map.get-entries w.entries (place s p found.0)) ∙ found.1),
            )
        | inr later ↦ let found = rest.0 later in (
          found.0,
          sym (seen_is_some (map.get w.entries (place s p found.0)) s (first_on w ss p found.0))
              ∙ or_right _ _ found.1,
        )
      ],
      λ found. both ∙ elim (or_cases (is_some (map.get w.entries (place s p found.0))) _
          (seen_is_some (map.get w.entries (place s p found.0)) s (first_on w ss p found.0) ∙ found.1)) [
            | inl here ↦ or_left _ _
                (first.1 (found.0, ap is_some (sym (map.get-entries w.entries (place s p found.0))) ∙ here))
            | inr later ↦ or_right _ _ (rest.1 (found.0, later))
          ],
    )

pub contains_paths : (w : World) (s p : List ℕ)
    → (set.contains (paths_seen w s) p ≡ true) ↔ ((v : List ℕ) × (is_some (view w s p v) ≡ true))
contains_paths w s p = path_on w (chain w s) p
