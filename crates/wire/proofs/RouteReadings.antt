-- What the router finds is what is computed of a target.
use Rattle.std.proofs.Common.{◌≡◌, ◌==◌, ℕ, ◌+◌, ◌<◌, List, [], ◌∷◌, ◌++◌, length, take, drop, codes, Option, Some}
use Rattle.std.proofs.Common.{None, true, false}
use Rattle.std.proofs.Common.{cond, nat_eq, nat_lt, get_or, refl, sym, ap, ◌∙◌, subst, inl, inr, arith, append_assoc}
use Rattle.std.proofs.Common.{length-append}
use Rattle.std.proofs.lemmas.Bool.{and_parts, cases_Bool, lt-ltb, ltb-true}
use Rattle.std.proofs.lemmas.Bool.Decides.{Decides-eqb, nat_tests}
use Rattle.std.proofs.lemmas.List.{drop_at, take-append-drop, take_at}
use Rattle.std.proofs.lemmas.Str.{IsCharBoundary-after_ascii, IsCharBoundary-before_ascii, IsUtf8-drop, IsUtf8-take}
use Rattle.std.specs.Cmp.Lexicographic.{pointwise, pointwise_decides}
use Rattle.std.specs.List.{list_any}
use Rattle.std.specs.Option.{option_and_then, option_map}
use Rattle.std.specs.Str.{IsUtf8}
use Rattle.matchit.specs.Params.{Shows, walk}
use Rattle.matchit.specs.Router.{RouteOf}
use Rattle.matchit.specs.Seek.{first}
use Rattle.wire.specs.ModuleVersion.{around, without_start}
use Rattle.wire.specs.Route.{area_of, is_own, path_route, routed_of, routes, shelf_route, split_of, with_key}
use Rattle.wire.specs.declared.routes.Area.{Area}
use Rattle.wire.specs.declared.routes.Area.TheVariants as area
use Rattle.wire.proofs.RouteLemmas.{AreBytes, Splits, first_of_split, splits_of_first}
use Rattle.wire.proofs.TargetLemmas.{around-is, around-taken, if-some, map-some, start-is, then-some}
use Rattle.wire.proofs.WalkLemmas.{walk_path, walk_shelf}

-- ---- keys

-- a key and a rest that pass have a key that is not empty, and are unchanged
with-key-is : (halves out : List ℕ × List ℕ) → with_key halves ≡ Some out → (0 < length halves.0) × (halves ≡ out)
with-key-is halves out h = elim (cases_Bool (length halves.0 == 0)) [
  | inl none ↦ cc (rw none at h)
  | inr some ↦ let same : halves ≡ out = cc (rw some at h) in (grind (arith, nat_tests), same)
]

-- a text that is `/k/`, a key, a slash and a rest
pub record IsSplit (text key rest : List ℕ) : Type 0 where
  pub whole : text ≡ codes "/k/" ++ (key ++ (47 ∷ rest))
  pub some : 0 < length key
  pub no_slash : list_any (λ b. b == 47) key ≡ false

-- a text that is computed to split into a key and a rest is `/k/`, the key, a slash and the rest
pub split-is : (text key rest : List ℕ) → split_of text ≡ Some (key, rest) → IsSplit text key rest
unfolding split_of
split-is text key rest h =
    let outer = then-some with_key (option_and_then (around 47) (without_start (codes "/k/") text)) (key, rest) h in
    let inner = then-some (around 47) (without_start (codes "/k/") text) outer.0 outer.1 in
    let found = with-key-is outer.0 (key, rest) outer.2 in
    let keys : (outer.0).0 ≡ key = ap (λ (x : List ℕ × List ℕ). x.0) found.1 in
    let rests : (outer.0).1 ≡ rest = ap (λ (x : List ℕ × List ℕ). x.1) found.1 in
    let cut = around-is 47 inner.0 (outer.0).0 (outer.0).1 inner.2 in
    record {
      whole = start-is (codes "/k/") text inner.0 inner.1
          ∙ ap (λ (l : List ℕ). codes "/k/" ++ l) (cut.0 ∙ (λ i. keys i ++ (47 ∷ rests i)));
      some = subst (λ (l : List ℕ). 0 < length l) keys found.0;
      no_slash = subst (λ (l : List ℕ). list_any (λ b. b == 47) l ≡ false) keys cut.1;
    }

pub split-taken : (text key rest : List ℕ) → IsSplit text key rest → split_of text ≡ Some (key, rest)
unfolding split_of
split-taken text key rest is =
    let some : (length key == 0) ≡ false = let len = is.some in grind (arith, nat_tests) in
    rw (is.whole, around-taken 47 key rest is.no_slash, some) refl

-- ---- areas

pub own-is : (rest : List ℕ) → is_own rest ≡ true → (rest ≡ codes "-/" ++ drop 2 rest) × (2 < length rest)
own-is rest h =
    let both = and_parts (pointwise nat_eq (codes "-/") (take 2 rest)) (nat_lt 2 (length rest)) h in
    let front : codes "-/" ≡ take 2 rest = (pointwise_decides Decides-eqb (codes "-/") (take 2 rest)).0 both.0 in (
      sym (take-append-drop 2 rest) ∙ ap (λ (l : List ℕ). l ++ drop 2 rest) (sym front),
      ltb-true 2 (length rest) both.1,
    )

-- an area has something that is asked
pub area-some : (rest : List ℕ) (found : Area × List ℕ) → area_of rest ≡ Some found → 0 < length rest
area-some rest found h = elim (cases_Bool (is_own rest)) [
  | inl own ↦ let long = (own-is rest own).1 in omega (arith, long)
  | inr other ↦ ltb-true 0 (length rest) (if-some (nat_lt 0 (length rest)) (area.Path, rest) found (rw other at h)).0
]

pub area-path : (rest : List ℕ) → is_own rest ≡ false → 0 < length rest → area_of rest ≡ Some (area.Path, rest)
area-path rest other some = let long = lt-ltb 0 (length rest) some in rw (other, long) refl

-- what stands behind a key, by the area and what is asked there
abbrev pub StandsIn : Area → List ℕ → List ℕ → Type 0
StandsIn area.Shelf rest asked = rest ≡ codes "-/" ++ asked
StandsIn area.Path rest asked = rest ≡ asked

pub area-is : (rest asked : List ℕ) (a : Area) → area_of rest ≡ Some (a, asked) → StandsIn a rest asked
area-is rest asked a h = elim (cases_Bool (is_own rest)) [
  | inl own ↦
      let same : (area.Shelf, drop 2 rest) ≡ (a, asked) = cc (rw own at h) in
      subst (λ (found : Area × List ℕ). StandsIn found.0 rest found.1) same (own-is rest own).0
  | inr other ↦
      let found = if-some (nat_lt 0 (length rest)) (area.Path, rest) (a, asked) (rw other at h) in
      subst (λ (f : Area × List ℕ). StandsIn f.0 rest f.1) found.1 refl
]

-- ---- both

-- a target that is computed to have a route is split at its key, and the rest is in that area
pub routed-is : (text key rest : List ℕ) (a : Area) → routed_of text ≡ Some (a, key, rest)
    → (behind : List ℕ) × IsSplit text key behind × (area_of behind ≡ Some (a, rest))
unfolding routed_of
routed-is text key rest a h =
    let after : List ℕ × List ℕ
    → Option (Area × List ℕ × List ℕ) = λ halves.
    option_map (λ (found : Area × List ℕ). (found.0, halves.0, found.1)) (area_of halves.1) in
    let outer = then-some after (split_of text) (a, key, rest) h in
    let inner = map-some (λ (found : Area × List ℕ). (found.0, (outer.0).0, found.1)) (area_of (outer.0).1)
    (a, key, rest) outer.2 in
    let keys : (outer.0).0 ≡ key = ap (λ (x : Area × List ℕ × List ℕ). x.1) inner.2 in
    let founds : inner.0 ≡ (a, rest) = ap (λ (x : Area × List ℕ × List ℕ). (x.0, x.2)) inner.2 in (
      (outer.0).1,
      subst (λ (k : List ℕ). IsSplit text k (outer.0).1) keys (split-is text (outer.0).0 (outer.0).1 outer.1),
      inner.1 ∙ ap (λ (x : Area × List ℕ). Some x) founds,
    )

pub routed-taken : (text key behind : List ℕ) (found : Area × List ℕ) → IsSplit text key behind
    → area_of behind ≡ Some found
    → routed_of text ≡ Some (found.0, key, found.1)
unfolding routed_of
routed-taken text key behind found is h = rw (split-taken text key behind is, h) refl

-- ---- UTF-8

byte-at : (c : ℕ) (front rest : List ℕ) → get_or (front ++ (c ∷ rest)) (length front) 0 ≡ c
byte-at c [] rest = refl
byte-at c (b ∷ front) rest = byte-at c front rest

-- what stands around an ASCII byte in a text is text
pub around-utf8 : (c : ℕ) (front rest : List ℕ) → c < 128 → IsUtf8 (front ++ (c ∷ rest)) → IsUtf8 front × IsUtf8 rest
around-utf8 c front rest small utf8 =
    let text = front ++ (c ∷ rest) in
    let inside : length front < length text = omega (arith, length-append front (c ∷ rest)) in
    let here : get_or text (length front) 0 ≡ c = byte-at c front rest in
    let ascii : get_or text (length front) 0 < 128 = omega (arith, here) in
    let behind : drop (length front + 1) text ≡ rest =
    ap (drop (length front + 1)) (sym (append_assoc front (c ∷ []) rest))
    ∙ drop_at (front ++ (c ∷ [])) rest (length front + 1) (omega (arith, length-append front (c ∷ []))) in
    let first = IsUtf8-take text (length front) utf8 (IsCharBoundary-before_ascii text (length front) inside ascii) in
    let second = IsUtf8-drop text (length front + 1) utf8
    (IsCharBoundary-after_ascii text (length front) utf8 inside ascii) in (
      subst IsUtf8 (take_at front (c ∷ rest) (length front) refl) first,
      subst IsUtf8 behind second,
    )

-- the halves of a text that is split
pub split-utf8 : (text key rest : List ℕ) → IsSplit text key rest → IsUtf8 text → IsUtf8 key × IsUtf8 rest
split-utf8 text key rest is utf8 =
    let whole : IsUtf8 (codes "/k" ++ (47 ∷ (key ++ (47 ∷ rest)))) = subst IsUtf8 is.whole utf8 in
    around-utf8 47 key rest (omega arith) (around-utf8 47 (codes "/k") (key ++ (47 ∷ rest)) (omega arith) whole).1

-- ---- what the router finds

-- what the parameters of a route took of a target is what is computed of it
pub record IsWalked (target : List ℕ) (route : RouteOf Area) : Type 0 where
  pub key : List ℕ
  pub rest : List ℕ
  pub walked : walk route.pattern route.text target route.names 0 0 ≡ (codes "key", key) ∷ (codes "rest", rest) ∷ []
  pub routed : routed_of target ≡ Some (route.value, key, rest)
  pub texts : IsUtf8 key × IsUtf8 rest

split-of : (target key rest : List ℕ) → Splits target key rest → IsSplit target key rest
split-of target key rest splits = record { whole = splits.whole; some = splits.some_key; no_slash = splits.no_slash }

-- a target that splits is walked by the shelf's route if its rest begins with a plain `-/`, and otherwise by that of
-- paths
walked-by : (target key behind : List ℕ) → Splits target key behind → IsUtf8 target
    → IsWalked target (cond (is_own behind) shelf_route path_route)
walked-by target key behind splits utf8 =
    let is = split-of target key behind splits in
    let texts = split-utf8 target key behind is utf8 in
    elim (cases_Bool (is_own behind)) [
      | inl own ↦
          let after = own-is behind own in
          let asked : area_of behind ≡ Some (area.Shelf, drop 2 behind) = rw own refl in
          rw own (record {
            key = key;
            rest = drop 2 behind;
            walked = walk_shelf target key behind splits (drop 2 behind) after.0;
            routed = routed-taken target key behind (area.Shelf, drop 2 behind) is asked;
            texts = (
              texts.0,
              (around-utf8 47 (codes "-") (drop 2 behind) (omega arith)
                  (subst IsUtf8 after.0 texts.1)).1,
            );
          })
      | inr other ↦
          rw other (record {
            key = key;
            rest = behind;
            walked = walk_path target key behind splits;
            routed = routed-taken target key behind (area.Path, behind) is (area-path behind other splits.some_rest);
            texts = texts;
          })
    ]

pub found-route : (target : List ℕ) (route : RouteOf Area) → AreBytes target → IsUtf8 target
    → first routes target ≡ Some route → IsWalked target route
found-route target route bytes utf8 h =
    let split = splits_of_first shelf_route path_route target route bytes h in
    let found : Some (cond (is_own split.1) shelf_route path_route) ≡ Some route =
    sym (first_of_split shelf_route path_route target split.0 split.1 split.2 bytes) ∙ h in
    let same : cond (is_own split.1) shelf_route path_route ≡ route = cc found in
    subst (IsWalked target) same (walked-by target split.0 split.1 split.2 utf8)

no-route-by : (target : List ℕ) → AreBytes target → first routes target ≡ None
    → (found : Option (Area × List ℕ × List ℕ)) → routed_of target ≡ found → found ≡ None
no-route-by target bytes none None e = refl
no-route-by target bytes none (Some (a, key, rest)) e =
    let is = routed-is target key rest a e in
    let splits : Splits target key is.0 =
    record {
      whole = is.1.whole;
      some_key = is.1.some;
      no_slash = is.1.no_slash;
      some_rest =
          area-some is.0 (a, rest) is.2;
    } in
    cc (first_of_split shelf_route path_route target key is.0 splits bytes, none)

pub no-route : (target : List ℕ) → AreBytes target → first routes target ≡ None → routed_of target ≡ None
no-route target bytes none = no-route-by target bytes none (routed_of target) refl

-- the parameters of a match are the key and then the rest, under their names
pub record AreTaken (target : List ℕ) (a : Area) (pairs : List (List ℕ × List ℕ)) : Type 0 where
  pub key : List ℕ
  pub rest : List ℕ
  pub routed : routed_of target ≡ Some (a, key, rest)
  pub texts : IsUtf8 key × IsUtf8 rest
  pub are : pairs ≡ (codes "key", key) ∷ (codes "rest", rest) ∷ []

-- the parameters of the route that a target matches are its key and its rest
pub found-params : (target path : List ℕ) (route : RouteOf Area) → AreBytes target → IsUtf8 target → path ≡ target
    → first routes target ≡ Some route
    → AreTaken target route.value (walk route.pattern route.text path route.names 0 0)
found-params target path route bytes utf8 same found =
    let walked = found-route target route bytes utf8 found in
    record {
      key = walked.key;
      rest = walked.rest;
      routed = walked.routed;
      texts = walked.texts;
      are = ap (λ (p : List ℕ). walk route.pattern route.text p route.names 0 0) same ∙ walked.walked;
    }

-- the parameter that `next` gives is the first of those that are left, and what it took is shown as it is where that
-- is text
pub next-given : (pairs left more : List (List ℕ × List ℕ)) (p : List ℕ × List ℕ) (name taken shown : List ℕ)
    → pairs ≡ p ∷ left
    → pairs ≡ (name, taken) ∷ more → IsUtf8 taken → Shows p.1 shown → (shown ≡ taken) × (left ≡ more)
next-given pairs left more p name taken shown gives is utf8 shows =
    let same : p ≡ (name, taken) = cc (gives, is) in
    let value : p.1 ≡ taken = ap (λ (x : List ℕ × List ℕ). x.1) same in
    let text : shown ≡ p.1 = shows (subst IsUtf8 (sym value) utf8) in (text ∙ value, cc (gives, is))
