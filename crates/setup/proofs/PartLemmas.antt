-- Some shelves of a world as a world of their own.
use Rattle.std.proofs.Common.{◌≡◌, ◌≢◌, ◌⊎◌, ℕ, ◌≤◌, List, [], ◌∷◌, ◌++◌, Bool, true, false, cond, refl, ◌∙◌, sym, ap}
use Rattle.std.proofs.Common.{subst, Option, Some, None, length, get_or, zero, suc, ◌<◌, inl, inr, arith, true≢false}
use Rattle.std.specs.Prelude.{bytes_eq, ◌&&◌, ◌||◌, is_some, map as each}
use Rattle.std.specs.FinMap as map
use Rattle.std.proofs.lemmas.Bool.{and_parts, and_from, or_left, or_right, or_cases}
use Rattle.sqlite_rules.specs.Lists.{Has}
use Rattle.sqlite_rules.proofs.ListLemmas.{some_from, some_has, has_either, has_at}
use Rattle.sqlite_rules.proofs.ProbeLemmas.{mapped_has}
use Rattle.world.specs.declared.entry.Place.{Place}
use Rattle.world.specs.declared.entry.Entry.{Entry}
use Rattle.world.specs.declared.entry.Holder.{Holder}
use Rattle.world.specs.World.{World, IsWorld, common, chain, above, group_in, is_among, sees, place_cmp, count}
use Rattle.world.specs.World.{version_limit}
use Rattle.world.specs.Part.{IsTeam, is_held}
use Rattle.world.proofs.Ties.{neither}
use Rattle.world.proofs.Orders.{texts_total, texts_exact, places_total, places_exact, text_self, text_same, test_alike}
use Rattle.world.proofs.Parts.{text_alike, some_left, passed, still, gone}
use Rattle.world.proofs.Sees.{sees_common, sees_parent, sees_through, only_common}
use Rattle.statements.specs.Shelves.{names_of, added, AreShelves}
use Rattle.statements.specs.declared.shelf_list.Shelf.{Shelf}
use Rattle.statements.proofs.ShelfListLemmas.{or_apart, added_names, added_has}
use Rattle.setup.specs.Parts.{part_of, part_of_teams, chains, AreOf, AddsTeam, ListsTeams}

pub is_there : (ss : List (List ℕ)) (s : List ℕ) → Has ss s → is_among ss s ≡ true
is_there ss s h = some_from (bytes_eq s) ss s h (text_self s)

pub has_there : (ss : List (List ℕ)) (s : List ℕ) → is_among ss s ≡ true → Has ss s
has_there ss s among = let it = some_has (bytes_eq s) ss among in subst (Has ss) (sym (text_same s it.0 it.2)) it.1

-- ---- what a part has

module _ (w : World) (ss : List (List ℕ)) where
  pub parent_at : (s : List ℕ) → map.get (part_of w ss).shelves s ≡ cond (is_among ss s) (map.get w.shelves s) None
  parent_at s = map.get-retain_keys w.shelves (is_among ss) s (text_alike (is_among ss) s)

  shelf_at : (s : List ℕ) → map.contains_key (part_of w ss).shelves s ≡ (map.contains_key w.shelves s && is_among ss s)
  shelf_at s = ap is_some (parent_at s) ∙ some_left (is_among ss s) (map.get w.shelves s)

  parent_left : (s : List ℕ) → is_among ss s ≡ true → map.get (part_of w ss).shelves s ≡ map.get w.shelves s
  parent_left s among = parent_at s ∙ ap (λ b. cond b (map.get w.shelves s) None) among

  pub key_at : (k : List ℕ)
      → map.get (part_of w ss).keys k ≡ cond (is_held ss (map.get w.keys k)) (map.get w.keys k) None
  key_at k = let test : List ℕ
      → Bool = λ j. is_held ss (map.get w.keys j) in map.get-retain_keys w.keys test k (text_alike test k)

  pub entry_at : (q : Place) → map.get (part_of w ss).entries q ≡ cond (is_among ss q.shelf) (map.get w.entries q) None
  entry_at q = let test : Place
      → Bool = λ r. is_among ss r.shelf in map.get-retain_keys w.entries test q (test_alike test q)

  pub held_key : (k : List ℕ) (h : Holder) → map.get (part_of w ss).keys k ≡ Some h
      → (map.get w.keys k ≡ Some h) × (is_among ss h.shelf ≡ true)
  held_key k h at =
      let it = passed (is_held ss (map.get w.keys k)) (map.get w.keys k) h (sym (key_at k) ∙ at) in
      (it.1, sym (ap (is_held ss) it.1) ∙ it.0)

  pub held_entry : (q : Place) (e : Entry) → map.get (part_of w ss).entries q ≡ Some e
      → (map.get w.entries q ≡ Some e) × (is_among ss q.shelf ≡ true)
  held_entry q e at = let it = passed (is_among ss q.shelf) (map.get w.entries q) e (sym (entry_at q) ∙ at) in
      (it.1, it.0)

-- ---- how many versions of a path

-- a part has at most as many versions of a path on a shelf as are allowed, if the world does
few_left : (w : World) (ss : List (List ℕ)) (s p : List ℕ) → count w s p ≤ version_limit
    → count (part_of w ss) s p ≤ version_limit
few_left w ss s p few =
    let test : Place → Bool = λ q. bytes_eq q.shelf s && bytes_eq q.path p in
    let at : (q : Place) → map.get (map.retain_keys (part_of w ss).entries test) q
    ≡ cond (test q) (cond (is_among ss q.shelf) (map.get w.entries q) None) None =
    λ q. map.get-retain_keys (part_of w ss).entries test q (test_alike test q)
    ∙ ap (λ o. cond (test q) o None) (entry_at w ss q) in
    let here : (q : Place) → test q ≡ true
    → is_among ss q.shelf ≡ is_among ss s = λ q e.
    ap (is_among ss) (text_same q.shelf s (and_parts (bytes_eq q.shelf s) (bytes_eq q.path p) e).0) in
    elim (is_among ss s) as (λ b. is_among ss s ≡ b → count (part_of w ss) s p ≤ version_limit) [
      | true ↦ λ among.
          let same : count (part_of w ss) s p ≡ count w s p =
          ap map.len (map.same_map places_total places_exact _ _ (λ q.
          at q ∙ still (test q) (is_among ss q.shelf) (map.get w.entries q) (λ e. here q e ∙ among)
          ∙ sym (map.get-retain_keys w.entries test q (test_alike test q)))) in
          omega (arith, same, few)
      | false ↦ λ apart.
          let none : count (part_of w ss) s p ≡ 0 = ap map.len (map.same_map places_total places_exact _ map.empty (λ q.
          at q ∙ gone (test q) (is_among ss q.shelf) (map.get w.entries q) (λ e. here q e ∙ apart)
          ∙ sym (map.get-empty place_cmp q))) ∙ map.len-empty place_cmp Entry in
          omega (arith, none)
    ] refl

-- ---- a part is a world, if `common` and each parent are among its shelves

-- the part of a world is a world, if its shelves include `common` and the parent of each of them
pub part_of_is_world : (w : World) (ss : List (List ℕ)) → IsWorld w → is_among ss common ≡ true
    → ((t parent : List ℕ) → is_among ss t ≡ true → map.get w.shelves t ≡ Some (Some parent)
    → is_among ss parent ≡ true) → IsWorld (part_of w ss)
part_of_is_world w ss is first closed = record {
  has_common = parent_left w ss common first ∙ is.has_common;
  team_names = λ s at. is.team_names s
      (and_parts (map.contains_key w.shelves s) (is_among ss s) (sym (shelf_at w ss s) ∙ at)).0;
  parents = λ s parent at.
      let it = passed (is_among ss s) (map.get w.shelves s) (Some parent) (sym (parent_at w ss s) ∙ at) in
      parent_left w ss parent (closed s parent it.0 it.1) ∙ is.parents s parent it.1;
  key_names = λ k h at. is.key_names k h (held_key w ss k h at).0;
  keys_stand = λ k h at. let it = held_key w ss k h at in shelf_at w ss h.shelf
      ∙ and_from _ _ (is.keys_stand k h it.0) it.1;
  entries_fit = λ q e at. is.entries_fit q e (held_entry w ss q e at).0;
  entries_stand = λ q e at. let it = held_entry w ss q e at in shelf_at w ss q.shelf
      ∙ and_from _ _ (is.entries_stand q e it.0) it.1;
  few = λ s p. few_left w ss s p (is.few s p);
}

-- ---- the part of shelves by other names, and of all shelves

held_same : (ss us : List (List ℕ)) → ((s : List ℕ) → is_among ss s ≡ is_among us s) → (o : Option Holder)
    → is_held ss o ≡ is_held us o
held_same ss us same None = refl
held_same ss us same (Some h) = same h.shelf

pub part_same : (w : World) (ss us : List (List ℕ)) → ((s : List ℕ) → is_among ss s ≡ is_among us s)
    → part_of w ss ≡ part_of w us
part_same w ss us same = λ i. record {
  keys = map.retain_keys w.keys (λ k. held_same ss us same (map.get w.keys k) i);
  shelves = map.retain_keys w.shelves (λ s. same s i);
  entries = map.retain_keys w.entries (λ q. same q.shelf i);
}

whole : {X : Type 0} (b : Bool) (o : Option X) → ((x : X) → o ≡ Some x → b ≡ true) → cond b o None ≡ o
whole b None h = neither b
whole true (Some x) h = refl
whole false (Some x) h = absurd (true≢false (sym (h x refl)))

pub part_all : (w : World) (ss : List (List ℕ)) → IsWorld w
    → ((s : List ℕ) → map.contains_key w.shelves s ≡ true → is_among ss s ≡ true) → part_of w ss ≡ w
part_all w ss is all =
    let keys : (part_of w ss).keys ≡ w.keys =
    map.same_map texts_total texts_exact _ _
    (λ k. key_at w ss k ∙ whole (is_held ss (map.get w.keys k)) (map.get w.keys k)
    (λ h at. ap (is_held ss) at ∙ all h.shelf (is.keys_stand k h at))) in
    let shelves : (part_of w ss).shelves ≡ w.shelves =
    map.same_map texts_total texts_exact _ _
    (λ s. parent_at w ss s ∙ whole (is_among ss s) (map.get w.shelves s) (λ o at. all s (ap is_some at))) in
    let entries : (part_of w ss).entries ≡ w.entries =
    map.same_map places_total places_exact _ _
    (λ q. entry_at w ss q ∙ whole (is_among ss q.shelf) (map.get w.entries q)
    (λ e at. all q.shelf (is.entries_stand q e at))) in
    λ i. record { keys = keys i; shelves = shelves i; entries = entries i }

-- ---- the shelves that some teams see

pub among_either : (xs ys : List (List ℕ)) (s : List ℕ) → is_among (xs ++ ys) s ≡ (is_among xs s || is_among ys s)
among_either [] ys s = refl
among_either (x ∷ xs) ys s = ap (λ b. bytes_eq s x || b) (among_either xs ys s)
    ∙ or_apart (bytes_eq s x) (is_among xs s) (is_among ys s)

pub chains_common : (w : World) (ts : List (List ℕ)) → is_among (chains w ts) common ≡ true
chains_common w [] = or_left (bytes_eq common common) false (text_self common)
chains_common w (t ∷ ts) = among_either (chain w t) (chains w ts) common ∙ or_left _ _ (sees_common w t)

-- each of these shelves is seen by one of the teams, or is `common`
pub chains_from : (w : World) (ts : List (List ℕ)) (s : List ℕ) → is_among (chains w ts) s ≡ true
    → (s ≡ common) ⊎ ((t : List ℕ) × Has ts t × (sees w t s ≡ true))
chains_from w [] s among = inl (only_common s among)
chains_from w (t ∷ ts) s among =
    elim (or_cases (is_among (chain w t) s) _ (sym (among_either (chain w t) (chains w ts) s) ∙ among)) [
      | inl here ↦ inr (t, inl refl, here)
      | inr rest ↦ elim (chains_from w ts s rest) [ inl is ↦ inl is | inr it ↦ inr (it.0, inr it.1, it.2) ]
    ]

pub chains_has : (w : World) (ts : List (List ℕ)) (t s : List ℕ) → Has ts t → sees w t s ≡ true
    → is_among (chains w ts) s ≡ true
chains_has w [] t s h seen = absurd h
chains_has w (u ∷ ts) t s (inl same) seen = among_either (chain w u) (chains w ts) s
    ∙ or_left _ _ (subst (λ v. sees w v s ≡ true) same seen)
chains_has w (u ∷ ts) t s (inr later) seen = among_either (chain w u) (chains w ts) s
    ∙ or_right _ _ (chains_has w ts t s later seen)

no_parent : (parent : List ℕ) → ◌≡◌ {A = Option (Option (List ℕ))} (Some None) (Some (Some parent)) → ⊥
no_parent parent e = cc e

pub chains_closed : (w : World) → IsWorld w → (ts : List (List ℕ)) (s parent : List ℕ)
    → is_among (chains w ts) s ≡ true → map.get w.shelves s ≡ Some (Some parent) → is_among (chains w ts) parent ≡ true
chains_closed w is ts s parent among at = elim (chains_from w ts s among) [
  | inl same ↦ absurd (no_parent parent (sym is.has_common ∙ (ap (map.get w.shelves) (sym same) ∙ at)))
  | inr it ↦ chains_has w ts it.0 parent it.1 (sees_through w is it.0 s parent it.2 (sees_parent w s parent at))
]

pub chains_world : (w : World) (ts : List (List ℕ)) → IsWorld w → IsWorld (part_of w (chains w ts))
chains_world w ts is = part_of_is_world w (chains w ts) is (chains_common w ts) (chains_closed w is ts)

-- a second truth that implies the first adds nothing to it
or_taken : (a b : Bool) → (b ≡ true → a ≡ true) → (a || b) ≡ a
or_taken true b h = refl
or_taken false true h = sym (h refl)
or_taken false false h = refl

-- the shelves that one team sees are its chain
pub one_chain : (w : World) (t s : List ℕ) → is_among (chains w (t ∷ [])) s ≡ is_among (chain w t) s
one_chain w t s = among_either (chain w t) (common ∷ []) s
    ∙ or_taken _ _ (λ is. ap (is_among (chain w t)) (only_common s is) ∙ sees_common w t)

-- one more team adds its chain
pub chains_more : (w : World) (ts : List (List ℕ)) (t s : List ℕ)
    → is_among (chains w (ts ++ t ∷ [])) s ≡ (is_among (chains w ts) s || is_among (chain w t) s)
chains_more w [] t s = one_chain w t s
    ∙ sym (first (is_among (common ∷ []) s) (is_among (chain w t) s)
    (λ is. ap (is_among (chain w t)) (only_common s is) ∙ sees_common w t))
  where
    first : (a b : Bool) → (a ≡ true → b ≡ true) → (a || b) ≡ b
    first true b h = sym (h refl)
    first false b h = refl
chains_more w (u ∷ ts) t s =
    among_either (chain w u) (chains w (ts ++ t ∷ [])) s
    ∙ (ap (λ b. is_among (chain w u) s || b) (chains_more w ts t s)
    ∙ (or_apart (is_among (chain w u) s) (is_among (chains w ts) s) (is_among (chain w t) s)
    ∙ ap (λ b. b || is_among (chain w t) s) (sym (among_either (chain w u) (chains w ts) s))))

-- ---- a parent and then its team

or_itself : (b : Bool) → (b || false) ≡ (b || (b || false))
or_itself true = refl
or_itself false = refl

above_names : (parent s : List ℕ)
    → is_among (above (group_in (Some (Some parent)))) s ≡ (bytes_eq s parent || (bytes_eq s common || false))
above_names parent s =
    elim (bytes_eq parent common) as
    (λ b. bytes_eq parent common ≡ b
    → is_among (above (cond b None (Some parent))) s ≡ (bytes_eq s parent || (bytes_eq s common || false))) [
      | true ↦ λ same. or_itself (bytes_eq s common)
          ∙ ap (λ u. bytes_eq s u || (bytes_eq s common || false)) (sym (text_same parent common same))
      | false ↦ λ _. refl
    ] refl

pub chain_names : (w : World) (t parent s : List ℕ) → map.get w.shelves t ≡ Some (Some parent)
    → is_among (chain w t) s ≡ (bytes_eq s t || (bytes_eq s parent || (bytes_eq s common || false)))
chain_names w t parent s at = ap (λ o. is_among (t ∷ above (group_in o)) s) at
    ∙ ap (λ b. bytes_eq s t || b) (above_names parent s)

-- ---- shelves that are chosen

or_of_team : (a p t c : Bool) → (c ≡ true → a ≡ true) → ((a || p) || t) ≡ (a || (t || (p || (c || false))))
or_of_team true p t c h = refl
or_of_team false true true c h = refl
or_of_team false true false c h = refl
or_of_team false false true c h = refl
or_of_team false false false true h = h refl
or_of_team false false false false h = refl

abbrev of_parent : List ℕ → Shelf
of_parent parent = record { name = parent; parent = None }

abbrev of_team : List ℕ → List ℕ → Shelf
of_team t parent = record { name = t; parent = Some parent }

-- a parent and then its team are added
module _ (w : World) (is : IsWorld w) (done : List (List ℕ)) (shelves : List Shelf) (t parent : List ℕ)
    (at : map.get w.shelves t ≡ Some (Some parent)) (of : AreOf w (chains w done) shelves) where
  abbrev with_parent : List Shelf
  with_parent = added shelves (of_parent parent)

  team_are : AreShelves w (added with_parent (of_team t parent))
  team_are s h = elim (added_has with_parent (of_team t parent) s h) [
    | inl before ↦ elim (added_has shelves (of_parent parent) s before) [
      | inl was ↦ of.are s was
      | inr it ↦ subst (λ (u : Shelf). map.get w.shelves u.name ≡ Some u.parent) (sym it) (is.parents t parent at)
    ]
    | inr it ↦ subst (λ (u : Shelf). map.get w.shelves u.name ≡ Some u.parent) (sym it) at
  ]

  team_names : (s : List ℕ)
      → is_among (common ∷ names_of (added with_parent (of_team t parent))) s ≡ is_among (chains w (done ++ t ∷ [])) s
  team_names s =
      added_names with_parent (of_team t parent) s
      ∙ (ap (λ b. b || bytes_eq s t) (added_names shelves (of_parent parent) s)
      ∙ (or_of_team (is_among (common ∷ names_of shelves) s) (bytes_eq s parent) (bytes_eq s t) (bytes_eq s common)
      (λ first. or_left (bytes_eq s common) _ first)
      ∙ (ap (λ b. b || (bytes_eq s t || (bytes_eq s parent || (bytes_eq s common || false)))) (of.same s)
      ∙ (ap (λ b. is_among (chains w done) s || b) (sym (chain_names w t parent s at))
      ∙ sym (chains_more w done t s)))))

  pub team_of : AreOf w (chains w (done ++ t ∷ [])) (added with_parent (of_team t parent))
  team_of = record { are = team_are; same = team_names }

-- with no teams, the shelves are `common` alone, for which the list is empty
pub none_of : (w : World) → AreOf w (chains w []) []
none_of w = record { are = λ s none. absurd none; same = λ s. refl }

-- ---- one team after another

-- the names so far are those of teams, and the shelves are those that they see
abbrev pub SeenSoFar : World → List (List ℕ) → List Shelf → Type 0
SeenSoFar w done shelves = ((t : List ℕ) → Has done t → IsTeam w t) × AreOf w (chains w done) shelves

pub none_so_far : (w : World) → SeenSoFar w [] []
none_so_far w = (λ t none. absurd none, none_of w)

-- with the shelves of one more team, the names and the shelves so far are those of one team more
pub one_so_far : (w : World) → IsWorld w → (done : List (List ℕ)) (shelves more : List Shelf) (t : List ℕ)
    → AddsTeam w t shelves (Some more) → SeenSoFar w done shelves → SeenSoFar w (done ++ t ∷ []) more
one_so_far w is done shelves more t adds seen = (
  (λ u there. elim (has_either done (t ∷ []) u there) [
    | inl was ↦ seen.0 u was
    | inr (inl same) ↦ subst (IsTeam w) (sym same) (adds.0, adds.1)
    | inr (inr none) ↦ absurd none
  ]),
  subst (AreOf w (chains w (done ++ t ∷ []))) (sym adds.2) (team_of w is done shelves t adds.0 adds.1 seen.1),
)

-- once all names are walked over, the shelves are those that all the teams see
pub all_so_far : (w : World) (ts : List (List ℕ)) (shelves : List Shelf) → ts ≢ [] → SeenSoFar w ts shelves
    → ListsTeams w ts (Some shelves)
all_so_far w ts shelves some seen = ((some, seen.0), seen.1)

-- if one name is not a team's, there is no list
pub not_all : (w : World) (ts : List (List ℕ)) (t : List ℕ) (shelves : List Shelf) → Has ts t
    → AddsTeam w t shelves None → ListsTeams w ts None
not_all w ts t shelves there none = λ are. none (are.1 t there)

-- the shelves of the list, with `common`, make the part of the teams
pub listed_part : (w : World) (ts : List (List ℕ)) (shelves : List Shelf) → ListsTeams w ts (Some shelves)
    → part_of w (common ∷ names_of shelves) ≡ part_of_teams ts w
listed_part w ts shelves lists = part_same w (common ∷ names_of shelves) (chains w ts) lists.1.same

-- ---- whether a team is named

pub not_cons : (t : List ℕ) (ts : List (List ℕ)) → t ∷ ts ≡ [] → ⊥
not_cons t ts e = cc e

pub some_named : {X : Type 0} (f : X → List ℕ) (xs : List X) → (length xs ≡ 0 → ⊥) → each f xs ≢ []
some_named f [] some = λ _. some refl
some_named f (x ∷ xs) some = not_cons (f x) (each f xs)

pub adds_both : (shelves behind more : List Shelf) (parent team a t : List ℕ) → a ≡ parent → t ≡ team
    → behind ≡ added shelves (of_parent a) → more ≡ added behind (of_team t parent)
    → more ≡ added (added shelves (of_parent parent)) (of_team team parent)
adds_both shelves behind more parent team a t one two first then =
    let parented : behind ≡ added shelves (of_parent parent) = first ∙ ap (λ n. added shelves (of_parent n)) one in
    then ∙ (λ i. added (parented i) (of_team (two i) parent))

got_some : {X : Type 0} (xs : List X) (i : ℕ) (d e : X) → i < length xs → get_or xs i d ≡ get_or xs i e
got_some [] i d e within = absurd (omega (arith, within))
got_some (x ∷ xs) zero d e within = refl
got_some (x ∷ xs) (suc i) d e within = got_some xs i d e (omega (arith, within))

-- the name at an index within the list is among the names
pub has_named : {X : Type 0} (f : X → List ℕ) (xs : List X) (i : ℕ) (d : X) → i < length xs
    → Has (each f xs) (f (get_or xs i d))
has_named f xs i d within =
    mapped_has f xs (get_or xs i d) (has_at xs i (get_or xs i d) within (got_some xs i d (get_or xs i d) within))

-- a walk that is past the end of a list that is not empty has taken a step
pub past_none : (n i : ℕ) → (n ≡ 0 → ⊥) → n ≤ i → 0 < i
past_none n zero some le = absurd (some (omega (arith, le)))
past_none n (suc i) some le = omega arith
