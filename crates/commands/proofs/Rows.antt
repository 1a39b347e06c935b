-- The rows of an inventory are whole: one for each path and version that the shelf sees.
use Rattle.std.proofs.Common.{◌≡◌, ℕ, List, [], ◌∷◌, ◌++◌, Bool, true, false, cond, refl, ◌∙◌, sym, ap, subst, Option}
use Rattle.std.proofs.Common.{Some, None, inl, inr}
use Rattle.std.specs.Prelude.{◌&&◌, Contains, filter, bytes_eq, is_some, map as each}
use Rattle.std.specs.Cmp.{IsTotalOrder, tied_itself}
use Rattle.std.specs.FinMap as map
use Rattle.std.specs.FinMap.Entries.{below_all}
use Rattle.std.specs.FinSet as set
use Rattle.std.specs.List.{flat_map}
use Rattle.std.specs.Ordering.{eq_by_cmp, is_eq}
use Rattle.std.specs.declared.cmp.Ordering.{Ordering}
use Rattle.std.proofs.lemmas.Bool.{true≢false, false_from_ne_true}
use Rattle.std.proofs.lemmas.List.{append-nil}
use Rattle.std.proofs.lemmas.List.Elements.{Contains-append_cases, filter-append}
use Rattle.std.proofs.lemmas.Map.Views.{tells_apart}
use lib.Dec.{T}
use Rattle.modver.proofs.Readings.{text-one, version-of}
use Rattle.modver.specs.SemanticVersion.{SemanticVersion, IsVersion, version_text}
use Rattle.world.specs.declared.entry.Holder.{Holder}
use Rattle.world.specs.declared.entry.Seen.{Seen}
use Rattle.world.specs.Forms.{is_path, path_of}
use Rattle.world.specs.Lines.{in_order}
use Rattle.world.specs.Versions.{by_precedence, named, version_cmp, versions_of, versions_total}
use Rattle.world.specs.Visible.{IsSeen, paths_seen, versions_seen}
use Rattle.world.specs.World.{World, IsWorld, text_cmp, view}
use Rattle.world.proofs.InOrder.{first, second}
use Rattle.world.proofs.Ties.{is_apart}
use Rattle.world.proofs.Members.{no_member, first_member, later_member, member_cases, in_order_of}
use Rattle.world.proofs.Orders.{texts_total, texts_exact, text_self, text_same}
use Rattle.world.proofs.Places.{seen_places_read}
use Rattle.world.proofs.Seen.{contains_paths}
use Rattle.world.proofs.SeenVersions.{seen_members}
use Rattle.world.proofs.VersionOrder.{versions_exact}
use Rattle.commands.specs.Inventory.{row_of, row_at, rows_of_path, rows_at, rows_of_text, rows_seen, inventory_of}
use Rattle.commands.specs.Inventory.{inventory_of_shelf}
use Rattle.commands.specs.Rows.{is_of, HasOneRow, RowsAreWhole, TellsAll}
use Rattle.commands.specs.declared.inventory.InventoryRow.{InventoryRow}

-- ---- what is gathered from one member of a set

module _ {K B : Type 0} {R : K → K → Ordering} (o : IsTotalOrder R) (exact : map.IsAntisymmetric R) (f : K → List B)
    (k : K) where
  -- nothing is gathered from the other members
  abbrev pub OfNoOther : List K → Type 0
  OfNoOther ks = (x : K) → Contains ks x → eq_by_cmp R k x ≡ false → f x ≡ []

  none_above : (es : List (K × Unit {0})) → T (below_all R k es) → OfNoOther (each (λ e. e.0) es)
      → flat_map f (each (λ e. e.0) es) ≡ []
  none_above [] below others = refl
  none_above (e ∷ es) below others =
      ap (λ l. l ++ flat_map f (each (λ x. x.0) es))
      (others e.0 (first_member e.0 (each (λ x. x.0) es)) (is_apart (R k e.0) (first _ _ below)))
      ∙ none_above es (second _ _ below) (λ x at. others x (later_member e.0 x (each (λ y. y.0) es) at))

  -- gathering from sorted members gives what one of them gives, if the others give nothing
  just_one : (es : List (K × Unit {0})) → T (map.is_sorted R es) → Contains (each (λ e. e.0) es) k
      → OfNoOther (each (λ e. e.0) es) → flat_map f (each (λ e. e.0) es) ≡ f k
  just_one [] up at others = absurd (no_member k at)
  just_one (e ∷ es) up at others =
      let rest = each (λ (x : K × Unit {0}). x.0) es in
      let later : OfNoOther rest = λ x there. others x (later_member e.0 x rest there) in
      elim (eq_by_cmp R k e.0) as (λ b. eq_by_cmp R k e.0 ≡ b → f e.0 ++ flat_map f rest ≡ f k) [
        | true ↦ λ tie.
            let same : k ≡ e.0 = tells_apart exact k e.0 tie in
            ap (λ l. f e.0 ++ l) (none_above es (subst (λ x. T (below_all R x es)) (sym same) (first _ _ up)) later)
            ∙ append-nil (f e.0) ∙ ap f (sym same)
        | false ↦ λ apart.
            let there : Contains rest k = elim (member_cases e.0 k rest at) [
              | inl same ↦ absurd (true≢false
                  (sym (ap is_eq (tied_itself o k)) ∙ ap (eq_by_cmp R k) (sym same) ∙ apart))
              | inr more ↦ more
            ] in
            ap (λ l. l ++ flat_map f rest) (others e.0 (first_member e.0 rest) apart)
            ∙ just_one es (second _ _ up) there later
      ] refl

  pub of_one : (s : set.FinSet R) → Contains (in_order s) k → OfNoOther (in_order s) → flat_map f (in_order s) ≡ f k
  unfolding in_order
  of_one s at others = just_one _ (map.entries_sorted _) at others

module _ {X B : Type 0} where
  filter_each : (p : B → Bool) (g : X → List B) (xs : List X)
      → filter p (flat_map g xs) ≡ flat_map (λ x. filter p (g x)) xs
  filter_each p g [] = refl
  filter_each p g (x ∷ xs) = filter-append p (g x) (flat_map g xs) ∙ ap (λ l. filter p (g x) ++ l) (filter_each p g xs)

  nothing_of_all : (g : X → List B) (xs : List X) → ((x : X) → g x ≡ []) → flat_map g xs ≡ []
  nothing_of_all g [] none = refl
  nothing_of_all g (x ∷ xs) none = ap (λ l. l ++ flat_map g xs) (none x) ∙ nothing_of_all g xs none

  member_of_one : (g : X → List B) (xs : List X) (y : B) → Contains (flat_map g xs) y → (x : X) × Contains (g x) y
  member_of_one g [] y at = absurd (no_member y at)
  member_of_one g (x ∷ xs) y at =
      elim (Contains-append_cases (g x) (flat_map g xs) y at) [
        | inl here ↦ (x, here)
        | inr later ↦ member_of_one g xs y later
      ]

-- ---- each path and version has one row

-- texts that a set tells apart are different
other_text : (p x : List ℕ) → eq_by_cmp text_cmp p x ≡ false → bytes_eq x p ≡ false
other_text p x apart = false_from_ne_true (bytes_eq x p) (λ same.
    true≢false (sym (ap is_eq (tied_itself texts_total p)) ∙ ap (eq_by_cmp text_cmp p) (sym (text_same x p same))
    ∙ apart))

not_of : (p t q : List ℕ) (v : SemanticVersion) (o : Option Seen)
    → (bytes_eq q p && bytes_eq (version_text v) t) ≡ false → filter (is_of p t) (row_of q v o) ≡ []
not_of p t q v None other = refl
not_of p t q v (Some e) other = ap (λ b. cond b (row_of q v (Some e)) []) other

none_of_path : (w : World) (s p t q : List ℕ) → bytes_eq q p ≡ false → filter (is_of p t) (rows_of_path w s q) ≡ []
none_of_path w s p t q apart =
    filter_each (is_of p t) (row_at w s q) (versions_of w s q)
    ∙ nothing_of_all (λ v. filter (is_of p t) (row_at w s q v)) (versions_of w s q) (λ v.
    not_of p t q v (view w s q (version_text v)) (ap (λ b. b && bytes_eq (version_text v) t) apart))

none_of_text : (w : World) (s p t x : List ℕ) → bytes_eq x p ≡ false → filter (is_of p t) (rows_of_text w s x) ≡ []
none_of_text w s p t x apart =
    elim (is_path x) as (λ b. filter (is_of p t) (rows_at w s (cond b (Some x) None)) ≡ []) [
      | true ↦
          none_of_path w s p t x apart
      | false ↦ refl
    ]

module _ (w : World) (is : IsWorld w) (s p t : List ℕ) (seen : Seen) (found : view w s p t ≡ Some seen) where
  at_path : filter (is_of p t) (rows_seen w s) ≡ filter (is_of p t) (rows_of_text w s p)
  at_path =
      filter_each (is_of p t) (rows_of_text w s) (in_order (paths_seen w s))
      ∙ of_one texts_total texts_exact (λ x. filter (is_of p t) (rows_of_text w s x)) p (paths_seen w s)
      (in_order_of texts_total texts_exact (paths_seen w s) p ((contains_paths w s p).1 (t, ap is_some found)))
      (λ x _ apart. none_of_text w s p t x (other_text p x apart))

  -- the version that the text names
  module _ (v : SemanticVersion) (valid : IsVersion v) (text : version_text v ≡ t) where
    other_version : (u : SemanticVersion) → IsVersion u → eq_by_cmp version_cmp v u ≡ false
        → (bytes_eq p p && bytes_eq (version_text u) t) ≡ false
    other_version u other apart =
        ap (λ b. b && bytes_eq (version_text u) t) (text_self p)
        ∙ false_from_ne_true (bytes_eq (version_text u) t) (λ same.
        let is_v : u ≡ v = text-one u v other valid (text_same (version_text u) t same ∙ sym text) in
        true≢false (sym (ap is_eq (tied_itself versions_total v)) ∙ ap (eq_by_cmp version_cmp v) (sym is_v) ∙ apart))

    at_version : filter (is_of p t) (rows_of_path w s p) ≡ filter (is_of p t) (row_at w s p v)
    at_version =
        let members = seen_members w is s p in
        filter_each (is_of p t) (row_at w s p) (versions_of w s p)
        ∙ of_one versions_total versions_exact (λ u. filter (is_of p t) (row_at w s p u)) v
        (by_precedence (named (in_order (versions_seen w s p))))
        ((members v).1 (valid, subst (IsSeen w s p) (sym text) (seen, found)))
        (λ u there apart. not_of p t p u (view w s p (version_text u)) (other_version u ((members u).0 there).0 apart))

    row_there : filter (is_of p t) (row_at w s p v) ≡ row_of p v (Some seen)
    row_there =
        let both : (bytes_eq p p && bytes_eq (version_text v) t) ≡ true =
        ap (λ b. b && bytes_eq (version_text v) t) (text_self p) ∙ ap (λ x. bytes_eq x t) text ∙ text_self t in
        ap (λ o. filter (is_of p t) (row_of p v o)) (ap (view w s p) text ∙ found)
        ∙ ap (λ b. cond b (row_of p v (Some seen)) []) both

  -- a version that the shelf sees has exactly one row
  one_row : HasOneRow (rows_seen w s) p t seen
  one_row =
      let reads = seen_places_read w s p t is (seen, found) in
      let valid = ((version-of t reads.named).0 reads.as_version).valid in
      record {
        version = reads.named;
        text = reads.text;
        one =
            at_path ∙ ap (λ o. filter (is_of p t) (rows_at w s o)) reads.as_path
            ∙ at_version reads.named valid reads.text ∙ row_there reads.named valid reads.text;
      }

-- ---- each row is of a version that is seen

row_is_seen : (w : World) (s p : List ℕ) (v : SemanticVersion) (r : InventoryRow) (o : Option Seen)
    → view w s p (version_text v) ≡ o → Contains (row_of p v o) r → IsSeen w s r.path (version_text r.version)
row_is_seen w s p v r None none at = absurd (no_member r at)
row_is_seen w s p v r (Some e) seen at = elim (member_cases _ r [] at) [
  | inl same ↦ subst (λ (x : InventoryRow). IsSeen w s x.path (version_text x.version)) same (e, seen)
  | inr never ↦ absurd (no_member r never)
]

text_is_seen : (w : World) (s : List ℕ) (r : InventoryRow) (o : Option (List ℕ)) → Contains (rows_at w s o) r
    → IsSeen w s r.path (version_text r.version)
text_is_seen w s r None at = absurd (no_member r at)
text_is_seen w s r (Some p) at =
    let of = member_of_one (row_at w s p) (versions_of w s p) r at in
    row_is_seen w s p of.0 r (view w s p (version_text of.0)) refl of.1

rows_are_seen : (w : World) (s : List ℕ) (r : InventoryRow) → Contains (rows_seen w s) r
    → IsSeen w s r.path (version_text r.version)
rows_are_seen w s r at = let of = member_of_one (rows_of_text w s) (in_order (paths_seen w s)) r at in
    text_is_seen w s r (path_of of.0) of.1

pub rows_are_whole : RowsAreWhole
rows_are_whole w s is = record {
  each = λ p t seen found. one_row w is s p t seen found;
  no_other = λ r at.
      rows_are_seen w s r at;
}

-- the inventory of a key is whole
pub tells_all : (w : World) (key text : List ℕ) → IsWorld w → Some text ≡ inventory_of w (map.get w.keys key)
    → TellsAll w key text
tells_all w key text is says = by_holder (map.get w.keys key) refl says
  where
    by_holder : (o : Option Holder) → map.get w.keys key ≡ o → Some text ≡ inventory_of w o → TellsAll w key text
    by_holder None none e = cc e
    by_holder (Some h) found e =
        let same : text ≡ inventory_of_shelf w h.shelf = cc e in
        record {
          holder = h;
          has_key = found;
          rows = rows_seen w h.shelf;
          told = same;
          whole =
              rows_are_whole w h.shelf is;
        }
