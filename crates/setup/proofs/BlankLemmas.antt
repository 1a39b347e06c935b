-- Whether a store has `common` alone.
use Rattle.std.proofs.Common.{◌≡◌, ◌≢◌, ℕ, Bool, true, false, not, List, [], ◌∷◌, Option, Some, None, is_some, inl, inr}
use Rattle.std.proofs.Common.{refl, sym, ap, subst, ◌∙◌, Decides, true≢false}
use Rattle.std.specs.FinMap as map
use Rattle.std.specs.Prelude.{bytes_eq}
use Rattle.std.proofs.lemmas.Bool.{and_parts, cases_Bool, false_from_ne_true}
use Rattle.sqlite.specs.declared.types.Value.TheVariants.{Text}
use Rattle.sqlite.specs.Collation.TheVariants.{Binary}
use Rattle.sqlite_sql.specs.declared.ops.BinaryOp.TheVariants.{Compare}
use Rattle.sqlite_sql.specs.declared.ops.CompareOp.TheVariants.{Ne}
use Rattle.sqlite_schema.specs.Rules.{equal, differ}
use Rattle.sqlite.specs.Order.{Row}
use Rattle.sqlite.specs.Term.{Term, col, op2}
use Rattle.sqlite.specs.Effect.{Database}
use Rattle.sqlite.specs.Listing.{understood, reads_listing}
use Rattle.sqlite.specs.Command.TheVariants.{Select}
use Rattle.sqlite.proofs.Callers.{IsPlain, command_of}
use Rattle.sqlite_tied.specs.Compute.{everything}
use Rattle.world.specs.World.{World, IsWorld, common, only_common, text_cmp, place_cmp}
use Rattle.world.proofs.OnlyCommon.{only_common_stands, only_one, some_there, has_nothing_else}
use Rattle.world.proofs.Orders.{texts_total, texts_exact, places_total, places_exact, text_self, text_same}
use Rattle.tables.specs.Schema.{store_schema}
use Rattle.tables.specs.Means.{Means}
use Rattle.tables.proofs.FitTests.{passed, refused}
use Rattle.tables.proofs.Maps.{none_in_empty}
use Rattle.tables.proofs.OneWorld.{same_got}
use Rattle.tables.proofs.ValueLemmas.{equals_itself, texts_equal}
use Rattle.statements.specs.Calls.{Selects}
use Rattle.setup.specs.Extracted.{HasOtherShelf, HasKey, HasEntry}
use Rattle.statements.specs.Lookup.{lookup, FirstFound}
use Rattle.statements.proofs.DifferLemmas.{differ_is}
use Rattle.statements.proofs.LookupLemmas.{selected_found}
use Rattle.setup.proofs.Texts.{other_shelf_text, tokens_text, all_paths_text}

-- ---- the queries

-- a text asks for these terms of the first row of a table that passes
pub record Asks (sql : List ℕ) (tree : ℕ) (filter project : List Term) : Type 0 where
  pub names : List (List ℕ)
  pub is : command_of (understood store_schema sql)
      ≡ Select (record { lets = []; body = lookup tree filter project }) names
  pub plain : IsPlain (understood store_schema sql)
  pub unlisted : reads_listing store_schema sql ≡ false

abbrev by_other_name : List Term
by_other_name = op2 (Compare Ne Binary) (col 1 1) (col 0 0) ∷ []

pub other_shelf : Asks other_shelf_text 2 by_other_name (col 1 1 ∷ [])
unfolding understood everything
other_shelf = record { names = _; is = refl; plain = (refl, refl); unlisted = refl }

pub any_key : Asks tokens_text 4 [] (col 1 1 ∷ [])
unfolding understood everything
any_key = record { names = _; is = refl; plain = (refl, refl); unlisted = refl }

pub any_entry : Asks all_paths_text 6 [] (col 1 3 ∷ [])
unfolding understood everything
any_entry = record { names = _; is = refl; plain = (refl, refl); unlisted = refl }

-- ---- their answers

apart_from : (s : List ℕ) → s ≢ common → differ (Text s) (Text common) ≡ true
apart_from s other = differ_is (Text s) (Text common) refl refl
    ∙ ap not (false_from_ne_true (equal Binary (Text s) (Text common)) (λ e. other (texts_equal s common e)))

not_common : (s : List ℕ) → differ (Text s) (Text common) ≡ true → s ≢ common
not_common s apart same =
    true≢false (sym apart ∙ differ_is (Text s) (Text common) refl refl
    ∙ ap not (ap (λ t. equal Binary (Text s) (Text t)) (sym same) ∙ equals_itself s))

module _ (db : Database) (x : World) (means : Means db.trees x) where
  other_found : (found : Option Row) → FirstFound (db.trees 2) by_other_name (col 1 1 ∷ []) (Text common ∷ []) found
      → Decides (is_some found) (HasOtherShelf x)
  other_found (Some out) h =
      let it = means.shelves.each h.0 h.1 in
      passed (
        it.0.0,
        ap is_some it.2,
        not_common it.0.0 (subst (λ v. differ v (Text common) ≡ true) it.1.0 (and_parts _ _ h.2).0),
      )
  other_found None h = refused (λ other.
      let at = some_there (map.get x.shelves other.0) other.1 in
      let it = means.shelves.found (other.0, at.0) at.1 in
      true≢false (sym (rw (it.2.0, apart_from other.0 other.2) refl) ∙ h it.0 it.1))

  pub other_shelf_found : (found : Option Row) → Selects other_shelf_text (Text common ∷ []) db found
      → Decides (is_some found) (HasOtherShelf x)
  other_shelf_found found h =
      other_found found (selected_found other_shelf_text (Text common ∷ []) db 2 by_other_name (col 1 1 ∷ []) _
      other_shelf.is (λ _. refl) found h)

  token_found : (found : Option Row) → FirstFound (db.trees 4) [] (col 1 1 ∷ []) [] found
      → Decides (is_some found) (HasKey x)
  token_found (Some out) h = let it = means.access.each h.0 h.1 in passed (it.0.0, it.0.1, it.2)
  token_found None h = refused (λ key. let it = means.access.found (key.0, key.1) key.2 in true≢false (h it.0 it.1))

  pub key_found : (found : Option Row) → Selects tokens_text [] db found → Decides (is_some found) (HasKey x)
  key_found found h = token_found found
      (selected_found tokens_text [] db 4 [] (col 1 1 ∷ []) _ any_key.is (λ _. refl) found h)

  path_found : (found : Option Row) → FirstFound (db.trees 6) [] (col 1 3 ∷ []) [] found
      → Decides (is_some found) (HasEntry x)
  path_found (Some out) h = let it = means.entries.each h.0 h.1 in passed (it.0.0, it.0.1, it.2)
  path_found None h = refused
      (λ entry. let it = means.entries.found (entry.0, entry.1) entry.2 in true≢false (h it.0 it.1))

  pub entry_found : (found : Option Row) → Selects all_paths_text [] db found → Decides (is_some found) (HasEntry x)
  entry_found found h = path_found found
      (selected_found all_paths_text [] db 6 [] (col 1 3 ∷ []) _ any_entry.is (λ _. refl) found h)

-- ---- the world

pub more_shelves : (x : World) → HasOtherShelf x → x ≢ only_common
more_shelves x other same =
    other.2 (has_nothing_else common None other.0
    (subst (λ (u : World). map.contains_key u.shelves other.0 ≡ true) same other.1))

pub more_keys : (x : World) → HasKey x → x ≢ only_common
more_keys x key same = none_in_empty text_cmp key.0 key.1
    (subst (λ (u : World). map.get u.keys key.0 ≡ Some key.1) same key.2)

pub more_entries : (x : World) → HasEntry x → x ≢ only_common
more_entries x entry same =
    none_in_empty place_cmp entry.0 entry.1
    (subst (λ (u : World). map.get u.entries entry.0 ≡ Some entry.1) same entry.2)

module _ (x : World) (is : IsWorld x) (one : HasOtherShelf x → ⊥) (two : HasKey x → ⊥) (three : HasEntry x → ⊥) where
  -- a shelf of the world is `common`, which has no parent
  shelf_is : (s : List ℕ) (o : Option (List ℕ)) → map.get x.shelves s ≡ Some o → map.get only_common.shelves s ≡ Some o
  shelf_is s o at = elim (cases_Bool (bytes_eq s common)) [
    | inl same ↦
        let is_common = text_same s common same in
        ap (map.get only_common.shelves) is_common
        ∙ (only_common_stands.has_common ∙ (sym is.has_common ∙ (ap (map.get x.shelves) (sym is_common) ∙ at)))
    | inr apart ↦ absurd (one
        (s, ap is_some at, λ e. true≢false (sym (ap (λ t. bytes_eq t common) e ∙ text_self common) ∙ apart)))
  ]

  common_is : (s : List ℕ) (o : Option (List ℕ)) → map.get only_common.shelves s ≡ Some o → map.get x.shelves s ≡ Some o
  common_is s o at = let it = only_one common None s o at in ap (map.get x.shelves) it.0
      ∙ (is.has_common ∙ ap Some it.1)

  pub common_alone : x ≡ only_common
  common_alone =
      let keys =
      map.same_map texts_total texts_exact x.keys only_common.keys
      (λ k. same_got x.keys only_common.keys k (λ h at. absurd (two (k, h, at)))
      (λ h at. absurd (none_in_empty text_cmp k h at))) in
      let shelves = map.same_map texts_total texts_exact x.shelves only_common.shelves
      (λ s. same_got x.shelves only_common.shelves s (shelf_is s) (common_is s)) in
      let entries = map.same_map places_total places_exact x.entries only_common.entries
      (λ q. same_got x.entries only_common.entries q (λ e at. absurd (three (q, e, at)))
      (λ e at. absurd (none_in_empty place_cmp q e at))) in
      λ i. record { keys = keys i; shelves = shelves i; entries = entries i }

-- a store that has no other shelf and no key has `common` alone exactly if it has no entry
pub blank_decides : (x : World) → IsWorld x → (HasOtherShelf x → ⊥) → (HasKey x → ⊥) → (found : Bool)
    → Decides found (HasEntry x) → Decides (not found) (x ≡ only_common)
blank_decides x is one two true answer = refused (more_entries x (answer.0 refl))
blank_decides x is one two false answer = passed (common_alone x is one two (λ e. true≢false (sym (answer.1 e))))
