-- The queries of the walks are walkable: only a limit on its steps refuses one, and only a vast table makes it show
-- too many rows.
use Rattle.std.proofs.Common.{◌≡◌, ◌≤◌, ◌<◌, ◌+◌, ◌*◌, ◌^◌, not, List, [], ◌∷◌, codes, length, filter, flat_map}
use Rattle.std.proofs.Common.{None, inl, inr, refl, sym, arith, true≢false, lit≤, nat_lt, ltb-true, ltb-false}
use Rattle.std.proofs.Common.{length-append}
use Rattle.std.proofs.lemmas.Bool.{cases_Bool}
use Rattle.std.proofs.lemmas.List.{length-map}
use Rattle.std.proofs.lemmas.List.Filters.{length-filter_both}
use Rattle.sqlite.specs.Order.{Row}
use Rattle.sqlite.specs.Term.{eval_all}
use Rattle.sqlite.specs.Query.{inner, end, matches}
use Rattle.sqlite.specs.Program.{overlay}
use Rattle.sqlite.specs.Effect.{Database, RefusesQuery}
use Rattle.sqlite.specs.Listing.{understood}
use Rattle.sqlite.specs.declared.error.Error.TheVariants.{SqliteFailure}
use Rattle.sqlite.specs.declared.error.ErrorCode.TheVariants.{TypeMismatch}
use Rattle.sqlite_sql.specs.Query.{or_nulls}
use Rattle.sqlite_tied.specs.Compute.{everything}
use Rattle.sqlite_rules.specs.Lists.{Has}
use Rattle.tables.specs.Schema.{meta_table, access_table, version_table, piece_table}
use Rattle.tables.specs.Walks.{IsAlone, ShowsTooManyOver}
use Rattle.tables.proofs.ListingLemmas.{listing, by_place, piece_columns, piece_names, by_piece}
use Rattle.tables.proofs.Texts.{piece_rows_text}
use Rattle.tables.proofs.WalkCauses.{is_allowed, many_listed, table_vast}
use Rattle.older.specs.declared.schema.Format.{Format}
use Rattle.older.specs.declared.schema.Format.TheVariants.{One, Two}
use Rattle.older.specs.Schemas.{schema_of, schema_1, schema_2, shelf_table, keyless_table, body_table}
use Rattle.older_rows.specs.Causes.{IsVastAs, IsWalkableAs}
use Rattle.older_rows.proofs.ListedLemmas.{meta_text, meta_columns, meta_whole, shelf_text, shelf_columns, shelf_whole}
use Rattle.older_rows.proofs.ListedLemmas.{key_text, key_columns, key_names, key_whole}
use Rattle.older_rows.proofs.OneLemmas.{one_text, one_columns, one_names, one_is, with_body, goes_with, bodies_of}
use Rattle.older_rows.proofs.PieceWalk.{piece_is}
use Rattle.older_rows.proofs.TwoLemmas.{two_text, two_columns, two_names, two_is}

-- ---- meta

meta_typed : (f : Format) (db : Database) → db.schema ≡ schema_of f
    → RefusesQuery None db (record { lets = []; body = listing (inner 0 end) meta_columns [] }) []
    (SqliteFailure TypeMismatch) → ⊥
unfolding understood everything
meta_typed One db has h =
    elim h [
      | inl (same, wrong) ↦ true≢false (rw has at wrong)
      | inr (inl (other, over)) ↦ absurd (cc)
      | inr (inr (other, some)) ↦ true≢false (sym some)
    ]
meta_typed Two db has h =
    elim h [
      | inl (same, wrong) ↦ true≢false (rw has at wrong)
      | inr (inl (other, over)) ↦ absurd (cc)
      | inr (inr (other, some)) ↦ true≢false (sym some)
    ]

meta_alone : (f : Format) → IsAlone meta_text (understood (schema_of f) meta_text)
unfolding understood everything
meta_alone One = (lit≤ tt, refl)
meta_alone Two = (lit≤ tt, refl)

meta_there : (f : Format) → Has (schema_of f).tables meta_table
meta_there One = inl refl
meta_there Two = inl refl

pub meta_walkable : (f : Format) → IsWalkableAs f meta_text
meta_walkable f =
    let names = codes "name" ∷ codes "value" ∷ [] in record {
      query = is_allowed (schema_of f) meta_text (inner 0 end) meta_columns [] names (meta_whole.is f) refl
          (meta_typed f) (meta_alone f);
      vast = table_vast (schema_of f) meta_text 0 meta_columns [] names (meta_whole.is f) meta_table (meta_there f) refl
          (λ db. refl);
    }

-- ---- shelves

shelf_typed : (f : Format) (db : Database) → db.schema ≡ schema_of f
    → RefusesQuery None db (record { lets = []; body = listing (inner 2 end) shelf_columns [] }) []
    (SqliteFailure TypeMismatch) → ⊥
unfolding understood everything
shelf_typed One db has h =
    elim h [
      | inl (same, wrong) ↦ true≢false (rw has at wrong)
      | inr (inl (other, over)) ↦ absurd (cc)
      | inr (inr (other, some)) ↦ true≢false (sym some)
    ]
shelf_typed Two db has h =
    elim h [
      | inl (same, wrong) ↦ true≢false (rw has at wrong)
      | inr (inl (other, over)) ↦ absurd (cc)
      | inr (inr (other, some)) ↦ true≢false (sym some)
    ]

shelf_alone : (f : Format) → IsAlone shelf_text (understood (schema_of f) shelf_text)
unfolding understood everything
shelf_alone One = (lit≤ tt, refl)
shelf_alone Two = (lit≤ tt, refl)

shelf_there : (f : Format) → Has (schema_of f).tables shelf_table
shelf_there One = inr (inl refl)
shelf_there Two = inr (inl refl)

pub shelf_walkable : (f : Format) → IsWalkableAs f shelf_text
shelf_walkable f =
    let names = codes "name" ∷ [] in record {
      query = is_allowed (schema_of f) shelf_text (inner 2 end) shelf_columns [] names (shelf_whole.is f) refl
          (shelf_typed f) (shelf_alone f);
      vast = table_vast (schema_of f) shelf_text 2 shelf_columns [] names (shelf_whole.is f) shelf_table (shelf_there f)
          refl (λ db. refl);
    }

-- ---- keys

key_typed : (f : Format) (db : Database) → db.schema ≡ schema_of f
    → RefusesQuery None db (record { lets = []; body = listing (inner 4 end) key_columns [] }) []
    (SqliteFailure TypeMismatch) → ⊥
unfolding understood everything
key_typed One db has h =
    elim h [
      | inl (same, wrong) ↦ true≢false (rw has at wrong)
      | inr (inl (other, over)) ↦ absurd (cc)
      | inr (inr (other, some)) ↦ true≢false (sym some)
    ]
key_typed Two db has h =
    elim h [
      | inl (same, wrong) ↦ true≢false (rw has at wrong)
      | inr (inl (other, over)) ↦ absurd (cc)
      | inr (inr (other, some)) ↦ true≢false (sym some)
    ]

key_alone : (f : Format) → IsAlone key_text (understood (schema_of f) key_text)
unfolding understood everything
key_alone One = (lit≤ tt, refl)
key_alone Two = (lit≤ tt, refl)

key_there : (f : Format) → Has (schema_of f).tables access_table
key_there One = inr (inr (inl refl))
key_there Two = inr (inr (inl refl))

pub key_walkable : (f : Format) → IsWalkableAs f key_text
key_walkable f = record {
  query = is_allowed (schema_of f) key_text (inner 4 end) key_columns [] key_names (key_whole.is f) refl (key_typed f)
      (key_alone f);
  vast = table_vast (schema_of f) key_text 4 key_columns [] key_names (key_whole.is f) access_table (key_there f) refl
      (λ db. refl);
}

-- ---- versions of schema 2, and their pieces

two_typed : (db : Database) → db.schema ≡ schema_2
    → RefusesQuery None db (record { lets = []; body = listing (inner 6 end) two_columns by_place }) []
    (SqliteFailure TypeMismatch) → ⊥
unfolding understood everything
two_typed db has h = elim h [
  | inl (same, wrong) ↦ true≢false (rw has at wrong)
  | inr (inl (other, over)) ↦ absurd (cc)
  | inr (inr (other, some)) ↦ true≢false (sym some)
]

two_alone : IsAlone two_text (understood schema_2 two_text)
unfolding understood everything
two_alone = (lit≤ tt, refl)

pub two_walkable : IsWalkableAs Two two_text
two_walkable = record {
  query = is_allowed schema_2 two_text (inner 6 end) two_columns by_place two_names two_is refl two_typed two_alone;
  vast = table_vast schema_2 two_text 6 two_columns by_place two_names two_is version_table (inr (inr (inr (inl refl))))
      refl (λ db. refl);
}

piece_typed : (db : Database) → db.schema ≡ schema_2
    → RefusesQuery None db (record { lets = []; body = listing (inner 8 end) piece_columns by_piece }) []
    (SqliteFailure TypeMismatch) → ⊥
unfolding understood everything
piece_typed db has h = elim h [
  | inl (same, wrong) ↦ true≢false (rw has at wrong)
  | inr (inl (other, over)) ↦ absurd (cc)
  | inr (inr (other, some)) ↦ true≢false (sym some)
]

piece_alone : IsAlone piece_rows_text (understood schema_2 piece_rows_text)
unfolding understood everything
piece_alone = (lit≤ tt, refl)

pub piece_walkable : IsWalkableAs Two piece_rows_text
piece_walkable = record {
  query = is_allowed schema_2 piece_rows_text (inner 8 end) piece_columns by_piece piece_names piece_is refl piece_typed
      piece_alone;
  vast = table_vast schema_2 piece_rows_text 8 piece_columns by_piece piece_names piece_is piece_table
      (inr (inr (inr (inr (inl refl))))) refl (λ db. refl);
}

-- ---- versions of schema 1, each with its row of `body`

one_typed : (db : Database) → db.schema ≡ schema_1
    → RefusesQuery None db (record { lets = []; body = listing with_body one_columns by_place }) []
    (SqliteFailure TypeMismatch) → ⊥
unfolding understood everything
one_typed db has h = elim h [
  | inl (same, wrong) ↦ true≢false (rw has at wrong)
  | inr (inl (other, over)) ↦ absurd (cc)
  | inr (inr (other, some)) ↦ true≢false (sym some)
]

one_alone : IsAlone one_text (understood schema_1 one_text)
unfolding understood everything
one_alone = (lit≤ tt, refl)

singles : {X Y : Type 0} (f : X → Y) (xs : List X) → length (flat_map (λ x. f x ∷ []) xs) ≡ length xs
singles f [] = refl
singles f (x ∷ xs) = let rest = singles f xs in omega (arith, rest)

nulls : (rows : List Row) → length (or_nulls rows) ≤ length rows + 1
nulls [] = omega arith
nulls (row ∷ rows) = omega arith

few_each : {X Y : Type 0} (f : X → List Y) (xs : List X) → ((x : X) → length (f x) ≤ 2 ^ 64)
    → length (flat_map f xs) ≤ 2 ^ 64 * length xs
few_each f [] few = omega arith
few_each f (x ∷ xs) few =
    let first = few x in
    let rest = few_each f xs few in
    let all = length-append (f x) (flat_map f xs) in
    omega (arith, first, rest, all)

-- a row of `version` with each of its rows of `body`, or with NULLs
abbrev pairs_of : List Row → Row → List (List Row)
pairs_of bodies row = flat_map (λ b. ([] ∷ row ∷ b ∷ []) ∷ []) (bodies_of row bodies)

few_pairs : (bodies : List Row) → length bodies < 2 ^ 64 → (row : Row) → length (pairs_of bodies row) ≤ 2 ^ 64
few_pairs bodies few row =
    let each = singles (λ b. [] ∷ row ∷ b ∷ []) (bodies_of row bodies) in
    let some = nulls (filter (goes_with row) bodies) in
    let both = length-filter_both (goes_with row) (λ b. not (goes_with row b)) (λ _. refl) bodies in
    omega (arith, each, some, both, few)

module _ (db : Database) (has : db.schema ≡ schema_1) (h : ShowsTooManyOver schema_1 one_text db) where
  not_both : length (db.trees 6) < 2 ^ 64 → length (db.trees 8) < 2 ^ 64 → ⊥
  not_both few less =
      let long = many_listed schema_1 one_text with_body one_columns by_place one_names one_is db h in
      let each = length-map (matches (overlay db.trees []) [] with_body ([] ∷ [])) (eval_all one_columns) in
      let most : length (matches (overlay db.trees []) [] with_body ([] ∷ [])) ≤ 2 ^ 64 * length (db.trees 6) =
      few_each (pairs_of (db.trees 8)) (db.trees 6) (few_pairs (db.trees 8) less) in
      omega (arith, long, each, most, few)

  one_vast : IsVastAs One db
  one_vast = elim (cases_Bool (nat_lt (length (db.trees 6)) (2 ^ 64))) [
    | inl few ↦ elim (cases_Bool (nat_lt (length (db.trees 8)) (2 ^ 64))) [
      | inl less ↦ absurd (not_both (ltb-true _ _ few) (ltb-true _ _ less))
      | inr many ↦ record {
        schema = has;
        table = body_table;
        listed = inr (inr (inr (inr (inl refl))));
        rows =
            ltb-false _ _ many;
      }
    ]
    | inr many ↦ record {
      schema = has;
      table = keyless_table;
      listed = inr (inr (inr (inl refl)));
      rows =
          ltb-false _ _ many;
    }
  ]

pub one_walkable : IsWalkableAs One one_text
one_walkable = record {
  query = is_allowed schema_1 one_text with_body one_columns by_place one_names one_is refl one_typed one_alone;
  vast = one_vast;
}
