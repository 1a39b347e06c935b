-- Each statement that makes the tables, on its own.
use Rattle.std.proofs.Common.{ℕ, ◌≡◌, ◌≤◌, ◌+◌, length, true, List, [], ◌∷◌, inl, inr, refl, sym, ap, subst, ◌∙◌, codes}
use Rattle.std.proofs.Common.{lit<, lit≤, arith, true≢false}
use Rattle.sqlite.specs.Order.{Row}
use Rattle.sqlite.specs.Table.{Table}
use Rattle.sqlite.specs.Tree.{Trees}
use Rattle.sqlite_rules.specs.Edit.{IsRefused, IsOversized}
use Rattle.sqlite_rules.specs.declared.error.Refusal.{Refusal}
use Rattle.sqlite_rules.specs.declared.error.Refusal.TheVariants.{Violates, Mismatch, NoRowid, BadReference, TooDeep}
use Rattle.sqlite_schema.specs.declared.schema.Constraint.TheVariants.{Datatype, NotNull, Check, PrimaryKey, Unique}
use Rattle.sqlite_schema.specs.declared.schema.Constraint.TheVariants.{ForeignKey}
use Rattle.sqlite_schema.specs.declared.schema.Keys.TheVariants.{Enforced}
use Rattle.sqlite_schema.specs.declared.schema.Among.TheVariants.{All}
use Rattle.sqlite_schema.specs.Rules.{Refers, Keeps, index_reals}
use Rattle.sqlite_schema.specs.declared.schema.Index.{Index}
use Rattle.sqlite_trees.specs.Tree.{with_tree}
use Rattle.sqlite_trees.specs.View.{IsStorable}
use Rattle.sqlite_sql.specs.Ops.{binary}
use Rattle.sqlite.specs.declared.types.Value.{Value}
use Rattle.sqlite_sql.specs.Catalog.{entry_of}
use Rattle.std.specs.List.{AllByRecursion}
use Rattle.std.specs.Float.{NotNan}
use Rattle.std.proofs.lemmas.List.Elements.{All-from_recursion}
use Rattle.std.proofs.lemmas.List.Sums.{sum_by-cons}
use Rattle.std.proofs.lemmas.Nat.Bits.{bit_at-zero}
use lib.Ieee.{is_nan}
use Rattle.sqlite.specs.Edit.{put_all}
use Rattle.sqlite_trees.specs.Sound.{fits_kind, begins, same_name, is_free_name}
use Rattle.sqlite_value.specs.Order.{value_cmp, number, bytes}
use Rattle.sqlite_schema.specs.Names.{same_name as names_same}
use Rattle.sqlite_value.specs.Keys.{joined as key_joined, first_key}
use Rattle.sqlite_catalog.specs.Listing.{is_fit}
use Rattle.sqlite.specs.declared.types.Value.TheVariants.{Text}
use Rattle.sqlite.specs.Listing.{understood}
use Rattle.sqlite.proofs.Callers.{statement_of}
use Rattle.sqlite_tied.specs.Compute.{everything}
use Rattle.tables.specs.Schema.{store_schema, meta_table, shelf_table, access_table, version_table, piece_table}
use Rattle.tables.specs.Schema.{meta_text, shelf_text, access_text, version_text, piece_text}
use Rattle.tables.proofs.CreateLemmas.{first1, first2, first3, first4, first5, first6, first7, schema0, schema1}
use Rattle.tables.proofs.CreateLemmas.{schema2, schema3, schema4, meta_row, common_row}
use Rattle.tables.proofs.CauseLemmas.{IsAlone, IsMakeable}
use Rattle.tables.proofs.PutLemmas.{IsPuttable}

-- The listing's row of each table fits.
fits : AllByRecursion
    (λ (it : Table × List ℕ). is_fit (Text (codes "table")) (Text it.0.name) (Text it.0.name) (Text it.1) ≡ true)
    ((meta_table, meta_text) ∷ (shelf_table, shelf_text) ∷ (access_table, access_text)
    ∷ (version_table, version_text) ∷ (piece_table, piece_text) ∷ [])
unfolding fits_kind begins same_name is_free_name value_cmp lib.Ieee.is_nan lib.Ieee.lt
fits = (refl, (refl, (refl, (refl, (refl, tt)))))

pub alone1 : IsAlone first1 (understood schema0 first1) × (statement_of first1 (understood schema0 first1) ≡ meta_text)
unfolding understood everything
alone1 = ((lit≤ tt, refl), refl)

-- nothing keeps the first text from making `meta`
pub able1 : IsMakeable schema0 meta_text (record meta_table { tree = 0 })
unfolding understood everything
able1 = record {
  defined = refl;
  ascii = refl;
  short = lit< tt;
  free = refl;
  indexes_free = (refl, tt);
  named = refl;
  unreserved = refl;
  few = lit< tt;
  reals = lit< tt;
  key_reals = (lit< tt, tt);
  formed = refl;
  fit = fits.0;
}

pub alone2 : IsAlone first2 (understood schema1 first2) × (statement_of first2 (understood schema1 first2) ≡ shelf_text)
unfolding understood everything
alone2 = ((lit≤ tt, refl), refl)

-- nothing keeps the second text from making `shelf`
pub able2 : IsMakeable schema1 shelf_text (record shelf_table { tree = 0 })
unfolding understood everything
able2 = record {
  defined = refl;
  ascii = refl;
  short = lit< tt;
  free = refl;
  indexes_free = (refl, tt);
  named = refl;
  unreserved = refl;
  few = lit< tt;
  reals = lit< tt;
  key_reals = (lit< tt, tt);
  formed = refl;
  fit = fits.1.0;
}

pub alone3 : IsAlone first3 (understood schema2 first3)
    × (statement_of first3 (understood schema2 first3) ≡ access_text)
unfolding understood everything
alone3 = ((lit≤ tt, refl), refl)

-- nothing keeps the third text from making `access`
pub able3 : IsMakeable schema2 access_text (record access_table { tree = 0 })
unfolding understood everything
able3 = record {
  defined = refl;
  ascii = refl;
  short = lit< tt;
  free = refl;
  indexes_free = (refl, tt);
  named = refl;
  unreserved = refl;
  few = lit< tt;
  reals = lit< tt;
  key_reals = (lit< tt, tt);
  formed = refl;
  fit = fits.1.1.0;
}

pub alone4 : IsAlone first4 (understood schema3 first4)
    × (statement_of first4 (understood schema3 first4) ≡ version_text)
unfolding understood everything
alone4 = ((lit≤ tt, refl), refl)

-- nothing keeps the fourth text from making `version`
pub able4 : IsMakeable schema3 version_text (record version_table { tree = 0 })
unfolding understood everything
able4 = record {
  defined = refl;
  ascii = refl;
  short = lit< tt;
  free = refl;
  indexes_free = (refl, tt);
  named = refl;
  unreserved = refl;
  few = lit< tt;
  reals = lit< tt;
  key_reals = (lit< tt, tt);
  formed = refl;
  fit = fits.1.1.1.0;
}

pub alone5 : IsAlone first5 (understood schema4 first5) × (statement_of first5 (understood schema4 first5) ≡ piece_text)
unfolding understood everything
alone5 = ((lit≤ tt, refl), refl)

-- nothing keeps the fifth text from making `piece`
pub able5 : IsMakeable schema4 piece_text (record piece_table { tree = 0 })
unfolding understood everything
able5 = record {
  defined = refl;
  ascii = refl;
  short = lit< tt;
  free = refl;
  indexes_free = (refl, tt);
  named = refl;
  unreserved = refl;
  few = lit< tt;
  reals = lit< tt;
  key_reals = (lit< tt, tt);
  formed = refl;
  fit = fits.1.1.1.1.0;
}

-- ---- the first rows

pub alone6 : IsAlone first6 (understood store_schema first6)
unfolding understood everything
alone6 = (lit≤ tt, refl)

pub alone7 : IsAlone first7 (understood store_schema first7)
unfolding understood everything
alone7 = (lit≤ tt, refl)

-- what the other tables hold while rows are put into the first two
pub record AreEmpty (db : Trees) : Type 0 where
  pub access : db 4 ≡ []
  pub version : db 6 ≡ []
  pub piece : db 8 ≡ []

storable : (a b c : Value) → NotNan (number a) → NotNan (number b) → NotNan (number c)
    → length (bytes a) + length (bytes b) + length (bytes c) ≤ 1000 → IsStorable 0 (a ∷ b ∷ c ∷ [])
storable a b c x y z short = record {
  typed = λ at set. absurd (omega (arith, bit_at-zero at));
  columns = omega arith;
  numbers = All-from_recursion (λ v. NotNan (number v)) (a ∷ b ∷ c ∷ []) (x, (y, (z, tt)));
  short = simp sum_by-cons (omega arith);
}

storable_pair : (a b : Value) → NotNan (number a) → NotNan (number b) → length (bytes a) + length (bytes b) ≤ 1000
    → IsStorable 0 (a ∷ b ∷ [])
storable_pair a b x y short = record {
  typed = λ at set. absurd (omega (arith, bit_at-zero at));
  columns = omega arith;
  numbers = All-from_recursion (λ v. NotNan (number v)) (a ∷ b ∷ []) (x, (y, tt));
  short = simp sum_by-cons (omega arith);
}

meta_unique : (db : Trees) → db 2 ≡ [] → AreEmpty db
    → Keeps Unique store_schema (with_tree db 0 (put_all [] (meta_row ∷ [])))
unfolding binary first_key value_cmp lib.Ieee.is_nan lib.Ieee.lt
meta_unique db b e = rw (b, e.access, e.version, e.piece) ((refl, tt), (tt, (tt, (tt, (tt, tt)))))

common_unique : (db : Trees) → db 0 ≡ meta_row ∷ [] → AreEmpty db
    → Keeps Unique store_schema (with_tree db 2 (put_all [] (common_row ∷ [])))
unfolding binary first_key value_cmp lib.Ieee.is_nan lib.Ieee.lt
common_unique db a e = rw (a, e.access, e.version, e.piece) ((refl, tt), ((refl, tt), (tt, (tt, (tt, tt)))))

-- no rule refuses the row of `meta` in empty tables
meta_fine : (db : Trees) → db 0 ≡ [] → db 2 ≡ [] → AreEmpty db → (why : Refusal)
    → IsRefused store_schema Enforced db (record { table = meta_table; gone = []; news = meta_row ∷ [] }) why → ⊥
meta_fine db a b e (Violates Datatype) h = true≢false h
meta_fine db a b e (Violates NotNull) h = true≢false h
meta_fine db a b e (Violates Check) h = true≢false h
meta_fine db a b e (Violates PrimaryKey) h = true≢false (rw a at h)
meta_fine db a b e (Violates Unique) h = h (rw a (meta_unique db b e))
meta_fine db a b e (Violates ForeignKey) h = h
meta_fine db a b e Mismatch h = true≢false h
meta_fine db a b e NoRowid h = true≢false h
meta_fine db a b e BadReference h = true≢false h
meta_fine db a b e TooDeep h = h

common_referred : (db : Trees)
    → IsRefused store_schema Enforced db (record { table = shelf_table; gone = []; news = common_row ∷ [] })
    BadReference → ⊥
unfolding names_same key_joined first_key
common_referred db h = true≢false h

-- no rule refuses the row of `common` in tables with the row of `meta` alone
common_fine : (db : Trees) → db 0 ≡ meta_row ∷ [] → db 2 ≡ [] → AreEmpty db → (why : Refusal)
    → IsRefused store_schema Enforced db (record { table = shelf_table; gone = []; news = common_row ∷ [] }) why → ⊥
common_fine db a b e (Violates Datatype) h = true≢false h
common_fine db a b e (Violates NotNull) h = true≢false h
common_fine db a b e (Violates Check) h = true≢false h
common_fine db a b e (Violates PrimaryKey) h = true≢false (rw b at h)
common_fine db a b e (Violates Unique) h = h (rw b (common_unique db a e))
common_fine db a b e (Violates ForeignKey) h = h
common_fine db a b e Mismatch h = true≢false h
common_fine db a b e NoRowid h = true≢false h
common_fine db a b e BadReference h = common_referred db h
common_fine db a b e TooDeep h = h

meta_fits : IsOversized store_schema meta_table meta_row → ⊥
unfolding is_nan
meta_fits (inl big) = big (storable _ _ _ tt tt tt (lit≤ tt), lit< tt)
meta_fits (inr (i, inl is, of, big)) =
    big (subst (λ (x : Index). IsStorable (index_reals 0 x.columns) (entry_of x.columns meta_row)) (sym is)
    (storable_pair _ _ tt tt (lit≤ tt)))
meta_fits (inr (i, inr (inl is), of, big)) = let e : 2 ≡ 0 = ap (λ (x : Index). x.table) (sym is)
    ∙ of in omega (arith, e)
meta_fits (inr (i, inr (inr (inl is)), of, big)) = let e : 4 ≡ 0 = ap (λ (x : Index). x.table) (sym is)
    ∙ of in omega (arith, e)
meta_fits (inr (i, inr (inr (inr (inl is))), of, big)) = let e : 6 ≡ 0 = ap (λ (x : Index). x.table) (sym is)
    ∙ of in omega (arith, e)
meta_fits (inr (i, inr (inr (inr (inr (inl is)))), of, big)) = let e : 8 ≡ 0 = ap (λ (x : Index). x.table) (sym is)
    ∙ of in omega (arith, e)
meta_fits (inr (i, inr (inr (inr (inr (inr none)))), of, big)) = none

common_fits : IsOversized store_schema shelf_table common_row → ⊥
unfolding is_nan
common_fits (inl big) = big (storable _ _ _ tt tt tt (lit≤ tt), lit< tt)
common_fits (inr (i, inl is, of, big)) = let e : 0 ≡ 2 = ap (λ (x : Index). x.table) (sym is) ∙ of in omega (arith, e)
common_fits (inr (i, inr (inl is), of, big)) =
    big (subst (λ (x : Index). IsStorable (index_reals 0 x.columns) (entry_of x.columns common_row)) (sym is)
    (storable_pair _ _ tt tt (lit≤ tt)))
common_fits (inr (i, inr (inr (inl is)), of, big)) = let e : 4 ≡ 2 = ap (λ (x : Index). x.table) (sym is)
    ∙ of in omega (arith, e)
common_fits (inr (i, inr (inr (inr (inl is))), of, big)) = let e : 6 ≡ 2 = ap (λ (x : Index). x.table) (sym is)
    ∙ of in omega (arith, e)
common_fits (inr (i, inr (inr (inr (inr (inl is)))), of, big)) = let e : 8 ≡ 2 = ap (λ (x : Index). x.table) (sym is)
    ∙ of in omega (arith, e)
common_fits (inr (i, inr (inr (inr (inr (inr none)))), of, big)) = none

-- no row refers to another yet: the row of common has no parent
each_whole : (rows : List Row) → AllByRecursion (λ row. true ≡ true) rows
each_whole [] = tt
each_whole (r ∷ rows) = (refl, each_whole rows)

none_refer : (after : Trees) → after 2 ≡ [] → AreEmpty after → Refers All store_schema after
none_refer after b e = rw (b, e.access, e.version, e.piece) (each_whole (after 0), (tt, (tt, (tt, (tt, tt)))))

common_refers : (after : Trees) → after 2 ≡ common_row ∷ [] → AreEmpty after → Refers All store_schema after
common_refers after b e =
    rw (b, e.access, e.version, e.piece) (each_whole (after 0), ((refl, tt), (tt, (tt, (tt, tt)))))

-- the row of `meta` may be put into empty tables
pub puts_meta : (db : Trees) → db 0 ≡ [] → db 2 ≡ [] → AreEmpty db → IsPuttable meta_table db meta_row
puts_meta db a b e = record {
  fine = meta_fine db a b e;
  fits = meta_fits;
  refers = λ after put. none_refer after (put.tables.1.0 (λ x. omega (arith, x)) ∙ b) (record {
    access = put.tables.1.1.0 (λ x. omega (arith, x)) ∙ e.access;
    version = put.tables.1.1.1.0 (λ x. omega (arith, x)) ∙ e.version;
    piece = put.tables.1.1.1.1.0 (λ x. omega (arith, x)) ∙ e.piece;
  });
}

-- the row of `common` may be put into tables with the row of `meta` alone
pub puts_common : (db : Trees) → db 0 ≡ meta_row ∷ [] → db 2 ≡ [] → AreEmpty db → IsPuttable shelf_table db common_row
puts_common db a b e = record {
  fine = common_fine db a b e;
  fits = common_fits;
  refers = λ after put. common_refers after (rw b at put.rows) (record {
    access = put.tables.1.1.0 (λ x. omega (arith, x)) ∙ e.access;
    version = put.tables.1.1.1.0 (λ x. omega (arith, x)) ∙ e.version;
    piece = put.tables.1.1.1.1.0 (λ x. omega (arith, x)) ∙ e.piece;
  });
}
