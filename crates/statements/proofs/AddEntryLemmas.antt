-- What the INSERTs of an entry do.
use Rattle.std.proofs.Common.{◌≡◌, ℕ, ℤ, List, [], ◌∷◌, Option, Some, None, unwrap_or, Ok, refl, ap, subst, ◌∙◌}
use Rattle.std.specs.Prelude.{IfSome}
use Rattle.sqlite.specs.declared.types.Value.TheVariants.{Null, Int, Text, Blob}
use Rattle.sqlite.specs.Order.{Row}
use Rattle.sqlite.specs.Values.{or_null, bound_value}
use Rattle.sqlite.specs.Cast.{cast}
use Rattle.sqlite.specs.Kind.TheVariants as kind
use Rattle.sqlite.specs.Term.{Term, lit, col}
use Rattle.sqlite.specs.Effect.{Database}
use Rattle.sqlite.specs.Edit.{next_rowid}
use Rattle.sqlite.specs.Listing.{understood}
use Rattle.sqlite.specs.Command.{Command}
use Rattle.sqlite.specs.Command.TheVariants.{Insert}
use Rattle.sqlite.specs.Source.TheVariants.{Values}
use Rattle.sqlite.specs.Does.{Tally, Does}
use Rattle.sqlite.specs.State.{State, ExecutesInside}
use Rattle.sqlite.proofs.Callers.{IsPlain, command_of, runs_as}
use Rattle.sqlite_catalog.specs.Listing.{IsSound}
use Rattle.tables.specs.Schema.{store_schema, version_table, piece_table}
use Rattle.world.specs.declared.entry.Place.{Place}
use Rattle.world.specs.declared.entry.Entry.{Entry}
use Rattle.tables.specs.Inserted.{Inserted}
use Rattle.tables.proofs.InsertLemmas.{inserted, enforced, cast_null, cast_int}
use Rattle.statements.specs.Rows.{Filling, PutsPiece}
use Rattle.statements.specs.Added.{version_row, version_values}

-- ---- a version, under a given number or sqlite's choice

-- how many values a row of `version` has
abbrev version_width : ℕ
version_width = 9

abbrev version_terms : List Term
version_terms = col 0 0 ∷ lit Null ∷ col 0 1 ∷ col 0 2 ∷ col 0 3 ∷ col 0 4 ∷ col 0 5 ∷ col 0 6 ∷ col 0 7 ∷ []

abbrev pub version_insert : Command
version_insert = Insert 3 (Values version_terms version_width)

-- a text, or NULL for none, is bound unchanged, and a column of texts takes it unchanged
pub text_bound : (text : Option (List ℕ)) → bound_value (or_null Text text) ≡ or_null Text text
text_bound None = refl
text_bound (Some t) = refl

pub cast_text : (text : Option (List ℕ)) → cast kind.Text (or_null Text text) ≡ or_null Text text
cast_text None = refl
cast_text (Some t) = refl

-- a number, or NULL for none, is bound unchanged
pub number_bound : (number : Option ℤ) → bound_value (or_null Int number) ≡ or_null Int number
number_bound None = refl
number_bound (Some n) = refl

abbrev pub version_params : Option ℤ → Place → Entry → Row
version_params number p e = or_null Int number ∷ version_values p e

-- the number of the row
abbrev pub number_of : Option ℤ → List Row → ℤ
number_of None rows = next_rowid rows
number_of (Some n) rows = n

-- a given number is that of the row
pub number_given : (number : Option ℤ) (rows : List Row) → IfSome number (λ given. number_of number rows ≡ given)
number_given None rows = tt
number_given (Some n) rows = refl

module _ (limit : Option ℕ) (p : Place) (e : Entry) where
  version_added : (number : Option ℤ) (db : Database) (tally : Tally) (after : Database) → db.schema ≡ store_schema
      → Does limit enforced (version_params number p e) db [] None version_insert (Ok (tally, after))
      → (after.schema ≡ store_schema)
      × Inserted db.trees after.trees version_table (version_row (number_of number (db.trees 6)) p e)
      × (tally.last ≡ Some (number_of number (db.trees 6)))
  version_added None db tally after has h =
      let it = inserted limit version_table refl (version_params None p e) version_terms version_width
      (Null ∷ Null ∷ version_values p e) refl (λ _. refl) 3 refl db [] tally after has h in
      (it.0, rw (cast_null, cast_text e.time) at it.1, rw cast_null at it.2)
  version_added (Some n) db tally after has h =
      let it = inserted limit version_table refl (version_params (Some n) p e) version_terms version_width
      (Int n ∷ Null ∷ version_values p e) refl (λ _. refl) 3 refl db [] tally after has h in
      (it.0, rw (cast_null, cast_int n, cast_text e.time) at it.1, rw (cast_int n) at it.2)

-- An INSERT of a version inside a transaction puts in its row, under the given number or sqlite's choice, and
-- `last_rowid` is that number.
pub version_put : (sql : List ℕ) → command_of (understood store_schema sql) ≡ version_insert
    → IsPlain (understood store_schema sql)
    → (number : Option ℤ) (p : Place) (e : Entry) (old new : State) (count : ℕ) → Filling old
    → ExecutesInside 0 sql (version_params number p e) old new (Ok count)
    → Inserted old.now.trees new.now.trees version_table (version_row (number_of number (old.now.trees 6)) p e)
    × (new.last_rowid ≡ number_of number (old.now.trees 6)) × Filling new
version_put sql is plain number p e old new count filling ran =
    let wrote = runs_as sql (version_params number p e) old new store_schema filling.schema _ is plain count ran.0 in
    let it = version_added old.step_limit p e number old.now wrote.tally new.now filling.schema wrote.changed in (
      it.1,
      wrote.last_rowid ∙ ap (λ o. unwrap_or o old.last_rowid) it.2,
      record {
        schema = it.0;
        sound = subst (λ s. IsSound s new.now.trees) it.0 wrote.sound;
        is_open =
            wrote.shown.is_open;
        inside = ran.1.mode;
      },
    )

-- ---- a piece

abbrev piece_terms : List Term
piece_terms = lit Null ∷ col 0 0 ∷ col 0 1 ∷ col 0 2 ∷ []

abbrev pub piece_insert : Command
piece_insert = Insert 4 (Values piece_terms 4)

module _ (id number : ℤ) (bytes : List ℕ) where
  abbrev pub piece_params : Row
  piece_params = Int id ∷ Int number ∷ Blob bytes ∷ []

  piece_added : (limit : Option ℕ) (db : Database) (tally : Tally) (after : Database) → db.schema ≡ store_schema
      → Does limit enforced piece_params db [] None piece_insert (Ok (tally, after))
      → (after.schema ≡ store_schema)
      × Inserted db.trees after.trees piece_table (Int (next_rowid (db.trees 8)) ∷ piece_params)
  piece_added limit db tally after has h =
      let it = inserted limit piece_table refl piece_params piece_terms 4 (Null ∷ piece_params) refl (λ _. refl) 4 refl
      db [] tally after has h in
      (it.0, rw (cast_null, cast_int id, cast_int number) at it.1)

  pub piece_put : (sql : List ℕ) → command_of (understood store_schema sql) ≡ piece_insert
      → IsPlain (understood store_schema sql)
      → (old new : State) (count : ℕ) → Filling old → ExecutesInside 0 sql piece_params old new (Ok count)
      → PutsPiece piece_params old.now.trees new.now.trees × Filling new
  piece_put sql is plain old new count filling ran =
      let wrote = runs_as sql piece_params old new store_schema filling.schema _ is plain count ran.0 in
      let it = piece_added old.step_limit old.now wrote.tally new.now filling.schema wrote.changed in
      let sound = subst (λ s. IsSound s new.now.trees) it.0 wrote.sound in (
        record {
          id = next_rowid (old.now.trees 8);
          version = id;
          number = number;
          of_version = refl;
          numbered = refl;
          put = it.1;
          sound = sound;
        },
        record { schema = it.0; sound = sound; is_open = wrote.shown.is_open; inside = ran.1.mode },
      )
