-- The queries of the walks, and what they show of the tables of each format.
use Rattle.std.proofs.Common.{◌≡◌, ℕ, false, List, [], ◌∷◌, codes, refl, subst}
use Rattle.sqlite.specs.Order.{Row}
use Rattle.sqlite.specs.Term.{Term, col}
use Rattle.sqlite.specs.Effect.{Database, Reads}
use Rattle.sqlite.specs.Listing.{understood, reads_listing}
use Rattle.sqlite.specs.Command.TheVariants.{Select}
use Rattle.sqlite.proofs.Callers.{IsPlain, command_of}
use Rattle.sqlite_tied.specs.Compute.{everything}
use Rattle.statements.specs.Lookup.{lookup, AreFound}
use Rattle.statements.proofs.LookupLemmas.{all_found}
use Rattle.older.specs.declared.schema.Format.{Format}
use Rattle.older.specs.declared.schema.Format.TheVariants.{One, Two}
use Rattle.older.specs.Schemas.{schema_of}

-- a text is one query over a table, in each format
pub record IsWhole (sql : List ℕ) (tree : ℕ) (project : List Term) (names : List (List ℕ)) : Type 0 where
  pub is : (f : Format) → command_of (understood (schema_of f) sql)
      ≡ Select (record { lets = []; body = lookup tree [] project }) names
  pub plain : (f : Format) → IsPlain (understood (schema_of f) sql)
  pub unlisted : (f : Format) → reads_listing (schema_of f) sql ≡ false

abbrev pub meta_text : List ℕ
meta_text = codes "SELECT name, value FROM meta"

abbrev pub meta_columns : List Term
meta_columns = col 1 1 ∷ col 1 2 ∷ []

meta_is : (f : Format) → command_of (understood (schema_of f) meta_text)
    ≡ Select (record { lets = []; body = lookup 0 [] meta_columns }) (codes "name" ∷ codes "value" ∷ [])
unfolding understood everything
meta_is One = refl
meta_is Two = refl

meta_plain : (f : Format) → IsPlain (understood (schema_of f) meta_text)
unfolding understood everything
meta_plain One = (refl, refl)
meta_plain Two = (refl, refl)

meta_unlisted : (f : Format) → reads_listing (schema_of f) meta_text ≡ false
unfolding understood everything
meta_unlisted One = refl
meta_unlisted Two = refl

pub meta_whole : IsWhole meta_text 0 meta_columns (codes "name" ∷ codes "value" ∷ [])
meta_whole = record { is = meta_is; plain = meta_plain; unlisted = meta_unlisted }

abbrev pub shelf_text : List ℕ
shelf_text = codes "SELECT name FROM shelf"

abbrev pub shelf_columns : List Term
shelf_columns = col 1 1 ∷ []

shelf_is : (f : Format) → command_of (understood (schema_of f) shelf_text)
    ≡ Select (record { lets = []; body = lookup 2 [] shelf_columns }) (codes "name" ∷ [])
unfolding understood everything
shelf_is One = refl
shelf_is Two = refl

shelf_plain : (f : Format) → IsPlain (understood (schema_of f) shelf_text)
unfolding understood everything
shelf_plain One = (refl, refl)
shelf_plain Two = (refl, refl)

shelf_unlisted : (f : Format) → reads_listing (schema_of f) shelf_text ≡ false
unfolding understood everything
shelf_unlisted One = refl
shelf_unlisted Two = refl

pub shelf_whole : IsWhole shelf_text 2 shelf_columns (codes "name" ∷ [])
shelf_whole = record { is = shelf_is; plain = shelf_plain; unlisted = shelf_unlisted }

abbrev pub key_text : List ℕ
key_text = codes "SELECT token, shelf, publish FROM access"

abbrev pub key_columns : List Term
key_columns = col 1 1 ∷ col 1 2 ∷ col 1 3 ∷ []

abbrev pub key_names : List (List ℕ)
key_names = codes "token" ∷ codes "shelf" ∷ codes "publish" ∷ []

key_is : (f : Format) → command_of (understood (schema_of f) key_text)
    ≡ Select (record { lets = []; body = lookup 4 [] key_columns }) key_names
unfolding understood everything
key_is One = refl
key_is Two = refl

key_plain : (f : Format) → IsPlain (understood (schema_of f) key_text)
unfolding understood everything
key_plain One = (refl, refl)
key_plain Two = (refl, refl)

key_unlisted : (f : Format) → reads_listing (schema_of f) key_text ≡ false
unfolding understood everything
key_unlisted One = refl
key_unlisted Two = refl

pub key_whole : IsWhole key_text 4 key_columns key_names
key_whole = record { is = key_is; plain = key_plain; unlisted = key_unlisted }

-- the rows that it shows are those of the table
pub all_of : (sql : List ℕ) (tree : ℕ) (project : List Term) (names : List (List ℕ)) → IsWhole sql tree project names
    → (own : (trees : _) → Rattle.sqlite.specs.Program.overlay trees [] tree ≡ trees tree)
    → (f : Format) (db : Database) (rows : List Row) → Reads (command_of (understood (schema_of f) sql)) db [] rows
    → AreFound (db.trees tree) [] project [] rows
all_of sql tree project names whole own f db rows read =
    all_found [] db tree [] project [] own rows (subst (λ k. Reads k db [] rows) (whole.is f) read)
