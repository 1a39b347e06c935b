-- A list as far as it was read, and the fields of its rows.
use Rattle.std.proofs.Common.{zero, suc, ◌≡◌, ◌<◌, ℕ, List, [], ◌∷◌, ◌++◌, Option, Some, None, length, true, option_map}
use Rattle.std.proofs.Common.{inl, refl, ◌∙◌, arith}
use Rattle.csv.specs.Reading.{ReadRecord, Reached, default_config, is_flexible, reader_config, reader_state, source_of}
use Rattle.csv.specs.Reading.{strip_bom, took_first}
use Rattle.csv.specs.Records.{field_at}
use Rattle.csv.specs.declared.parser.State.TheVariants as st
use Rattle.csv.specs.declared.reader.Reader.{Reader}
use Rattle.csv.proofs.ReadFacts.{rows-more}
use Rattle.commands.specs.Import.{Begins}
use Rattle.commands.specs.ImportList.{HasRead, IsAt}

-- at the beginning of a list nothing was read
pub at_beginning : (list : Option (List ℕ)) (source : Option (List ℕ)) → source ≡ option_map strip_bom list
    → IsAt list [] st.StartRecord source
unfolding Reached
at_beginning None source is = tt
at_beginning (Some text) source is = (strip_bom text, is, (refl, refl))

module _ {R : Type 0} (remaining : R → Option (List ℕ)) (a b : Reader R) (f : List (List ℕ)) where
  at_next : (list : Option (List ℕ)) (rows : List (List (List ℕ))) → reader_config a ≡ default_config
      → IsAt list rows (reader_state a) (source_of remaining a) → ReadRecord remaining a b true f
      → IsAt list (rows ++ f ∷ []) (reader_state b) (source_of remaining b)
  at_next None rows config at read = tt
  at_next (Some text) rows config at read =
      rows-more remaining a b f default_config st.StartRecord (strip_bom text) at.0 rows config at.1 at.2 read

  -- if one more record was read, the reader has read one more row
  pub read_more : (list : Option (List ℕ)) (rows : List (List (List ℕ))) → HasRead remaining list rows a
      → ReadRecord remaining a b true f
      → is_flexible b ≡ is_flexible a → took_first b ≡ true → HasRead remaining list (rows ++ f ∷ []) b
  read_more list rows so read flexible took = record {
    trim = read.3 ∙ so.trim;
    ready = inl took;
    config = read.2 ∙ so.config;
    flexible = flexible ∙ so.flexible;
    at = at_next list rows so.config so.at read;
  }

-- the list begins with the rows that were read
pub read_begins : {R : Type 0} (remaining : R → Option (List ℕ)) (list : Option (List ℕ)) (rows : List (List (List ℕ)))
    (reader : Reader R)
    → HasRead remaining list rows reader → Begins list rows
read_begins remaining None rows reader so = tt
read_begins remaining (Some text) rows reader so = (reader_state reader, so.at.0, so.at.2, tt)

-- ---- fields

-- there is a field at each index before the end
pub field_is_there : (fs : List (List ℕ)) (i : ℕ) → i < length fs → None ≡ field_at fs i → ⊥
unfolding field_at
field_is_there [] i below none = absurd (omega arith)
field_is_there (f ∷ fs) zero below none = cc
field_is_there (f ∷ fs) (suc i) below none = field_is_there fs i (omega arith) none

-- five fields are those at the indices 0 to 4
pub five_fields : (fs : List (List ℕ)) (p v t g z : List ℕ) → length fs ≡ 5 → Some p ≡ field_at fs 0
    → Some v ≡ field_at fs 1 → Some t ≡ field_at fs 2
    → Some g ≡ field_at fs 3 → Some z ≡ field_at fs 4 → fs ≡ p ∷ v ∷ t ∷ g ∷ z ∷ []
unfolding field_at
five_fields [] p v t g z five a b c d e = absurd (omega (arith, five))
five_fields (f0 ∷ []) p v t g z five a b c d e = absurd (omega (arith, five))
five_fields (f0 ∷ f1 ∷ []) p v t g z five a b c d e = absurd (omega (arith, five))
five_fields (f0 ∷ f1 ∷ f2 ∷ []) p v t g z five a b c d e = absurd (omega (arith, five))
five_fields (f0 ∷ f1 ∷ f2 ∷ f3 ∷ []) p v t g z five a b c d e = absurd (omega (arith, five))
five_fields (f0 ∷ f1 ∷ f2 ∷ f3 ∷ f4 ∷ []) p v t g z five a b c d e = cc
five_fields (f0 ∷ f1 ∷ f2 ∷ f3 ∷ f4 ∷ f5 ∷ fs) p v t g z five a b c d e = absurd (omega (arith, five))
