-- The list of an import: CSV with a header and five fields a row.
use Rattle.std.specs.Prelude.{ℕ, ◌≡◌, ◌≢◌, List, [], ◌∷◌, ◌++◌, codes, length, true, Option, Some, None}
use Rattle.csv.specs.Machine.{Read, next_record}
use Rattle.csv.specs.Reading.{Reached, Ready, default_config, has_failed, is_flexible, reader_config, reader_state}
use Rattle.csv.specs.Reading.{reader_trim, source_of, strip_bom}
use Rattle.csv.specs.Records.{AllText}
use Rattle.csv.specs.declared.error.ErrorKind.{ErrorKind}
use Rattle.csv.specs.declared.error.ErrorKind.TheVariants as kind
use Rattle.csv.specs.declared.parser.State.{State}
use Rattle.csv.specs.declared.parser.State.TheVariants as st
use Rattle.csv.specs.declared.reader.Reader.{Reader}
use Rattle.csv.specs.declared.reader.Trim.TheVariants as trim
use Rattle.commands.specs.declared.import_list.NextRow.{NextRow}
use Rattle.commands.specs.declared.import_list.NextRow.TheVariants as next
use Rattle.commands.specs.declared.import_list.ImportRow.{ImportRow}

-- ---- rows

-- what a row says, as texts
pub record Line : Type 0 where
  pub path : List ℕ
  pub version : List ℕ
  pub time : List ℕ
  pub gomod : List ℕ
  pub zip : List ℕ

abbrev pub fields_of_line : Line → List (List ℕ)
fields_of_line l = l.path ∷ l.version ∷ l.time ∷ l.gomod ∷ l.zip ∷ []

abbrev pub line_of_row : ImportRow → Line
line_of_row r = record {
  path = r.path.now;
  version = r.version.now;
  time = r.time.now;
  gomod = r.gomod.now;
  zip = r.zip.now;
}

abbrev pub fields_of_row : ImportRow → List (List ℕ)
fields_of_row r = fields_of_line (line_of_row r)

abbrev pub header : List (List ℕ)
header = codes "path" ∷ codes "version" ∷ codes "time" ∷ codes "mod" ∷ codes "zip" ∷ []

-- the row of these fields, or none if they are not five
abbrev pub IsRowOf : List (List ℕ) → Option ImportRow → Type 0
IsRowOf fields None = length fields ≢ 5
IsRowOf fields (Some row) = fields ≡ fields_of_row row

-- ---- reading

-- If the bytes of the list are known, its records begin with these rows, and behind them the reader is in this state
-- with this rest.
abbrev pub IsAt : Option (List ℕ) → List (List (List ℕ)) → State → Option (List ℕ) → Type 0
IsAt None rows state source = Unit {0}
IsAt (Some text) rows state source =
    (rest : List ℕ) × (source ≡ Some rest) × Reached default_config st.StartRecord (strip_bom text) rows state rest

-- if the bytes of the list are known, its records begin with these rows, and this holds of what comes next
abbrev pub Meets : Option (List ℕ) → List (List (List ℕ)) → (Option Read → Type 0) → Type 0
Meets None rows so = Unit {0}
Meets (Some text) rows so =
    (state : State) × (rest : List ℕ) × Reached default_config st.StartRecord (strip_bom text) rows state rest
    × so (next_record default_config state [] [] rest)

-- no record comes
abbrev pub IsNone : Option Read → Type 0
IsNone next = next ≡ None

-- a record comes that is not UTF-8
abbrev pub IsNoText : Option Read → Type 0
IsNoText next = (record_next : Read) × (next ≡ Some record_next) × (¬ AllText record_next.0)

-- what comes if a read failed with this error
abbrev pub next_of : ErrorKind → NextRow
next_of (kind.Io e) = next.ReadError
next_of kind.OutOfMemory = next.ReadError
next_of other = next.NoText

module _ {R : Type 0} (remaining : R → Option (List ℕ)) (list : Option (List ℕ)) where
  -- a reader with the defaults of the crate that has read these rows of the list
  pub record HasRead (rows : List (List (List ℕ))) (reader : Reader R) : Type 0 where
    pub trim : reader_trim reader ≡ trim.None
    pub ready : Ready reader
    pub config : reader_config reader ≡ default_config
    pub flexible : is_flexible reader ≡ true
    pub at : IsAt list rows (reader_state reader) (source_of remaining reader)

  -- This comes after these rows; of a list that can't be read on, its reader has failed.
  abbrev pub Comes : List (List (List ℕ)) → Reader R → List (List ℕ) → NextRow → Type 0
  Comes rows reader fields next.Fields = HasRead (rows ++ fields ∷ []) reader
  Comes rows reader fields next.End = Meets list rows IsNone
  Comes rows reader fields next.NoText = Meets list rows IsNoText
  Comes rows reader fields next.ReadError = has_failed reader ≡ true
