-- What a row that fits has in its columns.
use Rattle.std.proofs.Common.{◌≡◌, Bool, false, true≢false, List, [], ℕ, Option, Some, None, Ok, Err, Result, IfOk}
use Rattle.std.proofs.Common.{IfSome, Decides, sym, ap, subst, subst₂, ◌∙◌, inr}
use Rattle.std.specs.Str.{IsUtf8}
use Rattle.sqlite.specs.declared.types.Value.{Value}
use Rattle.sqlite.specs.declared.types.Value.TheVariants.{Null, Int, Real, Text, Blob}
use Rattle.sqlite.specs.Values.{or_null}
use Rattle.sqlite.specs.Order.{Row, column}
use Rattle.sqlite.specs.declared.error.Error.{Error}
use Rattle.world.specs.declared.entry.Place.{Place}
use Rattle.world.specs.declared.entry.Entry.{Entry}
use Rattle.world.specs.EntryTest.{fitting_version}
use Rattle.world.specs.World.{place, IsEntry}
use Rattle.tables.specs.Fit.{MayHaveParent, IsShelfRow, IsKeyRow, IsEntryRow, ShowsAt, ShowsFiles, ShowsKeys, text_in}
use Rattle.tables.specs.Fit.{place_in}
use Rattle.modver.specs.Keys.{order_key_of, rank_key_of}
use Rattle.modver.specs.SemanticVersion.{SemanticVersion}
use Rattle.modver.specs.Time.{IsTime}
use Rattle.tables.proofs.EntryTests.{entry_timed, fitting_none, fitting_some}
use Rattle.tables.proofs.VersionKeyLemmas.{order_at, rank_at}
use Rattle.tables.proofs.AsciiLemmas.{shelf_utf8, key_utf8, path_utf8, version_utf8}

abbrev pub HasNoText : Row → ℕ → Type 0
HasNoText row at = (t : List ℕ) → column row at ≡ Text t → IsUtf8 t → ⊥

-- a name of a shelf is text, and so is its parent's
pub named_utf8 : (name : List ℕ) (parent : Option (List ℕ)) → MayHaveParent name parent
    → IsUtf8 name × IfSome parent IsUtf8
named_utf8 name None named = (shelf_utf8 name named, tt)
named_utf8 name (Some parent) named = (shelf_utf8 name (inr named.0), shelf_utf8 parent named.1)

pub no_shelf : (row : Row) → HasNoText row 0 → IsShelfRow row → ⊥
no_shelf row none fits = none fits.0 fits.2 (named_utf8 fits.0 fits.1 fits.4).0

pub no_parent : (row : Row) → ((t : Option (List ℕ)) → column row 1 ≡ or_null Text t → IfSome t IsUtf8 → ⊥)
    → IsShelfRow row → ⊥
no_parent row none fits = none fits.1 fits.3 (named_utf8 fits.0 fits.1 fits.4).1

pub no_key : (row : Row) → HasNoText row 0 → IsKeyRow row → ⊥
no_key row none fits = none fits.0 fits.1 (key_utf8 fits.0 fits.2)

pub no_path : (row : Row) → HasNoText row 1 → IsEntryRow row → ⊥
no_path row none fits = none fits.0.path fits.2.path (path_utf8 fits.0.path fits.2.may.path)

pub no_version : (row : Row) → HasNoText row 2 → IsEntryRow row → ⊥
no_version row none fits =
    none fits.0.version fits.2.version (version_utf8 fits.2.may.version.0 fits.0.version fits.2.may.version.1)

pub place_shown : (row : Row) (s p v : List ℕ) → column row 0 ≡ Text s → column row 1 ≡ Text p → column row 2 ≡ Text v
    → place s p v ≡ place_in row
place_shown row s p v one two three = λ i.
    record { shelf = text_in (sym one i); path = text_in (sym two i); version = text_in (sym three i) }

pub entry_shown : (row : Row) (s p v : List ℕ) (e : Entry) → column row 0 ≡ Text s → IsUtf8 s
    → column row 1 ≡ Text p → column row 2 ≡ Text v → ShowsFiles row e → ShowsKeys row v → IsEntry (place s p v) e
    → IsEntryRow row
entry_shown row s p v e one utf8 two three files keys may = (
  place s p v,
  e,
  record {
    shelf = one;
    path = two;
    version = three;
    files = files;
    keys = keys;
    utf8 = utf8;
    may =
        may;
  },
)

-- the text that a value is, or none
abbrev pub time_in : Value → Option (List ℕ)
time_in Null = None
time_in (Int n) = None
time_in (Real x) = None
time_in (Text t) = Some t
time_in (Blob b) = None

pub time_read : (v : Value) (time : Option (List ℕ)) → v ≡ or_null Text time → time ≡ time_in v
time_read v None is = ap time_in (sym is)
time_read v (Some t) is = ap time_in (sym is)

pub same_entry : (row : Row) (d e : Entry) → ShowsFiles row d → ShowsFiles row e → d ≡ e
same_entry row d e one two =
    let gomod : d.gomod ≡ e.gomod = let f = sym one.gomod ∙ two.gomod in cc in
    let zip : d.zip ≡ e.zip = one.zip ∙ sym two.zip in
    let time : d.time ≡ e.time = time_read (column row 3) d.time one.time
    ∙ sym (time_read (column row 3) e.time two.time) in
    λ i. record { gomod = gomod i; zip = zip i; time = time i }

-- where the files of a row are those of an entry that may stand there, the test of the last columns decides whether
-- the row shows it with its keys
pub keys_decide : (row : Row) (p v : List ℕ) (e : Entry) (x : SemanticVersion) (r : Result Bool Error)
    → ShowsFiles row e → Some x ≡ fitting_version p v e
    → IfOk r (λ b. Decides b ((column row 5 ≡ Blob (order_key_of x)) × (column row 6 ≡ Blob (rank_key_of x))))
    → IfOk r (λ b. Decides b (ShowsAt row p v))
keys_decide row p v e x (Err _) files fits answer = tt
keys_decide row p v e x (Ok b) files fits answer =
    let it = fitting_some p v e x fits in
    let order = ap Blob (order_at v x it.1) in
    let rank = ap Blob (rank_at v x it.1) in (
      λ t. record {
        entry = e;
        files = files;
        keys =
            record { order = (answer.0 t).0 ∙ sym order; rank = (answer.0 t).1 ∙ sym rank };
        may = it.0;
      },
      λ at. answer.1 (at.keys.order ∙ order, at.keys.rank ∙ rank),
    )

-- where they are those of none, the row shows none
pub none_fits : (row : Row) (p v : List ℕ) (e : Entry) → ShowsFiles row e → None ≡ fitting_version p v e
    → ShowsAt row p v → ⊥
none_fits row p v e files none at =
    fitting_none p v e none [] (subst (IsEntry (place [] p v)) (same_entry row at.entry e at.files files) (at.may []))

pub no_time : (row : Row) (p v : List ℕ) → ((t : Option (List ℕ)) → column row 3 ≡ or_null Text t → IfSome t IsTime → ⊥)
    → ShowsAt row p v → ⊥
no_time row p v none at = none at.entry.time at.files.time (entry_timed (place [] p v) at.entry (at.may []))

-- the row shows no entry that may stand at its place, whatever its shelf is
pub none_shown : (row : Row) (p v : List ℕ) (b : Bool) → column row 1 ≡ Text p → column row 2 ≡ Text v → b ≡ false
    → Decides b (ShowsAt row p v) → IsEntryRow row → ⊥
none_shown row p v b path version is_none answer fits =
    let q : Place = fits.0 in
    let e : Entry = fits.1 in
    let is : IsEntry q e = fits.2.may in
    let one : q.path ≡ p = let f = sym fits.2.path ∙ path in cc in
    let two : q.version ≡ v = let f = sym fits.2.version ∙ version in cc in
    let anywhere : (s : List ℕ)
    → IsEntry (place s q.path q.version) e = λ s.
    record {
      path = is.path;
      version = is.version;
      fits = is.fits;
      gomod = is.gomod;
      zip = is.zip;
      time = is.time;
      reads = is.reads;
    } in
    let at : ShowsAt row q.path q.version =
    record { entry = e; files = fits.2.files; keys = fits.2.keys; may = anywhere } in
    true≢false (sym (answer.1 (subst₂ (ShowsAt row) one two at)) ∙ is_none)
