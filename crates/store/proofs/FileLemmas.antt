-- Files that are opened, and files that are refused.
use Rattle.std.proofs.Common.{◌≡◌, ◌⊎◌, ◌<◌, ◌-◌, ◌*◌, ℕ, Bool, true, false, cond, List, [], ◌∷◌, length, take}
use Rattle.std.proofs.Common.{slice_index, Option, Some, unwrap_or, inl, inr, refl, sym, ap, ap₂, subst, ◌∙◌, arith}
use Rattle.std.proofs.Common.{get_or-take, zero-add, eq-eqb}
use Rattle.std.specs.Prelude.{zero, suc, ◌==◌}
use Rattle.std.proofs.lemmas.Bool.{cases_Bool}
use mathlib.Core.Logic.{∥∥₁_elim}
use mathlib.Core.HLevel.{⊥_prop}
use Rattle.sqlite_disk.specs.declared.Disk.{Ghosts}
use Rattle.sqlite_disk.specs.declared.Files.{Files}
use Rattle.sqlite_disk.specs.declared.tally.Tally.{Tally}
use Rattle.sqlite_disk.specs.Events.{Event, replay, settled}
use Rattle.sqlite_disk.specs.History.{MayLeave}
use Rattle.sqlite_wal.specs.Format.{part}
use Rattle.sqlite_wal.specs.Reads.{OnlyReads, tally_of_files}
use Rattle.sqlite_wal.specs.Files.{outcomes}
use Rattle.sqlite_wal.specs.Recovery.{Image, pages_after}
use Rattle.sqlite_wal.proofs.AppendLemmas.{some_value, page_from_pages}
use Rattle.sqlite_wal.proofs.PartLemmas.{slice_index-part, part_within}
use Rattle.sqlite_wal.proofs.RecoveryLemmas.{replays_once}
use Rattle.sqlite_pages.specs.PageMap.{PageMap}
use Rattle.sqlite_pool.specs.File.{header_in, IsSoundFile}
use Rattle.sqlite_pool.specs.Header.{IsHeader}
use Rattle.sqlite_pool.specs.Opening.{IsBlankFile}
use Rattle.sqlite_pool.specs.Stored.{stored_size, Adopts, StandsAs, IsUnreadable}
use Rattle.sqlite_pool.specs.StoredLaws.{trimmed_some}
use Rattle.sqlite_pool.proofs.ProbeLemmas.{first_byte}
use Rattle.sqlite_store.specs.Report.{named}
use Rattle.sqlite_store.specs.Unopened.{state_of}
use Rattle.sqlite_trees.specs.declared.error.StoreError.TheVariants.{Io, Full}
use Rattle.sqlite_trees.specs.Tree.{Trees}
use Rattle.sqlite.specs.Opening.{FailsAs}
use Rattle.sqlite.specs.Files.{AreFoundIn, BeginsWell, HoldsDatabase, IsNothing, IsEmpty, LeavesFiles, FailsToOpenFiles}
use Rattle.sqlite.specs.Files.{NamesSize, SaysSums, image_of, tally_left}
use Rattle.sqlite.proofs.FileLemmas.{is_something, same_image}
use Rattle.sqlite.specs.declared.file.Leftover.{Leftover}
use Rattle.sqlite.specs.declared.file.Leftover.TheVariants as left
use Rattle.sqlite.specs.declared.error.Error.{Error}
use Rattle.sqlite.specs.declared.error.Error.TheVariants.{SqliteFailure}
use Rattle.sqlite.specs.declared.error.ErrorCode.TheVariants as code
use Rattle.store.specs.Restart.{HoldsNoDatabase, HoldsNoFile, IsStray, Keeps}

-- ---- why an open is refused

uncaught : (before after : Tally) → after.caught ≡ before.caught
    → (named before after ≡ Io) ⊎ (named before after ≡ Full)
uncaught before after same =
    rw (eq-eqb after.caught before.caught same) (elim (cases_Bool (after.refused == before.refused)) [
      | inl none ↦ rw none (inl refl)
      | inr some ↦ rw some (inr refl)
    ])

-- if no read was caught, `NotADatabase` and `DatabaseCorrupt` say that the open did not find what it wanted
holds_none : (before after : Tally) (old new : ℕ) (Limit Wanted : Type 0) (e : Error) → after.caught ≡ before.caught
    → FailsAs (named before after) old new Limit Wanted e
    → (e ≡ SqliteFailure code.NotADatabase) ⊎ (e ≡ SqliteFailure code.DatabaseCorrupt) → ¬ Wanted
holds_none before after old new Limit Wanted e same (inl memory) (inl bad) = cc
holds_none before after old new Limit Wanted e same (inl memory) (inr bad) = cc
holds_none before after old new Limit Wanted e same (inr (inl none)) bad = none.1
holds_none before after old new Limit Wanted e same (inr (inr (inl fault))) bad =
    elim (uncaught before after same) [
      | inl io ↦ (let it = rw io at fault.0 in elim bad [ inl b ↦ cc | inr b ↦ cc ])
      | inr full ↦ (let it = rw full at fault.0 in elim bad [ inl b ↦ cc | inr b ↦ cc ])
    ]
holds_none before after old new Limit Wanted e same (inr (inr (inr full))) (inl bad) = let it = full.0 in cc
holds_none before after old new Limit Wanted e same (inr (inr (inr full))) (inr bad) = let it = full.0 in cc

-- if no read was caught, and an open failed with one of these errors, the files hold no database
pub left_holds_none : {D : Type 0} {g : Ghosts D} (files : Files D) (rest : Leftover D g) (e : Error)
    → FailsToOpenFiles files rest e
    → (tally_left rest).caught ≡ (tally_of_files g (files.log, files.db)).caught
    → (e ≡ SqliteFailure code.NotADatabase) ⊎ (e ≡ SqliteFailure code.DatabaseCorrupt) → HoldsNoFile (image_of g files)
left_holds_none {D} {g} files rest e fails same bad =
    holds_none (tally_of_files g (files.log, files.db)) (tally_left rest) _ _ _ _ e same fails bad

-- ---- files that were judged

-- nor do they in the sense of a store
pub no_database : (image : Image) → HoldsNoFile image → HoldsNoDatabase image
no_database image none held = none (elim held [ inl found ↦ inl found | inr unmade ↦ inr unmade.0 ])

-- a stray byte is no database
pub stray_is_none : (image : Image) → IsStray image → HoldsNoDatabase image
stray_is_none image stray held = elim held [
  | inl found ↦ is_something image found.0 found.1 (inl stray.1)
  | inr unmade ↦ unmade.1 stray
]

-- what was left of files that were only read before is left of the files
pub leaves_from : {D : Type 0} {g : Ghosts D} (old new : Files D) → OnlyReads g old.log new.log
    → OnlyReads g old.db new.db
    → (rest : Leftover D g) → LeavesFiles new rest → LeavesFiles old rest
leaves_from old new log db (left.Files now) leaves = λ it may. let was = leaves it may in
    (log.crash _ was.0, db.crash _ was.1)
leaves_from {D} {g} old new log db (left.Unopened now) leaves =
    let same : image_of g new ≡ image_of g old = same_image log db in
    let back : (it : Image) → outcomes g new.log new.db it
    → outcomes g old.log old.db it = λ it was. (log.crash _ was.0, db.crash _ was.1) in
    elim leaves [
      | inl made ↦ inl (
        subst IsNothing same made.0,
        λ it may. elim (made.1 it may) [ inl was ↦ inl (back it was) | inr under ↦ inr under ],
      )
      | inr kept ↦ inr (
        subst (λ i. ¬ IsNothing i) same kept.0,
        subst (λ i. NamesSize i (stored_size (state_of now).page_size)) same kept.1,
        subst (BeginsWell (stored_size (state_of now).page_size)) same kept.2,
        λ sums. subst (SaysSums (stored_size (state_of now).page_size)) same (kept.3 sums),
        λ it may. let k = kept.4 it may in record {
          same = elim k.same [
            | inl was ↦ inl (back it was)
            | inr stands ↦ inr (subst (λ i. StandsAs (state_of now).page_size i it) same stands)
          ];
          unread = λ none. back it (k.unread (subst (IsUnreadable (state_of now).page_size) (sym same) none));
          something = λ no. k.something (λ was. no (back it was));
        },
      )
    ]
leaves_from {D} {g} old new log db (left.Store now) leaves =
    let same : image_of g new ≡ image_of g old = same_image log db in
    λ found may. let it = leaves found may in (
      subst (λ i. AreFoundIn i found) same it.0,
      λ was held. it.1 was (subst (λ i. HoldsDatabase i was) (sym same) held),
    )

-- ---- files that have no database yet

-- a page that begins with a header has two bytes at least
long_page : (size : ℕ) (pages : PageMap) (page : List ℕ) → pages 1 ≡ Some (take size page)
    → IsHeader size (header_in pages) → 1 < size
long_page zero pages page used head =
    let front : header_in pages ≡ [] = ap (λ (o : Option (List ℕ)). take 100 (unwrap_or o [])) used in
    let magic = rw front at head.0.magic in cc
long_page (suc zero) pages [] used head =
    let front : header_in pages ≡ [] = ap (λ (o : Option (List ℕ)). take 100 (unwrap_or o [])) used in
    let magic = rw front at head.0.magic in cc
long_page (suc zero) pages (b ∷ more) used head =
    let front : header_in pages ≡ b ∷ [] = ap (λ (o : Option (List ℕ)). take 100 (unwrap_or o [])) used in
    let magic = rw front at head.0.magic in cc
long_page (suc (suc n)) pages page used head = omega arith

module _ (size : ℕ) (image : Image) (pages : PageMap) (found : Adopts size image pages) (sound : IsSoundFile size pages)
  where
    -- if the log has no frame to replay, the database file begins as a database does
    begins_well : found.found.frames ≡ 0 → (1 < length image.db) × (slice_index image.db 0 ≡ 83)
    begins_well none =
        let whole = stored_size size in
        let raw = found.found in
        let (page, is) = some_value (found.stored 1) found.whole.first in
        let alone : pages_after whole image.log image.db 0 1 ≡ Some page =
        ap (λ (p : PageMap). p 1) (ap (pages_after whole image.log image.db) (sym none) ∙ raw.gives) ∙ is in
        let start : (1 - 1) * whole ≡ 0 = omega arith in
        let front : part image.db 0 whole ≡ page = ap (λ (at : ℕ). part image.db at whole) (sym start)
        ∙ (page_from_pages whole image.log image.db 0 1 page alone).0 in
        let used : pages 1 ≡ Some (take size page) = ap (λ (p : PageMap). p 1) (sym found.shows)
        ∙ trimmed_some size _ 1 page is in
        let large = long_page size pages page used sound.header in
        let long = part_within image.db 0 whole (omega arith) (ap length front ∙ found.whole.sized 1 page is) in
        let head : header_in pages ≡ take 100 (take size (part image.db 0 whole)) =
        ap (λ (o : Option (List ℕ)). take 100 (unwrap_or o [])) used
        ∙ ap (λ (b : List ℕ). take 100 (take size b)) (sym front) in
        let byte = ap (λ (b : List ℕ). slice_index b 0) head
        ∙ get_or-take 100 (take size (part image.db 0 whole)) 0 0 (omega arith)
        ∙ get_or-take size (part image.db 0 whole) 0 0 (omega arith) ∙ slice_index-part image.db 0 whole 0 (omega arith)
        ∙ ap (slice_index image.db) (zero-add 0) in (
          omega arith,
          sym byte ∙ sym (get_or-take 16 (header_in pages) 0 0 (omega arith))
              ∙ ap (λ (b : List ℕ). slice_index b 0) sound.header.0.magic,
        )

    -- files that hold a database are not blank
    not_blank : (other : ℕ) → 0 < other → ¬ IsBlankFile other image
    not_blank other some (inl none) = omega (arith, found.found.present)
    not_blank other some (inr blank) =
        let raw = found.found in
        let none : raw.frames ≡ 0 = elim blank.0 [
          | inl ignored ↦ replays_once (stored_size size) image.log raw.frames 0 raw.replays (inl (ignored.0, refl))
          | inr taken ↦ elim raw.replays [
            | inl ignored ↦ ignored.1
            | inr ours ↦ replays_once (stored_size size) image.log raw.frames 0 raw.replays
                (rw (sym ours.0.head.size ∙ taken.0.head.size) blank.0)
          ]
        ] in
        let (long, magic) = begins_well none in
        elim blank.1.0 [
          | inl short ↦ omega arith
          | inr more ↦ elim more [
            | inl zero' ↦ omega (arith, zero'.1)
            | inr rest ↦ rest.1 (magic ∙ sym (first_byte other some))
          ]
        ]

-- opening files that have no database yet finds no tables
pub finds_empty : (image : Image) (db : Trees) → IsNothing image → AreFoundIn image db → IsEmpty db
finds_empty image db nothing (inl (size, pages, wanted, found, ours, reads)) =
    absurd (∥∥₁_elim ours ⊥_prop (λ it. elim nothing [
      | inl plain ↦ not_blank size image pages found it.file.sound _ (omega arith) plain
      | inr summed ↦ not_blank size image pages found it.file.sound _ (omega arith) summed
    ]))
finds_empty image db nothing (inr none) = none.1

-- what an open that failed left of files that nobody had touched
pub keeps_fresh : {D : Type 0} {g : Ghosts D} (files : Files D)
    → ((it : Image) → outcomes g files.log files.db it → it ≡ image_of g files)
    → (rest : Leftover D g) → LeavesFiles files rest → Keeps (image_of g files) rest
keeps_fresh files alone (left.Files now) leaves = λ it may. alone it (leaves it may)
keeps_fresh files alone (left.Unopened now) leaves = λ it may. elim leaves [
  | inl made ↦ elim (made.1 it may) [ inl old ↦ inl (alone it old) | inr under ↦ inr (inl (made.0, under)) ]
  | inr kept ↦ elim (kept.4 it may).same [ inl old ↦ inl (alone it old) | inr stands ↦ inr (inr (kept.0, stands)) ]
]
keeps_fresh {D} {g} files alone (left.Store now) leaves = λ db found. record {
  database = λ was held. inl ((leaves db found).1 was held);
  nothing = λ none. inl (finds_empty (image_of g files) db none (leaves db found).0);
}

-- ---- files that were just opened

abbrev image : List ℕ → List ℕ → Image
image log db = record { log = log; db = db }

abbrev seen : List ℕ → List ℕ → Bool → List Event → List ℕ
seen log db is_log history = (replay (cond is_log log db) history).seen

-- files that were only opened hold what they held
pub holds_start : (log db : List ℕ) (of_log of_db : Bool) (calls_log calls_db : List Event) (key_log key_db : ℕ)
    → (of_log ≡ true) × (calls_log ≡ settled key_log ∷ []) → (of_db ≡ false) × (calls_db ≡ settled key_db ∷ [])
    → image (seen log db of_log calls_log) (seen log db of_db calls_db) ≡ image log db
holds_start log db of_log of_db calls_log calls_db key_log key_db is_log is_db =
    ap₂ image (ap₂ (seen log db) is_log.0 is_log.1) (ap₂ (seen log db) is_db.0 is_db.1)

-- a crash leaves a file that was only opened as it is
untouched : (mixes : Bool) (start : List ℕ) (history : List Event) (key : ℕ) → history ≡ settled key ∷ [] → (c : List ℕ)
    → MayLeave mixes (replay start history).seen (replay start history).synced (replay start history).steps c
    → c ≡ (replay start history).seen
untouched mixes start history key is c may = let left = rw is at may in
    rw is (elim left [ inl same ↦ same | inr same ↦ same ])

-- and so it leaves both
pub both_untouched : (mixes : Bool) (log db : List ℕ) (calls_log calls_db : List Event) (key_log key_db : ℕ)
    → calls_log ≡ settled key_log ∷ [] → calls_db ≡ settled key_db ∷ [] → (it : Image)
    → MayLeave mixes (replay log calls_log).seen (replay log calls_log).synced (replay log calls_log).steps it.log
    → MayLeave mixes (replay db calls_db).seen (replay db calls_db).synced (replay db calls_db).steps it.db
    → it ≡ image (replay log calls_log).seen (replay db calls_db).seen
both_untouched mixes log db calls_log calls_db key_log key_db is_log is_db it may_log may_db =
    ap₂ image (untouched mixes log calls_log key_log is_log it.log may_log)
    (untouched mixes db calls_db key_db is_db it.db may_db)
