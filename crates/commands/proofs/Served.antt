-- A store whose versions are counted before it is served, and what is written of the room for orders.
use Rattle.std.proofs.Common.{◌≡◌, ◌∙◌, ◌++◌, ℕ, List, [], ◌∷◌, Bool, false, Option, None, Result, Ok, Err, IfOk, ap}
use Rattle.std.proofs.Common.{inl, inr, refl}
use Rattle.std.proofs.lemmas.List.Elements.{All-cons}
use Rattle.histories.specs.Calls.{Writes}
use Rattle.world.specs.Store.{Shown}
use Rattle.world.specs.declared.registry.StoreFault.{StoreFault}
use Rattle.control.specs.Copying.{Making, AllRead, Counted, GoesOnRead, IsOnlyRead, TellsSince}
use Rattle.control.specs.Health.{tally_of}
use Rattle.control.specs.declared.health.Metrics.{Metrics}
use Rattle.control.specs.declared.health.Health.{Health}
use Rattle.control.specs.Noted.{Noted, noted_line}
use Rattle.control.specs.Notices.{Ended, Occasion, Reserved, WritesLines, line_of, opened, room_told}
use Rattle.control.specs.Reserve.{DiskDeed, is_whole}
use Rattle.control.specs.Traces.{HasAllTraces, IsLineFor}
use Rattle.control.specs.Visits.{Call}
use Rattle.control.specs.declared.reserve.Room.{Room}
use Rattle.control.proofs.NoticeLemmas.{written_so, written_then}
use Rattle.control.proofs.StepLemmas.{steps_more}
use Rattle.control.proofs.TaskLemmas.{tasks_read}
use Rattle.commands.specs.Serve.{AreOfRoom, AreOfServe}

module _ {S : Type 0} (shown : S → Shown) (made : S → S → Making → Type 0)
    (counted : S → S → ℕ → Type 0) (old mid new : S) (since : List ℕ) (most : ℕ)
    (read : IsOnlyRead (shown old) (shown mid))
    (goes : GoesOnRead shown made counted mid new since most) where
  behind : (told : Result Health StoreFault)
      → ((shown new).is_honest → (w : _) → (shown old).stands w
      → AllRead shown made counted w goes.steps → AllRead shown made counted w (Counted told ∷ goes.steps))
      → TellsSince since (Counted told) → GoesOnRead shown made counted old new since most
  behind told more tells = record {
    steps = Counted told ∷ goes.steps;
    few = goes.few;
    through = steps_more (shown old) (shown mid) (shown new) (Counted told ∷ []) goes.steps
        (tasks_read (shown old) (shown mid) read) goes.through;
    reads = λ h w stands. more h w stands
        (goes.reads h w (read.stays (goes.through.runs.honest h) w stands));
    begun = All-cons (TellsSince since) (Counted told) goes.steps tells goes.begun;
  }

  -- the count is told as one of a ping that comes before all connections, at this time
  pub counted_first : (told : Result ℕ StoreFault) → IfOk told (λ n. counted old mid n)
      → GoesOnRead shown made counted old new since most
  counted_first (Ok n) came =
      let figures : Metrics = record { bytes = None; log = None; copied = None; copying = None; traffic = None } in
      let health : Health =
      record { tally = tally_of since []; store_failures = (shown mid).failures; versions = n; figures = figures } in
      behind (Ok health) (λ h w stands all. (
        record {
          source = old;
          source_new = mid;
          honest = goes.through.runs.honest h;
          stands = stands;
          failures_now = refl;
          came = came;
        },
        all,
      )) refl
  counted_first (Err fault) came = behind (Err fault) (λ h w stands all. all) tt

-- ---- the room for orders

line_for : (about : Occasion) (noted : Noted) → IfOk noted (λ notice. notice.text ≡ line_of about)
    → IsLineFor about (noted_line noted)
line_for about (Ok notice) is = inl is
line_for about (Err none) is = inr refl

pub room_lacks : (noted : Noted) (a b : Option (List ℕ) × Writes)
    → IfOk noted (λ notice. notice.text ≡ line_of (Reserved (room_told false)))
    → WritesLines (λ lines. lines ≡ noted_line noted ∷ []) a b → WritesLines (AreOfRoom false) a b
room_lacks noted a b is written =
    written_so (λ lines. lines ≡ noted_line noted ∷ []) (AreOfRoom false) a b
    (λ lines so. (noted_line noted, so, line_for (Reserved (room_told false)) noted is)) written

-- ---- the lines of a `serve`

-- each is written behind those before
pub lines_of_serve : {P O : Type 0} (versions : Result ℕ StoreFault) (found : Room) (calls : List (Call P O))
    (more : List DiskDeed) (file : List ℕ) (one two : Noted) (a b c d e : Option (List ℕ) × Writes)
    → IfOk one (λ notice. notice.text ≡ line_of (opened file versions))
    → WritesLines (λ lines. lines ≡ noted_line one ∷ []) a b → WritesLines (AreOfRoom (is_whole found)) b c
    → WritesLines (λ lines. HasAllTraces found calls lines more) c d → IfOk two (λ notice. notice.text ≡ line_of (Ended file))
    → WritesLines (λ lines. lines ≡ noted_line two ∷ []) d e → WritesLines (λ lines. AreOfServe file versions found calls lines more) a e
lines_of_serve {P} {O} versions found calls more file one two a b c d e opens first room traces ends last =
    let last_line : List (List ℕ) → Type 0 = λ lines. lines ≡ noted_line two ∷ [] in
    let behind_room : List (List ℕ) → Type 0 =
    λ lines. (between : List (List ℕ)) × HasAllTraces found calls between more × (lines ≡ between ++ noted_line two ∷ []) in
    let behind_first : List (List ℕ) → Type 0 =
    λ lines. (about : List (List ℕ)) × (between : List (List ℕ)) × AreOfRoom (is_whole found) about
    × HasAllTraces found calls between more
    × (lines ≡ about ++ (between ++ noted_line two ∷ [])) in
    written_then (λ lines. lines ≡ noted_line one ∷ []) behind_first
    (λ lines. AreOfServe file versions found calls lines more) a b e
    (λ xs ys is behind. record {
      first = noted_line one;
      opens = line_for (opened file versions) one opens;
      room = behind.0;
      tells_room = behind.2;
      between = behind.1;
      traces = behind.3;
      last = noted_line two;
      ends = line_for (Ended file) two ends;
      are = ap (λ l. l ++ ys) is ∙ ap (λ l. noted_line one ∷ l) behind.4;
    }) first
    (written_then (AreOfRoom (is_whole found)) behind_room behind_first b c e
    (λ xs ys lacks behind. (xs, behind.0, lacks, behind.1, ap (λ l. xs ++ l) behind.2)) room
    (written_then (λ lines. HasAllTraces found calls lines more) last_line behind_room c d e (λ xs ys has is. (xs, has, ap (λ l. xs ++ l) is))
    traces last))
