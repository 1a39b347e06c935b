-- A publish of files, by the words of a command line or a list.
use Rattle.std.specs.Prelude.{ℕ, List, ◌≡◌, ◌==◌, ◌||◌, ◌++◌, codes, Bool, Option, Some, None, Result, Ok, Err}
use Rattle.std.specs.Prelude.{MatchResult}
use Rattle.std.specs.Option.{option_copied}
use Rattle.std.specs.Io.KnownBytes.{Appends}
use Rattle.modver.specs.Reading.{version_of}
use Rattle.modver.specs.SemanticVersion.{SemanticVersion}
use Rattle.machine.specs.Machine.{request_reply, after_request}
use Rattle.world.specs.Forms.{path_of}
use Rattle.world.specs.Store.{Shown, Does}
use Rattle.machine.specs.declared.request.Request.{Request}
use Rattle.machine.specs.declared.request.Request.TheVariants.{Unreadable, Put}
use Rattle.machine.specs.declared.request.Body.{Body}
use Rattle.machine.specs.declared.request.GivenTime.{GivenTime}
use Rattle.machine.specs.declared.request.GivenTime.TheVariants.{Absent}
use Rattle.machine.specs.declared.reply.Reply.{Reply}
use Rattle.machine.specs.declared.reply.Reply.TheVariants as reply
use Rattle.world.specs.declared.registry.StoreFault.{StoreFault}
use Rattle.engine.specs.Request.{time_in}
use Rattle.engine.specs.Reply.{fixed_of}
use Rattle.wire.specs.Reply.{line_bytes, fixed_status}
use Rattle.wire.specs.declared.reply.Fixed.{Fixed}
use Rattle.wire.specs.declared.reply.Fixed.TheVariants as fixed
use Rattle.commands.specs.Printed.{PrintsFront}
use Rattle.commands.specs.Sources.{Adds, FileDone, ReadsBoth}
use Rattle.commands.specs.declared.publish.Files.{Files}
use Rattle.commands.specs.declared.publish.Words.{Words}
use Rattle.commands.specs.declared.refusal.CommandRefusal.{CommandRefusal}
use Rattle.commands.specs.declared.refusal.CommandRefusal.TheVariants.{Io}
use Rattle.commands.specs.declared.sources.SourceFault.{SourceFault}
use Rattle.commands.specs.declared.sources.SourceFault.TheVariants as file

-- the time that the text writes, malformed if it writes none, or absent without a text
abbrev pub given_time : Option (List ℕ) → GivenTime
given_time None = Absent
given_time (Some text) = time_in text

-- a publish of the files at a path and a version, if both are valid, and otherwise an unreadable request
abbrev pub asked_at : List ℕ → Option (List ℕ) → Option SemanticVersion → GivenTime → Body → Request
asked_at key (Some path) (Some version) time body =
    Put key (record { path = path; version = version; body = Some body; time = time })
asked_at key path version time body = Unreadable

-- what a publish asks of the machine, with a path and a version that are not escaped
abbrev pub asked : List ℕ → List ℕ → List ℕ → Option (List ℕ) → Body → Request
asked key path version time body = asked_at key (path_of path) (version_of version) (given_time time) body

-- what a publish by these words asks of the machine
abbrev pub asked_by : Words → Body → Request
asked_by words body = asked words.key.now words.path.now words.version.now (option_copied words.time) body

-- the fixed answer to a publish: the 503 if the store met a fault
abbrev pub answer_of : Result Reply StoreFault → Fixed
answer_of (Ok (reply.Decided decision)) = fixed_of decision
answer_of (Ok other) = fixed.NotFound
answer_of (Err fault) = fixed.Unavailable

-- a status that accepts: 200 or 201
abbrev pub accepts : ℕ → Bool
accepts status = (status == 200) || (status == 201)

-- the line of an answer
abbrev pub answer_line : Fixed → List ℕ
answer_line answer = line_bytes answer ++ codes "\n"

-- the line of the answer was printed, and the result is whether it accepts; or the output failed and a beginning of it
-- was printed
abbrev pub PrintsAnswer : Fixed → Option (List ℕ) → Option (List ℕ) → Result Bool CommandRefusal → Type 0
PrintsAnswer answer written written_new result =
    MatchResult result
    (λ accepted. (accepted ≡ accepts (fixed_status answer)) × Appends written written_new (answer_line answer))
    (λ e. (e ≡ Io) × PrintsFront written written_new (answer_line answer))

-- From old to new the store did what was asked, as the machine does in each world that it stood for, or met a fault (or
-- memory ran out before that) and changed nothing; and the line of the answer was printed.
pub record PublishesAndTells
    (old new : Shown) (request : Request) (written written_new : Option (List ℕ))
    (result : Result Bool CommandRefusal) : Type 0
  where
    pub told : Result Reply StoreFault
    pub does : Does old new told (λ w. request_reply w request) (λ w. after_request w request)
    pub tells : PrintsAnswer (answer_of told) written written_new result

module _ {S : Type 0} (shown : S → Shown) (old new : S) (request : Body → Request) where
  -- How a publish ends, by how its two files were read. If they were, they are published, and the outcome is printed.
  -- If memory ran out, the 503 is printed; if one can't be read, nothing is; and the store stays as it was.
  abbrev pub EndsBy : Option (List ℕ) → Option (List ℕ) → Result Bool CommandRefusal → Result Body SourceFault → Type 0
  EndsBy written written_new result (Ok body) =
      PublishesAndTells (shown old) (shown new) (request body) written written_new result
  EndsBy written written_new result (Err file.Memory) = (new ≡ old)
      × PrintsAnswer fixed.Unavailable written written_new result
  EndsBy written written_new result (Err file.NoFile) = (new ≡ old) × (written_new ≡ written) × (result ≡ Err Io)

module _ (files : Files) (before after : List FileDone) {S : Type 0} (shown : S → Shown) (old new : S)
    (request : Body → Request) where
  -- the two files were read or not, and no other, and the publish ended by that
  pub record PublishesFiles (written written_new : Option (List ℕ)) (result : Result Bool CommandRefusal) : Type 0 where
    pub read : Result Body SourceFault
    pub are : Adds before after (ReadsBoth files.gomod.now files.zip.now read)
    pub ends : EndsBy shown old new request written written_new result read
