-- What the callers of a stream get, in bytes: nothing about others, what was served before, and the latest version.
use Rattle.std.specs.Prelude.{ℕ, ◌≡◌, ◌⊎◌, List, [], ◌∷◌, Bool, Option, map}
use Rattle.latest.specs.Latest.{IsTop}
use Rattle.modver.specs.SemanticVersion.{SemanticVersion}
use Rattle.wire.specs.Reply.{reply_bytes, fixed_bytes, info_bytes}
use Rattle.wire.specs.declared.resource.Resource.{Resource}
use Rattle.wire.specs.declared.resource.Target.TheVariants as target
use Rattle.wire.specs.declared.reply.Fixed.TheVariants.{NotFound, Unavailable}
use Rattle.wire.specs.declared.reply.MediaType.TheVariants.{Json}
use Rattle.world.specs.World.{World, IsWorld, chain}
use Rattle.machine.specs.declared.request.Request.TheVariants.{Get}
use Rattle.machine.specs.declared.request.Event.{Event}
use Rattle.machine.specs.declared.request.Query.TheVariants.{Latest}
use Rattle.machine.specs.declared.reply.Answer.{Answer}
use Rattle.machine.specs.Machine.{Run}
use Rattle.machine.specs.Isolation.{remaining, marked, belongs, Agree}
use Rattle.machine.specs.Immutability.{IsOfVersion}
use Rattle.machine.specs.PathLaws.{unretracted_versions, HasTime}
use Rattle.engine.specs.Request.{request_of, query_of, target_in}
use Rattle.engine.specs.Exchange.{Exchange, event_of, answer_of}
use Rattle.engine.specs.AnsweredEvent.{AnsweredEvent, origin_of, event_at, answer_at, text_at, faultless}
use Rattle.engine.specs.Reply.{text_of, status_of}

-- the 503
abbrev pub unavailable : List ℕ
unavailable = fixed_bytes Unavailable

-- ---- nothing about others

-- Two runs begin in worlds that agree on what s sees: one with all that came, the other with what remains of it,
-- without the messages of others. They write the same texts for what remains, and the worlds after both agree again. A
-- message that a run answered 503 is left out of that run, and so is a command that met a fault.
abbrev pub CallersAreAnsweredAlike : Type 0
CallersAreAnsweredAlike =
    (old old_too new new_too : World) (s : List ℕ) (full purged : List AnsweredEvent) → IsWorld old
    → Agree old old_too (chain new s)
    → Run old (map event_at full) (map answer_at full) new
    → Run old_too (map event_at purged) (map answer_at purged) new_too
    → let marks : List Bool = remaining old (chain new s) (map event_at (faultless full)) in
    map origin_of (faultless purged) ≡ marked marks (map origin_of (faultless full))
    → (map text_at (faultless purged) ≡ marked marks (map text_at (faultless full))) × Agree new new_too (chain new s)

-- ---- what was served before

-- Once a GET of the time, the go.mod, the zip or the go.sum line of a version by a key of s is answered 200, then after
-- any events a GET of the same by any key that then belongs to s gets the same text or the 503.
abbrev pub BytesStayServed : Type 0
BytesStayServed =
    (old mid new : World) (s k later : List ℕ) (q : Resource) (first last : Exchange) (events : List Event)
    (answers : List Answer)
    → IsWorld old → belongs old k s → IsOfVersion (query_of q) → target_in first.message ≡ target.Get k q
    → status_of first ≡ 200
    → Run old (event_of first ∷ events) (answer_of first ∷ answers) mid
    → belongs mid later s → target_in last.message ≡ target.Get later q
    → Run mid (event_of last ∷ []) (answer_of last ∷ []) new
    → (text_of last ≡ text_of first) ⊎ (text_of last ≡ unavailable)

-- ---- the latest version

-- The text is the reply for the latest version of a path: the name and the time of the highest version that the shelf
-- sees and that the go.mod of the highest does not retract; or the 404 if there is none.
abbrev pub TellsLatest : World → List ℕ → List ℕ → List ℕ → Type 0
TellsLatest w s path text =
    ((v : SemanticVersion) × (time : Option (List ℕ)) × IsTop (unretracted_versions w s path) v
    × HasTime w s path v time
    × (text ≡ reply_bytes 200 Json (info_bytes v time)))
    ⊎ (((v : SemanticVersion) → ¬ unretracted_versions w s path v) × (text ≡ fixed_bytes NotFound))

-- A GET of the latest version by a key of s gets that text or the 503.
abbrev pub LatestIsWritten : Type 0
LatestIsWritten =
    (old new : World) (s k path : List ℕ) (x : Exchange) → IsWorld old → belongs old k s
    → request_of x.message ≡ Get k (Latest path)
    → Run old (event_of x ∷ []) (answer_of x ∷ []) new
    → TellsLatest old s path (text_of x) ⊎ (text_of x ≡ unavailable)
