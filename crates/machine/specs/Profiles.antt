-- The machine with go.mods read by any profile, and which of its answers depend on the profile.
use Rattle.std.specs.Prelude.{ℕ, ◌≡◌, ◌⊎◌, List, Option, Some, None, option_map}
use Rattle.std.specs.FinMap as map
use Rattle.gomod.specs.Keywords.{Keywords, profile_1, profile_2, profile_in_force}
use Rattle.gomod.specs.Module.{GoModule}
use Rattle.gomod.specs.Reads.{Reads}
use Rattle.modver.specs.SemanticVersion.{SemanticVersion, version_text}
use Rattle.world.specs.declared.entry.Heading.{Heading}
use Rattle.world.specs.declared.entry.Holder.{Holder}
use Rattle.world.specs.declared.reading.Reading.{Reading}
use Rattle.world.specs.declared.standing.Standing.TheVariants as standing
use Rattle.world.specs.GoMods.{reading_by, module_in}
use Rattle.world.specs.Latest.{highest, highest_left}
use Rattle.world.specs.Versions.{versions_of}
use Rattle.world.specs.World.{World, IsWorldBy, heading, count}
use Rattle.machine.specs.declared.request.Request.TheVariants.{Get, Put}
use Rattle.machine.specs.declared.request.Body.{Body}
use Rattle.machine.specs.declared.request.Event.{Event}
use Rattle.machine.specs.declared.request.Event.TheVariants.{Requested}
use Rattle.machine.specs.declared.request.Publish.{Publish}
use Rattle.machine.specs.declared.request.Query.{Query}
use Rattle.machine.specs.declared.request.Query.TheVariants as query
use Rattle.machine.specs.declared.reply.Decision.{Decision}
use Rattle.machine.specs.declared.reply.Decision.TheVariants.{Refused}
use Rattle.machine.specs.declared.reply.ContentRefusal.TheVariants as refusal
use Rattle.machine.specs.declared.reply.Reply.{Reply}
use Rattle.machine.specs.declared.reply.Reply.TheVariants as reply
use Rattle.machine.specs.Machine.{after, after_decision, decided, latest_reply, query_reply, reply_to, standing_of}

-- ---- the latest version of a path

-- what the go.mod of a version says by these keywords, if it reads
abbrev pub module_by : Keywords → Option Heading → Option GoModule
module_by known None = None
module_by known (Some shown) = module_in (reading_by known shown.gomod)

-- the highest version that the go.mod of this version, the highest, does not retract, by these keywords
abbrev pub left_by : Keywords → World → List ℕ → List ℕ → Option SemanticVersion → Option SemanticVersion
left_by known w s p None = None
left_by known w s p (Some top) = highest_left (module_by known (heading w s p (version_text top))) (versions_of w s p)

-- the latest version of a path by these keywords
abbrev pub latest_by : Keywords → World → List ℕ → List ℕ → Option SemanticVersion
latest_by known w s p = left_by known w s p (highest (versions_of w s p))

-- ---- the machine

-- the reply to a query by a key of this shelf; only the latest version depends on the keywords
abbrev pub query_reply_by : Keywords → World → List ℕ → Query → Reply
query_reply_by known w s (query.Latest p) = latest_reply w s p (latest_by known w s p)
query_reply_by known w s q = query_reply w s q

-- the reply to a query by the holder of its key; not found if the key is unknown
abbrev pub keyed_reply_by : Keywords → World → Option Holder → Query → Reply
keyed_reply_by known w None q = reply.NotFound
keyed_reply_by known w (Some h) q = query_reply_by known w h.shelf q

-- the result of reading the go.mod of a publish by these keywords
abbrev pub gomod_by : Keywords → Publish → Option Reading
gomod_by known p = option_map (λ b. reading_by known b.gomod) p.body

-- the decision on a publish by the holder of its key, by these keywords
abbrev pub decision_by : Keywords → World → Option Holder → Publish → Decision
decision_by known w None p = decided p None None standing.Absent 0
decision_by known w (Some h) p =
    decided p (Some h.right) (gomod_by known p) (standing_of w h.shelf p) (count w h.shelf p.path)

-- What the machine replies to an event if go.mods are read by these keywords.
abbrev pub reply_by : Keywords → World → Event → Reply
reply_by known w (Requested (Get k q)) = keyed_reply_by known w (map.get w.keys k) q
reply_by known w (Requested (Put k p)) = reply.Decided (decision_by known w (map.get w.keys k) p)
reply_by known w e = reply_to w e

-- The world after an event if go.mods are read by these keywords.
abbrev pub after_by : Keywords → World → Event → World
after_by known w (Requested (Put k p)) =
    after_decision w (map.get w.keys k) p (decision_by known w (map.get w.keys k) p)
after_by known w e = after w e

-- By either set of keywords, the event gets an equal reply and leads to an equal world.
pub record AnswersAlike (known more : Keywords) (w : World) (e : Event) : Type 0 where
  pub replies : reply_by known w e ≡ reply_by more w e
  pub worlds : after_by known w e ≡ after_by more w e

-- ---- laws

-- By the profile in force, the event gets the reply of the machine and leads to the world of the machine.
pub record IsMachine (w : World) (e : Event) : Type 0 where
  pub replies : reply_by profile_in_force w e ≡ reply_to w e
  pub worlds : after_by profile_in_force w e ≡ after w e

-- For each world and event, the profile in force gives the reply and the world of the machine.
abbrev pub ProfileInForceIsTheMachine : Type 0
ProfileInForceIsTheMachine = (w : World) (e : Event) → IsMachine w e

-- the event is a publish that is refused for its go.mod, which does not read by these keywords
pub record IsUnread (known : Keywords) (w : World) (e : Event) : Type 0 where
  pub key : List ℕ
  pub publish : Publish
  pub body : Body
  pub asked : e ≡ Requested (Put key publish)
  pub handed : publish.body ≡ Some body
  pub unread : (m : GoModule) → ¬ Reads known body.gomod m
  pub line : ℕ
  pub refused : reply_by known w e ≡ reply.Decided (Refused (refusal.BadGoMod line))

-- In a world of the first profile, the second answers each event as the first does, except a publish whose go.mod the
-- first does not read.
abbrev pub Profile2KeepsAnswers : Type 0
Profile2KeepsAnswers = (w : World) (e : Event) → IsWorldBy profile_1 w
    → AnswersAlike profile_1 profile_2 w e ⊎ IsUnread profile_1 w e
