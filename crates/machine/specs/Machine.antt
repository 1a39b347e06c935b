-- The machine: the reply to each event and the world after it, alone and in a list.
use Rattle.std.specs.Prelude.{ℕ, ◌≡◌, ◌⊎◌, List, [], ◌∷◌, ◌++◌, Bool, true, false, not, ◌&&◌}
use Rattle.std.specs.Prelude.{nat_le, Option, Some, None, is_none, option_map, unwrap_or}
use Rattle.std.specs.FinMap as map
use Rattle.modver.specs.SemanticVersion.{version_text, SemanticVersion}
use Rattle.world.specs.declared.entry.Place.{Place}
use Rattle.world.specs.declared.entry.Entry.{Entry}
use Rattle.world.specs.declared.entry.Heading.{Heading}
use Rattle.world.specs.declared.entry.Seen.{Seen}
use Rattle.world.specs.declared.entry.Holder.{Holder}
use Rattle.world.specs.declared.entry.Right.{Right}
use Rattle.world.specs.declared.entry.Right.TheVariants.{Reads, Publishes}
use Rattle.machine.specs.declared.request.Query.{Query}
use Rattle.machine.specs.declared.request.Query.TheVariants as query
use Rattle.machine.specs.declared.request.GivenTime.{GivenTime}
use Rattle.machine.specs.declared.request.GivenTime.TheVariants.{Absent, At, Malformed}
use Rattle.machine.specs.declared.request.Body.{Body}
use Rattle.machine.specs.declared.request.Publish.{Publish}
use Rattle.machine.specs.declared.request.Request.{Request}
use Rattle.machine.specs.declared.request.Request.TheVariants.{Unreadable, Get, Put}
use Rattle.machine.specs.declared.request.Event.{Event}
use Rattle.machine.specs.declared.request.Event.TheVariants.{Requested, TeamAdd, GroupAdd, KeyAdd, KeyRevoke}
use Rattle.machine.specs.declared.request.Event.TheVariants.{KeysRevoke}
use Rattle.machine.specs.declared.reply.Decision.{Decision}
use Rattle.machine.specs.declared.reply.Decision.TheVariants.{Published, Same, NotFound, Forbidden}
use Rattle.machine.specs.declared.reply.Decision.TheVariants.{BadLength, TooLarge, Refused, Conflict, Full}
use Rattle.machine.specs.declared.reply.ContentRefusal.TheVariants as refusal
use Rattle.machine.specs.declared.reply.Reply.TheVariants as reply
use Rattle.machine.specs.declared.reply.Reply.{Reply}
use Rattle.machine.specs.declared.reply.Answer.{Answer}
use Rattle.machine.specs.declared.reply.Answer.TheVariants.{Replied, Failed}
use Rattle.world.specs.declared.registry.StoreFault.TheVariants.{Device}
use Rattle.modver.specs.Class.{class_of}
use Rattle.modver.specs.declared.version.Class.{Class}
use Rattle.modver.specs.declared.version.Class.TheVariants as class
use Rattle.world.specs.declared.entry_test.Misfit.{Misfit}
use Rattle.world.specs.declared.entry_test.Misfit.TheVariants as misfit
use Rattle.world.specs.declared.reading.Reading.{Reading}
pub use Rattle.world.specs.EntryTest.{first_failing}
use Rattle.world.specs.EntryTest.{is_small, is_time_of, has_fault, fault_line, names_other, has_more}
use Rattle.world.specs.Forms.{is_path, has_text, is_time, fits, suffix_of}
use Rattle.world.specs.GoMods.{reading_of}
use Rattle.world.specs.Registry.{team_added, group_added, key_added, key_revoked, after_team_add}
use Rattle.world.specs.Registry.{after_group_add, after_key_add, after_key_revoke, keys_revoked, after_keys_revoke}
use Rattle.machine.specs.Listed.{listed}
use Rattle.world.specs.declared.standing.Standing.{Standing}
use Rattle.world.specs.declared.standing.Standing.TheVariants as standing
use Rattle.world.specs.Standing.{standing_to, entry_seen}
use Rattle.world.specs.Latest.{latest_of}
use Rattle.world.specs.Versions.{versions_of}
use Rattle.world.specs.Visible.{paths_seen}
use Rattle.world.specs.World.{World, version_limit, place, view, heading, count, with_entry}

-- ---- the checks of a publish

-- whether the path and the version are well formed
abbrev pub is_readable : Publish → Bool
is_readable p = is_path p.path && has_text p.version

-- whether there is such a key and it may publish
abbrev pub may_publish : Option Right → Bool
may_publish None = false
may_publish (Some Reads) = false
may_publish (Some Publishes) = true

-- the time of an entry: the given one if there is one, otherwise the stamp's for a pseudo-version, otherwise none
abbrev pub entry_time : Class → GivenTime → Option (List ℕ)
entry_time c (At time) = Some time
entry_time (class.Pseudo stamp) given = Some stamp
entry_time c given = None

-- the entry that a publish and its files make
abbrev pub entry_of : Publish → Body → Entry
entry_of p b = record { gomod = b.gomod; zip = b.zip; time = entry_time (class_of p.version) p.time }

-- the entry that a publish hands in, if its body splits into two files
abbrev pub offered : Publish → Option Entry
offered p = option_map (entry_of p) p.body

-- whether an entry is handed in and one of its files exceeds its limit
abbrev pub is_too_large : Option Entry → Bool
is_too_large None = false
is_too_large (Some e) = not (is_small e)

-- whether something is given that is no single well-formed time
abbrev pub is_bad_time : GivenTime → Bool
is_bad_time Absent = false
is_bad_time (At time) = not (is_time time)
is_bad_time Malformed = true

-- whether the time that the entry gets from what is given is one that its version may not have
abbrev pub is_other_time : Class → GivenTime → Bool
is_other_time c given = not (is_time_of c (entry_time c given))

-- the checks of the version and of the given time, each with its answer
abbrev pub version_checks : Publish → List (Bool × Decision)
version_checks p =
    (not (fits (suffix_of p.path) p.version), Refused refusal.MajorMismatch)
    ∷ (is_bad_time p.time, Refused refusal.BadTime)
    ∷ (is_other_time (class_of p.version) p.time, Refused refusal.TimeMismatch)
    ∷ []

-- the checks of the entry that is handed in and of the given time, each with its answer
abbrev pub entry_checks : Publish → List (Bool × Decision)
entry_checks p =
    (is_none p.body, BadLength)
    ∷ (is_too_large (offered p), TooLarge)
    ∷ version_checks p

-- the checks of a publish alone, by a key with this right (None for an unknown key), each with its answer
abbrev pub request_checks : Publish → Option Right → List (Bool × Decision)
request_checks p right =
    (not (is_readable p), NotFound)
    ∷ (is_none right, NotFound)
    ∷ (not (may_publish right), Forbidden)
    ∷ entry_checks p

-- ---- the go.mod of a publish, if it was read

-- whether it was read and this holds of what was read
abbrev pub if_read : (Reading → Bool) → Option Reading → Bool
if_read holds None = false
if_read holds (Some reading) = holds reading

-- the line of its fault, 0 if it was not read or has no fault
abbrev pub line_read : Option Reading → ℕ
line_read None = 0
line_read (Some reading) = fault_line reading

-- the checks of the go.mod, each with its answer; all pass if it was not read
abbrev pub gomod_checks : Publish → Option Reading → List (Bool × Decision)
gomod_checks p reading =
    (if_read has_fault reading, Refused (refusal.BadGoMod (line_read reading)))
    ∷ (if_read (names_other p.path) reading, Refused refusal.ModulePath)
    ∷ (p.version.marked && if_read has_more reading, Refused refusal.IncompatibleGoMod)
    ∷ []

-- the answer to an entry that may not stand, by its first check that fails
abbrev pub decision_of : Misfit → Decision
decision_of misfit.TooLarge = TooLarge
decision_of misfit.Version = Refused refusal.MajorMismatch
decision_of misfit.Time = Refused refusal.TimeMismatch
decision_of (misfit.GoMod line) = Refused (refusal.BadGoMod line)
decision_of misfit.ModulePath = Refused refusal.ModulePath
decision_of misfit.NotBare = Refused refusal.IncompatibleGoMod

-- the result of reading the go.mod of a publish, if its body splits into two files
abbrev pub gomod_of : Publish → Option Reading
gomod_of p = option_map (λ b. reading_of b.gomod) p.body

-- ---- what stands already

-- whether the shelf sees an equal entry
abbrev pub is_same : Standing → Bool
is_same standing.Same = true
is_same there = false

-- whether the shelf sees another entry
abbrev pub is_other : Standing → Bool
is_other standing.Other = true
is_other there = false

-- the checks against what stands, each with its answer: how the entry compares with what the shelf sees, and how many
-- versions of the path stand on the shelf
abbrev pub shelf_checks : Standing → ℕ → List (Bool × Decision)
shelf_checks there n =
    (is_same there, Same)
    ∷ (is_other there, Conflict)
    ∷ (nat_le version_limit n, Full)
    ∷ []

-- the answer of the first check against what stands that fails, or `Published` if all pass
abbrev pub decided_by_shelf : Standing → ℕ → Decision
decided_by_shelf there n = unwrap_or (first_failing (shelf_checks there n)) Published

-- the answer of the first check of all that fails, or `Published` if all pass
abbrev pub decided : Publish → Option Right → Option Reading → Standing → ℕ → Decision
decided p right reading there n =
    unwrap_or (first_failing (request_checks p right ++ gomod_checks p reading ++ shelf_checks there n)) Published

-- ---- a publish

-- how the entry that is handed in, if there is one, compares with the entry that is seen
abbrev pub standing_if : Option Entry → Option Entry → Standing
standing_if seen None = standing.Absent
standing_if seen (Some e) = standing_to seen e

-- how a publish compares with what a shelf sees of its path and version
abbrev pub standing_of : World → List ℕ → Publish → Standing
standing_of w s p = standing_if (entry_seen w s p.path (version_text p.version)) (offered p)

-- the answer of the first check of a publish by a key with this right, or of its go.mod, that fails
abbrev pub own_refusal : Publish → Right → Option Decision
own_refusal p right = first_failing (request_checks p (Some right) ++ gomod_checks p (gomod_of p))

-- the outcome of the checks of a publish against what stands on a shelf
abbrev pub shelf_decision : World → List ℕ → Publish → Decision
shelf_decision w s p = decided_by_shelf (standing_of w s p) (count w s p.path)

-- the decision on a publish in a world, by the holder of its key, if the key is known
abbrev pub decision : World → Option Holder → Publish → Decision
decision w None p = decided p None None standing.Absent 0
decision w (Some h) p = decided p (Some h.right) (gomod_of p) (standing_of w h.shelf p) (count w h.shelf p.path)

-- where a publish to a shelf is stored
abbrev pub place_of : List ℕ → Publish → Place
place_of s p = place s p.path (version_text p.version)

-- the world with the entry, if there is one, at this place
abbrev pub stored : World → Place → Option Entry → World
stored w q None = w
stored w q (Some e) = with_entry w q e

-- the world after this decision on a publish: with its entry after `Published` with a known key, otherwise unchanged
abbrev pub after_decision : World → Option Holder → Publish → Decision → World
after_decision w (Some h) p Published = stored w (place_of h.shelf p) (offered p)
after_decision w h p d = w

-- the world after a publish, by the holder of its key
abbrev pub after_publish : World → Option Holder → Publish → World
after_publish w h p = after_decision w h p (decision w h p)

-- the decision on a PUT with this key
abbrev pub put_decision : World → List ℕ → Publish → Decision
put_decision w k p = decision w (map.get w.keys k) p

-- the world after a PUT with this key
abbrev pub after_put : World → List ℕ → Publish → World
after_put w k p = after_publish w (map.get w.keys k) p

-- ---- a query

-- the reply with the go.mod of a version, or not found
abbrev pub gomod_reply : Option Heading → Reply
gomod_reply None = reply.NotFound
gomod_reply (Some shown) = reply.GoMod shown.gomod

-- the reply with the zip of a version, or not found
abbrev pub zip_reply : Option Seen → Reply
zip_reply None = reply.NotFound
zip_reply (Some seen) = reply.Zip seen.entry.zip

-- the reply with the name and the time of a version, or not found
abbrev pub info_reply : SemanticVersion → Option Heading → Reply
info_reply v None = reply.NotFound
info_reply v (Some shown) = reply.Info v shown.time

-- the reply with the releases and pre-releases among the versions of a path, or not found if it has no version
abbrev pub list_reply : List SemanticVersion → Reply
list_reply [] = reply.NotFound
list_reply (v ∷ vs) = reply.Versions (listed (v ∷ vs))

-- the reply with the name and the time of the latest version, or not found
abbrev pub latest_reply : World → List ℕ → List ℕ → Option SemanticVersion → Reply
latest_reply w s p None = reply.NotFound
latest_reply w s p (Some v) = info_reply v (heading w s p (version_text v))

-- the reply to a query by a key of this shelf
abbrev pub query_reply : World → List ℕ → Query → Reply
query_reply w s (query.GoMod p v) = gomod_reply (heading w s p (version_text v))
query_reply w s (query.Zip p v) = zip_reply (view w s p (version_text v))
query_reply w s (query.Info p v) = info_reply v (heading w s p (version_text v))
query_reply w s (query.List p) = list_reply (versions_of w s p)
query_reply w s (query.Latest p) = latest_reply w s p (latest_of w s p)
query_reply w s query.Modules = reply.Paths (paths_seen w s)

-- the reply to a query by the holder of its key; not found if the key is unknown
abbrev pub keyed_reply : World → Option Holder → Query → Reply
keyed_reply w None q = reply.NotFound
keyed_reply w (Some h) q = query_reply w h.shelf q

-- ---- a request

-- What the machine replies to a request.
abbrev pub request_reply : World → Request → Reply
request_reply w Unreadable = reply.NotFound
request_reply w (Get k q) = keyed_reply w (map.get w.keys k) q
request_reply w (Put k p) = reply.Decided (put_decision w k p)

-- The world after a request.
abbrev pub after_request : World → Request → World
after_request w Unreadable = w
after_request w (Get k q) = w
after_request w (Put k p) = after_put w k p

-- ---- an event

-- What the machine replies to an event.
abbrev pub reply_to : World → Event → Reply
reply_to w (Requested a) = request_reply w a
reply_to w (TeamAdd t group) = reply.Registry (team_added w t group)
reply_to w (GroupAdd g) = reply.Registry (group_added w g)
reply_to w (KeyAdd s k right) = reply.Registry (key_added w s k)
reply_to w (KeyRevoke k) = reply.Registry (key_revoked w k)
reply_to w (KeysRevoke s) = reply.Registry (keys_revoked w s)

-- The world after an event.
abbrev pub after : World → Event → World
after w (Requested a) = after_request w a
after w (TeamAdd t group) = after_team_add w t group (team_added w t group)
after w (GroupAdd g) = after_group_add w g (group_added w g)
after w (KeyAdd s k right) = after_key_add w s k right (key_added w s k)
after w (KeyRevoke k) = after_key_revoke w k (key_revoked w k)
after w (KeysRevoke s) = after_keys_revoke w s (keys_revoked w s)

-- ---- a list of events

-- the replies to the events in order
abbrev pub replies : World → List Event → List Reply
replies w [] = []
replies w (e ∷ es) = reply_to w e ∷ replies (after w e) es

-- the world after all events
abbrev pub after_all : World → List Event → World
after_all w [] = w
after_all w (e ∷ es) = after_all (after w e) es

-- From old, these events may get these answers and lead to new: an event that met a store fault changes nothing, and
-- each other event is answered as the machine answers it.
abbrev pub Run : World → List Event → List Answer → World → Type 0
Run old [] [] new = new ≡ old
Run old (e ∷ es) (Replied r ∷ answers) new = (r ≡ reply_to old e) × Run (after old e) es answers new
Run old (e ∷ es) (Failed fault ∷ answers) new = Run old es answers new
Run old [] (a ∷ answers) new = ⊥
Run old (e ∷ es) [] new = ⊥

-- the events that were answered
abbrev pub answered : List Event → List Answer → List Event
answered (e ∷ es) (Replied r ∷ answers) = e ∷ answered es answers
answered (e ∷ es) (Failed fault ∷ answers) = answered es answers
answered es answers = []

-- the replies among the answers
abbrev pub replies_of : List Answer → List Reply
replies_of [] = []
replies_of (Replied r ∷ answers) = r ∷ replies_of answers
replies_of (Failed fault ∷ answers) = replies_of answers

-- the world after the events that were answered
abbrev pub world_after : World → List Event → List Answer → World
world_after w events answers = after_all w (answered events answers)

-- each event was answered, or would have changed nothing
abbrev pub AnsweredOrIdle : World → List Event → List Answer → Type 0
AnsweredOrIdle w (e ∷ es) (Replied r ∷ answers) = AnsweredOrIdle (after w e) es answers
AnsweredOrIdle w (e ∷ es) (Failed fault ∷ answers) = (after w e ≡ w) × AnsweredOrIdle w es answers
AnsweredOrIdle w es answers = Unit {0}

-- some event met a failed device
abbrev pub MetDevice : List Answer → Type 0
MetDevice [] = ⊥
MetDevice (a ∷ answers) = (a ≡ Failed Device) ⊎ MetDevice answers

-- ---- replies

-- the reply has a body of its own; each other reply is written with fixed bytes
abbrev pub HasBody : Reply → Type 0
HasBody (reply.GoMod b) = Unit {0}
HasBody (reply.Zip b) = Unit {0}
HasBody (reply.Info v time) = Unit {0}
HasBody (reply.Versions vs) = Unit {0}
HasBody (reply.Paths ps) = Unit {0}
HasBody r = ⊥
