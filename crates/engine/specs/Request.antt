-- The request in a message: what it asks of the machine.
use Rattle.std.specs.Prelude.{ℕ, List, [], ◌∷◌, Bool, true, false, if◌then◌else◌, Option, Some, None, nat_le, length}
use Rattle.std.specs.Prelude.{take, drop}
use Rattle.modver.specs.SemanticVersion.{SemanticVersion}
use Rattle.framing.specs.Length.{length_value}
use Rattle.framing.specs.Message.{MessageView}
use Rattle.wire.specs.Target.{target_of}
use Rattle.wire.specs.declared.resource.Resource.{Resource}
use Rattle.wire.specs.declared.resource.Resource.TheVariants as resource
use Rattle.wire.specs.declared.resource.Target.{Target}
use Rattle.wire.specs.declared.resource.Target.TheVariants as target
use Rattle.machine.specs.declared.request.Query.{Query}
use Rattle.machine.specs.declared.request.Query.TheVariants as query
use Rattle.machine.specs.declared.request.GivenTime.{GivenTime}
use Rattle.machine.specs.declared.request.GivenTime.TheVariants.{Absent, At, Malformed}
use Rattle.machine.specs.declared.request.Body.{Body}
use Rattle.machine.specs.declared.request.Request.{Request}
use Rattle.machine.specs.declared.request.Request.TheVariants as request
use Rattle.machine.specs.declared.request.Event.{Event}
use Rattle.machine.specs.declared.request.Event.TheVariants.{Requested}
use Rattle.world.specs.Forms.{is_time}
use Rattle.engine.specs.declared.request.MessageRequest.{MessageRequest}

-- a number, if it is at most this
abbrev pub at_most : ℕ → Option ℕ → Option ℕ
at_most most None = None
at_most most (Some n) = if nat_le n most then Some n else None

-- the length of the go.mod: the one value of `Mod-Length`, if it is a length value and not above the length of the body
abbrev pub gomod_len : List (List ℕ) → ℕ → Option ℕ
gomod_len [] most = None
gomod_len (text ∷ []) most = at_most most (length_value text)
gomod_len (text ∷ other ∷ more) most = None

-- the first n bytes are the go.mod, and the rest is the zip
abbrev pub split_at : List ℕ → Option ℕ → Option Body
split_at body None = None
split_at body (Some n) = Some (record { gomod = take n body; zip = drop n body })

-- the files of a publish, if the length of its go.mod is known
abbrev pub body_of : MessageView → Option Body
body_of m = split_at m.body (gomod_len m.mod_lengths (length m.body))

-- the time that a value writes, or malformed if it writes none
abbrev pub time_in : List ℕ → GivenTime
time_in text = if is_time text then At text else Malformed

-- the time that the values of `Version-Time` give: none, that of a single value, or malformed
abbrev pub given_time : List (List ℕ) → GivenTime
given_time [] = Absent
given_time (text ∷ []) = time_in text
given_time (text ∷ other ∷ more) = Malformed

-- the machine's query: for a go.sum line it asks for the go.mod
abbrev pub query_of : Resource → Query
query_of (resource.Info path version) = query.Info path version
query_of (resource.GoMod path version) = query.GoMod path version
query_of (resource.Zip path version) = query.Zip path version
query_of (resource.List path) = query.List path
query_of (resource.Latest path) = query.Latest path
query_of resource.Modules = query.Modules
query_of (resource.GoSum path version) = query.GoMod path version

-- what a message with this target asks
abbrev pub request_at : MessageView → Target → Request
request_at m target.Unreadable = request.Unreadable
request_at m (target.Get key resource) = request.Get key (query_of resource)
request_at m (target.Put key path version) =
    request.Put key (record { path = path; version = version; body = body_of m; time = given_time m.version_times })

-- the target that the method and the target of a message write
abbrev pub target_in : MessageView → Target
target_in m = target_of m.method m.target

-- what a message asks
abbrev pub request_of : MessageView → Request
request_of m = request_at m (target_in m)

-- the event that a message is
abbrev pub event_of_message : MessageView → Event
event_of_message m = Requested (request_of m)

-- ---- go.sum lines

-- the version whose go.sum line this is, if it is one
abbrev pub sum_in : Resource → Option (List ℕ × SemanticVersion)
sum_in (resource.GoSum path version) = Some (path, version)
sum_in other = None

-- the version whose go.sum line the target asks for, if it asks for one
abbrev pub sum_at : Target → Option (List ℕ × SemanticVersion)
sum_at (target.Get key resource) = sum_in resource
sum_at other = None

-- the version whose go.sum line a message asks for, if it asks for one
abbrev pub sum_of : MessageView → Option (List ℕ × SemanticVersion)
sum_of m = sum_at (target_in m)

-- ---- go.sum lines, by what the machine is asked

-- whether this is a go.sum line
abbrev pub is_sum : Resource → Bool
is_sum (resource.GoSum path version) = true
is_sum other = false

-- whether the target asks for a go.sum line
abbrev pub is_summed : Target → Bool
is_summed (target.Get key resource) = is_sum resource
is_summed other = false

-- what a message asks, with whether it asks for a go.sum line
abbrev pub message_request : MessageView → MessageRequest
message_request m = record { request = request_of m; is_summed = is_summed (target_in m) }

-- the version whose go.mod the machine is asked for, if it is asked for one
abbrev pub gomod_asked : Request → Option (List ℕ × SemanticVersion)
gomod_asked (request.Get key (query.GoMod path version)) = Some (path, version)
gomod_asked other = None

-- the version whose go.sum line is written, if one is
abbrev pub sum_by : MessageRequest → Option (List ℕ × SemanticVersion)
sum_by asked = if asked.is_summed then gomod_asked asked.request else None
