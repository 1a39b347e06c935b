-- The bytes and the status of an answer to a message.
use Rattle.std.specs.Prelude.{◌≡◌, ℕ, List, ◌++◌, codes, Option, Some, None, map, Result, Ok, Err}
use Rattle.gosum.specs.Sum.{go_sum_line}
use Rattle.modver.specs.SemanticVersion.{SemanticVersion, version_text}
use Rattle.framing.specs.Message.{MessageView}
use Rattle.wire.specs.Reply.{reply_bytes, fixed_bytes, fixed_status, info_bytes}
use Rattle.wire.specs.declared.reply.Fixed.{Fixed}
use Rattle.wire.specs.declared.reply.Fixed.TheVariants as fixed
use Rattle.wire.specs.declared.reply.MediaType.TheVariants as kind
use Rattle.world.specs.Lines.{in_order, lines_of}
use Rattle.machine.specs.declared.reply.Answer.{Answer}
use Rattle.machine.specs.declared.reply.Answer.TheVariants.{Replied, Failed}
use Rattle.machine.specs.declared.reply.Decision.{Decision}
use Rattle.machine.specs.declared.reply.Decision.TheVariants as decision
use Rattle.machine.specs.declared.reply.ContentRefusal.{ContentRefusal}
use Rattle.machine.specs.declared.reply.ContentRefusal.TheVariants as refusal
use Rattle.machine.specs.declared.reply.Reply.{Reply}
use Rattle.machine.specs.declared.reply.Reply.TheVariants as reply
use Rattle.world.specs.declared.registry.StoreFault.{StoreFault}
use Rattle.engine.specs.Request.{sum_of}
use Rattle.engine.specs.Exchange.{Exchange, Outcome, Unserved, Met, Served, answer_of}
use Rattle.engine.specs.declared.page.Page.{Page}
use Rattle.engine.specs.declared.page.Page.TheVariants as page

-- the fixed reply that refuses the content of a publish
abbrev pub refusal_of : ContentRefusal → Fixed
refusal_of refusal.MajorMismatch = fixed.MajorMismatch
refusal_of refusal.BadTime = fixed.BadTime
refusal_of refusal.TimeMismatch = fixed.TimeMismatch
refusal_of (refusal.BadGoMod line) = fixed.BadGoMod line
refusal_of refusal.ModulePath = fixed.ModulePath
refusal_of refusal.IncompatibleGoMod = fixed.IncompatibleGoMod

-- the fixed reply for a decision on a publish
abbrev pub fixed_of : Decision → Fixed
fixed_of decision.Published = fixed.Published
fixed_of decision.Same = fixed.AlreadyPublished
fixed_of decision.NotFound = fixed.NotFound
fixed_of decision.Forbidden = fixed.Forbidden
fixed_of decision.BadLength = fixed.BadModLength
fixed_of decision.TooLarge = fixed.TooLarge
fixed_of (decision.Refused why) = refusal_of why
fixed_of decision.Conflict = fixed.Conflict
fixed_of decision.Full = fixed.Full

-- the body for a go.mod: the bytes that were received, or the go.sum line of this version and a newline
abbrev pub gomod_body : Option (List ℕ × SemanticVersion) → List ℕ → List ℕ
gomod_body None text = text
gomod_body (Some (path, version)) text = go_sum_line path (version_text version) text ++ codes "\n"

-- What is written for a reply to a message for the go.sum line of this version, or of none. The outcome of a command,
-- which no message gets, is written as not found. A version is written as its info object, and versions and paths one a
-- line.
abbrev pub reply_page : Option (List ℕ × SemanticVersion) → Reply → Page
reply_page sum reply.NotFound = page.Fixed fixed.NotFound
reply_page sum (reply.Decided decision) = page.Fixed (fixed_of decision)
reply_page sum (reply.GoMod text) = page.Body kind.TextPlain (gomod_body sum text)
reply_page sum (reply.Zip zip) = page.Body kind.Zip zip
reply_page sum (reply.Info version time) = page.Body kind.Json (info_bytes version time)
reply_page sum (reply.Versions versions) = page.Body kind.TextPlain (lines_of (map version_text versions))
reply_page sum (reply.Paths paths) = page.Body kind.TextPlain (lines_of (in_order paths))
reply_page sum (reply.Registry outcome) = page.Fixed fixed.NotFound

-- what is written for a reply to a message
abbrev pub page_of : MessageView → Reply → Page
page_of m reply = reply_page (sum_of m) reply

-- the message asks for a go.sum line
abbrev pub IsSummed : Option (List ℕ × SemanticVersion) → Type 0
IsSummed None = ⊥
IsSummed (Some version) = Unit {0}

-- the body of the reply is composed, and is not a file as it was received
abbrev pub IsComposed : Option (List ℕ × SemanticVersion) → Reply → Type 0
IsComposed sum (reply.GoMod text) = IsSummed sum
IsComposed sum (reply.Info version time) = Unit {0}
IsComposed sum (reply.Versions versions) = Unit {0}
IsComposed sum (reply.Paths paths) = Unit {0}
IsComposed sum other = ⊥

-- The outcome of a message for this answer of the machine: its reply, unless memory runs out for a body that is
-- composed; or the fault that the store met.
abbrev pub IsOutcome : Option (List ℕ × SemanticVersion) → Result Reply StoreFault → Outcome → Type 0
IsOutcome sum (Ok reply) (Served served) = served ≡ reply
IsOutcome sum (Ok reply) Unserved = IsComposed sum reply
IsOutcome sum (Err fault) (Met met) = met ≡ fault
IsOutcome sum answer outcome = ⊥

-- what is written for an answer: the reply, or the 503
abbrev pub answer_page : Option (List ℕ × SemanticVersion) → Answer → Page
answer_page sum (Replied reply) = reply_page sum reply
answer_page sum (Failed fault) = page.Fixed fixed.Unavailable

-- what is written for an answer to a message
abbrev pub page_for : MessageView → Answer → Page
page_for m answer = answer_page (sum_of m) answer

abbrev pub page_bytes : Page → List ℕ
page_bytes (page.Fixed answer) = fixed_bytes answer
page_bytes (page.Body kind text) = reply_bytes 200 kind text

abbrev pub page_status : Page → ℕ
page_status (page.Fixed answer) = fixed_status answer
page_status (page.Body kind text) = 200

-- the bytes of an answer to a message
abbrev pub bytes_of : MessageView → Answer → List ℕ
bytes_of m answer = page_bytes (page_for m answer)

-- what is written for an exchange
abbrev pub page_to : Exchange → Page
page_to x = page_for x.message (answer_of x)

abbrev pub text_of : Exchange → List ℕ
text_of x = page_bytes (page_to x)

abbrev pub status_of : Exchange → ℕ
status_of x = page_status (page_to x)
