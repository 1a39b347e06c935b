-- The bytes of replies. (RFC 9112, sections 4 and 5, in this server's own profile.)
use Rattle.std.specs.Prelude.{ℕ, List, [], ◌++◌, length, codes, decimal, unwrap_or, Option, Some, None}
use Rattle.http.specs.StatusCode.{code_digits, reason_phrase}
use Rattle.modver.specs.SemanticVersion.{SemanticVersion, version_text}
use Rattle.wire.specs.declared.reply.MediaType.{MediaType}
use Rattle.wire.specs.declared.reply.MediaType.TheVariants as kind
use Rattle.wire.specs.declared.reply.Fixed.{Fixed}
use Rattle.wire.specs.declared.reply.Fixed.TheVariants as fixed

-- the phrase of a status code, empty if it has none
unfoldable pub phrase : ℕ → List ℕ
phrase code = unwrap_or (reason_phrase code) []

-- a status code with its phrase, as a status line has them
abbrev pub status_text : ℕ → List ℕ
status_text code = code_digits code ++ codes " " ++ phrase code

-- the value of `Content-Type` for a kind of body
abbrev pub kind_text : MediaType → List ℕ
kind_text kind.TextPlain = codes "text/plain; charset=utf-8"
kind_text kind.Json = codes "application/json"
kind_text kind.Zip = codes "application/zip"

-- a head with this text as its length, with the empty line that ends it
abbrev pub head_with : ℕ → MediaType → List ℕ → List ℕ
head_with s k digits =
    codes "HTTP/1.1 " ++ status_text s
    ++ codes "\r\nContent-Type: " ++ kind_text k
    ++ codes "\r\nContent-Length: " ++ digits
    ++ codes "\r\nConnection: close\r\n\r\n"

-- the head of a reply whose body has that many bytes
abbrev pub head_bytes : ℕ → MediaType → ℕ → List ℕ
head_bytes s k len = head_with s k (decimal len)

-- a reply with that body
abbrev pub reply_bytes : ℕ → MediaType → List ℕ → List ℕ
reply_bytes s k body = head_bytes s k (length body) ++ body

-- the status of a fixed reply
abbrev pub fixed_status : Fixed → ℕ
fixed_status fixed.AlreadyPublished = 200
fixed_status fixed.Published = 201
fixed_status fixed.BadRequest = 400
fixed_status fixed.BadModLength = 400
fixed_status fixed.Forbidden = 403
fixed_status fixed.NotFound = 404
fixed_status fixed.Conflict = 409
fixed_status fixed.TooLarge = 413
fixed_status fixed.MajorMismatch = 422
fixed_status fixed.BadTime = 422
fixed_status fixed.TimeMismatch = 422
fixed_status (fixed.BadGoMod line) = 422
fixed_status fixed.ModulePath = 422
fixed_status fixed.IncompatibleGoMod = 422
fixed_status fixed.Unavailable = 503
fixed_status fixed.Full = 507

-- the body of a fixed reply without the newline
abbrev pub fixed_text : Fixed → List ℕ
fixed_text fixed.AlreadyPublished = codes "already published"
fixed_text fixed.Published = codes "published"
fixed_text fixed.BadRequest = codes "bad request"
fixed_text fixed.BadModLength = codes "bad mod-length"
fixed_text fixed.Forbidden = codes "forbidden"
fixed_text fixed.NotFound = codes "not found"
fixed_text fixed.Conflict = codes "conflict"
fixed_text fixed.TooLarge = codes "too large"
fixed_text fixed.MajorMismatch = codes "major-mismatch"
fixed_text fixed.BadTime = codes "bad-time"
fixed_text fixed.TimeMismatch = codes "time-mismatch"
fixed_text (fixed.BadGoMod line) = codes "bad-gomod " ++ decimal line
fixed_text fixed.ModulePath = codes "module-path"
fixed_text fixed.IncompatibleGoMod = codes "incompatible-gomod"
fixed_text fixed.Unavailable = codes "unavailable"
fixed_text fixed.Full = codes "full"

-- the bytes of a fixed reply
abbrev pub fixed_bytes : Fixed → List ℕ
fixed_bytes answer = reply_bytes (fixed_status answer) kind.TextPlain (fixed_text answer ++ codes "\n")

-- the line of a fixed reply in a list of outcomes: the number of its status, a space and its body without the newline
abbrev pub line_bytes : Fixed → List ℕ
line_bytes answer = code_digits (fixed_status answer) ++ codes " " ++ fixed_text answer

-- the body of a version and its time, if it has one (Go Modules Reference, "GOPROXY protocol", `.info`)
abbrev pub info_bytes : SemanticVersion → Option (List ℕ) → List ℕ
info_bytes version (Some time) =
    codes "{\"Time\":\"" ++ time ++ codes "\",\"Version\":\"" ++ version_text version ++ codes "\"}"
info_bytes version None = codes "{\"Version\":\"" ++ version_text version ++ codes "\"}"
