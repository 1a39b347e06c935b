-- Length values: how `Content-Length` and `Mod-Length` write a number. (RFC 9112, section 6.2, in this server's own
-- profile.)
use Rattle.std.specs.Prelude.{ℕ, List, Bool, ◌&&◌, not, if◌then◌else◌, Option, Some, None, nat_le, nat_lt, nat_eq}
use Rattle.std.specs.Prelude.{length, slice_index}
use Rattle.std.specs.List.{list_all}
use Rattle.std.specs.Char.{is_ascii_digit}
use Rattle.std.specs.Str.Parse.{digits_value}

-- `0`, or one to ten decimal digits that do not begin with 0
abbrev pub is_length : List ℕ → Bool
is_length text =
    nat_lt 0 (length text) && nat_le (length text) 10
    && not (nat_lt 1 (length text) && nat_eq (slice_index text 0) 48) && list_all is_ascii_digit text

-- the number that a length value writes; no other text has one
abbrev pub length_value : List ℕ → Option ℕ
length_value text = if is_length text then Some (digits_value 10 text) else None
