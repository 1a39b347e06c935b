-- How much time a peer gets.
use Rattle.std.specs.Prelude.{ℕ, ◌+◌, ◌*◌, ◌/◌, ◌≤◌}
use Rattle.std.proofs.Common.{arith}
use Rattle.std.proofs.Math.Nat.{div-mul-le_self}
use Rattle.std.proofs.lemmas.Nat.{le-div}

-- the seconds for all reads of a message, and again for all writes of a reply, before bytes buy more
abbrev pub patience : ℕ
patience = 5

-- the bytes that buy a peer one second more
abbrev pub bytes_a_second : ℕ
bytes_a_second = 1048576

-- the seconds for what a peer still sends after its message
abbrev pub rest_patience : ℕ
rest_patience = 2

-- the nanoseconds for the reads of a message, or for the writes of a reply, once so many bytes were moved
abbrev pub time_for_message : ℕ → ℕ
time_for_message moved = (patience + moved / bytes_a_second) * 1000000000

-- the nanoseconds for what comes after the message, which bytes do not buy
abbrev pub time_for_rest : ℕ → ℕ
time_for_rest moved = rest_patience * 1000000000

-- ---- more bytes take no time away

pub message_grows : (few many : ℕ) → few ≤ many → time_for_message few ≤ time_for_message many
message_grows few many h =
    let seconds = le-div (few / bytes_a_second) many bytes_a_second (omega arith)
    (omega (arith, div-mul-le_self few bytes_a_second, h)) in
    omega (arith, seconds)

pub rest_grows : (few many : ℕ) → few ≤ many → time_for_rest few ≤ time_for_rest many
rest_grows few many h = omega arith
