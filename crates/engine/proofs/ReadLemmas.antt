-- What a read says about the bytes held and those that follow.
use Rattle.std.proofs.Common.{◌≡◌, ◌≢◌, ℕ, ◌<◌, ◌≤◌, ◌+◌, ◌-◌, List, [], ◌++◌, length, take, drop}
use Rattle.std.proofs.Common.{refl, sym, ap, subst, arith, append-nil, length-append, length-drop, take-append-drop}
use Rattle.std.proofs.lemmas.List.{length-take-le}
use Rattle.framing.specs.Message.{Ends, clean, bad}
use Rattle.framing.specs.Framing.{Framing, HasMessage, IsUnfinished}
use Rattle.framing.proofs.StreamLemmas.{ReadsMessage-append, no_message_at_end}
use Rattle.engine.specs.Served.{read_limit}
use Rattle.engine.specs.Session.{StaysNear}

-- if the input ends while the bytes held are unfinished and not empty, it ends badly
pub ends_badly : (held : List ℕ) → IsUnfinished held → held ≢ [] → Ends (held ++ []) bad
ends_badly held waits some = subst (λ bytes. Ends bytes bad) (sym (append-nil held)) (waits.ends some)

-- if a byte came, the bytes held with all that follow are not empty
pub some_came : (held bytes more : List ℕ) (n : ℕ) → 0 < n → n ≤ length bytes → held ++ (take n bytes ++ more) ≢ []
some_came held bytes more n some within e =
    absurd (omega (
      arith,
      ap length e,
      length-append held (take n bytes ++ more),
      length-append (take n bytes) more,
      length-take-le n bytes within,
    ))

-- if a byte came, the bytes that came are not empty
pub are_some : (bytes : List ℕ) (n : ℕ) → 0 < n → n ≤ length bytes → take n bytes ≢ []
are_some bytes n some within e = absurd (omega (arith, ap length e, length-take-le n bytes within))

-- no more bytes came than the buffer holds
pub are_few : (bytes : List ℕ) (n most : ℕ) → n ≤ length bytes → length bytes ≤ most → length (take n bytes) ≤ most
are_few bytes n most within room = omega (arith, length-take-le n bytes within)

-- the framer grows by at most the bytes that it is fed
pub fed_few : (old new : Framing) (bytes : List ℕ) (most : ℕ) → new ≡ record old { held = old.held ++ bytes }
    → length bytes ≤ most
    → length new.held ≤ length old.held + most
fed_few old new bytes most is few = rw is (omega (arith, length-append old.held bytes, few))

-- a read of at most `read_limit` bytes stays near
pub near_few : (held bytes : List ℕ) → IsUnfinished held → length bytes ≤ read_limit → StaysNear held bytes
near_few held bytes waits few = record {
  early = [];
  late = bytes;
  cut = refl;
  unfinished = subst IsUnfinished (sym (append-nil held)) waits;
  few = few;
}

-- a read of at most the bytes that are missing of a message stays near
pub near_missing : (held bytes : List ℕ) (missing : ℕ)
    → ((more : List ℕ) → length more < missing → IsUnfinished (held ++ more))
    → read_limit < missing → length bytes ≤ missing → StaysNear held bytes
near_missing held bytes missing waits long few =
    let n : ℕ = length bytes - read_limit in
    let within : n ≤ length bytes = omega arith in
    record {
      early = take n bytes;
      late = drop n bytes;
      cut = sym (take-append-drop n bytes);
      unfinished = waits (take n bytes) (omega (arith, length-take-le n bytes within));
      few = omega (arith, length-drop n bytes);
    }

-- bytes that begin with a message are not empty
pub message_some : (bytes : List ℕ) → HasMessage bytes → (more : List ℕ) → bytes ++ more ≢ []
message_some bytes (m, rest, reads) more e =
    no_message_at_end (bytes ++ more) clean e m (rest ++ more) (ReadsMessage-append bytes more m rest reads)
