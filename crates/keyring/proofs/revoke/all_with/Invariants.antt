use Rattle.std.proofs.Common.{◌≡◌, ◌++◌}
use Rattle.std.specs.Prelude.{filter, map as each, string_bytes}
use Rattle.keyring.specs.Revoke.{all_with, has}
use Rattle.keyring.proofs.revoke.all_with.Given as goal

-- the keys that were found, and those of the other keys that have the fingerprint, are all that have it
abbrev pub invariant-loop-key : goal.invariant-loop-key
invariant-loop-key l =
    each (λ key. key.now) l.found.items ++ filter (λ k. has k l.wanted) (each string_bytes l.key-iterator)
    ≡ all_with l.keys l.wanted
