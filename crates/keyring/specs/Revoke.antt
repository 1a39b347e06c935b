-- Revoking a key by its fingerprint or its SHA-256.
use Rattle.std.specs.Prelude.{ℕ, List, [], ◌∷◌, Bool, ◌||◌, bytes_eq, filter, Option, Some, None}
use Rattle.std.specs.FinSet as set
use Rattle.keyring.specs.KeyList.{fingerprint, hex_digest}
use Rattle.keyring.specs.Named.{keys_in}
use Rattle.world.specs.Lines.{in_order}
use Rattle.world.specs.Registry.{key_revoked, after_key_revoke}
use Rattle.world.specs.World.{World, text_cmp}
use Rattle.world.specs.declared.registry.RegistryReply.{RegistryReply}
use Rattle.world.specs.declared.registry.RegistryReply.TheVariants.{NoKey}

-- whether a key has this fingerprint, or this SHA-256
abbrev pub has : List ℕ → List ℕ → Bool
has k f = bytes_eq (fingerprint k) f || bytes_eq (hex_digest k) f

-- the keys of these that have a fingerprint, or a SHA-256
abbrev pub all_with : set.FinSet text_cmp → List ℕ → List (List ℕ)
all_with keys f = filter (λ k. has k f) (in_order keys)

-- the one key of a list, or none if it has none or several
abbrev pub only : List (List ℕ) → Option (List ℕ)
only (k ∷ []) = Some k
only ks = None

-- the one key of these that has it, or none if none has it or several have
abbrev pub only_with : set.FinSet text_cmp → List ℕ → Option (List ℕ)
only_with keys f = only (all_with keys f)

-- the outcome of revoking the key that was found, and the world after it
abbrev pub revoked : World → Option (List ℕ) → RegistryReply
revoked w None = NoKey
revoked w (Some k) = key_revoked w k

abbrev pub after_revoke : World → Option (List ℕ) → World
after_revoke w None = w
after_revoke w (Some k) = after_key_revoke w k (key_revoked w k)

-- the outcome of revoking the key that has a fingerprint or a SHA-256, and the world after it
abbrev pub revoked_with : World → List ℕ → RegistryReply
revoked_with w f = revoked w (only_with (keys_in w) f)

abbrev pub after_revoke_with : World → List ℕ → World
after_revoke_with w f = after_revoke w (only_with (keys_in w) f)
