-- How a fingerprint or a SHA-256 that no line can carry ends in each world.
use Rattle.std.proofs.Common.{◌≡◌, ℕ, List, [], ◌∷◌, Bool, true, false, Ok, Err, refl, ◌∙◌, sym, ap}
use Rattle.std.proofs.Common.{subst, arith}
use Rattle.std.specs.Prelude.{◌||◌, bytes_eq, codes, cond, filter}
use Rattle.std.specs.Cmp.Lexicographic.{bytes_decides}
use Rattle.keyring.specs.KeyList.{fingerprint, hex_digest}
use Rattle.keyring.specs.Named.{keys_in}
use Rattle.keyring.specs.Revoke.{has, only, revoked, revoked_with}
use Rattle.keyring.proofs.FingerprintLemmas.{fingerprint_ascii, fingerprint_few, fingerprint_word}
use Rattle.keyring.proofs.FingerprintLemmas.{hex_digest_ascii, hex_digest_few, hex_digest_word}
use Rattle.world.specs.Lines.{in_order}
use Rattle.world.specs.World.{World}
use Rattle.orders.specs.Order as orders
use Rattle.orders.specs.declared.command.RegistryCommand.{RegistryCommand}
use Rattle.orders.specs.declared.order.Order.{Order}
use Rattle.orders.specs.declared.order.Order.TheVariants as order
use Rattle.orders.specs.Order.{HasLine, HasNoLine, IsLineOf}
use Rattle.commands.specs.Ending.{ending}
use Rattle.commands.specs.Order.{IsAlike}
use Rattle.commands.specs.declared.refusal.CommandRefusal.TheVariants.{NoKey}
use Rattle.commands.proofs.Sayable.{Fits, carried, two_carried, word_fits}

-- a word of at most 64 bytes of ASCII has a line
has_line : (word : List ℕ) → Fits 64 word → HasLine (orders.RevokeByFingerprint word)
has_line word fits =
    carried (orders.RevokeByFingerprint word)
    (two_carried 18 64 (codes "revoke-fingerprint") word
    (word_fits 18 (codes "revoke-fingerprint") refl refl refl) fits (omega arith)) refl

-- so have the fingerprint of a key, and its SHA-256
fingerprint_fits : (k : List ℕ) → Fits 64 (fingerprint k)
fingerprint_fits k =
    let few = fingerprint_few k in
    record { says = fingerprint_word k; ascii = fingerprint_ascii k; few = omega (arith, few) }

hex_digest_fits : (k : List ℕ) → Fits 64 (hex_digest k)
hex_digest_fits k = record { says = hex_digest_word k; ascii = hex_digest_ascii k; few = hex_digest_few k }

module _ (f : List ℕ) (unsaid : HasNoLine (orders.RevokeByFingerprint f)) where
  -- a word that has a line is no word that has none
  differs : (word : List ℕ) → Fits 64 word → bytes_eq word f ≡ false
  differs word fits = go (bytes_eq word f) refl
    where
      go : (b : Bool) → bytes_eq word f ≡ b → bytes_eq word f ≡ false
      go false is = is
      go true is =
          let it = has_line word fits in
          absurd (unsaid it.0 (subst (λ w. IsLineOf it.0 (orders.RevokeByFingerprint w))
          ((bytes_decides word f).0 is) it.1))

  -- so no key has one that has none
  no_key_has : (k : List ℕ) → has k f ≡ false
  no_key_has k =
      ap (λ b. b || bytes_eq (hex_digest k) f) (differs (fingerprint k) (fingerprint_fits k))
      ∙ differs (hex_digest k) (hex_digest_fits k)

  none_of : (ks : List (List ℕ)) → filter (λ k. has k f) ks ≡ []
  none_of [] = refl
  none_of (k ∷ ks) =
      ap (λ b. cond b (k ∷ filter (λ x. has x f) ks) (filter (λ x. has x f) ks)) (no_key_has k) ∙ none_of ks

  pub none_revoked : (w : World) → Err NoKey ≡ ending (Ok (revoked_with w f))
  none_revoked w = ap (λ ks. ending (Ok (revoked w (only ks)))) (sym (none_of (in_order (keys_in w))))

-- ---- what is sent for an order that is no registry command

-- it is one like itself
pub other_alike : (o : Order) → ((command : RegistryCommand) → ¬ (o ≡ order.Registry command)) → IsAlike o o
other_alike (order.Registry command) other = absurd (other command refl)
other_alike (order.RevokeByFingerprint f) other = (refl, none_revoked f.now)
other_alike (order.Copy to) other = refl
other_alike (order.Catalog key) other = refl
other_alike (order.List listing) other = refl
other_alike order.Ping other = refl
other_alike order.Stop other = refl
