-- A message at the front of bytes.
use Rattle.std.proofs.Common.{◌≡◌, ℕ, ◌<◌, List, [], ◌∷◌, ◌++◌, length, refl, ap, arith, length-append}
use Rattle.framing.specs.Message.{MessageView, ReadsMessage}
use Rattle.framing.proofs.StreamLemmas.{nothing_reads}

shorter : (front body rest bytes : List ℕ) → bytes ≡ front ++ (body ++ rest) → ([] ≡ front ++ [] → ⊥)
    → length rest < length bytes
shorter [] body rest bytes e some = absurd (some refl)
shorter (c ∷ front) body rest bytes e some =
    omega (arith, ap length e, length-append front (body ++ rest), length-append body rest)

-- a message has at least one byte
pub message_shortens : (bytes : List ℕ) (m : MessageView) (rest : List ℕ) → ReadsMessage bytes m rest
    → length rest < length bytes
message_shortens bytes m rest (h, n, x, small, long, is) = shorter _ m.body rest bytes x.reads.1 (nothing_reads h [])
