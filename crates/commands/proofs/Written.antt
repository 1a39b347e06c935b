-- Writing one text after another.
use Rattle.std.proofs.Common.{◌≢◌, ◌++◌, List, ℕ, Option, [], ◌∷◌, Ok, Err, Result, refl, sym, ap, ◌∙◌, append_assoc}
use Rattle.std.proofs.KnownBytes.{Appends-trans}
use Rattle.std.specs.Io.KnownBytes.{Appends}
use Rattle.engine.specs.Written.{Writes, WritesBeginning}
use Rattle.engine.specs.declared.fault.Io.{Io}

-- writing a text and then another, or a beginning of it, writes both, or a beginning
pub writes_after : {T : Type 0} (a b c : Option (List ℕ)) (first last : List ℕ) (result : Result T Io)
    → Appends a b first → Writes b c last result
    → Writes a c (first ++ last) result
writes_after a b c first last (Ok u) done then = Appends-trans a b c first last done then
writes_after a b c first last (Err e) done then =
    let front = then.1.0 in (
      then.0,
      (
        first ++ front,
        (then.1.1.0, then.1.1.1, ap (λ l. first ++ l) then.1.1.2 ∙ sym (append_assoc first front then.1.1.0)),
        Appends-trans a b c first front done then.1.2,
      ),
    )

longer : (rest last : List ℕ) → rest ≢ [] → rest ++ last ≢ []
longer [] last some = absurd (some refl)
longer (x ∷ rest) last some = λ none. cc

-- a beginning of the first of two texts is a beginning of both
pub begins_both : (a b : Option (List ℕ)) (first last : List ℕ) → WritesBeginning a b first
    → WritesBeginning a b (first ++ last)
begins_both a b first last (front, (rest, some, cut), did) =
    (front, (rest ++ last, longer rest last some, ap (λ l. l ++ last) cut ∙ append_assoc front rest last), did)
