-- A text that was printed after another, or of which only a beginning was printed.
use Rattle.std.proofs.Common.{◌++◌, List, ℕ, Option, Ok, Err, Result, inl, inr, sym, ap, ◌∙◌, append_assoc}
use Rattle.std.proofs.KnownBytes.{Appends-trans}
use Rattle.std.specs.Io.KnownBytes.{Appends}
use Rattle.histories.specs.Calls as calls
use Rattle.engine.specs.Causes.{FailsWith}
use Rattle.engine.specs.Written.{Writes, WritesBeginning}
use Rattle.engine.specs.declared.fault.Io.{Io}
use Rattle.commands.specs.Printed.{PrintsFront, PrintsText, PrintsUnlessFailed}

-- a text that was printed after another was written is printed with it
pub prints_after : (a b c : Option (List ℕ)) (first last : List ℕ) (result : Result (Unit {0}) Io) → Appends a b first
    → PrintsText b c last result → PrintsText a c (first ++ last) result
prints_after a b c first last (Ok u) wrote then = Appends-trans a b c first last wrote then
prints_after a b c first last (Err e) wrote then =
    let front = then.1.0 in (
      then.0,
      (
        first ++ front,
        (then.1.1.0, ap (λ l. first ++ l) then.1.1.1 ∙ sym (append_assoc first front then.1.1.0)),
        Appends-trans a b c first front wrote then.1.2,
      ),
    )

-- a beginning of the first of two texts is a beginning of both
pub front_of_both : (a b : Option (List ℕ)) (first last : List ℕ) → WritesBeginning a b first
    → PrintsFront a b (first ++ last)
front_of_both a b first last (front, (rest, some, cut), did) =
    (front, (rest ++ last, ap (λ l. l ++ last) cut ∙ append_assoc front rest last), did)

-- a text whose writing ended with this result was written, or a beginning of it, and a call to write failed
pub prints_unless_failed : {T : Type 0} (old new : Option (List ℕ) × calls.Writes) (text : List ℕ) (result : Result T Io)
    → Writes old.0 new.0 text result → FailsWith old.1.failed new.1.failed result → PrintsUnlessFailed old new text
prints_unless_failed old new text (Ok u) wrote fails = inl wrote
prints_unless_failed old new text (Err e) wrote fails =
    inr ((wrote.1.0, (wrote.1.1.0, wrote.1.1.2), wrote.1.2), fails)
