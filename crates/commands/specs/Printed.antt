-- How much of a text reached the output of a command, and why not all of it did.
use Rattle.std.specs.Prelude.{ℕ, ◌≡◌, ◌<◌, ◌⊎◌, ◌++◌, List, Bool, Option, Result, Err, IfErr, MatchResult}
use Rattle.std.specs.Io.KnownBytes.{Appends}
use Rattle.histories.specs.Calls.{Writes}
use Rattle.engine.specs.declared.fault.Io.{Io as Failure}
use Rattle.engine.specs.declared.fault.Io.TheVariants as io
use Rattle.commands.specs.declared.refusal.CommandRefusal.{CommandRefusal}
use Rattle.commands.specs.declared.refusal.CommandRefusal.TheVariants.{Io}

-- the text begins with these bytes
abbrev pub IsFront : List ℕ → List ℕ → Type 0
IsFront front text = (rest : List ℕ) × (text ≡ front ++ rest)

-- a beginning of a text was printed, or all of it
abbrev pub PrintsFront : Option (List ℕ) → Option (List ℕ) → List ℕ → Type 0
PrintsFront written written_new text = (front : List ℕ) × IsFront front text × Appends written written_new front

-- the text was printed, or the output failed and a beginning of it was printed
abbrev pub PrintsText : Option (List ℕ) → Option (List ℕ) → List ℕ → Result (Unit {0}) Failure → Type 0
PrintsText written written_new text result =
    MatchResult result (λ u. Appends written written_new text)
    (λ e. (e ≡ io.Write) × PrintsFront written written_new text)

-- a call to write to the output or to flush it failed
abbrev pub HasFailed : Writes → Writes → Type 0
HasFailed writes writes_new = writes.failed < writes_new.failed

-- From old to new, each the bytes that were written and the calls that wrote them: the text was written, or a beginning
-- of it, and a call to write failed.
abbrev pub PrintsUnlessFailed : Option (List ℕ) × Writes → Option (List ℕ) × Writes → List ℕ → Type 0
PrintsUnlessFailed old new text = Appends old.0 new.0 text ⊎ (PrintsFront old.0 new.0 text × HasFailed old.1 new.1)

-- a command that ended with `Io` did so because its output failed
abbrev pub FailsByOutput : {T : Type 0} → Writes → Writes → Result T CommandRefusal → Type 0
FailsByOutput writes writes_new result = IfErr result (λ e. e ≡ Io → HasFailed writes writes_new)

-- A command that ended with `Io` did so because its output failed, or before it did anything on the store or printed
-- anything.
abbrev pub FailsEarlyOrByOutput : {S T : Type 0} → S → S → Option (List ℕ) → Option (List ℕ) → Writes → Writes
    → Result T CommandRefusal → Type 0
FailsEarlyOrByOutput old new written written_new writes writes_new result =
    IfErr result (λ e. e ≡ Io → ((new ≡ old) × (written_new ≡ written)) ⊎ HasFailed writes writes_new)

-- a command that failed printed nothing, or a call of its output failed
abbrev pub FailsUnprinted : {T : Type 0} → Option (List ℕ) → Option (List ℕ) → Writes → Writes
    → Result T CommandRefusal → Type 0
FailsUnprinted written written_new writes writes_new result =
    IfErr result (λ e. (written_new ≡ written) ⊎ HasFailed writes writes_new)

-- what was to be printed was refused with this result, or the output failed
abbrev pub HasCause : Writes → Writes → Result Bool CommandRefusal → Result (List ℕ) CommandRefusal → Type 0
HasCause writes writes_new result told = IfErr result (λ e. (told ≡ Err e) ⊎ HasFailed writes writes_new)
