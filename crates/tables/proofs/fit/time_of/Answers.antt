use Rattle.std.proofs.Common.{◌≡◌, ◌∙◌, List, ℕ, Ok, Err, IfOk, IfErr, MatchOption, subst, sym}
use Rattle.std.specs.Prelude.{Result}
use Rattle.std.specs.Result.{result_ok}
use Rattle.modver.specs.Time.{IsTime, IsTimeFault}
use Rattle.modver.specs.declared.time.TimeFault.{TimeFault}
use Rattle.modver.proofs.Times.{each-text}
use Rattle.tables.proofs.AsciiLemmas.{time_utf8}
use Rattle.tables.proofs.fit.time_of.Goals as goal

read : (r : Result (List ℕ) TimeFault) (text bytes : List ℕ) → text ≡ bytes → IfOk r (λ t. (t ≡ text) × IsTime text)
    → IfErr r (IsTimeFault text)
    → MatchOption (result_ok r) (IsTime bytes → ⊥) (λ t. t ≡ bytes)
read (Ok t) text bytes same ok err = ok.0 ∙ same
read (Err f) text bytes same ok err = λ is. (each-text text).not_both f (subst IsTime (sym same) is) err

pub returns-in-Ok : goal.returns-in-Ok
returns-in-Ok c = rw c.ok.ensures.value
    (read c.read_time.result c.in-Ok.text.now c.args.bytes.now c.in-Ok.ensures.cases.0 c.read_time.ensures.ok
    c.read_time.ensures.err)

pub returns-in-Err : goal.returns-in-Err
returns-in-Err c is = c.in-Err.ensures.cases.0 (time_utf8 c.args.bytes.now is)
