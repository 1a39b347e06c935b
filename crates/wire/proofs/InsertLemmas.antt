-- Why a route is not taken.
use Rattle.std.proofs.Common.{◌≡◌, ℕ, List, None, refl, ◌∙◌, Result, Ok, Err, IfErr}
use Rattle.std.specs.Result.{IsErrAnd}
use Rattle.matchit.specs.Router.{RouteOf, Refused, nearest}
use Rattle.matchit.specs.Rows.{RowsOf}
use Rattle.matchit.specs.declared.error.InsertError.{InsertError}
use Rattle.matchit.specs.declared.error.InsertError.TheVariants.{Conflict, InvalidParamSegment, InvalidParam}
use Rattle.matchit.specs.declared.error.InsertError.TheVariants.{InvalidCatchAll, OutOfMemory}

-- a route that conflicts with none is refused only for want of memory
pub only_memory : {T : Type 0} (p : List ℕ) (rows : RowsOf (RouteOf T)) (e : InsertError) → nearest p rows ≡ None
    → Refused p rows e → e ≡ OutOfMemory
only_memory p rows (Conflict with) none (found, is, same) = cc
only_memory p rows InvalidParamSegment none refused = absurd refused
only_memory p rows InvalidParam none refused = absurd refused
only_memory p rows InvalidCatchAll none refused = absurd refused
only_memory p rows OutOfMemory none refused = refl

-- a result that fails with `e` fails for want of memory, if `e` is that error
pub gives_memory : {A : Type 0} (result : Result A InsertError) (e : InsertError) → IsErrAnd result (λ x. x ≡ e)
    → e ≡ OutOfMemory → IfErr result (λ x. x ≡ OutOfMemory)
gives_memory (Ok value) e fails is = tt
gives_memory (Err x) e fails is = fails ∙ is
