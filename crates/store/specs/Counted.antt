-- A failure of the tables that is counted.
use Rattle.std.specs.Prelude.{ℕ, ◌≡◌, ◌≤◌, ◌+◌, ◌-◌, ◌^◌, min, Result, Ok, Err, IsErr, IfOk, IfErr, IsErrOf}
use Rattle.sqlite.specs.declared.error.Error.{Error}
use Rattle.world.specs.declared.registry.StoreFault.{StoreFault}
use Rattle.world.specs.declared.registry.StoreFault.TheVariants.{Device, Memory}
use Rattle.world.specs.Store.{GrewOrFull}

-- the count after a fault: one more for `Device`, up to its last value
abbrev pub counting : StoreFault → ℕ → ℕ
counting Device n = min (n + 1) (2 ^ 64 - 1)
counting Memory n = n

-- the count after a call with this result
abbrev pub failures_after : {T : Type 0} → Result T StoreFault → ℕ → ℕ
failures_after (Ok x) n = n
failures_after (Err fault) n = counting fault n

-- an answer stays as it is, and an error becomes a fault, which is counted unless memory ran out
pub record IsCounted {T : Type 0} (before now : ℕ) (given : Result T Error)
    (result : Result T StoreFault) : Type 0 where
  pub ok : IfOk result (λ x. given ≡ Ok x)
  pub err : IfErr result (λ _. IsErr given)
  pub no_fewer : before ≤ now
  pub device : IsErrOf result Device → GrewOrFull before now
  pub counts : now ≡ failures_after result before
