-- Why a read failed: it was late, as nothing came in time; it was interrupted; or it broke, for any other reason.
use Rattle.std.specs.Prelude.{ℕ}
use Rattle.std.specs.declared.io.ErrorKind.{ErrorKind}
use Rattle.std.specs.declared.io.ErrorKind.TheVariants as kind
use Rattle.histories.specs.declared.failure.Failure.{Failure}
use Rattle.histories.specs.declared.failure.Failure.TheVariants.{Late, Interrupted, Broken}

-- why, by the kind of the error
unfoldable pub failure_of : ErrorKind → Failure
failure_of kind.WouldBlock = Late
failure_of kind.TimedOut = Late
failure_of kind.Interrupted = Interrupted
failure_of _ = Broken

-- how many more were late
abbrev pub late_by : Failure → ℕ
late_by Late = 1
late_by Interrupted = 0
late_by Broken = 0

-- how many more were broken
abbrev pub broken_by : Failure → ℕ
broken_by Late = 0
broken_by Interrupted = 0
broken_by Broken = 1
