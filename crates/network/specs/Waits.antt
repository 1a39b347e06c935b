-- How long a read from a server waits.
use Rattle.std.specs.Prelude.{◌≡◌, ◌*◌, IsSomeAnd, Option, None}
use Rattle.std.specs.Duration.{as_nanos}
use Rattle.std.specs.declared.time.Duration.{Duration}
use Rattle.network.specs.declared.servers.Wait.{Wait}
use Rattle.network.specs.declared.servers.Wait.TheVariants.{Second, Minute, Unbounded}

-- this is the longest time of a wait, if it has one
abbrev pub Lasts : Wait → Option Duration → Type 0
Lasts Second longest = IsSomeAnd longest (λ time. as_nanos time ≡ 1 * 1000000000)
Lasts Minute longest = IsSomeAnd longest (λ time. as_nanos time ≡ 60 * 1000000000)
Lasts Unbounded longest = longest ≡ None
