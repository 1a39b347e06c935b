-- How often something happened.
use Rattle.std.specs.Prelude.{ℕ, length}
use Rattle.histories.specs.declared.count.Count.{Count}

abbrev pub times : Count → ℕ
times count = length count.noted.bytes
