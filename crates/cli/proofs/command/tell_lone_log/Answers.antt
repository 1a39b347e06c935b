use Rattle.std.proofs.Common.{true}
use Rattle.cli.proofs.command.tell_lone_log.Goals as goal

pub returns-then-has_lone_log : goal.returns-then-has_lone_log
returns-then-has_lone_log g c = (
  true,
  rw c.if-has_lone_log.true at c.has_lone_log.ensures,
  rw c.as_bytes.ensures.value at c.write_warning.ensures,
)
