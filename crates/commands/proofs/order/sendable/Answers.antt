use Rattle.commands.proofs.Fingerprints.{other_alike}
use Rattle.commands.proofs.Sayable.{command_alike}
use Rattle.commands.proofs.order.sendable.Goals as goal

pub returns-in-Registry : goal.returns-in-Registry
returns-in-Registry c =
    rw c.in-Registry.is (command_alike c.in-Registry.command c.with_sendable_group.result c.with_sendable_group.ensures)

pub returns-in_default : goal.returns-in_default
returns-in_default c = other_alike c.args.order.now c.in_default.not-Registry
