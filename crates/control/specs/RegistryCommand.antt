-- What registry commands do.
use Rattle.std.specs.Prelude.{option_copied}
use Rattle.machine.specs.declared.request.Event.{Event}
use Rattle.machine.specs.declared.request.Event.TheVariants as event
use Rattle.world.specs.World.{World}
use Rattle.world.specs.Registry.{team_added, group_added, key_added, key_revoked, keys_revoked}
use Rattle.world.specs.declared.registry.RegistryReply.{RegistryReply}
use Rattle.orders.specs.declared.command.RegistryCommand.{RegistryCommand}
use Rattle.orders.specs.declared.command.RegistryCommand.TheVariants.{TeamAdd, GroupAdd, KeyAdd}
use Rattle.orders.specs.declared.command.RegistryCommand.TheVariants.{KeyRevoke, KeysRevoke}

-- the machine's event
abbrev pub event_of : RegistryCommand → Event
event_of (TeamAdd name group) = event.TeamAdd name.now (option_copied group)
event_of (GroupAdd name) = event.GroupAdd name.now
event_of (KeyAdd shelf key right) = event.KeyAdd shelf.now key.now right
event_of (KeyRevoke key) = event.KeyRevoke key.now
event_of (KeysRevoke shelf) = event.KeysRevoke shelf.now

-- the machine's reply to the registry command in a world
abbrev pub outcome_in : World → RegistryCommand → RegistryReply
outcome_in w (TeamAdd name group) = team_added w name.now (option_copied group)
outcome_in w (GroupAdd name) = group_added w name.now
outcome_in w (KeyAdd shelf key right) = key_added w shelf.now key.now
outcome_in w (KeyRevoke key) = key_revoked w key.now
outcome_in w (KeysRevoke shelf) = keys_revoked w shelf.now
