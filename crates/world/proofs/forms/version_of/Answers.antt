use Rattle.std.proofs.Common.{rules, ◌≡◌}
use Rattle.modver.specs.declared.version.VersionFault.TheVariants as fault
use Rattle.world.proofs.Named.{names_version, read_none}
use Rattle.world.proofs.forms.version_of.Goals as goal

pub returns-in-Ok : goal.returns-in-Ok
returns-in-Ok c = names_version c.args.text.now c.in-Ok.version c.in-Ok.ensures.ok

pub returns-in-Err : goal.returns-in-Err
returns-in-Err c =
    let other : ¬ (c.in-Err.field-0 ≡ fault.Memory) = search rules in
    read_none c.args.text.now c.in-Err.field-0 c.in-Err.ensures.err other
