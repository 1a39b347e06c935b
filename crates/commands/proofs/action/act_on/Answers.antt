use Rattle.std.proofs.Common.{refl}
use Rattle.socket.specs.Connections.{both}
use Rattle.commands.proofs.Actions.{accepted, any_action, serves_none, unwritten}
use Rattle.commands.proofs.action.act_on.Goals as goal

pub returns-in-Serve-clause-acts : goal.returns-in-Serve-clause-acts
returns-in-Serve-clause-acts g c =
    let serves = rw c.requires.unshown at c.serve.ensures.serves in
    rw c.in-Serve.is (
      g.D.WallClock.shown c.serve.new.calendar,
      g.O.Tell.writes c.args.output.now,
      g.O.Tell.writes c.serve.new.output,
      both g.E.Write.contents g.E.Tell.writes c.args.errors.now,
      both g.E.Write.contents g.E.Tell.writes c.serve.new.errors,
      g.K.Copies.name c.args.copies.now,
      g.V.KeepsRoom.deeds c.args.reserve.now,
      g.V.KeepsRoom.deeds c.serve.new.reserve,
      record {
        ended = c.serve.result;
        serves = serves;
        told = c.acceptance.ensures;
        came = refl;
        read = refl;
        drawn = refl;
      },
    )

pub returns-in-Serve-clause-serves : goal.returns-in-Serve-clause-serves
returns-in-Serve-clause-serves g c =
    let serves = rw c.requires.unshown at c.serve.ensures.serves in
    rw c.in-Serve.is (record {
      ended = c.serve.result;
      serves = serves;
      told = c.acceptance.ensures;
      came = refl;
      read = refl;
      drawn = refl;
    })

pub returns-in-Serve-clause-flushed : goal.returns-in-Serve-clause-flushed
returns-in-Serve-clause-flushed g c =
    λ _. accepted c.serve.result _ _ c.acceptance.ensures c.serve.ensures.flushed

pub returns-in_default-clause-acts : goal.returns-in_default-clause-acts
returns-in_default-clause-acts g c = any_action _ _ _ _ _ _ _ c.args.action.now c.act_alone.ensures.acts

pub returns-in_default-clause-notes : goal.returns-in_default-clause-notes
returns-in_default-clause-notes g c =
    unwritten c.args.action.now (g.E.Write.contents c.args.errors.now) c.in_default.not-Serve

pub returns-in_default-clause-serves : goal.returns-in_default-clause-serves
returns-in_default-clause-serves g c = serves_none _ _ _ _ _ _ _ _ _ _ _ _ _ _ c.args.action.now c.in_default.not-Serve
