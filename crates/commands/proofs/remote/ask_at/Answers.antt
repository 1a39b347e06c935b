use Rattle.std.proofs.Common.{inl}
use Rattle.network.specs.declared.servers.Link.{Link}
use Rattle.orders.specs.Order.{ordered}
use Rattle.commands.specs.Connection.{Exchanges, IsAll, Passed}
use Rattle.commands.specs.Order.{EndsByReply}
use Rattle.commands.proofs.Connections.{meets_so}
use Rattle.commands.proofs.remote.ask_at.Goals as goal

pub returns-in-Ok : goal.returns-in-Ok
returns-in-Ok g c =
    let sent = ordered c.sendable-sent.result in
    let all = λ (link : Link g.row.R.Denot g.row.W.Denot) (passed : Passed). IsAll (g.R.Hear.account link.reader)
    (g.R.Hear.reads link.reader) (g.W.Write.contents link.writer) (g.W.Tell.writes link.writer).failed passed in (
      c.sendable-sent.result,
      c.sendable-sent.ensures,
      inl (
        c.if-not-has_line.ensures,
        inl (meets_so all _ _ c.args.control.now sent (λ passed. Exchanges sent passed c.in-Ok.told)
            (EndsByReply sent c.ending.result)
            (λ passed exchanges. record { told = c.in-Ok.told; exchanges = exchanges; ends = c.ending.ensures })
            c.in-Ok.ensures),
      ),
    )
