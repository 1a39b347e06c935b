use Rattle.std.proofs.Common.{inl, rules}
use Rattle.socket.specs.Connections.{both}
use Rattle.commands.proofs.serve.serve_operators.Goals as goal

pub returns-clause-serves : goal.returns-clause-serves
returns-clause-serves g c =
    let door = both g.N.Callers.waiting g.N.Callers.history in
    inl (record {
      since = c.in-Some.since;
      shows = search rules;
      begun = door c.make_socket.new.self;
      makes = search rules;
      found = c.make_room-room.result;
      ended = door c.serve_callers-told.new.entrances;
      serves = rw c.make_room-room.ensures.noted at c.serve_callers-told.ensures.serves;
      removed = door c.remove_socket.new.self;
      removes = c.remove_socket.ensures;
      closes = c.close.ensures;
    })
