use Rattle.std.proofs.Common.{refl, inl}
use Rattle.sqlite.specs.Held.{state}
use Rattle.world.specs.World.{only_common}
use Rattle.world.proofs.OnlyCommon.{only_common_stands}
use Rattle.setup.proofs.OpenLemmas.{begins_at, device_hindered}
use Rattle.setup.proofs.adopt.make_tables.Goals as goal

pub returns-in-Ok-clause-opens : goal.returns-in-Ok-clause-opens
returns-in-Ok-clause-opens g c clean =
    let h = c.in-Ok.ensures.made clean in
    record {
      is_open = h.0;
      world = only_common;
      tables = inl (c.requires.empty, refl);
      begins = begins_at (state g.S.Store c.args.conn.now) (state g.S.Store c.create.new.conn)
          (λ db shown may. g.met.S.Store.settled c.create.new.conn.store db shown may) h.0 clean only_common h.1
          only_common_stands;
    }

pub returns-in-Err-clause-device : goal.returns-in-Err-clause-device
returns-in-Err-clause-device g c clean outside =
    device_hindered (state g.S.Store c.args.conn.now) (state g.S.Store c.create.new.conn) c.in-Err.error
    c.open_refusal.result c.open_refusal.ensures.memory (c.in-Err.ensures.cause clean outside)
