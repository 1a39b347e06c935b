use Rattle.tables.proofs.CreateLemmas.{made_if}
use Rattle.tables.proofs.UnmadeLemmas.{excused_if}
use Rattle.tables.proofs.create.create_tables.Goals as goal

pub returns-clause-made : goal.returns-clause-made
returns-clause-made g c clean inside has =
    made_if g.S.Store c.args.tx.now.conn.now c.execute_batch.new.self.conn.now c.execute_batch.result
    (c.execute_batch.ensures.ran clean) (c.execute_batch.ensures.kept clean) (c.execute_batch.ensures.inside clean)
    inside has

pub returns-clause-cause : goal.returns-clause-cause
returns-clause-cause g c clean inside has =
    excused_if g.S.Store c.args.tx.now.conn.now c.execute_batch.new.self.conn.now c.execute_batch.result inside has
    (c.execute_batch.ensures.ran clean)
