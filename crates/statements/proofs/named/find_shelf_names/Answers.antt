use Rattle.std.proofs.Common.{refl, subst}
use Rattle.std.specs.FinSet as set
use Rattle.sqlite.specs.Held.{state}
use Rattle.sqlite.specs.Listing.{understood}
use Rattle.sqlite_tied.specs.Compute.{everything}
use Rattle.tables.proofs.FailureLemmas.{was_clean}
use Rattle.world.specs.World.{text_cmp}
use Rattle.statements.specs.Lists.{AddsTexts}
use Rattle.statements.proofs.NamedLemmas.{all_shelves}
use Rattle.statements.proofs.named.find_shelf_names.Goals as goal

pub add_texts-requires-clause-plain : goal.add_texts-requires-clause-plain
unfolding understood everything
add_texts-requires-clause-plain g c = (refl, refl)

pub add_texts-requires-clause-tables : goal.add_texts-requires-clause-tables
unfolding understood everything
add_texts-requires-clause-tables g c = refl

pub returns-clause-answer : goal.returns-clause-answer
unfolding understood everything
returns-clause-answer g c clean w stands =
    let old = state g.S.Store c.args.conn.now in
    let new = state g.S.Store c.add_texts.new.conn in
    let found = c.in_ok-add_texts.ensures.adds clean w stands in
    let holds = stands (was_clean old new c.add_texts.ensures.spares.clean clean) found.0 in
    let adds = subst (λ (s : set.FinSet text_cmp). AddsTexts found.1.rows s c.add_texts.new.texts) c.new-names.ensures
    found.1.adds in
    all_shelves old.now w holds.trees.means found.1.rows c.add_texts.new.texts adds found.1.read
