use Rattle.std.proofs.Common.{◌≡◌, ◌∙◌, sym, subst, IfOk}
use Rattle.std.specs.FinMap as map
use Rattle.commands.specs.Inventory.{inventory_of}
use Rattle.commands.proofs.Rows.{tells_all}
use Rattle.commands.proofs.inventory.inventory.Goals as goal

pub returns-in-Ok-Some-clause-whole : goal.returns-in-Ok-Some-clause-whole
returns-in-Ok-Some-clause-whole g c = λ honest w stands.
    let key = c.args.key.now in
    let read = c.inventory_of.ensures.at honest w stands in
    let says = subst (λ r. IfOk r (λ x. x ≡ inventory_of w (map.get w.keys key))) c.in-Ok-Some.is read.answer in
    tells_all w key c.in-Ok-Some.text (g.met.S.Shelves.sound _ w stands) (sym c.in-Ok-Some.field-0-is ∙ says)
