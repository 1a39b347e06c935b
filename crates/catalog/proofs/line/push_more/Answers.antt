use Rattle.std.proofs.Common.{◌++◌, ◌∷◌, ◌∙◌, [], ap, codes, sym, take}
use Rattle.std.proofs.lemmas.List.{flat_map_more, take_more}
use Rattle.std.specs.List.{flat_map}
use Rattle.gomod.specs.declared.entries.Requirement.{Requirement}
use Rattle.catalog.specs.Line.{requirement}
use Rattle.catalog.proofs.line.push_more.Goals as goal

pub loop-requirement-preserved : goal.loop-requirement-preserved
loop-requirement-preserved c =
    let rs = c.args.others.now in
    let at = c.loop-requirement.requirement-index in
    let item = c.requirement-item.result in
    let old = c.args.line.now.items in
    let text = λ (r : Requirement). codes "," ++ requirement r in
    c.in_ok-push_next.ensures ∙ ap (λ l. l ++ text item) c.loop-requirement.invariant
    ∙ flat_map_more text old (take at rs) item
    ∙ ap (λ ts. old ++ flat_map text ts) (ap (λ r. take at rs ++ r ∷ []) c.requirement-item.is
    ∙ sym (take_more rs at item c.loop-requirement-test.true))
