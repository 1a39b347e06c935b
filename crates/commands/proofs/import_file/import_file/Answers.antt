use Rattle.std.proofs.Common.{inl, inr, refl}
use Rattle.commands.proofs.ListLemmas.{list_read, list_unopened}
use Rattle.commands.proofs.import_file.import_file.Goals as goal

pub returns-in-Ok-clause-imports : goal.returns-in-Ok-clause-imports
returns-in-Ok-clause-imports g c =
    list_read g.S.Shelves.shown c.args.shelves.now c.import_front.new.shelves c.args.key.now c.args.list.now _ _ _ _ _
    c.in-Ok.front c.import_front.result c.in-Ok.ensures c.import_front.ensures.imports

pub returns-in-Err-clause-imports : goal.returns-in-Err-clause-imports
returns-in-Err-clause-imports g c =
    inr (list_unopened g.S.Shelves.shown c.args.shelves.now c.args.shelves.now c.args.key.now c.args.list.now _
    (g.F.Sources.history c.args.sources.now) _ _ _ c.in-Err.field-0 c.in-Err.ensures refl refl)

pub returns-in-Err-clause-cause : goal.returns-in-Err-clause-cause
returns-in-Err-clause-cause g c = λ _.
    inl (list_unopened g.S.Shelves.shown c.args.shelves.now c.args.shelves.now c.args.key.now c.args.list.now _
    (g.F.Sources.history c.args.sources.now) _ _ _ c.in-Err.field-0 c.in-Err.ensures refl refl)
