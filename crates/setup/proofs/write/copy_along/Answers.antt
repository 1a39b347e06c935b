use Rattle.std.proofs.Common.{true, false, [], ◌∷◌, ◌++◌, take, take_all, ◌∙◌, sym, ap, arith}
use Rattle.std.proofs.lemmas.List.{map_more}
use Rattle.world.specs.World.{common}
use Rattle.statements.specs.Extract.{Along}
use Rattle.statements.specs.Shelves.{names_of}
use Rattle.statements.specs.declared.shelf_list.Shelf.{Shelf}
use Rattle.setup.specs.Parts.{CopiesRows}
use Rattle.statements.proofs.ExtractLemmas.{along_more, copies_then, copies_weaker, failed_copies}
use Rattle.setup.proofs.PutLemmas.{along_one}
use Rattle.setup.proofs.write.copy_along.Goals as goal

pub returns-in_err-copy_rows-clause-copies : goal.returns-in_err-copy_rows-clause-copies
returns-in_err-copy_rows-clause-copies g c =
    failed_copies c.from_residual.result _ (Along (CopiesRows c.args.rows) (common ∷ names_of c.args.shelves.now)) _ _ _
    _ c.from_residual.ensures.0 c.in_err-copy_rows.ensures.copies

pub loop-shelf-init : goal.loop-shelf-init
loop-shelf-init g c =
    let first = c.in_ok-copy_rows.ensures in
    (first.same_reference, copies_weaker _ _ _ _ _ _ true (along_one (CopiesRows c.args.rows) common) first.copies)

pub loop-shelf-preserved : goal.loop-shelf-preserved
loop-shelf-preserved g c =
    let so_far = c.loop-shelf.invariant in
    let step = c.in_ok-copy_rows-2.ensures in (
      step.same_reference ∙ so_far.0,
      rw (map_more (λ (s : Shelf). s.name) c.args.shelves.now c.loop-shelf.shelf-index c.shelf-item.result
          c.loop-shelf-test.true
          ∙ ap (λ (s : Shelf). names_of (take c.loop-shelf.shelf-index c.args.shelves.now) ++ s.name ∷ [])
          (sym c.shelf-item.is))
          (copies_weaker _ _ _ _ _ _ true (along_more (CopiesRows c.args.rows) (common ∷ names_of _) _)
          (copies_then _ _ _ _ _ _ _ _ true so_far.1 (rw c.as_str.ensures at step.copies))),
    )

pub returns-in_err-copy_rows-2-clause-copies : goal.returns-in_err-copy_rows-2-clause-copies
returns-in_err-copy_rows-2-clause-copies g c =
    failed_copies c.from_residual-in_err-copy_rows-2.result _
    (Along (CopiesRows c.args.rows) (common ∷ names_of c.args.shelves.now)) _ _ _ _
    c.from_residual-in_err-copy_rows-2.ensures.0
    (copies_then _ _ _ _ _ _ _ _ false c.loop-shelf.invariant.1 c.in_err-copy_rows-2.ensures.copies)

pub returns-clause-copies : goal.returns-clause-copies
returns-clause-copies g c =
    let whole = take_all c.loop-shelf.shelf-index c.args.shelves.now (omega arith) in
    rw whole at c.loop-shelf.invariant.1
