use Rattle.std.proofs.Common.{[], ◌∷◌, ◌++◌, take, take_all, refl, ◌∙◌, sym, ap, arith}
use Rattle.std.proofs.lemmas.List.{take_more}
use Rattle.sqlite.specs.Held.{state}
use Rattle.statements.specs.declared.shelf_list.Shelf.{Shelf}
use Rattle.setup.proofs.PutLemmas.{puts_none, puts_then, puts_failed}
use Rattle.setup.proofs.write.put_shelves.Goals as goal

pub loop-shelf-init : goal.loop-shelf-init
loop-shelf-init g c = (refl, puts_none (state g.F.Store c.args.tx.now.conn.now))

pub loop-shelf-preserved : goal.loop-shelf-preserved
loop-shelf-preserved g c =
    let so_far = c.loop-shelf.invariant in
    let step = c.in_ok-put_listed.ensures in (
      step.same_reference ∙ so_far.0,
      rw (take_more c.args.shelves.now c.loop-shelf.shelf-index c.shelf-item.result c.loop-shelf-test.true
          ∙ ap (λ (s : Shelf). take c.loop-shelf.shelf-index c.args.shelves.now ++ s ∷ []) (sym c.shelf-item.is))
          (puts_then _ _ _ _ _ so_far.1 step.puts),
    )

pub returns-in_err-put_listed-clause-puts : goal.returns-in_err-put_listed-clause-puts
returns-in_err-put_listed-clause-puts g c =
    puts_failed c.from_residual.result _ _ _ _ _ _ c.from_residual.ensures.0 c.loop-shelf.invariant.1
    c.in_err-put_listed.ensures.puts

pub returns-clause-puts : goal.returns-clause-puts
returns-clause-puts g c =
    let whole = take_all c.loop-shelf.shelf-index c.args.shelves.now (omega arith) in
    rw whole at c.loop-shelf.invariant.1
