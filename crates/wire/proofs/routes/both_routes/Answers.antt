use Rattle.std.proofs.Common.{◌≡◌, [], ◌∷◌, refl}
use Rattle.matchit.proofs.OnLiterals.{matchit_on_literals}
use Rattle.matchit.specs.declared.error.InsertError.TheVariants.{OutOfMemory}
use Rattle.wire.proofs.InsertLemmas.{gives_memory, only_memory}
use Rattle.wire.specs.Route.{path_route, shelf_route}
use Rattle.wire.proofs.routes.both_routes.Goals as goal

pub returns-clause-ok : goal.returns-clause-ok
unfolding matchit_on_literals
returns-clause-ok c = rw (c.in_ok-insert-2.ensures.1, c.in_ok-insert.ensures.1, c.new-routes.ensures) refl

pub returns-in_err-insert-clause-memory : goal.returns-in_err-insert-clause-memory
unfolding matchit_on_literals
returns-in_err-insert-clause-memory c =
    let why = rw c.new-routes.ensures at c.in_err-insert.ensures in
    let is : c.in_err-insert.field-0.0 ≡ OutOfMemory = only_memory shelf_route.pattern [] _ refl why.1 in
    gives_memory _ _ c.from_residual.ensures.1 is

pub returns-in_err-insert-2-clause-memory : goal.returns-in_err-insert-2-clause-memory
unfolding matchit_on_literals
returns-in_err-insert-2-clause-memory c =
    let why = rw (c.in_ok-insert.ensures.1, c.new-routes.ensures) at c.in_err-insert-2.ensures in
    let is : c.in_err-insert-2.field-0.0 ≡ OutOfMemory =
    only_memory path_route.pattern ((shelf_route.pattern, shelf_route) ∷ []) _ refl why.1 in
    gives_memory _ _ c.from_residual-in_err-insert-2.ensures.1 is
