use Rattle.std.proofs.Common.{◌≡◌, ap, sym, ◌∙◌}
use Rattle.std.specs.List.{list_any}
use Rattle.gomod.specs.Module.{covers, is_retracted}
use Rattle.gomod.specs.Reading.{interval_of}
use Rattle.gomod.proofs.CoverageLists.{any-of_each}
use Rattle.gomod.proofs.Retractions.{is_retracted-decides}
use Rattle.gomod.proofs.module.GoMod.retracts.Goals as goal
use Rattle.gomod.proofs.module.GoMod.retracts.Goals.{After-some_has}

value : (c : After-some_has) → c.some_has.result ≡ is_retracted c.args.self.now c.args.version.now
value c =
    c.some_has.ensures
    ∙ ap (λ v. list_any (λ r. covers v (interval_of r)) c.deref.result.now) c.bound.ensures
    ∙ ap (list_any (λ r. covers c.args.version.now (interval_of r))) c.deref.ensures.value
    ∙ any-of_each (covers c.args.version.now) interval_of c.self.inside.retractions.items
    ∙ ap (λ m. is_retracted m c.args.version.now) c.self.view_is

pub returns-clause-value : goal.returns-clause-value
returns-clause-value c = value c

pub returns-clause-retracted : goal.returns-clause-retracted
returns-clause-retracted c =
    let decides = is_retracted-decides c.args.self.now c.args.version.now in
    (λ h. decides.0 (sym (value c) ∙ h), λ r. value c ∙ decides.1 r)
