use Rattle.std.proofs.Common.{subst, sym}
use Rattle.store.specs.Restart.{HoldsNoStore, HoldsStore, IsStray, Keeps, RecoversStore}
use Rattle.store.proofs.LookLemmas.{still_image, still_settled}
use Rattle.store.proofs.open.SqlShelves+FileStore+FileFrom+T.open_from.Goals as goal

pub open_over-requires-clause-settled : goal.open_over-requires-clause-settled
open_over-requires-clause-settled g c it may = still_settled c.in-Ok-look.files c.in-Ok-look.ensures.still it may

pub returns-in-Ok-open_over-clause-begins : goal.returns-in-Ok-open_over-clause-begins
returns-in-Ok-open_over-clause-begins g c clean =
    let same = still_image c.in-Ok-look.files c.in-Ok-look.ensures.still in
    let it = c.in-Ok-open_over.ensures.begins clean in
    (it.0, it.1, subst (λ i. RecoversStore i it.0) same it.2)

pub returns-in-Ok-open_over-clause-found : goal.returns-in-Ok-open_over-clause-found
returns-in-Ok-open_over-clause-found g c clean w held =
    let same = still_image c.in-Ok-look.files c.in-Ok-look.ensures.still in
    c.in-Ok-open_over.ensures.found clean w (subst (λ i. HoldsStore i w) (sym same) held)

pub returns-in-Ok-open_over-clause-begun : goal.returns-in-Ok-open_over-clause-begun
returns-in-Ok-open_over-clause-begun g c clean =
    subst (λ i. ¬ IsStray i) (still_image c.in-Ok-look.files c.in-Ok-look.ensures.still)
    (c.in-Ok-open_over.ensures.begun clean)

pub returns-in-Err-open_over-clause-bad : goal.returns-in-Err-open_over-clause-bad
returns-in-Err-open_over-clause-bad g c bad clean =
    subst HoldsNoStore (still_image c.in-Ok-look.files c.in-Ok-look.ensures.still)
    (c.in-Err-open_over.ensures.bad bad clean)

pub returns-in-Err-open_over-clause-keeps : goal.returns-in-Err-open_over-clause-keeps
returns-in-Err-open_over-clause-keeps g c clean =
    subst (λ i. Keeps i c.in-Err-open_over.left) (still_image c.in-Ok-look.files c.in-Ok-look.ensures.still)
    (c.in-Err-open_over.ensures.keeps clean)
