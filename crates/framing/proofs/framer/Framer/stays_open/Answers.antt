use Rattle.std.proofs.Common.{ℕ, List, ◌∙◌, ap, drop, subst, sym}
use Rattle.framing.specs.HeadFront.{IsScanOf}
use Rattle.framing.proofs.BegunLemmas.{slice_to_end}
use Rattle.framing.proofs.framer.Framer.stays_open.Goals as goal

pub advance-requires : goal.advance-requires
advance-requires c =
    let held = slice_to_end c.self.inside.start c.deref.result.now
    ∙ ap (λ (xs : List ℕ). drop c.self.inside.start xs) c.deref.ensures.value in
    subst (λ (bytes : List ℕ). IsScanOf bytes c.in-Some.scan) (sym held)
    (c.self.invariant.3.scanned c.in-Some.scan c.in-Some.is)
