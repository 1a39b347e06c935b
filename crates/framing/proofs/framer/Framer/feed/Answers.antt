use Rattle.std.proofs.Common.{List, ℕ, sym, subst, arith, ap, length, length-append}
use Rattle.framing.specs.Framing.{IsBad, HasBegun}
use Rattle.framing.proofs.FramingLemmas.{IsBad-append}
use Rattle.framing.proofs.BegunLemmas.{held_more, HasBegun-append}
use Rattle.framing.specs.HeadFront.{HoldsScan}
use Rattle.framing.proofs.HeadFrontLemmas.{holds_scan_more}
use Rattle.framing.proofs.framer.Framer.feed.Goals as goal

pub invariant_of-self-2 : goal.invariant_of-self-2
invariant_of-self-2 c =
    let items = c.in_ok-extend_from_slice.ensures.items in
    let fits = c.self.invariant.0 in
    let more = held_more c.self.inside.start _ _ _ fits items in (
      omega (arith, fits, ap length items, length-append c.self.inside.bytes.items c.args.bytes.now),
      (λ bad failed. subst (λ (held : List ℕ). IsBad held bad) (sym more)
          (IsBad-append _ _ bad (c.self.invariant.1 bad failed))),
      (λ some. subst (λ (held : List ℕ). HasBegun held c.self.inside.wanted) (sym more)
          (HasBegun-append _ _ _ (c.self.invariant.2 some))),
      subst (λ (held : List ℕ). HoldsScan held c.self.inside.scan) (sym more)
          (holds_scan_more _ _ _ c.self.invariant.3),
    )
