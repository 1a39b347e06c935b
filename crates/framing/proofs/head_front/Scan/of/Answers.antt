use Rattle.std.proofs.Common.{ℕ, List, ◌++◌, ◌∙◌, take, ap}
use Rattle.std.proofs.lemmas.List.{take-append-drop}
use Rattle.framing.proofs.BegunLemmas.{slice_to_end}
use Rattle.framing.proofs.HeadFrontLemmas.{scan_begins}
use Rattle.framing.proofs.head_front.Scan.of.Goals as goal

pub returns : goal.returns
returns c =
    let at = c.last_line-at.result in
    let bytes = c.args.bytes.now in
    let whole = ap (λ (t : List ℕ). take at bytes ++ t) (slice_to_end at bytes) ∙ take-append-drop at bytes in
    scan_begins bytes _ _ _ c.in_ok-state.state c.requires whole c.last_line-at.ensures.ends c.first_state.ensures
    c.in_ok-state.ensures
