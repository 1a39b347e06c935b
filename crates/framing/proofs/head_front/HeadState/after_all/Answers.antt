use Rattle.std.proofs.Common.{◌≡◌, ◌+◌, ◌++◌, ◌∷◌, ◌∙◌, ℕ, List, [], append-nil, append_assoc, ap, get_or, subst, sym}
use Rattle.std.proofs.Common.{take}
use Rattle.std.proofs.lemmas.List.{take_all, take_more}
use Rattle.framing.specs.HeadFront.{Stands}
use Rattle.framing.proofs.head_front.HeadState.after_all.Goals as goal

pub loop-byte-init : goal.loop-byte-init
loop-byte-init c bytes stands = subst (Stands c.args.self) (sym (append-nil bytes)) stands

pub loop-byte-preserved : goal.loop-byte-preserved
loop-byte-preserved c bytes stands =
    let i = c.loop-byte.byte-index in
    let more = c.args.more.now in
    let one : (bytes ++ take i more) ++ get_or more i 0 ∷ [] ≡ bytes ++ take (i + 1) more =
    append_assoc bytes (take i more) (get_or more i 0 ∷ [])
    ∙ ap (λ (t : List ℕ). bytes ++ t) (sym (take_more more i 0 c.loop-byte-test.true)) in
    subst (Stands c.in_ok-state.state) one
    (c.in_ok-state.ensures (bytes ++ take i more) (c.loop-byte.invariant bytes stands))

pub returns : goal.returns
returns c bytes stands =
    subst (λ (t : List ℕ). Stands c.loop-byte.state (bytes ++ t))
    (take_all c.loop-byte.byte-index c.args.more.now c.loop-byte-test.false)
    (c.loop-byte.invariant bytes stands)
