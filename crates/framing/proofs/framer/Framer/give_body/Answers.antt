use Rattle.std.proofs.Common.{◌+◌, ◌∙◌, ℕ, List, take, drop, ap, arith}
use Rattle.std.specs.Prelude.{Vec}
use Rattle.std.specs.declared.alloc.Global.{Global}
use Rattle.framing.specs.Framing.{Framing}
use Rattle.framing.proofs.BegunLemmas.{body_behind, left_behind, same_framing, slice_to_end}
use Rattle.framing.proofs.framer.Framer.give_body.Goals as goal

pub returns-clause-body : goal.returns-clause-body
returns-clause-body c =
    let at = c.self.inside.start + c.args.head in
    let held = ap (λ (f : Framing). f.held) c.self.view_is in
    let whole = ap (λ (v : Vec ℕ Global). v.items) c.replace-taken.ensures.value in
    c.remove_front.ensures ∙ ap (drop at) (c.truncate.ensures.items ∙ ap (take (at + c.args.body)) whole)
    ∙ body_behind c.self.inside.start c.args.head c.args.body at c.self.inside.bytes.items _ held (omega arith)

pub returns-clause-rest : goal.returns-clause-rest
returns-clause-rest c =
    let start = c.self.inside.start in
    let held = ap (λ (f : Framing). f.held) c.self.view_is in
    let failure = ap (λ (f : Framing). f.failure) c.self.view_is in
    let at = (start + c.args.head) + c.args.body in
    let left = ap (λ (v : Vec ℕ Global). v.items) c.replace-taken.ensures.after in
    let rest = left ∙ c.in_ok-rest.ensures.items ∙ slice_to_end at c.deref.result.now
    ∙ ap (λ (xs : List ℕ). drop at xs) c.deref.ensures.value in
    same_framing _ _ _ _ (rest
    ∙ left_behind start (c.args.head + c.args.body) at c.self.inside.bytes.items _ held (omega arith)) failure
