use Rattle.std.proofs.Common.{◌∙◌, subst, sym}
use Rattle.std.proofs.lemmas.List.{take_rest}
use Rattle.orders.specs.Outcome.{IsNoOutcome}
use Rattle.control.proofs.ReplyLemmas.{no_list, no_whole_list}
use Rattle.control.proofs.client.listed_in.Goals as goal

pub returns-in_default : goal.returns-in_default
returns-in_default c =
    let at = c.last_line_at-at.ensures in
    let here = c.deref.ensures.value in
    no_list c.args.got.items c.last_line_at-at.result (rw here at at.bound) (rw here at at.within) (rw here at at.lines)
    (rw here at at.last) c.args.may_be_cut
    (subst IsNoOutcome (take_rest c.args.got.items c.last_line_at-at.result)
    (rw c.deref-2.ensures.value at c.in_default.ensures))

pub returns : goal.returns
returns c =
    let at = c.last_line_at-at.ensures in
    let here = c.deref.ensures.value in
    no_whole_list c.args.got.items c.last_line_at-at.result (rw here at at.bound) (rw here at at.within)
    (rw here at at.lines) (rw here at at.last) c.args.may_be_cut c.in-Some.outcome
    (sym (take_rest c.args.got.items c.last_line_at-at.result) ∙ (rw c.deref-2.ensures.value at c.in-Some.ensures))
    (sym c.if-is_done.ensures) c.if-at-eq0.false c.if-may_be_cut.false
