use Rattle.std.proofs.Common.{rules, ◌∙◌, ap}
use Rattle.std.proofs.lemmas.Fn.{filter_same}
use Rattle.modver.specs.Class.{class_of}
use Rattle.machine.specs.Listed.{is_listed, listed}
use Rattle.machine.proofs.listed.listed.Goals as goal

pub returns : goal.returns
returns c =
    c.new.ensures ∙ filter_same _ (λ v. is_listed (class_of v)) _ (λ v b f' k. search rules) _ _
    c.retain.ensures.filtered
    ∙ ap listed c.into_vec-list.ensures
