use Rattle.std.specs.Prelude.{string_bytes}
use Rattle.std.proofs.Common.{◌≡◌, ◌∙◌, ap, append_assoc}
use Rattle.control.specs.Health.{begin_behind}
use Rattle.control.proofs.health.Health.begin.Goals as goal

pub returns : goal.returns
returns c =
    let text : string_bytes c.in_ok-line.line ≡ begin_behind (string_bytes c.in_ok-counts.counts) c.args.self.now =
    rw (c.in_ok-line.ensures.ok, c.as_str.ensures.value, c.as_str-2.ensures.value) (simp append_assoc) in
    text ∙ ap (λ t. begin_behind t c.args.self.now) c.in_ok-counts.ensures
