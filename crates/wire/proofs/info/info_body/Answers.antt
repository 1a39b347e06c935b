use Rattle.std.proofs.Common.{ap, ◌∙◌}
use Rattle.serde_json.specs.Written.{compact_text, has_float}
use Rattle.wire.proofs.InfoLemmas.{info-written, no-float}
use Rattle.wire.proofs.info.info_body.Goals as goal

pub returns : goal.returns
returns c =
    let object = c.in_ok-info.ensures.object in
    let valid = c.in_ok-info.ensures.valid in
    let written = c.in_ok-text.ensures.text (ap has_float object ∙ no-float c.args.version.now c.args.time) in
    rw c.into_bytes.ensures.value
    (written ∙ ap compact_text object ∙ info-written c.args.version.now c.args.time valid.0 valid.1)
