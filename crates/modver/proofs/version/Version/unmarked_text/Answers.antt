use Rattle.std.proofs.Common.{◌∙◌, sym}
use Rattle.modver.proofs.PreReleaseText.{cut-mark, no-mark}
use Rattle.modver.proofs.version.Version.unmarked_text.Goals as goal

pub slice_bounds-result-count : goal.slice_bounds-result-count
slice_bounds-result-count c =
    (cut-mark c.args.self.now c.as_bytes-text.result.now (c.as_bytes-text.ensures.value ∙ c.as_str.ensures.value)
    (sym c.is_marked.ensures ∙ c.if-is_marked.true)).0

pub returns-then-is_marked-clause-value : goal.returns-then-is_marked-clause-value
returns-then-is_marked-clause-value c =
    (cut-mark c.args.self.now c.as_bytes-text.result.now (c.as_bytes-text.ensures.value ∙ c.as_str.ensures.value)
    (sym c.is_marked.ensures ∙ c.if-is_marked.true)).1

pub returns-else-is_marked-clause-value : goal.returns-else-is_marked-clause-value
returns-else-is_marked-clause-value c =
    no-mark c.args.self.now c.as_bytes-text.result.now (c.as_bytes-text.ensures.value ∙ c.as_str.ensures.value)
    (sym c.is_marked.ensures ∙ c.if-is_marked.false)
