use Rattle.std.proofs.Common.{sym, subst, true≢false, take, ap, ◌∙◌}
use Rattle.std.specs.Str.{IsUtf8}
use Rattle.keyring.proofs.MadeLemmas.{made_utf8}
use Rattle.keyring.proofs.made.key_of.Goals as goal

pub returns : goal.returns
returns c =
    let items = c.truncate.ensures.items ∙ ap (take 26) c.in_ok-letters.ensures in
    let ok = c.from_utf8.ensures.succeeds (subst IsUtf8 (sym items) (made_utf8 c.args.bytes.now 26)) in
    absurd (true≢false (sym (rw c.in-Err.is at ok)))
