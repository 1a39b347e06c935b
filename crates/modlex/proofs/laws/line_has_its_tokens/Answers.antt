use Rattle.std.proofs.Common.{length, arith}
use Rattle.modlex.proofs.TokenLaw.{tokens_behind-all}
use Rattle.modlex.proofs.TokenSound.{tokens_behind-sound}
use Rattle.modlex.proofs.laws.line_has_its_tokens.Goals as goal

pub returns : goal.returns
returns c = λ line at bytes ts. (
  λ h. tokens_behind-sound (length bytes) line at bytes ts (omega arith) h,
  λ h.
      tokens_behind-all line at bytes ts h,
)
