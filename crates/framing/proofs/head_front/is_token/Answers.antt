use Rattle.framing.proofs.HeadFrontLemmas.{token_then, token_else}
use Rattle.framing.proofs.head_front.is_token.Goals as goal

pub returns-then-is_ascii_alphanumeric : goal.returns-then-is_ascii_alphanumeric
returns-then-is_ascii_alphanumeric c =
    token_then _ c.args.byte c.if-is_ascii_alphanumeric.ensures.value c.is_ascii_alphanumeric.ensures.value

pub returns-else-is_ascii_alphanumeric : goal.returns-else-is_ascii_alphanumeric
returns-else-is_ascii_alphanumeric c =
    token_else _ c.args.byte c.if-is_ascii_alphanumeric.ensures.value c.contains.ensures.value
