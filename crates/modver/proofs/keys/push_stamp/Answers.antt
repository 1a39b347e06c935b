use Rattle.std.proofs.Common.{arith}
use Rattle.std.proofs.lemmas.Grind.{common_steps}
use Rattle.std.proofs.lemmas.List.Elements.{filter_more}
use Rattle.std.specs.Char.{is_ascii_digit}
use Rattle.modver.proofs.keys.push_stamp.Goals as goal

-- one byte more of the text, and one digit more of the key if it is one
pub loop-byte-preserved : goal.loop-byte-preserved
loop-byte-preserved c =
    let more = filter_more is_ascii_digit c.as_bytes-text.result.now c.loop-byte.byte-index 0 c.loop-byte-test.true in
    grind (arith, common_steps, more)
