use Rattle.framing.proofs.PieceLemmas as piece
use Rattle.framing.proofs.laws.a_message_may_be_taken_out.Goals as goal

pub returns : goal.returns
returns c = piece.a_message_may_be_taken_out
