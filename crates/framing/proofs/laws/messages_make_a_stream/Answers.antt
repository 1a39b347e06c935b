use Rattle.framing.proofs.PieceLemmas as piece
use Rattle.framing.proofs.laws.messages_make_a_stream.Goals as goal

pub returns : goal.returns
returns c = piece.messages_make_a_stream
