use Rattle.framing.proofs.PieceLemmas as piece
use Rattle.framing.proofs.laws.a_stream_is_made_of_messages.Goals as goal

pub returns : goal.returns
returns c = piece.a_stream_is_made_of_messages
