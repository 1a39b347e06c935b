use Rattle.framing.proofs.StreamLemmas as stream
use Rattle.framing.proofs.laws.no_message_begins_another.Goals as goal

pub returns : goal.returns
returns c = stream.no_message_begins_another
