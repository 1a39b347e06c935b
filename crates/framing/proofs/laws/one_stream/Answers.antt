use Rattle.framing.proofs.StreamLemmas.{stream_unique}
use Rattle.framing.proofs.laws.one_stream.Goals as goal

pub returns : goal.returns
returns c = stream_unique
