use Rattle.interleave.proofs.MeanwhileLemmas.{as_it_was}
use Rattle.control.specs.Serving.{turns_rest}
use Rattle.control.proofs.turn.ServerBetween.note_how_far.Goals as goal

pub returns-clause-same : goal.returns-clause-same
returns-clause-same g c = λ s. turns_rest _ _ _ _ _ _ _ _ _ s (as_it_was _)
