use Rattle.interleave.proofs.MeanwhileLemmas.{as_it_was}
use Rattle.catalog.proofs.TurnLemmas.{stays_itself}
use Rattle.catalog.proofs.turns.NoTurnsTurns.take.Goals as goal

pub returns : goal.returns
returns g c = record {
  stays = λ s. stays_itself _;
  went = as_it_was _;
  ended = λ failed. absurd (let e = failed in cc);
  halts = tt;
  output = tt;
}
