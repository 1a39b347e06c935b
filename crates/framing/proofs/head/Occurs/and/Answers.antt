use Rattle.framing.proofs.ValuesLemmas.{Counts_more}
use Rattle.framing.proofs.head.Occurs.and.Goals as goal

pub returns-in_default : goal.returns-in_default
returns-in_default c bytes values within counts = Counts_more bytes c.args.self values _ c.in_default.not-Never counts
