use Rattle.std.proofs.Common.{◌∙◌}
use Rattle.cache.proofs.ListLemmas.{one_more}
use Rattle.cache.proofs.lists.Recent+KeptList.keep_copy.Goals as goal

pub returns-in-Ok : goal.returns-in-Ok
returns-in-Ok c w are is =
    one_more w c.args.self.now c.keep_list.new.self _ c.keep_list.ensures are (c.in-Ok.ensures ∙ is, tt)
