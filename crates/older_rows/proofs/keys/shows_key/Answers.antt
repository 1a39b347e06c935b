use Rattle.std.proofs.Common.{sym, ◌∙◌}
use Rattle.older_rows.proofs.keys.shows_key.Goals as goal

pub returns : goal.returns
returns c good =
    let key = c.in-Some.key in (
      (key.0.now, record { shelf = key.1.now; right = key.2 }),
      rw c.in-Some.is at c.in_ok-key.ensures,
      sym c.is_key.ensures ∙ good,
    )
