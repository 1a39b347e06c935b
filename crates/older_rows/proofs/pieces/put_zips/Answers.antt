use Rattle.std.proofs.Common.{◌≡◌, sym, subst, rules}
use Rattle.sqlite.specs.Held.{state}
use Rattle.sqlite.specs.Tree.{Trees}
use Rattle.older.specs.declared.schema.Format.TheVariants.{One}
use Rattle.older_rows.specs.Entered.{PutsZips}
use Rattle.older_rows.proofs.EndLemmas.{zips_came}
use Rattle.older_rows.proofs.WalkLemmas.{moves_nothing}
use Rattle.older_rows.proofs.pieces.put_zips.Goals as goal

pub returns-in-One-clause-moves : goal.returns-in-One-clause-moves
returns-in-One-clause-moves g c =
    let is : c.args.format ≡ One = search rules in
    moves_nothing c.args.format (PutsZips c.args.format) (state g.S.Store c.args.source.now)
    (state g.F.Store c.args.tx.now.conn.now)
    (subst (λ f. (old db : Trees) → PutsZips f old db db) (sym is) zips_came)
