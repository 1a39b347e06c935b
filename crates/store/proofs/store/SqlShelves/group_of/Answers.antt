use Rattle.std.proofs.Common.{◌≡◌, ◌∙◌, None, option_copied, Ok, sym, ap, is_some, rules}
use Rattle.sqlite.specs.Held.{state}
use Rattle.world.specs.World.{group_in}
use Rattle.world.proofs.Causes.{answers, handed_on}
use Rattle.store.proofs.StoreLemmas.{counted_cause, no_answer, reads_kept, reads_keeping, reads}
use Rattle.store.proofs.store.SqlShelves.group_of.Goals as goal

pub returns-in-Some : goal.returns-in-Some
returns-in-Some g c =
    let same : c.in_ok-copied.field-0 ≡ c.in-Some.group.now = search rules in
    record {
      reads = reads_kept (state g.S.Store c.args.self.now.conn) c.args.self.now.kept c.args.self.now.kept
          c.args.self.now.failures c.in_ok-copied.field-0 _
          (λ w right. (same ∙ sym (right.2.0 c.args.shelf.now c.in-Some.group.now (sym c.in-Some.ensures)).1, right));
    }

pub returns : goal.returns
returns g c =
    let answer = rw c.in_ok-found.ensures.ok at c.find_shelf.ensures.answer in
    let kept = record c.args.self.now.kept { groups = c.keep.new.self } in
    let lent : option_copied c.as_ref-2.result ≡ c.group_in-group.result = search rules in
    record {
      reads = reads_keeping (state g.S.Store c.args.self.now.conn) (state g.S.Store c.find_shelf.new.conn)
          c.args.self.now.kept kept c.args.self.now.failures _ (Ok c.group_in-group.result) _
          c.find_shelf.ensures.spares (answers _ _ _ c.in_ok-found.ensures.no_fewer)
          (λ clean w stands right.
          let found = sym c.in-Some-found.is ∙ (answer clean w stands.0).2 in
          let same = c.group_in-group.ensures ∙ ap group_in found in (
            same,
            (
              right.0,
              right.1,
              (c.keep.ensures w right.2.0 (ap is_some (sym found), sym (lent ∙ same)), right.2.1),
              right.3,
            ),
          ));
    }

pub returns-in_default-found : goal.returns-in_default-found
returns-in_default-found g c =
    let answer = rw c.in_ok-found.ensures.ok at c.find_shelf.ensures.answer in
    record {
      reads = reads (state g.S.Store c.args.self.now.conn) (state g.S.Store c.find_shelf.new.conn) c.args.self.now.kept
          c.args.self.now.failures _ (Ok None) _ c.find_shelf.ensures.spares
          (answers _ _ _ c.in_ok-found.ensures.no_fewer)
          (λ clean w stands. ap group_in (sym c.in_default-found.is ∙ (answer clean w stands.0).2));
    }

pub returns-in_err-found : goal.returns-in_err-found
returns-in_err-found g c =
    record {
      reads = reads (state g.S.Store c.args.self.now.conn)
          (state g.S.Store c.find_shelf.new.conn) c.args.self.now.kept c.args.self.now.failures _
          c.from_residual-in_err-found.result _ c.find_shelf.ensures.spares
          (handed_on _ _ _ c.from_residual-in_err-found.result c.from_residual-in_err-found.ensures.1
          (counted_cause _ _ _ _ c.in_err-found.ensures))
          (λ _ _ _. no_answer _ c.from_residual-in_err-found.result c.from_residual-in_err-found.ensures.0);
    }
