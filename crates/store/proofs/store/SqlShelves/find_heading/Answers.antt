use Rattle.std.proofs.Common.{◌≡◌, ◌∙◌, ◌∷◌, map, Ok, rules}
use Rattle.sqlite.specs.Held.{state}
use Rattle.world.specs.World.{above, first_on}
use Rattle.outline.specs.Seen.{seen_heading}
use Rattle.store.specs.Shown.{shown_with}
use Rattle.store.proofs.StoreLemmas.{counted_on, reads_along, reads_then, reads_failed}
use Rattle.store.proofs.store.SqlShelves.find_heading.Goals as goal

pub returns : goal.returns
returns g c =
    let along : map (λ s. s.now) c.as_slice.result.now ≡ c.args.shelf.now ∷ above c.in_ok-group.group = search rules in
    let read = reads_along _ (state g.S.Store c.group_of.new.self.conn)
    (state g.S.Store c.find_seen-seen.new.conn) c.group_of.new.self.kept c.group_of.new.self.failures _ c.args.shelf.now
    _ _ c.find_seen-seen.result (Ok c.in_ok-seen.seen)
    (λ w ss. seen_heading (first_on w ss c.args.path.now c.args.version.now))
    along c.in_ok-group.ensures.reads c.find_seen-seen.ensures.spares c.in_ok-seen.ensures
    c.find_seen-seen.ensures.answer in
    record {
      reads = reads_then (shown_with (state g.S.Store c.args.self.now.conn) c.args.self.now.kept
          c.args.self.now.failures) (state g.S.Store c.find_seen-seen.new.conn) c.group_of.new.self.kept
          c.keep_seen.new.self _ (Ok c.in_ok-seen.seen) _ read
          (λ clean w stands right.
          c.keep_seen.ensures w right (c.as_ref-2.ensures.value ∙ (read.at clean w stands).answer));
    }

pub returns-in_err-seen : goal.returns-in_err-seen
returns-in_err-seen g c =
    let along : map (λ s. s.now) c.as_slice.result.now ≡ c.args.shelf.now ∷ above c.in_ok-group.group = search rules in
    record {
      reads = reads_along _ (state g.S.Store c.group_of.new.self.conn)
          (state g.S.Store c.find_seen-seen.new.conn) c.group_of.new.self.kept c.group_of.new.self.failures _
          c.args.shelf.now _ _ c.find_seen-seen.result c.from_residual-in_err-seen.result
          (λ w ss. seen_heading (first_on w ss c.args.path.now c.args.version.now))
          along c.in_ok-group.ensures.reads c.find_seen-seen.ensures.spares
          (counted_on _ _ _ _ _ c.from_residual-in_err-seen.ensures.1 c.in_err-seen.ensures)
          c.find_seen-seen.ensures.answer;
    }

pub returns-in_err-group : goal.returns-in_err-group
returns-in_err-group g c =
    record {
      reads = reads_failed _ _ _ c.from_residual.result _ _ c.from_residual.ensures c.in_err-group.ensures.reads;
    }
