use Rattle.std.proofs.Common.{◌≡◌, true, false, sym, ◌∙◌, Some, rules}
use Rattle.std.specs.Prelude.{slice_get}
use Rattle.latest.specs.Latest.{counts, is_higher}
use Rattle.latest.proofs.Scans.{above, found, not_above, passed_over}
use Rattle.latest.proofs.better.Goals as goal

pub returns-then-not-is_higher : goal.returns-then-not-is_higher
returns-then-not-is_higher c m by best =
    let low : is_higher c.args.versions.now c.index-versions-index.result c.args.highest ≡ false = search rules in
    let at : slice_get c.args.versions.now c.args.index ≡ Some c.index-versions-index.result =
    found _ _ _ c.requires (sym c.index-versions-index.is) in
    not_above _ m _ _ at _ best low

pub returns-then-not-counts : goal.returns-then-not-counts
returns-then-not-counts c m by best =
    let x = c.index-versions-index.result in
    let at : slice_get c.args.versions.now c.args.index ≡ Some x =
    found _ _ _ c.requires (sym c.index-versions-index.is) in
    let no : c.counts.result ≡ false = search rules in
    let out : counts m x ≡ false = sym (c.counts.ensures c.args.versions.now m by at) ∙ no in
    passed_over _ m _ _ at _ best out

pub returns : goal.returns
returns c m by best =
    let x = c.index-versions-index.result in
    let at : slice_get c.args.versions.now c.args.index ≡ Some x =
    found _ _ _ c.requires (sym c.index-versions-index.is) in
    let yes : c.counts.result ≡ true = search rules in
    let counted : counts m x ≡ true = sym (c.counts.ensures c.args.versions.now m by at) ∙ yes in
    let high : is_higher c.args.versions.now x c.args.highest ≡ true = search rules in
    above _ m _ _ at _ best counted high
