use Rattle.std.proofs.Common.{◌≡◌, List, ℕ}
use Rattle.std.specs.Prelude.{option_copied}
use Rattle.world.specs.Latest.{AllOf, highest, highest_left}
use Rattle.catalog.proofs.Ruled.{account_reads}
use Rattle.catalog.specs.Past.{without_is_world}
use Rattle.catalog.specs.Sight.{without}
use Rattle.catalog.proofs.path.account_of.Goals as goal

pub returns-clause-reads : goal.returns-clause-reads
returns-clause-reads g c =
    let vs = c.in_ok-versions.versions in
    let top : (path : List ℕ) → AllOf path vs → option_copied c.highest-top.result ≡ highest vs =
    rw c.as_slice.ensures at c.highest-top.ensures in
    let latest : (path : List ℕ) → AllOf path vs → c.in_ok-latest.latest ≡ highest_left c.in_ok-first.first vs =
    rw c.as_slice-2.ensures at c.in_ok-latest.ensures in
    let news = c.args.news.now in
    account_reads (λ w. without w news) c.args.shelf.now c.args.path.now _ _ _ _
    (λ w stands. without_is_world w news (g.met.S.Shelves.sound _ w stands)) vs
    (option_copied c.highest-top.result) c.in_ok-latest.latest c.in_ok-first.first c.in_ok-ruling.ruling
    c.in_ok-versions.ensures top c.in_ok-first.ensures latest c.in_ok-ruling.ensures
