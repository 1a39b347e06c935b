use Rattle.std.proofs.Common.{◌≡◌, true, false, inr, refl, rules}
use Rattle.std.specs.FinSet as set
use Rattle.world.specs.World.{is_team_name}
use Rattle.older_rows.proofs.shelves.ShelfRowsVisit.visit.Goals as goal

pub returns-clause-puts : goal.returns-clause-puts
returns-clause-puts g c clean filling done =
    let name = c.in-Some.name.now in
    let names = c.args.self.now.names in
    let good : is_team_name name ≡ true = search rules in
    let new : set.contains names name ≡ false = search rules in
    let more : c.insert.new.self ≡ set.insert names name = search rules in
    let shown = rw c.in-Some.is at c.in_ok-name.ensures.found in
    let put = c.in_ok-put_shelf.ensures.puts clean filling in
    (inr (record { name = name; shows = shown.0; good = good; new = new; noted = more; puts = put.0 }, refl), put.1)
