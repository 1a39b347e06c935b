use Rattle.std.proofs.Common.{[], refl, sym, ◌∙◌, true≢false}
use Rattle.world.specs.declared.entry.Entry.{Entry}
use Rattle.tables.proofs.RowFits.{keys_decide, none_fits, no_time}
use Rattle.tables.proofs.fit.shows_entry.Goals as goal

pub returns-in_default-2-clause-verdict : goal.returns-in_default-2-clause-verdict
returns-in_default-2-clause-verdict c =
    let none = no_time c.args.row.now c.args.path.now c.args.version.now
    (rw c.in_default-2.is at c.in_ok-time.ensures.found) in
    (λ e. absurd (true≢false (sym e)), λ it. absurd (none it))

pub returns-in-Some-3-clause-verdict : goal.returns-in-Some-3-clause-verdict
returns-in-Some-3-clause-verdict c =
    let e : Entry = record { gomod = c.in-Some.gomod.now; zip = []; time = c.in-Some-2.time } in
    keys_decide c.args.row.now c.args.path.now c.args.version.now e c.in-Some-3.version c.shows_keys.result
    (record {
      time = rw c.in-Some-2.is at c.in_ok-time.ensures.found;
      gomod =
          rw c.in-Some.is at c.in_ok-gomod.ensures.found;
      zip = refl;
    })
    (sym c.in-Some-3.is ∙ c.in_ok-version.ensures) c.shows_keys.ensures.verdict

pub returns-in-None-clause-verdict : goal.returns-in-None-clause-verdict
returns-in-None-clause-verdict c =
    let e : Entry = record { gomod = c.in-Some.gomod.now; zip = []; time = c.in-Some-2.time } in
    let none = none_fits c.args.row.now c.args.path.now c.args.version.now e
    (record {
      time = rw c.in-Some-2.is at c.in_ok-time.ensures.found;
      gomod =
          rw c.in-Some.is at c.in_ok-gomod.ensures.found;
      zip = refl;
    })
    (sym c.in-None.is ∙ c.in_ok-version.ensures) in
    (λ t. absurd (true≢false (sym t)), λ it. absurd (none it))
