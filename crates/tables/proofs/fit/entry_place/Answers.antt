use Rattle.std.proofs.Common.{◌∙◌}
use Rattle.tables.proofs.RowFits.{no_path, no_version, none_shown, place_shown, entry_shown}
use Rattle.tables.proofs.fit.entry_place.Goals as goal

pub returns-in_default-2-clause-found : goal.returns-in_default-2-clause-found
returns-in_default-2-clause-found c = no_path c.args.row.now (rw c.in_default-2.is at c.in_ok-path.ensures.found)

pub returns-in_default-3-clause-found : goal.returns-in_default-3-clause-found
returns-in_default-3-clause-found c = no_version c.args.row.now (rw c.in_default-3.is at c.in_ok-version.ensures.found)

pub returns-then-not-branch-clause-found : goal.returns-then-not-branch-clause-found
returns-then-not-branch-clause-found c =
    let path = rw c.in-Some-2.is at c.in_ok-path.ensures.found in
    let version = rw c.in-Some-3.is at c.in_ok-version.ensures.found in
    none_shown c.args.row.now c.in-Some-2.path.now c.in-Some-3.version.now c.in_ok-shows_entry.field-0 path.0 version.0
    c.if-not-branch.true c.in_ok-shows_entry.ensures.verdict

pub returns-clause-found : goal.returns-clause-found
returns-clause-found c =
    let row = c.args.row.now in
    let s = c.in-Some.shelf.now in
    let p = c.in-Some-2.path.now in
    let v = c.in-Some-3.version.now in
    let shelf = rw c.in-Some.is at c.in_ok-shelf.ensures.found in
    let path = rw c.in-Some-2.is at c.in_ok-path.ensures.found in
    let version = rw c.in-Some-3.is at c.in_ok-version.ensures.found in
    let entry = c.in_ok-shows_entry.ensures.verdict.0 c.if-not-branch.false in (
      c.in_ok-new.ensures ∙ place_shown row s p v shelf.0 path.0 version.0,
      entry_shown row s p v entry.entry shelf.0 shelf.1 path.0 version.0 entry.files entry.keys (entry.may s),
    )
