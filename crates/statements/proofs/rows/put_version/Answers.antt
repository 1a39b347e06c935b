use Rattle.std.proofs.Common.{◌≡◌, Ok, ap, subst, sym, ◌∙◌, to_z-of_z, w64, SFits, rules, refl}
use Rattle.std.specs.Prelude.{IfSome}
use Rattle.sqlite.specs.Held.{state}
use Rattle.sqlite.specs.Listing.{understood}
use Rattle.sqlite_tied.specs.Compute.{everything}
use Rattle.sqlite.specs.State.{ExecutesInside}
use Rattle.tables.specs.Inserted.{Inserted}
use Rattle.tables.specs.Schema.{version_table}
use Rattle.world.specs.declared.entry.Place.{Place}
use Rattle.world.specs.declared.entry.Entry.{Entry}
use Rattle.statements.specs.Added.{version_row}
use Rattle.statements.proofs.AddEntryLemmas.{version_put, version_params, number_given, number_bound, text_bound}
use Rattle.statements.proofs.rows.put_version.Goals as goal

pub returns-clause-puts : goal.returns-clause-puts
unfolding understood everything
returns-clause-puts g c clean filling =
    let old = state g.S.Store c.args.tx.now.conn.now in
    let new = state g.S.Store c.execute.new.self.conn.now in
    let p : Place = record { shelf = c.args.shelf.now; path = c.args.path.now; version = c.args.version.now } in
    let e : Entry = c.args.entry.now in
    let ran : ExecutesInside 0 _ (version_params c.args.number p e) old new (Ok c.in_ok-execute.field-0) =
    rw (
      c.params-to_sql.ensures,
      number_bound c.args.number,
      c.params-to_sql-2.ensures,
      c.params-to_sql-3.ensures,
      c.params-to_sql-4.ensures,
      c.params-to_sql-5.ensures,
      c.time_text-time.ensures,
      ap (λ (x : Entry). x.time) c.entry.view_is,
      text_bound e.time,
      c.params-to_sql-6.ensures,
      ap (λ (x : Entry). x.gomod) c.entry.view_is,
      c.params-to_sql-7.ensures,
      c.params-to_sql-8.ensures,
      c.as_str.ensures,
      c.order.ensures,
      c.rank.ensures,
    ) at (c.in_ok-execute.ensures.runs clean filling.inside) in
    let put = version_put _ refl (refl, refl) c.args.number p e old new c.in_ok-execute.field-0 filling ran in
    let range : SFits w64 c.last_insert_rowid.result = search rules in
    let numbered = to_z-of_z {w = w64} {z = c.last_insert_rowid.result} range
    ∙ (c.last_insert_rowid.ensures ∙ put.1) in (
      subst (λ n. IfSome c.args.number (λ given. n ≡ given)) (sym numbered)
          (number_given c.args.number (old.now.trees 6)),
      subst (λ n. Inserted old.now.trees new.now.trees version_table (version_row n p e)) (sym numbered) put.0,
      put.2,
    )
