use Rattle.std.proofs.Common.{true, false, Err, sym, subst}
use Rattle.sqlite.specs.Held.{state}
use Rattle.statements.specs.Extract.{Then}
use Rattle.tables.proofs.WalkCauses.{error_says}
use Rattle.older_rows.specs.Entered.{PutsEntries, PutsZips}
use Rattle.older_rows.specs.Registry.{IsNamed, PutsShelves, PutsKeys}
use Rattle.older_rows.specs.Visits.{Moves, is_done}
use Rattle.older_rows.proofs.CauseLemmas.{fails_then}
use Rattle.older_rows.specs.Filled.{Fills}
use Rattle.older_rows.proofs.FillLemmas.{InTurn, fills}
use Rattle.older_rows.proofs.WalkLemmas.{moves_then, moves_weaker, moves_none, not_done}
use Rattle.older_rows.proofs.fill.fill.Goals as goal

pub returns-clause-moves : goal.returns-clause-moves
returns-clause-moves g c =
    let f = c.args.format in
    let s0 = state g.S.Store c.args.source.now in
    let s1 = state g.S.Store c.names_schema.new.source in
    let s2 = state g.S.Store c.put_shelves.new.source in
    let s3 = state g.S.Store c.put_keys.new.source in
    let s4 = state g.S.Store c.put_entries.new.source in
    let s5 = state g.S.Store c.put_zips.new.source in
    let t0 = state g.F.Store c.args.tx.now.conn.now in
    let t1 = state g.F.Store c.names_schema.new.tx.conn.now in
    let t2 = state g.F.Store c.put_shelves.new.tx.conn.now in
    let t3 = state g.F.Store c.put_keys.new.tx.conn.now in
    let t4 = state g.F.Store c.put_entries.new.tx.conn.now in
    let t5 = state g.F.Store c.put_zips.new.tx.conn.now in
    let done = is_done c.put_zips.result in
    let one : Moves f (IsNamed f) s0 s1 t0 t1 true = rw c.if-not-branch.false at c.in_ok-names_schema.ensures.moves in
    let two : Moves f PutsShelves s1 s2 t1 t2 true = rw c.if-not-branch-2.false at c.in_ok-put_shelves.ensures.moves in
    let three : Moves f PutsKeys s2 s3 t2 t3 true = rw c.if-not-branch-3.false at c.in_ok-put_keys.ensures.moves in
    let four : Moves f (PutsEntries f) s3 s4 t3 t4 true =
    rw c.if-not-branch-4.false at c.in_ok-put_entries.ensures.moves in
    let both = moves_then f (IsNamed f) PutsShelves s0 s1 s2 t0 t1 t2 true one two in
    let keyed = moves_then f (Then (IsNamed f) PutsShelves) PutsKeys s0 s2 s3 t0 t2 t3 true both three in
    let entered = moves_then f (Then (Then (IsNamed f) PutsShelves) PutsKeys) (PutsEntries f) s0 s3 s4 t0 t3 t4 true
    keyed four in
    let all = moves_then f (Then (Then (Then (IsNamed f) PutsShelves) PutsKeys) (PutsEntries f)) (PutsZips f) s0 s4 s5
    t0 t4 t5 done entered c.put_zips.ensures.moves in
    moves_weaker f (InTurn f) (Fills f) s0 s5 t0 t5 done (fills f) all

pub returns-in_err-put_keys-clause-moves : goal.returns-in_err-put_keys-clause-moves
returns-in_err-put_keys-clause-moves g c =
    let f = c.args.format in
    let s0 = state g.S.Store c.args.source.now in
    let s1 = state g.S.Store c.names_schema.new.source in
    let s2 = state g.S.Store c.put_shelves.new.source in
    let s3 = state g.S.Store c.put_keys.new.source in
    let t0 = state g.F.Store c.args.tx.now.conn.now in
    let t1 = state g.F.Store c.names_schema.new.tx.conn.now in
    let t2 = state g.F.Store c.put_shelves.new.tx.conn.now in
    let t3 = state g.F.Store c.put_keys.new.tx.conn.now in
    let one : Moves f (IsNamed f) s0 s1 t0 t1 true = rw c.if-not-branch.false at c.in_ok-names_schema.ensures.moves in
    let two : Moves f PutsShelves s1 s2 t1 t2 true = rw c.if-not-branch-2.false at c.in_ok-put_shelves.ensures.moves in
    let three : Moves f PutsKeys s2 s3 t2 t3 false = c.in_err-put_keys.ensures.moves in
    let both = moves_then f (IsNamed f) PutsShelves s0 s1 s2 t0 t1 t2 true one two in
    let all = moves_then f (Then (IsNamed f) PutsShelves) PutsKeys s0 s2 s3 t0 t2 t3 false both three in
    let failed = c.from_residual-in_err-put_keys in
    subst (Moves f (Fills f) s0 s3 t0 t3) (sym (not_done failed.result failed.ensures.0))
    (moves_none f (Then (Then (IsNamed f) PutsShelves) PutsKeys) (Fills f) s0 s3 t0 t3 all)

pub returns-in_err-put_entries-clause-moves : goal.returns-in_err-put_entries-clause-moves
returns-in_err-put_entries-clause-moves g c =
    let f = c.args.format in
    let s0 = state g.S.Store c.args.source.now in
    let s1 = state g.S.Store c.names_schema.new.source in
    let s2 = state g.S.Store c.put_shelves.new.source in
    let s3 = state g.S.Store c.put_keys.new.source in
    let s4 = state g.S.Store c.put_entries.new.source in
    let t0 = state g.F.Store c.args.tx.now.conn.now in
    let t1 = state g.F.Store c.names_schema.new.tx.conn.now in
    let t2 = state g.F.Store c.put_shelves.new.tx.conn.now in
    let t3 = state g.F.Store c.put_keys.new.tx.conn.now in
    let t4 = state g.F.Store c.put_entries.new.tx.conn.now in
    let one : Moves f (IsNamed f) s0 s1 t0 t1 true = rw c.if-not-branch.false at c.in_ok-names_schema.ensures.moves in
    let two : Moves f PutsShelves s1 s2 t1 t2 true = rw c.if-not-branch-2.false at c.in_ok-put_shelves.ensures.moves in
    let three : Moves f PutsKeys s2 s3 t2 t3 true = rw c.if-not-branch-3.false at c.in_ok-put_keys.ensures.moves in
    let four : Moves f (PutsEntries f) s3 s4 t3 t4 false = c.in_err-put_entries.ensures.moves in
    let both = moves_then f (IsNamed f) PutsShelves s0 s1 s2 t0 t1 t2 true one two in
    let keyed = moves_then f (Then (IsNamed f) PutsShelves) PutsKeys s0 s2 s3 t0 t2 t3 true both three in
    let all = moves_then f (Then (Then (IsNamed f) PutsShelves) PutsKeys) (PutsEntries f) s0 s3 s4 t0 t3 t4 false keyed
    four in
    let failed = c.from_residual-in_err-put_entries in
    subst (Moves f (Fills f) s0 s4 t0 t4) (sym (not_done failed.result failed.ensures.0))
    (moves_none f (Then (Then (Then (IsNamed f) PutsShelves) PutsKeys) (PutsEntries f)) (Fills f) s0 s4 t0 t4 all)

pub returns-in_err-names_schema-clause-cause : goal.returns-in_err-names_schema-clause-cause
returns-in_err-names_schema-clause-cause g c clean has =
    error_says _ c.from_residual.result c.in_err-names_schema.field-0.0 c.from_residual.ensures.1
    (c.in_err-names_schema.ensures.cause clean has)

pub returns-in_err-put_shelves-clause-cause : goal.returns-in_err-put_shelves-clause-cause
returns-in_err-put_shelves-clause-cause g c clean has =
    let f = c.args.format in
    let s0 = state g.S.Store c.args.source.now in
    let s1 = state g.S.Store c.names_schema.new.source in
    let s2 = state g.S.Store c.put_shelves.new.source in
    let t0 = state g.F.Store c.args.tx.now.conn.now in
    let t1 = state g.F.Store c.names_schema.new.tx.conn.now in
    let one : Moves f (IsNamed f) s0 s1 t0 t1 true = rw c.if-not-branch.false at c.in_ok-names_schema.ensures.moves in
    let failed = c.from_residual-in_err-put_shelves in
    error_says _ failed.result c.in_err-put_shelves.field-0.0 failed.ensures.1
    (fails_then f (IsNamed f) s0 s1 s2 t0 t1 one c.put_shelves.ensures.moves.clean (Err _)
    c.in_err-put_shelves.ensures.cause clean has)

pub returns-in_err-put_keys-clause-cause : goal.returns-in_err-put_keys-clause-cause
returns-in_err-put_keys-clause-cause g c clean has =
    let f = c.args.format in
    let s0 = state g.S.Store c.args.source.now in
    let s1 = state g.S.Store c.names_schema.new.source in
    let s2 = state g.S.Store c.put_shelves.new.source in
    let s3 = state g.S.Store c.put_keys.new.source in
    let t0 = state g.F.Store c.args.tx.now.conn.now in
    let t1 = state g.F.Store c.names_schema.new.tx.conn.now in
    let t2 = state g.F.Store c.put_shelves.new.tx.conn.now in
    let one : Moves f (IsNamed f) s0 s1 t0 t1 true = rw c.if-not-branch.false at c.in_ok-names_schema.ensures.moves in
    let two : Moves f PutsShelves s1 s2 t1 t2 true = rw c.if-not-branch-2.false at c.in_ok-put_shelves.ensures.moves in
    let both = moves_then f (IsNamed f) PutsShelves s0 s1 s2 t0 t1 t2 true one two in
    let failed = c.from_residual-in_err-put_keys in
    error_says _ failed.result c.in_err-put_keys.field-0.0 failed.ensures.1
    (fails_then f (Then (IsNamed f) PutsShelves) s0 s2 s3 t0 t2 both c.put_keys.ensures.moves.clean (Err _)
    c.in_err-put_keys.ensures.cause clean has)

pub returns-in_err-put_entries-clause-cause : goal.returns-in_err-put_entries-clause-cause
returns-in_err-put_entries-clause-cause g c clean has =
    let f = c.args.format in
    let s0 = state g.S.Store c.args.source.now in
    let s1 = state g.S.Store c.names_schema.new.source in
    let s2 = state g.S.Store c.put_shelves.new.source in
    let s3 = state g.S.Store c.put_keys.new.source in
    let s4 = state g.S.Store c.put_entries.new.source in
    let t0 = state g.F.Store c.args.tx.now.conn.now in
    let t1 = state g.F.Store c.names_schema.new.tx.conn.now in
    let t2 = state g.F.Store c.put_shelves.new.tx.conn.now in
    let t3 = state g.F.Store c.put_keys.new.tx.conn.now in
    let one : Moves f (IsNamed f) s0 s1 t0 t1 true = rw c.if-not-branch.false at c.in_ok-names_schema.ensures.moves in
    let two : Moves f PutsShelves s1 s2 t1 t2 true = rw c.if-not-branch-2.false at c.in_ok-put_shelves.ensures.moves in
    let both = moves_then f (IsNamed f) PutsShelves s0 s1 s2 t0 t1 t2 true one two in
    let three : Moves f PutsKeys s2 s3 t2 t3 true = rw c.if-not-branch-3.false at c.in_ok-put_keys.ensures.moves in
    let keyed = moves_then f (Then (IsNamed f) PutsShelves) PutsKeys s0 s2 s3 t0 t2 t3 true both three in
    let failed = c.from_residual-in_err-put_entries in
    error_says _ failed.result c.in_err-put_entries.field-0.0 failed.ensures.1
    (fails_then f (Then (Then (IsNamed f) PutsShelves) PutsKeys) s0 s3 s4 t0 t3 keyed c.put_entries.ensures.moves.clean
    (Err _) c.in_err-put_entries.ensures.cause clean has)

pub returns-clause-cause : goal.returns-clause-cause
returns-clause-cause g c clean has =
    let f = c.args.format in
    let s0 = state g.S.Store c.args.source.now in
    let s1 = state g.S.Store c.names_schema.new.source in
    let s2 = state g.S.Store c.put_shelves.new.source in
    let s3 = state g.S.Store c.put_keys.new.source in
    let s4 = state g.S.Store c.put_entries.new.source in
    let s5 = state g.S.Store c.put_zips.new.source in
    let t0 = state g.F.Store c.args.tx.now.conn.now in
    let t1 = state g.F.Store c.names_schema.new.tx.conn.now in
    let t2 = state g.F.Store c.put_shelves.new.tx.conn.now in
    let t3 = state g.F.Store c.put_keys.new.tx.conn.now in
    let t4 = state g.F.Store c.put_entries.new.tx.conn.now in
    let one : Moves f (IsNamed f) s0 s1 t0 t1 true = rw c.if-not-branch.false at c.in_ok-names_schema.ensures.moves in
    let two : Moves f PutsShelves s1 s2 t1 t2 true = rw c.if-not-branch-2.false at c.in_ok-put_shelves.ensures.moves in
    let both = moves_then f (IsNamed f) PutsShelves s0 s1 s2 t0 t1 t2 true one two in
    let three : Moves f PutsKeys s2 s3 t2 t3 true = rw c.if-not-branch-3.false at c.in_ok-put_keys.ensures.moves in
    let keyed = moves_then f (Then (IsNamed f) PutsShelves) PutsKeys s0 s2 s3 t0 t2 t3 true both three in
    let four : Moves f (PutsEntries f) s3 s4 t3 t4 true =
    rw c.if-not-branch-4.false at c.in_ok-put_entries.ensures.moves in
    let entered = moves_then f (Then (Then (IsNamed f) PutsShelves) PutsKeys) (PutsEntries f) s0 s3 s4 t0 t3 t4 true
    keyed four in
    fails_then f (Then (Then (Then (IsNamed f) PutsShelves) PutsKeys) (PutsEntries f)) s0 s4 s5 t0 t4 entered
    c.put_zips.ensures.moves.clean c.put_zips.result c.put_zips.ensures.cause clean has
