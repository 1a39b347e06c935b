use Rattle.std.proofs.Common.{◌++◌, ◌∷◌, ◌&&◌, [], arith, inl, inr, refl, sym, subst, ap, ◌∙◌, ℕ, length-append}
use Rattle.std.specs.List.{list_all}
use Rattle.std.specs.Io.KnownBytes.{Appends}
use Rattle.commands.specs.Import as spec
use Rattle.commands.specs.ImportList.{HasRead}
use Rattle.commands.specs.declared.import.Closing.TheVariants.{ReadError}
use Rattle.commands.proofs.Imports.{all_more, appends_none, are_first, broken_off, closed, fails_later, lines_more}
use Rattle.commands.proofs.Imports.{nothing_done, rows_more, through_idle, through_more}
use Rattle.commands.proofs.import.import.Goals as goal

pub returns-in-Some-clause-imports : goal.returns-in-Some-clause-imports
returns-in-Some-clause-imports g c =
    let read = g.F.Sources.history c.args.sources.now in
    let key = c.args.key.now in
    let here = g.S.Shelves.shown c.args.shelves.now in
    let written = g.O.Write.contents c.args.output.now in
    let list = g.L.Read.remaining c.args.list in
    closed key here here read read list written written _ [] 0 c.in-Some.closing _ c.close.result tt
    (nothing_done key here read)
    (inr (refl, refl, (c.in-Some.ensures list c.open-reader.ensures).0)) refl (appends_none written)
    c.close.ensures.closes

pub loop-number-init : goal.loop-number-init
loop-number-init g c =
    let here = g.S.Shelves.shown c.args.shelves.now in (
      [],
      record {
        through = nothing_done c.args.key.now here (g.F.Sources.history c.args.sources.now);
        read = c.in_default.ensures (g.L.Read.remaining c.args.list) c.open-reader.ensures;
        printed = appends_none (g.O.Write.contents c.args.output.now);
        accepted = refl;
        count = refl;
        later = omega arith;
        flushed = λ flushed. flushed;
      },
    )

pub returns-in-Err-clause-imports : goal.returns-in-Err-clause-imports
returns-in-Err-clause-imports g c =
    let (done_rows, so) = c.loop-number.invariant in
    let (t, takes, is, front) =
    c.in-Err.ensures.steps (g.L.Read.remaining c.args.list) (spec.rows_of done_rows) so.read in
    broken_off c.args.key.now _ _ (g.F.Sources.history c.args.sources.now) _ (g.L.Read.remaining c.args.list) _ _ _
    done_rows _ _ _ t _
    (are_first g.L.Read.remaining (g.L.Read.remaining c.args.list) (done_rows ++ t ∷ []) c.import_next.new.reader
    (subst (λ rows. HasRead g.L.Read.remaining (g.L.Read.remaining c.args.list) rows c.import_next.new.reader)
    (rows_more done_rows t) takes.read))
    so.through takes.through so.printed so.count is front

pub returns-in-Ok-Over-clause-imports : goal.returns-in-Ok-Over-clause-imports
returns-in-Ok-Over-clause-imports g c =
    let (done_rows, so) = c.loop-number.invariant in
    let key = c.args.key.now in
    let list = g.L.Read.remaining c.args.list in
    let first = g.O.Write.contents c.args.output.now in
    let idle = rw c.in-Ok-Over.field-0-is at (c.in-Ok-Over.ensures.steps list (spec.rows_of done_rows) so.read) in
    let printed = subst (λ w. Appends first w (spec.lines_from 1 done_rows)) (sym idle.output) so.printed in
    closed key _ _ _ _ list first _ _ done_rows c.loop-number.number c.in-Ok-Over.closing c.loop-number.accepted
    c.close-in-Ok-Over.result
    (are_first g.L.Read.remaining list done_rows _ so.read)
    (through_idle key _ _ _ _ _ _ done_rows so.through idle.through)
    (inl (so.count, idle.closing)) so.accepted printed c.close-in-Ok-Over.ensures.closes

pub loop-number-preserved : goal.loop-number-preserved
loop-number-preserved g c =
    let (done_rows, so) = c.loop-number.invariant in
    let key = c.args.key.now in
    let list = g.L.Read.remaining c.args.list in
    let (t, takes, is, more) =
    rw c.in-Ok-Row.field-0-is at (c.in-Ok-Row.ensures.steps list (spec.rows_of done_rows) so.read) in (
      done_rows ++ t ∷ [],
      record {
        through = through_more key _ _ _ _ _ _ done_rows t so.through takes.through;
        read = subst (λ rows. HasRead g.L.Read.remaining list rows c.import_next.new.reader) (rows_more done_rows t)
            takes.read;
        printed = lines_more _ _ _ c.loop-number.number done_rows t so.count so.printed more;
        accepted = c.both-accepted.ensures ∙ ap (λ b. b && c.in-Ok-Row.accepts) so.accepted
            ∙ ap (λ b. list_all spec.is_accepted done_rows && b) is ∙ sym (all_more done_rows t);
        count = simp length-append (omega (arith, so.count));
        later = omega (arith, so.later, c.in-Ok-Row.ensures.fails);
        flushed = λ flushed. c.in-Ok-Row.ensures.flushed (so.flushed flushed);
      },
    )

pub returns-clause-imports : goal.returns-clause-imports
returns-clause-imports g c =
    let (done_rows, so) = c.loop-number.invariant in
    let n : ℕ = 18446744073709551615 in
    closed c.args.key.now _ _ _ _ (g.L.Read.remaining c.args.list) _ _ _ done_rows n
    ReadError c.loop-number.accepted c.close-2.result
    (are_first g.L.Read.remaining (g.L.Read.remaining c.args.list) done_rows _ so.read) so.through
    (inl (omega (arith, so.count), tt)) so.accepted so.printed c.close-2.ensures.closes

pub returns-in-Err-clause-fails : goal.returns-in-Err-clause-fails
returns-in-Err-clause-fails g c =
    let (done_rows, so) = c.loop-number.invariant in
    omega (arith, so.later, c.in-Err.ensures.fails)

pub returns-in-Ok-Over-clause-fails : goal.returns-in-Ok-Over-clause-fails
returns-in-Ok-Over-clause-fails g c =
    let (done_rows, so) = c.loop-number.invariant in
    fails_later (g.O.Tell.writes c.args.output.now).failed (g.O.Tell.writes c.import_next.new.output).failed
    (g.O.Tell.writes c.close-in-Ok-Over.new.output).failed
    c.close-in-Ok-Over.result (omega (arith, so.later, c.in-Ok-Over.ensures.fails)) c.close-in-Ok-Over.ensures.fails

pub returns-in-Ok-Over-clause-flushed : goal.returns-in-Ok-Over-clause-flushed
returns-in-Ok-Over-clause-flushed g c =
    let (done_rows, so) = c.loop-number.invariant in
    λ flushed. c.close-in-Ok-Over.ensures.flushed (c.in-Ok-Over.ensures.flushed (so.flushed flushed))

pub returns-clause-fails : goal.returns-clause-fails
returns-clause-fails g c =
    let (done_rows, so) = c.loop-number.invariant in
    fails_later (g.O.Tell.writes c.args.output.now).failed (g.O.Tell.writes c.loop-number.output).failed
    (g.O.Tell.writes c.close-2.new.output).failed
    c.close-2.result so.later c.close-2.ensures.fails

pub returns-clause-flushed : goal.returns-clause-flushed
returns-clause-flushed g c =
    let (done_rows, so) = c.loop-number.invariant in
    λ flushed. c.close-2.ensures.flushed (so.flushed flushed)
