use Rattle.std.proofs.Common.{◌≡◌, ◌∙◌, ◌∷◌, ◌+◌, Some, Ok, Err, ap, arith, drop, refl, subst, sym}
use Rattle.std.proofs.lemmas.List.{at_drop_more, drop_all}
use Rattle.std.proofs.lemmas.Option.{slice_get-get_or}
use Rattle.std.specs.Prelude.{slice_get}
use Rattle.interleave.proofs.MeanwhileLemmas.{as_it_was}
use Rattle.catalog.specs.Catalog.{line_at, lines_by, marks_of}
use Rattle.catalog.specs.Meanwhile.{HaltsOrLacks, HaltsOrUnseen, PrintsOn, past}
use Rattle.catalog.proofs.Blank.{or_lacks}
use Rattle.catalog.proofs.TurnLemmas.{fails_later, on_end, on_failed, on_first, on_next}
use Rattle.catalog.proofs.walk.print_versions.Goals as goal

pub loop-version-init : goal.loop-version-init
loop-version-init g c =
    let s = c.args.shelf.now in
    let p = c.args.path.now in
    let vs = c.args.versions.now in
    let latest = c.args.account.now.latest in
    record {
      index = refl;
      streams = λ m flags. on_first (λ w v. line_at w s p v (marks_of m latest v)) (λ w. lines_by w s p m latest vs)
          (λ w. vs) _ _ vs (λ w. refl) (λ w. refl);
      went = g.met.T.Turns.rests _ _ _ (as_it_was _);
      later = omega arith;
    }

pub loop-version-preserved : goal.loop-version-preserved
loop-version-preserved g c =
    let s = c.args.shelf.now in
    let p = c.args.path.now in
    let vs = c.args.versions.now in
    let latest = c.args.account.now.latest in
    let at = c.loop-version.version-index in
    let item = c.version-item.result in
    let lt = c.loop-version-test.true in
    let here : slice_get vs c.loop-version.index ≡ Some item =
    ap (slice_get vs) c.loop-version.invariant.index ∙ slice_get-get_or vs at item lt
    ∙ ap Some (sym c.version-item.is) in
    let begins : drop at vs ≡ item ∷ drop (at + 1) vs =
    at_drop_more (λ rest. rest) vs at item lt ∙ ap (λ v. v ∷ drop (at + 1) vs) (sym c.version-item.is) in
    record {
      index = ap (λ n. n + 1) c.loop-version.invariant.index;
      streams = λ m flags.
          on_next (λ w v. line_at w s p v (marks_of m latest v)) (λ w. lines_by w s p m latest vs) (λ w. vs) _ _ _ _ _ _
          item (drop at vs) (drop (at + 1) vs) begins (c.loop-version.invariant.streams m flags)
          (HaltsOrUnseen g.T.Turns.halts s p item) (λ y z none. none)
          (subst (λ k. PrintsOn {T = Unit {0}} (past (g.S.Shelves.shown c.loop-version.shelves) c.loop-version.news s)
          (past (g.S.Shelves.shown c.print_version.new.shelves) c.print_version.new.news s)
          (g.O.Write.contents c.loop-version.output) (g.O.Write.contents c.print_version.new.output)
          (Ok tt) (λ w. line_at w s p item k) (HaltsOrUnseen g.T.Turns.halts s p item))
          (c.marks-marks.ensures m vs flags here) c.in_ok-print_version.ensures.prints);
      went = g.met.T.Turns.goes_on _ _ _ _ _ _ c.loop-version.invariant.went c.in_ok-print_version.ensures.went;
      later = omega (arith, c.loop-version.invariant.later, c.in_ok-print_version.ensures.fails.no_fewer);
    }

pub returns-in_err-print_version-clause-prints : goal.returns-in_err-print_version-clause-prints
returns-in_err-print_version-clause-prints g c = λ m flags.
    let s = c.args.shelf.now in
    let p = c.args.path.now in
    let vs = c.args.versions.now in
    let latest = c.args.account.now.latest in
    let at = c.loop-version.version-index in
    let item = c.version-item.result in
    let lt = c.loop-version-test.true in
    let here : slice_get vs c.loop-version.index ≡ Some item =
    ap (slice_get vs) c.loop-version.invariant.index ∙ slice_get-get_or vs at item lt
    ∙ ap Some (sym c.version-item.is) in
    let begins : drop at vs ≡ item ∷ drop (at + 1) vs =
    at_drop_more (λ rest. rest) vs at item lt ∙ ap (λ v. v ∷ drop (at + 1) vs) (sym c.version-item.is) in
    on_failed (λ w v. line_at w s p v (marks_of m latest v)) (λ w. lines_by w s p m latest vs) (λ w. vs) _ _ _ _ _ _
    item (drop at vs) (drop (at + 1) vs) begins (c.loop-version.invariant.streams m flags)
    (HaltsOrUnseen g.T.Turns.halts s p item)
    c.in_err-print_version.field-0.0 c.from_residual.result c.from_residual.ensures.1
    (HaltsOrLacks g.T.Turns.halts s p vs) (λ w stands here. or_lacks g.T.Turns.halts w s p vs item here)
    (subst (λ k. PrintsOn {T = Unit {0}} (past (g.S.Shelves.shown c.loop-version.shelves) c.loop-version.news s)
    (past (g.S.Shelves.shown c.print_version.new.shelves) c.print_version.new.news s)
    (g.O.Write.contents c.loop-version.output) (g.O.Write.contents c.print_version.new.output)
    (Err c.in_err-print_version.field-0.0) (λ w. line_at w s p item k) (HaltsOrUnseen g.T.Turns.halts s p item))
    (c.marks-marks.ensures m vs flags here) c.in_err-print_version.ensures.prints)

pub returns-in_err-print_version-clause-went : goal.returns-in_err-print_version-clause-went
returns-in_err-print_version-clause-went g c =
    g.met.T.Turns.goes_on _ _ _ _ _ _ c.loop-version.invariant.went c.in_err-print_version.ensures.went

pub returns-in_err-print_version-clause-fails : goal.returns-in_err-print_version-clause-fails
returns-in_err-print_version-clause-fails g c =
    fails_later _ _ _ c.in_err-print_version.field-0.0 c.from_residual.result c.from_residual.ensures.1
    c.loop-version.invariant.later c.in_err-print_version.ensures.fails

pub returns-clause-prints : goal.returns-clause-prints
returns-clause-prints g c = λ m flags.
    let s = c.args.shelf.now in
    let p = c.args.path.now in
    let vs = c.args.versions.now in
    let latest = c.args.account.now.latest in
    on_end (λ w v. line_at w s p v (marks_of m latest v)) (λ w. lines_by w s p m latest vs) (λ w. vs) _ _ _ _
    (HaltsOrLacks g.T.Turns.halts s p vs) (drop c.loop-version.version-index vs)
    (drop_all c.loop-version.version-index vs c.loop-version-test.false)
    (c.loop-version.invariant.streams m flags)
