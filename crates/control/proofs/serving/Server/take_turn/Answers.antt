use Rattle.std.proofs.Common.{◌≡◌, rules, subst, sym, ◌∙◌, false}
use Rattle.world.specs.World.{World}
use Rattle.interleave.specs.Interleave.{Notes}
use Rattle.interleave.specs.Noted.{IsNoted}
use Rattle.control.proofs.UnnotedLemmas.{newcomers_noted, noted_first, serves_unnoted}
use Rattle.control.proofs.serving.Server.take_turn.Goals as goal

pub returns-clause-serves : goal.returns-clause-serves
returns-clause-serves g c =
    let shown = g.S.Shelves.shown in
    let m = g.M.Moment in
    let first = c.new-noting.result in
    let begun : first.inner.now ≡ c.args.shelves.now = c.new-noting.ensures.value in
    let ends : c.serve_watched-lent.result.now ≡ c.noting-2-1.given.0 = search rules in
    let all : (w : World) → (shown first.inner.now).stands w → IsNoted first.lost m.was m.before first.news w =
    λ w stands. noted_first m.was m.before first.news first.lost
    (c.requires.before ∙ sym (c.new-noting.ensures.news ∙ c.replace-before.ensures.value)) w
    (c.requires.was w (subst (λ s. (shown s).stands w) begun stands)) in
    rw begun at (rw ends at
    (serves_unnoted shown g.K.Copies.made g.K.Copies.counted (λ n. n.inner.now)
    (λ n. IsNoted n.lost m.was m.before n.news) _ _ _ _ _ _ _ _ _ _ _ _ _ first c.serve_watched-lent.result.now all
    c.serve_watched-lent.ensures.serves))

pub returns-clause-newcomers : goal.returns-clause-newcomers
returns-clause-newcomers g c =
    let shown = g.S.Shelves.shown in
    let m = g.M.Moment in
    let first = c.new-noting.result in
    let begun : first.inner.now ≡ c.args.shelves.now = c.new-noting.ensures.value in
    let ends : c.serve_watched-lent.result.now ≡ c.noting-2-1.given.0 = search rules in
    let last = c.serve_watched-lent.result.now in
    let all : (w : World) → (shown first.inner.now).stands w → IsNoted first.lost m.was m.before first.news w =
    λ w stands. noted_first m.was m.before first.news first.lost
    (c.requires.before ∙ sym (c.new-noting.ensures.news ∙ c.replace-before.ensures.value)) w
    (c.requires.was w (subst (λ s. (shown s).stands w) begun stands)) in
    let noted : last.lost ≡ false → Notes (shown c.args.shelves.now) (shown last.inner.now) c.args.news.now last.news =
    subst (λ s. last.lost ≡ false → Notes (shown s) (shown last.inner.now) c.args.news.now last.news) begun
    (newcomers_noted (shown first.inner.now) (shown last.inner.now) (IsNoted first.lost m.was m.before first.news) m.was
    c.args.news.now m.before last.news last.lost _ _ all
    (λ w was. subst (λ s. (shown s).stands w) (sym begun) (c.requires.stood w was)) c.requires.before
    c.serve_watched-lent.ensures.serves.through) in
    subst (λ n. n.lost ≡ false → Notes (shown c.args.shelves.now) (shown n.inner.now) c.args.news.now n.news) ends noted
