use Rattle.std.proofs.Common.{◌≡◌, ◌∙◌, ◌++◌, ◌∷◌, [], true, false, ap, sym, subst}
use Rattle.std.specs.Prelude.{string_bytes}
use Rattle.std.specs.FinSet as set
use Rattle.statements.specs.Shelves.{added}
use Rattle.statements.proofs.ShelfListLemmas.{added_none, added_one, more_listed}
use Rattle.statements.proofs.shelf_list.ShelfList.with.Goals as goal

pub returns-then-contains : goal.returns-then-contains
returns-then-contains c =
    let there : set.contains c.self.inside.names c.args.shelf.name ≡ true =
    ap (set.contains c.self.inside.names) (sym c.as_str.ensures) ∙ (sym c.contains.ensures ∙ c.if-contains.true) in
    subst (λ l. l ≡ added l c.args.shelf) c.self.view_is
    (added_none c.self.inside.shelves.items c.args.shelf c.self.inside.names c.self.invariant.1 there)

pub invariant_of-self : goal.invariant_of-self
invariant_of-self c =
    let free : set.contains c.self.inside.names c.args.shelf.name ≡ false =
    ap (set.contains c.self.inside.names) (sym c.as_str.ensures) ∙ (sym c.contains.ensures ∙ c.if-contains.false) in
    more_listed c.self.inside.shelves.items c.push.new.self.items c.args.shelf c.self.inside.names c.insert.new.self
    (string_bytes c.in_ok-name.name) c.self.invariant free
    c.in_ok-push.ensures.items c.in_ok-insert.ensures.ok (c.in_ok-name.ensures.ok ∙ c.as_str-2.ensures)

pub returns : goal.returns
returns c =
    let free : set.contains c.self.inside.names c.args.shelf.name ≡ false =
    ap (set.contains c.self.inside.names) (sym c.as_str.ensures) ∙ (sym c.contains.ensures ∙ c.if-contains.false) in
    c.in_ok-push.ensures.items ∙ subst
    (λ l. c.self.inside.shelves.items ++ c.args.shelf ∷ [] ≡ added l c.args.shelf) c.self.view_is
    (added_one c.self.inside.shelves.items c.args.shelf c.self.inside.names c.self.invariant.1 free)
