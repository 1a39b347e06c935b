use Rattle.std.proofs.Common.{◌++◌, ◌∙◌, ap, append_assoc}
use Rattle.catalog.specs.Line.{names, rest}
use Rattle.catalog.proofs.Adding.{adds_line}
use Rattle.catalog.specs.Sight.{without}
use Rattle.catalog.proofs.path.add_version.Goals as goal

pub returns : goal.returns
returns g c =
    let heading = c.in-Some.heading in
    let it = c.in-Some-2.outline in
    let name = names c.args.path.now c.args.version.now in
    let last = rest c.args.shelf.now c.args.marks heading it in
    let says = c.in_ok-push_rest.ensures ∙ ap (λ l. l ++ last) c.in_ok-push_names.ensures
    ∙ append_assoc c.args.lines.now.items name last in
    adds_line (λ w. without w c.args.news.now) c.args.shelf.now c.args.path.now c.args.version.now c.args.marks _ _ _
    c.in_ok-heading.ensures c.args.lines.now.items _ _ heading it _ c.in_ok-outline.ensures c.in-Some.is
    c.in-Some-2.is says
