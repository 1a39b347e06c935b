use Rattle.std.proofs.Common.{◌++◌, codes}
use Rattle.modver.specs.SemanticVersion.{version_text}
use Rattle.catalog.proofs.Pushed.{after_one}
use Rattle.catalog.proofs.line.push_requirement.Goals as goal

pub returns : goal.returns
returns c =
    let path = c.args.requirement.now.path in
    let version = version_text c.args.requirement.now.version in
    let mark = codes "\",\"Version\":\"" in
    let end = codes "\"}" in
    let second = rw c.as_str.ensures.value at c.in_ok-push-2.ensures in
    let fourth = rw c.as_str-2.ensures.value at c.in_ok-push-4.ensures in
    after_one _ c.args.line.now.items (codes "{\"Path\":\"") (path ++ (mark ++ (version ++ end))) _ _
    c.in_ok-push.ensures
    (after_one _ c.push.new.line.items path (mark ++ (version ++ end)) _ _ second
    (after_one _ c.push-2.new.line.items mark (version ++ end) _ _ c.in_ok-push-3.ensures
    (after_one _ c.push-3.new.line.items version end _ _ fourth c.push-5.ensures)))
