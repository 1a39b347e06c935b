use Rattle.std.proofs.Common.{◌++◌, codes}
use Rattle.modver.specs.SemanticVersion.{version_text}
use Rattle.catalog.specs.Line.{text_member}
use Rattle.catalog.proofs.Pushed.{after_one}
use Rattle.catalog.proofs.line.push_names.Goals as goal

pub returns : goal.returns
returns c =
    let path = c.args.path.now in
    let quote = codes "\"" in
    let version = text_member (codes "Version") (version_text c.args.version.now) in
    let second = rw c.as_str.ensures.value at c.in_ok-push-2.ensures in
    let last = rw c.as_str-2.ensures.value at c.push_text.ensures in
    after_one _ c.args.line.now.items (codes "{\"Path\":\"") (path ++ (quote ++ version)) _ _ c.in_ok-push.ensures
    (after_one _ c.push.new.line.items path (quote ++ version) _ _ second
    (after_one _ c.push-2.new.line.items quote version _ _ c.in_ok-push-3.ensures last))
