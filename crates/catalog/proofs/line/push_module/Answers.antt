use Rattle.std.proofs.Common.{◌++◌, codes}
use Rattle.gomod.specs.Module.{go_version}
use Rattle.catalog.specs.Line.{maybe_member, requirements}
use Rattle.catalog.proofs.Pushed.{after_one}
use Rattle.catalog.proofs.line.push_module.Goals as goal

pub returns : goal.returns
returns c =
    let m = c.args.gomod.now in
    let version = maybe_member (codes "GoVersion") (go_version m) in
    let start = codes ",\"Require\":[" in
    let required = requirements m.required in
    let first = rw c.go_version.ensures at c.in_ok-push_go_version.ensures in
    let second = rw c.required.ensures at c.in_ok-push_requirements.ensures in
    after_one _ c.args.line.now.items version (start ++ (required ++ codes "]")) _ _ first
    (after_one _ c.push_go_version.new.line.items start (required ++ codes "]") _ _ c.in_ok-push.ensures
    (after_one _ c.push.new.line.items required (codes "]") _ _ second c.push-2.ensures))
