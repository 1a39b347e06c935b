use Rattle.std.proofs.Common.{◌++◌, codes, decimal}
use Rattle.catalog.proofs.Pushed.{after_one}
use Rattle.catalog.proofs.line.push_length.Goals as goal

pub returns : goal.returns
returns c =
    let digits = decimal c.args.zip_bytes in
    let second = rw c.format.ensures.text at c.in_ok-push-2.ensures in
    after_one _ c.args.line.now.items (codes ",\"ZipSize\":") (digits ++ codes "}\n") _ _ c.in_ok-push.ensures
    (after_one _ c.push.new.line.items digits (codes "}\n") _ _ second c.push-3.ensures)
