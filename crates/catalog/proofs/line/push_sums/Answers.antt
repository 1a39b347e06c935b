use Rattle.std.proofs.Common.{◌++◌, codes, decimal}
use Rattle.gosum.specs.Sum.{hash_of}
use Rattle.catalog.specs.Line.{text_member}
use Rattle.catalog.proofs.Pushed.{after_one}
use Rattle.catalog.proofs.line.push_sums.Goals as goal

pub returns : goal.returns
returns c =
    let shelf = text_member (codes "Shelf") c.args.owner.now in
    let hash = text_member (codes "GoModSum") (hash_of c.args.gomod.now) in
    let size = codes ",\"ZipSize\":" ++ (decimal c.args.zip_bytes ++ codes "}\n") in
    after_one _ c.args.line.now.items shelf (hash ++ size) _ _ c.in_ok-push_text.ensures
    (after_one _ c.push_text.new.line.items hash size _ _ c.in_ok-push_hash.ensures c.push_length.ensures)
