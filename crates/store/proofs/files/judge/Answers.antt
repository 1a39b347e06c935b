use Rattle.std.proofs.Common.{◌≡◌, false, ap₂, subst, subst₂, ◌∙◌, rules}
use Rattle.std.proofs.lemmas.Bool.{and_parts}
use Rattle.sqlite_wal.specs.PageSize.{bytes_of}
use Rattle.sqlite_wal.specs.Recovery.{Image}
use Rattle.sqlite_pool.specs.Opening.{IsBlankFile}
use Rattle.sqlite_pool.specs.Stored.{used_size}
use Rattle.store.specs.Restart.{IsOddByte}
use Rattle.store.proofs.files.judge.Goals as goal

pub returns-in-Ok-true-clause-bad : goal.returns-in-Ok-true-clause-bad
returns-in-Ok-true-clause-bad g c bad clean =
    let looked = c.is_log_of_nothing.ensures in
    let probed = c.probe_blank.ensures in
    let byte = (c.in-Ok-is_odd_byte.ensures.told (probed.db.clean (and_parts _ _ clean).1)).0 c.if-not-is_odd.false in
    let blank = (c.in-Ok-true.ensures.ok clean).0 c.in-Ok-true.field-0-test in
    let size : bytes_of c.unwrap.result ≡ 4096 = search rules in
    let same = ap₂ (λ a b. let i : Image = record { log = a; db = b } in i) looked.log.seen
    (c.is_odd_byte.ensures.same.seen ∙ looked.db.seen) in
    (subst IsOddByte looked.db.seen byte, subst₂ (λ n i. IsBlankFile (used_size n false) i) size same blank)
