use Rattle.std.proofs.Common.{◌<◌, length, arith}
use Rattle.std.proofs.lemmas.Bool.Decides.{nat_tests}
use Rattle.modver.specs.Class.{stamp_of}
use Rattle.modver.proofs.StampOrder.{class-pre, class-pseudo}
use Rattle.modver.proofs.pseudo.class.Goals as goal

pub returns-in-Some : goal.returns-in-Some
unfolding stamp_of
returns-in-Some c =
    let some : 0 < length c.pre_release-pre_release.result.now = grind (arith, nat_tests) in
    class-pseudo c.args.version.now c.pre_release-pre_release.result.now c.in-Some.time
    c.pre_release-pre_release.ensures.identifiers some
    (rw (c.minor.ensures, c.patch.ensures, c.pre_release-pre_release.ensures.identifiers) at c.in-Some.ensures)

pub returns-in-None : goal.returns-in-None
unfolding stamp_of
returns-in-None c =
    let some : 0 < length c.pre_release-pre_release.result.now = grind (arith, nat_tests) in
    class-pre c.args.version.now c.pre_release-pre_release.result.now c.pre_release-pre_release.ensures.identifiers some
    (rw (c.minor.ensures, c.patch.ensures, c.pre_release-pre_release.ensures.identifiers) at c.in-None.ensures)
