use Rattle.std.proofs.Common.{◌≡◌, ◌∙◌, ap, sym, arith, length, not, false, refl}
use Rattle.std.proofs.lemmas.Bool.Decides.{nat_tests}
use Rattle.semver.specs.Identifiers.{build_text, parts_of, pre_text}
use Rattle.modver.specs.Parts.{is_marked, version_of_parts}
use Rattle.modver.proofs.Ends.{bound-valid, bound-version, built-ends, release-ends}
use Rattle.modver.proofs.bound.Bound.of.Goals as goal

-- a release without the mark

pub returns-then-not-marked : goal.returns-then-not-marked
returns-then-not-marked c =
    let size : length (pre_text c.args.parts.pre) ≡ 0 = grind (arith, nat_tests) in
    let mark : false ≡ is_marked (build_text c.args.parts.build) =
    ap not (sym c.if-not-marked.true ∙ c.is_empty-marked.ensures) in
    let ends = release-ends (pre_text c.args.parts.pre) size in
    bound-version _ (version_of_parts (parts_of c.args.parts)) c.requires.valid refl refl refl ends mark

pub invariant_of-result : goal.invariant_of-result
invariant_of-result c =
    let size : length (pre_text c.args.parts.pre) ≡ 0 = grind (arith, nat_tests) in
    let mark : false ≡ is_marked (build_text c.args.parts.build) =
    ap not (sym c.if-not-marked.true ∙ c.is_empty-marked.ensures) in
    let ends = release-ends (pre_text c.args.parts.pre) size in
    bound-valid _ (version_of_parts (parts_of c.args.parts)) c.requires.valid ends
    (bound-version _ (version_of_parts (parts_of c.args.parts)) c.requires.valid refl refl refl ends mark)

-- any other version

pub invariant_of-result-2 : goal.invariant_of-result-2
invariant_of-result-2 c =
    let ends =
    built-ends c.head_of-head.result c.in_ok-tail.tail (pre_text c.args.parts.pre) _ _ _ _
    (c.as_bytes.ensures.value ∙ c.as_str-2.ensures) c.in_ok-key.ensures.items c.in_ok-push_pre_release.ensures
    c.as_slice.ensures.value c.head_of-head.ensures.value c.head_of-head.ensures.bytes c.in_ok-tail.ensures.key in
    let mark = c.in_ok-tail.ensures.mark ∙ ap not c.is_empty-marked.ensures in
    bound-valid _ (version_of_parts (parts_of c.args.parts)) c.requires.valid ends
    (bound-version _ (version_of_parts (parts_of c.args.parts)) c.requires.valid refl refl refl ends mark)

pub returns : goal.returns
returns c =
    let ends =
    built-ends c.head_of-head.result c.in_ok-tail.tail (pre_text c.args.parts.pre) _ _ _ _
    (c.as_bytes.ensures.value ∙ c.as_str-2.ensures) c.in_ok-key.ensures.items c.in_ok-push_pre_release.ensures
    c.as_slice.ensures.value c.head_of-head.ensures.value c.head_of-head.ensures.bytes c.in_ok-tail.ensures.key in
    let mark = c.in_ok-tail.ensures.mark ∙ ap not c.is_empty-marked.ensures in
    bound-version _ (version_of_parts (parts_of c.args.parts)) c.requires.valid refl refl refl ends mark
