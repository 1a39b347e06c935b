use Rattle.std.proofs.Common.{◌==◌, ◌-◌, length, take, drop, refl, rules, tests}
use Rattle.std.proofs.lemmas.Iterator.{YieldsList-from_slice}
use Rattle.std.proofs.lemmas.Iterator.Search.{position_from_yields_List}
use Rattle.modver.proofs.PreReleaseText.{after-hyphen, text-long}
use Rattle.modver.proofs.version.Version.pre_release.Goals as goal

pub slice_bounds-rest-count : goal.slice_bounds-rest-count
slice_bounds-rest-count c =
    text-long c.args.self.now c.unmarked_text-text.result.now c.unmarked_text-text.ensures.valid
    c.unmarked_text-text.ensures.value

pub slice_bounds-rest-start : goal.slice_bounds-rest-start
slice_bounds-rest-start c =
    text-long c.args.self.now c.unmarked_text-text.result.now c.unmarked_text-text.ensures.valid
    c.unmarked_text-text.ensures.value

pub returns-in-Some-clause-identifiers : goal.returns-in-Some-clause-identifiers
returns-in-Some-clause-identifiers c =
    let text = c.unmarked_text-text.result.now in
    let rest = take (length text - 6) (drop 6 text) in
    let p = position_from_yields_List (λ b. b == 45) _ _ c.position.result c.position.ensures.ran
    (YieldsList-from_slice rest cc) (λ x b q k. search (rules, tests)) in
    let behind = after-hyphen c.args.self.now text rest c.position.result c.unmarked_text-text.ensures.valid
    c.unmarked_text-text.ensures.value refl p in
    rw c.in-Some.is at behind

pub returns-in-None-clause-identifiers : goal.returns-in-None-clause-identifiers
returns-in-None-clause-identifiers c =
    let text = c.unmarked_text-text.result.now in
    let rest = take (length text - 6) (drop 6 text) in
    let p = position_from_yields_List (λ b. b == 45) _ _ c.position.result c.position.ensures.ran
    (YieldsList-from_slice rest cc) (λ x b q k. search (rules, tests)) in
    let behind = after-hyphen c.args.self.now text rest c.position.result c.unmarked_text-text.ensures.valid
    c.unmarked_text-text.ensures.value refl p in
    rw c.as_slice.ensures (rw c.in-None.is at behind)
