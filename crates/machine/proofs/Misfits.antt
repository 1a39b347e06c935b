-- The answer to an entry that may not stand is that of the first check of the publish that fails.
use Rattle.std.proofs.Common.{◌≡◌, [], ◌∷◌, Bool, true, false, refl, ◌∙◌, sym, ap, Some}
use Rattle.std.specs.Prelude.{is_none, not, option_map}
use Rattle.std.proofs.lemmas.Bool.{true≢false}
use Rattle.modver.specs.Class.{class_of}
use Rattle.modver.specs.declared.version.Class.{Class}
use Rattle.modver.specs.declared.version.Class.TheVariants as class
use Rattle.world.specs.declared.entry.Entry.{Entry}
use Rattle.world.specs.declared.entry_test.Misfit.{Misfit}
use Rattle.world.specs.declared.entry_test.Misfit.TheVariants as misfit
use Rattle.world.specs.EntryTest.{is_small, own_misfit}
use Rattle.world.specs.Forms.{fits, suffix_of}
use Rattle.world.proofs.Orders.{text_self}
use Rattle.machine.specs.declared.request.GivenTime.TheVariants.{Malformed}
use Rattle.machine.specs.declared.request.Publish.{Publish}
use Rattle.machine.specs.declared.reply.Decision.TheVariants.{BadLength, TooLarge, Refused}
use Rattle.machine.specs.declared.reply.ContentRefusal.TheVariants as refusal
use Rattle.machine.specs.Machine.{first_failing, is_bad_time, is_other_time, is_too_large, entry_of, offered}
use Rattle.machine.specs.Machine.{version_checks, entry_checks, decision_of}
use Rattle.machine.proofs.Checks.{body_of}

-- an entry whose given time is malformed has the time of its version, or none
malformed_passes : (c : Class) → is_other_time c Malformed ≡ false
malformed_passes (class.Pseudo stamp) = ap not (text_self stamp)
malformed_passes class.Release = refl
malformed_passes class.Pre = refl

-- if a malformed given time never fails the check of the entry's time, the first check of the entry that fails decides
-- the answer
first_decision : (a b t c : Bool) (m : Misfit) → (t ≡ true → c ≡ false)
    → first_failing ((a, misfit.TooLarge) ∷ (b, misfit.Version) ∷ (c, misfit.Time) ∷ []) ≡ Some m
    → Some (decision_of m) ≡ first_failing
    ((a, TooLarge) ∷ (b, Refused refusal.MajorMismatch) ∷ (t, Refused refusal.BadTime)
    ∷ (c, Refused refusal.TimeMismatch) ∷ [])
first_decision true b t c m apart e = sym (ap (option_map decision_of) e)
first_decision false true t c m apart e = sym (ap (option_map decision_of) e)
first_decision false false true true m apart e = absurd (true≢false (apart refl))
first_decision false false true false m apart e = cc
first_decision false false false true m apart e = sym (ap (option_map decision_of) e)
first_decision false false false false m apart e = cc

pub refused_entry : (p : Publish) (e : Entry) (m : Misfit) → offered p ≡ Some e
    → (is_bad_time p.time ≡ true → p.time ≡ Malformed) → own_misfit p.path p.version e ≡ Some m
    → Some (decision_of m) ≡ first_failing (entry_checks p)
refused_entry p e m is malformed fails =
    let c = class_of p.version in
    let it = body_of p p.body e is in
    first_decision (not (is_small (entry_of p it.0))) (not (fits (suffix_of p.path) p.version)) (is_bad_time p.time)
    (is_other_time c p.time) m
    (λ bad. ap (is_other_time c) (malformed bad) ∙ malformed_passes c) (ap (own_misfit p.path p.version) it.2 ∙ fails)
    ∙ sym (ap (λ o. first_failing
    ((is_none o, BadLength) ∷ (is_too_large (option_map (entry_of p) o), TooLarge) ∷ version_checks p)) it.1)
