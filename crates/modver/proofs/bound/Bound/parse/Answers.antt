use Rattle.std.proofs.Common.{◌≡◌, ◌∷◌, ◌⊎◌, ◌≤◌, length, Ok, Err, refl, subst, sym, inl, inr, arith, List, ℕ, lit<}
use Rattle.std.proofs.lemmas.Str.Pattern.{strip_prefix_char}
use Rattle.modver.proofs.KeyParts.{pre-short}
use Rattle.modver.proofs.SemVerText.{IsSemVer-of, no_front, no_mark, refused, version_text-of}
use Rattle.modver.specs.Reading.{IsCanonical, IsFault, IsHeld}
use Rattle.modver.specs.declared.version.VersionFault.{VersionFault}
use Rattle.modver.specs.declared.version.VersionFault.TheVariants as fault
use Rattle.semver.specs.Parse.{IsRefused, Parts, memory_error, version_parts}
use Rattle.std.specs.Prelude.{Result}
use Rattle.modver.proofs.Refusals.{BlamesText, text-to-blame}
use Rattle.semver.specs.declared.error.Error.{Error}
use Rattle.modver.specs.Parts.{version_of_parts}
use Rattle.semver.specs.Identifiers.{parts_of}
use Rattle.modver.proofs.bound.Bound.parse.Goals as goal

pub returns-in_default-clause-err : goal.returns-in_default-clause-err
returns-in_default-clause-err c =
    let none = rw c.in_default.is at (strip_prefix_char 118 c.args.text.now c.strip_prefix.result
    c.strip_prefix.ensures.cases (lit< tt)) in
    inl (omega arith, no_front c.args.text.now none)

-- what an error of semver is answered by
answered : (T : Type 0) (text rest : List ℕ) (error : Error) (f : VersionFault) → length text ≤ 128 → text ≡ 118 ∷ rest
    → (parts : Result Parts Error) → version_parts rest ≡ parts → IsRefused {T = T} parts (Err error)
    → BlamesText parts → (error ≡ memory_error) ⊎ (parts ≡ Err error)
    → ((f ≡ fault.Memory) × (error ≡ memory_error)) ⊎ ((f ≡ fault.Form) × (error ≡ memory_error → ⊥))
    → IsFault text f ⊎ ((f ≡ fault.Memory) × IsHeld text)
answered T text rest error f short front (Ok p) read same blames cause (inl memory) =
    inr (memory.0, (short, (version_of_parts p, p.4, IsSemVer-of text rest p front read)))
answered T text rest error f short front (Ok p) read same blames (inl memory) (inr form) = absurd (form.1 memory)
answered T text rest error f short front (Ok p) read same blames (inr bad) (inr form) = cc bad
answered T text rest error f short front (Err e) read same blames cause (inl memory) =
    absurd (blames (cc (same, memory.1)))
answered T text rest error f short front (Err e) read same blames cause (inr form) =
    inl (rw form.0 (short, refused text rest e front read))

pub returns-in-Err-clause-err : goal.returns-in-Err-clause-err
returns-in-Err-clause-err c =
    let front = rw c.in-Some.is at (strip_prefix_char 118 c.args.text.now c.strip_prefix.result
    c.strip_prefix.ensures.cases (lit< tt)) in
    answered _ c.args.text.now c.in-Some.rest.now c.in-Err.error c.fault_of.result (omega arith) front
    (version_parts c.in-Some.rest.now) refl c.in-Err.ensures.refused (text-to-blame c.in-Some.rest.now)
    c.in-Err.ensures.err c.fault_of.ensures

pub returns-else-is_mark-clause-err : goal.returns-else-is_mark-clause-err
returns-else-is_mark-clause-err c =
    let front = rw c.in-Some.is at (strip_prefix_char 118 c.args.text.now c.strip_prefix.result
    c.strip_prefix.ensures.cases (lit< tt)) in
    let p = parts_of c.in-Ok.parts in
    let mark = sym (rw c.as_str.ensures at c.if-is_mark.ensures) in
    let n = no_mark p.4 mark in
    inl (
      omega arith,
      (
        version_of_parts p,
        p.4,
        IsSemVer-of c.args.text.now c.in-Some.rest.now p front c.in-Ok.ensures.ok,
        n.0,
        n.1,
      ),
    )

pub of-requires-clause-valid : goal.of-requires-clause-valid
of-requires-clause-valid c =
    let front = rw c.in-Some.is at (strip_prefix_char 118 c.args.text.now c.strip_prefix.result
    c.strip_prefix.ensures.cases (lit< tt)) in
    (IsSemVer-of c.args.text.now c.in-Some.rest.now (parts_of c.in-Ok.parts) front c.in-Ok.ensures.ok).valid

pub of-requires-clause-short : goal.of-requires-clause-short
of-requires-clause-short c =
    let front = rw c.in-Some.is at (strip_prefix_char 118 c.args.text.now c.strip_prefix.result
    c.strip_prefix.ensures.cases (lit< tt)) in
    let p = parts_of c.in-Ok.parts in
    let s = IsSemVer-of c.args.text.now c.in-Some.rest.now p front c.in-Ok.ensures.ok in
    pre-short p.0 p.1 p.2 p.3 p.4 c.args.text.now 128 (sym s.same) (omega arith)

pub returns-in-Ok-of-clause-ok : goal.returns-in-Ok-of-clause-ok
returns-in-Ok-of-clause-ok c =
    let front = rw c.in-Some.is at (strip_prefix_char 118 c.args.text.now c.strip_prefix.result
    c.strip_prefix.ensures.cases (lit< tt)) in
    let mark = sym (rw c.as_str.ensures at c.if-is_mark.ensures) in
    let v = IsSemVer-of c.args.text.now c.in-Some.rest.now (parts_of c.in-Ok.parts) front c.in-Ok.ensures.ok in
    let same = version_text-of c.args.text.now c.in-Some.rest.now (parts_of c.in-Ok.parts) front c.in-Ok.ensures.ok
    mark in
    let canonical : IsCanonical c.args.text.now (version_of_parts (parts_of c.in-Ok.parts)) =
    record { valid = v.valid; same = same; short = omega arith } in
    subst (IsCanonical c.args.text.now) (sym c.in-Ok-of.ensures) canonical

pub returns-in-Err-of-clause-err : goal.returns-in-Err-of-clause-err
returns-in-Err-of-clause-err c =
    let front = rw c.in-Some.is at (strip_prefix_char 118 c.args.text.now c.strip_prefix.result
    c.strip_prefix.ensures.cases (lit< tt)) in
    let p = parts_of c.in-Ok.parts in
    inr (
      refl,
      (
        omega arith,
        (version_of_parts p, p.4, IsSemVer-of c.args.text.now c.in-Some.rest.now p front c.in-Ok.ensures.ok),
      ),
    )
