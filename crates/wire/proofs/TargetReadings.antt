-- The computed reading of a message is what the message asks for.
use Rattle.std.proofs.Common.{◌≡◌, ℕ, List, [], ◌∷◌, ◌++◌, bytes_eq, codes, Option, Some, None, Ok, Err, IfOk, Result}
use Rattle.std.proofs.Common.{refl, sym, ◌∙◌, subst, inl, inr}
use Rattle.std.proofs.lemmas.Bool.{cases_Bool, false_from_ne_true}
use Rattle.std.proofs.lemmas.Str.{IsUtf8-from_is_utf8, is_utf8-from_IsUtf8}
use Rattle.std.specs.Str.{IsUtf8, is_utf8}
use Rattle.percent_encoding.specs.Percent.{percent_decode}
use Rattle.modpath.specs.Escape.{escaped}
use Rattle.modver.specs.SemanticVersion.{version_text}
use Rattle.wire.specs.ModuleVersion.{module_version_of}
use Rattle.wire.specs.Resource.{resource_in}
use Rattle.wire.specs.Route.{area_of, routed_of}
use Rattle.wire.specs.Target.{Asks, IsKeyed, ReadsTarget, asked_or, get_of, module_version_in, put_of, target_of}
use Rattle.wire.specs.declared.routes.Area.{Area}
use Rattle.wire.specs.declared.routes.Area.TheVariants as area
use Rattle.framing.specs.declared.message.Memory.{Memory}
use Rattle.wire.specs.declared.module_version.ModuleVersion.{ModuleVersion}
use Rattle.wire.specs.declared.resource.Resource.{Resource}
use Rattle.wire.specs.declared.resource.Target.{Target}
use Rattle.wire.specs.declared.resource.Target.TheVariants as target
use Rattle.wire.proofs.ModuleVersionReadings.{module-version-is, module-version-taken}
use Rattle.wire.proofs.ResourceReadings.{path-area, resource-is, resource-taken, same-text}
use Rattle.wire.proofs.RouteReadings.{area-is, routed-is, routed-taken, split-utf8}
use Rattle.wire.proofs.TextTargets.{keyed-split, readable-text}

-- it asks for this, if this can be asked for
abbrev AsksAny : List ℕ → List ℕ → Target → Type 0
AsksAny method text target.Unreadable = Unit {0}
AsksAny method text (target.Get key asked) = Asks method text (target.Get key asked)
AsksAny method text (target.Put key path version) = Asks method text (target.Put key path version)

get-asks : (method text key behind rest : List ℕ) (a : Area) → method ≡ codes "GET" → IsKeyed text key behind
    → area_of behind ≡ Some (a, rest)
    → (found : Option Resource) → resource_in a rest ≡ found → AsksAny method text (get_of key found)
get-asks method text key behind rest a m keyed in_area None e = tt
get-asks method text key behind rest a m keyed in_area (Some asked) e =
    (m, (behind, keyed, resource-is behind rest a asked in_area e))

put-asks : (method text key behind rest : List ℕ) (a : Area) → method ≡ codes "PUT" → IsKeyed text key behind
    → area_of behind ≡ Some (a, rest)
    → (found : Option ModuleVersion) → module_version_in a rest ≡ found → AsksAny method text (put_of key found)
put-asks method text key behind rest a m keyed in_area None e = tt
put-asks method text key behind rest area.Shelf m keyed in_area (Some found) e = cc e
put-asks method text key behind rest area.Path m keyed in_area (Some found) e =
    let same = area-is behind rest area.Path in_area in (
      m,
      (
        behind,
        keyed,
        module-version-is (percent_decode behind) found
            (subst (λ (l : List ℕ). module_version_of (percent_decode l) ≡ Some found) (sym same) e),
      ),
    )

-- what is computed by the route of a target is what the message asks for, unless it is unreadable
route-asks : (method text : List ℕ) → IsUtf8 text → (found : Option (Area × List ℕ × List ℕ)) → routed_of text ≡ found
    → AsksAny method text (asked_or method found)
route-asks method text utf8 None e = tt
route-asks method text utf8 (Some (a, key, rest)) e =
    let is = routed-is text key rest a e in
    let split = is.1 in
    let keyed : IsKeyed text key is.0 =
    record {
      whole = split.whole;
      some = split.some;
      no_slash = split.no_slash;
      is_text =
          (split-utf8 text key is.0 split utf8).0;
    } in
    elim (cases_Bool (bytes_eq method (codes "GET"))) [
      | inl get ↦ rw get (get-asks method text key is.0 rest a (same-text method (codes "GET") get) keyed is.2
          (resource_in a rest) refl)
      | inr other ↦ elim (cases_Bool (bytes_eq method (codes "PUT"))) [
        | inl put ↦ rw (other, put)
            (put-asks method text key is.0 rest a (same-text method (codes "PUT") put) keyed is.2
            (module_version_in a rest) refl)
        | inr neither ↦ rw (other, neither) tt
      ]
    ]

target-asks : (method text : List ℕ) → AsksAny method text (target_of method text)
unfolding target_of
target-asks method text = elim (cases_Bool (is_utf8 text)) [
  | inl utf8 ↦ rw utf8 (route-asks method text (IsUtf8-from_is_utf8 text utf8) (routed_of text) refl)
  | inr other ↦ rw other tt
]

-- what a message asks for is its computed reading
pub target-taken : (method text : List ℕ) (asked : Target) → Asks method text asked → target_of method text ≡ asked
unfolding target_of
target-taken method text target.Unreadable a = absurd a
target-taken method text (target.Get key asked) a =
    let utf8 = is_utf8-from_IsUtf8 text (readable-text method text (target.Get key asked) a).0 in
    let taken = resource-taken a.1.0 asked a.1.2 in
    let routed = routed-taken text key a.1.0 (taken.where_is, taken.behind) (keyed-split text key a.1.0 a.1.1)
    taken.found in
    rw (a.0, utf8, routed, taken.taken) refl
target-taken method text (target.Put key path version) a =
    let utf8 = is_utf8-from_IsUtf8 text (readable-text method text (target.Put key path version) a).0 in
    let rest = a.1.0 in
    let named = a.1.2 in
    let in_area = path-area rest path (64 ∷ (codes "v/" ++ (escaped (version_text version) ++ []))) named.whole
    named.path_is in
    let routed = routed-taken text key rest (area.Path, rest) (keyed-split text key rest a.1.1) in_area in
    rw (a.0, utf8, routed, module-version-taken (percent_decode rest) path version named) refl

unreadable : (method text : List ℕ) (asked : Target) → target_of method text ≡ target.Unreadable
    → ¬ (Asks method text asked)
unreadable method text asked e a = subst (Asks method text) (sym (target-taken method text asked a) ∙ e) a

reads-by : (method text : List ℕ) (asked : Target) → target_of method text ≡ asked → AsksAny method text asked
    → ReadsTarget method text asked
reads-by method text target.Unreadable e a = λ asked. unreadable method text asked e
reads-by method text (target.Get key asked) e a = a
reads-by method text (target.Put key path version) e a = a

pub target-reads : (method text : List ℕ) → ReadsTarget method text (target_of method text)
target-reads method text = reads-by method text (target_of method text) refl (target-asks method text)

-- what a message reads as is what is computed of it
pub target-only : (method text : List ℕ) (asked : Target) → ReadsTarget method text asked
    → target_of method text ≡ asked
target-only method text (target.Get key asked) r = target-taken method text (target.Get key asked) r
target-only method text (target.Put key path version) r = target-taken method text (target.Put key path version) r
target-only method text target.Unreadable r = only-unreadable (target_of method text) (target-asks method text)
  where
    only-unreadable : (found : Target) → AsksAny method text found → found ≡ target.Unreadable
    only-unreadable target.Unreadable a = refl
    only-unreadable (target.Get key asked) a = absurd (r (target.Get key asked) a)
    only-unreadable (target.Put key path version) a = absurd (r (target.Put key path version) a)

pub one-reading : (method text : List ℕ) (a b : Target) → ReadsTarget method text a → ReadsTarget method text b → a ≡ b
one-reading method text a b r s = sym (target-only method text a r) ∙ target-only method text b s

-- what equals the computed target
pub reads-if_ok : (method text : List ℕ) (found : Result Target Memory)
    → IfOk found (λ asked. asked ≡ target_of method text)
    → IfOk found (ReadsTarget method text)
reads-if_ok method text (Ok asked) e = subst (ReadsTarget method text) (sym e) (target-reads method text)
reads-if_ok method text (Err memory) e = tt

-- ---- targets that are text, and others

pub of-text : (method text : List ℕ) → IsUtf8 text → target_of method text ≡ asked_or method (routed_of text)
unfolding target_of
of-text method text utf8 = rw (is_utf8-from_IsUtf8 text utf8) refl

pub of-no-text : (method text : List ℕ) → ¬ (IsUtf8 text) → target_of method text ≡ target.Unreadable
unfolding target_of
of-no-text method text none = rw (false_from_ne_true (is_utf8 text) (λ e. none (IsUtf8-from_is_utf8 text e))) refl
