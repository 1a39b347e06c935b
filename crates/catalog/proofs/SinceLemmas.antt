-- What a world shows is what a later one shows without the newcomers.
use Rattle.std.proofs.Common.{◌≡◌, ℕ, List, [], ◌∷◌, Bool, true, false, cond, Option, Some, None, refl, sym, ap, ◌∙◌}
use Rattle.std.proofs.Common.{IfOk, Result, subst}
use Rattle.std.specs.Prelude.{is_some, not}
use Rattle.std.specs.FinMap as map
use Rattle.std.specs.FinSet as set
use Rattle.std.specs.Option.{option_or}
use Rattle.std.proofs.lemmas.Bool.{true≢false}
use Rattle.interleave.specs.Interleave.{IsSince}
use Rattle.modver.specs.SemanticVersion.{SemanticVersion, version_text}
use Rattle.world.proofs.Orders.{places_exact, places_total}
use Rattle.world.specs.Latest.{highest, highest_left, latest_by, latest_of, module_of}
use Rattle.world.specs.Lines.{in_order}
use Rattle.world.specs.Store.{Shown, Reads}
use Rattle.world.specs.Versions.{by_precedence, named, versions_of}
use Rattle.world.specs.Visible.{versions_among, versions_on}
use Rattle.world.specs.World.{World, above, chain, first_on, group_in, place, place_cmp, seen_at, view, without_zip}
use Rattle.world.specs.declared.entry.Entry.{Entry}
use Rattle.world.specs.declared.registry.StoreFault.{StoreFault}
use Rattle.catalog.specs.Catalog.{line_at, ruling, ruling_at, seen_line}
use Rattle.catalog.specs.Meanwhile.{past}
use Rattle.catalog.specs.Past.{without_at}
use Rattle.catalog.specs.Sight.{facts_of, without}
use Rattle.catalog.specs.declared.line.Marks.{Marks}

swapped : (b : Bool) (o : Option Entry) → cond b None o ≡ cond (not b) o None
swapped true o = refl
swapped false o = refl

module _ (w later : World) (news : set.FinSet place_cmp) (since : IsSince w later news) where
  abbrev old : World
  old = without later news

  entries_same : w.entries ≡ old.entries
  entries_same = map.same_map places_total places_exact _ _ (λ q. since.entries q
      ∙ swapped (set.contains news q) (map.get later.entries q) ∙ sym (without_at later news q))

  first_same : (p v : List ℕ) (ss : List (List ℕ)) → first_on w ss p v ≡ first_on old ss p v
  first_same p v [] = refl
  first_same p v (s ∷ ss) =
      λ i. option_or (seen_at (map.get (entries_same i) (place s p v)) s) (first_same p v ss i)

  texts_same : (p : List ℕ) (ss : List (List ℕ)) → versions_on w ss p ≡ versions_on old ss p
  texts_same p [] = refl
  texts_same p (s ∷ ss) =
      λ i. set.union (versions_among s p (map.entries (entries_same i))) (texts_same p ss i)

  module _ (s : List ℕ) (here : map.contains_key w.shelves s ≡ true) where
    parent_same : (o : Option (Option (List ℕ))) → map.get w.shelves s ≡ o → is_some o ≡ true
        → map.get w.shelves s ≡ map.get later.shelves s
    parent_same None is some = absurd (true≢false (sym some))
    parent_same (Some parent) is some = is ∙ sym (since.shelves s parent is)

    chain_same : chain w s ≡ chain later s
    chain_same = ap (λ o. s ∷ above (group_in o)) (parent_same (map.get w.shelves s) refl here)

    pub view_same : (p v : List ℕ) → view w s p v ≡ view old s p v
    view_same p v = first_same p v (chain w s) ∙ ap (λ ss. first_on old ss p v) chain_same

    versions_same : (p : List ℕ) → versions_of w s p ≡ versions_of old s p
    versions_same p = ap (λ texts. in_order (by_precedence (named (in_order texts))))
        (texts_same p (chain w s) ∙ ap (λ ss. versions_on old ss p) chain_same)

    ruled_same : (p : List ℕ) (top : Option SemanticVersion) → ruling_at w s p top ≡ ruling_at old s p top
    ruled_same p None = refl
    ruled_same p (Some top) = ap (λ seen. module_of (without_zip seen)) (view_same p (version_text top))

    latest_same : (p : List ℕ) (top : Option SemanticVersion) → latest_by w s p top ≡ latest_by old s p top
    latest_same p None = refl
    latest_same p (Some top) =
        λ i. highest_left (module_of (without_zip (view_same p (version_text top) i))) (versions_same p i)

    -- what a path says, and the line of a version
    pub facts_same : (p : List ℕ) → facts_of w s p ≡ facts_of old s p
    facts_same p =
        let top : highest (versions_of w s p) ≡ highest (versions_of old s p) = ap highest (versions_same p) in
        let ruled : ruling w s p ≡ ruling old s p =
        ruled_same p (highest (versions_of w s p)) ∙ ap (ruling_at old s p) top in
        let last : latest_of w s p ≡ latest_of old s p =
        latest_same p (highest (versions_of w s p)) ∙ ap (latest_by old s p) top in
        λ i. record { versions = versions_same p i; ruling = ruled i; latest = last i }

    pub line_same : (p : List ℕ) (v : SemanticVersion) (marks : Marks) → line_at w s p v marks ≡ line_at old s p v marks
    line_same p v marks = ap (seen_line s p v marks) (view_same p (version_text v))

-- a read without the newcomers is a read of the past
pub reads_past : {T : Type 0} (a b : Shown) (news : set.FinSet place_cmp) (s : List ℕ) (result : Result T StoreFault)
    (of : World → T)
    → ((w later : World) → IsSince w later news → map.contains_key w.shelves s ≡ true → of w ≡ of (without later news))
    → Reads a b result (λ x. of (without x news)) → Reads (past a news s) (past b news s) result of
reads_past a b news s result of same read = record {
  honest = read.honest;
  at = λ h w been.
      let here = read.at h been.later been.stands in
      record {
        answer = subst (λ v. IfOk result (λ r. r ≡ v)) (sym (same w been.later been.since been.shelf)) here.answer;
        stays = record {
          is = been.is;
          shelf = been.shelf;
          later = been.later;
          stands = here.stays;
          since = been.since;
        };
        left = λ x y none. none;
      };
  cause = record { no_fewer = read.cause.no_fewer; device = read.cause.device };
}
