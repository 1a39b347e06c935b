-- What a path says, and its lines, by what was read of it.
use Rattle.std.proofs.Common.{◌≡◌, ◌∙◌, ℕ, List, Option, Some, None, Ok, refl, sym, ap, subst}
use Rattle.gomod.specs.Module.{GoModule}
use Rattle.modver.specs.SemanticVersion.{SemanticVersion}
use Rattle.world.proofs.Causes.{answers, in_turn}
use Rattle.world.proofs.SeenVersions.{versions_fit}
use Rattle.world.specs.Latest.{AllOf, highest, highest_left, latest_by, latest_of}
use Rattle.world.specs.Store.{Shown, Reads}
use Rattle.world.specs.Versions.{versions_of}
use Rattle.world.specs.World.{World, IsWorld}
use Rattle.catalog.specs.Catalog.{ruling, ruling_at}
use Rattle.catalog.specs.Sight.{facts_of}

-- the latest version by the go.mod of the highest
latest_left : (w : World) (s p : List ℕ) (top : Option SemanticVersion)
    → highest_left (ruling_at w s p top) (versions_of w s p) ≡ latest_by w s p top
latest_left w s p None = refl
latest_left w s p (Some top) = refl

module _ (seen_of : World → World) (s p : List ℕ) where
  -- the versions, the go.mod of the highest, read twice, and the latest by it are what the path says
  pub account_reads : (old one two new : Shown) (sound : (w : World) → old.stands w → IsWorld (seen_of w))
      (vs : List SemanticVersion) (top latest : Option SemanticVersion) (first m : Option GoModule)
      → Reads old one (Ok vs) (λ w. versions_of (seen_of w) s p)
      → ((path : List ℕ) → AllOf path vs → top ≡ highest vs)
      → Reads one two (Ok first) (λ w. ruling_at (seen_of w) s p top)
      → ((path : List ℕ) → AllOf path vs → latest ≡ highest_left first vs)
      → Reads two new (Ok m) (λ w. ruling_at (seen_of w) s p top)
      → Reads old new (Ok (record { versions = vs; ruling = m; latest = latest })) (λ w. facts_of (seen_of w) s p)
  account_reads old one two new sound vs top latest first m listed is_top ruled is_latest again = record {
    honest = λ h. listed.honest (ruled.honest (again.honest h));
    at = λ h w stands.
        let v = listed.at (ruled.honest (again.honest h)) w stands in
        let r = ruled.at (again.honest h) w v.stays in
        let l = again.at h w r.stays in
        let fit = subst (AllOf p) (sym v.answer) (versions_fit (seen_of w) (sound w stands) s p) in
        let same : ruling_at (seen_of w) s p top ≡ ruling (seen_of w) s p =
        ap (ruling_at (seen_of w) s p) (is_top p fit ∙ ap highest v.answer) in
        let by : first ≡ ruling (seen_of w) s p = r.answer ∙ same in
        let ruling_is : m ≡ ruling (seen_of w) s p = l.answer ∙ same in
        let latest_is : latest ≡ latest_of (seen_of w) s p =
        is_latest p fit ∙ (λ i. highest_left (by i) (v.answer i))
        ∙ latest_left (seen_of w) s p (highest (versions_of (seen_of w) s p)) in
        record {
          answer = λ i. record { versions = v.answer i; ruling = ruling_is i; latest = latest_is i };
          stays = l.stays;
          left = λ x y was. l.left x y (r.left x y (v.left x y was));
        };
    cause = answers old new _ (in_turn old two new first (Ok m) (in_turn old one two vs (Ok first) listed.cause
        ruled.cause) again.cause).no_fewer;
  }
