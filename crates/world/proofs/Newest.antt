-- The latest version of a path, by its versions and the go.mod of the highest.
use Rattle.std.proofs.Common.{◌≡◌, ℕ, List, sym, ap, subst, ◌∙◌, Option, Some, None, Ok}
use Rattle.gomod.specs.Module.{GoModule}
use Rattle.modver.specs.SemanticVersion.{SemanticVersion, version_text}
use Rattle.world.specs.declared.entry.Heading.{Heading}
use Rattle.world.specs.Latest.{AllOf, highest, module_of, highest_left, latest_by, latest_of}
use Rattle.world.specs.Store.{Shown, Reads}
use Rattle.world.specs.Versions.{versions_of}
use Rattle.world.specs.World.{World, IsWorld, heading}
use Rattle.world.proofs.Causes.{answers, in_turn}
use Rattle.world.proofs.SeenVersions.{versions_fit}

-- in a world
module _ (w : World) (is : IsWorld w) (s p : List ℕ) (vs : List SemanticVersion) (are : vs ≡ versions_of w s p) where
  all_fit : AllOf p vs
  all_fit = subst (AllOf p) (sym are) (versions_fit w is s p)

  pub none_latest : ((path : List ℕ) → AllOf path vs → None ≡ highest vs) → None ≡ latest_of w s p
  none_latest none = ap (latest_by w s p) (none p all_fit ∙ ap highest are)

  pub some_latest : (top : SemanticVersion) (shown : Option Heading) (m : Option GoModule) (v : Option SemanticVersion)
      → ((path : List ℕ) → AllOf path vs → Some top ≡ highest vs) → shown ≡ heading w s p (version_text top)
      → m ≡ module_of shown → ((path : List ℕ) → AllOf path vs → v ≡ highest_left m vs) → v ≡ latest_of w s p
  some_latest top shown m v is_top is_shown is_read is_latest =
      is_latest p all_fit ∙ ap (highest_left m) are
      ∙ ap (λ o. highest_left o (versions_of w s p)) (is_read ∙ ap module_of is_shown)
      ∙ ap (latest_by w s p) (is_top p all_fit ∙ ap highest are)

-- the latest version, by the versions of the path as they were read from a store
module _ (old mid : Shown) (sound : (w : World) → old.stands w → IsWorld w) (s p : List ℕ) (vs : List SemanticVersion)
    (read : Reads old mid (Ok vs) (λ w. versions_of w s p)) where
  pub none_read : ((path : List ℕ) → AllOf path vs → None ≡ highest vs) → Reads old mid (Ok None) (λ w. latest_of w s p)
  none_read none = record {
    honest = read.honest;
    at = λ h w stands.
        let given = read.at h w stands in
        record {
          answer = none_latest w (sound w stands) s p vs given.answer none;
          stays = given.stays;
          left = given.left;
        };
    cause = answers old mid None read.cause.no_fewer;
  }

  -- the latest version, if the go.mod of the highest was read after them
  pub latest_read : (new : Shown) (top : SemanticVersion) (shown : Option Heading) (m : Option GoModule)
      (v : Option SemanticVersion)
      → ((path : List ℕ) → AllOf path vs → Some top ≡ highest vs)
      → Reads mid new (Ok shown) (λ w. heading w s p (version_text top))
      → m ≡ module_of shown → ((path : List ℕ) → AllOf path vs → v ≡ highest_left m vs)
      → Reads old new (Ok v) (λ w. latest_of w s p)
  latest_read new top shown m v is_top then is_read is_latest = record {
    honest = λ h. read.honest (then.honest h);
    at = λ h w stands.
        let given = read.at (then.honest h) w stands in
        let seen = then.at h w given.stays in
        record {
          answer = some_latest w (sound w stands) s p vs given.answer top shown m v is_top seen.answer is_read
              is_latest;
          stays = seen.stays;
          left = λ x y was. seen.left x y (given.left x y was);
        };
    cause = in_turn old mid new vs (Ok v) read.cause (answers mid new v then.cause.no_fewer);
  }
