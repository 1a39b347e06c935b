-- What two worlds that agree on the shelves that a shelf sees decide and answer to it.
use Rattle.std.proofs.Common.{◌≡◌, ℕ, List, refl, ◌∙◌, sym, ap, Option, Some, None}
use Rattle.std.specs.Prelude.{option_map, is_some}
use Rattle.std.specs.FinSet as set
use Rattle.modver.specs.SemanticVersion.{SemanticVersion, version_text}
use Rattle.world.specs.declared.entry.Seen.{Seen}
use Rattle.world.specs.declared.entry.Holder.{Holder}
use Rattle.machine.specs.declared.request.Query.{Query}
use Rattle.machine.specs.declared.request.Query.TheVariants as query
use Rattle.machine.specs.declared.request.Publish.{Publish}
use Rattle.machine.specs.declared.reply.Reply.TheVariants as reply
use Rattle.world.specs.World.{World, chain, heading, count}
use Rattle.world.specs.Lines.{in_order}
use Rattle.world.specs.Visible.{versions_seen, paths_seen}
use Rattle.world.specs.Versions.{named, by_precedence, versions_of}
use Rattle.world.specs.Latest.{highest, module_of, highest_left, latest_by, latest_of}
use Rattle.machine.specs.Machine.{decided, decision, gomod_of, offered, standing_if, standing_of, latest_reply}
use Rattle.machine.specs.Machine.{query_reply, gomod_reply, zip_reply, info_reply, list_reply}
use Rattle.world.proofs.InOrder.{same_bool}
use Rattle.world.proofs.Orders.{texts_total, texts_exact}
use Rattle.world.proofs.Seen.{contains_versions, contains_paths}
use Rattle.machine.proofs.Views.{SameSeen, sees_itself, view_same, heading_same, count_same}

module _ (w x : World) (s : List ℕ) (chains : chain w s ≡ chain x s) (same : SameSeen w x s) where
  -- ---- a publish

  standing_same : (p : Publish) → standing_of w s p ≡ standing_of x s p
  standing_same p = ap (λ o. standing_if (option_map (λ (y : Seen). y.entry) o) (offered p))
      (view_same w x s p.path (version_text p.version) chains same)

  -- ---- the versions and the paths

  pub versions_same : (p : List ℕ) → versions_seen w s p ≡ versions_seen x s p
  versions_same p = set.same_set texts_total texts_exact _ _ (λ v.
      contains_versions w s p v ∙ ap is_some (view_same w x s p v chains same) ∙ sym (contains_versions x s p v))

  versions_of_same : (p : List ℕ) → versions_of w s p ≡ versions_of x s p
  versions_of_same p = ap (λ vs. in_order (by_precedence (named (in_order vs)))) (versions_same p)

  pub paths_same : paths_seen w s ≡ paths_seen x s
  paths_same = set.same_set texts_total texts_exact _ _ (λ p.
      let one = contains_paths w s p in
      let other = contains_paths x s p in
      same_bool _ _
      (λ at. let found = one.0 at in
      other.1 (found.0, ap is_some (sym (view_same w x s p found.0 chains same)) ∙ found.1))
      (λ at. let found = other.0 at in one.1 (found.0, ap is_some (view_same w x s p found.0 chains same) ∙ found.1)))

  -- ---- the latest version

  latest_by_same : (p : List ℕ) (top : Option SemanticVersion) → latest_by w s p top ≡ latest_by x s p top
  latest_by_same p None = refl
  latest_by_same p (Some top) =
      ap (λ o. highest_left (module_of o) (versions_of w s p)) (heading_same w x s p (version_text top) chains same)
      ∙ ap (highest_left (module_of (heading x s p (version_text top)))) (versions_of_same p)

  pub latest_same : (p : List ℕ) → latest_of w s p ≡ latest_of x s p
  latest_same p = ap (λ vs. latest_by w s p (highest vs)) (versions_of_same p)
      ∙ latest_by_same p (highest (versions_of x s p))

  latest_reply_same : (p : List ℕ) (v : Option SemanticVersion) → latest_reply w s p v ≡ latest_reply x s p v
  latest_reply_same p None = refl
  latest_reply_same p (Some v) = ap (info_reply v) (heading_same w x s p (version_text v) chains same)

  -- ---- a query

  pub query_same : (q : Query) → query_reply w s q ≡ query_reply x s q
  query_same (query.GoMod p v) = ap gomod_reply (heading_same w x s p (version_text v) chains same)
  query_same (query.Zip p v) = ap zip_reply (view_same w x s p (version_text v) chains same)
  query_same (query.Info p v) = ap (info_reply v) (heading_same w x s p (version_text v) chains same)
  query_same (query.List p) = ap list_reply (versions_of_same p)
  query_same (query.Latest p) = ap (latest_reply w s p) (latest_same p) ∙ latest_reply_same p (latest_of x s p)
  query_same query.Modules = ap reply.Paths paths_same

pub decision_same : (w x : World) (h : Holder) (p : Publish) → chain w h.shelf ≡ chain x h.shelf → SameSeen w x h.shelf
    → decision w (Some h) p ≡ decision x (Some h) p
decision_same w x h p chains same =
    ap (λ there. decided p (Some h.right) (gomod_of p) there (count w h.shelf p.path))
    (standing_same w x h.shelf chains same p)
    ∙ ap (λ n. decided p (Some h.right) (gomod_of p) (standing_of x h.shelf p) n)
    (count_same w x h.shelf p.path (same h.shelf (sees_itself w h.shelf)))
