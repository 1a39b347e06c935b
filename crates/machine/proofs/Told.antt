-- What a shelf learns of its paths and of the versions of a path.
use Rattle.std.proofs.Common.{◌≡◌, ℕ, List, [], ◌∷◌, Bool, true, false, cond, refl, ◌∙◌, sym, subst, inl, inr, ◌⊎◌}
use Rattle.std.specs.Prelude.{◌↔◌, Contains}
use Rattle.std.specs.List.{filter}
use Rattle.std.specs.declared.cmp.Ordering.TheVariants.{Less}
use Rattle.std.proofs.lemmas.Bool.{true≢false}
use Rattle.modver.specs.Class.{class_of}
use Rattle.modver.specs.SemanticVersion.{SemanticVersion, version_text}
use Rattle.modver.specs.declared.version.Class.{Class}
use Rattle.modver.specs.declared.version.Class.TheVariants as class
use Rattle.machine.specs.declared.reply.Reply.TheVariants as reply
use Rattle.world.specs.Lines.{EachToNext}
use Rattle.world.specs.Versions.{versions_of, version_cmp, versions_total}
use Rattle.machine.specs.Machine.{list_reply}
use Rattle.world.specs.Visible.{seen_versions, paths_seen}
use Rattle.machine.specs.PathLaws.{PathsAreSeen, PathsAreTold, IsListed, AreListed, ListIsTold, ListIsNotFound}
use Rattle.machine.specs.Listed.{is_listed, listed}
use Rattle.world.specs.World.{World, IsWorld, view, text_cmp}
use Rattle.world.proofs.Orders.{texts_total, texts_exact}
use Rattle.world.proofs.Precedence.{below_next}
use Rattle.world.proofs.Members.{no_member, first_member, later_member, member_cases, in_order_rises, in_order_of}
use Rattle.world.proofs.Members.{in_set_of}
use Rattle.world.proofs.Seen.{contains_paths}
use Rattle.world.proofs.SeenVersions.{some_of, seen_members, seen_fits, version_there, versions_rise}

-- ---- paths

pub paths_are_seen : PathsAreSeen
paths_are_seen w s p =
    let found = contains_paths w s p in (
      λ at. let v = found.0 at in (v.0, (some_of (view w s p v.0)).0 v.1),
      λ seen. found.1 (seen.0, (some_of (view w s p seen.0)).1 seen.1),
    )

-- the reply to the query for modules has the paths of which the shelf sees some version, in the order of their bytes
pub paths_are_told : PathsAreTold
paths_are_told w s =
    let ps = paths_seen w s in (
      ps,
      refl,
      record {
        members = λ p. (
          λ at. (paths_are_seen w s p).0 (in_set_of texts_total texts_exact ps p at),
          λ seen.
              in_order_of texts_total texts_exact ps p ((paths_are_seen w s p).1 seen),
        );
        ascend = in_order_rises text_cmp ps;
      },
    )

-- ---- their list

class_listed : (v : SemanticVersion) → (is_listed (class_of v) ≡ true) ↔ IsListed v
class_listed v = by_class (class_of v)
  where
    by_class : (c : Class) → (is_listed c ≡ true) ↔ ((c ≡ class.Release) ⊎ (c ≡ class.Pre))
    by_class class.Release = (λ e. inl refl, λ h. refl)
    by_class class.Pre = (λ e. inr refl, λ h. refl)
    by_class (class.Pseudo time) = (λ e. absurd (true≢false (sym e)), λ h. elim h [ inl e ↦ cc e | inr e ↦ cc e ])

-- a version is in the list of a path exactly if it is among its versions and is a release or a pre-release
listed_members : (vs : List SemanticVersion) (v : SemanticVersion)
    → Contains (listed vs) v ↔ (Contains vs v × IsListed v)
listed_members [] v = (λ at. absurd (no_member v at), λ h. absurd (no_member v h.0))
listed_members (x ∷ vs) v =
    let rest = listed_members vs v in
    elim (is_listed (class_of x)) as
    (λ b. is_listed (class_of x) ≡ b
    → Contains (cond b (x ∷ listed vs) (listed vs)) v ↔ (Contains (x ∷ vs) v × IsListed v)) [
      | true ↦ λ is. (
        λ at. elim (member_cases x v (listed vs) at) [
          | inl same ↦ subst (λ y. Contains (x ∷ vs) y × IsListed y) same (first_member x vs, (class_listed x).0 is)
          | inr later ↦ let h = rest.0 later in (later_member x v vs h.0, h.1)
        ],
        λ h. elim (member_cases x v vs h.0) [
          | inl same ↦ subst (Contains (x ∷ listed vs)) same (first_member x (listed vs))
          | inr later ↦ later_member x v (listed vs) (rest.1 (later, h.1))
        ],
      )
      | false ↦ λ is. (
        λ at. let h = rest.0 at in (later_member x v vs h.0, h.1),
        λ h. elim (member_cases x v vs h.0) [
          | inl same ↦ absurd (true≢false (sym ((class_listed x).1 (subst IsListed (sym same) h.1)) ∙ is))
          | inr later ↦ rest.1 (later, h.1)
        ],
      )
    ] refl

-- some of a list that rises rise
module _ {A : Type 0} (R : A → A → Type 0) (through : (x y z : A) → R x y → R y z → R x z) (test : A → Bool) where
  without_next : (x y : A) (ys : List A) → EachToNext R (x ∷ y ∷ ys) → EachToNext R (x ∷ ys)
  without_next x y [] up = tt
  without_next x y (z ∷ zs) up = (through x y z up.0 up.1.0, up.1.1)

  without_first : (x : A) (xs : List A) → EachToNext R (x ∷ xs) → EachToNext R xs
  without_first x [] up = tt
  without_first x (y ∷ ys) up = up.1

  rises_from : (x : A) (ys : List A) → EachToNext R (x ∷ ys) → EachToNext R (x ∷ filter test ys)
  rises_from x [] up = tt
  rises_from x (y ∷ ys) up = elim (test y) as (λ b. EachToNext R (x ∷ cond b (y ∷ filter test ys) (filter test ys))) [
    | true ↦ (up.0, rises_from y ys up.1)
    | false ↦ rises_from x ys (without_next x y ys up)
  ]

  some_rise : (xs : List A) → EachToNext R xs → EachToNext R (filter test xs)
  some_rise [] up = tt
  some_rise (x ∷ xs) up = elim (test x) as (λ b. EachToNext R (cond b (x ∷ filter test xs) (filter test xs))) [
    | true ↦ rises_from x xs up
    | false ↦ some_rise xs (without_first x xs up)
  ]

module _ (w : World) (is : IsWorld w) (s p : List ℕ) where
  -- the list of a path has the releases and pre-releases that the shelf sees, each below the next
  are_listed : AreListed w s p (listed (versions_of w s p))
  are_listed =
      let vs = versions_of w s p in
      let members : (v : SemanticVersion) → Contains (listed vs) v ↔ (seen_versions w s p v × IsListed v) = λ v. (
        λ at. (let h = (listed_members vs v).0 at in ((seen_members w is s p v).0 h.0, h.1)),
        λ h. (listed_members vs v).1 ((seen_members w is s p v).1 h.0, h.1),
      ) in
      record {
        members = members;
        ascend =
            below_next p (listed vs) (λ v at. seen_fits w is s p v ((members v).0 at).0)
            (some_rise (λ u v. version_cmp u v ≡ Less) versions_total.trans (λ v. is_listed (class_of v)) vs
            (versions_rise w s p));
      }

  -- the reply by the versions that are seen
  reply_some : (vs : List SemanticVersion) (v : SemanticVersion) → Contains vs v
      → list_reply vs ≡ reply.Versions (listed vs)
  reply_some [] v at = absurd (no_member v at)
  reply_some (x ∷ vs) v at = refl

  reply_none : (vs : List SemanticVersion) → list_reply vs ≡ reply.NotFound → vs ≡ []
  reply_none [] e = refl
  reply_none (x ∷ vs) e = cc e

  none_there : (vs : List SemanticVersion) → ((v : SemanticVersion) → ¬ Contains vs v) → list_reply vs ≡ reply.NotFound
  none_there [] none = refl
  none_there (x ∷ vs) none = absurd (none x (first_member x vs))

pub list_is_told : ListIsTold
list_is_told w s p t is seen =
    let v = version_there w is s p t seen in (
      listed (versions_of w s p),
      reply_some w is s p (versions_of w s p) v.0 ((seen_members w is s p v.0).1 v.1),
      are_listed w is s p,
    )

pub list_is_not_found : ListIsNotFound
list_is_not_found w s p is = (
  λ e t seen. (let v = version_there w is s p t seen in
      no_member v.0 (subst (λ vs. Contains vs v.0) (reply_none w is s p (versions_of w s p) e)
      ((seen_members w is s p v.0).1 v.1))),
  λ none. none_there w is s p (versions_of w s p) (λ v at. none (version_text v) ((seen_members w is s p v).0 at).1),
)
