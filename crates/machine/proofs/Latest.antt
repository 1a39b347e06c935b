-- The latest version of a path.
use Rattle.std.proofs.Common.{◌≡◌, ℕ, List, [], refl, ◌∙◌, sym, ap, subst, Some, None, Result, Ok}
use Rattle.std.specs.Prelude.{◌↔◌, Contains}
use Rattle.gomod.specs.Module.{GoModule, IsRetracted}
use Rattle.gomod.specs.Reading as gomod
use Rattle.gomod.specs.Keywords.{profile_in_force}
use Rattle.gomod.specs.declared.fault.GoModFault.{GoModFault}
use Rattle.gomod.proofs.FileLaw.{reads-from_reading, reading-from_reads}
use Rattle.latest.specs.Latest.{Versions, IsTop, among}
use Rattle.latest.specs.Latest as latest
use Rattle.latest.proofs.Scans.{top_one}
use Rattle.modver.specs.SemanticVersion.{SemanticVersion, version_text}
use Rattle.world.specs.declared.entry.Seen.{Seen}
use Rattle.machine.specs.declared.request.Query.TheVariants as query
use Rattle.world.specs.declared.reading.Reading.{Reading}
use Rattle.world.specs.declared.reading.Reading.TheVariants.{Module, Fault}
use Rattle.machine.specs.declared.reply.Reply.TheVariants as reply
use Rattle.world.specs.GoMods.{Says, reading_of, module_in}
use Rattle.world.specs.Versions.{versions_of}
use Rattle.world.specs.Latest.{module_of, highest_left, latest_by, latest_of, AllOf, highest, unretracted}
use Rattle.machine.specs.Machine.{latest_reply, info_reply, query_reply}
use Rattle.world.specs.Visible.{IsSeen, seen_versions}
use Rattle.machine.specs.PathLaws.{HighestSays, unretracted_versions, LatestIsTheTop, NoneIsLatest, HasTime}
use Rattle.machine.specs.PathLaws.{LatestIsTold}
use Rattle.machine.specs.PathLaws.{LatestIsNotFound}
use Rattle.world.specs.World.{World, IsWorld, view, without_zip, heading}
use Rattle.world.proofs.Members.{no_member}
use Rattle.world.proofs.Profiles.{reading_ok}
use Rattle.world.proofs.Highest.{none_highest, highest_top, left}
use Rattle.world.proofs.SeenVersions.{entry_at, seen_members, versions_fit}

-- ---- what a go.mod says

module_read : (r : Reading) (m : GoModule) → module_in r ≡ Some m → r ≡ Module m
module_read (Module x) m e = let same : x ≡ m = cc e in ap Module same
module_read (Fault line) m e = cc e

says_read : (bytes : List ℕ) (m : GoModule) → reading_of bytes ≡ Module m → Says bytes m
says_read bytes m e = reads-from_reading profile_in_force bytes m
    (reading_ok (gomod.reading profile_in_force bytes) m e)

one_meaning : (bytes : List ℕ) (m n : GoModule) → Says bytes m → Says bytes n → m ≡ n
one_meaning bytes m n a b =
    let same : ◌≡◌ {A = Result GoModule GoModFault} (Ok m) (Ok n) = sym (reading-from_reads profile_in_force bytes m a)
    ∙ reading-from_reads profile_in_force bytes n b in
    cc same

-- ---- tops

-- the top of a set is that of another with the same versions
alike : (one other : Versions) → ((u : SemanticVersion) → one u → other u) → ((u : SemanticVersion) → other u → one u)
    → (v : SemanticVersion) → IsTop one v → IsTop other v
alike one other to back v top = record { member = to v top.member; highest = λ u at. top.highest u (back u at) }

module _ (w : World) (is : IsWorld w) (s p : List ℕ) where
  abbrev vs : List SemanticVersion
  vs = versions_of w s p

  fit : AllOf p vs
  fit = versions_fit w is s p

  top_seen : (v : SemanticVersion) → IsTop (among vs) v → IsTop (seen_versions w s p) v
  top_seen v = alike (among vs) (seen_versions w s p) (λ u. (seen_members w is s p u).0)
      (λ u. (seen_members w is s p u).1) v

  seen_top : (v : SemanticVersion) → IsTop (seen_versions w s p) v → IsTop (among vs) v
  seen_top v = alike (seen_versions w s p) (among vs) (λ u. (seen_members w is s p u).1)
      (λ u. (seen_members w is s p u).0) v

  -- ---- the go.mod of the highest

  -- if m was read from the go.mod of the highest version of the list, the go.mod of the highest version that s sees
  -- says m
  highest_says : (top : SemanticVersion) (m : GoModule) → highest vs ≡ Some top
      → module_of (heading w s p (version_text top)) ≡ Some m → HighestSays w s p m
  highest_says top m e f =
      let is_top = top_seen top (highest_top vs top e) in
      let seen = is_top.member.1 in
      let read : module_in (reading_of seen.0.entry.gomod) ≡ Some m = sym (ap (λ o. module_of (without_zip o)) seen.1)
      ∙ f in
      record {
        highest = top;
        top = is_top;
        at = seen.0;
        seen = seen.1;
        says = says_read seen.0.entry.gomod m (module_read (reading_of seen.0.entry.gomod) m read);
      }

  one_says : (m n : GoModule) → HighestSays w s p m → HighestSays w s p n → m ≡ n
  one_says m n a b =
      let same = (top_one p vs fit a.highest b.highest).0 (seen_top a.highest a.top) (seen_top b.highest b.top) in
      let one : Some a.at ≡ Some b.at = sym a.seen ∙ ap (λ v. view w s p (version_text v)) same ∙ b.seen in
      let at : a.at ≡ b.at = cc one in
      one_meaning b.at.entry.gomod m n (subst (λ (x : Seen). Says x.entry.gomod m) at a.says) b.says

  -- the versions that it leaves
  left_of : (m : GoModule) → HighestSays w s p m → (v : SemanticVersion)
      → Contains (unretracted m vs) v ↔ unretracted_versions w s p v
  left_of m says v = (
    λ at. (let h = (left m v vs).0 at in (m, says, (seen_members w is s p v).0 h.0, h.1)),
    λ h. (left m v vs).1 (
      (seen_members w is s p v).1 h.2,
      subst (λ x. ¬ IsRetracted x v) (one_says h.0 m h.1 says) h.3,
    ),
  )

  -- ---- the latest version

  -- the latest version is the highest of those that the go.mod of the highest does not retract
  some_latest : (v : SemanticVersion) → latest_of w s p ≡ Some v → IsTop (unretracted_versions w s p) v
  some_latest v latest = elim (highest vs) as
      (λ o. highest vs ≡ o → latest_by w s p o ≡ Some v → IsTop (unretracted_versions w s p) v) [
        | None ↦ λ _ e. cc e
        | Some top ↦ λ is_top by. elim (module_of (heading w s p (version_text top)))
            as (λ o. module_of (heading w s p (version_text top)) ≡ o → highest_left o vs ≡ Some v
            → IsTop (unretracted_versions w s p) v) [
              | None ↦ λ _ e. cc e
              | Some m ↦ λ says e.
                  let h = highest_says top m is_top says in
                  alike (among (unretracted m vs)) (unretracted_versions w s p) (λ u. (left_of m h u).0)
                  (λ u. (left_of m h u).1) v (highest_top (unretracted m vs) v e)
            ] refl by
      ] refl latest

  -- in a world the go.mod of a version that is seen reads
  read_there : (t : List ℕ) → IsSeen w s p t → module_of (heading w s p t) ≡ None → ⊥
  read_there t seen none =
      let reads = (entry_at w is s p t seen).reads in
      let some : module_of (heading w s p t) ≡ Some reads.says = ap (λ o. module_of (without_zip o)) seen.1
      ∙ ap module_in reads.reads in
      let never : None ≡ Some reads.says = sym none ∙ some in
      cc never

  empty : (us : List SemanticVersion) (v : SemanticVersion) → us ≡ [] → Contains us v → ⊥
  empty us v e at = no_member v (subst (λ xs. Contains xs v) e at)

  none_left : latest_of w s p ≡ None → (v : SemanticVersion) → ¬ unretracted_versions w s p v
  none_left latest v h = elim (highest vs) as (λ o. highest vs ≡ o → latest_by w s p o ≡ None → ⊥) [
    | None ↦ λ none _. empty vs v (none_highest vs none) ((seen_members w is s p v).1 h.2)
    | Some top ↦ λ is_top by.
        elim (module_of (heading w s p (version_text top))) as
        (λ o. module_of (heading w s p (version_text top)) ≡ o → highest_left o vs ≡ None → ⊥) [
          | None ↦ λ none _. read_there (version_text top) (top_seen top (highest_top vs top is_top)).member.1 none
          | Some m ↦ λ says e. empty (unretracted m vs) v (none_highest (unretracted m vs) e)
              ((left_of m (highest_says top m is_top says) v).1 h)
        ] refl by
  ] refl latest

  left_top : (m : GoModule) → HighestSays w s p m → (v : SemanticVersion) → IsTop (unretracted_versions w s p) v
      → IsTop (latest.unretracted vs m) v
  left_top m says v =
      alike (unretracted_versions w s p) (latest.unretracted vs m) (λ u x. (left m u vs).0 ((left_of m says u).1 x))
      (λ u x. (left_of m says u).0 ((left m u vs).1 x)) v

  one_latest : (u v : SemanticVersion) → IsTop (unretracted_versions w s p) u → IsTop (unretracted_versions w s p) v
      → u ≡ v
  one_latest u v a b =
      let m = a.member.0 in
      let says = a.member.1 in
      (top_one p vs fit u v).1 m (left_top m says u a) (left_top m says v b)

pub latest_is_the_top : LatestIsTheTop
latest_is_the_top w s p v is = (
  λ e. some_latest w is s p v e,
  λ top. elim (latest_of w s p) as (λ o. latest_of w s p ≡ o → o ≡ Some v) [
    | None ↦ λ none. absurd (none_left w is s p none v top.member)
    | Some u ↦ λ some. ap Some (one_latest w is s p u v (some_latest w is s p u some) top)
  ] refl,
)

pub none_is_latest : NoneIsLatest
none_is_latest w s p is = (
  λ e. none_left w is s p e,
  λ none. elim (latest_of w s p) as (λ o. latest_of w s p ≡ o → o ≡ None) [
    | None ↦ λ _. refl
    | Some u ↦ λ some. absurd (none u (some_latest w is s p u some).member)
  ] refl,
)

-- ---- the reply

-- the reply that tells a latest version
told_some : (w : World) (is : IsWorld w) (s p : List ℕ) (v : SemanticVersion) → latest_of w s p ≡ Some v
    → (e : Seen) × (view w s p (version_text v) ≡ Some e)
    × (query_reply w s (query.Latest p) ≡ reply.Info v e.entry.time)
told_some w is s p v e =
    let seen = (some_latest w is s p v e).member.2.1 in
    (seen.0, seen.1, ap (latest_reply w s p) e ∙ ap (λ o. info_reply v (without_zip o)) seen.1)

-- the reply to the query for the latest version is v with this time exactly if v is the latest version and has this
-- time
pub latest_is_told : LatestIsTold
latest_is_told w s p v time is = (
  λ e. elim (latest_of w s p) as
      (λ o. latest_of w s p ≡ o → IsTop (unretracted_versions w s p) v × HasTime w s p v time) [
        | None ↦ λ none. let never : reply.NotFound ≡ reply.Info v time = sym (ap (latest_reply w s p) none)
            ∙ e in cc never
        | Some u ↦ λ some.
            let told = told_some w is s p u some in
            let one : reply.Info u told.0.entry.time ≡ reply.Info v time = sym told.2 ∙ e in
            let same : u ≡ v = cc one in
            let at : told.0.entry.time ≡ time = cc one in (
              subst (IsTop (unretracted_versions w s p)) same (some_latest w is s p u some),
              subst (λ x. HasTime w s p x time) same (told.0, told.1, at),
            )
      ] refl,
  λ h. ap (latest_reply w s p) ((latest_is_the_top w s p v is).1 h.0) ∙ ap (λ o. info_reply v (without_zip o)) h.1.1
      ∙ ap (reply.Info v) h.1.2,
)

-- the latest version is not found exactly if the go.mod of the highest leaves no version
pub latest_is_not_found : LatestIsNotFound
latest_is_not_found w s p is = (
  λ e. elim (latest_of w s p) as (λ o. latest_of w s p ≡ o → (v : SemanticVersion) → ¬ unretracted_versions w s p v) [
    | None ↦ λ none. none_left w is s p none
    | Some u ↦ λ some.
        let told = told_some w is s p u some in
        let never : reply.NotFound ≡ reply.Info u told.0.entry.time = sym e ∙ told.2 in
        cc never
  ] refl,
  λ none. ap (latest_reply w s p) ((none_is_latest w s p is).1 none),
)
