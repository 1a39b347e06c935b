-- By the second profile the machine answers as by the first, in a world of the first, but a publish that the first
-- does not read.
use Rattle.std.proofs.Common.{◌≡◌, ℕ, List, refl, ◌∙◌, sym, ap, inl, inr, ◌⊎◌, Option, Some, None}
use Rattle.std.specs.Prelude.{option_map}
use Rattle.std.specs.FinMap as map
use Rattle.gomod.proofs.FileLaw.{reading-from_reads}
use Rattle.gomod.specs.Keywords.{Keywords, profile_1, profile_2, profile_in_force}
use Rattle.modver.specs.SemanticVersion.{SemanticVersion, version_text}
use Rattle.world.specs.declared.entry.Heading.{Heading}
use Rattle.world.specs.declared.entry.Holder.{Holder}
use Rattle.world.specs.declared.reading.Reading.{Reading}
use Rattle.world.specs.declared.reading.Reading.TheVariants.{Module, Fault}
use Rattle.world.specs.GoMods.{as_reading, reading_by, module_in}
use Rattle.world.specs.Latest.{module_of, highest, highest_left}
use Rattle.world.specs.Latest as latest
use Rattle.world.specs.Versions.{versions_of}
use Rattle.world.specs.World.{World, IsWorldBy, count, heading, view, without_zip}
use Rattle.world.proofs.Profiles.{reads_still}
use Rattle.world.proofs.SeenVersions.{entry_by}
use Rattle.machine.specs.declared.request.Request.TheVariants.{Unreadable, Get, Put}
use Rattle.machine.specs.declared.request.Body.{Body}
use Rattle.machine.specs.declared.request.Event.{Event}
use Rattle.machine.specs.declared.request.Event.TheVariants.{Requested, TeamAdd, GroupAdd, KeyAdd, KeyRevoke}
use Rattle.machine.specs.declared.request.Event.TheVariants.{KeysRevoke}
use Rattle.machine.specs.declared.request.Publish.{Publish}
use Rattle.machine.specs.declared.request.Query.{Query}
use Rattle.machine.specs.declared.request.Query.TheVariants as query
use Rattle.machine.specs.declared.reply.Decision.{Decision}
use Rattle.machine.specs.declared.reply.Decision.TheVariants.{Refused}
use Rattle.machine.specs.declared.reply.ContentRefusal.TheVariants as refusal
use Rattle.machine.specs.declared.reply.Reply.TheVariants as reply
use Rattle.machine.specs.Machine.{after_decision, decided, decision, first_failing, gomod_checks, keyed_reply}
use Rattle.machine.specs.Machine.{latest_reply, query_reply, request_checks, standing_of}
use Rattle.machine.specs.Profiles.{module_by, left_by, query_reply_by, keyed_reply_by, gomod_by, decision_by}
use Rattle.machine.specs.Profiles.{AnswersAlike, ProfileInForceIsTheMachine, IsUnread, Profile2KeepsAnswers}
use Rattle.machine.proofs.Checks.{refused, refused_by_gomod}

-- ---- the profile in force

module_in_force : (o : Option Heading) → module_by profile_in_force o ≡ module_of o
module_in_force None = refl
module_in_force (Some shown) = refl

left_in_force : (w : World) (s p : List ℕ) (o : Option SemanticVersion)
    → left_by profile_in_force w s p o ≡ latest.latest_by w s p o
left_in_force w s p None = refl
left_in_force w s p (Some top) =
    ap (λ m. highest_left m (versions_of w s p)) (module_in_force (heading w s p (version_text top)))

query_in_force : (w : World) (s : List ℕ) (q : Query) → query_reply_by profile_in_force w s q ≡ query_reply w s q
query_in_force w s (query.Latest p) = ap (latest_reply w s p) (left_in_force w s p (highest (versions_of w s p)))
query_in_force w s (query.GoMod p v) = refl
query_in_force w s (query.Zip p v) = refl
query_in_force w s (query.Info p v) = refl
query_in_force w s (query.List p) = refl
query_in_force w s query.Modules = refl

keyed_in_force : (w : World) (o : Option Holder) (q : Query) → keyed_reply_by profile_in_force w o q ≡ keyed_reply w o q
keyed_in_force w None q = refl
keyed_in_force w (Some h) q = query_in_force w h.shelf q

decision_in_force : (w : World) (o : Option Holder) (p : Publish) → decision_by profile_in_force w o p ≡ decision w o p
decision_in_force w None p = refl
decision_in_force w (Some h) p = refl

-- by the profile in force, each event gets the reply of the machine and leads to its world
pub in_force : ProfileInForceIsTheMachine
in_force w (Requested Unreadable) = record { replies = refl; worlds = refl }
in_force w (Requested (Get k q)) = record { replies = keyed_in_force w (map.get w.keys k) q; worlds = refl }
in_force w (Requested (Put k p)) =
    let same = decision_in_force w (map.get w.keys k) p in
    record {
      replies = ap (λ (d : Decision). reply.Decided d) same;
      worlds =
          ap (after_decision w (map.get w.keys k) p) same;
    }
in_force w (TeamAdd t group) = record { replies = refl; worlds = refl }
in_force w (GroupAdd g) = record { replies = refl; worlds = refl }
in_force w (KeyAdd s k right) = record { replies = refl; worlds = refl }
in_force w (KeyRevoke k) = record { replies = refl; worlds = refl }
in_force w (KeysRevoke s) = record { replies = refl; worlds = refl }

-- ---- the first profile and the second

module _ (w : World) (is : IsWorldBy profile_1 w) where
  abbrev Alike : Event → Type 0
  Alike e = AnswersAlike profile_1 profile_2 w e

  abbrev AlikeOrUnread : Event → Type 0
  AlikeOrUnread e = Alike e ⊎ IsUnread profile_1 w e

  same_module : (s p t : List ℕ) → module_by profile_1 (heading w s p t) ≡ module_by profile_2 (heading w s p t)
  same_module s p t =
      elim (view w s p t) as (λ o. view w s p t ≡ o
      → module_by profile_1 (without_zip o) ≡ module_by profile_2 (without_zip o)) [
        | None ↦ λ _. refl
        | Some e ↦ λ seen.
            let reads = (entry_by profile_1 w s p t is (e, seen)).reads in
            ap module_in (reads.reads ∙ sym (reads_still e.entry.gomod reads.says reads.reads))
      ] refl

  same_left : (s p : List ℕ) (o : Option SemanticVersion) → left_by profile_1 w s p o ≡ left_by profile_2 w s p o
  same_left s p None = refl
  same_left s p (Some top) = ap (λ m. highest_left m (versions_of w s p)) (same_module s p (version_text top))

  same_query : (s : List ℕ) (q : Query) → query_reply_by profile_1 w s q ≡ query_reply_by profile_2 w s q
  same_query s (query.Latest p) = ap (latest_reply w s p) (same_left s p (highest (versions_of w s p)))
  same_query s (query.GoMod p v) = refl
  same_query s (query.Zip p v) = refl
  same_query s (query.Info p v) = refl
  same_query s (query.List p) = refl
  same_query s query.Modules = refl

  same_keyed : (o : Option Holder) (q : Query) → keyed_reply_by profile_1 w o q ≡ keyed_reply_by profile_2 w o q
  same_keyed None q = refl
  same_keyed (Some h) q = same_query h.shelf q

  alike : (k : List ℕ) (p : Publish)
      → decision_by profile_1 w (map.get w.keys k) p ≡ decision_by profile_2 w (map.get w.keys k) p
      → Alike (Requested (Put k p))
  alike k p same = record {
    replies = ap (λ (d : Decision). reply.Decided d) same;
    worlds =
        ap (after_decision w (map.get w.keys k) p) same;
  }

  same_decision : (o : Option Holder) (p : Publish) → gomod_by profile_1 p ≡ gomod_by profile_2 p
      → decision_by profile_1 w o p ≡ decision_by profile_2 w o p
  same_decision None p same = refl
  same_decision (Some h) p same =
      ap (λ r. decided p (Some h.right) r (standing_of w h.shelf p) (count w h.shelf p.path)) same

  -- a publish to a shelf, with files
  module _ (k : List ℕ) (p : Publish) (h : Holder) (found : map.get w.keys k ≡ Some h) (b : Body)
      (body : p.body ≡ Some b) where
    read_by : (known : Keywords) → gomod_by known p ≡ Some (reading_by known b.gomod)
    read_by known = ap (option_map (λ (x : Body). reading_by known x.gomod)) body

    -- refused for itself, whatever its go.mod says
    refused_alike : (d : Decision) → first_failing (request_checks p (Some h.right)) ≡ Some d
        → Alike (Requested (Put k p))
    refused_alike d e =
        let so : (known : Keywords) → decision_by known w (map.get w.keys k) p ≡ d = λ known.
        ap (λ o. decision_by known w o p) found
        ∙ refused p (Some h.right) (gomod_by known p) (standing_of w h.shelf p) (count w h.shelf p.path) d e in
        alike k p (so profile_1 ∙ sym (so profile_2))

    -- a publish whose go.mod the first profile does not read, and that passes the checks before that, is refused for it
    unread : (line : ℕ) → reading_by profile_1 b.gomod ≡ Fault line
        → first_failing (request_checks p (Some h.right)) ≡ None → IsUnread profile_1 w (Requested (Put k p))
    unread line fault passes =
        let failing = ap (λ r. first_failing (gomod_checks p r))
        (read_by profile_1 ∙ ap (λ (r : Reading). Some r) fault) in
        record {
          key = k;
          publish = p;
          body = b;
          asked = refl;
          handed = body;
          unread = λ m reads. let never : Fault line ≡ Module m = sym fault
              ∙ ap as_reading (reading-from_reads profile_1 b.gomod m reads) in cc never;
          line = line;
          refused =
              ap (λ o. reply.Decided (decision_by profile_1 w o p)) found
              ∙ ap (λ (d : Decision). reply.Decided d)
              (refused_by_gomod p (Some h.right) (gomod_by profile_1 p) (standing_of w h.shelf p)
              (count w h.shelf p.path) (Refused (refusal.BadGoMod line)) passes failing);
        }

    by_check : (line : ℕ) → reading_by profile_1 b.gomod ≡ Fault line → (o : Option Decision)
        → first_failing (request_checks p (Some h.right)) ≡ o → AlikeOrUnread (Requested (Put k p))
    by_check line fault None passes = inr (unread line fault passes)
    by_check line fault (Some d) fails = inl (refused_alike d fails)

    by_reading : (r : Reading) → reading_by profile_1 b.gomod ≡ r → AlikeOrUnread (Requested (Put k p))
    by_reading (Module m) read =
        let same : reading_by profile_1 b.gomod ≡ reading_by profile_2 b.gomod = read
        ∙ sym (reads_still b.gomod m read) in
        inl (alike k p (same_decision (map.get w.keys k) p
        (read_by profile_1 ∙ ap (λ (r : Reading). Some r) same ∙ sym (read_by profile_2))))
    by_reading (Fault line) fault = by_check line fault (first_failing (request_checks p (Some h.right))) refl

  by_body : (k : List ℕ) (p : Publish) (h : Holder) → map.get w.keys k ≡ Some h → (o : Option Body) → p.body ≡ o
      → AlikeOrUnread (Requested (Put k p))
  by_body k p h found None none =
      let so : (known : Keywords)
      → gomod_by known p ≡ None = λ known. ap (option_map (λ (x : Body). reading_by known x.gomod)) none in
      inl (alike k p (same_decision (map.get w.keys k) p (so profile_1 ∙ sym (so profile_2))))
  by_body k p h found (Some b) body = by_reading k p h found b body (reading_by profile_1 b.gomod) refl

  by_holder : (k : List ℕ) (p : Publish) (o : Option Holder) → map.get w.keys k ≡ o
      → AlikeOrUnread (Requested (Put k p))
  by_holder k p None none =
      let so : (known : Keywords)
      → decision_by known w (map.get w.keys k) p ≡ decision_by known w None p = λ known.
      ap (λ o. decision_by known w o p) none in
      inl (alike k p (so profile_1 ∙ sym (so profile_2)))
  by_holder k p (Some h) found = by_body k p h found p.body refl

pub answers_alike : Profile2KeepsAnswers
answers_alike w (Requested Unreadable) is = inl (record { replies = refl; worlds = refl })
answers_alike w (Requested (Get k q)) is =
    inl (record { replies = same_keyed w is (map.get w.keys k) q; worlds = refl })
answers_alike w (Requested (Put k p)) is = by_holder w is k p (map.get w.keys k) refl
answers_alike w (TeamAdd t group) is = inl (record { replies = refl; worlds = refl })
answers_alike w (GroupAdd g) is = inl (record { replies = refl; worlds = refl })
answers_alike w (KeyAdd s k right) is = inl (record { replies = refl; worlds = refl })
answers_alike w (KeyRevoke k) is = inl (record { replies = refl; worlds = refl })
answers_alike w (KeysRevoke s) is = inl (record { replies = refl; worlds = refl })
