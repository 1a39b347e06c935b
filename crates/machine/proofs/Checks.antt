-- What the outcome of the checks of a publish says of each of them.
use Rattle.std.proofs.Common.{◌≡◌, ℕ, ◌<◌, List, [], ◌∷◌, ◌++◌, Bool, true, false, cond, refl, ◌∙◌, sym, ap, subst}
use Rattle.std.proofs.Common.{Option, Some, None}
use Rattle.std.specs.Prelude.{not, is_none, option_map, unwrap_or, nat_le}
use Rattle.std.specs.List.{list_any}
use Rattle.std.specs.Option.{option_or}
use Rattle.std.specs.FinMap as map
use Rattle.std.proofs.lemmas.Bool.{true≢false, and_parts, or_parts, not-false, leb-false}
use Rattle.modpath.specs.Path.{is_path}
use Rattle.modver.specs.SemanticVersion.{has_text, version_text}
use Rattle.modver.proofs.Readings.{has-text}
use Rattle.modver.specs.Class.{class_of}
use Rattle.modver.specs.declared.version.Class.{Class}
use Rattle.world.specs.declared.entry.Entry.{Entry}
use Rattle.world.specs.declared.entry.Seen.{Seen}
use Rattle.world.specs.declared.entry.Holder.{Holder}
use Rattle.world.specs.declared.entry.Right.{Right}
use Rattle.world.specs.declared.entry.Right.TheVariants.{Reads, Publishes}
use Rattle.world.specs.declared.standing.Standing.{Standing}
use Rattle.world.specs.declared.standing.Standing.TheVariants as standing
use Rattle.world.specs.Standing.{same_entry, standing, standing_to, entry_seen}
use Rattle.machine.specs.declared.request.Body.{Body}
use Rattle.machine.specs.declared.request.Publish.{Publish}
use Rattle.world.specs.declared.reading.Reading.{Reading}
use Rattle.machine.specs.declared.reply.Decision.{Decision}
use Rattle.machine.specs.declared.reply.Decision.TheVariants.{Published, Same, Conflict, Full}
use Rattle.world.specs.Forms.{fits, suffix_of}
use Rattle.world.specs.GoMods.{reading_of}
use Rattle.world.specs.World.{World, IsEntry, group_of, above, seen_at, first_on, view, count, version_limit}
use Rattle.machine.specs.Machine.{first_failing, is_readable, may_publish, is_too_large, entry_time, entry_of, gomod_of}
use Rattle.machine.specs.Machine.{is_same, is_other, offered, request_checks}
use Rattle.machine.specs.Machine.{gomod_checks, shelf_checks, decided_by_shelf, decided, own_refusal, standing_if}
use Rattle.machine.specs.Machine.{standing_of, decision, after_decision, after_publish, place_of}
use Rattle.world.specs.Store.{IsRoomFor}
use Rattle.world.specs.EntryTest.{is_small, is_time_of}
use Rattle.world.proofs.EntryTests.{gomod_so, small_so, time_so}
use Rattle.world.proofs.PathForm.{path_form}

-- ---- one list of checks after another

pub failing_after : (cs ds : List (Bool × Decision))
    → first_failing (cs ++ ds) ≡ option_or (first_failing cs) (first_failing ds)
failing_after [] ds = refl
failing_after (c ∷ cs) ds =
    elim c.0 as (λ b. cond b (Some c.1) (first_failing (cs ++ ds))
    ≡ option_or (cond b (Some c.1) (first_failing cs)) (first_failing ds)) [
      | true ↦ refl
      | false ↦ failing_after cs ds
    ]

-- a publish that is refused for itself is refused whatever its go.mod says and whatever stands
pub refused : (p : Publish) (right : Option Right) (reading : Option Reading) (there : Standing) (n : ℕ) (d : Decision)
    → first_failing (request_checks p right) ≡ Some d → decided p right reading there n ≡ d
refused p right reading there n d e =
    ap (λ o. unwrap_or o Published)
    (failing_after (request_checks p right) (gomod_checks p reading ++ shelf_checks there n)
    ∙ ap (λ o. option_or o (first_failing (gomod_checks p reading ++ shelf_checks there n))) e)

-- a publish that passes its own checks is judged by its go.mod, and then by what stands
judged : (p : Publish) (right : Option Right) (reading : Option Reading) (there : Standing) (n : ℕ)
    → first_failing (request_checks p right) ≡ None
    → first_failing (request_checks p right ++ gomod_checks p reading ++ shelf_checks there n)
    ≡ option_or (first_failing (gomod_checks p reading)) (first_failing (shelf_checks there n))
judged p right reading there n e =
    failing_after (request_checks p right) (gomod_checks p reading ++ shelf_checks there n)
    ∙ ap (λ o. option_or o (first_failing (gomod_checks p reading ++ shelf_checks there n))) e
    ∙ failing_after (gomod_checks p reading) (shelf_checks there n)

pub refused_by_gomod : (p : Publish) (right : Option Right) (reading : Option Reading) (there : Standing) (n : ℕ)
    (d : Decision)
    → first_failing (request_checks p right) ≡ None → first_failing (gomod_checks p reading) ≡ Some d
    → decided p right reading there n ≡ d
refused_by_gomod p right reading there n d e f =
    ap (λ o. unwrap_or o Published)
    (judged p right reading there n e ∙ ap (λ o. option_or o (first_failing (shelf_checks there n))) f)

-- a publish that passes its own checks and those of its go.mod is judged by what stands
pub compared : (p : Publish) (right : Option Right) (reading : Option Reading) (there : Standing) (n : ℕ)
    → first_failing (request_checks p right) ≡ None → first_failing (gomod_checks p reading) ≡ None
    → decided p right reading there n ≡ unwrap_or (first_failing (shelf_checks there n)) Published
compared p right reading there n e f =
    ap (λ o. unwrap_or o Published)
    (judged p right reading there n e ∙ ap (λ o. option_or o (first_failing (shelf_checks there n))) f)

-- ---- the entry that a publish hands in

pub body_of : (p : Publish) (o : Option Body) (e : Entry) → option_map (entry_of p) o ≡ Some e
    → (b : Body) × (o ≡ Some b) × (entry_of p b ≡ e)
body_of p None e is = cc
body_of p (Some b) e is = (b, refl, cc)

-- the go.mod of a publish is that of its entry
gomod_handed : (p : Publish) (e : Entry) → offered p ≡ Some e → gomod_of p ≡ Some (reading_of e.gomod)
gomod_handed p e handed =
    let it = body_of p p.body e handed in
    ap (option_map (λ (b : Body). reading_of b.gomod)) it.1 ∙ ap (λ (x : Entry). Some (reading_of x.gomod)) it.2

-- ---- what a publish is refused for by itself

-- a check of the publish comes before those of its go.mod
pub refused_first : (p : Publish) (right : Right) (d : Decision)
    → first_failing (request_checks p (Some right)) ≡ Some d → own_refusal p right ≡ Some d
refused_first p right d e = failing_after (request_checks p (Some right)) (gomod_checks p (gomod_of p))
    ∙ ap (λ o. option_or o (first_failing (gomod_checks p (gomod_of p)))) e

pub then_by_gomod : (p : Publish) (right : Right) (e : Entry) (gomod : Reading)
    → first_failing (request_checks p (Some right)) ≡ None → offered p ≡ Some e → gomod ≡ reading_of e.gomod
    → own_refusal p right ≡ first_failing (gomod_checks p (Some gomod))
then_by_gomod p right e gomod passes handed read =
    failing_after (request_checks p (Some right)) (gomod_checks p (gomod_of p))
    ∙ ap (λ o. option_or o (first_failing (gomod_checks p (gomod_of p)))) passes
    ∙ ap (λ o. first_failing (gomod_checks p o)) (gomod_handed p e handed ∙ ap (λ (r : Reading). Some r) (sym read))

-- a publish that is refused for itself or its go.mod is refused whatever stands
pub refused_alone : (w : World) (h : Holder) (p : Publish) (d : Decision) → own_refusal p h.right ≡ Some d
    → decision w (Some h) p ≡ d
refused_alone w h p d e =
    let checks = shelf_checks (standing_of w h.shelf p) (count w h.shelf p.path) in
    ap (λ o. unwrap_or o Published)
    (failing_after (request_checks p (Some h.right) ++ gomod_checks p (gomod_of p)) checks
    ∙ ap (λ o. option_or o (first_failing checks)) e)

-- a publish that is not refused for itself or its go.mod is judged by how its entry compares with what stands
pub judged_by_shelf : (w : World) (h : Holder) (p : Publish) (e : Entry) → own_refusal p h.right ≡ None
    → offered p ≡ Some e → decision w (Some h) p
    ≡ decided_by_shelf (standing w h.shelf p.path (version_text p.version) e) (count w h.shelf p.path)
judged_by_shelf w h p e passes handed =
    let checks = shelf_checks (standing_of w h.shelf p) (count w h.shelf p.path) in
    ap (λ o. unwrap_or o Published)
    (failing_after (request_checks p (Some h.right) ++ gomod_checks p (gomod_of p)) checks
    ∙ ap (λ o. option_or o (first_failing checks)) passes)
    ∙ ap (λ o. decided_by_shelf (standing_if (entry_seen w h.shelf p.path (version_text p.version)) o)
    (count w h.shelf p.path)) handed

-- ---- checks that were passed

abbrev pub Passed : List (Bool × Decision) → Type 0
Passed [] = Unit {0}
Passed (c ∷ cs) = (c.0 ≡ false) × Passed cs

pub passed_none : (cs : List (Bool × Decision)) → Passed cs → first_failing cs ≡ None
passed_none [] all = refl
passed_none (c ∷ cs) all = ap (λ b. cond b (Some c.1) (first_failing cs)) all.0 ∙ passed_none cs all.1

-- where the outcome is no answer of the first checks, these were passed
pub passed_before : (test : Decision → Bool) (cs ds : List (Bool × Decision)) (d : Decision) → test d ≡ true
    → list_any (λ c. test c.1) cs ≡ false
    → unwrap_or (first_failing (cs ++ ds)) Published ≡ d → Passed cs × (unwrap_or (first_failing ds) Published ≡ d)
passed_before test [] ds d is apart e = (tt, e)
passed_before test (c ∷ cs) ds d is apart e =
    let halves = or_parts (test c.1) (list_any (λ x. test x.1) cs) apart in
    elim c.0 as (λ b. c.0 ≡ b → unwrap_or (cond b (Some c.1) (first_failing (cs ++ ds))) Published ≡ d
    → ((c.0 ≡ false) × Passed cs) × (unwrap_or (first_failing ds) Published ≡ d)) [
      | true ↦ λ _ here. absurd (true≢false (sym is ∙ ap test (sym here) ∙ halves.0))
      | false ↦ λ passes rest. let more = passed_before test cs ds d is halves.1 rest in ((passes, more.0), more.1)
    ] refl e

abbrev pub is_published : Decision → Bool
is_published Published = true
is_published d = false

abbrev pub is_same_answer : Decision → Bool
is_same_answer Same = true
is_same_answer d = false

-- no check of a publish by itself has the answer `Published`
pub not_published : (p : Publish) (right : Right) (d : Decision) → own_refusal p right ≡ Some d
    → is_published d ≡ false
not_published p right d =
    none_has is_published (request_checks p (Some right) ++ gomod_checks p (gomod_of p)) d refl
  where
    none_has : (test : Decision → Bool) (cs : List (Bool × Decision)) (d : Decision)
        → list_any (λ c. test c.1) cs ≡ false → first_failing cs ≡ Some d → test d ≡ false
    none_has test [] d apart e = cc
    none_has test (c ∷ cs) d apart e =
        let halves = or_parts (test c.1) (list_any (λ x. test x.1) cs) apart in
        elim c.0 as (λ b. cond b (Some c.1) (first_failing cs) ≡ Some d → test d ≡ false) [
          | true ↦ λ here. sym (ap (λ o. test (unwrap_or o d)) here) ∙ halves.0
          | false ↦ λ later. none_has test cs d halves.1 later
        ] e

-- a publish that is refused by itself changes nothing
pub unchanged : (w : World) (h : Holder) (p : Publish) (d : Decision) → own_refusal p h.right ≡ Some d
    → after_publish w (Some h) p ≡ w
unchanged w h p d is =
    ap (after_decision w (Some h) p) (refused_alone w h p d is) ∙ kept d (not_published p h.right d is)
  where
    kept : (d : Decision) → is_published d ≡ false → after_decision w (Some h) p d ≡ w
    kept Published never = absurd (true≢false never)
    kept d never = refl

-- ---- a publish that passed the checks of itself and of its go.mod

pub record Passing (p : Publish) (right : Option Right) (reading : Option Reading) : Type 0 where
  pub own : Passed (request_checks p right)
  pub gomod : Passed (gomod_checks p reading)

passing : (p : Publish) (right : Option Right) (reading : Option Reading) (rest : List (Bool × Decision))
    → Passed (request_checks p right ++ gomod_checks p reading ++ rest) → Passing p right reading
passing p right reading rest all =
    let own = passed_front (request_checks p right) (gomod_checks p reading ++ rest) all in
    record { own = own.0; gomod = (passed_front (gomod_checks p reading) rest own.1).0 }
  where
    passed_front : (cs ds : List (Bool × Decision)) → Passed (cs ++ ds) → Passed cs × Passed ds
    passed_front [] ds all = (tt, all)
    passed_front (c ∷ cs) ds all = let more = passed_front cs ds all.1 in ((all.0, more.0), more.1)

-- the body splits into two files
pub files_split : (p : Publish) (right : Option Right) (reading : Option Reading) → Passing p right reading
    → is_none p.body ≡ false
files_split p right reading is = is.own.1.1.1.0

-- the entry that they make may stand
entry_form : (s : List ℕ) (p : Publish) (right : Option Right) (b : Body) → p.body ≡ Some b
    → Passing p right (gomod_of p) → IsEntry (place_of s p) (entry_of p b)
entry_form s p right b body is =
    let forms = and_parts (is_path p.path) (has_text p.version) (not-false (is_readable p) is.own.0) in
    let files = is.own.1.1.1.1 in
    let c : Class = class_of p.version in
    let small : is_too_large (Some (entry_of p b)) ≡ false =
    ap (λ o. is_too_large (option_map (entry_of p) o)) (sym body) ∙ files.0 in
    let sizes = small_so (entry_of p b) (not-false (is_small (entry_of p b)) small) in
    let read : gomod_of p ≡ Some (reading_of b.gomod) = ap (option_map (λ (x : Body). reading_of x.gomod)) body in
    let gomod : Passed (gomod_checks p (Some (reading_of b.gomod))) =
    subst (λ o. Passed (gomod_checks p o)) read is.gomod in
    record {
      path = path_form p.path forms.0;
      version = (p.version, (has-text p.version).0 forms.1);
      fits = not-false (fits (suffix_of p.path) p.version) files.1.0;
      gomod = sizes.0;
      zip = sizes.1;
      time = time_so c (entry_time c p.time) (not-false (is_time_of c (entry_time c p.time)) files.1.1.1.0);
      reads = gomod_so p.path p.version.marked b.gomod (reading_of b.gomod) refl gomod.0 gomod.1.0 gomod.1.1.0;
    }

-- ---- a publish that was stored

absent_from : (there : Standing) → is_same there ≡ false → is_other there ≡ false → there ≡ standing.Absent
absent_from standing.Absent same other = refl
absent_from standing.Same same other = absurd (true≢false same)
absent_from standing.Other same other = absurd (true≢false other)

-- only nothing that is seen makes an entry absent
nothing_there : (o : Option Entry) (e : Entry) → standing_to o e ≡ standing.Absent → o ≡ None
nothing_there None e is = refl
nothing_there (Some d) e is =
    elim (same_entry d e) as
    (λ b. cond b standing.Same standing.Other ≡ standing.Absent → Some d ≡ None) [
      | true ↦ λ no. absurd (cc no)
      | false ↦ λ no. absurd (cc no)
    ] is

pub body_there : (o : Option Body) → is_none o ≡ false → (b : Body) × (o ≡ Some b)
body_there None e = absurd (true≢false e)
body_there (Some b) e = (b, refl)

not_mapped : {A B : Type 0} (f : A → B) (o : Option A) → option_map f o ≡ None → o ≡ None
not_mapped f None e = refl
not_mapped f (Some x) e = cc

nothing_at : (o : Option Entry) (s : List ℕ) (rest : Option Seen) → option_or (seen_at o s) rest ≡ None → o ≡ None
nothing_at None s rest e = refl
nothing_at (Some x) s rest e = cc

-- what a publish was that passed all checks
pub record Accepted (p : Publish) (right : Option Right) (reading : Option Reading) (there : Standing) (n : ℕ) : Type 0
  where
    pub passing : Passing p right reading
    pub unseen : there ≡ standing.Absent
    pub room : n < version_limit

pub accepted : (p : Publish) (right : Option Right) (reading : Option Reading) (there : Standing) (n : ℕ)
    → decided p right reading there n ≡ Published → Accepted p right reading there n
accepted p right reading there n e =
    let all = passed_before is_published (request_checks p right ++ gomod_checks p reading) (shelf_checks there n)
    Published refl refl e in
    let shelf = (passed_before is_published (shelf_checks there n) [] Published refl refl all.1).0 in
    record {
      passing = passing p right reading [] all.0;
      unseen = absent_from there shelf.0 shelf.1.0;
      room = leb-false version_limit n shelf.1.1.0;
    }

pub unseen : (w : World) (h : Holder) (p : Publish) → decision w (Some h) p ≡ Published
    → view w h.shelf p.path (version_text p.version) ≡ None
unseen w h p e =
    let is = accepted p (Some h.right) (gomod_of p) (standing_of w h.shelf p) (count w h.shelf p.path) e in
    let body = body_there p.body (files_split p (Some h.right) (gomod_of p) is.passing) in
    let seen = entry_seen w h.shelf p.path (version_text p.version) in
    not_mapped _ _ (nothing_there seen (entry_of p body.0)
    (sym (ap (λ o. standing_if seen (option_map (entry_of p) o)) body.1) ∙ is.unseen))

-- if the decision on a publish to a shelf that exists is `Published`, there is room for its entry
pub room_for : (w : World) (h : Holder) (p : Publish) (e : Entry) → map.contains_key w.shelves h.shelf ≡ true
    → decision w (Some h) p ≡ Published → offered p ≡ Some e → IsRoomFor w (place_of h.shelf p) e
room_for w h p e stands is_published is_offered =
    let is = accepted p (Some h.right) (gomod_of p) (standing_of w h.shelf p) (count w h.shelf p.path) is_published in
    let body = body_of p p.body e is_offered in
    record {
      stands = stands;
      free = nothing_at (map.get w.entries (place_of h.shelf p)) h.shelf
          (first_on w (above (group_of w h.shelf)) p.path (version_text p.version)) (unseen w h p is_published);
      room = is.room;
      entry = subst (IsEntry (place_of h.shelf p)) body.2
          (entry_form h.shelf p (Some h.right) body.0 body.1 is.passing);
    }

-- ---- a publish whose like is there already

pub record Again (p : Publish) (right : Option Right) (reading : Option Reading) (there : Standing) : Type 0 where
  pub passing : Passing p right reading
  pub same : there ≡ standing.Same

same_so : (there : Standing) → is_same there ≡ true → there ≡ standing.Same
same_so standing.Same e = refl
same_so standing.Absent e = absurd (true≢false (sym e))
same_so standing.Other e = absurd (true≢false (sym e))

only_same : (x y z : Bool) → cond x Same (cond y Conflict (cond z Full Published)) ≡ Same → x ≡ true
only_same true y z e = refl
only_same false true z e = absurd (true≢false (sym (ap is_same_answer e)))
only_same false false true e = absurd (true≢false (sym (ap is_same_answer e)))
only_same false false false e = absurd (true≢false (sym (ap is_same_answer e)))

outcome_of : (x y z : Bool)
    → unwrap_or (cond x (Some Same) (cond y (Some Conflict) (cond z (Some Full) None))) Published
    ≡ cond x Same (cond y Conflict (cond z Full Published))
outcome_of true y z = refl
outcome_of false true z = refl
outcome_of false false true = refl
outcome_of false false false = refl

pub same_again : (p : Publish) (right : Option Right) (reading : Option Reading) (there : Standing) (n : ℕ)
    → decided p right reading there n ≡ Same → Again p right reading there
same_again p right reading there n e =
    let halves = passed_before is_same_answer (request_checks p right ++ gomod_checks p reading) (shelf_checks there n)
    Same refl refl e in
    record {
      passing = passing p right reading [] halves.0;
      same = same_so there (only_same (is_same there) (is_other there) (nat_le version_limit n)
          (sym (outcome_of (is_same there) (is_other there) (nat_le version_limit n)) ∙ halves.1));
    }

-- the right of a key whose publish was accepted
publishes : (right : Right) → not (may_publish (Some right)) ≡ false → right ≡ Publishes
publishes Publishes may = refl
publishes Reads may = absurd (true≢false may)

-- what passes with one key passes with any key that may publish
pub passes_again : (p : Publish) (right : Right) (reading : Option Reading) → Passing p (Some right) reading
    → Passing p (Some Publishes) reading
passes_again p right reading is = subst (λ r. Passing p (Some r) reading) (publishes right is.own.1.1.0) is

-- a publish that passes the checks, where the shelf sees an equal entry, gets the answer `Same`
pub same_decided : (p : Publish) (right : Option Right) (reading : Option Reading) (there : Standing) (n : ℕ)
    → Passing p right reading → there ≡ standing.Same
    → decided p right reading there n ≡ Same
same_decided p right reading there n is same =
    compared p right reading there n (passed_none (request_checks p right) is.own)
    (passed_none (gomod_checks p reading) is.gomod)
    ∙ ap (λ there. decided_by_shelf there n) same
