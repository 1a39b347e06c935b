-- Needs that are met in turn.
use Rattle.std.proofs.Common.{◌≡◌, ◌∙◌, List, [], ◌∷◌, ◌++◌, refl, sym, subst, Result, Ok, Err, Option, Some, None, inl}
use Rattle.std.proofs.Common.{inr}
use Rattle.std.specs.Prelude.{IsErrAnd, false}
use Rattle.std.proofs.lemmas.Bool.{true≢false}
use Rattle.world.specs.declared.registry.StoreFault.{StoreFault}
use Rattle.world.specs.declared.registry.StoreFault.TheVariants.{Memory}
use Rattle.machine.specs.Calls.{Question, History, noted, fault_of, comparison, count_of}
use Rattle.world.specs.declared.entry.Entry.{Entry}
use Rattle.world.specs.declared.entry.Holder.{Holder}
use Rattle.machine.specs.declared.request.Publish.{Publish}
use Rattle.machine.specs.declared.reply.Decision.{Decision}
use Rattle.machine.specs.declared.reply.Decision.TheVariants.{Published}
use Rattle.world.specs.World.{World}
use Rattle.machine.specs.Machine.{decision, first_failing, offered, own_refusal, request_checks}
use Rattle.machine.specs.Needs.{Need, Told, Room, Meets, check_needs, publish_needs, shelf_needs, store_needs}
use Rattle.machine.specs.Needs.{unless_refused, for_entry}
use Rattle.machine.proofs.Checks.{is_published, not_published, refused_alone as decided_alone, refused_first}

-- one call: it is answered, or it meets its fault
pub told_once : {T : Type 0} (old new : History) (q : Question) (result : Result T StoreFault)
    → new ≡ noted old q (fault_of result)
    → Meets old new (Told q ∷ []) (fault_of result)
told_once old new q (Ok x) is = inl (is, refl)
told_once old new q (Err fault) is = inr (fault, is, refl)

-- a call that was answered, and what comes after it
pub told_then : (old mid new : History) (q : Question) (ns : List Need) (met : Option StoreFault)
    → mid ≡ noted old q None → Meets mid new ns met → Meets old new (Told q ∷ ns) met
told_then old mid new q ns met is rest = inl (subst (λ h. Meets h new ns met) is rest)

-- a fault that is handed on
pub handed_on : {T : Type 0} (old new : History) (ns : List Need) (fault : StoreFault) (result : Result T StoreFault)
    → IsErrAnd result (λ e. e ≡ fault) → Meets old new ns (Some fault) → Meets old new ns (fault_of result)
handed_on old new ns fault (Ok x) on met = absurd on
handed_on old new ns fault (Err e) on met = subst (λ f. Meets old new ns (Some f)) (sym on) met

-- needs that were all met, and what comes after them
pub in_turn : (old mid new : History) (ns ms : List Need) (met : Option StoreFault) → Meets old mid ns None
    → Meets mid new ms met → Meets old new (ns ++ ms) met
in_turn old mid new [] ms met first rest = subst (λ h. Meets h new ms met) first.0 rest
in_turn old mid new (Room ∷ ns) ms met (inl on) rest = inl (in_turn old mid new ns ms met on rest)
in_turn old mid new (Room ∷ ns) ms met (inr out) rest = absurd (let e = out.1 in cc)
in_turn old mid new (Told q ∷ ns) ms met (inl on) rest = inl (in_turn (noted old q None) mid new ns ms met on rest)
in_turn old mid new (Told q ∷ ns) ms met (inr out) rest = absurd (let e = out.2 in cc)

-- a need that was refused ends it
pub refused_in : (old new : History) (ns ms : List Need) (fault : StoreFault) → Meets old new ns (Some fault)
    → Meets old new (ns ++ ms) (Some fault)
refused_in old new [] ms fault met = absurd (let e = met.1 in cc)
refused_in old new (Room ∷ ns) ms fault (inl on) = inl (refused_in old new ns ms fault on)
refused_in old new (Room ∷ ns) ms fault (inr out) = inr out
refused_in old new (Told q ∷ ns) ms fault (inl on) = inl (refused_in (noted old q None) new ns ms fault on)
refused_in old new (Told q ∷ ns) ms fault (inr out) = inr out

-- ---- the checks of a publish

-- the go.mod of a publish that is not refused by itself was not read
pub no_room : (h : History) (holder : Holder) (p : Publish)
    → first_failing (request_checks p (Some holder.right)) ≡ None
    → Meets h h (check_needs holder p) (Some Memory)
no_room h holder p passes = rw passes (inr (refl, refl))

-- the checks of a publish that is refused by itself, or by its go.mod, ask nothing
refused_alone : (h : History) (holder : Holder) (p : Publish) (d : Decision) → own_refusal p holder.right ≡ Some d
    → Meets h h (check_needs holder p) None
refused_alone h holder p d refused = go (first_failing (request_checks p (Some holder.right)))
  where
    go : (o : Option Decision)
        → Meets h h (unless_refused o (Room ∷ unless_refused (own_refusal p holder.right) (shelf_needs holder.shelf p)))
        None
    go None = inl (rw refused (refl, refl))
    go (Some e) = (refl, refl)

-- any other asks what stands
pub asks_on : (old new : History) (holder : Holder) (p : Publish) (e : Entry) (met : Option StoreFault)
    → own_refusal p holder.right ≡ None → offered p ≡ Some e
    → Meets old new
    (Told (comparison holder.shelf p.path p.version) ∷ Told (count_of holder.shelf p.path) ∷ []) met
    → Meets old new (check_needs holder p) met
asks_on old new holder p e met passes handed rest = go (first_failing (request_checks p (Some holder.right))) refl
  where
    asked : Meets old new (shelf_needs holder.shelf p) met
    asked = subst (λ o. Meets old new (for_entry o (Told (comparison holder.shelf p.path p.version))
        ++ Told (count_of holder.shelf p.path) ∷ []) met) (sym handed) rest

    go : (o : Option Decision) → first_failing (request_checks p (Some holder.right)) ≡ o
        → Meets old new (unless_refused o
        (Room ∷ unless_refused (own_refusal p holder.right) (shelf_needs holder.shelf p))) met
    go None is = inl (rw passes asked)
    go (Some d) is = absurd (let never = sym passes ∙ refused_first p holder.right d is in cc)

-- a publish that was decided and carried out
pub publish_in_turn : (old mid new : History) (w : World) (holder : Holder) (p : Publish) (d : Decision)
    (met : Option StoreFault)
    → decision w (Some holder) p ≡ d → Meets old mid (check_needs holder p) None
    → Meets mid new (store_needs holder p d) met
    → Meets old new (publish_needs w (Some holder) p) met
publish_in_turn old mid new w holder p d met decided checked carried =
    in_turn old mid new (check_needs holder p) (store_needs holder p (decision w (Some holder) p)) met checked
    (subst (λ e. Meets mid new (store_needs holder p e) met) (sym decided) carried)

-- a publish that is refused by itself, or by its go.mod, asks nothing and is not stored
pub refused_in_turn : (h : History) (w : World) (holder : Holder) (p : Publish) (d : Decision)
    → own_refusal p holder.right ≡ Some d → Meets h h (publish_needs w (Some holder) p) None
refused_in_turn h w holder p d refused =
    publish_in_turn h h h w holder p d None (decided_alone w holder p d refused) (refused_alone h holder p d refused)
    (stores_nothing d (not_published p holder.right d refused))
  where
    stores_nothing : (d : Decision) → is_published d ≡ false → Meets h h (store_needs holder p d) None
    stores_nothing Published never = absurd (true≢false never)
    stores_nothing d never = (refl, refl)
