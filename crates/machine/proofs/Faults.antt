-- What a request needs does not depend on what its shelf does not see.
use Rattle.std.proofs.Common.{◌≡◌, ◌∙◌, ℕ, List, [], ◌∷◌, ◌++◌, refl, sym, ap, subst, Option, Some, None, inl, inr, ◌⊎◌}
use Rattle.std.specs.FinMap as map
use Rattle.std.proofs.lemmas.List.{append_assoc, append_cancel_left, append-nil}
use Rattle.modver.specs.SemanticVersion.{SemanticVersion}
use Rattle.world.specs.declared.entry.Entry.{Entry}
use Rattle.world.specs.declared.entry.Holder.{Holder}
use Rattle.world.specs.declared.registry.StoreFault.{StoreFault}
use Rattle.world.specs.declared.registry.StoreFault.TheVariants.{Memory}
use Rattle.world.specs.Latest.{latest_of}
use Rattle.world.specs.World.{World, chain}
use Rattle.machine.specs.declared.request.Request.TheVariants.{Unreadable, Get, Put}
use Rattle.machine.specs.declared.request.Publish.{Publish}
use Rattle.machine.specs.declared.request.Query.{Query}
use Rattle.machine.specs.declared.request.Query.TheVariants as query
use Rattle.machine.specs.declared.reply.Decision.{Decision}
use Rattle.machine.specs.declared.reply.Decision.TheVariants.{Published}
use Rattle.machine.specs.Calls.{Question, Call, History, noted, of_key, comparison, count_of, insertion, latest_at}
use Rattle.machine.specs.Faults.{IsOwnNeed, AreOwnNeeds, NeedsAreOwn, UnknownNeedsNothing, NeedsAreAlike, AreRefusedBy}
use Rattle.machine.specs.Faults.{FaultsAreAlike}
use Rattle.machine.specs.Machine.{decision, first_failing, offered, own_refusal, request_checks}
use Rattle.machine.specs.Needs.{Need, Told, Room, needs, Meets, latest_needs, query_needs, keyed_needs, for_entry}
use Rattle.machine.specs.Needs.{unless_refused, check_needs, store_needs, publish_needs}
use Rattle.machine.proofs.Alike.{latest_same, decision_same}
use Rattle.machine.proofs.Blind.{Known, known, same_key, no_key}
use Rattle.machine.proofs.Views.{SameSeen}

-- ---- they are those of its shelf

own_latest : (s p : List ℕ) (o : Option SemanticVersion) → AreOwnNeeds s (latest_needs s p o)
own_latest s p None = tt
own_latest s p (Some v) = ((refl, λ e. cc), tt)

own_query : (w : World) (s : List ℕ) (q : Query) → AreOwnNeeds s (query_needs w s q)
own_query w s (query.GoMod p v) = ((refl, λ e. cc), tt)
own_query w s (query.Zip p v) = ((refl, λ e. cc), tt)
own_query w s (query.Info p v) = (tt, ((refl, λ e. cc), tt))
own_query w s (query.List p) = ((refl, λ e. cc), tt)
own_query w s (query.Latest p) = ((refl, λ e. cc), own_latest s p (latest_of w s p))
own_query w s query.Modules = ((refl, λ e. cc), tt)

own_both : (s : List ℕ) (ns ms : List Need) → AreOwnNeeds s ns → AreOwnNeeds s ms → AreOwnNeeds s (ns ++ ms)
own_both s [] ms first rest = rest
own_both s (n ∷ ns) ms first rest = (first.0, own_both s ns ms first.1 rest)

own_entry : (s : List ℕ) (o : Option Entry) (n : Need) → IsOwnNeed s n → AreOwnNeeds s (for_entry o n)
own_entry s None n own = tt
own_entry s (Some e) n own = (own, tt)

own_unless : (s : List ℕ) (o : Option Decision) (ns : List Need) → AreOwnNeeds s ns
    → AreOwnNeeds s (unless_refused o ns)
own_unless s None ns own = own
own_unless s (Some d) ns own = tt

own_checks : (h : Holder) (p : Publish) → AreOwnNeeds h.shelf (check_needs h p)
own_checks h p =
    own_unless h.shelf (first_failing (request_checks p (Some h.right))) _ (
      tt,
      own_unless h.shelf (own_refusal p h.right) _
          (own_both h.shelf (for_entry (offered p) (Told (comparison h.shelf p.path p.version)))
          (Told (count_of h.shelf p.path) ∷ [])
          (own_entry h.shelf (offered p) (Told (comparison h.shelf p.path p.version)) (refl, λ e. cc))
          ((refl, λ e. cc), tt)),
    )

own_store : (h : Holder) (p : Publish) (d : Decision) → AreOwnNeeds h.shelf (store_needs h p d)
own_store h p Published = own_entry h.shelf (offered p) (Told (insertion h.shelf p.path p.version)) (refl, λ e. cc)
own_store h p d = tt

own_publish : (w : World) (h : Holder) (p : Publish) → AreOwnNeeds h.shelf (publish_needs w (Some h) p)
own_publish w h p = own_both h.shelf (check_needs h p) (store_needs h p (decision w (Some h) p)) (own_checks h p)
    (own_store h p (decision w (Some h) p))

pub needs_are_own : NeedsAreOwn
needs_are_own w k h Unreadable by at = absurd (no_key k by)
needs_are_own w k h (Get j q) by at =
    let same = same_key j k by in
    let found : map.get w.keys j ≡ Some h = ap (map.get w.keys) (sym same) ∙ at in (
      query_needs w h.shelf q,
      ap (λ o. Told (of_key j) ∷ keyed_needs w o q) found
          ∙ ap (λ y. Told (of_key y) ∷ query_needs w h.shelf q) (sym same),
      own_query w h.shelf q,
    )
needs_are_own w k h (Put j p) by at =
    let same = same_key j k by in
    let found : map.get w.keys j ≡ Some h = ap (map.get w.keys) (sym same) ∙ at in (
      publish_needs w (Some h) p,
      ap (λ o. Told (of_key j) ∷ publish_needs w o p) found
          ∙ ap (λ y. Told (of_key y) ∷ publish_needs w (Some h) p) (sym same),
      own_publish w h p,
    )

pub unknown_needs_nothing : UnknownNeedsNothing
unknown_needs_nothing w k Unreadable by at = absurd (no_key k by)
unknown_needs_nothing w k (Get j q) by at =
    let same = same_key j k by in
    ap (λ o. Told (of_key j) ∷ keyed_needs w o q) (ap (map.get w.keys) (sym same) ∙ at)
    ∙ ap (λ y. Told (of_key y) ∷ []) (sym same)
unknown_needs_nothing w k (Put j p) by at =
    let same = same_key j k by in
    ap (λ o. Told (of_key j) ∷ publish_needs w o p) (ap (map.get w.keys) (sym same) ∙ at)
    ∙ ap (λ y. Told (of_key y) ∷ []) (sym same)

-- ---- they are alike

query_needs_same : (w x : World) (s : List ℕ) → chain w s ≡ chain x s → SameSeen w x s → (q : Query)
    → query_needs w s q ≡ query_needs x s q
query_needs_same w x s chains seen (query.GoMod p v) = refl
query_needs_same w x s chains seen (query.Zip p v) = refl
query_needs_same w x s chains seen (query.Info p v) = refl
query_needs_same w x s chains seen (query.List p) = refl
query_needs_same w x s chains seen (query.Latest p) =
    ap (λ o. Told (latest_at s p) ∷ latest_needs s p o) (latest_same w x s chains seen p)
query_needs_same w x s chains seen query.Modules = refl

pub needs_are_alike : NeedsAreAlike
needs_are_alike w x s t k Unreadable is_w is_x low st own by = absurd (no_key k by)
needs_are_alike w x s t k (Get j q) is_w is_x low st own by =
    let h = own.0 in
    let both = subst (λ y. Known w x y h) (same_key j k by) (known w x s t k own is_w is_x low st) in
    ap (λ o. Told (of_key j) ∷ keyed_needs w o q) both.first
    ∙ ap (λ ns. Told (of_key j) ∷ ns) (query_needs_same w x h.shelf both.chains both.seen q)
    ∙ sym (ap (λ o. Told (of_key j) ∷ keyed_needs x o q) both.second)
needs_are_alike w x s t k (Put j p) is_w is_x low st own by =
    let h = own.0 in
    let both = subst (λ y. Known w x y h) (same_key j k by) (known w x s t k own is_w is_x low st) in
    ap (λ o. Told (of_key j) ∷ publish_needs w o p) both.first
    ∙ ap (λ d. Told (of_key j) ∷ check_needs h p ++ store_needs h p d) (decision_same w x h p both.chains both.seen)
    ∙ sym (ap (λ o. Told (of_key j) ∷ publish_needs x o p) both.second)

-- ---- faults

-- a history that grew by a call and then by more, and one that grew by these calls, if they are one, grew by that call
-- first
grown : (old new : History) (q : Question) (met : Option StoreFault) (more calls : List Call)
    → new.calls ≡ (noted old q met).calls ++ more → new.calls ≡ old.calls ++ calls
    → calls ≡ (record { question = q; fault = met }) ∷ more
grown old new q met more calls is by =
    append_cancel_left old.calls calls ((record { question = q; fault = met }) ∷ more)
    (sym by ∙ is ∙ append_assoc old.calls ((record { question = q; fault = met }) ∷ []) more)

-- needs that were met only add to the history
begins : (old new : History) (ns : List Need) (met : Option StoreFault) → Meets old new ns met
    → (more : List Call) × (new.calls ≡ old.calls ++ more)
begins old new [] met is = ([], ap (λ (h : History). h.calls) is.0 ∙ sym (append-nil old.calls))
begins old new (Room ∷ ns) met (inl on) = begins old new ns met on
begins old new (Room ∷ ns) met (inr out) = ([], ap (λ (h : History). h.calls) out.0 ∙ sym (append-nil old.calls))
begins old new (Told q ∷ ns) met (inl on) =
    let rest = begins (noted old q None) new ns met on in (
      (record { question = q; fault = None }) ∷ rest.0,
      rest.1
          ∙ append_assoc old.calls ((record { question = q; fault = None }) ∷ []) rest.0,
    )
begins old new (Told q ∷ ns) met (inr out) =
    ((record { question = q; fault = Some out.0 }) ∷ [], ap (λ (h : History). h.calls) out.1)

-- the fault that needs meet whose questions are refused by this
abbrev MeetsBy : (Question → Option StoreFault) → List Need → Option StoreFault → Type 0
MeetsBy refuses [] met = met ≡ None
MeetsBy refuses (Room ∷ ns) met = MeetsBy refuses ns met ⊎ (met ≡ Some Memory)
MeetsBy refuses (Told q ∷ ns) met = ((refuses q ≡ None) × MeetsBy refuses ns met)
    ⊎ ((fault : StoreFault) × (refuses q ≡ Some fault) × (met ≡ Some fault))

by_refusals : (refuses : Question → Option StoreFault) (old new : History) (calls : List Call) (ns : List Need)
    (met : Option StoreFault)
    → Meets old new ns met → new.calls ≡ old.calls ++ calls → AreRefusedBy refuses calls → MeetsBy refuses ns met
by_refusals refuses old new calls [] met is by are = is.1
by_refusals refuses old new calls (Room ∷ ns) met (inl on) by are =
    inl (by_refusals refuses old new calls ns met on by are)
by_refusals refuses old new calls (Room ∷ ns) met (inr out) by are = inr out.1
by_refusals refuses old new calls (Told q ∷ ns) met (inl on) by are =
    let rest = begins (noted old q None) new ns met on in
    let one = subst (AreRefusedBy refuses) (grown old new q None rest.0 calls rest.1 by) are in
    inl (sym one.0, by_refusals refuses (noted old q None) new rest.0 ns met on rest.1 one.1)
by_refusals refuses old new calls (Told q ∷ ns) met (inr out) by are =
    let here = ap (λ (h : History). h.calls) out.1 ∙ sym (append-nil (noted old q (Some out.0)).calls) in
    let one = subst (AreRefusedBy refuses) (grown old new q (Some out.0) [] calls here by) are in
    inr (out.0, sym one.0, out.2)

met_alike : (refuses : Question → Option StoreFault) (ns : List Need) (met met_too : Option StoreFault)
    → MeetsBy refuses ns met → MeetsBy refuses ns met_too
    → (met ≡ met_too) ⊎ ((met ≡ Some Memory) ⊎ (met_too ≡ Some Memory))
met_alike refuses [] met met_too one two = inl (one ∙ sym two)
met_alike refuses (Room ∷ ns) met met_too (inl one) (inl two) = met_alike refuses ns met met_too one two
met_alike refuses (Room ∷ ns) met met_too (inl one) (inr two) = inr (inr two)
met_alike refuses (Room ∷ ns) met met_too (inr one) two = inr (inl one)
met_alike refuses (Told q ∷ ns) met met_too (inl one) (inl two) = met_alike refuses ns met met_too one.1 two.1
met_alike refuses (Told q ∷ ns) met met_too (inl one) (inr two) = absurd (let e = sym one.0 ∙ two.1 in cc)
met_alike refuses (Told q ∷ ns) met met_too (inr one) (inl two) = absurd (let e = sym two.0 ∙ one.1 in cc)
met_alike refuses (Told q ∷ ns) met met_too (inr one) (inr two) = inl (one.2 ∙ sym one.1 ∙ two.1 ∙ sym two.2)

pub faults_are_alike : FaultsAreAlike
faults_are_alike w x s t k a refuses old new old_too new_too calls calls_too met met_too is_w is_x low st own by one
    grew are two grew_too are_too =
    met_alike refuses (needs x a) met met_too
    (subst (λ ns. MeetsBy refuses ns met) (needs_are_alike w x s t k a is_w is_x low st own by)
    (by_refusals refuses old new calls (needs w a) met one grew are))
    (by_refusals refuses old_too new_too calls_too (needs x a) met_too two grew_too are_too)
