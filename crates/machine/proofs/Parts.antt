-- What a shelf sees, as a world of its own, answers the shelf as the whole world does.
use Rattle.std.proofs.Common.{◌≡◌, ℕ, List, [], ◌∷◌, Bool, true, false, refl, ◌∙◌, sym, ap, subst, Option, Some, None}
use Rattle.std.specs.FinMap as map
use Rattle.std.proofs.lemmas.Bool.{cond-true, cond-false}
use Rattle.world.specs.declared.entry.Entry.{Entry}
use Rattle.world.specs.declared.entry.Holder.{Holder}
use Rattle.machine.specs.declared.request.Publish.{Publish}
use Rattle.machine.specs.declared.request.Request.{Request}
use Rattle.machine.specs.declared.request.Request.TheVariants.{Unreadable, Get, Put}
use Rattle.machine.specs.declared.request.Event.{Event}
use Rattle.machine.specs.declared.request.Event.TheVariants.{Requested, TeamAdd, GroupAdd, KeyAdd, KeyRevoke}
use Rattle.machine.specs.declared.request.Event.TheVariants.{KeysRevoke}
use Rattle.machine.specs.declared.reply.Decision.{Decision}
use Rattle.machine.specs.declared.reply.Decision.TheVariants.{Published}
use Rattle.machine.specs.declared.reply.Reply.TheVariants as reply
use Rattle.machine.specs.declared.reply.Answer.{Answer}
use Rattle.machine.specs.declared.reply.Answer.TheVariants.{Replied, Failed}
use Rattle.world.specs.World.{World, IsWorld, group_in, above, chain, is_among, sees, place}
use Rattle.world.specs.Part.{part, is_held}
use Rattle.world.proofs.Parts.{part_is_world, parent_left, key_at, entry_at, held_key}
use Rattle.world.proofs.Sees.{sees_itself, same_chain}
use Rattle.machine.specs.Machine.{decision, after_decision, stored, offered, place_of, request_reply, after_request}
use Rattle.machine.specs.Machine.{reply_to}
use Rattle.machine.specs.Machine.{after, after_all, replies, Run, answered, replies_of, is_readable}
use Rattle.machine.specs.Isolation.{key_of, Low}
use Rattle.machine.specs.Parts.{PartIsLow, IsOwn, AllOwn, IsBlindThroughout, PartTellsTheSame, IsNotFound, AllRequested}
use Rattle.machine.specs.Parts.{OthersAreNotFound}
use Rattle.machine.proofs.Blind.{blind, same_whole, no_key}
use Rattle.machine.proofs.Chains.{Later}
use Rattle.machine.proofs.Sound.{sound}

-- ---- it is the same to the shelf

pub part_is_low : PartIsLow
part_is_low w s is = record {
  chains = same_chain w (part w s) s (sym (parent_left w s s (sees_itself w s)));
  entries = λ t seen. same_whole w (part w s) t
      (λ p v. sym (entry_at w s (place t p v) ∙ cond-true (sees w s t) (map.get w.entries (place t p v)) None seen));
  keys = λ k h seen. (
    (λ at. key_at w s k ∙ cond-true (is_held (chain w s) (map.get w.keys k)) (map.get w.keys k) None
        (ap (is_held (chain w s)) at ∙ seen) ∙ at),
    (λ at. (held_key w s k h at).0),
  );
}

-- ---- requests leave the registry

-- the keys and the shelves are those that were
pub record SameRegistry (w x : World) : Type 0 where
  pub keys : x.keys ≡ w.keys
  pub shelves : x.shelves ≡ w.shelves

registry_stored : (w : World) (h : Holder) (p : Publish) (o : Option Entry)
    → SameRegistry w (stored w (place_of h.shelf p) o)
registry_stored w h p None = record { keys = refl; shelves = refl }
registry_stored w h p (Some e) = record { keys = refl; shelves = refl }

registry_decided : (w : World) (h : Option Holder) (p : Publish) (d : Decision)
    → SameRegistry w (after_decision w h p d)
registry_decided w (Some h) p Published = registry_stored w h p (offered p)
registry_decided w h p d = record { keys = refl; shelves = refl }

pub registry_asked : (w : World) (a : Request) → SameRegistry w (after_request w a)
registry_asked w Unreadable = record { keys = refl; shelves = refl }
registry_asked w (Get k q) = record { keys = refl; shelves = refl }
registry_asked w (Put k p) = registry_decided w (map.get w.keys k) p (decision w (map.get w.keys k) p)

-- a world of the same shelves sees the same
same_sight : (w x : World) (s t : List ℕ) → x.shelves ≡ w.shelves → sees x s t ≡ sees w s t
same_sight w x s t e = ap (λ m. is_among (s ∷ above (group_in (map.get m s))) t) e

still_own : (w x : World) (s : List ℕ) (es : List Event) → SameRegistry w x → AllOwn w s es → AllOwn x s es
still_own w x s [] same own = tt
still_own w x s (e ∷ es) same own =
    let it = own.0 in (
      (it.0, it.1, it.2, ap (λ m. map.get m it.0) same.keys ∙ it.3, same_sight w x s it.1.shelf same.shelves ∙ it.4),
      still_own w x s es same own.1,
    )

-- ---- one request, and a list

own_blind : (w x : World) (s : List ℕ) (e : Event) → IsWorld w → IsWorld x → Low w x s → IsOwn w s e
    → (a : Request) × (e ≡ Requested a) × (request_reply w a ≡ request_reply x a)
    × Low (after_request w a) (after_request x a) s
own_blind w x s (Requested a) is_w is_x low own = let it =
    blind w x s own.1.shelf own.0 a is_w is_x low own.4 (own.1, own.3, refl) own.2 in (a, refl, it.0, it.1)
own_blind w x s (TeamAdd t group) is_w is_x low own = absurd (no_key own.0 own.2)
own_blind w x s (GroupAdd g) is_w is_x low own = absurd (no_key own.0 own.2)
own_blind w x s (KeyAdd t k right) is_w is_x low own = absurd (no_key own.0 own.2)
own_blind w x s (KeyRevoke k) is_w is_x low own = absurd (no_key own.0 own.2)
own_blind w x s (KeysRevoke t) is_w is_x low own = absurd (no_key own.0 own.2)

pub blind_throughout : IsBlindThroughout
blind_throughout w x s [] is_w is_x low own = (refl, low)
blind_throughout w x s (e ∷ es) is_w is_x low own =
    let one = own_blind w x s e is_w is_x low own.0 in
    let registry : SameRegistry w (after w e) =
    subst (λ f. SameRegistry w (after w f)) (sym one.1) (registry_asked w one.0) in
    let reply : reply_to w e ≡ reply_to x e = ap (reply_to w) one.1 ∙ one.2 ∙ ap (reply_to x) (sym one.1) in
    let after_low : Low (after w e) (after x e) s = subst (λ f. Low (after w f) (after x f) s) (sym one.1) one.3 in
    let rest = blind_throughout (after w e) (after x e) s es (sound w e is_w) (sound x e is_x) after_low
    (still_own w (after w e) s es registry own.1) in
    (ap (λ r. r ∷ replies (after w e) es) reply ∙ ap (λ rs. reply_to x e ∷ rs) rest.0, rest.1)

-- ---- runs

-- what a run tells are the machine's replies to what it answered
pub told_by_machine : (w new : World) (es : List Event) (answers : List Answer) → Run w es answers new
    → replies_of answers ≡ replies w (answered es answers)
told_by_machine w new [] [] run = refl
told_by_machine w new [] (a ∷ answers) run = absurd run
told_by_machine w new (e ∷ es) [] run = absurd run
told_by_machine w new (e ∷ es) (Replied r ∷ answers) run = ap (λ q. q ∷ replies_of answers) run.0
    ∙ ap (λ rs. reply_to w e ∷ rs) (told_by_machine (after w e) new es answers run.1)
told_by_machine w new (e ∷ es) (Failed fault ∷ answers) run = told_by_machine w new es answers run

-- a run leads where the machine leads with the events that were answered
pub run_leads : (w new : World) (es : List Event) (answers : List Answer) → Run w es answers new
    → new ≡ after_all w (answered es answers)
run_leads w new [] [] run = run
run_leads w new [] (a ∷ answers) run = absurd run
run_leads w new (e ∷ es) [] run = absurd run
run_leads w new (e ∷ es) (Replied r ∷ answers) run = run_leads (after w e) new es answers run.1
run_leads w new (e ∷ es) (Failed fault ∷ answers) run = run_leads w new es answers run

pub part_tells_the_same : PartTellsTheSame
part_tells_the_same w new other s first second told heard is run again same own =
    told_by_machine w new first told run
    ∙ (blind_throughout w (part w s) s (answered first told) is (part_is_world w s is) (part_is_low w s is) own).0
    ∙ ap (replies (part w s)) same ∙ sym (told_by_machine (part w s) other second heard again)

-- ---- requests of others

unknown_put : (w : World) (p : Publish) → IsNotFound (reply.Decided (decision w None p))
unknown_put w p = go (is_readable p) refl
  where
    go : (b : Bool) → is_readable p ≡ b → IsNotFound (reply.Decided (decision w None p))
    go true e = rw e tt
    go false e = rw e tt

pub unknown_asked : (x : World) (k : List ℕ) (a : Request) → map.get x.keys k ≡ None → key_of a ≡ Some k
    → IsNotFound (request_reply x a)
unknown_asked x k Unreadable none by = tt
unknown_asked x k (Get j q) none by = let same : j ≡ k = cc in rw (same, none) tt
unknown_asked x k (Put j p) none by =
    let same : j ≡ k = cc in
    subst (λ o. IsNotFound (reply.Decided (decision x o p))) (sym (ap (map.get x.keys) same ∙ none))
    (unknown_put x p)

pub keys_through : (x : World) (es : List Event) → AllRequested es → (after_all x es).keys ≡ x.keys
keys_through x [] asked = refl
keys_through x (Requested a ∷ es) asked = keys_through (after_request x a) es asked ∙ (registry_asked x a).keys
keys_through x (TeamAdd t group ∷ es) asked = absurd asked
keys_through x (GroupAdd g ∷ es) asked = absurd asked
keys_through x (KeyAdd t k right ∷ es) asked = absurd asked
keys_through x (KeyRevoke k ∷ es) asked = absurd asked
keys_through x (KeysRevoke t ∷ es) asked = absurd asked

-- a run of requests alone leaves the shelves
shelves_through : (w new : World) (es : List Event) (answers : List Answer) → AllRequested es → Run w es answers new
    → new.shelves ≡ w.shelves
shelves_through w new [] [] asked run = ap (λ (x : World). x.shelves) run
shelves_through w new [] (a ∷ answers) asked run = absurd run
shelves_through w new (e ∷ es) [] asked run = absurd run
shelves_through w new (Requested a ∷ es) (Replied r ∷ answers) asked run =
    shelves_through (after_request w a) new es answers asked run.1 ∙ (registry_asked w a).shelves
shelves_through w new (Requested a ∷ es) (Failed fault ∷ answers) asked run = shelves_through w new es answers asked run
shelves_through w new (TeamAdd t group ∷ es) (a ∷ answers) asked run = absurd asked
shelves_through w new (GroupAdd g ∷ es) (a ∷ answers) asked run = absurd asked
shelves_through w new (KeyAdd t k right ∷ es) (a ∷ answers) asked run = absurd asked
shelves_through w new (KeyRevoke k ∷ es) (a ∷ answers) asked run = absurd asked
shelves_through w new (KeysRevoke t ∷ es) (a ∷ answers) asked run = absurd asked

-- a world later than the begin of a run of requests is later than its end
pub later_than_asked : (w new later : World) (es : List Event) (answers : List Answer) → AllRequested es
    → Run w es answers new → Later w later → Later new later
later_than_asked w new later es answers asked run then =
    let same = sym (shelves_through w new es answers asked run) in
    record {
      is = then.is;
      same = λ s stands.
          let it = then.same s (ap (λ m. map.contains_key m s) same ∙ stands) in
          record { stands = it.stands; chains = it.chains ∙ same_chain w new s (ap (λ m. map.get m s) same) };
    }

pub others_are_not_found : OthersAreNotFound
others_are_not_found w s k before a far by asked =
    unknown_asked (after_all (part w s) before) k a
    (ap (λ m. map.get m k) (keys_through (part w s) before asked) ∙ key_at w s k
    ∙ cond-false (is_held (chain w s) (map.get w.keys k)) (map.get w.keys k) None far) by
