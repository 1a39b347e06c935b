-- A store of some teams' part replies to them as the whole does.
use Rattle.std.proofs.Common.{◌≡◌, ℕ, List, [], ◌∷◌, ◌++◌, true, inl, inr, refl, ◌∙◌, sym, ap, subst, Some, None}
use Rattle.std.specs.FinMap as map
use Rattle.std.proofs.lemmas.Bool.{cond-true, cond-false}
use Rattle.sqlite_rules.specs.Lists.{Has}
use Rattle.world.specs.declared.entry.Holder.{Holder}
use Rattle.world.specs.World.{World, IsWorld, place, group_in, above, is_among, sees}
use Rattle.world.specs.Part.{is_held}
use Rattle.world.proofs.Sees.{sees_itself, sees_common, same_chain}
use Rattle.machine.specs.declared.request.Request.{Request}
use Rattle.machine.specs.declared.request.Request.TheVariants.{Unreadable, Get, Put}
use Rattle.machine.specs.declared.request.Event.{Event}
use Rattle.machine.specs.declared.request.Event.TheVariants.{Requested, TeamAdd, GroupAdd, KeyAdd, KeyRevoke}
use Rattle.machine.specs.declared.request.Event.TheVariants.{KeysRevoke}
use Rattle.machine.specs.Machine.{decision, after_decision, request_reply, after_request, after_all, replies, answered}
use Rattle.machine.specs.Isolation.{key_of, Low}
use Rattle.machine.proofs.Blind.{blind, same_whole, low_decided, no_key}
use Rattle.machine.proofs.Sound.{sound}
use Rattle.machine.proofs.Parts.{told_by_machine, SameRegistry, registry_asked, unknown_asked, keys_through}
use Rattle.machine.proofs.Served.{decided_of}
use Rattle.store.specs.Parts.{part_of, chains, AreTeams}
use Rattle.store.proofs.PartLemmas.{parent_at, key_at, entry_at, held_key, chains_has, chains_from, chains_world}
use Rattle.runner.specs.Parts.{AllOf, TeamsAreToldTheSame, OthersOfTeamsAreNotFound}

-- ---- the part is the same to each of the teams

-- the worlds are the same to each of these
abbrev AllLow : World → World → List (List ℕ) → Type 0
AllLow w x ts = (t : List ℕ) → Has ts t → Low w x t

module _ (w : World) (ts : List (List ℕ)) (t : List ℕ) (there : Has ts t) where
  abbrev part : World
  part = part_of w (chains w ts)

  seen_among : (s : List ℕ) → sees w t s ≡ true → is_among (chains w ts) s ≡ true
  seen_among s seen = chains_has w ts t s there seen

  itself_same : map.get w.shelves t ≡ map.get part.shelves t
  itself_same = sym (parent_at w (chains w ts) t
      ∙ cond-true (is_among (chains w ts) t) (map.get w.shelves t) None (seen_among t (sees_itself w t)))

  part_low : Low w part t
  part_low = record {
    chains = same_chain w part t itself_same;
    entries = λ s seen. same_whole w part s
        (λ p v. sym (entry_at w (chains w ts) (place s p v)
        ∙ cond-true (is_among (chains w ts) s) (map.get w.entries (place s p v)) None (seen_among s seen)));
    keys = λ k h seen. (
      (λ at. key_at w (chains w ts) k
          ∙ cond-true (is_held (chains w ts) (map.get w.keys k)) (map.get w.keys k) None
          (ap (is_held (chains w ts)) at ∙ seen_among h.shelf seen) ∙ at),
      (λ at. (held_key w (chains w ts) k h at).0),
    );
  }

still_of : (w x : World) (ss : List (List ℕ)) (es : List Event) → SameRegistry w x → AllOf w ss es → AllOf x ss es
still_of w x ss [] same of = tt
still_of w x ss (e ∷ es) same of = let it = of.0 in
    ((it.0, it.1, it.2, ap (λ m. map.get m it.0) same.keys ∙ it.3, it.4), still_of w x ss es same of.1)

-- ---- one request, and a list

-- a request with a key that both worlds hold alike, and that gets equal replies, leaves worlds that are the same to a
-- shelf
low_asked : (w x : World) (s : List ℕ) (a : Request) (k : List ℕ) → key_of a ≡ Some k
    → map.get w.keys k ≡ map.get x.keys k
    → request_reply w a ≡ request_reply x a → Low w x s → Low (after_request w a) (after_request x a) s
low_asked w x s Unreadable k by held alike low = low
low_asked w x s (Get j q) k by held alike low = low
low_asked w x s (Put j p) k by held alike low =
    let same : j ≡ k = cc in
    let both : map.get w.keys j ≡ map.get x.keys j = ap (map.get w.keys) same
    ∙ (held ∙ ap (map.get x.keys) (sym same)) in
    let decided = decided_of (decision w (map.get w.keys j) p) (decision x (map.get x.keys j) p) alike in
    subst (λ d. Low (after_request w (Put j p)) (after_decision x (map.get x.keys j) p d) s) decided
    (subst (λ o. Low (after_request w (Put j p)) (after_decision x o p (decision w (map.get w.keys j) p)) s) both
    (low_decided w x s (map.get w.keys j) p (decision w (map.get w.keys j) p) low))

-- one of the teams sees a shelf that is among theirs
one_sees : (w : World) (ts : List (List ℕ)) (s : List ℕ) → AreTeams w ts → is_among (chains w ts) s ≡ true
    → (t : List ℕ) × Has ts t × (sees w t s ≡ true)
one_sees w [] s are among = absurd (are.0 refl)
one_sees w (t ∷ ts) s are among = elim (chains_from w (t ∷ ts) s among) [
  | inl same ↦ (t, inl refl, ap (sees w t) same ∙ sees_common w t)
  | inr it ↦ it
]

module _ (ts : List (List ℕ)) where
  team_blind : (w x : World) (a : Request) (k : List ℕ) (h : Holder) (t : List ℕ) → Has ts t → IsWorld w
      → IsWorld x → AllLow w x ts → key_of a ≡ Some k → map.get w.keys k ≡ Some h → sees w t h.shelf ≡ true
      → (request_reply w a ≡ request_reply x a) × AllLow (after_request w a) (after_request x a) ts
  team_blind w x a k h t there is_w is_x low by at seen =
      let one = blind w x t h.shelf k a is_w is_x (low t there) seen (h, at, refl) by in
      let held : map.get w.keys k ≡ map.get x.keys k = at ∙ sym (((low t there).keys k h seen).0 at) in
      (one.0, λ u here. low_asked w x u a k by held one.0 (low u here))

  -- two worlds that are the same to each team give the same replies to requests with keys of the shelves that the
  -- teams see
  all_blind : (w x : World) (es : List Event) → IsWorld w → IsWorld x → AreTeams w ts → AllLow w x ts
      → AllOf w (chains w ts) es → replies w es ≡ replies x es
  all_blind w x [] is_w is_x are low of = refl
  all_blind w x (Requested a ∷ es) is_w is_x are low of =
      let it = of.0 in
      let by = one_sees w ts it.1.shelf are it.4 in
      let one = team_blind w x a it.0 it.1 by.0 by.1 is_w is_x low it.2 it.3 by.2 in
      let still = registry_asked w a in
      let next : World = after_request w a in
      let again : AreTeams next ts =
      (are.0, λ t there. let team = are.1 t there in (team.0, ap (λ m. map.get m t) still.shelves ∙ team.1)) in
      let chained = chains_alike w next ts still.shelves in
      let rest =
      all_blind next (after_request x a) es (sound w (Requested a) is_w) (sound x (Requested a) is_x) again one.1
      (subst (λ ss. AllOf next ss es) (sym chained) (still_of w next (chains w ts) es still of.1)) in
      (λ i. one.0 i ∷ rest i)
    where
      chains_alike : (w x : World) (ts : List (List ℕ)) → x.shelves ≡ w.shelves → chains x ts ≡ chains w ts
      chains_alike w x [] same = refl
      chains_alike w x (t ∷ ts) same = λ i. (t ∷ above (group_in (map.get (same i) t))) ++ chains_alike w x ts same i
  all_blind w x (TeamAdd t group ∷ es) is_w is_x are low of = absurd (no_key of.0.0 of.0.2)
  all_blind w x (GroupAdd g ∷ es) is_w is_x are low of = absurd (no_key of.0.0 of.0.2)
  all_blind w x (KeyAdd t k right ∷ es) is_w is_x are low of = absurd (no_key of.0.0 of.0.2)
  all_blind w x (KeyRevoke k ∷ es) is_w is_x are low of = absurd (no_key of.0.0 of.0.2)
  all_blind w x (KeysRevoke t ∷ es) is_w is_x are low of = absurd (no_key of.0.0 of.0.2)

pub teams_are_told_the_same : TeamsAreToldTheSame
teams_are_told_the_same w new other ts first second told heard is are run again same of =
    let part : World = part_of w (chains w ts) in
    told_by_machine w new first told run
    ∙ all_blind ts w part (answered first told) is (chains_world w ts is) are (part_low w ts) of
    ∙ ap (replies part) same ∙ sym (told_by_machine part other second heard again)

-- ---- requests of others

pub others_of_teams_are_not_found : OthersOfTeamsAreNotFound
others_of_teams_are_not_found w ts k before a far by asked =
    let part : World = part_of w (chains w ts) in
    unknown_asked (after_all part before) k a
    (ap (λ m. map.get m k) (keys_through part before asked) ∙ key_at w (chains w ts) k
    ∙ cond-false (is_held (chains w ts) (map.get w.keys k)) (map.get w.keys k) None far) by
