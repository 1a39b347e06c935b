-- A shelf that stands sees the same shelves for good.
use Rattle.std.proofs.Common.{◌≡◌, ℕ, List, [], ◌∷◌, true, false, refl, ◌∙◌, sym, ap, subst, Option, Some, None}
use Rattle.std.specs.Prelude.{unwrap_or}
use Rattle.std.specs.FinMap as map
use Rattle.world.specs.declared.entry.Right.{Right}
use Rattle.world.specs.declared.entry.Place.{Place}
use Rattle.world.specs.declared.entry.Entry.{Entry}
use Rattle.world.specs.declared.entry.Holder.{Holder}
use Rattle.machine.specs.declared.request.Publish.{Publish}
use Rattle.machine.specs.declared.request.Request.TheVariants.{Unreadable, Get, Put}
use Rattle.machine.specs.declared.request.Event.{Event}
use Rattle.machine.specs.declared.request.Event.TheVariants.{Requested, TeamAdd, GroupAdd, KeyAdd, KeyRevoke}
use Rattle.machine.specs.declared.request.Event.TheVariants.{KeysRevoke}
use Rattle.machine.specs.declared.reply.Decision.{Decision}
use Rattle.machine.specs.declared.reply.Decision.TheVariants.{Published}
use Rattle.world.specs.declared.registry.RegistryReply.{RegistryReply}
use Rattle.world.specs.declared.registry.RegistryReply.TheVariants.{Done}
use Rattle.machine.specs.declared.reply.Answer.{Answer}
use Rattle.machine.specs.declared.reply.Answer.TheVariants.{Replied, Failed}
use Rattle.world.specs.World.{World, IsWorld, chain, common, with_shelf}
use Rattle.machine.specs.Laws.{ChainsStay}
use Rattle.machine.specs.Machine.{decision, stored, offered, place_of, after_decision, after, Run}
use Rattle.world.specs.Registry.{team_added, group_added, key_added, key_revoked, after_team_add, after_group_add}
use Rattle.world.specs.Registry.{after_key_add, after_key_revoke, keys_revoked, after_keys_revoke}
use Rattle.machine.specs.Isolation.{sees, is_among}
use Rattle.machine.proofs.Views.{sees_through}
use Rattle.world.proofs.Sees.{same_chain}
use Rattle.world.proofs.Sound.{stands_still, parent_still, new_team, new_group}

-- what stays of a shelf that stands
pub record Stands (w x : World) (s : List ℕ) : Type 0 where
  pub stands : map.contains_key x.shelves s ≡ true
  pub chains : chain x s ≡ chain w s

same_registry : (w x : World) (s : List ℕ) → map.contains_key w.shelves s ≡ true → w.shelves ≡ x.shelves → Stands w x s
same_registry w x s stands e =
    record {
      stands = ap (λ m. map.contains_key m s) (sym e)
          ∙ stands;
      chains = same_chain x w s (ap (λ m. map.get m s) (sym e));
    }

stands_stored : (w : World) (s : List ℕ) (q : Place) (o : Option Entry) → map.contains_key w.shelves s ≡ true
    → Stands w (stored w q o) s
stands_stored w s q None stands = same_registry w w s stands refl
stands_stored w s q (Some e) stands = same_registry w (stored w q (Some e)) s stands refl

stands_decided : (w : World) (s : List ℕ) (h : Option Holder) (p : Publish) (d : Decision)
    → map.contains_key w.shelves s ≡ true → Stands w (after_decision w h p d) s
stands_decided w s (Some h) p Published stands = stands_stored w s (place_of h.shelf p) (offered p) stands
stands_decided w s h p d stands = same_registry w w s stands refl

stands_shelf : (w : World) (s t : List ℕ) (parent : Option (List ℕ)) → map.contains_key w.shelves t ≡ false
    → map.contains_key w.shelves s ≡ true → Stands w (with_shelf w t parent) s
stands_shelf w s t parent fresh stands =
    record {
      stands = stands_still w t parent s stands;
      chains =
          same_chain (with_shelf w t parent) w s (parent_still w t parent fresh s stands);
    }

stands_team : (w : World) (s t : List ℕ) (group : Option (List ℕ)) (r : RegistryReply) → team_added w t group ≡ r
    → map.contains_key w.shelves s ≡ true → Stands w (after_team_add w t group r) s
stands_team w s t group Done e stands =
    stands_shelf w s t (Some (unwrap_or group common)) (new_team w t group e).1 stands
stands_team w s t group r e stands = same_registry w w s stands refl

stands_group : (w : World) (s g : List ℕ) (r : RegistryReply) → group_added w g ≡ r
    → map.contains_key w.shelves s ≡ true
    → Stands w (after_group_add w g r) s
stands_group w s g Done e stands = stands_shelf w s g None (new_group w g e).1 stands
stands_group w s g r e stands = same_registry w w s stands refl

stands_key : (w : World) (s t k : List ℕ) (right : Right) (r : RegistryReply) → map.contains_key w.shelves s ≡ true
    → Stands w (after_key_add w t k right r) s
stands_key w s t k right Done stands = record { stands = stands; chains = refl }
stands_key w s t k right r stands = same_registry w w s stands refl

stands_revoke : (w : World) (s k : List ℕ) (r : RegistryReply) → map.contains_key w.shelves s ≡ true
    → Stands w (after_key_revoke w k r) s
stands_revoke w s k Done stands = record { stands = stands; chains = refl }
stands_revoke w s k r stands = same_registry w w s stands refl

stands_revoke_all : (w : World) (s t : List ℕ) (r : RegistryReply) → map.contains_key w.shelves s ≡ true
    → Stands w (after_keys_revoke w t r) s
stands_revoke_all w s t Done stands = record { stands = stands; chains = refl }
stands_revoke_all w s t r stands = same_registry w w s stands refl

pub stands_after : (w : World) (s : List ℕ) (e : Event) → map.contains_key w.shelves s ≡ true → Stands w (after w e) s
stands_after w s (Requested Unreadable) stands = same_registry w w s stands refl
stands_after w s (Requested (Get k q)) stands = same_registry w w s stands refl
stands_after w s (Requested (Put k p)) stands =
    stands_decided w s (map.get w.keys k) p (decision w (map.get w.keys k) p) stands
stands_after w s (TeamAdd t group) stands = stands_team w s t group (team_added w t group) refl stands
stands_after w s (GroupAdd g) stands = stands_group w s g (group_added w g) refl stands
stands_after w s (KeyAdd t k right) stands = stands_key w s t k right (key_added w t k) stands
stands_after w s (KeyRevoke k) stands = stands_revoke w s k (key_revoked w k) stands
stands_after w s (KeysRevoke t) stands = stands_revoke_all w s t (keys_revoked w t) stands

-- a run takes no shelf away, and leaves its chain
pub stands_through : (w new : World) (s : List ℕ) (es : List Event) (answers : List Answer)
    → map.contains_key w.shelves s ≡ true → Run w es answers new → Stands w new s
stands_through w new s [] [] stands run = subst (λ x. Stands w x s) (sym run) (same_registry w w s stands refl)
stands_through w new s [] (a ∷ answers) stands run = absurd run
stands_through w new s (e ∷ es) [] stands run = absurd run
stands_through w new s (e ∷ es) (Replied r ∷ answers) stands run =
    let step = stands_after w s e stands in
    let rest = stands_through (after w e) new s es answers step.stands run.1 in
    record { stands = rest.stands; chains = rest.chains ∙ step.chains }
stands_through w new s (e ∷ es) (Failed fault ∷ answers) stands run = stands_through w new s es answers stands run

pub chains_stay : ChainsStay
chains_stay old new s events answers stands run = let it = stands_through old new s events answers stands run in
    (it.stands, it.chains)

-- a later world, in which each shelf that stood sees the same
pub record Later (w x : World) : Type 0 where
  pub is : IsWorld x
  pub same : (s : List ℕ) → map.contains_key w.shelves s ≡ true → Stands w x s

pub later_self : (w : World) → IsWorld w → Later w w
later_self w is = record { is = is; same = λ s stands. same_registry w w s stands refl }

-- where a run leads, and what is later than that
pub later_through : (w new later : World) (es : List Event) (answers : List Answer) → Run w es answers new
    → Later new later → Later w later
later_through w new later es answers run then = record {
  is = then.is;
  same = λ s stands.
      let first = stands_through w new s es answers stands run in
      let rest = then.same s first.stands in
      record { stands = rest.stands; chains = rest.chains ∙ first.chains };
}

-- what a shelf among these sees is among them
abbrev pub Reaches : World → List (List ℕ) → Type 0
Reaches w ss = (t u : List ℕ) → map.contains_key w.shelves t ≡ true → is_among ss t ≡ true → sees w t u ≡ true
    → is_among ss u ≡ true

-- if s later sees a shelf that stands now, it later sees each shelf that this one sees now
pub reaches : (w later : World) (s : List ℕ) → Later w later → Reaches w (chain later s)
reaches w later s then t u stands among seen =
    sees_through later then.is s t u among (subst (λ ss. is_among ss u ≡ true) (sym (then.same t stands).chains) seen)
