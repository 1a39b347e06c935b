-- Worlds that have one registry, and the same entries on the shelves that s sees.
use Rattle.std.proofs.Common.{◌≡◌, ℕ, List, true, false, refl, ◌∙◌, sym, ap, subst, Option, Some, None}
use Rattle.std.specs.Prelude.{not, ◌&&◌, if◌then◌else◌, bytes_eq, unwrap_or}
use Rattle.std.specs.FinMap as map
use Rattle.std.proofs.lemmas.Bool.{true≢false}
use Rattle.world.specs.declared.entry.Place.{Place}
use Rattle.world.specs.declared.entry.Entry.{Entry}
use Rattle.world.specs.declared.entry.Holder.{Holder}
use Rattle.world.specs.declared.entry.Right.{Right}
use Rattle.machine.specs.declared.request.Query.{Query}
use Rattle.machine.specs.declared.request.Publish.{Publish}
use Rattle.machine.specs.declared.request.Request.TheVariants.{Unreadable, Get, Put}
use Rattle.machine.specs.declared.request.Event.{Event}
use Rattle.machine.specs.declared.request.Event.TheVariants.{Requested, TeamAdd, GroupAdd, KeyAdd, KeyRevoke}
use Rattle.machine.specs.declared.request.Event.TheVariants.{KeysRevoke}
use Rattle.machine.specs.declared.reply.Decision.{Decision}
use Rattle.machine.specs.declared.reply.Decision.TheVariants.{Published}
use Rattle.world.specs.declared.registry.RegistryReply.{RegistryReply}
use Rattle.world.specs.declared.registry.RegistryReply.TheVariants.{Done, Name, Taken, NoTeam, NoKey, NoGroup}
use Rattle.machine.specs.declared.reply.Reply.{Reply}
use Rattle.machine.specs.declared.reply.Reply.TheVariants as reply
use Rattle.world.specs.World.{World, IsWorld, chain, common, place, is_held_on, is_team_name, is_key}
use Rattle.machine.specs.Machine.{decision, keyed_reply, after_decision, stored, offered, place_of, reply_to, after}
use Rattle.world.specs.Registry.{is_top, lacks_group, team_added, group_added, key_added, key_revoked, after_team_add}
use Rattle.world.specs.Registry.{after_group_add, after_key_add, after_key_revoke, keys_revoked, after_keys_revoke}
use Rattle.machine.specs.Isolation.{is_among, is_near, is_remaining, Agree}
use Rattle.world.proofs.Sees.{same_chain}
use Rattle.world.proofs.Orders.{places_total, places_exact, get_put_both, get_elsewhere}
use Rattle.machine.proofs.Views.{SameSeen}
use Rattle.machine.proofs.Alike.{decision_same, query_same}
use Rattle.machine.proofs.Chains.{Reaches}

pub agree_self : (w : World) (ss : List (List ℕ)) → Agree w w ss
agree_self w ss = record { keys = refl; shelves = refl; seen = λ t among p v. refl }

pub agree_back : (w x : World) (ss : List (List ℕ)) → Agree w x ss → Agree x w ss
agree_back w x ss agree =
    record { keys = sym agree.keys; shelves = sym agree.shelves; seen = λ t among p v. sym (agree.seen t among p v) }

-- ---- a publish

both_store : (w x : World) (ss : List (List ℕ)) (q : Place) (o : Option Entry) → Agree w x ss
    → Agree (stored w q o) (stored x q o) ss
both_store w x ss q None agree = agree
both_store w x ss q (Some e) agree = record {
  keys = agree.keys;
  shelves = agree.shelves;
  seen = λ u su p v. get_put_both places_total w.entries x.entries q e (place u p v) (agree.seen u su p v);
}

-- worlds that agree on these shelves still agree if one of them gets an entry on another shelf
one_stores : (w x : World) (ss : List (List ℕ)) (q : Place) (o : Option Entry) → is_among ss q.shelf ≡ false
    → Agree w x ss → Agree (stored w q o) x ss
one_stores w x ss q None apart agree = agree
one_stores w x ss q (Some e) apart agree = record {
  keys = agree.keys;
  shelves = agree.shelves;
  seen = λ u su p v.
      get_elsewhere places_total places_exact w.entries q e (place u p v) (λ same.
      true≢false (sym su ∙ ap (λ (r : Place). is_among ss r.shelf) same ∙ apart))
      ∙ agree.seen u su p v;
}

both_decide : (w x : World) (ss : List (List ℕ)) (h : Holder) (p : Publish) (d : Decision) → Agree w x ss
    → Agree (after_decision w (Some h) p d) (after_decision x (Some h) p d) ss
both_decide w x ss h p Published agree = both_store w x ss (place_of h.shelf p) (offered p) agree
both_decide w x ss h p d agree = agree

one_decides : (w x : World) (ss : List (List ℕ)) (h : Holder) (p : Publish) (d : Decision) → is_among ss h.shelf ≡ false
    → Agree w x ss → Agree (after_decision w (Some h) p d) x ss
one_decides w x ss h p Published apart agree = one_stores w x ss (place_of h.shelf p) (offered p) apart agree
one_decides w x ss h p d apart agree = agree

-- ---- an event that remains

-- the replies are equal, and the worlds after agree
pub record Alike (r r2 : Reply) (w x : World) (ss : List (List ℕ)) : Type 0 where
  pub reply : r ≡ r2
  pub worlds : Agree w x ss

agree_seen : (w x : World) (ss : List (List ℕ)) (t : List ℕ) → Agree w x ss → Reaches w ss
    → map.contains_key w.shelves t ≡ true → is_among ss t ≡ true → SameSeen w x t
agree_seen w x ss t agree all stands near u seen = agree.seen u (all t u stands near seen)

-- one registry has one chain of each shelf
agree_chain : (w x : World) (ss : List (List ℕ)) (t : List ℕ) → Agree w x ss → chain w t ≡ chain x t
agree_chain w x ss t agree = same_chain w x t (ap (λ m. map.get m t) agree.shelves)

-- the holder of a key belongs to a shelf that stands
abbrev HolderStands : World → Option Holder → Type 0
HolderStands w o = (h : Holder) → o ≡ Some h → map.contains_key w.shelves h.shelf ≡ true

put_alike : (w x : World) (ss : List (List ℕ)) (h : Option Holder) (p : Publish) → is_near ss h ≡ true
    → HolderStands w h → Reaches w ss → Agree w x ss
    → Alike (reply.Decided (decision w h p)) (reply.Decided (decision x h p)) (after_decision w h p (decision w h p))
    (after_decision x h p (decision x h p)) ss
put_alike w x ss None p near stands all agree = record { reply = refl; worlds = agree }
put_alike w x ss (Some h) p near stands all agree =
    let same : decision w (Some h) p ≡ decision x (Some h) p =
    decision_same w x h p (agree_chain w x ss h.shelf agree)
    (agree_seen w x ss h.shelf agree all (stands h refl) near) in
    record {
      reply = ap reply.Decided same;
      worlds = subst (λ d. Agree (after_decision w (Some h) p (decision w (Some h) p)) (after_decision x (Some h) p d)
          ss) same (both_decide w x ss h p (decision w (Some h) p) agree);
    }

get_alike : (w x : World) (ss : List (List ℕ)) (h : Option Holder) (q : Query) → is_near ss h ≡ true → HolderStands w h
    → Reaches w ss → Agree w x ss → keyed_reply w h q ≡ keyed_reply x h q
get_alike w x ss None q near stands all agree = refl
get_alike w x ss (Some h) q near stands all agree =
    query_same w x h.shelf (agree_chain w x ss h.shelf agree) (agree_seen w x ss h.shelf agree all (stands h refl) near)
    q

both_add_team : (w x : World) (ss : List (List ℕ)) (t : List ℕ) (group : Option (List ℕ)) (r : RegistryReply)
    → Agree w x ss → Agree (after_team_add w t group r) (after_team_add x t group r) ss
both_add_team w x ss t group Done agree =
    record {
      keys = agree.keys;
      shelves = ap (λ m. map.insert m t (Some (unwrap_or group common))) agree.shelves;
      seen =
          agree.seen;
    }
both_add_team w x ss t group r agree = agree

both_add_group : (w x : World) (ss : List (List ℕ)) (g : List ℕ) (r : RegistryReply) → Agree w x ss
    → Agree (after_group_add w g r) (after_group_add x g r) ss
both_add_group w x ss g Done agree =
    record { keys = agree.keys; shelves = ap (λ m. map.insert m g None) agree.shelves; seen = agree.seen }
both_add_group w x ss g r agree = agree

both_add_key : (w x : World) (ss : List (List ℕ)) (t k : List ℕ) (right : Right) (r : RegistryReply) → Agree w x ss
    → Agree (after_key_add w t k right r) (after_key_add x t k right r) ss
both_add_key w x ss t k right Done agree =
    record {
      keys = ap (λ m. map.insert m k (record { shelf = t; right = right })) agree.keys;
      shelves = agree.shelves;
      seen = agree.seen;
    }
both_add_key w x ss t k right r agree = agree

both_revoke : (w x : World) (ss : List (List ℕ)) (k : List ℕ) (r : RegistryReply) → Agree w x ss
    → Agree (after_key_revoke w k r) (after_key_revoke x k r) ss
both_revoke w x ss k Done agree =
    record { keys = ap (λ m. map.remove m k) agree.keys; shelves = agree.shelves; seen = agree.seen }
both_revoke w x ss k r agree = agree

both_revoke_all : (w x : World) (ss : List (List ℕ)) (t : List ℕ) (r : RegistryReply) → Agree w x ss
    → Agree (after_keys_revoke w t r) (after_keys_revoke x t r) ss
both_revoke_all w x ss t Done agree =
    record {
      keys = ap (λ m. map.retain_keys m (λ k. not (is_held_on t (map.get m k)))) agree.keys;
      shelves = agree.shelves;
      seen = agree.seen;
    }
both_revoke_all w x ss t r agree = agree

lacks_alike : (w x : World) (group : Option (List ℕ)) → w.shelves ≡ x.shelves
    → lacks_group w group ≡ lacks_group x group
lacks_alike w x None e = refl
lacks_alike w x (Some g) e = ap (λ m. not (is_top (map.get m g) && not (bytes_eq g common))) e

team_alike : (w x : World) (t : List ℕ) (group : Option (List ℕ)) → w.shelves ≡ x.shelves
    → team_added w t group ≡ team_added x t group
team_alike w x t group e =
    ap (λ m. if not (is_team_name t) then Name else if map.contains_key m t then Taken else if lacks_group w group then
    NoGroup else Done) e
    ∙ ap (λ b. if not (is_team_name t) then Name else if map.contains_key x.shelves t then Taken else if b then NoGroup
    else Done) (lacks_alike w x group e)

group_alike : (w x : World) (g : List ℕ) → w.shelves ≡ x.shelves → group_added w g ≡ group_added x g
group_alike w x g e = ap (λ m. if not (is_team_name g) then Name else if map.contains_key m g then Taken else Done) e

key_alike : (w x : World) (t k : List ℕ) → w.shelves ≡ x.shelves → w.keys ≡ x.keys → key_added w t k ≡ key_added x t k
key_alike w x t k e f =
    ap (λ m. if not (is_key k) then Name else if not (map.contains_key m t) then NoTeam else if map.contains_key w.keys
    k then Taken else Done) e
    ∙ ap (λ m. if not (is_key k) then Name else if not (map.contains_key x.shelves t) then NoTeam else if
    map.contains_key m k then Taken else Done) f

-- in worlds that agree, a remaining event gets equal replies and leads to worlds that agree
pub event_alike : (w x : World) (ss : List (List ℕ)) (e : Event) → is_remaining w ss e ≡ true → IsWorld w → Reaches w ss
    → Agree w x ss → Alike (reply_to w e) (reply_to x e) (after w e) (after x e) ss
event_alike w x ss (Requested Unreadable) near is all agree = record { reply = refl; worlds = agree }
event_alike w x ss (Requested (Get k q)) near is all agree = record {
  reply = get_alike w x ss (map.get w.keys k) q near (λ h e. is.keys_stand k h e) all agree
      ∙ ap (λ m. keyed_reply x (map.get m k) q) agree.keys;
  worlds = agree;
}
event_alike w x ss (Requested (Put k p)) near is all agree =
    subst (λ m. Alike (reply_to w (Requested (Put k p))) (reply.Decided (decision x (map.get m k) p))
    (after w (Requested (Put k p))) (after_decision x (map.get m k) p (decision x (map.get m k) p)) ss)
    agree.keys (put_alike w x ss (map.get w.keys k) p near (λ h e. is.keys_stand k h e) all agree)
event_alike w x ss (TeamAdd t group) near is all agree =
    let same = team_alike w x t group agree.shelves in
    record {
      reply = ap reply.Registry same;
      worlds = subst (λ r. Agree (after w (TeamAdd t group)) (after_team_add x t group r) ss) same
          (both_add_team w x ss t group (team_added w t group) agree);
    }
event_alike w x ss (GroupAdd g) near is all agree =
    let same = group_alike w x g agree.shelves in
    record {
      reply = ap reply.Registry same;
      worlds = subst (λ r. Agree (after w (GroupAdd g)) (after_group_add x g r) ss) same
          (both_add_group w x ss g (group_added w g) agree);
    }
event_alike w x ss (KeyAdd t k right) near is all agree =
    let same = key_alike w x t k agree.shelves agree.keys in
    record {
      reply = ap reply.Registry same;
      worlds = subst (λ r. Agree (after w (KeyAdd t k right)) (after_key_add x t k right r) ss) same
          (both_add_key w x ss t k right (key_added w t k) agree);
    }
event_alike w x ss (KeyRevoke k) near is all agree =
    let same : key_revoked w k ≡ key_revoked x k = ap (λ m. if map.contains_key m k then Done else NoKey) agree.keys in
    record {
      reply = ap reply.Registry same;
      worlds = subst (λ r. Agree (after w (KeyRevoke k)) (after_key_revoke x k r) ss) same
          (both_revoke w x ss k (key_revoked w k) agree);
    }
event_alike w x ss (KeysRevoke t) near is all agree =
    let same : keys_revoked w t ≡ keys_revoked x t =
    ap (λ m. if map.contains_key m t then Done else NoTeam) agree.shelves in
    record {
      reply = ap reply.Registry same;
      worlds = subst (λ r. Agree (after w (KeysRevoke t)) (after_keys_revoke x t r) ss) same
          (both_revoke_all w x ss t (keys_revoked w t) agree);
    }

-- worlds that agree leave the same events
pub remaining_alike : (w x : World) (ss : List (List ℕ)) (e : Event) → Agree w x ss
    → is_remaining w ss e ≡ is_remaining x ss e
remaining_alike w x ss (Requested Unreadable) agree = refl
remaining_alike w x ss (Requested (Get k q)) agree = ap (λ m. is_near ss (map.get m k)) agree.keys
remaining_alike w x ss (Requested (Put k p)) agree = ap (λ m. is_near ss (map.get m k)) agree.keys
remaining_alike w x ss e agree = refl

-- ---- an event that is not remaining

far_put : (w x : World) (ss : List (List ℕ)) (h : Option Holder) (p : Publish) (d : Decision) → is_near ss h ≡ false
    → Agree w x ss → Agree (after_decision w h p d) x ss
far_put w x ss None p d far agree = absurd (true≢false far)
far_put w x ss (Some h) p d far agree = one_decides w x ss h p d far agree

pub event_far : (w x : World) (ss : List (List ℕ)) (e : Event) → is_remaining w ss e ≡ false → Agree w x ss
    → Agree (after w e) x ss
event_far w x ss (Requested Unreadable) far agree = agree
event_far w x ss (Requested (Get k q)) far agree = agree
event_far w x ss (Requested (Put k p)) far agree =
    far_put w x ss (map.get w.keys k) p (decision w (map.get w.keys k) p) far agree
event_far w x ss (TeamAdd t group) far agree = absurd (true≢false far)
event_far w x ss (GroupAdd g) far agree = absurd (true≢false far)
event_far w x ss (KeyAdd t k right) far agree = absurd (true≢false far)
event_far w x ss (KeyRevoke k) far agree = absurd (true≢false far)
event_far w x ss (KeysRevoke t) far agree = absurd (true≢false far)
