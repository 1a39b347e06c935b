-- A key of a shelf that s sees is answered alike in worlds that are the same to s.
use Rattle.std.proofs.Common.{◌≡◌, ℕ, List, true, cond, ◌∙◌, sym, ap, subst, Option, Some, None}
use Rattle.std.specs.Prelude.{bytes_eq, is_some}
use Rattle.std.specs.FinMap as map
use Rattle.std.proofs.lemmas.Bool.{true≢false}
use Rattle.world.specs.declared.entry.Place.{Place}
use Rattle.world.specs.declared.entry.Entry.{Entry}
use Rattle.world.specs.declared.entry.Holder.{Holder}
use Rattle.machine.specs.declared.request.Query.{Query}
use Rattle.machine.specs.declared.request.Publish.{Publish}
use Rattle.machine.specs.declared.request.Request.TheVariants.{Unreadable, Get, Put}
use Rattle.machine.specs.declared.reply.Decision.{Decision}
use Rattle.machine.specs.declared.reply.Decision.TheVariants.{Published}
use Rattle.machine.specs.declared.reply.Reply.TheVariants as reply
use Rattle.world.specs.World.{World, IsWorld, chain, place, on_shelf}
use Rattle.machine.specs.Machine.{decision, keyed_reply, after_decision, stored, offered, place_of, after_request}
use Rattle.machine.specs.Isolation.{sees, belongs, Low, AgreeIsLow, IsBlind}
use Rattle.world.proofs.Orders.{places_total, places_exact, get_put_both, text_self, text_same}
use Rattle.machine.proofs.Views.{SameOn, SameSeen, guarded, sees_through}
use Rattle.world.proofs.Orders.{test_alike}
use Rattle.world.proofs.Sees.{seen_chain}
use Rattle.machine.proofs.Alike.{decision_same, query_same}

-- ---- the entries of one shelf, whole and place by place

get_on : (w : World) (t : List ℕ) (q : Place)
    → map.get (on_shelf w t) q ≡ cond (bytes_eq q.shelf t) (map.get w.entries q) None
get_on w t q = map.get-retain_keys w.entries (λ r. bytes_eq r.shelf t) q (test_alike (λ r. bytes_eq r.shelf t) q)

get_own : (w : World) (t p v : List ℕ) → map.get (on_shelf w t) (place t p v) ≡ map.get w.entries (place t p v)
get_own w t p v = get_on w t (place t p v) ∙ ap (λ b. cond b (map.get w.entries (place t p v)) None) (text_self t)

same_places : (w x : World) (t : List ℕ) → on_shelf w t ≡ on_shelf x t → SameOn w x t
same_places w x t same p v = sym (get_own w t p v) ∙ ap (λ m. map.get m (place t p v)) same ∙ get_own x t p v

pub same_whole : (w x : World) (t : List ℕ) → SameOn w x t → on_shelf w t ≡ on_shelf x t
same_whole w x t same = map.same_map places_total places_exact _ _ (λ q.
    get_on w t q
    ∙ guarded (bytes_eq q.shelf t) (map.get w.entries q) (map.get x.entries q) (λ e.
    let here : place t q.path q.version ≡ q = λ i.
    record { shelf = sym (text_same q.shelf t e) i; path = q.path; version = q.version } in
    subst (λ r. map.get w.entries r ≡ map.get x.entries r) here (same q.path q.version))
    ∙ sym (get_on x t q))

low_seen : (w x : World) (s t : List ℕ) → IsWorld w → Low w x s → sees w s t ≡ true → SameSeen w x t
low_seen w x s t is low st u tu = same_places w x u (low.entries u (sees_through w is s t u st tu))

-- ---- worlds that agree

-- worlds in which s sees the same shelves agree on those exactly if they are the same to s and have one registry
pub agree_is_low : AgreeIsLow
agree_is_low w x s chains = (
  λ agree. (
    record {
      chains = chains;
      entries = λ t st. same_whole w x t (agree.seen t st);
      keys = λ k h st. (
        λ at. subst (λ m. map.get m k ≡ Some h) agree.keys at,
        λ at.
            subst (λ m. map.get m k ≡ Some h) (sym agree.keys) at,
      );
    },
    agree.keys,
    agree.shelves,
  ),
  λ both. record { keys = both.1; shelves = both.2; seen = λ t st. same_places w x t (both.0.entries t st) },
)

-- ---- a publish into both

low_stored : (w x : World) (s : List ℕ) (q : Place) (o : Option Entry) → Low w x s → Low (stored w q o) (stored x q o) s
low_stored w x s q None low = low
low_stored w x s q (Some e) low = record {
  chains = low.chains;
  entries = λ u su. same_whole (stored w q (Some e)) (stored x q (Some e)) u (λ p v.
      get_put_both places_total w.entries x.entries q e (place u p v) (same_places w x u (low.entries u su) p v));
  keys = low.keys;
}

pub low_decided : (w x : World) (s : List ℕ) (o : Option Holder) (p : Publish) (d : Decision) → Low w x s
    → Low (after_decision w o p d) (after_decision x o p d) s
low_decided w x s (Some h) p Published low = low_stored w x s (place_of h.shelf p) (offered p) low
low_decided w x s o p d low = low

-- ---- a request

-- what both worlds know of the key
pub record Known (w x : World) (k : List ℕ) (h : Holder) : Type 0 where
  pub first : map.get w.keys k ≡ Some h
  pub second : map.get x.keys k ≡ Some h
  pub chains : chain w h.shelf ≡ chain x h.shelf
  pub seen : SameSeen w x h.shelf

pub known : (w x : World) (s t k : List ℕ) (own : belongs w k t) → IsWorld w → IsWorld x → Low w x s → sees w s t ≡ true
    → Known w x k own.0
known w x s t k own is is_x low st =
    let near : sees w s own.0.shelf ≡ true = ap (sees w s) own.2 ∙ st in
    record {
      first = own.1;
      second = (low.keys k own.0 near).0 own.1;
      chains = seen_chain w x is is_x s own.0.shelf low.chains near;
      seen = low_seen w x s own.0.shelf is low near;
    }

get_known : (w x : World) (k : List ℕ) (h : Holder) (q : Query) → Known w x k h
    → keyed_reply w (map.get w.keys k) q ≡ keyed_reply x (map.get x.keys k) q
get_known w x k h q both =
    ap (λ o. keyed_reply w o q) both.first ∙ query_same w x h.shelf both.chains both.seen q
    ∙ sym (ap (λ o. keyed_reply x o q) both.second)

put_known : (w x : World) (k : List ℕ) (h : Holder) (p : Publish) → Known w x k h
    → decision w (map.get w.keys k) p ≡ decision x (map.get x.keys k) p
put_known w x k h p both = ap (λ o. decision w o p) both.first ∙ decision_same w x h p both.chains both.seen
    ∙ sym (ap (λ o. decision x o p) both.second)

-- the world after a publish by a key that is known
after_known : (w : World) (k : List ℕ) (h : Holder) (p : Publish) → map.get w.keys k ≡ Some h
    → after_request w (Put k p) ≡ after_decision w (Some h) p (decision w (Some h) p)
after_known w k h p e = ap (λ o. after_decision w o p (decision w o p)) e

low_put : (w x : World) (s k : List ℕ) (h : Holder) (p : Publish) → Low w x s → Known w x k h
    → Low (after_request w (Put k p)) (after_request x (Put k p)) s
low_put w x s k h p low both =
    subst (λ y. Low (after_request w (Put k p)) y s) (sym (after_known x k h p both.second))
    (subst (λ y. Low y (after_decision x (Some h) p (decision x (Some h) p)) s) (sym (after_known w k h p both.first))
    (subst (λ d. Low (after_decision w (Some h) p (decision w (Some h) p)) (after_decision x (Some h) p d) s)
    (decision_same w x h p both.chains both.seen)
    (low_decided w x s (Some h) p (decision w (Some h) p) low)))

pub same_key : (j k : List ℕ) → Some j ≡ Some k → k ≡ j
same_key j k e = cc

pub no_key : (k : List ℕ) → None ≡ Some k → ⊥
no_key k e = true≢false (sym (ap is_some e))

pub blind : IsBlind
blind w x s t k Unreadable is_w is_x low st own by = absurd (no_key k by)
blind w x s t k (Get j q) is_w is_x low st own by =
    let both = subst (λ y. Known w x y own.0) (same_key j k by) (known w x s t k own is_w is_x low st) in
    (get_known w x j own.0 q both, low)
blind w x s t k (Put j p) is_w is_x low st own by =
    let both = subst (λ y. Known w x y own.0) (same_key j k by) (known w x s t k own is_w is_x low st) in
    (ap reply.Decided (put_known w x j own.0 p both), low_put w x s j own.0 p low both)
