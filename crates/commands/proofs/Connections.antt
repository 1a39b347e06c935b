-- What passes over a connection over which nothing has passed before.
use Rattle.std.proofs.Common.{◌≡◌, ◌∙◌, ℕ, ◌<◌, ◌≤◌, ◌+◌, ◌⊎◌, inl, inr, Bool, List, [], ◌++◌, Option, Some, None, Result}
use Rattle.std.proofs.Common.{Ok, Err, refl, ap, arith, subst, sym}
use Rattle.std.specs.Prelude.{IfSome, ◌∷◌}
use Rattle.std.proofs.lemmas.List.{append-nil, append_assoc, length-append}
use Rattle.std.proofs.lemmas.List.Elements.{All-append, All-cons, All-nil}
use Rattle.std.specs.Io.KnownBytes.{Appends}
use Rattle.histories.specs.Account.{Account, IsUnused, Gives, new_account}
use Rattle.histories.specs.Calls.{Reads, no_reads}
use Rattle.network.specs.History.{Calls, Done, deeds_between, deeds_of}
use Rattle.network.specs.declared.deed.Deed.TheVariants.{Connected, Ended, Unconnected}
use Rattle.network.specs.declared.servers.Wait.{Wait}
use Rattle.network.specs.declared.servers.Wait.TheVariants.{Second}
use Rattle.network.proofs.HistoryLemmas.{called, called_meanwhile}
use Rattle.orders.specs.Order.{Ordered, Stop, Ping, ListOf, Copy, Catalog, RevokeByFingerprint, Registry}
use Rattle.control.specs.Asking.{IsNoReply, IsReplyTo, OrderGets, extent_of}
use Rattle.control.specs.Line.{FailsAs, IsUnheard, ReadsWell}
use Rattle.control.specs.declared.client.OrderReply.{OrderReply}
use Rattle.control.specs.declared.client.SendError.{SendError}
use Rattle.control.specs.declared.client.SendError.TheVariants as untold
use Rattle.control.specs.declared.line.Came.{Came}
use Rattle.control.specs.declared.line.Came.TheVariants as came
use Rattle.control.specs.declared.line.Extent.TheVariants.{Line}
use Rattle.commands.specs.Connection.{Exchanges, IsAll, IsWaitFor, Meets, OnlyPings, Passed, Passes, PingsBetween}
use Rattle.commands.specs.Connection.{PingsIf, pings_after, reads_on}

-- ---- all that passed

begun_with : (w' : Option (List ℕ)) (text : List ℕ) → Appends (Some []) w' text → w' ≡ Some text
begun_with None text appends = absurd appends
begun_with (Some all) text appends = ap Some appends

appended : (w w' : Option (List ℕ)) (text : List ℕ) → w ≡ Some [] → Appends w w' text → w' ≡ Some text
appended w w' text is appends = begun_with w' text (subst (λ x. Appends x w' text) is appends)

came_first : (a b : Account) (bytes : List ℕ) → a ≡ new_account a.left → Gives a b bytes → b.heard ≡ bytes
came_first a b bytes is gives = gives.heard ∙ ap (λ x. x.heard ++ bytes) is

came_none : (a b : Account) → a ≡ new_account a.left → b ≡ a → b.heard ≡ []
came_none a b is same = ap (λ x. x.heard) same ∙ ap (λ x. x.heard) is

-- over a connection that was new an order was sent
module _ (a b : Account) (r r' : Reads) (w w' : Option (List ℕ)) (f f' : ℕ) (unused : IsUnused a w)
    (uncalled : (r ≡ no_reads) × (f ≡ 0)) where
  -- all that passed, where this was sent
  abbrev passed : List ℕ → Passed
  passed sent = record { sent = sent; came = b.heard; is_over = b.is_over; reads = r'; failed = f' }

  all : (sent : List ℕ) → w' ≡ Some sent → IsAll b r' w' f' (passed sent)
  all sent is = record { heard = refl; over = refl; called = refl; written = is; failed = refl }

  read_well : (on : Bool) → ReadsWell on r r' → ReadsWell on no_reads r'
  read_well on = subst (λ x. ReadsWell on x r') uncalled.0

  pub exchanges : (o : Ordered) (told : Result OrderReply SendError)
      → OrderGets (reads_on o) a b r r' w w' f f' o told
      → (p : Passed) × IsAll b r' w' f' p × Exchanges o p told
  exchanges o (Ok told) ((sent, is, appends), (got, gives, reply), well) = (
    passed sent,
    all sent (appended w w' sent unused.1 appends),
    (
      is,
      subst (IsReplyTo o told) (sym (came_first a b got unused.0 gives)) reply,
      read_well (reads_on o) well,
    ),
  )
  exchanges o (Err untold.Words) (never, same, still, quiet) =
      (passed [], all [] (same ∙ unused.1), (never, refl, came_none a b unused.0 still, quiet ∙ uncalled.0))
  exchanges o (Err untold.Memory) (same, still, quiet) =
      (passed [], all [] (same ∙ unused.1), (refl, came_none a b unused.0 still, quiet ∙ uncalled.0))
  exchanges o (Err untold.Io) (inl ((line, is, (front, begins, appends), fails), still, quiet)) = (
    passed front,
    all front (appended w w' front unused.1 appends),
    inl (
      line,
      is,
      begins,
      subst (λ n. n < f') uncalled.1 fails,
      came_none a b unused.0 still,
      quiet ∙ uncalled.0,
    ),
  )
  exchanges o (Err untold.Io) (inr ((sent, is, appends), fails)) = (
    passed sent,
    all sent (appended w w' sent unused.1 appends),
    inr (is, subst (λ x. IsUnheard (reads_on o) x r') uncalled.0 fails),
  )
  exchanges o (Err untold.NoReply) ((sent, is, appends), (got, gives, none), well) = (
    passed sent,
    all sent (appended w w' sent unused.1 appends),
    (
      is,
      subst (IsNoReply o b.is_over) (sym (came_first a b got unused.0 gives)) none,
      read_well (reads_on o) well,
    ),
  )
  exchanges o (Err untold.ReplyMemory) ((sent, is, appends), unbounded, well) = (
    passed sent,
    all sent (appended w w' sent unused.1 appends),
    (is, unbounded, read_well (reads_on o) well),
  )

-- ---- whom it was sent to

-- the order of a copy has the line of an outcome for its reply
pub copy_has_a_line : (o : Ordered) (to : List ℕ) → o ≡ Copy to → extent_of o ≡ Line
copy_has_a_line o to is = ap extent_of is

-- a server was connected to, this passed, and then the connection was ended
pub meets : {L : Type 0} (all : L → Passed → Type 0) (before made mid after : List (Done L)) (path : List ℕ) (o : Ordered)
    (By : Passed → Type 0) (wait : Wait) (link : L) (failed : ℕ) → IsWaitFor o wait
    → (p : Passed) → all link p → By p → failed ≡ p.reads.failed
    → made ≡ before ++ (path, Connected wait) ∷ [] → PingsIf all made mid path 0 failed o
    → after ≡ mid ++ ([], Ended link) ∷ []
    → Meets all before after path o By
meets all before made mid after path (Copy to) By wait link failed waits p is by calls connected between ended =
    let few = between.3 in
    called_meanwhile before made mid after path _ _ _ wait link between.0 waits
    (p, is, (by, omega (arith, few, calls))) between.1 connected between.2 ended
meets all before made mid after path Stop By wait link failed waits p is by calls connected still ended =
    called before mid after path _ _ wait link waits (p, is, by) (still ∙ connected) ended
meets all before made mid after path Ping By wait link failed waits p is by calls connected still ended =
    called before mid after path _ _ wait link waits (p, is, by) (still ∙ connected) ended
meets all before made mid after path (ListOf listing) By wait link failed waits p is by calls connected still ended =
    called before mid after path _ _ wait link waits (p, is, by) (still ∙ connected) ended
meets all before made mid after path (Catalog key) By wait link failed waits p is by calls connected still ended =
    called before mid after path _ _ wait link waits (p, is, by) (still ∙ connected) ended
meets all before made mid after path (RevokeByFingerprint f) By wait link failed waits p is by calls connected still
    ended =
    called before mid after path _ _ wait link waits (p, is, by) (still ∙ connected) ended
meets all before made mid after path (Registry command) By wait link failed waits p is by calls connected still ended =
    called before mid after path _ _ wait link waits (p, is, by) (still ∙ connected) ended

-- what passed so passed also so
passes_so : {L : Type 0} (all : L → Passed → Type 0) (By By' : Passed → Type 0) → ((p : Passed) → By p → By' p)
    → (link : L) → (p : Passed) × all link p × By p → (p : Passed) × all link p × By' p
passes_so all By By' so link (p, is, by) = (p, is, so p by)

calls_so : {L : Type 0} (all : L → Passed → Type 0) (before after : List (Done L)) (path : List ℕ)
    (Waits : Wait → Type 0) (By By' : Passed → Type 0) → ((p : Passed) → By p → By' p)
    → Calls before after path Waits (λ link. (p : Passed) × all link p × By p)
    → Calls before after path Waits (λ link. (p : Passed) × all link p × By' p)
calls_so all before after path Waits By By' so calls = record {
  wait = calls.wait;
  waits = calls.waits;
  link = calls.link;
  passes = passes_so all By By' so calls.link calls.passes;
  done = calls.done;
}

pub meets_so : {L : Type 0} (all : L → Passed → Type 0) (before after : List (Done L)) (path : List ℕ) (o : Ordered)
    (By By' : Passed → Type 0) → ((p : Passed) → By p → By' p) → Meets all before after path o By
    → Meets all before after path o By'
meets_so all before after path (Copy to) By By' so calls = record {
  wait = calls.wait;
  waits = calls.waits;
  link = calls.link;
  between = calls.between;
  passes = passes_so all _ _ (λ p by. (so p by.0, by.1)) calls.link calls.passes;
  each = calls.each;
  done = calls.done;
}
meets_so all before after path Stop By By' so calls =
    calls_so all before after path _ By By' so calls
meets_so all before after path Ping By By' so calls =
    calls_so all before after path _ By By' so calls
meets_so all before after path (ListOf listing) By By' so calls =
    calls_so all before after path _ By By' so calls
meets_so all before after path (Catalog key) By By' so calls =
    calls_so all before after path _ By By' so calls
meets_so all before after path (RevokeByFingerprint f) By By' so calls =
    calls_so all before after path _ By By' so calls
meets_so all before after path (Registry command) By By' so calls =
    calls_so all before after path _ By By' so calls

-- ---- pings between

module _ {L : Type 0} (all : L → Passed → Type 0) (path : List ℕ) where
  deeds_append : (xs ys : List (Option L))
      → deeds_between path (xs ++ ys) ≡ deeds_between path xs ++ deeds_between path ys
  deeds_append [] ys = refl
  deeds_append (x ∷ xs) ys =
      ap (λ more. deeds_of path x ++ more) (deeds_append xs ys)
      ∙ sym (append_assoc (deeds_of path x) (deeds_between path xs) (deeds_between path ys))

  -- it could not be connected to, or was only asked for its health
  abbrev IsPing : Option L → Type 0
  IsPing asked = IfSome asked (Passes all OnlyPings)

  pub no_ping : (h : List (Done L)) (f g : ℕ) → f ≤ g → PingsBetween all h h path f g
  no_ping h f g few = ([], All-nil IsPing, sym (append-nil h), omega (arith, few))

  pub lost_ping : (h i : List (Done L)) → i ≡ h ++ (path, Unconnected) ∷ [] → PingsBetween all h i path 0 1
  lost_ping h i lost = (None ∷ [], All-cons IsPing None [] tt (All-nil IsPing), lost, omega arith)

  pub one_ping : (h i j : List (Done L)) (link : L) → i ≡ h ++ (path, Connected Second) ∷ []
      → j ≡ i ++ ([], Ended link) ∷ [] → (passed : Passed) × all link passed × OnlyPings passed
      → PingsBetween all h j path 0 1
  one_ping h i j link connected ended pings = (
    Some link ∷ [],
    All-cons IsPing (Some link) [] pings (All-nil IsPing),
    ended ∙ ap (λ x. x ++ ([], Ended link) ∷ []) connected
        ∙ append_assoc h ((path, Connected Second) ∷ []) (([], Ended link) ∷ []),
    omega arith,
  )

  pub then_pings : (h i j : List (Done L)) (f g n k : ℕ) → PingsBetween all h i path f g
      → PingsBetween all i j path 0 n → g + n ≤ k
      → PingsBetween all h j path f k
  then_pings h i j f g n k (xs, are, is, few) (ys, also, then, some) sum = (
    xs ++ ys,
    All-append IsPing xs ys are also,
    then ∙ ap (λ x. x ++ deeds_between path ys) is ∙ append_assoc h (deeds_between path xs) (deeds_between path ys)
        ∙ ap (λ x. h ++ x) (sym (deeds_append xs ys)),
    let both = length-append xs ys in omega (arith, both, few, some, sum),
  )

-- a read that may be followed by a ping failed
pub pings_few : (c : Came) (s t : Reads) → FailsAs s t (Ok c) → s.failed + pings_after c ≤ t.failed
pings_few came.All s t fails = let failed = fails.0 in omega (arith, failed)
pings_few came.Part s t fails = let failed = fails.0 in omega (arith, failed)
pings_few came.Interrupted s t fails = let failed = fails.0 in omega (arith, failed)
pings_few came.Late s t fails = let failed = fails.0 in omega (arith, failed)
