-- The laws of runs, in bytes.
use Rattle.std.proofs.Common.{◌≡◌, ◌⊎◌, ℕ, List, [], ◌∷◌, Bool, Option, Some, None, refl, ◌∙◌, sym, ap, subst, inl, inr}
use Rattle.std.proofs.Common.{arith}
use Rattle.std.specs.Prelude.{map}
use Rattle.std.specs.FinMap as fin
use Rattle.modver.specs.SemanticVersion.{SemanticVersion, version_text}
use Rattle.framing.specs.Message.{MessageView}
use Rattle.world.specs.declared.entry.Heading.{Heading}
use Rattle.world.specs.declared.entry.Seen.{Seen}
use Rattle.world.specs.World.{World, IsWorld, chain, view, without_zip, heading}
use Rattle.machine.specs.declared.request.Request.TheVariants.{Get}
use Rattle.machine.specs.declared.request.Event.TheVariants.{Requested}
use Rattle.machine.specs.declared.request.Query.{Query}
use Rattle.machine.specs.declared.request.Query.TheVariants as query
use Rattle.machine.specs.declared.reply.Answer.{Answer}
use Rattle.machine.specs.declared.reply.Answer.TheVariants.{Replied, Failed}
use Rattle.machine.specs.declared.reply.Reply.{Reply}
use Rattle.machine.specs.declared.reply.Reply.TheVariants as reply
use Rattle.machine.specs.Machine.{Run, after_all, replies, replies_of, keyed_reply, query_reply, gomod_reply, zip_reply}
use Rattle.machine.specs.Machine.{info_reply, latest_reply}
use Rattle.world.specs.Latest.{latest_of}
use Rattle.machine.specs.Isolation.{remaining, marked, belongs, Agree}
use Rattle.machine.specs.Immutability.{IsOfVersion, IsFound, IsFailed}
use Rattle.machine.proofs.Isolated.{isolated}
use Rattle.machine.proofs.Latest.{latest_is_the_top, none_is_latest}
use Rattle.machine.proofs.Served.{stays_served}
use Rattle.engine.specs.Request as spec
use Rattle.engine.specs.Exchange.{event_of, answer_of}
use Rattle.engine.specs.AnsweredEvent.{EventOrigin, AnsweredEvent, event_in, text_in, origin_of, event_at, answer_at}
use Rattle.engine.specs.AnsweredEvent.{faultless}
use Rattle.engine.specs.Reply.{reply_page, page_of, page_for, page_bytes, page_status, bytes_of, text_of}
use Rattle.engine.specs.Headline.{unavailable, CallersAreAnsweredAlike, BytesStayServed, TellsLatest, LatestIsWritten}
use Rattle.engine.proofs.FaultlessLemmas.{text_to, texts, events_are, faultless_events, faultless_texts, marked_events}
use Rattle.engine.proofs.FaultlessLemmas.{marked_texts, IsExact, exact}

-- ---- nothing about others

-- two runs write the same texts for what remains, whatever text is written for what came and its answer
pub alike_by : (text_for : EventOrigin → Answer → List ℕ) (old old_too new new_too : World) (s : List ℕ)
    (full purged : List AnsweredEvent) → IsWorld old
    → Agree old old_too (chain new s)
    → Run old (map event_at full) (map answer_at full) new
    → Run old_too (map event_at purged) (map answer_at purged) new_too
    → let marks : List Bool = remaining old (chain new s) (map event_at (faultless full)) in
    map origin_of (faultless purged) ≡ marked marks (map origin_of (faultless full))
    → (map (text_to text_for) (faultless purged) ≡ marked marks (map (text_to text_for) (faultless full)))
    × Agree new new_too (chain new s)
alike_by text_for old old_too new new_too s full purged is agree run again same =
    let ss : List (List ℕ) = chain new s in
    let marks : List Bool = remaining old ss (map event_at (faultless full)) in
    let cs : List EventOrigin = map origin_of (faultless full) in
    let rs : List Reply = replies_of (map answer_at full) in
    let heard : List Reply = replies_of (map answer_at purged) in
    let first : (marked marks rs ≡ replies old_too (marked marks (map event_at (faultless full))))
    × Agree new (after_all old_too (marked marks (map event_at (faultless full)))) ss =
    subst (λ es. (marked (remaining old ss es) rs ≡ replies old_too (marked (remaining old ss es) es))
    × Agree new (after_all old_too (marked (remaining old ss es) es)) ss) (faultless_events full)
    (isolated old old_too new s (map event_at full) (map answer_at full) is agree run) in
    let second : IsExact old_too new_too (map event_at (faultless purged)) heard =
    subst (λ es. IsExact old_too new_too es heard) (faultless_events purged)
    (exact old_too new_too (map event_at purged) (map answer_at purged) again) in
    let events : map event_at (faultless purged) ≡ marked marks (map event_at (faultless full)) =
    events_are (faultless purged) ∙ ap (λ c. map event_in c) same ∙ sym (marked_events marks cs)
    ∙ ap (marked marks) (sym (events_are (faultless full))) in
    let alike : heard ≡ marked marks rs = second.replies_are ∙ ap (replies old_too) events ∙ sym first.0 in (
      faultless_texts text_for purged
          ∙ ap (λ c. texts text_for c heard) same
          ∙ ap (texts text_for (marked marks cs)) alike
          ∙ sym (marked_texts text_for marks cs rs)
          ∙ ap (marked marks) (sym (faultless_texts text_for full)),
      subst (λ w. Agree new w ss) (sym (second.ends ∙ ap (after_all old_too) events)) first.1,
    )

pub callers_are_answered_alike : CallersAreAnsweredAlike
callers_are_answered_alike = alike_by text_in

-- ---- a query of one version or of the latest

-- the machine's reply to a query by a key of s
keyed : (w : World) (s k : List ℕ) (q : Query) (r : Reply) → belongs w k s → r ≡ keyed_reply w (fin.get w.keys k) q
    → r ≡ query_reply w s q
keyed w s k q r own is = is ∙ ap (λ o. keyed_reply w o q) own.1 ∙ ap (λ t. query_reply w t q) own.2

-- a reply about a version with status 200 found the version
found_gomod : (m : MessageView) (o : Option Heading) → page_status (page_of m (gomod_reply o)) ≡ 200
    → IsFound (gomod_reply o)
found_gomod m None is = let wrong : ◌≡◌ {A = ℕ} 404 200 = is in absurd (omega arith)
found_gomod m (Some shown) is = tt

found_zip : (m : MessageView) (o : Option Seen) → page_status (page_of m (zip_reply o)) ≡ 200 → IsFound (zip_reply o)
found_zip m None is = let wrong : ◌≡◌ {A = ℕ} 404 200 = is in absurd (omega arith)
found_zip m (Some seen) is = tt

found_info : (m : MessageView) (v : SemanticVersion) (o : Option Heading)
    → page_status (page_of m (info_reply v o)) ≡ 200
    → IsFound (info_reply v o)
found_info m v None is = let wrong : ◌≡◌ {A = ℕ} 404 200 = is in absurd (omega arith)
found_info m v (Some shown) is = tt

found_reply : (m : MessageView) (w : World) (s : List ℕ) (q : Query) → IsOfVersion q
    → page_status (page_of m (query_reply w s q)) ≡ 200
    → IsFound (query_reply w s q)
found_reply m w s (query.GoMod p v) one is = found_gomod m (heading w s p (version_text v)) is
found_reply m w s (query.Zip p v) one is = found_zip m (view w s p (version_text v)) is
found_reply m w s (query.Info p v) one is = found_info m v (heading w s p (version_text v)) is
found_reply m w s q one is = absurd one

found_bytes : (m n : MessageView) (r : Reply) → spec.sum_of m ≡ spec.sum_of n → IsFound r
    → bytes_of m (Replied r) ≡ bytes_of n (Replied r)
found_bytes m n (reply.GoMod b) same is = ap (λ sum. page_bytes (reply_page sum (reply.GoMod b))) same
found_bytes m n (reply.Zip b) same is = refl
found_bytes m n (reply.Info v time) same is = refl
found_bytes m n r same is = absurd is

pub failed_text : (m : MessageView) (a : Answer) → IsFailed a → bytes_of m a ≡ unavailable
failed_text m (Replied r) never = absurd never
failed_text m (Failed fault) failed = refl

-- a GET after one that was answered 200 gets the same text or the 503
pub bytes_stay_served : BytesStayServed
bytes_stay_served old mid new s k later resource first last events answers is own one targets ok run later_own
    targets_again again =
    by_answer (answer_of first) refl
  where
    q : Query
    q = spec.query_of resource

    asks : spec.request_of first.message ≡ Get k q
    asks = ap (spec.request_at first.message) targets

    asks_again : spec.request_of last.message ≡ Get later q
    asks_again = ap (spec.request_at last.message) targets_again

    sums : spec.sum_of last.message ≡ spec.sum_of first.message
    sums = ap spec.sum_at targets_again ∙ sym (ap spec.sum_at targets)

    -- the first GET was not answered by a fault, because a 503 is not 200
    by_answer : (a : Answer) → answer_of first ≡ a → (text_of last ≡ text_of first) ⊎ (text_of last ≡ unavailable)
    by_answer (Failed fault) came =
        let wrong : ◌≡◌ {A = ℕ} 503 200 = sym (ap (λ a. page_status (page_for first.message a)) came)
        ∙ ok in absurd (omega arith)
    by_answer (Replied r) came =
        let before : Run old (Requested (Get k q) ∷ events) (Replied r ∷ answers) mid =
        subst (λ e. Run old (e ∷ events) (Replied r ∷ answers) mid) (ap Requested asks)
        (subst (λ a. Run old (event_of first ∷ events) (a ∷ answers) mid) came run) in
        let after : Run mid (Requested (Get later q) ∷ []) (answer_of last ∷ []) new =
        subst (λ e. Run mid (e ∷ []) (answer_of last ∷ []) new) (ap Requested asks_again) again in
        let reply : r ≡ query_reply old s q = keyed old s k q r own before.0 in
        let status = sym (ap (λ a. page_status (page_for first.message a)) (came ∙ ap Replied reply)) ∙ ok in
        let found : IsFound r = subst IsFound (sym reply) (found_reply first.message old s q one status) in
        elim (stays_served old mid new s k later q r events answers (answer_of last) is own one found before later_own
        after) [
          | inl same ↦ inl (ap (bytes_of last.message) same ∙ found_bytes last.message first.message r sums found
              ∙ ap (bytes_of first.message) (sym came))
          | inr failed ↦ inr (failed_text last.message (answer_of last) failed)
        ]

-- ---- the latest version

-- the machine's reply for the latest version is written as the rules say
latest_text : (w : World) → IsWorld w → (s path : List ℕ) (m : MessageView)
    → TellsLatest w s path (bytes_of m (Replied (query_reply w s (query.Latest path))))
latest_text w is s path m =
    elim (latest_of w s path) as
    (λ o. latest_of w s path ≡ o
    → TellsLatest w s path (bytes_of m (Replied (query_reply w s (query.Latest path))))) [
      | None ↦ λ none. inr (
        (none_is_latest w s path is).0 none,
        ap (λ o. bytes_of m (Replied (latest_reply w s path o))) none,
      )
      | Some v ↦ λ some.
          let top = (latest_is_the_top w s path v is).0 some in
          let seen = top.member.2.1 in
          let came = ap (λ o. bytes_of m (Replied (latest_reply w s path o))) some
          ∙ ap (λ o. bytes_of m (Replied (info_reply v (without_zip o)))) seen.1 in
          inl (v, seen.0.entry.time, top, (seen.0, seen.1, refl), came)
    ] refl

-- a GET of the latest version gets the text for it or the 503
pub latest_is_written : LatestIsWritten
latest_is_written old new s k path x is own asks run = by_answer (answer_of x) refl
  where
    by_answer : (a : Answer) → answer_of x ≡ a → TellsLatest old s path (text_of x) ⊎ (text_of x ≡ unavailable)
    by_answer (Failed fault) came = inr (ap (bytes_of x.message) came)
    by_answer (Replied r) came =
        let at : Run old (Requested (Get k (query.Latest path)) ∷ []) (Replied r ∷ []) new =
        subst (λ e. Run old (e ∷ []) (Replied r ∷ []) new) (ap Requested asks)
        (subst (λ a. Run old (event_of x ∷ []) (a ∷ []) new) came run) in
        let reply : r ≡ query_reply old s (query.Latest path) = keyed old s k (query.Latest path) r own at.0 in
        inl (subst (TellsLatest old s path) (sym (ap (bytes_of x.message) (came ∙ ap Replied reply)))
        (latest_text old is s path x.message))
