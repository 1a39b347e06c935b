-- The bytes of a reply: what they tell, and whether any more could make one of them.
use Rattle.std.specs.Prelude.{not, ◌||◌, codes, IsTrue, OnOk, IfErr}
use Rattle.std.proofs.Common.{◌≡◌, ◌∙◌, ℕ, ◌+◌, ◌-◌, ◌<◌, ◌≤◌, ◌⊎◌, inl, inr, Bool, true, false, List, [], ◌∷◌, ◌++◌, length, suc, zero}
use Rattle.std.proofs.Common.{Option, Some, None, Result, Ok, Err, get_or, take, drop, nat_eq, refl, sym, ap, subst, arith}
use Rattle.std.proofs.Common.{append_assoc, leb-true, true≢false}
use Rattle.std.specs.List.{Contains, list_all}
use Rattle.std.proofs.lemmas.Bool.{and_parts, cases_lt, cases_order, false≢true}
use Rattle.std.proofs.lemmas.List.{append-nil, drop_at, get_or-append_right, get_or-take, get_or_append_left, get_or_at}
use Rattle.std.proofs.lemmas.List.{length-append, length-take-le, take-append-drop, take_at}
use Rattle.histories.specs.Account.{Account, Gives}
use Rattle.histories.proofs.AccountLemmas.{Gives-trans}
use Rattle.histories.specs.Calls.{Reads}
use Rattle.world.specs.declared.registry.RegistryReply.TheVariants as registered
use Rattle.world.specs.declared.registry.StoreFault.TheVariants as fault
use Rattle.orders.specs.Order.{Ordered, ListOf, Ping, Stop, Copy, Catalog, RevokeByFingerprint, Registry}
use Rattle.orders.specs.Outcome.{IsNoOutcome, line_of, word_of}
use Rattle.orders.specs.Words.{line_end}
use Rattle.orders.specs.declared.outcome.Outcome.{Outcome}
use Rattle.orders.specs.declared.outcome.Outcome.TheVariants as outcome
use Rattle.orders.proofs.OutcomeLemmas.{one_outcome}
use Rattle.control.specs.Asking.{EndsBy, HasNoBound, IsAsked, IsLastFrom, IsListed, IsNone, IsNoList, IsNoOutcomeIn, IsNoReply}
use Rattle.control.specs.Asking.{IsOutcomeIn, IsReplyTo, IsSent, OrderGets, RepliesBy, extent_of, is_done}
use Rattle.control.specs.Health.{IsHealthLine}
use Rattle.control.specs.Line.{Comes, ComesWith, HearsReply, IsAll, IsPartAfter, LacksRoom, ReadsMore, ReadsReply}
use Rattle.control.specs.Line.{longest_outcome, most_read, reply_room}
use Rattle.control.specs.Listing.{AreLines}
use Rattle.control.specs.declared.client.OrderReply.{OrderReply}
use Rattle.control.specs.declared.client.OrderReply.TheVariants as reply
use Rattle.control.specs.declared.client.SendError.{SendError}
use Rattle.control.specs.declared.client.SendError.TheVariants as sending
use Rattle.control.specs.declared.line.Came.{Came}
use Rattle.control.specs.declared.line.Came.TheVariants.{All, Part, Interrupted, Late}
use Rattle.control.specs.declared.line.Extent.{Extent}
use Rattle.control.specs.declared.line.Extent.TheVariants.{Line, Stream}
use Rattle.control.specs.declared.line.ReadError.{ReadError}
use Rattle.control.specs.declared.line.ReadError.TheVariants as unread

-- ---- the line of an outcome

abbrev goes_on : ℕ → Bool
goes_on b = not (nat_eq b 10)

-- a word without an end of a line has one only behind it
end_behind : (word : List ℕ) → list_all goes_on word ≡ true → (i d : ℕ) → i < length (word ++ line_end ∷ [])
    → get_or (word ++ line_end ∷ []) i d ≡ line_end → i + 1 ≡ length (word ++ line_end ∷ [])
end_behind [] all zero d within is = refl
end_behind [] all (suc i) d within is = absurd (omega (arith, within))
end_behind (b ∷ bs) all zero d within is =
    let first = (and_parts _ _ all).0 in
    absurd (false≢true (subst (λ x. goes_on x ≡ true) is first))
end_behind (b ∷ bs) all (suc i) d within is =
    let more = end_behind bs (and_parts _ _ all).1 i d (omega (arith, within)) is in omega (arith, more)

words_go_on : (told : Outcome) → list_all goes_on (word_of told) ≡ true
words_go_on (outcome.RegistryReply registered.Done) = refl
words_go_on (outcome.RegistryReply registered.Name) = refl
words_go_on (outcome.RegistryReply registered.Taken) = refl
words_go_on (outcome.RegistryReply registered.NoTeam) = refl
words_go_on (outcome.RegistryReply registered.NoGroup) = refl
words_go_on (outcome.RegistryReply registered.NoKey) = refl
words_go_on (outcome.Failed fault.Device) = refl
words_go_on (outcome.Failed fault.Memory) = refl
words_go_on outcome.NotEmpty = refl
words_go_on outcome.Busy = refl
words_go_on outcome.Ended = refl
words_go_on outcome.Stopping = refl
words_go_on outcome.Bad = refl

few_bytes : (told : Outcome) → length (line_of told) ≤ longest_outcome
few_bytes (outcome.RegistryReply registered.Done) = leb-true 5 10 refl
few_bytes (outcome.RegistryReply registered.Name) = leb-true 5 10 refl
few_bytes (outcome.RegistryReply registered.Taken) = leb-true 6 10 refl
few_bytes (outcome.RegistryReply registered.NoTeam) = leb-true 8 10 refl
few_bytes (outcome.RegistryReply registered.NoGroup) = leb-true 9 10 refl
few_bytes (outcome.RegistryReply registered.NoKey) = leb-true 7 10 refl
few_bytes (outcome.Failed fault.Device) = leb-true 7 10 refl
few_bytes (outcome.Failed fault.Memory) = leb-true 7 10 refl
few_bytes outcome.NotEmpty = leb-true 10 10 refl
few_bytes outcome.Busy = leb-true 5 10 refl
few_bytes outcome.Ended = leb-true 6 10 refl
few_bytes outcome.Stopping = leb-true 9 10 refl
few_bytes outcome.Bad = leb-true 4 10 refl

line_length : (told : Outcome) → length (line_of told) ≡ length (word_of told) + 1
line_length told = length-append (word_of told) (line_end ∷ [])

end_is_last : (told : Outcome) (i d : ℕ) → i < length (line_of told) → get_or (line_of told) i d ≡ line_end
    → i + 1 ≡ length (line_of told)
end_is_last told i d within is = end_behind (word_of told) (words_go_on told) i d within is

empty : (xs : List ℕ) → length xs ≡ 0 → xs ≡ []
empty [] none = refl
empty (x ∷ xs) none = absurd (omega (arith, none))

-- no more comes behind the end of it
nothing_follows : (told : Outcome) (got more : List ℕ) → Contains got line_end → got ++ more ≡ line_of told → more ≡ []
nothing_follows told got more (i, within, at) is =
    let all = length-append got more in
    let same = ap length is in
    let there : get_or (line_of told) i line_end ≡ line_end =
    subst (λ (x : List ℕ). get_or x i line_end ≡ line_end) is (get_or_append_left got more line_end i within ∙ at) in
    let last = end_is_last told i line_end (omega (arith, within, all, same)) there in
    empty more (omega (arith, within, all, same, last))

-- ---- no reply

without_more : (got more : List ℕ) → more ≡ [] → got ++ more ≡ got
without_more got more none = ap (λ x. got ++ x) none ∙ append-nil got

-- bytes that are the line of no outcome, and have its end or are all, are that of none with any more
no_outcome_follows : (got : List ℕ) (over : Bool) → IsAll Line got ⊎ IsTrue over → IsNoOutcomeIn got
    → (more : List ℕ) → (IsTrue over → more ≡ []) → IsNoOutcomeIn (got ++ more)
no_outcome_follows got over all none more may (reply.Text text) is = is
no_outcome_follows got over (inr ended) none more may (reply.Outcome told) is =
    none (reply.Outcome told) (sym (without_more got more (may ended)) ∙ is)
no_outcome_follows got over (inl (inl there)) none more may (reply.Outcome told) is =
    none (reply.Outcome told) (sym (without_more got more (nothing_follows told got more there is)) ∙ is)
no_outcome_follows got over (inl (inr long)) none more may (reply.Outcome told) is =
    let few = few_bytes told in
    let all = length-append got more in
    let same = ap length is in
    absurd (omega (arith, long, few, all, same))

-- so it is where all came
no_more_follows : (o : Ordered) (got : List ℕ) (over : Bool) → ⊥ ⊎ IsTrue over → IsNone o got → IsNoReply o over got
no_more_follows o got over (inl never) none = absurd never
no_more_follows o got over (inr ended) none =
    λ more may. subst (IsNone o) (sym (without_more got more (may ended))) none

pub no_reply : (o : Ordered) (got : List ℕ) (over : Bool) → IsAll (extent_of o) got ⊎ IsTrue over → IsNone o got
    → IsNoReply o over got
no_reply Ping got over all none = no_more_follows Ping got over all none
no_reply (ListOf listing) got over all none = no_more_follows (ListOf listing) got over all none
no_reply (Catalog key) got over all none = no_more_follows (Catalog key) got over all none
no_reply Stop got over all none =
    no_outcome_follows got over all none
no_reply (Copy path) got over all none =
    no_outcome_follows got over all none
no_reply (RevokeByFingerprint f) got over all none =
    no_outcome_follows got over all none
no_reply (Registry command) got over all none =
    no_outcome_follows got over all none

-- bytes that are the line of no outcome, and not the lines of a health
pub no_health : (got : List ℕ) → IsNoOutcome got → ¬ IsHealthLine got → IsNone Ping got
no_health got none other (reply.Outcome told) is = none told is
no_health got none other (reply.Text text) is = other (subst IsHealthLine (sym is.1) is.0)

-- ---- the end of a list or a catalog

module _ (got : List ℕ) (at : ℕ) (bound : at ≤ length got) (within : 0 < length got → at < length got)
    (are : AreLines (take at got)) (last : IsLastFrom at got) where
  -- the last line does not begin behind the lines before an outcome's
  not_behind : (lines : List ℕ) (told : Outcome) → EndsBy lines told got → length lines < at → ⊥
  not_behind lines told ends behind = elim are [
    | inl none ↦
        let many = length-take-le at got bound in
        let zero_many = ap length none in
        omega (arith, behind, many, zero_many)
    | inr (front, is) ↦
        let p = length front in
        let many = length-take-le at got bound in
        let both = length-append front (line_end ∷ []) in
        let same = ap length is in
        let all = ap length ends.is ∙ length-append lines (line_of told) in
        let end : get_or got p 0 ≡ line_end =
        sym (get_or-take at got p 0 (omega (arith, many, both, same)))
        ∙ ap (λ (x : List ℕ). get_or x p 0) is ∙ get_or_at front line_end [] 0 p refl in
        let there : get_or (line_of told) (p - length lines) 0 ≡ line_end =
        sym (get_or-append_right lines (line_of told) (length lines) p 0 refl (omega (arith, behind, many, both, same)))
        ∙ ap (λ (x : List ℕ). get_or x p 0) (sym ends.is) ∙ end in
        let some = line_length told in
        let inside = within (omega (arith, all, some)) in
        let final = end_is_last told (p - length lines) 0
        (omega (arith, behind, many, both, same, all, inside)) there in
        omega (arith, behind, many, both, same, all, inside, final)
  ]

  -- nor before the end of these
  not_before : (lines : List ℕ) (told : Outcome) → EndsBy lines told got → at < length lines → ⊥
  not_before lines told ends before = elim ends.are [
    | inl none ↦ let zero_many = ap length none in omega (arith, before, zero_many)
    | inr (front, is) ↦
        let p = length front in
        let both = length-append front (line_end ∷ []) in
        let same = ap length is in
        let all = ap length ends.is ∙ length-append lines (line_of told) in
        let some = line_length told in
        let end : get_or got p 0 ≡ line_end =
        ap (λ (x : List ℕ). get_or x p 0) ends.is
        ∙ get_or_append_left lines (line_of told) 0 p (omega (arith, both, same))
        ∙ ap (λ (x : List ℕ). get_or x p 0) is ∙ get_or_at front line_end [] 0 p refl in
        last p (omega (arith, before, both, same)) (omega (arith, both, same, all, some)) end
  ]

  begins_there : (lines : List ℕ) (told : Outcome) → EndsBy lines told got → length lines ≡ at
  begins_there lines told ends = elim (cases_order (length lines) at) [
    | inl same ↦ same
    | inr (inl behind) ↦ absurd (not_behind lines told ends behind)
    | inr (inr before) ↦ absurd (not_before lines told ends before)
  ]

  the_last_line : (lines : List ℕ) (told : Outcome) → EndsBy lines told got → drop at got ≡ line_of told
  the_last_line lines told ends =
      ap (drop at) ends.is ∙ drop_at lines (line_of told) at (begins_there lines told ends)

  -- a list is lines and an outcome's line
  ends_somehow : (cut : Bool) (told : OrderReply) → IsListed cut told got
      → (lines : List ℕ) × ((o : Outcome) × EndsBy lines o got)
  ends_somehow cut (reply.Text lines) is = (lines, (outcome.RegistryReply registered.Done, is))
  ends_somehow false (reply.Outcome o) is = ([], (o, is.1))
  ends_somehow true (reply.Outcome o) is = (is.1.0, (o, is.1.1))

  -- if the last line is no outcome's, it is none
  pub no_list : (cut : Bool) → IsNoOutcome (drop at got) → IsNoList cut got
  no_list cut none told is =
      let ends = ends_somehow cut told is in none ends.1.0 (the_last_line ends.0 ends.1.0 ends.1.1)

  ends_with : (told : Outcome) → drop at got ≡ line_of told → EndsBy (take at got) told got
  ends_with told is = record {
    are = are;
    is = sym (take-append-drop at got) ∙ ap (λ (x : List ℕ). take at got ++ x) is;
  }

  done_is : (told : Outcome) → is_done told ≡ true → told ≡ outcome.RegistryReply registered.Done
  done_is (outcome.RegistryReply registered.Done) is = refl
  done_is (outcome.RegistryReply registered.Name) is = absurd (false≢true is)
  done_is (outcome.RegistryReply registered.Taken) is = absurd (false≢true is)
  done_is (outcome.RegistryReply registered.NoTeam) is = absurd (false≢true is)
  done_is (outcome.RegistryReply registered.NoGroup) is = absurd (false≢true is)
  done_is (outcome.RegistryReply registered.NoKey) is = absurd (false≢true is)
  done_is (outcome.Failed why) is = absurd (false≢true is)
  done_is outcome.NotEmpty is = absurd (false≢true is)
  done_is outcome.Busy is = absurd (false≢true is)
  done_is outcome.Ended is = absurd (false≢true is)
  done_is outcome.Stopping is = absurd (false≢true is)
  done_is outcome.Bad is = absurd (false≢true is)

  pub all_listed : (cut : Bool) (told : Outcome) → drop at got ≡ line_of told → is_done told ≡ true
      → IsListed cut (reply.Text (take at got)) got
  all_listed cut told is done =
      ends_with (outcome.RegistryReply registered.Done) (is ∙ ap line_of (done_is told done))

  pub told_in_place : (cut : Bool) (told : Outcome) → drop at got ≡ line_of told → is_done told ≡ false
      → (at ≡ 0) ⊎ (cut ≡ true) → IsListed cut (reply.Outcome told) got
  told_in_place true told is undone which = (undone, (take at got, ends_with told is))
  told_in_place false told is undone (inl none) =
      (undone, subst (λ n. EndsBy (take n got) told got) none (ends_with told is))
  told_in_place false told is undone (inr never) = absurd (false≢true never)

  -- lines may not be cut, and stand before another outcome than `done`
  pub no_whole_list : (cut : Bool) (told : Outcome) → drop at got ≡ line_of told → is_done told ≡ false
      → (at ≡ 0 → ⊥) → cut ≡ false → IsNoList cut got
  no_whole_list true told is undone some never any listed = absurd (true≢false never)
  no_whole_list false told is undone some never (reply.Text lines) ends =
      let done = outcome.RegistryReply registered.Done in
      let same = one_outcome told done (sym is ∙ the_last_line lines done ends) in
      absurd (true≢false (ap is_done (sym same) ∙ undone))
  no_whole_list false told is undone some never (reply.Outcome other) (undone', ends) =
      some (sym (begins_there [] other ends))

-- ---- one read after another

-- what was read behind what was read before
pub more_again : (a b c : Account) (x y z : List ℕ) → ReadsMore a b x y → ReadsMore b c y z → ReadsMore a c x z
more_again a b c x y z first next = record {
  bytes = first.bytes ++ next.bytes;
  gives = Gives-trans a b c first.bytes next.bytes first.gives next.gives;
  behind = next.behind ∙ ap (λ l. l ++ next.bytes) first.behind ∙ append_assoc x first.bytes next.bytes;
}

-- a line that has no more bytes than before
pub part_again : (extent : Extent) (x y z : ℕ) → IsPartAfter extent x y → IsPartAfter extent y z
    → IsPartAfter extent x z
part_again Line x y z first next = λ long. first (next long)
part_again Stream x y z first next = tt

pub part_first : (extent : Extent) (x : ℕ) → IsPartAfter extent x x
part_first Line x = λ long. long
part_first Stream x = tt

-- where memory runs out for a read
pub lacks_room : (extent : Extent) (capacity capacity_new len len_new : ℕ) → capacity ≤ capacity_new
    → IsPartAfter extent len len_new → capacity_new < len_new + most_read → LacksRoom extent capacity len
lacks_room Stream capacity capacity_new len len_new room part full = tt
lacks_room Line capacity capacity_new len len_new room part full = elim (cases_lt longest_outcome len_new) [
  | inl long ↦ inl (part long)
  | inr short ↦ inr (omega (arith, room, full, short))
]

-- what came with these bytes, as `Comes` says it
pub comes_with : (extent : Extent) (came : Came) (got got_new : List ℕ) (len len_new : ℕ) (a : Account)
    → len_new ≡ length got_new → ComesWith extent came got_new → Comes extent came got_new len len_new a
comes_with extent All got got_new len len_new a same comes = inl comes
comes_with Line Part got got_new len len_new a same comes =
    λ long. absurd (let never = comes (omega (arith, long, same)) in omega (arith, never))
comes_with Stream Part got got_new len len_new a same comes = tt
comes_with extent Interrupted got got_new len len_new a same comes = absurd comes
comes_with extent Late got got_new len len_new a same comes = absurd comes

-- ---- an order and its reply

-- the line was not sent, and nothing was read
pub unasked : (T : Type 0) (on : Bool) (a : Account) (r : Reads) (w w' : Option (List ℕ)) (f f' : ℕ) (o : Ordered)
    (why : SendError) → IsSent w w' {T = T} f f' o (Err why) → OrderGets on a a r r w w' f f' o (Err why)
unasked T on a r w w' f f' o sending.Words (never, same) = (never, same, refl, refl)
unasked T on a r w w' f f' o sending.Memory same = (same, refl, refl)
unasked T on a r w w' f f' o sending.Io cut = inl (cut, refl, refl)
unasked T on a r w w' f f' o sending.NoReply never = absurd never
unasked T on a r w w' f f' o sending.ReplyMemory never = absurd never

-- a line that begins with its room needs no other memory
lacks : (extent : Extent) → LacksRoom extent reply_room 0 → extent ≡ Stream
lacks Line (inl long) = absurd (omega (arith, long))
lacks Line (inr small) = absurd (omega (arith, small))
lacks Stream any = refl

pub has_no_bound : (o : Ordered) (capacity len : ℕ) → capacity ≡ reply_room → len ≡ 0
    → LacksRoom (extent_of o) capacity len → HasNoBound o
has_no_bound o capacity len room none lack =
    lacks (extent_of o) (subst (λ n. LacksRoom (extent_of o) reply_room n) none
    (subst (λ c. LacksRoom (extent_of o) c len) room lack))

-- the line of an order was sent, and its reply was read, or not all of it
pub gets : (on : Bool) (o : Ordered) (a b : Account) (r r' : Reads) (w w' : Option (List ℕ)) (f f' : ℕ) (got : List ℕ)
    (capacity len : ℕ) (read : Result (Unit {0}) ReadError) (told : Result OrderReply SendError)
    → capacity ≡ reply_room → len ≡ 0 → IsAsked w w' o
    → OnOk read (ReadsReply (extent_of o) a b [] got)
    → HearsReply on r r' read
    → IfErr read (λ why. why ≡ unread.Memory → LacksRoom (extent_of o) capacity len)
    → RepliesBy o got read told → OrderGets on a b r r' w w' f f' o told
gets on o a b r r' w w' f f' got capacity len (Ok u) (Ok told) room none asked reads hears memory is =
    (asked, (got, subst (Gives a b) (sym reads.more.behind) reads.more.gives, is), hears)
gets on o a b r r' w w' f f' got capacity len (Ok u) (Err why) room none asked reads hears memory (is, wrong) =
    subst (λ x. OrderGets on a b r r' w w' f f' o (Err x)) (sym is) (
      asked,
      (
        got,
        subst (Gives a b) (sym reads.more.behind) reads.more.gives,
        no_reply o got b.is_over reads.all wrong,
      ),
      hears,
    )
gets on o a b r r' w w' f f' got capacity len (Err unread.Io) told room none asked reads hears memory is =
    subst (OrderGets on a b r r' w w' f f' o) (sym is) (inr (asked, hears))
gets on o a b r r' w w' f f' got capacity len (Err unread.Memory) told room none asked reads hears memory is =
    subst (OrderGets on a b r r' w w' f f' o) (sym is)
    (asked, has_no_bound o capacity len room none (memory refl), hears)
