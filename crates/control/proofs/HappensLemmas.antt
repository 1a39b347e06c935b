-- What is done for callers who come one after another, or while something is made for one of them.
use Rattle.std.proofs.Common.{◌≡◌, refl, sym, ap, ◌∙◌, subst, List, [], ◌∷◌, ◌++◌, inl, inr, append_assoc, append-nil}
use Rattle.std.proofs.Common.{Option, None, ℕ}
use Rattle.socket.specs.Connections.{Visit}
use Rattle.socket.specs.History.{Does, Done, Door, Ends, EndsOperator, Takes, TakesNone, written_whole}
use Rattle.socket.specs.declared.deed.Deed.TheVariants as deed
use Rattle.socket.specs.declared.deed.Search.{Search}
use Rattle.socket.specs.declared.deed.Search.TheVariants.{Waiting}
use Rattle.control.specs.Health.{Answered}
use Rattle.control.specs.Visits.{Audience, AreSought, Call, OfPeer, OfOperator, Untaken, Happened, Happens, IsLong}
use Rattle.control.specs.Visits.{connected_after, search_with}
use Rattle.socket.specs.declared.callers.Caller.{Caller}
use Rattle.socket.specs.declared.callers.Caller.TheVariants.{Peer, Operator}

sought_then : {C : Type 0} (n m k : ℕ) (ds es : List (Done C)) → AreSought n ds m → AreSought m es k
    → AreSought n (ds ++ es) k
sought_then n m k [] es one two = subst (λ i. AreSought i es k) (sym one) two
sought_then n m k (d ∷ ds) es one two = (one.0, sought_then (connected_after n d.1) m k ds es one.1 two)

module _ {P O : Type 0} where
  happens_then : (xs ys : List (Call P O)) (ds es : List (Done (Caller P O))) → Happens xs ds → Happens ys es
      → Happens (xs ++ ys) (ds ++ es)
  happens_then [] ys ds es one two = subst (λ l. Happens ys (l ++ es)) (sym one) two
  happens_then (OfPeer visit answered ∷ xs) ys ds es (how, rest, is, one) two =
      (how, rest ++ es, ap (λ l. l ++ es) is, happens_then xs ys rest es one two)
  happens_then (OfOperator x ∷ xs) ys ds es (how, within, others, rest, is, made, one) two = (
    how,
    within,
    others,
    rest ++ es,
    ap (λ l. l ++ es) is
        ∙ ap (λ l. ([], deed.Taken how (Operator x.before)) ∷ l)
        (append_assoc within
        (([], deed.Left (Operator x.after) None) ∷ ([], deed.Ended (Operator x.after)) ∷ rest) es),
    made,
    subst (Happens (xs ++ ys)) (append_assoc others rest es) (happens_then xs ys (others ++ rest) es one two),
  )
  happens_then (Untaken ∷ xs) ys ds es (how, rest, is, one) two =
      (how, rest ++ es, ap (λ l. l ++ es) is, happens_then xs ys rest es one two)

  -- nobody
  pub happened_none : (n : ℕ) (before : List (Done (Caller P O))) → Happened n before before []
  happened_none n before = ([], sym (append-nil before), refl, refl)

  -- callers, and then others
  pub happened_then : (n : ℕ) (a b c : List (Done (Caller P O))) (xs ys : List (Call P O)) → Happened n a b xs
      → Happened n b c ys
      → Happened n a c (xs ++ ys)
  happened_then n a b c xs ys one two = (
    one.0 ++ two.0,
    two.1 ∙ (ap (λ l. l ++ two.0) one.1 ∙ append_assoc a one.0 two.0),
    happens_then xs ys one.0 two.0 one.2 two.2,
    sought_then n n n one.0 two.0 one.3 two.3,
  )

  -- this one was left and ended
  abbrev close : Caller P O → Option ℕ → Caller P O → List (Done (Caller P O))
  close after status gone = ([], deed.Left after status) ∷ ([], deed.Ended gone) ∷ []

  -- it was taken, left and ended
  both_done : (how : Search) (door mid end : Door (Caller P O)) (before after gone : Caller P O) (status : Option ℕ)
      → Takes how door mid before → Ends mid end after status gone
      → end.1 ≡ door.1 ++ ([], deed.Taken how before) ∷ close after status gone
  both_done how door mid end before after gone status takes ends =
      ends.noted ∙ (ap (λ m. m ++ close after status gone) takes.noted
      ∙ append_assoc door.1 (([], deed.Taken how before) ∷ []) (close after status gone))

  pub happened_peer : (n : ℕ) (door mid end : Door (Caller P O)) (visit : Visit P) (answered : Answered)
      → Takes (search_with n) door mid (Peer visit.before)
      → Ends mid end (Peer visit.after) (written_whole answered) (Peer visit.gone)
      → Happened n door.1 end.1 (OfPeer visit answered ∷ [])
  happened_peer n door mid end visit answered takes ends = (
    ([], deed.Taken (search_with n) (Peer visit.before))
        ∷ close (Peer visit.after) (written_whole answered) (Peer visit.gone),
    both_done (search_with n) door mid end (Peer visit.before) (Peer visit.after) (Peer visit.gone)
        (written_whole answered) takes ends,
    (search_with n, [], refl, refl),
    (refl, (tt, (tt, refl))),
  )

  -- an operator for whom nothing was made
  pub happened_operator : (n : ℕ) (door mid end : Door (Caller P O)) (x : Audience O)
      → Takes (search_with n) door mid (Operator x.before) → ¬ IsLong x.heard → EndsOperator mid end x.after
      → Happened n door.1 end.1 (OfOperator x ∷ [])
  happened_operator n door mid end x takes short ends = (
    ([], deed.Taken (search_with n) (Operator x.before)) ∷ close (Operator x.after) None (Operator x.after),
    both_done (search_with n) door mid end (Operator x.before) (Operator x.after) (Operator x.after) None takes ends,
    (search_with n, [], [], [], refl, inl (short, refl, refl), refl),
    (refl, (tt, (tt, refl))),
  )

  pub happened_untaken : (n : ℕ) (door end : Door (Caller P O)) → TakesNone (search_with n) door end
      → Happened n door.1 end.1 (Untaken ∷ [])
  happened_untaken n door end takes =
      (([], deed.Untaken (search_with n)) ∷ [], takes.noted, (search_with n, [], refl, refl), (refl, refl))

  -- an operator for whom something was made, and those who came before it was ended
  pub happened_around : (door mid watching last end : Door (Caller P O)) (x : Audience O) (ys : List (Call P O))
      → Takes Waiting door mid (Operator x.before) → Does mid watching [] deed.Watched
      → Happened 1 watching.1 last.1 ys → IsLong x.heard → EndsOperator last end x.after
      → Happened 0 door.1 end.1 (OfOperator x ∷ ys)
  happened_around door mid watching last end x ys takes watched among long ends =
      let first : List (Done (Caller P O)) = ([], deed.Taken Waiting (Operator x.before)) ∷ [] in
      let watch : List (Done (Caller P O)) = ([], deed.Watched) ∷ [] in
      let begin : List (Done (Caller P O)) = ([], deed.Taken Waiting (Operator x.before)) ∷ watch in
      let closed : List (Done (Caller P O)) = close (Operator x.after) None (Operator x.after) in
      let begun : watching.1 ≡ door.1 ++ begin =
      watched.noted ∙ (ap (λ m. m ++ watch) takes.noted ∙ append_assoc door.1 first watch) in (
        ([], deed.Taken Waiting (Operator x.before)) ∷ ([], deed.Watched) ∷ among.0 ++ closed,
        ends.noted
            ∙ (ap (λ m. m ++ closed) (among.1 ∙ ap (λ m. m ++ among.0) begun)
            ∙ (append_assoc (door.1 ++ begin) among.0 closed ∙ append_assoc door.1 begin (among.0 ++ closed))),
        (
          Waiting,
          ([], deed.Watched) ∷ among.0,
          among.0,
          [],
          refl,
          inr (long, refl),
          subst (Happens ys) (sym (append-nil among.0)) among.2,
        ),
        (refl, (tt, sought_then 1 1 0 among.0 closed among.3 (tt, (tt, refl)))),
      )
