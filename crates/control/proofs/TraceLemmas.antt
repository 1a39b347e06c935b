-- The moments of callers, one after another: their lines, and what was done to the reserve meanwhile.
use Rattle.std.proofs.Common.{◌≡◌, ◌∙◌, ℕ, List, [], ◌∷◌, ◌++◌, Option, Some, None, Result, Ok, Err, ap, refl, subst, sym}
use Rattle.std.proofs.Common.{◌⊎◌, append_assoc, append-nil, inl, inr}
use Rattle.histories.specs.Calls.{Writes}
use Rattle.engine.specs.declared.fault.Io.{Io}
use Rattle.socket.specs.Connections.{Visit}
use Rattle.control.specs.Copying.{IsBusy, Making}
use Rattle.control.specs.Finds.{AreOfMoments, ForPeer, Looked, Moment, WritesAndDoes, dids, wrotes}
use Rattle.control.specs.Health.{Answered as AnsweredAs}
use Rattle.control.specs.Hearing.{Heard, Made, done_notice}
use Rattle.control.specs.Noted.{AreOf, IsAbout, IsNoted, Noted, NotesAndLooks, NotesTold, TellsPeer, noted_line}
use Rattle.control.specs.Notices.{Occasion}
use Rattle.control.specs.Reserve.{DiskDeed, DoesMore, Lent, begun_for, once_begun}
use Rattle.control.specs.Traces.{AreFor, HasMoments, HasTraces, IsDoneNoted, IsLineFor, Log, TellsOrder, UsesAndTells}
use Rattle.control.specs.Traces.{WritesTraces, occasion_of, or_told}
use Rattle.control.specs.Uses.{IsUseIf}
use Rattle.control.specs.Visits.{Audience, Call, IsLong, OfOperator, OfPeer, Untaken}
use Rattle.control.specs.declared.control_reply.ControlReply.{ControlReply}
use Rattle.control.specs.declared.control_reply.ControlReply.TheVariants as spoken
use Rattle.control.specs.declared.faults.RecentFaults.{RecentFaults}
use Rattle.control.specs.declared.reserve.Room.{Room}
use Rattle.control.proofs.FindLemmas.{does_behind, does_none, does_so, does_then, looked_for_peer, looked_once}
use Rattle.control.proofs.FindLemmas.{moments_then, no_moments, only_deeds, only_lines}
use Rattle.control.proofs.UseLemmas.{began_for}

-- ---- the moments of all callers

module _ {P O : Type 0} where
  has_then : (f m g : RecentFaults) (xs ys : List (Call P O)) (ms ns : List Moment) → HasMoments f m xs ms
      → HasMoments m g ys ns → HasMoments f g (xs ++ ys) (ms ++ ns)
  has_then f m g [] ys ms ns one two =
      subst (λ l. HasMoments f g ys (l ++ ns)) (sym one.0) (subst (λ k. HasMoments k g ys ns) one.1 two)
  has_then f m g (OfPeer visit answered ∷ xs) ys ms ns (mid, found, room, looks, fault, rest, is, tells, more) two = (
    mid,
    found,
    room,
    looks,
    fault,
    rest ++ ns,
    ap (λ l. l ++ ns) is ∙ ap (λ l. ForPeer found room looks ∷ l) (append_assoc (wrotes fault) rest ns),
    tells,
    has_then mid m g xs ys rest ns more two,
  )
  has_then f m g (OfOperator x ∷ xs) ys ms ns (used, inner, own, found, room, rest, is, uses, long, for_it, more) two = (
    used,
    inner,
    own,
    found,
    room,
    rest ++ ns,
    ap (λ l. l ++ ns) is ∙ append_assoc (dids used) (inner ++ (wrotes own ++ Looked found room ∷ rest)) ns
        ∙ ap (λ l. dids used ++ l) (append_assoc inner (wrotes own ++ Looked found room ∷ rest) ns)
        ∙ ap (λ l. dids used ++ (inner ++ l)) (append_assoc (wrotes own) (Looked found room ∷ rest) ns),
    uses,
    long,
    for_it,
    subst (HasMoments f g (xs ++ ys)) (append_assoc inner rest ns)
        (has_then f m g xs ys (inner ++ rest) ns more two),
  )
  has_then f m g (Untaken ∷ xs) ys ms ns one two = has_then f m g xs ys ms ns one two

  both_traced : (f m g : RecentFaults) (a b c : Room) (xs ys : List (Call P O)) (lines others : List (List ℕ))
      (ds es : List DiskDeed) → HasTraces xs f m a b lines ds → HasTraces ys m g b c others es
      → HasTraces (xs ++ ys) f g a c (lines ++ others) (ds ++ es)
  both_traced f m g a b c xs ys lines others ds es one two = record {
    moments = one.moments ++ two.moments;
    has = has_then f m g xs ys one.moments two.moments one.has two.has;
    are = moments_then one.moments two.moments a b c lines others ds es one.are two.are;
  }

  -- callers, and then others
  pub traces_then : (xs ys : List (Call P O)) (e f g : Log) (a b c : Lent) → WritesTraces xs e f a b
      → WritesTraces ys f g b c → WritesTraces (xs ++ ys) e g a c
  traces_then xs ys e f g a b c one two =
      does_then (HasTraces xs e.1 f.1) (HasTraces ys f.1 g.1) (HasTraces (xs ++ ys) e.1 g.1) e.0 f.0 g.0 a b c
      (λ lines others ds es. both_traced e.1 f.1 g.1 a.1 b.1 c.1 xs ys lines others ds es) one two

  -- an operator, with those who were served before its line was written
  order_around : (x : Audience O) (calls : List (Call P O)) (f m g : RecentFaults) (a b c : Room)
      (used : List DiskDeed) (inner lines : List (List ℕ)) (among looks : List DiskDeed) → IsUseIf x.heard used
      → ((ms : List Moment) → (ms ≡ []) ⊎ IsLong x.heard) → g ≡ m → HasTraces calls f m a b inner among
      → TellsOrder x.heard x.told b c lines looks
      → HasTraces (OfOperator x ∷ calls) f g a c (inner ++ lines) (used ++ (among ++ looks))
  order_around x calls f m g a b c used inner lines among looks uses long same has (own, room, is, for_it, looked) =
      let tail = wrotes own ++ Looked c room ∷ [] in
      record {
        moments = dids used ++ (has.moments ++ tail);
        has = (
          used,
          has.moments,
          own,
          c,
          room,
          [],
          refl,
          uses,
          long has.moments,
          for_it,
          subst (λ k. HasMoments f k calls (has.moments ++ [])) (sym same)
              (subst (HasMoments f m calls) (sym (append-nil has.moments)) has.has),
        );
        are = subst (λ l. AreOfMoments (dids used ++ (has.moments ++ tail)) a c (inner ++ l) (used ++ (among ++ looks)))
            (sym is)
            (moments_then (dids used) (has.moments ++ tail) a a c [] (inner ++ (own ++ room)) used (among ++ looks)
            (only_deeds a used)
            (moments_then has.moments tail a b c inner (own ++ room) among looks has.are
            (moments_then (wrotes own) (Looked c room ∷ []) b b c own room [] looks (only_lines b own)
            (looked_once b c room looks looked))));
      }

  module _ (x : Audience O) (calls : List (Call P O)) (e f g : Log) (m : Room) where
    -- those who were served meanwhile, and then the lines for an operator
    Around : Room → Room → List (List ℕ) → List DiskDeed → Type 0
    Around k n lines deeds =
        (inner : List (List ℕ)) × (own : List (List ℕ)) × (among : List DiskDeed) × (looks : List DiskDeed)
        × (lines ≡ inner ++ own) × (deeds ≡ among ++ looks) × HasTraces calls e.1 f.1 k m inner among
        × TellsOrder x.heard x.told m n own looks

    around_traced : IsLong x.heard → g.1 ≡ f.1 → (k n : Room) (lines : List (List ℕ)) (used deeds : List DiskDeed)
        → IsUseIf x.heard used → Around k n lines deeds
        → HasTraces (OfOperator x ∷ calls) e.1 g.1 k n lines (used ++ deeds)
    unfolding Around order_around
    around_traced long same k n lines used deeds uses (inner, own, among, looks, is, are, has, tells) =
        subst (λ l. HasTraces (OfOperator x ∷ calls) e.1 g.1 k n l (used ++ deeds)) (sym is)
        (subst (λ d. HasTraces (OfOperator x ∷ calls) e.1 g.1 k n (inner ++ own) (used ++ d)) (sym are)
        (order_around x calls e.1 f.1 g.1 k m n used inner own among looks uses (λ ms. inr long) same has tells))

  -- an operator who had something made, and those who were served meanwhile
  pub traces_around : (x : Audience O) (making : Making) (calls : List (Call P O)) (e f g : Log) (k l n : Lent)
      → x.heard ≡ Some (Made making) → ¬ IsBusy making → WritesTraces calls e f (once_begun making k) l
      → WritesAndDoes (TellsOrder x.heard x.told) f.0 g.0 l n → g.1 ≡ f.1
      → WritesTraces (OfOperator x ∷ calls) e g k n
  unfolding Around
  traces_around x making calls e f g k l n is free among tells same =
      let begun = once_begun making k in
      let long : IsLong x.heard = subst IsLong (sym is) free in
      let behind = does_then (HasTraces calls e.1 f.1) (TellsOrder x.heard x.told) (Around x calls e f g l.1)
      e.0 f.0 g.0 begun l n (λ xs ys ds es has told. (xs, ys, ds, es, refl, refl, has, told)) among tells in
      does_behind (λ own. own ≡ begun_for making) (Around x calls e f g l.1) (HasTraces (OfOperator x ∷ calls) e.1 g.1)
      e.0 g.0 k begun n
      (λ xs ds es is_begun around.
      around_traced x calls e f g l.1 long same k.1 n.1 xs ds es (subst (λ h. IsUseIf h ds) (sym is) is_begun) around)
      (began_for making free k) behind

-- a peer
pub traces_peer : (O : Type 0) {P : Type 0} (visit : Visit P) (answered : AnsweredAs) (e f : Log) (a b : Lent)
    → WritesAndDoes (TellsPeer e.1 f.1) e.0 f.0 a b
    → WritesTraces {P = P} {O = O} (OfPeer visit answered ∷ []) e f a b
traces_peer O {P} visit answered e f a b written =
    does_so (TellsPeer e.1 f.1) (HasTraces {P = P} {O = O} (OfPeer visit answered ∷ []) e.1 f.1) e.0 f.0 a b
    (λ lines deeds of. record {
      moments = ForPeer b.1 of.room deeds ∷ wrotes of.fault;
      has = (
        f.1,
        b.1,
        of.room,
        deeds,
        of.fault,
        [],
        ap (λ l. ForPeer b.1 of.room deeds ∷ l) (sym (append-nil (wrotes of.fault))),
        of.tells,
        (refl, refl),
      );
      are = subst (λ l. AreOfMoments (ForPeer b.1 of.room deeds ∷ wrotes of.fault) a.1 b.1 l deeds) (sym of.are)
          (subst (AreOfMoments (ForPeer b.1 of.room deeds ∷ wrotes of.fault) a.1 b.1 (of.room ++ of.fault))
          (append-nil deeds)
          (moments_then (ForPeer b.1 of.room deeds ∷ []) (wrotes of.fault) a.1 b.1 b.1 of.room of.fault deeds []
          (looked_for_peer a.1 b.1 of.room deeds of.looks) (only_lines b.1 of.fault)));
    }) written

-- nobody
pub traces_none : (P O : Type 0) (e : Log) (a : Lent) → WritesTraces {P = P} {O = O} [] e e a a
traces_none P O e a = does_none (HasTraces {P = P} {O = O} [] e.1 e.1) e.0 a
    (record { moments = []; has = (refl, refl); are = no_moments a.1 })

-- a connection that could not be taken
pub traces_untaken : (P O : Type 0) (e f : Log) (a b : Lent) → e ≡ f → a ≡ b
    → WritesTraces {P = P} {O = O} (Untaken ∷ []) e f a b
traces_untaken P O e f a b same still =
    subst (λ l. WritesTraces {P = P} {O = O} (Untaken ∷ []) l f a b) (sym same)
    (subst (λ l. WritesTraces {P = P} {O = O} (Untaken ∷ []) f f l b) (sym still)
    (does_none (HasTraces {P = P} {O = O} (Untaken ∷ []) f.1 f.1) f.0 b
    (record { moments = []; has = (refl, refl); are = no_moments b.1 })))

-- an operator, for whom nothing was made
pub traces_operator : (P : Type 0) {O : Type 0} (x : Audience O) (e f : Log) (a b : Lent)
    → WritesAndDoes (UsesAndTells x.heard x.told) e.0 f.0 a b → f.1 ≡ e.1
    → WritesTraces {P = P} {O = O} (OfOperator x ∷ []) e f a b
traces_operator P {O} x e f a b written same =
    does_so (UsesAndTells x.heard x.told) (HasTraces {P = P} {O = O} (OfOperator x ∷ []) e.1 f.1) e.0 f.0 a b
    (λ lines deeds (used, looks, are, uses, (own, room, is, for_it, looked)).
    let tail = wrotes own ++ Looked b.1 room ∷ [] in
    record {
      moments = dids used ++ tail;
      has = (used, [], own, b.1, room, [], refl, uses, inl refl, for_it, (refl, same));
      are = subst (λ l. AreOfMoments (dids used ++ tail) a.1 b.1 l deeds) (sym is)
          (subst (AreOfMoments (dids used ++ tail) a.1 b.1 (own ++ room)) (sym are)
          (moments_then (dids used) tail a.1 a.1 b.1 [] (own ++ room) used looks (only_deeds a.1 used)
          (moments_then (wrotes own) (Looked b.1 room ∷ []) a.1 a.1 b.1 own room [] looks (only_lines a.1 own)
          (looked_once a.1 b.1 room looks looked))));
    }) written

-- an order, and then its lines
pub order_traced : (heard : Option Heard) (said : Result ControlReply Io) (e f : Option (List ℕ) × Writes) (a b c : Lent)
    → DoesMore (IsUseIf heard) a b → WritesAndDoes (TellsOrder heard said) e f b c
    → WritesAndDoes (UsesAndTells heard said) e f a c
order_traced heard said e f a b c done_so tells =
    does_behind (IsUseIf heard) (TellsOrder heard said) (UsesAndTells heard said) e f a b c
    (λ xs ds es used told. (ds, es, refl, used, told)) done_so tells

-- ---- the line of an order

told_noted : (said : Result ControlReply Io) (noted : Option Noted) → NotesTold None said noted
    → IsNoted (or_told None said) noted
told_noted (Ok (spoken.Outcome outcome)) noted notes = notes
told_noted (Ok (spoken.Health lines)) noted notes = notes
told_noted (Ok (spoken.List lines)) noted notes = notes
told_noted (Err e) noted notes = notes

-- what was done is noted, or what the operator was told
noted_or_told : (about : Option Occasion) (said : Result ControlReply Io) (done noted : Option Noted)
    → IsNoted about done
    → NotesTold done said noted → IsNoted (or_told about said) noted
noted_or_told (Some about) said None noted is notes = absurd is
noted_or_told (Some about) said (Some done) noted is notes = subst (IsAbout about) (sym notes) is
noted_or_told None said before noted is notes =
    told_noted said noted (subst (λ d. NotesTold d said noted) is notes)

noted_for : (heard : Option Heard) (said : Result ControlReply Io) (done noted : Option Noted)
    → IsDoneNoted heard said done
    → NotesTold done said noted → IsNoted (occasion_of heard said) noted
noted_for None said done noted is notes = noted_or_told None said done noted is notes
noted_for (Some heard) said done noted is notes = noted_or_told (done_notice heard said) said done noted is notes

line_for : (about : Occasion) (noted : Noted) → IsAbout about (Some noted) → IsLineFor about (noted_line noted)
line_for about (Ok notice) is = inl is
line_for about (Err none) is = inr refl

own_line : (about : Option Occasion) (noted : Option Noted) (own : List (List ℕ)) → IsNoted about noted
    → AreOf noted own → AreFor about own
own_line None noted own is are = subst (λ n. AreOf n own) is are
own_line (Some about) None own is are = absurd is
own_line (Some about) (Some noted) own is are = (noted_line noted, are, line_for about noted is)

-- the lines that begin with that of what is noted of an order have one for it
pub trace_of : (heard : Option Heard) (said : Result ControlReply Io) (done noted : Option Noted)
    (e f : Option (List ℕ) × Writes) (a b : Lent) → IsDoneNoted heard said done → NotesTold done said noted
    → WritesAndDoes (NotesAndLooks noted) e f a b → WritesAndDoes (TellsOrder heard said) e f a b
trace_of heard said done noted e f a b is notes written =
    does_so (NotesAndLooks noted) (TellsOrder heard said) e f a b
    (λ lines deeds begins. (
      begins.0,
      begins.1,
      begins.2,
      own_line (occasion_of heard said) noted begins.0 (noted_for heard said done noted is notes) begins.3,
      begins.4,
    )) written
