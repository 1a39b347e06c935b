-- What is said of an account is said of a reader that had the bytes that were heard, and any that may follow.
use Rattle.std.proofs.Common.{ℕ, inl, inr, List, ◌++◌, Option, Some, None, Result, Ok, Err, sym, ap, subst}
use Rattle.std.specs.Io.KnownBytes.{Consumes}
use Rattle.histories.specs.Account.{Account, Gives, MayFollow, IsSound, IsKnownInput}
use Rattle.histories.specs.Account as account
use Rattle.histories.proofs.AccountLemmas.{Gives-one, left_follows, had}
use Rattle.framing.proofs.PieceLemmas.{ReadsMessages-append}
use Rattle.framing.proofs.StreamLemmas.{ReadsMessage-append}
use Rattle.world.specs.Store.{Shown}
use Rattle.engine.specs.First.{First, Answers, Closes, HearsFirst, TakesFirst, ServesFirst, ServesHeard}
use Rattle.engine.specs.Exchange.{Exchange}
use Rattle.engine.specs.Served.{Serves, ServesAllHeard, IsBrokenOff, IsBrokenOffAfter}
use Rattle.engine.specs.declared.fault.Io.{Io}
use Rattle.engine.specs.declared.fault.Io.TheVariants as io

-- a reader that had these bytes, and then more, and gave the bytes
pub record Had (u u' : Option (List ℕ)) (bytes more : List ℕ) : Type 0 where
  pub consumed : Consumes u u' bytes
  pub tells : IsKnownInput u (bytes ++ more)

known : (a b : Account) (bytes : List ℕ) → Gives a b bytes → Had a.left b.left bytes (account.left_of b.left)
known a b bytes gives = record { consumed = gives.left; tells = had a b bytes gives }

-- the bytes that were heard, and then more
followed : (a b : Account) (bytes others more : List ℕ) → Gives a b bytes → Gives a b others
    → Had (Some (others ++ more)) (Some more) bytes more
followed a b bytes others more gives too =
    let same = ap (λ (l : List ℕ). l ++ more) (Gives-one a b bytes others gives too) in
    record { consumed = sym same; tells = same }

takes_of : (a b : Account) (first : First) (hears : HearsFirst a b first) (u u' : Option (List ℕ)) (more : List ℕ)
    → MayFollow b more
    → Had u u' hears.bytes more → TakesFirst u u' first
takes_of a b (Answers x) hears u u' more may was = record {
  input = hears.bytes ++ more;
  tells = was.tells;
  stands = (hears.stands.0 ++ more, ReadsMessage-append hears.bytes more x.message hears.stands.0 hears.stands.1);
  early = hears.early;
  last = hears.last;
  consumed = subst (Consumes u u') hears.cut was.consumed;
  few = hears.few;
  unfinished = hears.unfinished;
}
takes_of a b (Closes closing) hears u u' more may was = record {
  input = hears.bytes ++ more;
  tells = was.tells;
  stands = hears.stands more may;
  early = hears.early;
  last = hears.last;
  consumed = subst (Consumes u u') hears.cut was.consumed;
  few = hears.few;
  unfinished = hears.unfinished;
}

-- the first message of a reader whose bytes are known
pub first_known : (old new : Shown) (a b : Account) (w w' : Option (List ℕ)) (result : Result (Option ℕ) Io) → IsSound b
    → ServesHeard old new a b w w' result → ServesFirst old new a.left b.left w w' result
first_known old new a b w w' (Ok status) sound (first, hears, through, is, appends) = (
  first,
  takes_of a b first hears a.left b.left _ (left_follows b sound) (known a b hears.bytes hears.gives),
  through,
  is,
  appends,
)
first_known old new a b w w' (Err io.Read) sound (got, gives, waits, through, keeps) =
    (got, gives.left, waits, through, keeps)
first_known old new a b w w' (Err io.Write) sound (first, hears, through, ended) = (
  first,
  takes_of a b first hears a.left b.left _ (left_follows b sound) (known a b hears.bytes hears.gives),
  through,
  ended,
)

-- the first message of a reader that had what was heard, and then more
pub first_followed : (old new : Shown) (a b : Account) (w w' : Option (List ℕ)) (result : Result (Option ℕ) Io)
    (bytes more : List ℕ)
    → Gives a b bytes → MayFollow b more → ServesHeard old new a b w w' result
    → ServesFirst old new (Some (bytes ++ more)) (Some more) w w' result
first_followed old new a b w w' (Ok status) bytes more gives may (first, hears, through, is, appends) = (
  first,
  takes_of a b first hears _ _ more may (followed a b hears.bytes bytes more hears.gives gives),
  through,
  is,
  appends,
)
first_followed old new a b w w' (Err io.Read) bytes more gives may (got, heard, waits, through, keeps) =
    (got, (followed a b got bytes more heard gives).consumed, waits, through, keeps)
first_followed old new a b w w' (Err io.Write) bytes more gives may (first, hears, through, ended) = (
  first,
  takes_of a b first hears _ _ more may (followed a b hears.bytes bytes more hears.gives gives),
  through,
  ended,
)

broken_off : (b : Account) (xs : List Exchange) (rest out more : List ℕ) → MayFollow b more
    → IsBrokenOffAfter b xs rest out
    → IsBrokenOff xs (rest ++ more) out
broken_off b xs rest out more may (inl cut) = inl cut
broken_off b xs rest out more may (inr (inl (closing, front, closes, begins, is))) =
    inr (inl (closing, front, closes more may, begins, is))
broken_off b xs rest out more may (inr (inr (closing, closes, is))) = inr (inr (closing, closes more may, is))

-- all messages of a reader whose bytes are known
pub all_known : (old new : Shown) (a b : Account) (w w' : Option (List ℕ)) (result : Result (Unit {0}) Io) → IsSound b
    → ServesAllHeard old new a b w w' result → Serves old new a.left b.left w w' result
all_known old new a b w w' (Ok u) sound s =
    let more = account.left_of b.left in
    let (closing, closes, is) = s.ends in
    record {
      exchanges = s.exchanges;
      input = s.bytes ++ more;
      rest = s.rest ++ more;
      out = s.out;
      reads = ReadsMessages-append s.bytes _ s.rest more s.reads;
      through = s.through;
      appended = s.appended;
      ends = ((known a b s.bytes s.gives).tells, (closing, closes more (left_follows b sound), is));
    }
all_known old new a b w w' (Err io.Read) sound s = record {
  exchanges = s.exchanges;
  input = s.bytes;
  rest = s.rest;
  out = s.out;
  reads = s.reads;
  through = s.through;
  appended = s.appended;
  ends = (s.gives.left, s.ends.0, s.ends.1);
}
all_known old new a b w w' (Err io.Write) sound s =
    let more = account.left_of b.left in
    record {
      exchanges = s.exchanges;
      input = s.bytes ++ more;
      rest = s.rest ++ more;
      out = s.out;
      reads = ReadsMessages-append s.bytes _ s.rest more s.reads;
      through = s.through;
      appended = s.appended;
      ends = (
        (known a b s.bytes s.gives).tells,
        broken_off b s.exchanges s.rest s.out more (left_follows b sound) s.ends,
      );
    }
