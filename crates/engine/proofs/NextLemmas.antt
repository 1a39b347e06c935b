-- Reading until the next message is whole.
use Rattle.std.proofs.Common.{◌≡◌, ℕ, ◌<◌, ◌≤◌, ◌+◌, List, [], ◌++◌, Option, Some, None, Ok, Err, length, refl, sym, ap}
use Rattle.std.proofs.Common.{◌∙◌, subst, arith, append_assoc, append-nil}
use Rattle.histories.specs.Account.{Account}
use Rattle.histories.proofs.AccountLemmas.{Gives-none, Gives-trans, Gives-kept}
use Rattle.framing.specs.Message.{ReadsMessage}
use Rattle.framing.specs.Framing.{Framing, IsUnfinished, view}
use Rattle.framing.specs.declared.message.Message.{Message}
use Rattle.wire.specs.declared.reply.Fixed.{Fixed}
use Rattle.engine.specs.First.{Answers}
use Rattle.engine.specs.Served.{body_read_limit, IsClosing}
use Rattle.engine.specs.Exchange.{Exchange}
use Rattle.engine.specs.Session.{StaysNear, ReadsOn, Takes, ReadSoFar, TakesNext, Comes}
use Rattle.engine.specs.declared.fault.Io.{Io}
use Rattle.engine.specs.declared.fault.Io.TheVariants as io
use Rattle.engine.specs.declared.next.MessageOrEnd.{MessageOrEnd}
use Rattle.engine.specs.declared.next.MessageOrEnd.TheVariants as came
use Rattle.engine.specs.declared.read.AfterRead.TheVariants as after_read
use Rattle.engine.proofs.MessageLemmas.{message_shortens}
use Rattle.engine.proofs.ReadLemmas.{near_few}

-- at first nothing was read
pub none_read : (held : Framing) (unread : Account) (reads : ℕ) → held.failure ≡ None
    → ReadSoFar held held unread unread reads reads
none_read held unread reads sound = record {
  bytes = [];
  consumed = Gives-none unread;
  near = λ waits. near_few held.held [] waits (omega arith);
  held = sym (append-nil held.held);
  sound = sound;
  less = omega arith;
}

module _
    (old now : Framing) (u₀ u₁ : Account) (reads reads_now : ℕ) (far : ReadSoFar old now u₀ u₁ reads reads_now) where
  -- bytes behind those that are held now come behind those that were held at first and those that were read since
  behind : (more : List ℕ) → now.held ++ more ≡ old.held ++ (far.bytes ++ more)
  behind more = ap (λ (held : List ℕ). held ++ more) far.held ∙ append_assoc old.held far.bytes more

  near_now : (bytes : List ℕ) → StaysNear now.held bytes → IsUnfinished old.held
      → StaysNear old.held (far.bytes ++ bytes)
  near_now bytes near waits = record {
    early = far.bytes ++ near.early;
    late = near.late;
    cut = ap (λ (came : List ℕ). far.bytes ++ came) near.cut ∙ sym (append_assoc far.bytes near.early near.late);
    unfinished = subst IsUnfinished (behind near.early) near.unfinished;
    few = near.few;
  }

  -- what is taken comes next: a message that is whole, or the end if the bytes held can't go on
  pub taken_comes : (new : Framing) (next : MessageOrEnd) → Takes now (Some next) new
      → Comes old new reads reads_now u₀ u₁ (Ok next)
  taken_comes new (came.Message message) (reads_it, sound) =
      let shorter : length new.held < length now.held = message_shortens now.held (view message) new.held reads_it in (
        far.bytes,
        far.consumed,
        far.near,
        subst (λ (bytes : List ℕ). ReadsMessage bytes (view message) new.held) far.held reads_it,
        sound,
        omega (arith, shorter, far.less),
      )
  taken_comes new (came.End None) none = absurd none
  taken_comes new (came.End (Some closing)) (closes, memory) = record {
    bytes = far.bytes;
    consumed = far.consumed;
    near = far.near;
    stands = λ more may. subst (λ (bytes : List ℕ). IsClosing bytes (Some closing)) (behind more) (closes more);
  }

  -- if no read is left, the call fails with `Io::Read`
  pub no_read_left : (new : Framing) → IsUnfinished now.held → Comes old new reads reads_now u₀ u₁ (Err io.Read)
  no_read_left new waits = (refl, (far.bytes, far.consumed, subst IsUnfinished far.held waits))

  module _ (u₂ : Account) (next : Framing) where
    -- if a read fails, the call fails
    pub read_fails : (e : Io) (left : ℕ) → IsUnfinished now.held → ReadsOn now next u₁ u₂ (Err e)
        → Comes old next reads left u₀ u₂ (Err e)
    read_fails e left waits (is, keeps) =
        (is, (far.bytes, Gives-kept u₀ u₁ u₂ far.bytes far.consumed keeps, subst IsUnfinished far.held waits))

    -- if the read ended the stream, the end comes next
    pub end_comes : (closing : Option Fixed) (left : ℕ) → ReadsOn now next u₁ u₂ (Ok (after_read.Ends closing))
        → Comes old next reads left u₀ u₂ (Ok (came.End closing))
    end_comes closing left (bytes, consumes, near, closes, some) = record {
      bytes = far.bytes ++ bytes;
      consumed = Gives-trans u₀ u₁ u₂ far.bytes bytes far.consumed consumes;
      near = near_now bytes near;
      stands = λ more may.
          subst (λ (came : List ℕ). IsClosing (old.held ++ came) closing) (sym (append_assoc far.bytes bytes more))
          (subst (λ (held : List ℕ). IsClosing held closing) (behind (bytes ++ more)) (closes more may));
    }

    -- if the read gave more bytes, these were read too
    pub more_read : (left : ℕ) → left + 1 ≡ reads_now → ReadsOn now next u₁ u₂ (Ok after_read.GoesOn)
        → length next.held ≤ length now.held + body_read_limit → ReadSoFar old next u₀ u₂ reads left
    more_read left one (bytes, consumes, near, is) few = record {
      bytes = far.bytes ++ bytes;
      consumed = Gives-trans u₀ u₁ u₂ far.bytes bytes far.consumed consumes;
      near = near_now bytes near;
      held = ap (λ (f : Framing). f.held) is ∙ behind bytes;
      sound = ap (λ (f : Framing). f.failure) is ∙ far.sound;
      less = omega (arith, one, few, far.less);
    }

-- a message that was taken comes next, whatever its outcome
pub message_next : (old new : Framing) (reads left : ℕ) (u u' : Account) (message : Message) (x : Exchange)
    → x.message ≡ view message
    → Comes old new reads left u u' (Ok (came.Message message)) → TakesNext old new u u' (Answers x)
message_next old new reads left u u' message x is (bytes, consumed, near, reads_it, sound, less) = record {
  bytes = bytes;
  consumed = consumed;
  near = near;
  stands = (subst (λ m. ReadsMessage (old.held ++ bytes) m new.held) (sym is) reads_it, sound);
}
