-- The end of `answer_all`, from what was answered so far.
use Rattle.std.proofs.Common.{◌≡◌, ℕ, inl, inr, List, [], ◌∷◌, ◌++◌, Option, None, Result, Ok, Err, refl, sym, subst}
use Rattle.std.proofs.Common.{append_assoc, IfErr}
use Rattle.std.specs.Io.KnownBytes.{Appends, Keeps}
use Rattle.std.proofs.KnownBytes.{Appends-trans, Appends-kept}
use Rattle.histories.specs.Account.{Account, Gives}
use Rattle.histories.proofs.AccountLemmas.{Gives-none, Gives-trans}
use Rattle.framing.specs.Framing.{Framing}
use Rattle.wire.specs.declared.reply.Fixed.{Fixed}
use Rattle.world.specs.Store.{Shown}
use Rattle.engine.specs.First.{Answers, Closes}
use Rattle.engine.specs.Served.{IsClosing, ClosesAfter, closing_bytes, texts_of, ServesAllHeard}
use Rattle.engine.specs.Store.{GoesThrough}
use Rattle.engine.specs.Session.{Answered, CutShort, SoFar, Delivers, TakesNext, AnswersNext}
use Rattle.engine.specs.declared.fault.Io.{Io}
use Rattle.engine.specs.declared.fault.Io.TheVariants as io
use Rattle.engine.specs.declared.session.Handled.TheVariants as handled
use Rattle.engine.proofs.AnsweredLemmas.{answered_none, answered_nothing, answered_before, answered_one, answered_more}
use Rattle.engine.proofs.AnsweredLemmas.{cut_one, cut_more}

module _ (old new : Shown) (u u' : Account) (w₀ w₁ w₂ : Option (List ℕ)) (input rest : List ℕ) where
  -- a call that answered the messages at the front and wrote what closes the stream, or failed at it, does as
  -- `ServesAllHeard` says
  pub served : (closing : Option Fixed) (result : Result (Unit {0}) Io) → Answered old new w₀ w₁ input rest
      → Gives u u' input
      → ClosesAfter u' rest closing → Delivers w₁ w₂ (closing_bytes closing) result
      → ServesAllHeard old new u u' w₀ w₂ result
  served closing (Ok tt) far gives closes delivers = record {
    exchanges = far.exchanges;
    bytes = input;
    rest = rest;
    out = texts_of far.exchanges ++ closing_bytes closing;
    gives = gives;
    reads = far.reads;
    through = far.through;
    appended = Appends-trans w₀ w₁ w₂ _ _ far.appended delivers;
    ends = (closing, closes, refl);
  }
  served closing (Err io.Read) far gives closes (wrong, delivers) = cc
  served closing (Err io.Write) far gives closes (_, inl (begun, begins, appends)) = record {
    exchanges = far.exchanges;
    bytes = input;
    rest = rest;
    out = texts_of far.exchanges ++ begun;
    gives = gives;
    reads = far.reads;
    through = far.through;
    appended = Appends-trans w₀ w₁ w₂ _ _ far.appended appends;
    ends = inr (inl (closing, begun, closes, begins, refl));
  }
  served closing (Err io.Write) far gives closes (_, inr appends) = record {
    exchanges = far.exchanges;
    bytes = input;
    rest = rest;
    out = texts_of far.exchanges ++ closing_bytes closing;
    gives = gives;
    reads = far.reads;
    through = far.through;
    appended = Appends-trans w₀ w₁ w₂ _ _ far.appended appends;
    ends = inr (inr (closing, closes, refl));
  }

  -- a call whose last answer was cut short does as `ServesAllHeard` says
  pub served_cut : CutShort old new w₀ w₁ input rest → Gives u u' input
      → ServesAllHeard old new u u' w₀ w₁ (Err io.Write)
  served_cut far gives = record {
    exchanges = far.first ++ far.last ∷ [];
    bytes = input;
    rest = rest;
    out = texts_of far.first ++ far.front;
    gives = gives;
    reads = far.reads;
    through = far.through;
    appended = far.appended;
    ends = inl (far.first, far.last, far.front, refl, far.begins, refl);
  }

pub so_far_none : (shown : Shown) (u : Account) (w : Option (List ℕ))
    → SoFar shown shown u u w w (record { held = []; failure = None })
so_far_none shown u w = record {
  got = [];
  consumed = Gives-none u;
  answered = answered_none shown w [];
  sound = refl;
}

-- a text that was written whole is delivered, whether or not the flush fails
pub delivered : (w w' w'' : Option (List ℕ)) (text : List ℕ) (result : Result (Unit {0}) Io) → Appends w w' text
    → Keeps w' w''
    → IfErr result (λ e. e ≡ io.Write) → Delivers w w'' text result
delivered w w' w'' text (Ok u) appends keeps which = Appends-kept w w' w'' text appends keeps
delivered w w' w'' text (Err e) appends keeps which = (which, inr (Appends-kept w w' w'' text appends keeps))

module _
    (old mid : Shown) (u₀ u₁ : Account) (w₀ w₁ : Option (List ℕ)) (framing : Framing)
    (far : SoFar old mid u₀ u₁ w₀ w₁ framing) (new : Shown) (u₂ : Account) (w₂ : Option (List ℕ)) (next : Framing) where
  -- what was answered before, if more bytes come
  with_more : (more : List ℕ) → Answered old mid w₀ w₁ (far.got ++ more) (framing.held ++ more)
  with_more more = answered_before old mid w₀ w₁ far.got framing.held more far.answered

  -- what was answered before, if more bytes come and no message is answered more
  with_nothing : (more : List ℕ) → GoesThrough mid new []
      → Answered old new w₀ w₁ (far.got ++ more) (framing.held ++ more)
  with_nothing more through = answered_more
      old mid new w₀ w₁ w₁ (far.got ++ more) (framing.held ++ more) (framing.held ++ more)
      (with_more more) (answered_nothing mid new w₁ (framing.held ++ more) through)

  -- once a message was answered, one more is answered
  pub went_on : (status : ℕ) → AnswersNext mid new u₁ u₂ w₁ w₂ framing next (Ok (handled.Answered status))
      → SoFar old new u₀ u₂ w₀ w₂ next
  went_on status (Closes closing, takes, through, is, appends) = cc
  went_on status (Answers x, takes, through, is, appends) = record {
    got = far.got ++ takes.bytes;
    consumed = Gives-trans u₀ u₁ u₂ far.got takes.bytes far.consumed takes.consumed;
    answered = answered_more
        old mid new w₀ w₁ w₂ (far.got ++ takes.bytes) (framing.held ++ takes.bytes) next.held (with_more takes.bytes)
        (answered_one mid new w₁ w₂ (framing.held ++ takes.bytes) next.held x takes.stands.0 through appends);
    sound = takes.stands.1;
  }

  closed_by : (closing : Option Fixed) (w₃ : Option (List ℕ)) (result : Result (Unit {0}) Io)
      → TakesNext framing next u₁ u₂ (Closes closing)
      → GoesThrough mid new [] → Delivers w₁ w₃ (closing_bytes closing) result
      → ServesAllHeard old new u₀ u₂ w₀ w₃ result
  closed_by closing w₃ result takes through delivers =
      served old new u₀ u₂ w₀ w₁ w₃ (far.got ++ takes.bytes) (framing.held ++ takes.bytes) closing result
      (with_nothing takes.bytes through)
      (Gives-trans u₀ u₁ u₂ far.got takes.bytes far.consumed takes.consumed)
      (λ more may. subst (λ (l : List ℕ). IsClosing l closing) (sym (append_assoc framing.held takes.bytes more))
      (takes.stands more may)) delivers

  -- a call does as `ServesAllHeard` says if its session closed the stream at last and it flushed, or failed at it
  pub closed : (closing : Option Fixed) (w₃ : Option (List ℕ)) (result : Result (Unit {0}) Io)
      → AnswersNext mid new u₁ u₂ w₁ w₂ framing next (Ok (handled.Closed closing)) → Keeps w₂ w₃
      → IfErr result (λ e. e ≡ io.Write)
      → ServesAllHeard old new u₀ u₂ w₀ w₃ result
  closed closing w₃ result (Answers x, takes, through, is, appends) keeps which = cc
  closed closing w₃ result (Closes by, takes, through, is, appends) keeps which =
      closed_by by w₃ result takes through (delivered w₁ w₂ w₃ (closing_bytes by) result appends keeps which)

  -- a call whose session failed at last does as `ServesAllHeard` says
  pub failed : (e : Io) → AnswersNext mid new u₁ u₂ w₁ w₂ framing next (Err e) → ServesAllHeard old new u₀ u₂ w₀ w₂ (Err e)
  failed io.Read (bytes, consumed, waits, through, keeps) =
      let all = with_nothing bytes through in
      record {
        exchanges = all.exchanges;
        bytes = far.got ++ bytes;
        rest = framing.held ++ bytes;
        out = texts_of all.exchanges;
        gives = Gives-trans u₀ u₁ u₂ far.got bytes far.consumed consumed;
        reads = all.reads;
        through = all.through;
        appended = Appends-kept w₀ w₁ w₂ (texts_of all.exchanges) all.appended keeps;
        ends = (waits, refl);
      }
  failed io.Write (Closes by, takes, through, begun) = closed_by by w₂ (Err io.Write) takes through (refl, inl begun)
  failed io.Write (Answers x, takes, through, begun) =
      served_cut old new u₀ u₂ w₀ w₂ w₂ (far.got ++ takes.bytes) next.held
      (cut_more old mid new w₀ w₁ w₂ (far.got ++ takes.bytes) (framing.held ++ takes.bytes) next.held
      (with_more takes.bytes)
      (cut_one mid new w₁ w₂ (framing.held ++ takes.bytes) next.held x takes.stands.0 through begun))
      (Gives-trans u₀ u₁ u₂ far.got takes.bytes far.consumed takes.consumed)
