-- Answering goes on from what was answered so far.
use Rattle.std.proofs.Common.{◌≡◌, ℕ, List, [], ◌∷◌, ◌++◌, Option, map, refl, sym, ap, ◌∙◌, subst, append_assoc}
use Rattle.std.proofs.Common.{append-nil}
use Rattle.std.specs.Io.KnownBytes.{Appends}
use Rattle.std.proofs.KnownBytes.{Appends-trans, Appends-nil}
use Rattle.std.proofs.lemmas.List.{map-append}
use Rattle.std.proofs.lemmas.Grind.{flat_map-append}
use Rattle.framing.specs.Message.{ReadsMessage, ReadsMessages}
use Rattle.world.specs.Store.{Shown}
use Rattle.engine.specs.Exchange.{Exchange, message_of}
use Rattle.engine.specs.Reply.{text_of}
use Rattle.engine.specs.Served.{texts_of}
use Rattle.engine.specs.Store.{GoesThrough}
use Rattle.engine.specs.Session.{Answered, CutShort}
use Rattle.engine.specs.Written.{WritesBeginning}
use Rattle.framing.proofs.PieceLemmas.{ReadsMessages-append, ReadsMessages-join}
use Rattle.engine.proofs.StoreLemmas.{through_none, through_more}

-- at first nothing was answered
pub answered_none : (shown : Shown) (written : Option (List ℕ)) (input : List ℕ)
    → Answered shown shown written written input input
answered_none shown written input = record {
  exchanges = [];
  reads = refl;
  through = through_none shown;
  appended = Appends-nil written;
}

-- a store that went through no message answered none
pub answered_nothing : (old new : Shown) (written : Option (List ℕ)) (input : List ℕ) → GoesThrough old new []
    → Answered old new written written input input
answered_nothing old new written input through = record {
  exchanges = [];
  reads = refl;
  through = through;
  appended = Appends-nil written;
}

-- more bytes behind the input come behind the rest
pub answered_before : (old new : Shown) (w w' : Option (List ℕ)) (input rest more : List ℕ)
    → Answered old new w w' input rest → Answered old new w w' (input ++ more) (rest ++ more)
answered_before old new w w' input rest more far = record {
  exchanges = far.exchanges;
  reads = ReadsMessages-append input _ rest more far.reads;
  through = far.through;
  appended = far.appended;
}

-- more bytes behind an input whose last answer was cut short come behind the rest
pub cut_before : (old new : Shown) (w w' : Option (List ℕ)) (input rest more : List ℕ)
    → CutShort old new w w' input rest → CutShort old new w w' (input ++ more) (rest ++ more)
cut_before old new w w' input rest more far = record {
  first = far.first;
  last = far.last;
  front = far.front;
  reads = ReadsMessages-append input _ rest more far.reads;
  through = far.through;
  begins = far.begins;
  appended = far.appended;
}

-- a message whose answer was written was answered
pub answered_one : (old new : Shown) (w w' : Option (List ℕ)) (input rest : List ℕ) (x : Exchange)
    → ReadsMessage input x.message rest → GoesThrough old new (x ∷ []) → Appends w w' (text_of x)
    → Answered old new w w' input rest
answered_one old new w w' input rest x reads through appends = record {
  exchanges = x ∷ [];
  reads = (rest, reads, refl);
  through = through;
  appended = subst (Appends w w') (sym (append-nil (text_of x))) appends;
}

-- a message with only a beginning of its answer written was cut short
pub cut_one : (old new : Shown) (w w' : Option (List ℕ)) (input rest : List ℕ) (x : Exchange)
    → ReadsMessage input x.message rest → GoesThrough old new (x ∷ []) → WritesBeginning w w' (text_of x)
    → CutShort old new w w' input rest
cut_one old new w w' input rest x reads through (begun, begins, appends) = record {
  first = [];
  last = x;
  front = begun;
  reads = (rest, reads, refl);
  through = through;
  begins = begins;
  appended = appends;
}

module _
    (old mid new : Shown) (w₀ w₁ w₂ : Option (List ℕ)) (input rest after : List ℕ)
    (far : Answered old mid w₀ w₁ input rest) where
  -- if more messages were answered, all of them were
  pub answered_more : Answered mid new w₁ w₂ rest after → Answered old new w₀ w₂ input after
  answered_more next = record {
    exchanges = far.exchanges ++ next.exchanges;
    reads = rw (map-append message_of far.exchanges next.exchanges)
        (ReadsMessages-join input _ _ rest after far.reads next.reads);
    through = through_more old mid new _ far.through _ next.through;
    appended = subst (Appends w₀ w₂) (sym (flat_map-append text_of far.exchanges next.exchanges))
        (Appends-trans w₀ w₁ w₂ _ _ far.appended next.appended);
  }

  -- if more messages were answered and the last of them was cut short, all of them were answered up to that
  pub cut_more : CutShort mid new w₁ w₂ rest after → CutShort old new w₀ w₂ input after
  cut_more next =
      let same : far.exchanges ++ (next.first ++ next.last ∷ []) ≡ (far.exchanges ++ next.first) ++ next.last ∷ [] =
      sym (append_assoc far.exchanges next.first (next.last ∷ [])) in
      record {
        first = far.exchanges ++ next.first;
        last = next.last;
        front = next.front;
        reads = subst (λ (xs : List Exchange). ReadsMessages input (map message_of xs) after) same
            (rw (map-append message_of far.exchanges (next.first ++ next.last ∷ []))
            (ReadsMessages-join input _ _ rest after far.reads next.reads));
        through = subst (λ (xs : List Exchange). GoesThrough old new xs) same
            (through_more old mid new _ far.through _ next.through);
        begins = next.begins;
        appended = subst (Appends w₀ w₂)
            (sym (append_assoc (texts_of far.exchanges) (texts_of next.first) next.front)
            ∙ ap (λ bytes. bytes ++ next.front) (sym (flat_map-append text_of far.exchanges next.first)))
            (Appends-trans w₀ w₁ w₂ _ _ far.appended next.appended);
      }
