-- Hearing an operator's line.
use Rattle.std.proofs.Common.{◌≡◌, ◌≢◌, ◌∙◌, ◌++◌, ◌∷◌, ℕ, List, [], Option, Some, None, Result, Ok, Err, IfOk, MatchResult}
use Rattle.std.proofs.Common.{ap, append_assoc, inl, inr, refl, subst, sym}
use Rattle.std.proofs.KnownBytes.{Appends-trans}
use Rattle.std.specs.Io.KnownBytes.{Appends}
use Rattle.histories.specs.Account.{Account}
use Rattle.world.specs.Store.{Shown}
use Rattle.world.specs.declared.registry.StoreFault.{StoreFault}
use Rattle.engine.specs.declared.fault.Io.{Io}
use Rattle.engine.specs.declared.fault.Io.TheVariants as io
use Rattle.control.specs.Copying.{Making, OfKey, GoesThroughSteps}
use Rattle.control.specs.Hearing.{Heard, Made, NoMemory, IsHeard, IsHeardIn, Handles, Hears, Obeys, WritesSome}
use Rattle.control.specs.Hearing.{ended_for, told_heard}
use Rattle.control.specs.Noted.{IsAbout, Noted}
use Rattle.control.specs.Notices as notice
use Rattle.orders.specs.Order.{IsLineOf, Catalog}
use Rattle.control.specs.Line.{ReadsLine}
use Rattle.control.specs.Outcome.{outcome_of_catalog}
use Rattle.orders.specs.Outcome.{line_of, word_of}
use Rattle.control.specs.ControlReply.{bytes_told}
use Rattle.orders.specs.Words.{line_end}
use Rattle.control.specs.declared.copies.CatalogRefusal.{CatalogRefusal}
use Rattle.control.specs.declared.health.Health.{Health}
use Rattle.orders.specs.declared.outcome.Outcome.{Outcome}
use Rattle.control.specs.declared.control_reply.ControlReply.{ControlReply}
use Rattle.control.specs.declared.control_reply.ControlReply.TheVariants as spoken

-- a line with its end has bytes
has_end : (word : List ℕ) → word ++ line_end ∷ [] ≢ []
has_end [] is = cc
has_end (b ∷ bs) is = cc

module _ (made : Making → Type 0) (pinged : Result Health StoreFault → Type 0)
    (idle : Option Heard → Type 0) (meanwhile : Making → Type 0) (old new : Shown) (u u' : Account) where
  was_heard : (got : List ℕ) → ReadsLine u u' got → (heard : Heard) → IsHeardIn got heard → IsHeard u u' heard
  was_heard got reads NoMemory never = absurd never
  was_heard got reads heard from = (got, reads, from)

  -- the line that was read
  pub hears_line : (got printed : List ℕ) (told : ControlReply) (said : Result ControlReply Io) (noted : Option Noted)
      → ReadsLine u u' got → Handles made pinged idle meanwhile old new got printed told noted
      → Hears made pinged idle meanwhile old new u u' printed told said noted
  hears_line got printed told said noted reads heeds = record {
    heard = heeds.heard;
    from = (was_heard got reads heeds.heard heeds.from.0, heeds.from.1 said);
    prints = heeds.prints;
    tells = heeds.tells;
    through = heeds.through;
    came = heeds.came;
    lists = heeds.lists;
  }

  -- the catalog that it asks for
  pub hears_catalog : (got key printed : List ℕ) (told : Result (Unit {0}) CatalogRefusal) (outcome : Outcome)
      (said : Result ControlReply Io) (noted : Option Noted)
      → outcome ≡ outcome_of_catalog told → ReadsLine u u' got → IsLineOf got (Catalog key)
      → meanwhile (OfKey key printed told)
      → made (OfKey key printed told) → IsAbout (notice.Catalogued key (ended_for said told)) noted
      → Hears made pinged idle meanwhile old new u u' printed (spoken.Outcome outcome) said noted
  hears_catalog got key printed told outcome said noted is reads asks through came notes = record {
    heard = Made (OfKey key printed told);
    from = ((got, reads, asks), notes);
    prints = refl;
    tells = ap spoken.Outcome is;
    through = through;
    came = came;
    lists = tt;
  }

  -- where memory ran out for the line, nothing was done
  pub hears_no_memory : (said : Result ControlReply Io) → idle (Some NoMemory) → GoesThroughSteps old new []
      → Hears made pinged idle meanwhile old new u u' [] (told_heard NoMemory) said None
  hears_no_memory said still through = record {
    heard = NoMemory;
    from = (tt, refl);
    prints = refl;
    tells = refl;
    through = (still, through);
    came = tt;
    lists = tt;
  }

  -- a beginning behind what was printed is one of both
  behind : (w v w' : Option (List ℕ)) (printed text : List ℕ) → Appends w v printed → WritesSome v w' text
      → WritesSome w w' (printed ++ text)
  behind w v w' printed text first (inl (front, (rest, more, is), appends)) = inl (
    printed ++ front,
    (rest, more, ap (λ l. printed ++ l) is ∙ sym (append_assoc printed front rest)),
    Appends-trans w v w' printed front first appends,
  )
  behind w v w' printed text first (inr appends) = inr (Appends-trans w v w' printed text first appends)

  -- nothing was told behind what was printed, since the output failed
  pub obeys_cut : (w v : Option (List ℕ)) (printed : List ℕ) (outcome : Outcome) (noted : Option Noted)
      → Appends w v printed
      → Hears made pinged idle meanwhile old new u u' printed (spoken.Outcome outcome) (Err io.Write) noted
      → Obeys made pinged idle meanwhile old new u u' w v (Err io.Write) noted
  obeys_cut w v printed outcome noted appends hears = (
    printed,
    spoken.Outcome outcome,
    hears,
    inl (printed, (line_of outcome, has_end (word_of outcome), refl), appends),
  )

  module _ (w v w' : Option (List ℕ)) (printed : List ℕ) (first : Appends w v printed) where
    -- behind what was printed it was told, or a write or the flush failed
    pub obeys_told : (told : ControlReply) (result : Result ControlReply Io) (noted : Option Noted)
        → Hears made pinged idle meanwhile old new u u' printed told result noted
        → IfOk result (λ said. said ≡ told)
        → MatchResult result (λ _. Appends v w' (bytes_told told))
        (λ e. (e ≡ io.Write) × WritesSome v w' (bytes_told told))
        → Obeys made pinged idle meanwhile old new u u' w w' result noted
    obeys_told told (Ok said) noted hears same appends =
        subst (λ t. Obeys made pinged idle meanwhile old new u u' w w' (Ok t) noted) (sym same) (
          printed,
          subst (λ t. Hears made pinged idle meanwhile old new u u' printed told (Ok t) noted) same hears,
          Appends-trans w v w' printed (bytes_told told) first appends,
        )
    obeys_told told (Err io.Write) noted hears same (is, some) =
        (printed, told, hears, behind w v w' printed (bytes_told told) first some)
    obeys_told told (Err io.Read) noted hears same (wrong, some) = cc
