-- What an operator's line orders, and the outcome that the operator gets.
use Rattle.std.specs.Prelude.{ℕ, ◌≡◌, ◌⊎◌, ◌++◌, List, [], ◌∷◌, MatchOption, Option, Some, None, Result, Ok, Err}
use Rattle.std.specs.Io.KnownBytes.{Appends, Keeps}
use Rattle.histories.specs.Account.{Account}
use Rattle.world.specs.Store.{Shown}
use Rattle.world.specs.declared.registry.RegistryReply.{RegistryReply}
use Rattle.world.specs.declared.registry.StoreFault.{StoreFault}
use Rattle.world.specs.declared.registry.StoreFault.TheVariants.{Memory}
use Rattle.engine.specs.Written.{WritesBeginning}
use Rattle.engine.specs.declared.fault.Io.{Io}
use Rattle.engine.specs.declared.fault.Io.TheVariants as io
use Rattle.control.specs.Copying.{Making, OfKey, ToPath, Step, OfTask, Counted, GoesThroughSteps}
use Rattle.control.specs.Copying as copying
use Rattle.control.specs.Health.{IsPinged, line_of}
use Rattle.control.specs.Line.{ReadsLine}
use Rattle.control.specs.Listing.{ReadsList, told_of_list}
use Rattle.orders.specs.Order as orders
use Rattle.orders.specs.Order.{IsLineOf, IsNoOrder, commanded, ordered}
use Rattle.orders.specs.declared.order.Order.{Order}
use Rattle.orders.specs.declared.order.Order.TheVariants as order
use Rattle.control.specs.Naming.{Finds, Naming, UsesRoomNamed, named_notice, named_result, named_steps}
use Rattle.control.specs.Noted.{IsNoted, Noted}
use Rattle.control.specs.Notices as notice
use Rattle.control.specs.Outcome.{outcome_of, outcome_of_catalog, outcome_of_copy}
use Rattle.control.specs.Reserve.{DiskDeed, UsesRoom, begun_for}
use Rattle.control.specs.ControlReply.{bytes_told}
use Rattle.control.specs.Tasks.{Ordered}
use Rattle.control.specs.declared.copies.CatalogRefusal.{CatalogRefusal}
use Rattle.control.specs.declared.copies.CatalogRefusal.TheVariants as catalog
use Rattle.control.specs.declared.health.Health.{Health}
use Rattle.orders.specs.declared.listing.Listing.{Listing}
use Rattle.orders.specs.declared.command.RegistryCommand.{RegistryCommand}
use Rattle.orders.specs.declared.outcome.Outcome.TheVariants.{Failed, Stopping, Bad}
use Rattle.control.specs.declared.tally.Tally.{Tally}
use Rattle.control.specs.declared.control_reply.ControlReply.{ControlReply}
use Rattle.control.specs.declared.control_reply.ControlReply.TheVariants as spoken

-- what a line ordered, and the result
pub data Heard : Type 0 where
  -- it was a registry command, which was carried out
  Carried : RegistryCommand → Result RegistryReply StoreFault → Heard
  -- this was to be made of the store
  Made : Making → Heard
  -- the health of the server was asked for, and this was told
  Pinged : Result Health StoreFault → Heard
  -- a list was asked for, and this was told
  Listed : Listing → Result (List ℕ) StoreFault → Heard
  -- the key with a fingerprint was to be revoked, and this came of it
  Named : List ℕ → Naming → Heard
  -- the server was to end
  Stop : Heard
  -- it was no order
  NoOrder : Heard
  -- memory ran out before it was read
  NoMemory : Heard

-- what is told of a ping
abbrev pub told_of_ping : Result Health StoreFault → ControlReply
told_of_ping (Ok health) = spoken.Health (line_of health)
told_of_ping (Err fault) = spoken.Outcome (Failed fault)

-- what is told of what was to be made
abbrev pub told_of_making : Making → ControlReply
told_of_making (ToPath path told) = spoken.Outcome (outcome_of_copy told)
told_of_making (OfKey key printed told) = spoken.Outcome (outcome_of_catalog told)

abbrev pub told_heard : Heard → ControlReply
told_heard (Carried command told) = spoken.Outcome (outcome_of told)
told_heard (Made making) = told_of_making making
told_heard (Pinged told) = told_of_ping told
told_heard (Listed listing told) = told_of_list told
told_heard (Named f naming) = spoken.Outcome (outcome_of (named_result naming))
told_heard Stop = spoken.Outcome Stopping
told_heard NoOrder = spoken.Outcome Bad
told_heard NoMemory = spoken.Outcome (Failed Memory)

-- the lines of a catalog, which were printed before that
abbrev pub printed_of_making : Making → List ℕ
printed_of_making (ToPath path told) = []
printed_of_making (OfKey key printed told) = printed

abbrev pub printed_heard : Heard → List ℕ
printed_heard (Made making) = printed_of_making making
printed_heard (Carried command told) = []
printed_heard (Pinged told) = []
printed_heard (Listed listing told) = []
printed_heard (Named f naming) = []
printed_heard Stop = []
printed_heard NoOrder = []
printed_heard NoMemory = []

-- all that is written for it
abbrev pub bytes_heard : Heard → List ℕ
bytes_heard heard = printed_heard heard ++ bytes_told (told_heard heard)

-- the steps of it: one for a registry command, a copy, a ping or a list, one or two for a fingerprint, and otherwise
-- none
abbrev pub steps_heard : Heard → List Step
steps_heard (Carried command told) = OfTask (Ordered command told) ∷ []
steps_heard (Made making) = copying.Made making ∷ []
steps_heard (Pinged told) = Counted told ∷ []
steps_heard (Listed listing told) = copying.Listed listing told ∷ []
steps_heard (Named f naming) = named_steps f naming
steps_heard Stop = []
steps_heard NoOrder = []
steps_heard NoMemory = []

-- how a catalog ended for an operator who was told this: the output failed if it was not told how it ended
abbrev pub ended_for : Result ControlReply Io → Result (Unit {0}) CatalogRefusal → Result (Unit {0}) CatalogRefusal
ended_for (Ok reply) told = told
ended_for (Err e) told = Err catalog.Output

-- what is noted of what was made for an operator who was told this
abbrev pub making_notice : Making → Result ControlReply Io → notice.Occasion
making_notice (ToPath path told) said = notice.Copied path told
making_notice (OfKey key printed told) said = notice.Catalogued key (ended_for said told)

-- what is noted of what was done for an operator who was told this, if something was
abbrev pub done_notice : Heard → Result ControlReply Io → Option notice.Occasion
done_notice (Carried command told) said = Some (notice.Ordered command told)
done_notice (Made making) said = Some (making_notice making said)
done_notice (Pinged told) said = None
done_notice (Listed listing told) said = None
done_notice (Named f naming) said = named_notice naming
done_notice Stop said = None
done_notice NoOrder said = None
done_notice NoMemory said = None

-- these bytes are the line of this order, or of none
abbrev pub IsOrderIn : List ℕ → Option Order → Type 0
IsOrderIn got o = MatchOption o (IsNoOrder got) (λ read. IsLineOf got (ordered read))

-- the order is not one for a catalog, whose lines are written as they are printed
abbrev pub IsAnsweredAtOnce : Option Order → Type 0
IsAnsweredAtOnce (Some (order.Catalog key)) = ⊥
IsAnsweredAtOnce other = Unit {0}

-- these bytes ordered this to be made
abbrev pub IsMakingIn : List ℕ → Making → Type 0
IsMakingIn got (ToPath path told) = IsLineOf got (orders.Copy path)
IsMakingIn got (OfKey key printed told) = IsLineOf got (orders.Catalog key)

-- these bytes ordered it
abbrev pub IsHeardIn : List ℕ → Heard → Type 0
IsHeardIn got (Carried command told) = IsLineOf got (orders.Registry (commanded command))
IsHeardIn got (Made making) = IsMakingIn got making
IsHeardIn got (Pinged told) = IsLineOf got orders.Ping
IsHeardIn got (Listed listing told) = IsLineOf got (orders.ListOf listing)
IsHeardIn got (Named f naming) = IsLineOf got (orders.RevokeByFingerprint f)
IsHeardIn got Stop = IsLineOf got orders.Stop
IsHeardIn got NoOrder = IsNoOrder got
IsHeardIn got NoMemory = ⊥

-- the bytes that ordered it were read, unless memory ran out before
abbrev pub IsHeard : Account → Account → Heard → Type 0
IsHeard came came_new NoMemory = Unit {0}
IsHeard came came_new heard = (got : List ℕ) × ReadsLine came came_new got × IsHeardIn got heard

-- a beginning of the line was written, and not all of it, or all
abbrev pub WritesSome : Option (List ℕ) → Option (List ℕ) → List ℕ → Type 0
WritesSome written written_new line = WritesBeginning written written_new line ⊎ Appends written written_new line

-- the line was written, or a write or the flush failed, and a beginning of it was written, or all
abbrev pub TellsLine : Option (List ℕ) → Option (List ℕ) → List ℕ → Result (Unit {0}) Io → Type 0
TellsLine written written_new line (Ok u) = Appends written written_new line
TellsLine written written_new line (Err e) = (e ≡ io.Write) × WritesSome written written_new line

-- where an operator asked for a list, it was read; where one named a key by its fingerprint, the key was looked up
abbrev pub ListsBy : Shown → Shown → Heard → Type 0
ListsBy old new (Listed listing told) = ReadsList old new listing told
ListsBy old new (Named f naming) = Finds old new f naming
ListsBy old new other = Unit {0}

-- what was ordered did this to the reserve: a registry command what `UsesRoom` says, and another order nothing; of a
-- copy it is noted that it was begun
abbrev pub UsesRoomFor : Shown → Shown → List DiskDeed → List DiskDeed → Heard → Type 0
UsesRoomFor old new deeds deeds_new (Carried command told) = UsesRoom old new deeds deeds_new told
UsesRoomFor old new deeds deeds_new (Named f naming) = UsesRoomNamed old new deeds deeds_new naming
UsesRoomFor old new deeds deeds_new (Made making) = deeds_new ≡ deeds ++ begun_for making
UsesRoomFor old new deeds deeds_new other = deeds_new ≡ deeds

-- so it is of what was heard, if something was
abbrev pub UsesRoomIf : Shown → Shown → List DiskDeed → List DiskDeed → Option Heard → Type 0
UsesRoomIf old new deeds deeds_new None = deeds_new ≡ deeds
UsesRoomIf old new deeds deeds_new (Some heard) = UsesRoomFor old new deeds deeds_new heard

-- The store went through the steps of what was ordered, and the copies were idle as they are for it; where something
-- was to be made, this happened meanwhile.
abbrev pub GoesAs : (idle : Option Heard → Type 0) (meanwhile : Making → Type 0) → Shown → Shown → Heard → Type 0
GoesAs idle meanwhile old new (Made making) = meanwhile making
GoesAs idle meanwhile old new heard = idle (Some heard) × GoesThroughSteps old new (steps_heard heard)

module _ (made : Making → Type 0) (pinged : Result Health StoreFault → Type 0) where
  -- where an operator ordered something to be made or asked for the health, this came of it
  abbrev pub CameOf : Heard → Type 0
  CameOf (Carried command told) = Unit {0}
  CameOf (Made making) = made making
  CameOf (Pinged told) = pinged told
  CameOf (Listed listing told) = Unit {0}
  CameOf (Named f naming) = Unit {0}
  CameOf Stop = Unit {0}
  CameOf NoOrder = Unit {0}
  CameOf NoMemory = Unit {0}

  module _ (idle : Option Heard → Type 0) (meanwhile : Making → Type 0) where
    -- What was ordered was done, these lines of a catalog were printed, and this came of it. `is_from` says where the
    -- order came from.
    pub record Follows (is_from : Heard → Type 0) (old new : Shown) (printed : List ℕ)
        (told : ControlReply) : Type 0 where
      pub heard : Heard
      pub from : is_from heard
      pub prints : printed ≡ printed_heard heard
      pub tells : told ≡ told_heard heard
      pub through : GoesAs idle meanwhile old new heard
      pub came : CameOf heard
      pub lists : ListsBy old new heard

    -- what the bytes order was done, and this came of it, and is noted, whatever the operator will be told
    abbrev pub Handles : Shown → Shown → List ℕ → List ℕ → ControlReply → Option Noted → Type 0
    Handles old new got printed told noted = Follows
        (λ heard. IsHeardIn got heard × ((said : Result ControlReply Io) → IsNoted (done_notice heard said) noted))
        old new printed told

    -- A line was read, what it orders was done, and this came of it, and is noted for an operator who was told this.
    abbrev pub Hears : Shown → Shown → Account → Account → List ℕ → ControlReply → Result ControlReply Io
        → Option Noted → Type 0
    Hears old new came came_new printed told said noted = Follows
        (λ heard. IsHeard came came_new heard × IsNoted (done_notice heard said) noted) old new printed told

    -- A line was read, what it orders was done, and what came of it was written; where a write or the flush failed, a
    -- beginning of that or all of it. What was done is noted. Or a read failed, and nothing was done, written or noted.
    abbrev pub Obeys : Shown → Shown → Account → Account → Option (List ℕ) → Option (List ℕ)
        → Result ControlReply Io → Option Noted → Type 0
    Obeys old new came came_new written written_new (Ok told) noted =
        (printed : List ℕ) × Hears old new came came_new printed told (Ok told) noted
        × Appends written written_new (printed ++ bytes_told told)
    Obeys old new came came_new written written_new (Err io.Read) noted =
        idle None × GoesThroughSteps old new [] × Keeps written written_new × (noted ≡ None)
    Obeys old new came came_new written written_new (Err io.Write) noted =
        (printed : List ℕ) × (told : ControlReply) × Hears old new came came_new printed told (Err io.Write) noted
        × WritesSome written written_new (printed ++ bytes_told told)

-- So it was between two stores, by what is known of copies, of counts and of the reserve, with the tally of the moment.
module _ {S K : Type 0} (shown : S → Shown) (made : S → S → Making → Type 0)
    (counted : S → S → ℕ → Type 0) (meanwhile : K → K → S → S → Making → Type 0) (rests : K → K → Type 0)
    (deeds : K → List DiskDeed) (tally : Tally) (copies copies_new : K) (old new : S) where
  -- the order used the reserve, and all else stays
  abbrev pub RestsBy : Option Heard → Type 0
  RestsBy heard =
      rests copies copies_new × UsesRoomIf (shown old) (shown new) (deeds copies) (deeds copies_new) heard

  abbrev pub HandlesBy : List ℕ → List ℕ → ControlReply → Option Noted → Type 0
  HandlesBy = Handles (made old new) (IsPinged tally (shown old).failures (shown new).failures (counted old new))
      RestsBy (meanwhile copies copies_new old new) (shown old) (shown new)

  abbrev pub ObeysBy : Account → Account → Option (List ℕ) → Option (List ℕ) → Result ControlReply Io → Option Noted
      → Type 0
  ObeysBy = Obeys (made old new) (IsPinged tally (shown old).failures (shown new).failures (counted old new))
      RestsBy (meanwhile copies copies_new old new) (shown old) (shown new)
