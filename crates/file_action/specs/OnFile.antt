-- What an action on the store of a file does.
use Rattle.std.specs.Prelude.{ℕ, List, [], ◌∷◌, ◌++◌, ◌≡◌, ◌⊎◌, Bool, true, false, Option, Result, Ok, Err, OnOk}
use Rattle.store_files.specs.History.{Span, Refuses, Opens}
use Rattle.store_files.specs.declared.files.Deed.TheVariants.{Looked}
use Rattle.store_files.specs.declared.files.Use.{Use}
use Rattle.store_files.specs.declared.files.Use.TheVariants.{Reading, Writing}
use Rattle.histories.specs.Account.{Account}
use Rattle.histories.specs.Calls.{Writes}
use Rattle.store_files.specs.declared.refusal.StoreRefusal.{StoreRefusal}
use Rattle.commands.specs.Action.{Moment}
use Rattle.commands.specs.declared.refusal.CommandRefusal.{CommandRefusal}
use Rattle.commands.specs.declared.refusal.CommandRefusal.TheVariants.{NotEmpty}
use Rattle.commands.specs.declared.action.Action.{Action}
use Rattle.commands.specs.declared.action.Action.TheVariants as action
use Rattle.commands.specs.declared.action.Action.TheVariants.{Open}
use Rattle.commands.specs.Ending.{unopened}
use Rattle.file_action.specs.Refusal.{new_store_refusal}

-- the result of `init`, by that of the action on its store
abbrev pub made : Result Bool CommandRefusal → Result Bool CommandRefusal
made (Ok accepted) = Ok accepted
made (Err refusal) = Err (new_store_refusal refusal)

module _ {N : Type 0} (outside outside_new : N) (came came_new : Account) (written written_new : Option (List ℕ))
    (result : Result Bool CommandRefusal) where
  -- this is the result, nothing was read or written, and nothing was done outside
  pub record TellsAlone (told : Result Bool CommandRefusal) : Type 0 where
    pub tells : result ≡ told
    pub idle : outside_new ≡ outside
    pub input : came_new ≡ came
    pub output : written_new ≡ written

-- What an action opens its store for. Those that only read leave a store that has no key as it is, and so do requests.
abbrev pub use_of : Action → Use
use_of (action.Inventory key) = Reading
use_of (action.Catalog key) = Reading
use_of (action.Requires version) = Reading
use_of (action.List listing) = Reading
use_of action.Answer = Reading
use_of other = Writing

-- If all that was written to the output before was flushed, a command that ended well flushed all that it wrote there.
abbrev pub FlushesAll : Writes → Writes → Result Bool CommandRefusal → Type 0
FlushesAll writes writes_new result = writes.unflushed ≡ [] → OnOk result (writes_new.unflushed ≡ [])

-- what an action does, by the name of its file, the store and all else before it and after it, the result, and the
-- action
abbrev pub Deeds : Type 0 → Type 0 → Type 1
Deeds S N = List ℕ → Moment S N → Moment S N → Result Bool CommandRefusal → Action → Type 0

-- what an action does that is done on a part of a store
abbrev pub within : {S T N : Type 0} → (S → T) → Deeds T N → Deeds S N
within part acts name before after result action = acts name
    (record { store = part before.store; outside = before.outside; came = before.came; written = before.written })
    (record { store = part after.store; outside = after.outside; came = after.came; written = after.written })
    result action

module _ {S C N : Type 0} (acts : Deeds S N) (files : Span S C) (name : List ℕ) (outside outside_new : N)
    (came came_new : Account) (written written_new : Option (List ℕ)) where
  -- the store of this file was to be opened, and was not, the result says why, nothing was read or written, and nothing
  -- was done outside
  pub record ActsOnNone (result : Result Bool CommandRefusal) : Type 0 where
    pub why : StoreRefusal
    pub tells : TellsAlone outside outside_new came came_new written written_new result (Err (unopened why))
    pub done : Refuses files name why

  -- the store of this file was opened for the action, which was done on it, or it was not opened
  abbrev pub ActsOnFile : Action → Result Bool CommandRefusal → Type 0
  ActsOnFile action result =
      Opens files name (use_of action) (λ begun ended. acts name
      (record { store = begun; outside = outside; came = came; written = written })
      (record { store = ended; outside = outside_new; came = came_new; written = written_new }) result action)
      ⊎ ActsOnNone result

-- the rest of a span that begins with a look at this file, which held no bytes
abbrev pub behind_look : {S C : Type 0} → Span S C → List ℕ → Span S C
behind_look files name = record {
  begins = files.begins;
  left = files.left;
  before = files.before ++ (name, Looked false) ∷ [];
  after = files.after;
}

module _ {S C N : Type 0} (acts : Deeds S N) (files : Span S C) (name : List ℕ) (outside outside_new : N)
    (came came_new : Account) (written written_new : Option (List ℕ)) (result : Result Bool CommandRefusal) where
  -- the file was looked at and held bytes, the result says so, and no store was opened
  pub record FindsBytes : Type 0 where
    pub tells : TellsAlone outside outside_new came came_new written written_new result (Err NotEmpty)
    pub done : files.after ≡ files.before ++ (name, Looked true) ∷ []

  -- the file was looked at and held no bytes; then its store was opened or not, and nothing else was done
  pub record FindsNone : Type 0 where
    pub opened : Result Bool CommandRefusal
    pub does : ActsOnFile acts (behind_look files name) name outside outside_new came came_new written written_new Open opened
    pub tells : result ≡ made opened

  -- the file was looked at once, and its store was opened only behind that, if the file held no bytes
  abbrev pub Inits : Type 0
  Inits = FindsBytes ⊎ FindsNone
