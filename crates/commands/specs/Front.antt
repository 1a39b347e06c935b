-- The first bytes of a reader, and how reading them ended.
use Rattle.std.specs.Prelude.{ℕ, ◌≡◌, ◌≤◌, ◌+◌, ◌++◌, IsTrue, List, [], length, Bool, true, false}
use Rattle.histories.specs.Account.{Account, Gives}
use Rattle.histories.specs.Calls.{Reads}
use Rattle.commands.specs.declared.front.Front.{Front}
use Rattle.commands.specs.declared.front.ReadEnd.{ReadEnd}
use Rattle.commands.specs.declared.front.ReadEnd.TheVariants.{Whole, Full, Broken}

abbrev pub is_whole : ReadEnd → Bool
is_whole Whole = true
is_whole other = false

module _ (old new : Account) where
  -- from old to new these bytes came, and perhaps more, which were lost
  pub record GivesBeyond (bytes : List ℕ) : Type 0 where
    pub lost : List ℕ
    pub gives : Gives old new (bytes ++ lost)

  -- From old to new these bytes came: all that there were, or this many and one more. Or the rest was not read, and some
  -- of what came may have been lost.
  abbrev pub Hears : ℕ → List ℕ → ReadEnd → Type 0
  Hears most bytes Whole = Gives old new bytes × IsTrue new.is_over × (length bytes ≤ most)
  Hears most bytes Full = Gives old new bytes × (length bytes ≡ most + 1)
  Hears most bytes (Broken fault) = GivesBeyond bytes

  abbrev pub HearsFront : ℕ → Front → Type 0
  HearsFront most front = Hears most front.bytes front.end

  -- one read: these bytes came behind those that had come, and whether there are no more
  pub record HearsOn (got got_new : List ℕ) (over : Bool) : Type 0 where
    pub bytes : List ℕ
    pub gives : Gives old new bytes
    pub behind : got_new ≡ got ++ bytes
    pub end : IsTrue over → IsTrue new.is_over
    pub none : IsTrue over → bytes ≡ []

  -- one read that failed: what came was lost
  pub record LosesAll (got got_new : List ℕ) : Type 0 where
    pub same : got_new ≡ got
    pub lost : List ℕ
    pub gives : Gives old new lost

-- Each read that began gave some of the bytes that there are more of, or failed, but for so many.
abbrev pub ReadsFew : ℕ → Reads → Reads → ℕ → ℕ → Type 0
ReadsFew idle reads reads_new len len_new =
    reads_new.begun + (len + reads.failed) ≤ reads.begun + (len_new + reads_new.failed) + idle
