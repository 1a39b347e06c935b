-- Laws of times and of stamps, over the definitions alone.
use Rattle.std.specs.Prelude.{ℕ, ◌≡◌, ◌↔◌, ◌⊎◌, true, List}
use Rattle.modver.specs.Time.{DateTime, Exists, HasDigits, IsStamp, IsTime, IsTimeFault, is_time, stamp_text}
use Rattle.modver.specs.Time.{time_of_stamp, time_text}
use Rattle.modver.specs.declared.time.TimeFault.{TimeFault}

-- the computed test of a time is true exactly of the times
abbrev pub IsTimeIsExact : Type 0
IsTimeIsExact = (text : List ℕ) → (is_time text ≡ true) ↔ IsTime text

-- a text is a time or faulty in one way, and not both
pub record IsTimeOrFaulty (text : List ℕ) : Type 0 where
  pub some : IsTime text ⊎ ((f : TimeFault) × IsTimeFault text f)
  pub one_fault : (f g : TimeFault) → IsTimeFault text f → IsTimeFault text g → f ≡ g
  pub not_both : (f : TimeFault) → IsTime text → ¬ (IsTimeFault text f)

abbrev pub EachTextIsATimeOrFaulty : Type 0
EachTextIsATimeOrFaulty = (text : List ℕ) → IsTimeOrFaulty text

-- two dates with times of day are equal if they have the same text and each number fits its digits
abbrev pub TimeTextIsOneToOne : Type 0
TimeTextIsOneToOne = (a b : DateTime) → HasDigits a → HasDigits b → time_text a ≡ time_text b → a ≡ b

-- a stamp and a time name the same date and time of day
pub record AreOfOneDateTime (stamp time : List ℕ) : Type 0 where
  pub at : DateTime
  pub digits : HasDigits at
  pub exists : Exists at
  pub stamp_is : stamp ≡ stamp_text at
  pub time_is : time ≡ time_text at

-- the computed time of a stamp is the text of the stamp's date and time of day
abbrev pub TimeOfStampIsExact : Type 0
TimeOfStampIsExact = (stamp time : List ℕ) → IsStamp stamp → (time_of_stamp stamp ≡ time) ↔ AreOfOneDateTime stamp time
