-- What a reserve notes, as the deeds of `control`, and its first line.
use Rattle.std.specs.Prelude.{ℕ, ◌≡◌, List, ◌++◌, codes}
use Rattle.std.specs.Str.Parse.{IsNumeral, digits_value, without_leading_plus}
use Rattle.control.specs.Reserve.{DiskDeed}
use Rattle.control.specs.Reserve as disk
use Rattle.runner.specs.declared.reserve.Deed.{Deed}
use Rattle.runner.specs.declared.reserve.Deed.TheVariants.{Made, GaveUp, Renewed, BeganCopy}

-- a deed, by the name that is noted with it
abbrev pub disk_deed : List ℕ × Deed → DiskDeed
disk_deed (name, Made found) = disk.Made found
disk_deed (name, GaveUp some) = disk.GaveUp some
disk_deed (name, Renewed found) = disk.Renewed found
disk_deed (name, BeganCopy) = disk.BeganCopy name

-- what stands before and behind the number in the first line
abbrev pub title : List ℕ
title = codes "goshelf reserve of "

abbrev pub line_end : List ℕ
line_end = codes " bytes\n"

-- The file of a reserve that is to have this many bytes begins with its first line. Anything may follow.
pub record IsFirstLine (front : List ℕ) (bytes : ℕ) : Type 0 where
  pub number : List ℕ
  pub rest : List ℕ
  pub line : front ≡ title ++ (number ++ (line_end ++ rest))
  pub digits : IsNumeral 10 (without_leading_plus number)
  pub value : bytes ≡ digits_value 10 (without_leading_plus number)
