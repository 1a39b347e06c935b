-- The letters that random bytes give are ASCII.
use Rattle.std.proofs.Common.{◌<◌, ◌%◌, ℕ, Bool, true, false, cond, List, [], ◌∷◌, take, arith}
use Rattle.std.specs.Prelude.{nat_lt}
use Rattle.std.specs.Str.{IsAscii, IsUtf8}
use Rattle.std.proofs.lemmas.Bool.Decides.{nat_tests}
use Rattle.std.proofs.lemmas.Str.{IsAscii-take, IsUtf8-from_ascii}
use Rattle.std.proofs.lemmas.Str.Ascii.{IsAscii-cons, IsAscii-nil}
use Rattle.keyring.specs.Made.{letter, letters_of}

letter_is_ascii : (n : ℕ) → n < 36 → letter n < 128
letter_is_ascii n few = grind (arith, nat_tests)

letters_are_ascii : (bs : List ℕ) → IsAscii (letters_of bs)
letters_are_ascii [] = IsAscii-nil
letters_are_ascii (b ∷ bs) = go (nat_lt b 252) (letters_are_ascii bs)
  where
    few : b % 36 < 36
    few = omega arith

    go : (is : Bool) → IsAscii (letters_of bs) → IsAscii (cond is (letter (b % 36) ∷ letters_of bs) (letters_of bs))
    go true rest = IsAscii-cons (letter (b % 36)) (letters_of bs) (letter_is_ascii (b % 36) few) rest
    go false rest = rest

pub made_utf8 : (bs : List ℕ) (n : ℕ) → IsUtf8 (take n (letters_of bs))
made_utf8 bs n = IsUtf8-from_ascii (take n (letters_of bs)) (IsAscii-take (letters_of bs) n (letters_are_ascii bs))
