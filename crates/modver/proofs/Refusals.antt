-- Where `semver` refuses a text, the text is to blame, and not memory.
use Rattle.std.proofs.Common.{◌≢◌, ◌+◌, ◌-◌, ◌*◌, ◌^◌, ◌==◌, ℕ, List, [], ◌∷◌, length, Ok, Err, Bool, true, false, ap}
use Rattle.std.specs.Char.{is_ascii_digit}
use Rattle.std.specs.Prelude.{Result, ⊤, nat_le, nat_lt, if◌then◌else◌}
use Rattle.semver.specs.Parse.{◌>>=◌, digits_from, dot_of, end_error, identifier_of, is_bad_zero, is_leading_zero}
use Rattle.semver.specs.Parse.{is_letter}
use Rattle.semver.specs.Parse.{memory_error, numeric, part_end, scan, starts_zero, tail_build, tail_end, tail_pre}
use Rattle.semver.specs.Parse.{version_parts}
use Rattle.semver.specs.declared.error.Error.{Error}
use Rattle.semver.specs.declared.error.Position.{Position}
use Rattle.semver.specs.declared.error.Position.TheVariants as position

abbrev pub BlamesText : {A : Type 0} → Result A Error → Type 0
BlamesText (Ok x) = ⊤
BlamesText (Err e) = e ≢ memory_error

chain : {A B : Type 0} (r : Result A Error) (f : A → Result B Error) → BlamesText r → ((x : A) → BlamesText (f x))
    → BlamesText (r >>= f)
chain (Ok x) f h k = k x
chain (Err e) f h k = h

either : {A : Type 0} (b : Bool) (x y : Result A Error) → BlamesText x → BlamesText y → BlamesText (if b then x else y)
either true x y h k = h
either false x y h k = k

end : (pos : Position) (xs : List ℕ) → BlamesText (end_error pos xs)
end pos [] = λ e. cc (ap (λ (x : Error). x.kind) e)
end pos (b ∷ rest) = λ e. cc (ap (λ (x : Error). x.kind) e)

digits : (pos : Position) (value len : ℕ) (xs : List ℕ) → BlamesText (digits_from pos value len xs)
unfolding digits_from
digits pos value len [] = either (nat_lt 0 len) _ _ tt (end pos [])
digits pos value len (b ∷ rest) =
    either (is_ascii_digit b) _ _
    (either (is_leading_zero value len) _ _ (λ e. cc (ap (λ (x : Error). x.kind) e))
    (either (nat_le (2 ^ 64) (value * 10 + (b - 48))) _ _ (λ e. cc (ap (λ (x : Error). x.kind) e))
    (digits pos (value * 10 + (b - 48)) (len + 1) rest)))
    (either (nat_lt 0 len) _ _ tt (end pos (b ∷ rest)))

dot : (pos : Position) (xs : List ℕ) → BlamesText (dot_of pos xs)
dot pos [] = λ e. cc (ap (λ (x : Error). x.kind) e)
dot pos (b ∷ rest) = either (b == 46) _ _ tt (λ e. cc (ap (λ (x : Error). x.kind) e))

piece : (pos : Position) (acc seg : ℕ) (nondigit lead : Bool) → BlamesText (part_end pos acc seg nondigit lead)
piece pos acc seg nondigit lead =
    either (seg == 0) _ _ (either (acc == 0) _ _ tt (λ e. cc (ap (λ (x : Error). x.kind) e)))
    (either (is_bad_zero pos seg nondigit lead) _ _ (λ e. cc (ap (λ (x : Error). x.kind) e)) tt)

-- scanning a text never fails for want of memory
scans : (pos : Position) (acc seg : ℕ) (nondigit lead : Bool) (xs : List ℕ)
    → BlamesText (scan pos acc seg nondigit lead xs)
unfolding scan
scans pos acc seg nondigit lead [] = piece pos acc seg nondigit lead
scans pos acc seg nondigit lead (b ∷ rest) =
    either (is_letter b) _ _ (scans pos acc (seg + 1) true lead rest)
    (either (is_ascii_digit b) _ _ (scans pos acc (seg + 1) nondigit (starts_zero lead seg b) rest)
    (either (b == 46) _ _
    (either (seg == 0) _ _ (λ e. cc (ap (λ (x : Error). x.kind) e))
    (either (is_bad_zero pos seg nondigit lead) _ _ (λ e. cc (ap (λ (x : Error). x.kind) e))
    (scans pos (acc + seg + 1) 0 false false rest)))
    (piece pos acc seg nondigit lead)))

identifier : (pos : Position) (xs : List ℕ) → BlamesText (identifier_of pos xs)
identifier pos xs = chain (scan pos 0 0 false false xs) _ (scans pos 0 0 false false xs)
    (λ n. either (n == 0) _ _ (λ e. cc (ap (λ (x : Error). x.kind) e)) tt)

tail-ends : (pos : Position) (a b c : ℕ) (pre build xs : List ℕ) → BlamesText (tail_end pos a b c pre build xs)
tail-ends pos a b c pre build [] = tt
tail-ends pos a b c pre build (x ∷ rest) = λ e. cc (ap (λ (x : Error). x.kind) e)

tail-builds : (pos : Position) (a b c : ℕ) (pre xs : List ℕ) → BlamesText (tail_build pos a b c pre xs)
tail-builds pos a b c pre [] = tt
tail-builds pos a b c pre (x ∷ rest) =
    either (x == 43) _ _ (chain (identifier_of position.Build rest) _ (identifier position.Build rest)
    (λ y. tail-ends position.Build a b c pre y.0 y.1))
    (tail-ends pos a b c pre [] (x ∷ rest))

tail-pres : (a b c : ℕ) (xs : List ℕ) → BlamesText (tail_pre a b c xs)
tail-pres a b c [] = tt
tail-pres a b c (x ∷ rest) =
    either (x == 45) _ _ (chain (identifier_of position.Pre rest) _ (identifier position.Pre rest)
    (λ y. tail-builds position.Pre a b c y.0 y.1))
    (tail-builds position.Patch a b c [] (x ∷ rest))

pub text-to-blame : (text : List ℕ) → BlamesText (version_parts text)
text-to-blame text =
    either (length text == 0) _ _ (λ e. cc (ap (λ (x : Error). x.kind) e))
    (chain (numeric position.Major text) _ (digits position.Major 0 0 text) (λ x.
    chain (dot_of position.Major x.1) _ (dot position.Major x.1) (λ t.
    chain (numeric position.Minor t) _ (digits position.Minor 0 0 t) (λ y.
    chain (dot_of position.Minor y.1) _ (dot position.Minor y.1) (λ u.
    chain (numeric position.Patch u) _ (digits position.Patch 0 0 u) (λ z. tail-pres x.0 y.0 z.0 z.1))))))
