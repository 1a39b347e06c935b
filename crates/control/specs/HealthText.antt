-- The lines of a health as they are read, piece by piece. What is left of a text is None once another piece came.
use Rattle.std.specs.Prelude.{ℕ, zero, suc, ◌==◌, Bool, true, false, not, List, [], ◌∷◌, length, take, drop, min, codes}
use Rattle.std.specs.Prelude.{bytes_eq, Option, Some, None, option_map, if◌then◌else◌}
use Rattle.std.specs.Char.{is_ascii_digit}
use Rattle.std.specs.List.{position_or_len}
use Rattle.std.specs.Option.{option_and_then}
use Rattle.std.specs.Ordering.{is_lt}
use Rattle.modpath.specs.Path.{number_of}
use Rattle.modver.specs.Time.{is_time}
use Rattle.world.specs.World.{text_cmp}
use Rattle.control.specs.Traffic.{is_shelf_name}

-- ---- what follows the piece that a text begins with

-- a word
abbrev pub behind : List ℕ → List ℕ → Option (List ℕ)
behind expected text =
    if bytes_eq (take (length expected) text) expected then Some (drop (length expected) text) else None

-- how many digits a text begins with
abbrev pub digits_len : List ℕ → ℕ
digits_len text = position_or_len (λ b. not (is_ascii_digit b)) text

-- a number of at most 64 bits without leading zeros, which is told too
unfoldable pub first_number : List ℕ → Option (ℕ × List ℕ)
first_number text = option_map (λ n. (n, drop (digits_len text) text)) (number_of (take (digits_len text) text))

abbrev pub behind_number : List ℕ → Option (List ℕ)
behind_number text = option_map (λ x. x.1) (first_number text)

-- a time
abbrev pub time_len : List ℕ → ℕ
time_len text = min (length text) 20

unfoldable pub behind_time : List ℕ → Option (List ℕ)
behind_time text = if is_time (take (time_len text) text) then Some (drop (time_len text) text) else None

-- ---- what is left behind a word, with a value or without

unfoldable pub word : List ℕ → Option (List ℕ) → Option (List ℕ)
word expected left = option_and_then (behind expected) left

unfoldable pub number : List ℕ → Option (List ℕ) → Option (List ℕ)
number name left = option_and_then behind_number (word name left)

unfoldable pub time : List ℕ → Option (List ℕ) → Option (List ℕ)
time name left = option_and_then behind_time (word name left)

-- this is left where the word does not come
abbrev pub or_left : (List ℕ → Option (List ℕ)) → Option (List ℕ) → Option (List ℕ) → Option (List ℕ)
or_left read left None = left
or_left read left (Some text) = read text

unfoldable pub number_if : List ℕ → Option (List ℕ) → Option (List ℕ)
number_if name left = or_left behind_number left (word name left)

unfoldable pub time_if : List ℕ → Option (List ℕ) → Option (List ℕ)
time_if name left = or_left behind_time left (word name left)

-- two numbers with a slash between them
abbrev pub behind_how_far : List ℕ → Option (List ℕ)
behind_how_far text = number (codes "/") (behind_number text)

unfoldable pub how_far_if : List ℕ → Option (List ℕ) → Option (List ℕ)
how_far_if name left = or_left behind_how_far left (word name left)

-- ---- the first line

abbrev pub tally : Option (List ℕ) → Option (List ℕ)
tally left =
    number (codes " unanswered=")
    (number (codes " 5xx=") (number (codes " 4xx=") (number (codes " 2xx=") (number (codes "connections=") left))))

abbrev pub beginning : Option (List ℕ) → Option (List ℕ)
beginning left = number (codes " versions=") (time (codes " since=") (number (codes " store-failures=") (tally left)))

abbrev pub figures : Option (List ℕ) → Option (List ℕ)
figures left =
    how_far_if (codes " copying=")
    (time_if (codes " copied=") (number_if (codes " log=") (number_if (codes " bytes=") left)))

-- ---- the lines of shelves

-- how many bytes come before the first space
abbrev pub word_len : List ℕ → ℕ
word_len text = position_or_len (λ b. b == 32) text

-- the counts of a shelf, and the end of its line
abbrev pub counts : List ℕ → Option (List ℕ)
counts text = word (codes "\n") (number (codes " fetches=") (number (codes " publishes=") (Some text)))

-- the name, if it comes behind the last one, and what is left behind the counts
abbrev pub named : List ℕ → List ℕ → List ℕ → Option (List ℕ × List ℕ)
named last name text =
    if is_shelf_name name
    then (if is_lt (text_cmp last name) then option_map (λ (rest : List ℕ). (name, rest)) (counts text) else None)
    else None

-- so it is of the line of a shelf
unfoldable pub next_shelf : List ℕ → List ℕ → Option (List ℕ × List ℕ)
next_shelf last text =
    option_and_then (λ (rest : List ℕ). named last (take (word_len rest) rest) (drop (word_len rest) rest))
    (word (codes "shelf ") (Some text))

-- whether there is something that passes the test
abbrev pub some_passes : {A : Type 0} → (A → Bool) → Option A → Bool
some_passes test None = false
some_passes test (Some x) = test x

-- whether a text is this many lines of shelves, each with a name behind the one before it
abbrev pub are_shelf_lines : ℕ → List ℕ → List ℕ → Bool
are_shelf_lines zero last text = length text == 0
are_shelf_lines (suc n) last text =
    some_passes (λ (x : List ℕ × List ℕ). are_shelf_lines n x.0 x.1) (next_shelf last text)

-- so it is of what is left behind their number and the end of its line
unfoldable pub shelves : Option (List ℕ) → Bool
shelves left =
    some_passes (λ (x : ℕ × List ℕ). some_passes (are_shelf_lines x.0 []) (word (codes "\n") (Some x.1)))
    (option_and_then first_number (word (codes " shelves=") left))

-- ---- all of it

abbrev pub is_health_text : List ℕ → Bool
is_health_text text = shelves (figures (beginning (Some text)))
