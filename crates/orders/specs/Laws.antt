-- What lines mean.
use Rattle.std.specs.Prelude.{ℕ, ◌≡◌, List, Option, Some, None, MatchOption}
use Rattle.orders.specs.Order.{Ordered, IsLineOf, IsNoOrder, ordered}
use Rattle.orders.specs.Outcome.{line_of}
use Rattle.orders.specs.declared.order.Order.{Order}
use Rattle.orders.specs.declared.outcome.Outcome.{Outcome}

-- two orders with the same line are equal
abbrev pub OneOrderALine : Type 0
OneOrderALine = (line : List ℕ) (one two : Ordered) → IsLineOf line one → IsLineOf line two → one ≡ two

-- the order that was read
abbrev pub IsRead : Ordered → Option Order → Type 0
IsRead o None = ⊥
IsRead o (Some read) = ordered read ≡ o

-- from the line of an order that order is read
abbrev pub RoundTrip : Type 0
RoundTrip =
    (line : List ℕ) (written : Ordered) (read : Option Order) → IsLineOf line written
    → MatchOption read (IsNoOrder line) (λ o. IsLineOf line (ordered o))
    → IsRead written read

-- two outcomes with the same line are equal
abbrev pub OneOutcomeALine : Type 0
OneOutcomeALine = (one two : Outcome) → line_of one ≡ line_of two → one ≡ two
