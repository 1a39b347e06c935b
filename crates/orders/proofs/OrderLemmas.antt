-- Which order words are those of.
use Rattle.std.proofs.Common.{◌≡◌, ◌≢◌, ℕ, List, Option, Some, None, refl, sym, ap, ◌∙◌, codes}
use Rattle.std.proofs.Common.{MatchOption}
use Rattle.std.specs.Prelude.{bytes_eq, if◌then◌else◌}
use Rattle.world.specs.declared.entry.Right.TheVariants.{Reads, Publishes}
use Rattle.orders.specs.Listing.{word_of}
use Rattle.orders.specs.Laws.{IsRead}
use Rattle.orders.specs.Order.{TeamAdd, GroupAdd, KeyAdd, KeyRevoke, KeysRevoke}
use Rattle.orders.specs.Order.{Ordered, Stop, Ping, ListOf, Copy, Catalog, RevokeByFingerprint, Registry}
use Rattle.orders.specs.Order.{said_in, IsLineOf, IsNoOrder, ordered}
use Rattle.orders.specs.Line.{IsLine}
use Rattle.orders.specs.Words.{Said, One, Two, Three, IsTextOf, text_of}
use Rattle.orders.specs.declared.listing.Listing.{Listing}
use Rattle.orders.specs.declared.order.Order.{Order}
use Rattle.orders.proofs.LineLemmas.{one_text}
use Rattle.orders.proofs.ListingLemmas.{listed, lists_itself}
use Rattle.orders.proofs.WordLemmas.{one_saying}

-- ---- one order a line

-- the order of one word, which asks for this list if it asks for one
abbrev word_read : List ℕ → Option Listing → Ordered
word_read verb (Some listing) = ListOf listing
word_read verb None = if bytes_eq verb (codes "stop") then Stop else Ping

-- the order that words say, if they say any
abbrev read_as : Said → Ordered
read_as (One verb) = word_read verb (listed verb)
read_as (Two verb first) =
    if bytes_eq verb (codes "copy") then Copy first
    else if bytes_eq verb (codes "catalog") then Catalog first
    else if bytes_eq verb (codes "revoke-fingerprint") then RevokeByFingerprint first
    else if bytes_eq verb (codes "team-add") then Registry (TeamAdd first None)
    else if bytes_eq verb (codes "group-add") then Registry (GroupAdd first)
    else if bytes_eq verb (codes "key-revoke") then Registry (KeyRevoke first)
    else Registry (KeysRevoke first)
read_as (Three verb first second) =
    if bytes_eq verb (codes "team-add") then Registry (TeamAdd first (Some second))
    else if bytes_eq verb (codes "key-add") then Registry (KeyAdd first second Publishes)
    else Registry (KeyAdd first second Reads)

reads_itself : (o : Ordered) → read_as (said_in o) ≡ o
reads_itself Stop = refl
reads_itself Ping = refl
reads_itself (ListOf listing) = ap (word_read (word_of listing)) (lists_itself listing)
reads_itself (Copy path) = refl
reads_itself (Catalog key) = refl
reads_itself (RevokeByFingerprint f) = refl
reads_itself (Registry (TeamAdd name None)) = refl
reads_itself (Registry (TeamAdd name (Some group))) = refl
reads_itself (Registry (GroupAdd name)) = refl
reads_itself (Registry (KeyAdd shelf key Publishes)) = refl
reads_itself (Registry (KeyAdd shelf key Reads)) = refl
reads_itself (Registry (KeyRevoke key)) = refl
reads_itself (Registry (KeysRevoke shelf)) = refl

-- orders with one line have one list of words
same_words :
    (line : List ℕ) (one two : Ordered) → IsLineOf line one → IsLineOf line two → said_in one ≡ said_in two
same_words line one two first next =
    one_saying (said_in one) (said_in two) first.words next.words
    (sym (one_text line (text_of (said_in one)) (text_of (said_in two)) first.line.is next.line.is))

pub one_order : (line : List ℕ) (one two : Ordered) → IsLineOf line one → IsLineOf line two → one ≡ two
one_order line one two first next =
    sym (reads_itself one) ∙ (ap read_as (same_words line one two first next) ∙ reads_itself two)

pub round_trip : (line : List ℕ) (written : Ordered) (read : Option Order) → IsLineOf line written
    → MatchOption read (IsNoOrder line) (λ o. IsLineOf line (ordered o)) → IsRead written read
round_trip line written None is none = none written is
round_trip line written (Some o) is found = one_order line (ordered o) written found is

-- ---- bytes of no order

-- a line of words that no order has is that of no order
pub no_order : (got text : List ℕ) (s : Said) → IsLine got text → IsTextOf text s → ((o : Ordered) → s ≢ said_in o)
    → IsNoOrder got
no_order got text s line given none o is =
    none o (one_saying s (said_in o) given.words is.words
    (sym given.is ∙ sym (one_text got text (text_of (said_in o)) line.is is.line.is)))
