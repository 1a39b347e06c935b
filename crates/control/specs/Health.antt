-- What was answered since a server began, and the line that tells it.
use Rattle.std.specs.Prelude.{ℕ, ◌≡◌, ◌+◌, ◌/◌, ◌^◌, ◌<◌, ◌++◌, nat_eq, cond, Bool, true, false}
use Rattle.std.specs.Prelude.{List, [], length, codes, decimal, count_by, Option, Some, None, IfSome, option_copied}
use Rattle.std.specs.Prelude.{Result, Ok, Err}
use Rattle.std.specs.FinMap as map
use Rattle.modver.specs.Time.{IsTime}
use Rattle.world.specs.Store.{GrewOrFull}
use Rattle.world.specs.declared.registry.StoreFault.{StoreFault}
use Rattle.world.specs.declared.registry.StoreFault.TheVariants.{Device}
use Rattle.socket.specs.Connections as socket
use Rattle.interleave.specs.declared.between.CopyProgress.{CopyProgress}
use Rattle.control.specs.Traffic as traffic
use Rattle.control.specs.declared.health.Metrics.{Metrics}
use Rattle.control.specs.declared.health.Health.{Health}
use Rattle.control.specs.declared.tally.Tally.{Tally}
use Rattle.control.specs.declared.traffic.Traffic.{Traffic}

-- what became of one connection: the status that was written, none where the peer sent nothing, or that it failed
abbrev pub Answered : Type 0
Answered = socket.Answered

-- whether its status begins with this digit
abbrev pub is_of_class : ℕ → Answered → Bool
is_of_class class (Ok (Some status)) = nat_eq (status / 100) class
is_of_class class (Ok None) = false
is_of_class class (Err e) = false

-- whether no status was written whole
abbrev pub is_unanswered : Answered → Bool
is_unanswered (Ok (Some status)) = false
is_unanswered (Ok None) = true
is_unanswered (Err e) = true

-- the counts of these connections
abbrev pub tally_of : List ℕ → List Answered → Tally
tally_of since all = record {
  since = since;
  connections = length all;
  succeeded = count_by (is_of_class 2) all;
  refused = count_by (is_of_class 4) all;
  failed = count_by (is_of_class 5) all;
  unanswered = count_by is_unanswered all;
}

abbrev pub one_if : Bool → ℕ
one_if holds = cond holds 1 0

-- one connection more
abbrev pub with_one : Tally → Answered → Tally
with_one t answered = record {
  since = t.since;
  connections = t.connections + 1;
  succeeded = t.succeeded + one_if (is_of_class 2 answered);
  refused = t.refused + one_if (is_of_class 4 answered);
  failed = t.failed + one_if (is_of_class 5 answered);
  unanswered = t.unanswered + one_if (is_unanswered answered);
}

-- each count is below this number
pub record AreBelow (most : ℕ) (t : Tally) : Type 0 where
  pub connections : t.connections < most
  pub succeeded : t.succeeded < most
  pub refused : t.refused < most
  pub failed : t.failed < most
  pub unanswered : t.unanswered < most

-- the counts as text
abbrev pub counts_text : Tally → List ℕ
counts_text t =
    codes "connections=" ++ decimal t.connections
    ++ codes " 2xx=" ++ decimal t.succeeded
    ++ codes " 4xx=" ++ decimal t.refused
    ++ codes " 5xx=" ++ decimal t.failed
    ++ codes " unanswered=" ++ decimal t.unanswered

-- a word that tells a number under a name, or none
abbrev pub number_word : List ℕ → Option ℕ → List ℕ
number_word name None = []
number_word name (Some n) = name ++ decimal n

-- a word that tells a time under a name, or none
abbrev pub time_word : List ℕ → Option (List ℕ) → List ℕ
time_word name None = []
time_word name (Some time) = name ++ time

-- a word that tells under a name how many entries of how many a copy has, or none
abbrev pub how_far_word : List ℕ → Option CopyProgress → List ℕ
how_far_word name None = []
how_far_word name (Some far) = name ++ (decimal far.done ++ (codes "/" ++ decimal far.all))

-- how many shelves have counts
abbrev pub shelves_in : Option Traffic → ℕ
shelves_in None = 0
shelves_in (Some t) = map.len t.shelves

-- the lines of the shelves that have counts
abbrev pub lines_in : Option Traffic → List ℕ
lines_in None = []
lines_in (Some t) = traffic.lines_of t

-- the words that tell what is known of the file and of copies
abbrev pub words_of : Metrics → List ℕ
words_of f =
    number_word (codes " bytes=") f.bytes
    ++ (number_word (codes " log=") f.log
    ++ (time_word (codes " copied=") f.copied ++ how_far_word (codes " copying=") f.copying))

-- how many shelves have counts, the end of the line, and their lines
abbrev pub shelves_text : Metrics → List ℕ
shelves_text f =
    codes " shelves=" ++ decimal (shelves_in (option_copied f.traffic)) ++ codes "\n"
    ++ lines_in (option_copied f.traffic)

-- the words of a health behind a text of its counts, up to the versions
abbrev pub begin_behind : List ℕ → Health → List ℕ
begin_behind counts h =
    counts
    ++ codes " store-failures=" ++ decimal h.store_failures
    ++ codes " since=" ++ h.tally.since
    ++ codes " versions=" ++ decimal h.versions

-- the line of a health and those of its shelves, with their ends
abbrev pub line_of : Health → List ℕ
line_of h = begin_behind (counts_text h.tally) h ++ (words_of h.figures ++ shelves_text h.figures)

-- its counts have 64 bits, and it began at a time
pub record IsTally (t : Tally) : Type 0 where
  pub below : AreBelow (2 ^ 64) t
  pub since : IsTime t.since

-- what is told of the file, of copies and of shelves are numbers of 64 bits and times
pub record AreMetrics (f : Metrics) : Type 0 where
  pub bytes : IfSome f.bytes (λ n. n < 2 ^ 64)
  pub log : IfSome f.log (λ n. n < 2 ^ 64)
  pub copied : IfSome f.copied IsTime
  pub copying : IfSome f.copying (λ far. (far.done < 2 ^ 64) × (far.all < 2 ^ 64))
  pub shelves : IfSome (option_copied f.traffic) traffic.IsTraffic

-- so it is of a health
pub record IsHealth (h : Health) : Type 0 where
  pub tally : IsTally h.tally
  pub store_failures : h.store_failures < 2 ^ 64
  pub versions : h.versions < 2 ^ 64
  pub figures : AreMetrics h.figures

-- lines are a health's
abbrev pub IsHealthLine : List ℕ → Type 0
IsHealthLine line = (h : Health) × IsHealth h × (line ≡ line_of h)

-- What a ping comes to: these counts, the failures of the store up to now, and versions that were counted. Or the store
-- met a fault, or there was no memory.
abbrev pub IsPinged : Tally → ℕ → ℕ → (ℕ → Type 0) → Result Health StoreFault → Type 0
IsPinged tally before now counted (Ok h) = (h.tally ≡ tally) × (h.store_failures ≡ now) × counted h.versions
IsPinged tally before now counted (Err fault) = fault ≡ Device → GrewOrFull before now
