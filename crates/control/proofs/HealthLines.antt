-- The lines of a health are those that are read as such, and no other bytes are.
use Rattle.std.proofs.Common.{◌≡◌, ◌<◌, ◌^◌, ℕ, Bool, true, false, List, [], ◌∷◌, ◌++◌, decimal, codes, append_assoc}
use Rattle.std.proofs.Common.{Option, Some, None, refl, sym, ap, subst, ◌∙◌, arith}
use Rattle.std.specs.Prelude.{◌↔◌, IfSome, IsTrue, option_and_then, option_copied}
use Rattle.std.specs.FinMap as map
use Rattle.std.proofs.lemmas.Option.{same_Some}
use Rattle.modver.specs.Time.{IsTime}
use Rattle.interleave.specs.declared.between.CopyProgress.{CopyProgress}
use Rattle.control.specs.Health.{AreMetrics, IsHealth, IsHealthLine, IsTally, begin_behind, counts_text, how_far_word}
use Rattle.control.specs.Health.{line_of, lines_in, number_word, shelves_in, shelves_text, time_word, words_of}
use Rattle.control.specs.HealthText.{are_shelf_lines, beginning, digits_len, figures, first_number, how_far_if}
use Rattle.control.specs.HealthText.{is_health_text, number, number_if, shelves, some_passes, tally, time, time_if}
use Rattle.control.specs.HealthText.{word}
use Rattle.control.specs.Traffic.{IsTraffic}
use Rattle.control.specs.declared.health.Health.{Health}
use Rattle.control.specs.declared.health.Metrics.{Metrics}
use Rattle.control.specs.declared.tally.Tally.{Tally}
use Rattle.control.specs.declared.traffic.Traffic.{Traffic}
use Rattle.control.proofs.HealthPieces.{first_number-at, first_number-some, how_far_if-at, how_far_if-some}
use Rattle.control.proofs.HealthPieces.{number-at, number-some, number_if-at, number_if-some, then-some, time-at}
use Rattle.control.proofs.HealthPieces.{time-some, time_if-at, time_if-some, word-at, word-some}
use Rattle.control.proofs.HealthShelves.{passes-some, traffic-at, traffic-some}

abbrev Left : Type 0
Left = Option (List ℕ)

-- ---- the words up to the versions

-- a word with a number, and what follows
abbrev numbered : List ℕ → ℕ → List ℕ → List ℕ
numbered name n rest = name ++ (decimal n ++ rest)

abbrev tally_text : Tally → List ℕ → List ℕ
tally_text t rest =
    numbered (codes "connections=") t.connections
    (numbered (codes " 2xx=") t.succeeded
    (numbered (codes " 4xx=") t.refused
    (numbered (codes " 5xx=") t.failed (numbered (codes " unanswered=") t.unanswered rest))))

abbrev beginning_text : Health → List ℕ → List ℕ
beginning_text h rest =
    tally_text h.tally
    (numbered (codes " store-failures=") h.store_failures
    (codes " since=" ++ (h.tally.since ++ numbered (codes " versions=") h.versions rest)))

begun : (h : Health) (rest : List ℕ) → begin_behind (counts_text h.tally) h ++ rest ≡ beginning_text h rest
begun h rest = simp append_assoc

module _ (t : Tally) (rest : List ℕ) (is : IsTally t) (none : digits_len rest ≡ 0) where
  tally-at : tally (Some (tally_text t rest)) ≡ Some rest
  tally-at =
      let fourth : List ℕ = numbered (codes " unanswered=") t.unanswered rest in
      let third : List ℕ = numbered (codes " 5xx=") t.failed fourth in
      let second : List ℕ = numbered (codes " 4xx=") t.refused third in
      let first : List ℕ = numbered (codes " 2xx=") t.succeeded second in
      ap (λ l. number (codes " unanswered=")
      (number (codes " 5xx=") (number (codes " 4xx=") (number (codes " 2xx=") l))))
      (number-at (codes "connections=") first t.connections is.below.connections refl)
      ∙ ap (λ l. number (codes " unanswered=") (number (codes " 5xx=") (number (codes " 4xx=") l)))
      (number-at (codes " 2xx=") second t.succeeded is.below.succeeded refl)
      ∙ ap (λ l. number (codes " unanswered=") (number (codes " 5xx=") l))
      (number-at (codes " 4xx=") third t.refused is.below.refused refl)
      ∙ ap (number (codes " unanswered=")) (number-at (codes " 5xx=") fourth t.failed is.below.failed refl)
      ∙ number-at (codes " unanswered=") rest t.unanswered is.below.unanswered none

beginning-at : (h : Health) (rest : List ℕ) → IsHealth h → digits_len rest ≡ 0
    → beginning (Some (beginning_text h rest)) ≡ Some rest
beginning-at h rest is none =
    let third : List ℕ = numbered (codes " versions=") h.versions rest in
    let second : List ℕ = codes " since=" ++ (h.tally.since ++ third) in
    let first : List ℕ = numbered (codes " store-failures=") h.store_failures second in
    ap (λ l. number (codes " versions=") (time (codes " since=") (number (codes " store-failures=") l)))
    (tally-at h.tally first is.tally refl)
    ∙ ap (λ l. number (codes " versions=") (time (codes " since=") l))
    (number-at (codes " store-failures=") second h.store_failures is.store_failures refl)
    ∙ ap (number (codes " versions=")) (time-at h.tally.since third is.tally.since (codes " since="))
    ∙ number-at (codes " versions=") rest h.versions is.versions none

-- these counts and times stand before the rest
record Begun (left : Left) (rest : List ℕ) : Type 0 where
  tally : Tally
  is : IsTally tally
  store_failures : ℕ
  few_failures : store_failures < 2 ^ 64
  versions : ℕ
  few_versions : versions < 2 ^ 64
  text_is : left ≡ Some (tally_text tally (numbered (codes " store-failures=") store_failures
      (codes " since=" ++ (tally.since ++ numbered (codes " versions=") versions rest))))

beginning-some : (left : Left) (rest : List ℕ) → beginning left ≡ Some rest → Begun left rest
beginning-some left rest is =
    let l1 = number (codes "connections=") left in
    let l2 = number (codes " 2xx=") l1 in
    let l3 = number (codes " 4xx=") l2 in
    let l4 = number (codes " 5xx=") l3 in
    let l5 = number (codes " unanswered=") l4 in
    let l6 = number (codes " store-failures=") l5 in
    let versions = number-some (codes " versions=") rest (time (codes " since=") l6) is in
    let r7 : List ℕ = numbered (codes " versions=") versions.0 rest in
    let since = time-some (codes " since=") r7 l6 versions.2 in
    let r6 : List ℕ = codes " since=" ++ (since.0 ++ r7) in
    let failures = number-some (codes " store-failures=") r6 l5 since.2 in
    let r5 : List ℕ = numbered (codes " store-failures=") failures.0 r6 in
    let unanswered = number-some (codes " unanswered=") r5 l4 failures.2 in
    let r4 : List ℕ = numbered (codes " unanswered=") unanswered.0 r5 in
    let failed = number-some (codes " 5xx=") r4 l3 unanswered.2 in
    let r3 : List ℕ = numbered (codes " 5xx=") failed.0 r4 in
    let refused = number-some (codes " 4xx=") r3 l2 failed.2 in
    let r2 : List ℕ = numbered (codes " 4xx=") refused.0 r3 in
    let succeeded = number-some (codes " 2xx=") r2 l1 refused.2 in
    let r1 : List ℕ = numbered (codes " 2xx=") succeeded.0 r2 in
    let connections = number-some (codes "connections=") r1 left succeeded.2 in
    record {
      tally = record {
        since = since.0;
        connections = connections.0;
        succeeded = succeeded.0;
        refused = refused.0;
        failed = failed.0;
        unanswered = unanswered.0;
      };
      is = record {
        below = record {
          connections = connections.1;
          succeeded = succeeded.1;
          refused = refused.1;
          failed = failed.1;
          unanswered = unanswered.1;
        };
        since = since.1;
      };
      store_failures = failures.0;
      few_failures = failures.1;
      versions = versions.0;
      few_versions = versions.1;
      text_is = connections.2;
    }

-- ---- the words on the file and on copies

-- what is behind them
abbrev counted : ℕ → List ℕ → List ℕ
counted n lines = numbered (codes " shelves=") n (codes "\n" ++ lines)

module _ (rest : List ℕ) where
  abbrev copying_text : Option CopyProgress → List ℕ
  copying_text copying = how_far_word (codes " copying=") copying ++ (codes " shelves=" ++ rest)

  abbrev copied_text : Option (List ℕ) → Option CopyProgress → List ℕ
  copied_text copied copying = time_word (codes " copied=") copied ++ copying_text copying

  abbrev log_text : Option ℕ → Option (List ℕ) → Option CopyProgress → List ℕ
  log_text log copied copying = number_word (codes " log=") log ++ copied_text copied copying

  no_copied : (copying : Option CopyProgress) → word (codes " copied=") (Some (copying_text copying)) ≡ None
  unfolding word
  no_copied None = refl
  no_copied (Some far) = refl

  no_log : (copied : Option (List ℕ)) (copying : Option CopyProgress)
      → word (codes " log=") (Some (copied_text copied copying)) ≡ None
  unfolding word
  no_log None None = refl
  no_log None (Some far) = refl
  no_log (Some t) copying = refl

  no_bytes : (log : Option ℕ) (copied : Option (List ℕ)) (copying : Option CopyProgress)
      → word (codes " bytes=") (Some (log_text log copied copying)) ≡ None
  unfolding word
  no_bytes None None None = refl
  no_bytes None None (Some far) = refl
  no_bytes None (Some t) copying = refl
  no_bytes (Some n) copied copying = refl

  no_copying : word (codes " copying=") (Some (codes " shelves=" ++ rest)) ≡ None
  unfolding word
  no_copying = refl

  copied_ends : (copied : Option (List ℕ)) (copying : Option CopyProgress) → digits_len (copied_text copied copying) ≡ 0
  copied_ends None None = refl
  copied_ends None (Some far) = refl
  copied_ends (Some t) copying = refl

  log_ends : (log : Option ℕ) (copied : Option (List ℕ)) (copying : Option CopyProgress)
      → digits_len (log_text log copied copying) ≡ 0
  log_ends None copied copying = copied_ends copied copying
  log_ends (Some n) copied copying = refl

  abbrev figures_text : Metrics → List ℕ
  figures_text f = number_word (codes " bytes=") f.bytes ++ log_text f.log f.copied f.copying

  figures_spread : (f : Metrics) → words_of f ++ (codes " shelves=" ++ rest) ≡ figures_text f
  figures_spread f = simp append_assoc

  figures_end : (f : Metrics) → digits_len (figures_text f) ≡ 0
  figures_end f = at f.bytes
    where
      at : (bytes : Option ℕ)
          → digits_len (number_word (codes " bytes=") bytes ++ log_text f.log f.copied f.copying) ≡ 0
      at None = log_ends f.log f.copied f.copying
      at (Some n) = refl

  figures-at : (f : Metrics) → AreMetrics f → figures (Some (figures_text f)) ≡ Some (codes " shelves=" ++ rest)
  figures-at f are =
      let second : List ℕ = log_text f.log f.copied f.copying in
      let third : List ℕ = copied_text f.copied f.copying in
      let fourth : List ℕ = copying_text f.copying in
      ap (λ l. how_far_if (codes " copying=") (time_if (codes " copied=") (number_if (codes " log=") l)))
      (number_if-at (codes " bytes=") second f.bytes are.bytes (log_ends f.log f.copied f.copying)
      (no_bytes f.log f.copied f.copying))
      ∙ ap (λ l. how_far_if (codes " copying=") (time_if (codes " copied=") l))
      (number_if-at (codes " log=") third f.log are.log (copied_ends f.copied f.copying) (no_log f.copied f.copying))
      ∙ ap (how_far_if (codes " copying="))
      (time_if-at (codes " copied=") fourth f.copied are.copied (no_copied f.copying))
      ∙ how_far_if-at (codes " copying=") (codes " shelves=" ++ rest) f.copying are.copying refl no_copying

-- these figures stand before the rest
record Figured (left : Left) (rest : List ℕ) : Type 0 where
  bytes : Option ℕ
  few_bytes : IfSome bytes (λ n. n < 2 ^ 64)
  log : Option ℕ
  few_log : IfSome log (λ n. n < 2 ^ 64)
  copied : Option (List ℕ)
  is_time : IfSome copied IsTime
  copying : Option CopyProgress
  few_entries : IfSome copying (λ far. (far.done < 2 ^ 64) × (far.all < 2 ^ 64))
  text_is : left ≡ Some (number_word (codes " bytes=") bytes ++ (number_word (codes " log=") log
      ++ (time_word (codes " copied=") copied ++ (how_far_word (codes " copying=") copying ++ rest))))

figures-some : (left : Left) (rest : List ℕ) → figures left ≡ Some rest → Figured left rest
figures-some left rest is =
    let l1 = number_if (codes " bytes=") left in
    let l2 = number_if (codes " log=") l1 in
    let l3 = time_if (codes " copied=") l2 in
    let copying = how_far_if-some (codes " copying=") rest l3 is in
    let r3 : List ℕ = how_far_word (codes " copying=") copying.0 ++ rest in
    let copied = time_if-some (codes " copied=") r3 l2 copying.2 in
    let r2 : List ℕ = time_word (codes " copied=") copied.0 ++ r3 in
    let log = number_if-some (codes " log=") r2 l1 copied.2 in
    let r1 : List ℕ = number_word (codes " log=") log.0 ++ r2 in
    let bytes = number_if-some (codes " bytes=") r1 left log.2 in
    record {
      bytes = bytes.0;
      few_bytes = bytes.1;
      log = log.0;
      few_log = log.1;
      copied = copied.0;
      is_time = copied.1;
      copying = copying.0;
      few_entries = copying.1;
      text_is = bytes.2;
    }

-- ---- the shelves

abbrev are_lines : ℕ × List ℕ → Bool
are_lines x = some_passes (are_shelf_lines x.0 []) (word (codes "\n") (Some x.1))

shelves-at : (n : ℕ) (lines : List ℕ) → n < 2 ^ 64 → are_shelf_lines n [] lines ≡ true
    → shelves (Some (counted n lines)) ≡ true
unfolding shelves
shelves-at n lines few are =
    ap (λ (l : Left). some_passes are_lines (option_and_then first_number l))
    (word-at (codes " shelves=") (decimal n ++ (codes "\n" ++ lines)))
    ∙ ap (some_passes are_lines) (first_number-at n (codes "\n" ++ lines) few refl)
    ∙ ap (some_passes (are_shelf_lines n [])) (word-at (codes "\n") lines)
    ∙ are

shelves-some : (left : Left) → shelves left ≡ true
    → (n : ℕ) × (lines : List ℕ) × (n < 2 ^ 64) × (are_shelf_lines n [] lines ≡ true) × (left ≡ Some (counted n lines))
unfolding shelves
shelves-some left is =
    let read = passes-some are_lines (option_and_then first_number (word (codes " shelves=") left)) is in
    let n = read.0.0 in
    let rest : List ℕ = read.0.1 in
    let named = then-some first_number (word (codes " shelves=") left) read.0 read.1 in
    let first = first_number-some n rest named.0 named.2 in
    let ended = passes-some (are_shelf_lines n []) (word (codes "\n") (Some rest)) read.2 in
    let end = same_Some rest _ (word-some (codes "\n") ended.0 (Some rest) ended.1) in (
      n,
      ended.0,
      first.0,
      ended.2,
      word-some (codes " shelves=") named.0 left named.1
          ∙ ap (λ (t : List ℕ). Some (codes " shelves=" ++ t)) (first.1 ∙ ap (λ (r : List ℕ). decimal n ++ r) end),
    )

-- the counts of shelves, which may be kept nowhere
few_in : (t : Option Traffic) → IfSome t IsTraffic → shelves_in t < 2 ^ 64
few_in None is = omega arith
few_in (Some t) is = is.1

lines_read : (t : Option Traffic) → IfSome t IsTraffic → are_shelf_lines (shelves_in t) [] (lines_in t) ≡ true
lines_read None is = refl
lines_read (Some t) is = traffic-at t is.0

-- what follows the name of their number
abbrev ended : Metrics → List ℕ
ended f = decimal (shelves_in (option_copied f.traffic)) ++ (codes "\n" ++ lines_in (option_copied f.traffic))

shelves_spread : (f : Metrics) → shelves_text f ≡ codes " shelves=" ++ ended f
shelves_spread f = simp append_assoc

-- ---- all lines

-- the lines of a health, piece by piece
line_spread : (h : Health) → line_of h ≡ beginning_text h (figures_text (ended h.figures) h.figures)
line_spread h =
    let f = h.figures in
    ap (λ (s : List ℕ). begin_behind (counts_text h.tally) h ++ (words_of f ++ s)) (shelves_spread f)
    ∙ ap (λ (s : List ℕ). begin_behind (counts_text h.tally) h ++ s) (figures_spread (ended f) f)
    ∙ begun h (figures_text (ended f) f)

health-at : (h : Health) → IsHealth h → is_health_text (line_of h) ≡ true
health-at h is =
    let f = h.figures in
    let t = option_copied f.traffic in
    ap is_health_text (line_spread h)
    ∙ ap (λ l. shelves (figures l)) (beginning-at h (figures_text (ended f) f) is (figures_end (ended f) f))
    ∙ ap shelves (figures-at (ended f) f is.figures)
    ∙ shelves-at (shelves_in t) (lines_in t) (few_in t is.figures.shelves) (lines_read t is.figures.shelves)

health-some : (text : List ℕ) → is_health_text text ≡ true → IsHealthLine text
health-some text is =
    let told = shelves-some (figures (beginning (Some text))) is in
    let n = told.0 in
    let lines : List ℕ = told.1 in
    let shelved = traffic-some n lines told.3 in
    let known = figures-some (beginning (Some text)) (counted n lines) told.4 in
    let f : Metrics = record {
      bytes = known.bytes;
      log = known.log;
      copied = known.copied;
      copying = known.copying;
      traffic = Some (record { ref_ptr = (0, 0); now = shelved.0 });
    } in
    let rest : List ℕ = decimal n ++ (codes "\n" ++ lines) in
    let first = beginning-some (Some text) (figures_text rest f) known.text_is in
    let h : Health = record {
      tally = first.tally;
      store_failures = first.store_failures;
      versions = first.versions;
      figures = f;
    } in
    let same : rest ≡ ended f = λ i. decimal (sym shelved.2 i) ++ (codes "\n" ++ shelved.3 i) in (
      h,
      record {
        tally = first.is;
        store_failures = first.few_failures;
        versions = first.few_versions;
        figures = record {
          bytes = known.few_bytes;
          log = known.few_log;
          copied = known.is_time;
          copying = known.few_entries;
          shelves = (shelved.1, subst (λ m. m < 2 ^ 64) (sym shelved.2) told.2);
        };
      },
      same_Some text _ first.text_is ∙ ap (λ (r : List ℕ). beginning_text h (figures_text r f)) same
          ∙ sym (line_spread h),
    )

-- bytes are the lines of a health if they are read so, and only then
pub health-exact : (b : Bool) (text : List ℕ) → b ≡ is_health_text text → IsTrue b ↔ IsHealthLine text
health-exact b text is = (
  λ passes. health-some text (sym is ∙ passes),
  λ line. is ∙ ap is_health_text line.2 ∙ health-at line.0 line.1,
)
