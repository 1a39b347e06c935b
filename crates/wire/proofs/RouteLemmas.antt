-- What the two routes match.
use Rattle.std.proofs.Common.{◌≡◌, ◌⊎◌, ℕ, zero, suc, ◌-◌, ◌<◌, List, [], ◌∷◌, ◌++◌, length, take, drop, Option, Some}
use Rattle.std.proofs.Common.{None, Bool, true, false}
use Rattle.std.proofs.Common.{cond, refl, sym, ap, ◌∙◌, subst, arith, ◌==◌, ◌&&◌, ◌||◌, get_or, inl, inr, codes, nat_eq}
use Rattle.std.proofs.Common.{length-append, ltb}
use Rattle.std.specs.List.{list_any}
use Rattle.std.specs.Cmp.Lexicographic.{pointwise, pointwise_decides}
use Rattle.std.proofs.lemmas.Bool.{and_parts, cases_Bool, eqb-true, false_from_ne_true, false≢true, lt-ltb, or_parts}
use Rattle.std.proofs.lemmas.Bool.Decides.{Decides-eqb, nat_tests}
use Rattle.std.proofs.lemmas.List.{drop_at, take-append-drop}
use Rattle.std.proofs.lemmas.List.Folds.{list_any-append}
use Rattle.matchit.specs.Rows.{RowsOf}
use Rattle.matchit.specs.Seek.{or_else, seek, first, param_step, has_slash, segment, cuts}
use Rattle.wire.specs.Route.{is_own}

-- the target is `/k/`, a key without a slash, a slash, and a rest; neither is empty
pub record Splits (target key rest : List ℕ) : Type 0 where
  pub whole : target ≡ codes "/k/" ++ (key ++ (47 ∷ rest))
  pub some_key : 0 < length key
  pub no_slash : list_any (λ b. b == 47) key ≡ false
  pub some_rest : 0 < length rest

-- each byte is below 256, so none is a token of a pattern
abbrev pub AreBytes : List ℕ → Type 0
AreBytes text = (i : ℕ) → get_or text i 0 < 256

no-token : (token : ℕ) (text : List ℕ) → 256 - 1 < token → AreBytes text → (token == get_or text 0 0) ≡ false
no-token token text above bytes = let small = bytes 0 in grind (arith, nat_tests)

-- ---- one token at a time

module _ {K : Type 0} where
  param_nothing : (p : List ℕ) → (param_step {K = K} [] p).1 ≡ []
  unfolding param_step
  param_nothing p =
      elim (has_slash p) as (λ v. (cond {A = ℕ × RowsOf K} v (0, []) (length p, [])).1 ≡ []) [
        | true ↦ refl
        | false ↦ refl
      ]

  -- no rows match nothing
  pub seek_nothing : (k : ℕ) (p : List ℕ) → seek {K = K} k [] p ≡ None
  unfolding seek
  seek_nothing k [] = refl
  seek_nothing (suc k) (b ∷ p) = seek_nothing k p
  seek_nothing zero (b ∷ p) =
      simp (seek_nothing 0 p, param_nothing (b ∷ p), seek_nothing ((param_step {K = K} [] (b ∷ p)).0 - 1) p)

  pub seek_skip : (k : ℕ) (rows : RowsOf K) (p : List ℕ) → seek k rows p ≡ seek 0 rows (drop k p)
  unfolding seek
  seek_skip zero rows p = refl
  seek_skip (suc k) rows [] = refl
  seek_skip (suc k) rows (b ∷ p) = seek_skip k rows p

  or_none : (o : Option K) → or_else o None ≡ o
  or_none None = refl
  or_none (Some k) = refl

  -- two rows that begin with one byte
  pub seek_both : (x : ℕ) (t u : List ℕ) (a b : K) (y : ℕ) (p : List ℕ) → (x == 256) ≡ false → (x == 257) ≡ false
      → seek 0 ((x ∷ t, a) ∷ (x ∷ u, b) ∷ []) (y ∷ p) ≡ cond (x == y) (seek 0 ((t, a) ∷ (u, b) ∷ []) p) None
  unfolding seek
  seek_both x t u a b y p m n =
      rw (m, n, param_nothing (y ∷ p), seek_nothing ((param_step {K = K} [] (y ∷ p)).0 - 1) p) (by (x == y))
    where
      by : (v : Bool) → or_else (seek 0 (cond v ((t, a) ∷ cond v ((u, b) ∷ []) []) (cond v ((u, b) ∷ []) [])) p)
          (or_else None None) ≡ cond v (seek 0 ((t, a) ∷ (u, b) ∷ []) p) None
      by true = or_none (seek 0 ((t, a) ∷ (u, b) ∷ []) p)
      by false = or_none (seek 0 [] p) ∙ seek_nothing 0 p

  -- one row that begins with a byte
  pub seek_one : (x : ℕ) (t : List ℕ) (a : K) (y : ℕ) (p : List ℕ) → (x == 256) ≡ false → (x == 257) ≡ false
      → seek 0 ((x ∷ t, a) ∷ []) (y ∷ p) ≡ cond (x == y) (seek 0 ((t, a) ∷ []) p) None
  unfolding seek
  seek_one x t a y p m n =
      rw (m, n, param_nothing (y ∷ p), seek_nothing ((param_step {K = K} [] (y ∷ p)).0 - 1) p) (by (x == y))
    where
      by : (v : Bool) → or_else (seek 0 (cond v ((t, a) ∷ []) []) p) (or_else None None)
          ≡ cond v (seek 0 ((t, a) ∷ []) p) None
      by true = or_none (seek 0 ((t, a) ∷ []) p)
      by false = or_none (seek 0 [] p) ∙ seek_nothing 0 p

  -- a catch-all takes what is left, unless nothing is
  pub seek_rest : (a : K) (y : ℕ) (p : List ℕ) → (257 == y) ≡ false → seek 0 ((257 ∷ [], a) ∷ []) (y ∷ p) ≡ Some a
  unfolding seek
  seek_rest a y p m = rw (
    m,
    seek_nothing 0 p,
    param_nothing (y ∷ p),
    seek_nothing ((param_step {K = K} [] (y ∷ p)).0 - 1) p,
  ) refl

  -- `-/` and what follows, or else any rest
  own_or_path : (a b : K) (y : ℕ) (p : List ℕ) → (257 == y) ≡ false
      → seek 0 ((45 ∷ 47 ∷ 257 ∷ [], a) ∷ (257 ∷ [], b) ∷ []) (y ∷ p)
      ≡ or_else (cond (45 == y) (seek 0 ((47 ∷ 257 ∷ [], a) ∷ []) p) None) (Some b)
  unfolding seek
  own_or_path a b y p m =
      rw (m, param_nothing (y ∷ p), seek_nothing ((param_step {K = K} [] (y ∷ p)).0 - 1) p) (by (45 == y))
    where
      by : (v : Bool) → or_else (seek 0 (cond v ((47 ∷ 257 ∷ [], a) ∷ []) []) p) (or_else None (Some b))
          ≡ or_else (cond v (seek 0 ((47 ∷ 257 ∷ [], a) ∷ []) p) None) (Some b)
      by true = refl
      by false = ap (λ o. or_else o (Some b)) (seek_nothing 0 p)

  -- the rows after a parameter, each with a slash as its suffix
  slashed : K → K → RowsOf K
  slashed a b = (47 ∷ 45 ∷ 47 ∷ 257 ∷ [], a) ∷ (47 ∷ 257 ∷ [], b) ∷ []

  -- the rows before it
  keyed : K → K → RowsOf K
  keyed a b = (256 ∷ 47 ∷ 45 ∷ 47 ∷ 257 ∷ [], a) ∷ (256 ∷ 47 ∷ 257 ∷ [], b) ∷ []

  -- the rows behind it
  behind : K → K → RowsOf K
  behind a b = (45 ∷ 47 ∷ 257 ∷ [], a) ∷ (257 ∷ [], b) ∷ []

  -- a parameter takes a segment up to its slash
  param_takes : (a b : K) (path seg : List ℕ) → segment path ≡ seg → cuts seg (47 ∷ []) ≡ true
      → param_step (slashed a b) path ≡ (length seg - 1, slashed a b)
  unfolding param_step slashed
  param_takes a b path seg e cut = rw (e, cut) refl

  -- a parameter takes nothing of a segment that is a slash alone
  param_stops : (a b : K) (path seg : List ℕ) → segment path ≡ seg → cuts seg (47 ∷ []) ≡ false → has_slash path ≡ true
      → param_step (slashed a b) path ≡ (0, [])
  unfolding param_step slashed
  param_stops a b path seg e cut slash = rw (e, cut, slash) refl

  -- and all of a path without a slash
  param_ends : (a b : K) (path : List ℕ) → cuts (segment path) (47 ∷ []) ≡ false → has_slash path ≡ false
      → param_step (slashed a b) path ≡ (length path, slashed a b)
  unfolding param_step slashed
  param_ends a b path cut slash = rw (cut, slash) refl

  seek_param : (a b : K) (y : ℕ) (p : List ℕ) → (256 == y) ≡ false
      → seek 0 (keyed a b) (y ∷ p)
      ≡ seek ((param_step (slashed a b) (y ∷ p)).0 - 1) (param_step (slashed a b) (y ∷ p)).1 p
  unfolding seek slashed keyed
  seek_param a b y p m = rw (m, seek_nothing 0 p) (or_none _)

-- ---- keys

-- a key without a slash is its segment, with the slash after it
pub segment_key : (key rest : List ℕ) → list_any (λ b. b == 47) key ≡ false
    → segment (key ++ (47 ∷ rest)) ≡ key ++ (47 ∷ [])
segment_key [] rest none = refl
segment_key (b ∷ key) rest none =
    let both = or_parts (b == 47) (list_any (λ x. x == 47) key) none in
    let ih = segment_key key rest both.1 in
    rw both.0 (ap (λ (s : List ℕ). b ∷ s) ih)

cuts_key : (key : List ℕ) → 0 < length key → cuts (key ++ (47 ∷ [])) (47 ∷ []) ≡ true
cuts_key key some =
    let long = length-append key (47 ∷ []) in
    let less : ltb 1 (length (key ++ (47 ∷ []))) ≡ true = lt-ltb 1 _ (omega arith) in
    let at : length (key ++ (47 ∷ [])) - 1 ≡ length key = omega arith in
    let end : drop (length (key ++ (47 ∷ [])) - 1) (key ++ (47 ∷ [])) ≡ 47 ∷ [] =
    rw at (drop_at key (47 ∷ []) (length key) refl) in
    rw (less, end) refl

-- a text without a slash is its segment
segment_all : (text : List ℕ) → list_any (λ b. b == 47) text ≡ false → (segment text ≡ text) × (has_slash text ≡ false)
segment_all [] none = (refl, refl)
segment_all (b ∷ text) none =
    let both = or_parts (b == 47) (list_any (λ x. x == 47) text) none in
    let ih = segment_all text both.1 in
    (rw both.0 (ap (λ (s : List ℕ). b ∷ s) ih.0), rw both.0 ih.1)

-- and does not end in one
cuts_none : (text : List ℕ) → list_any (λ b. b == 47) text ≡ false → cuts text (47 ∷ []) ≡ false
cuts_none text none = false_from_ne_true (cuts text (47 ∷ [])) never
  where
    or_true : (b : Bool) → (b || true) ≡ true
    or_true true = refl
    or_true false = refl

    never : cuts text (47 ∷ []) ≡ true → ⊥
    never cut =
        let front = take (length text - 1) text in
        let ends = (and_parts (ltb 1 (length text)) (pointwise nat_eq (47 ∷ []) (drop (length text - 1) text)) cut).1 in
        let slash : 47 ∷ [] ≡ drop (length text - 1) text =
        (pointwise_decides Decides-eqb (47 ∷ []) (drop (length text - 1) text)).0 ends in
        let whole : text ≡ front ++ (47 ∷ []) = sym (take-append-drop (length text - 1) text)
        ∙ ap (λ (l : List ℕ). front ++ l) (sym slash) in
        let has : list_any (λ b. b == 47) (front ++ (47 ∷ [])) ≡ true = list_any-append (λ b. b == 47) front (47 ∷ [])
        ∙ or_true (list_any (λ b. b == 47) front) in
        false≢true (sym none ∙ ap (λ (l : List ℕ). list_any (λ b. b == 47) l) whole ∙ has)

-- ---- forwards

-- the bytes after a key and a slash are bytes too
behind_bytes : (key rest : List ℕ) → AreBytes (key ++ (47 ∷ rest)) → AreBytes rest
behind_bytes [] rest bytes = λ i. bytes (suc i)
behind_bytes (b ∷ key) rest bytes = behind_bytes key rest (λ i. bytes (suc i))

module _ {K : Type 0} (a b : K) where
  -- the routes after a key and its slash
  after_key : (y : ℕ) (key rest : List ℕ) → (256 == y) ≡ false → list_any (λ c. c == 47) (y ∷ key) ≡ false
      → seek 0 (keyed a b) ((y ∷ key) ++ (47 ∷ rest)) ≡ seek 0 (behind a b) rest
  unfolding slashed behind
  after_key y key rest m none =
      let takes = param_takes a b ((y ∷ key) ++ (47 ∷ rest)) ((y ∷ key) ++ (47 ∷ [])) (segment_key (y ∷ key) rest none)
      (cuts_key (y ∷ key) (omega arith)) in
      let long : length ((y ∷ key) ++ (47 ∷ [])) - 1 - 1 ≡ length key = omega (arith, length-append key (47 ∷ [])) in
      seek_param a b y (key ++ (47 ∷ rest)) m
      ∙ (λ i. seek ((takes i).0 - 1) (takes i).1 (key ++ (47 ∷ rest)))
      ∙ (λ i. seek (long i) (slashed a b) (key ++ (47 ∷ rest)))
      ∙ seek_skip (length key) (slashed a b) (key ++ (47 ∷ rest))
      ∙ ap (λ p. seek 0 (slashed a b) p) (drop_at key (47 ∷ rest) (length key) refl)
      ∙ seek_both 47 (45 ∷ 47 ∷ 257 ∷ []) (257 ∷ []) a b 47 rest refl refl

  -- what the rest of a target is matched by
  rest_area : (rest : List ℕ) → 0 < length rest → AreBytes rest
      → seek 0 (behind a b) rest ≡ Some (cond (is_own rest) a b)
  unfolding seek behind
  rest_area [] some bytes = absurd (omega arith)
  rest_area (y ∷ []) some bytes = own_or_path a b y [] (no-token 257 (y ∷ []) (omega arith) bytes) ∙ by (45 == y)
    where
      by : (v : Bool) → or_else (cond v (seek 0 ((47 ∷ 257 ∷ [], a) ∷ []) []) None) (Some b)
          ≡ Some (cond ((v && false) && false) a b)
      by true = refl
      by false = refl
  rest_area (y ∷ s ∷ []) some bytes = own_or_path a b y (s ∷ []) (no-token 257 (y ∷ s ∷ []) (omega arith) bytes)
      ∙ rw (seek_one 47 (257 ∷ []) a s [] refl refl) (by (45 == y) (47 == s))
    where
      by : (v w : Bool) → or_else (cond v (cond w (seek 0 ((257 ∷ [], a) ∷ []) []) None) None) (Some b)
          ≡ Some (cond ((v && (w && true)) && false) a b)
      by true true = refl
      by true false = refl
      by false w = refl
  rest_area (y ∷ s ∷ c ∷ rest) some bytes =
      own_or_path a b y (s ∷ c ∷ rest) (no-token 257 (y ∷ s ∷ c ∷ rest) (omega arith) bytes)
      ∙ rw (
        seek_one 47 (257 ∷ []) a s (c ∷ rest) refl refl,
        seek_rest a c rest (no-token 257 (c ∷ rest) (omega arith) (λ i. bytes (suc (suc i)))),
        lt-ltb 2 (length (y ∷ s ∷ c ∷ rest)) (omega arith),
      )
      (by (45 == y) (47 == s))
    where
      by : (v w : Bool) → or_else (cond v (cond w (Some a) None) None) (Some b)
          ≡ Some (cond ((v && (w && true)) && true) a b)
      by true true = refl
      by true false = refl
      by false w = refl

  -- both routes
  abbrev pub both_routes : RowsOf K
  both_routes = (47 ∷ 107 ∷ 47 ∷ 256 ∷ 47 ∷ 45 ∷ 47 ∷ 257 ∷ [], a) ∷ (47 ∷ 107 ∷ 47 ∷ 256 ∷ 47 ∷ 257 ∷ [], b) ∷ []

  after_start : (text : List ℕ) → first both_routes (codes "/k/" ++ text) ≡ seek 0 (keyed a b) text
  unfolding keyed
  after_start text = seek_both 47 _ _ a b 47 _ refl refl ∙ seek_both 107 _ _ a b 107 _ refl refl
      ∙ seek_both 47 _ _ a b 47 _ refl refl

  -- the route of a target that splits
  pub first_of_split : (target key rest : List ℕ) → Splits target key rest → AreBytes target
      → first both_routes target ≡ Some (cond (is_own rest) a b)
  first_of_split target [] rest splits bytes = absurd (omega (arith, splits.some_key))
  first_of_split target (y ∷ key) rest splits bytes =
      let whole : AreBytes (codes "/k/" ++ ((y ∷ key) ++ (47 ∷ rest))) = subst AreBytes splits.whole bytes in
      let key_bytes : AreBytes ((y ∷ key) ++ (47 ∷ rest)) = λ i. whole (suc (suc (suc i))) in
      ap (λ p. first both_routes p) splits.whole
      ∙ after_start ((y ∷ key) ++ (47 ∷ rest))
      ∙ after_key y key rest (no-token 256 ((y ∷ key) ++ (47 ∷ rest)) (omega arith) key_bytes) splits.no_slash
      ∙ rest_area rest splits.some_rest (behind_bytes (y ∷ key) rest key_bytes)

-- ---- backwards

cond_some : {A : Type 0} (v : Bool) (o : Option A) (x : A) → cond v o None ≡ Some x → (v ≡ true) × (o ≡ Some x)
cond_some true o x h = (refl, h)
cond_some false o x h = cc h

-- a text has no slash, or is split by its first
split_slash : (text : List ℕ) → (list_any (λ b. b == 47) text ≡ false)
    ⊎ ((key rest : List ℕ) × (text ≡ key ++ (47 ∷ rest)) × (list_any (λ b. b == 47) key ≡ false))
split_slash [] = inl refl
split_slash (c ∷ text) = elim (cases_Bool (c == 47)) [
  | inl slash ↦ inr ([], text, ap (λ (x : ℕ). x ∷ text) (eqb-true c 47 slash), refl)
  | inr other ↦ elim (split_slash text) [
    | inl none ↦ inl (rw other none)
    | inr split ↦ inr (c ∷ split.0, split.1, ap (λ (l : List ℕ). c ∷ l) split.2, rw other split.3)
  ]
]

module _ {K : Type 0} (a b : K) where
  -- what two rows that begin with one byte match begins with it
  strip_one : (x : ℕ) (t u path : List ℕ) (r : K) → (x == 256) ≡ false → (x == 257) ≡ false
      → seek 0 ((x ∷ t, a) ∷ (x ∷ u, b) ∷ []) path ≡ Some r
      → (p : List ℕ) × (path ≡ x ∷ p) × (seek 0 ((t, a) ∷ (u, b) ∷ []) p ≡ Some r)
  unfolding seek
  strip_one x t u [] r m n h = cc h
  strip_one x t u (y ∷ p) r m n h =
      let one = cond_some (x == y) (seek 0 ((t, a) ∷ (u, b) ∷ []) p) r (sym (seek_both x t u a b y p m n) ∙ h) in
      (p, ap (λ (c : ℕ). c ∷ p) (sym (eqb-true x y one.0)), one.1)

  -- what matches begins with `/k/`
  starts : (target : List ℕ) (r : K) → first (both_routes a b) target ≡ Some r
      → (text : List ℕ) × (target ≡ codes "/k/" ++ text) × (seek 0 (keyed a b) text ≡ Some r)
  unfolding keyed
  starts target r h =
      let one = strip_one 47 (107 ∷ 47 ∷ 256 ∷ 47 ∷ 45 ∷ 47 ∷ 257 ∷ []) (107 ∷ 47 ∷ 256 ∷ 47 ∷ 257 ∷ []) target r refl
      refl h in
      let two = strip_one 107 (47 ∷ 256 ∷ 47 ∷ 45 ∷ 47 ∷ 257 ∷ []) (47 ∷ 256 ∷ 47 ∷ 257 ∷ []) one.0 r refl refl one.2 in
      let three = strip_one 47 (256 ∷ 47 ∷ 45 ∷ 47 ∷ 257 ∷ []) (256 ∷ 47 ∷ 257 ∷ []) two.0 r refl refl two.2 in
      (three.0, one.1 ∙ ap (λ (l : List ℕ). 47 ∷ l) two.1 ∙ ap (λ (l : List ℕ). 47 ∷ (107 ∷ l)) three.1, three.2)

  -- and then has a slash
  no_slash_nothing : (text : List ℕ) → AreBytes text → list_any (λ c. c == 47) text ≡ false
      → seek 0 (keyed a b) text ≡ None
  unfolding seek slashed keyed
  no_slash_nothing [] bytes none = refl
  no_slash_nothing (y ∷ p) bytes none =
      let all = segment_all (y ∷ p) none in
      let cut : cuts (segment (y ∷ p)) (47 ∷ []) ≡ false = ap (λ (l : List ℕ). cuts l (47 ∷ [])) all.0
      ∙ cuts_none (y ∷ p) none in
      let ends = param_ends a b (y ∷ p) cut all.1 in
      let long : length (y ∷ p) - 1 ≡ length p = omega arith in
      seek_param a b y p (no-token 256 (y ∷ p) (omega arith) bytes)
      ∙ (λ i. seek ((ends i).0 - 1) (ends i).1 p)
      ∙ (λ i. seek (long i) (slashed a b) p)
      ∙ seek_skip (length p) (slashed a b) p
      ∙ ap (λ (l : List ℕ). seek 0 (slashed a b) l) (drop_all p)
    where
      drop_all : (l : List ℕ) → drop (length l) l ≡ []
      drop_all [] = refl
      drop_all (x ∷ l) = drop_all l

  -- with something before it
  no_key_nothing : (rest : List ℕ) → seek 0 (keyed a b) (47 ∷ rest) ≡ None
  no_key_nothing rest =
      let stops = param_stops a b (47 ∷ rest) (47 ∷ []) refl refl refl in
      seek_param a b 47 rest refl
      ∙ (λ i. seek ((stops i).0 - 1) (stops i).1 rest)
      ∙ seek_nothing (0 - 1) rest

  -- and something behind it
  no_rest_nothing : seek 0 (behind a b) [] ≡ None
  unfolding seek behind
  no_rest_nothing = refl

  key_splits : (key rest : List ℕ) (r : K) → AreBytes (key ++ (47 ∷ rest)) → list_any (λ c. c == 47) key ≡ false
      → seek 0 (keyed a b) (key ++ (47 ∷ rest)) ≡ Some r → (0 < length key) × (0 < length rest)
  key_splits [] rest r bytes none h = cc (no_key_nothing rest, h)
  key_splits (y ∷ key) [] r bytes none h =
      cc (after_key a b y key [] (no-token 256 ((y ∷ key) ++ (47 ∷ [])) (omega arith) bytes) none, no_rest_nothing, h)
  key_splits (y ∷ key) (c ∷ rest) r bytes none h = (omega arith, omega arith)

  -- a target that matches splits
  pub splits_of_first : (target : List ℕ) (r : K) → AreBytes target → first (both_routes a b) target ≡ Some r
      → (key rest : List ℕ) × Splits target key rest
  splits_of_first target r bytes h =
      let start = starts target r h in
      let text = start.0 in
      let whole : AreBytes (codes "/k/" ++ text) = subst AreBytes start.1 bytes in
      let inner : AreBytes text = λ i. whole (suc (suc (suc i))) in
      elim (split_slash text) [
        | inl none ↦ absurd (cc (no_slash_nothing text inner none, start.2))
        | inr split ↦
            let some = key_splits split.0 split.1 r (subst AreBytes split.2 inner) split.3
            (sym (ap (λ (l : List ℕ). seek 0 (keyed a b) l) split.2) ∙ start.2) in (
              split.0,
              split.1,
              record {
                whole = start.1 ∙ ap (λ (l : List ℕ). codes "/k/" ++ l) split.2;
                some_key = some.0;
                no_slash = split.3;
                some_rest = some.1;
              },
            )
      ]
