-- Which of some versions intervals cover.
use Rattle.std.proofs.Common.{◌+◌, ◌-◌, ◌++◌, length, get_or, arith, ◌≡◌, ◌<◌, ◌≤◌, ℕ, zero, suc, List, [], ◌∷◌, Bool}
use Rattle.std.proofs.Common.{true}
use Rattle.std.proofs.Common.{◌↔◌, false, not, refl, sym, ap, subst, ◌∙◌, inl, inr, ◌||◌, map, take, drop, replicate}
use Rattle.std.proofs.lemmas.Bool.{cases_Bool, not-true, not-false, not_from_false, true≢false}
use Rattle.std.proofs.lemmas.Cmp.{upto}
use Rattle.std.proofs.Math.Seq.{take-length}
use Rattle.std.proofs.lemmas.List.{get_or-drop, get_or-take, length-take-le}
use Rattle.std.specs.List.{IsAllAdjacentAnswer, list_any}
use Rattle.std.specs.Prelude.{IsTrue}
use Rattle.std.specs.List.Sorted.{IsPartitionPoint, IsPartitionedBy}
use Rattle.std.specs.Ordering.{is_gt, is_lt, ordering_reverse}
use Rattle.std.specs.declared.cmp.Ordering.{Ordering}
use Rattle.std.specs.declared.cmp.Ordering.TheVariants.{Equal, Greater, Less}
use Rattle.modver.specs.Precedence.{precedence}
use Rattle.modver.proofs.StrictOrders.{precedence_total}
use Rattle.gomod.specs.Module.{Interval, covers}
use Rattle.gomod.specs.Paths.{Version, is_below}
use Rattle.gomod.specs.Coverage.{Ascends, Reaches, covered}
use Rattle.gomod.proofs.Bools.{or_none, and_none}

-- ---- the order

reversed : (o : Ordering) → is_lt (ordering_reverse o) ≡ is_gt o
reversed Less = refl
reversed Equal = refl
reversed Greater = refl

below-turned : (u v : Version) → is_below u v ≡ is_gt (precedence v u)
unfolding is_below
below-turned u v = ap is_lt (precedence_total.antisymm u v) ∙ reversed (precedence v u)

-- not below, and not below
pub rise : (u v w : Version) → is_below v u ≡ false → is_below w v ≡ false → is_below w u ≡ false
rise u v w a b = below-turned w u
    ∙ upto precedence_total u v w (sym (below-turned v u) ∙ a) (sym (below-turned w v) ∙ b)

never-both : (o : Ordering) → is_lt o ≡ true → is_gt o ≡ false
never-both Less h = refl
never-both Equal h = refl
never-both Greater h = cc h

-- what is below is not above
pub not-above : (u v : Version) → is_below u v ≡ true → is_below v u ≡ false
unfolding is_below
not-above u v h = below-turned v u ∙ never-both (precedence u v) h

not-itself : (v : Version) → is_below v v ≡ false
not-itself v = elim (cases_Bool (is_below v v)) [
  | inl is ↦ absurd (true≢false (sym is ∙ not-above v v is))
  | inr other ↦ other
]

-- below one that is not above
below-through : (a b j : Version) → is_below a b ≡ true → is_below j b ≡ false → is_below a j ≡ true
below-through a b j h k = elim (cases_Bool (is_below a j)) [
  | inl is ↦ is
  | inr other ↦ absurd (true≢false (sym h ∙ rise b j a k other))
]

-- ---- versions that ascend

module _ (vs : List Version)
    (next : (k : ℕ) (d : Version) → k + 1 < length vs → is_below (get_or vs (k + 1) d) (get_or vs k d) ≡ false) where
  by-steps : (n i : ℕ) (d : Version) → i + n < length vs → is_below (get_or vs (i + n) d) (get_or vs i d) ≡ false
  by-steps zero i d lt = subst (λ k. is_below (get_or vs k d) (get_or vs i d) ≡ false) (omega arith)
      (not-itself (get_or vs i d))
  by-steps (suc n) i d lt =
      let e : i + n + 1 ≡ i + suc n = omega arith in
      subst (λ k. is_below (get_or vs k d) (get_or vs i d) ≡ false) e
      (rise (get_or vs i d) (get_or vs (i + n) d) (get_or vs (i + n + 1) d) (by-steps n i d (omega arith))
      (next (i + n) d (omega arith)))

  pub ascends-from : Ascends vs
  ascends-from i j d le lt =
      let e : i + (j - i) ≡ j = omega arith in
      subst (λ k. is_below (get_or vs k d) (get_or vs i d) ≡ false) e (by-steps (j - i) i d (omega arith))

-- ---- where an interval begins and ends among them

module _ (vs : List Version) (up : Ascends vs) where
  -- those below it come first
  pub below-first : (low : Version) (i j : ℕ) (d : Version) → i ≤ j → j < length vs
      → is_below (get_or vs j d) low ≡ true → is_below (get_or vs i d) low ≡ true
  below-first low i j d le lt h = elim (cases_Bool (is_below (get_or vs i d) low)) [
    | inl is ↦ is
    | inr other ↦ absurd (true≢false (sym h ∙ rise low (get_or vs i d) (get_or vs j d) other (up i j d le lt)))
  ]

  -- those that are above it come last
  pub above-last : (high : Version) (i j : ℕ) (d : Version) → i ≤ j → j < length vs
      → is_below high (get_or vs i d) ≡ true → is_below high (get_or vs j d) ≡ true
  above-last high i j d le lt h = below-through high (get_or vs i d) (get_or vs j d) h (up i j d le lt)

-- ---- which versions are covered

-- an interval more
pub covered-more : (vs : List Version) (is : List Interval) (i : Interval)
    → covered vs (is ++ i ∷ []) ≡ map (λ v. list_any (covers v) is || covers v i) vs
covered-more [] is i = refl
covered-more (v ∷ vs) is i = rw (any-more is, covered-more vs is i) refl
  where
    any-more : (is : List Interval) → list_any (covers v) (is ++ i ∷ []) ≡ (list_any (covers v) is || covers v i)
    any-more [] = or_none (covers v i)
    any-more (j ∷ is) = ap (λ b. covers v j || b) (any-more is)
        ∙ sym (or-assoc (covers v j) (list_any (covers v) is) (covers v i))
      where
        or-assoc : (a b c : Bool) → ((a || b) || c) ≡ (a || (b || c))
        or-assoc true b c = refl
        or-assoc false b c = refl

or-true : (b : Bool) → (b || true) ≡ true
or-true true = refl
or-true false = refl

module _ (f c : Version → Bool) where
  -- where the rest is not covered
  left : (vs : List Version) → ((k : ℕ) (d : Version) → k < length vs → c (get_or vs k d) ≡ false)
      → map f vs ≡ map (λ v. f v || c v) vs
  left [] none = refl
  left (v ∷ vs) none = rw (none 0 v (omega arith), or_none (f v), left vs (λ k d lt. none (suc k) d (omega arith))) refl

  filled : (vs : List Version) (n : ℕ) → n ≤ length vs → ((k : ℕ) (d : Version) → k < n → c (get_or vs k d) ≡ true)
      → ((k : ℕ) (d : Version) → n ≤ k → k < length vs → c (get_or vs k d) ≡ false)
      → replicate n true ++ drop n (map f vs) ≡ map (λ v. f v || c v) vs
  filled vs zero le some none = left vs (λ k d lt. none k d (omega arith) lt)
  filled [] (suc n) le some none = absurd (omega arith)
  filled (v ∷ vs) (suc n) le some none =
      rw (
        some 0 v (omega arith),
        or-true (f v),
        filled vs n (omega arith) (λ k d lt. some (suc k) d (omega arith))
            (λ k d a b. none (suc k) d (omega arith) (omega arith)),
      ) refl

  -- flags that are set where the versions are covered
  painted : (vs : List Version) (first n : ℕ) → first + n ≤ length vs
      → ((k : ℕ) (d : Version) → k < first → c (get_or vs k d) ≡ false)
      → ((k : ℕ) (d : Version) → first ≤ k → k < first + n → c (get_or vs k d) ≡ true)
      → ((k : ℕ) (d : Version) → first + n ≤ k → k < length vs → c (get_or vs k d) ≡ false)
      → take first (map f vs) ++ (replicate n true ++ drop n (drop first (map f vs))) ≡ map (λ v. f v || c v) vs
  painted vs zero n le before some none =
      filled vs n (omega arith) (λ k d lt. some k d (omega arith) (omega arith)) (λ k d a b. none k d (omega arith) b)
  painted [] (suc first) n le before some none = absurd (omega arith)
  painted (v ∷ vs) (suc first) n le before some none =
      rw (
        before 0 v (omega arith),
        or_none (f v),
        painted vs first n (omega arith) (λ k d lt. before (suc k) d (omega arith))
            (λ k d a b. some (suc k) d (omega arith) (omega arith))
            (λ k d a b. none (suc k) d (omega arith) (omega arith)),
      ) refl

-- ---- what a search by halves returns

module _ (vs : List Version) (up : Ascends vs) (i : Interval) where
  -- those that an interval reaches come first
  pub reached-parted : IsPartitionedBy (λ v. not (is_below i.high v)) vs
  reached-parted j k d le lt h = elim (cases_Bool (is_below i.high (get_or vs j d))) [
    | inl above ↦ absurd (true≢false
        (sym (above-last vs up i.high j k d le lt above) ∙ not-true (is_below i.high (get_or vs k d)) h))
    | inr other ↦ not_from_false _ other
  ]

  pub reaches : (n : ℕ) → n ≤ length vs
      → IsPartitionPoint (λ v. not (is_below i.high v) ≡ true) (λ v. not (is_below i.high v) ≡ false) vs n
      → Reaches i vs n
  reaches n le point = (le, ((λ k d a b. not-true _ (point.0 k d a b)), (λ k d a b. not-false _ (point.1 k d a b))))

  -- where the first few tell it
  pub reaches-few : (near n : ℕ) → near ≤ length vs → n < near
      → IsPartitionPoint (λ v. not (is_below i.high v) ≡ true) (λ v. not (is_below i.high v) ≡ false) (take near vs) n
      → Reaches i vs n
  reaches-few near n le lt point =
      let long : length (take near vs) ≡ near = length-take-le near vs le in (
        omega arith,
        (
          (λ k d a b. subst (λ v. is_below i.high v ≡ false) (get_or-take near vs k d (omega arith))
              (not-true _ (point.0 k d a b))),
          (λ k d a b.
              let at : is_below i.high (get_or vs n d) ≡ true =
              subst (λ v. is_below i.high v ≡ true) (get_or-take near vs n d lt)
              (not-false _ (point.1 n d (omega arith) (subst (λ l. n < l) (sym long) lt))) in
              above-last vs up i.high n k d a b at),
        ),
      )

pub ascends-take : (vs : List Version) (n : ℕ) → n ≤ length vs → Ascends vs → Ascends (take n vs)
ascends-take vs n le up i j d a b =
    let long : length (take n vs) ≡ n = length-take-le n vs le in
    let lt : j < n = subst (λ l. j < l) long b in
    rw (get_or-take n vs j d lt, get_or-take n vs i d (omega arith)) (up i j d a (omega arith))

-- ---- slices of lists

pub length-drop : {X : Type 0} (m : ℕ) (xs : List X) → m ≤ length xs → length (drop m xs) + m ≡ length xs
length-drop zero xs le = omega arith
length-drop (suc m) [] le = absurd (omega arith)
length-drop (suc m) (x ∷ xs) le = let rest = length-drop m xs (omega arith) in omega (arith, rest)

-- the rest of a list, as a slice has it
pub rest-all : {X : Type 0} (m : ℕ) (xs : List X) → m ≤ length xs → take (length xs - m) (drop m xs) ≡ drop m xs
rest-all m xs le =
    let e : length xs - m ≡ length (drop m xs) = omega (arith, length-drop m xs le) in
    ap (λ n. take n (drop m xs)) e ∙ take-length (drop m xs)

pub none-covered : (vs : List Version) (n : ℕ) → n ≡ length vs → replicate n false ≡ covered vs []
none-covered [] n e = rw e refl
none-covered (v ∷ vs) zero e = absurd (omega arith)
none-covered (v ∷ vs) (suc n) e = ap (λ l. false ∷ l) (none-covered vs n (omega arith))

-- flags that are set in a slice of a list
pub set-flags : (flags new : List Bool) (first n k : ℕ) → k ≡ n → first + n ≤ length flags
    → new ≡ replicate (length (take k (drop first flags))) true
    → take first flags ++ (new ++ drop k (drop first flags)) ≡ take first flags
    ++ (replicate n true ++ drop n (drop first flags))
set-flags flags new first n k e le h =
    let all = length-drop first flags (omega arith) in
    let long : length (take k (drop first flags)) ≡ k = length-take-le k (drop first flags) (omega (arith, all)) in
    ap (λ l. take first flags ++ (l ++ drop k (drop first flags))) (h ∙ ap (λ m. replicate m true) long)
    ∙ ap (λ m. take first flags ++ (replicate m true ++ drop m (drop first flags))) e

-- ---- what one interval covers

-- the flags of one more interval: true for the versions from the first that is not below it, as many as it reaches
pub covered-once : (vs : List Version) (is : List Interval) (i : Interval) (first n : ℕ) → first ≤ length vs
    → IsPartitionPoint (λ v. is_below v i.low ≡ true) (λ v. is_below v i.low ≡ false) vs first
    → Reaches i (drop first vs) n
    → take first (covered vs is) ++ (replicate n true ++ drop n (drop first (covered vs is)))
    ≡ covered vs (is ++ i ∷ [])
covered-once vs is i first n le begun reach =
    let long : length (drop first vs) + first ≡ length vs = length-drop first vs le in
    painted (λ v. list_any (covers v) is) (λ v. covers v i) vs first n (omega (arith, reach.0))
    (λ k d lt. below-low (get_or vs k d) (begun.0 k d (omega arith) lt))
    (λ k d a b. inside (get_or vs k d) (begun.1 k d a (omega (arith, reach.0)))
    (at k d a (reach.1.0 (k - first) d (omega arith) (omega arith))))
    (λ k d a b. beyond (get_or vs k d)
    (at-true k d (omega arith) (reach.1.1 (k - first) d (omega arith) (omega arith))))
    ∙ sym (covered-more vs is i)
  where
    at : (k : ℕ) (d : Version) → first ≤ k → is_below i.high (get_or (drop first vs) (k - first) d) ≡ false
        → is_below i.high (get_or vs k d) ≡ false
    at k d a h =
        let e : first + (k - first) ≡ k = omega arith in
        subst (λ m. is_below i.high (get_or vs m d) ≡ false) e
        (subst (λ v. is_below i.high v ≡ false) (get_or-drop first vs (k - first) d) h)

    at-true : (k : ℕ) (d : Version) → first ≤ k → is_below i.high (get_or (drop first vs) (k - first) d) ≡ true
        → is_below i.high (get_or vs k d) ≡ true
    at-true k d a h =
        let e : first + (k - first) ≡ k = omega arith in
        subst (λ m. is_below i.high (get_or vs m d) ≡ true) e
        (subst (λ v. is_below i.high v ≡ true) (get_or-drop first vs (k - first) d) h)

    below-low : (v : Version) → is_below v i.low ≡ true → covers v i ≡ false
    below-low v h = rw h refl

    inside : (v : Version) → is_below v i.low ≡ false → is_below i.high v ≡ false → covers v i ≡ true
    inside v a b = rw (a, b) refl

    beyond : (v : Version) → is_below i.high v ≡ true → covers v i ≡ false
    beyond v h = rw h (and_none (not (is_below v i.low)))

-- a version that is below the one before it
descends : (vs : List Version)
    → ((k : ℕ) × (k + 1 < length vs) × ((d : Version) → false ≡ not (is_below (get_or vs (k + 1) d) (get_or vs k d))))
    → ¬ Ascends vs
descends [] pair up = omega (arith, pair.1)
descends (v ∷ vs) pair up =
    let e : is_below (get_or (v ∷ vs) (pair.0 + 1) v) (get_or (v ∷ vs) pair.0 v) ≡ false =
    up pair.0 (pair.0 + 1) v (omega arith) pair.1 in
    true≢false (sym (not-false _ (sym (pair.2 v))) ∙ e)

pub ascends-by : (vs : List Version) (r : Bool) → IsAllAdjacentAnswer (λ x y b. b ≡ not (is_below y x)) vs r
    → IsTrue r ↔ Ascends vs
ascends-by vs true all = (λ is. ascends-from vs (λ k d lt. not-true _ (sym (all k d lt))), λ up. refl)
ascends-by vs false pair = (λ is. cc is, λ up. absurd (descends vs pair up))

pub any-of_each : {X Y : Type 0} (p : Y → Bool) (f : X → Y) (xs : List X)
    → list_any (λ x. p (f x)) xs ≡ list_any p (map f xs)
any-of_each p f [] = refl
any-of_each p f (x ∷ xs) = ap (λ b. p (f x) || b) (any-of_each p f xs)
