-- What the parameters of the two routes took.
use Rattle.std.proofs.Common.{◌≡◌, ℕ, ◌+◌, ◌-◌, List, [], ◌∷◌, ◌++◌, length, drop, take, true, refl, sym, ap, ◌∙◌}
use Rattle.std.proofs.Common.{arith, ltb, leb, length-append, length-drop, codes}
use Rattle.std.proofs.lemmas.Bool.{lt-ltb, le-leb}
use Rattle.std.proofs.lemmas.List.{drop_at, take_at, drop-drop, take_all}
use Rattle.matchit.specs.Seek.{segment}
use Rattle.matchit.specs.Params.{walk}
use Rattle.wire.specs.Route.{path_route, shelf_route}
use Rattle.wire.proofs.RouteLemmas.{Splits, segment_key}

module _ (target key rest : List ℕ) (splits : Splits target key rest) where
  long : length target ≡ 4 + length key + length rest
  long = omega (arith, ap length splits.whole, length-append key (47 ∷ rest))

  after_k : drop 3 target ≡ key ++ (47 ∷ rest)
  after_k = ap (drop 3) splits.whole

  after_key : drop (3 + (length key + 1)) target ≡ rest
  after_key =
      sym (drop-drop (length key + 1) 3 target)
      ∙ ap (λ t. drop (length key + 1) t) after_k
      ∙ sym (drop-drop 1 (length key) (key ++ (47 ∷ rest)))
      ∙ ap (λ t. drop 1 t) (drop_at key (47 ∷ rest) (length key) refl)

  seg : segment (drop 3 target) ≡ key ++ (47 ∷ [])
  seg = ap segment after_k ∙ segment_key key rest splits.no_slash

  stop : 3 + length (segment (drop 3 target)) - 1 ≡ 3 + length key
  stop = omega (arith, ap length seg, length-append key (47 ∷ []))

  taken : take (3 + length key - 3) (drop 3 target) ≡ key
  taken =
      let n : 3 + length key - 3 ≡ length key = omega arith in
      (λ i. take (n i) (after_k i)) ∙ take_at key (47 ∷ rest) (length key) refl

  -- the target from an index in its rest on is the rest without the bytes before that index
  left : (index n : ℕ) → index ≡ 3 + (length key + 1) + n
      → take (length target - index) (drop index target) ≡ drop n rest
  left index n at =
      let after = ap (λ m. drop m target) at ∙ sym (drop-drop n (3 + (length key + 1)) target)
      ∙ ap (λ t. drop n t) after_key in
      ap (λ t. take (length target - index) t) after
      ∙ take_all (length target - index) (drop n rest) (omega (arith, long, length-drop n rest))

  -- the route of paths takes the key and the rest of a target
  pub walk_path : walk path_route.pattern path_route.text target path_route.names 0 0 ≡ (codes "key", key)
      ∷ (codes "rest", rest) ∷ []
  walk_path =
      let l0 : ltb 0 (length target) ≡ true = lt-ltb 0 _ (omega (arith, long)) in
      let l1 : ltb 1 (length target) ≡ true = lt-ltb 1 _ (omega (arith, long)) in
      let l2 : ltb 2 (length target) ≡ true = lt-ltb 2 _ (omega (arith, long)) in
      let l3 : ltb (3 + length key) (length target) ≡ true = lt-ltb _ _ (omega (arith, long, splits.some_rest)) in
      let e1 : leb 3 (3 + length key) ≡ true = le-leb _ _ (omega arith) in
      let e2 : leb (3 + length key) (length target) ≡ true = le-leb _ _ (omega (arith, long)) in
      let e3 : leb (3 + length key + 1) (length target) ≡ true = le-leb _ _ (omega (arith, long)) in
      let e4 : leb (length target) (length target) ≡ true = le-leb _ _ (omega arith) in
      let all = left (3 + length key + 1) 0 (omega arith) in
      rw (l0, l1, l2, stop, l3, e1, e2, e3, e4) (λ i. (codes "key", taken i) ∷ (codes "rest", all i) ∷ [])

  -- the route of the shelf takes the key, and the rest without its `-/`
  pub walk_shelf : (behind : List ℕ) → rest ≡ codes "-/" ++ behind
      → walk shelf_route.pattern shelf_route.text target shelf_route.names 0 0 ≡ (codes "key", key)
      ∷ (codes "rest", behind) ∷ []
  walk_shelf behind is =
      let longer : length rest ≡ 2 + length behind = omega (arith, ap length is) in
      let l0 : ltb 0 (length target) ≡ true = lt-ltb 0 _ (omega (arith, long)) in
      let l1 : ltb 1 (length target) ≡ true = lt-ltb 1 _ (omega (arith, long)) in
      let l2 : ltb 2 (length target) ≡ true = lt-ltb 2 _ (omega (arith, long)) in
      let l3 : ltb (3 + length key) (length target) ≡ true = lt-ltb _ _ (omega (arith, long, longer)) in
      let l4 : ltb (3 + length key + 1) (length target) ≡ true = lt-ltb _ _ (omega (arith, long, longer)) in
      let l5 : ltb (3 + length key + 1 + 1) (length target) ≡ true = lt-ltb _ _ (omega (arith, long, longer)) in
      let e1 : leb 3 (3 + length key) ≡ true = le-leb _ _ (omega arith) in
      let e2 : leb (3 + length key) (length target) ≡ true = le-leb _ _ (omega (arith, long)) in
      let e3 : leb (3 + length key + 1 + 1 + 1) (length target) ≡ true = le-leb _ _ (omega (arith, long, longer)) in
      let e4 : leb (length target) (length target) ≡ true = le-leb _ _ (omega arith) in
      let all = left (3 + length key + 1 + 1 + 1) 2 (omega arith) ∙ ap (drop 2) is in
      rw (l0, l1, l2, stop, l3, l4, l5, e1, e2, e3, e4) (λ i. (codes "key", taken i) ∷ (codes "rest", all i) ∷ [])
