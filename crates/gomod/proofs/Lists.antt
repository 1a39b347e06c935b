-- Lists that grow at their end.
use Rattle.std.proofs.Common.{◌≡◌, ◌+◌, Bool, true, false, cond, List, [], ◌∷◌, ◌++◌, map, filter, length, refl, ap}
use Rattle.std.proofs.Common.{sym, ◌∙◌, arith, append_assoc, length-append, ◌⊎◌, inl, inr, ⊎_elim}
use Rattle.std.specs.List.{flat_map, AllByRecursion, list_any}
use Rattle.std.proofs.lemmas.Bool.{or_parts, or_from, cases_Bool}
use Rattle.gomod.specs.Reads.{Pointwise}

-- what holds of each element, of two lists joined
pub all-append : {A : Type 0} (P : A → Type 0) (xs ys : List A) → AllByRecursion P xs → AllByRecursion P ys
    → AllByRecursion P (xs ++ ys)
all-append P [] ys h k = k
all-append P (x ∷ xs) ys h k = (h.0, all-append P xs ys h.1 k)

pub all-front : {A : Type 0} (P : A → Type 0) (xs ys : List A) → AllByRecursion P (xs ++ ys) → AllByRecursion P xs
all-front P [] ys h = tt
all-front P (x ∷ xs) ys h = (h.0, all-front P xs ys h.1)

pub all-back : {A : Type 0} (P : A → Type 0) (xs ys : List A) → AllByRecursion P (xs ++ ys) → AllByRecursion P ys
all-back P [] ys h = h
all-back P (x ∷ xs) ys h = all-back P xs ys h.1

pub pointwise-append : {A B : Type 0} (R : A → B → Type 0) (xs : List A) (us : List B) (ys : List A) (vs : List B)
    → Pointwise R xs us → Pointwise R ys vs → Pointwise R (xs ++ ys) (us ++ vs)
pointwise-append R [] [] ys vs h k = k
pointwise-append R [] (u ∷ us) ys vs h k = absurd h
pointwise-append R (x ∷ xs) [] ys vs h k = absurd h
pointwise-append R (x ∷ xs) (u ∷ us) ys vs h k = (h.0, pointwise-append R xs us ys vs h.1 k)

pub map-join : {A B : Type 0} (f : A → B) (xs ys : List A) → map f (xs ++ ys) ≡ map f xs ++ map f ys
map-join f [] ys = refl
map-join f (x ∷ xs) ys = ap (λ l. f x ∷ l) (map-join f xs ys)

pub flat_map-join : {A B : Type 0} (f : A → List B) (xs ys : List A)
    → flat_map f (xs ++ ys) ≡ flat_map f xs ++ flat_map f ys
flat_map-join f [] ys = refl
flat_map-join f (x ∷ xs) ys = ap (λ l. f x ++ l) (flat_map-join f xs ys)
    ∙ sym (append_assoc (f x) (flat_map f xs) (flat_map f ys))

pub cond-append : {A : Type 0} (b : Bool) (x : A) (xs ys : List A)
    → cond b (x ∷ (xs ++ ys)) (xs ++ ys) ≡ cond b (x ∷ xs) xs ++ ys
cond-append true x xs ys = refl
cond-append false x xs ys = refl

pub filter-join : {A : Type 0} (p : A → Bool) (xs ys : List A) → filter p (xs ++ ys) ≡ filter p xs ++ filter p ys
filter-join p [] ys = refl
filter-join p (x ∷ xs) ys = ap (λ l. cond (p x) (x ∷ l) l) (filter-join p xs ys)
    ∙ cond-append (p x) x (filter p xs) (filter p ys)

-- a list is empty, or it has a last element

pub last_of : {A : Type 0} (xs : List A) → (xs ≡ []) ⊎ ((front : List A) × (x : A) × (xs ≡ front ++ x ∷ []))
last_of [] = inl refl
last_of (x ∷ xs) =
    inr (⊎_elim (λ none. ([], x, ap (λ l. x ∷ l) none)) (λ some. (x ∷ some.0, some.1, ap (λ l. x ∷ l) some.2))
    (last_of xs))

-- the last elements of equal lists are equal, and so are the lists before them
pub last_same : {A : Type 0} (xs ys : List A) (x y : A) → xs ++ x ∷ [] ≡ ys ++ y ∷ [] → (xs ≡ ys) × (x ≡ y)
last_same [] [] x y h = (refl, cc)
last_same [] (b ∷ []) x y h = cc
last_same [] (b ∷ c ∷ ys) x y h = cc
last_same (a ∷ []) [] x y h = cc
last_same (a ∷ b ∷ xs) [] x y h = cc
last_same (a ∷ xs) (b ∷ ys) x y h =
    let heads : a ≡ b = cc in
    let tails : xs ++ x ∷ [] ≡ ys ++ y ∷ [] = cc in
    let more = last_same xs ys x y tails in
    ((let e = more.0 in cc), more.1)

pub any-none : {A : Type 0} (p : A → Bool) (xs : List A) → list_any p xs ≡ false → filter p xs ≡ []
any-none p [] h = refl
any-none p (x ∷ xs) h = let halves = or_parts (p x) (list_any p xs) h in let here = halves.0 in
    rw here (any-none p xs halves.1)

pub none-any : {A : Type 0} (p : A → Bool) (xs : List A) → length (filter p xs) ≡ 0 → list_any p xs ≡ false
none-any p [] h = refl
none-any p (x ∷ xs) h =
    ⊎_elim
    (λ yes. absurd (let e = ap (λ b. length (cond b (x ∷ filter p xs) (filter p xs))) (sym yes) in omega (arith, e, h)))
    (λ no. or_from (p x) (list_any p xs) no
    (none-any p xs (ap (λ b. length (cond b (x ∷ filter p xs) (filter p xs))) (sym no) ∙ h)))
    (cases_Bool (p x))

pub empty_list : {A : Type 0} (xs : List A) → length xs ≡ 0 → xs ≡ []
empty_list [] h = refl
empty_list (x ∷ xs) h = absurd (omega (arith, h))

pub length-join : {A : Type 0} (xs ys : List A) → length (xs ++ ys) ≡ length xs + length ys
length-join xs ys = length-append xs ys
