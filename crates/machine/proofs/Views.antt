-- What two worlds that agree on the shelves that a shelf sees show to it.
use Rattle.std.proofs.Common.{◌≡◌, ℕ, List, [], ◌∷◌, Bool, true, false, cond, refl, ◌∙◌, sym, ap, subst, Option, None}
use Rattle.std.specs.Prelude.{bytes_eq, ◌&&◌, ◌||◌}
use Rattle.std.specs.Option.{option_or}
use Rattle.std.specs.FinMap as map
use Rattle.std.proofs.lemmas.Bool.{and_parts, or_right}
use Rattle.world.specs.declared.entry.Place.{Place}
use Rattle.world.specs.World.{World, chain, place, seen_at, first_on, view, without_zip, heading, count}
use Rattle.machine.specs.Isolation.{is_among, sees}
use Rattle.world.proofs.Orders.{places_total, places_exact, test_alike, text_self, text_same}
pub use Rattle.world.proofs.Sees.{sees_itself, sees_common, only_common, sees_through}

-- ---- what worlds that agree show

-- the worlds have equal entries at each place of one shelf
abbrev pub SameOn : World → World → List ℕ → Type 0
SameOn w x t = (p v : List ℕ) → map.get w.entries (place t p v) ≡ map.get x.entries (place t p v)

-- the worlds have equal entries on each shelf that s sees
abbrev pub SameSeen : World → World → List ℕ → Type 0
SameSeen w x s = (t : List ℕ) → sees w s t ≡ true → SameOn w x t

first_on_same : (w x : World) (ss : List (List ℕ)) (p v : List ℕ) → ((t : List ℕ) → is_among ss t ≡ true → SameOn w x t)
    → first_on w ss p v ≡ first_on x ss p v
first_on_same w x [] p v same = refl
first_on_same w x (s ∷ ss) p v same =
    ap (λ o. option_or (seen_at o s) (first_on w ss p v)) (same s (ap (λ b. b || is_among ss s) (text_self s)) p v)
    ∙ ap (λ o. option_or (seen_at (map.get x.entries (place s p v)) s) o)
    (first_on_same w x ss p v (λ t h. same t (or_right (bytes_eq t s) _ h)))

pub view_same : (w x : World) (s p v : List ℕ) → chain w s ≡ chain x s → SameSeen w x s → view w s p v ≡ view x s p v
view_same w x s p v chains same = first_on_same w x (chain w s) p v same ∙ ap (λ ss. first_on x ss p v) chains

pub heading_same : (w x : World) (s p v : List ℕ) → chain w s ≡ chain x s → SameSeen w x s
    → heading w s p v ≡ heading x s p v
heading_same w x s p v chains same = ap without_zip (view_same w x s p v chains same)

pub guarded : {A : Type 0} (b : Bool) (x y : Option A) → (b ≡ true → x ≡ y) → cond b x None ≡ cond b y None
guarded true x y same = same refl
guarded false x y same = refl

-- worlds with equal entries on a shelf have equally many versions of a path there
pub count_same : (w x : World) (s p : List ℕ) → SameOn w x s → count w s p ≡ count x s p
count_same w x s p same =
    let test : Place → Bool = λ q. bytes_eq q.shelf s && bytes_eq q.path p in
    ap map.len (map.same_map places_total places_exact _ _ (λ q.
    map.get-retain_keys w.entries test q (test_alike test q)
    ∙ guarded (test q) (map.get w.entries q) (map.get x.entries q) (λ e.
    let both = and_parts (bytes_eq q.shelf s) (bytes_eq q.path p) e in
    let here : place s p q.version ≡ q = λ i.
    record {
      shelf = sym (text_same q.shelf s both.0) i;
      path = sym (text_same q.path p both.1) i;
      version =
          q.version;
    } in
    subst (λ r. map.get w.entries r ≡ map.get x.entries r) here (same p q.version))
    ∙ sym (map.get-retain_keys x.entries test q (test_alike test q))))
