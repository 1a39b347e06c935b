-- The order of times is that of their stamps as numbers.
use Rattle.std.proofs.Common.{◌≡◌, ◌<◌, ℕ, List, [], ◌∷◌, length, Option, Some, None, refl, sym, ap, ◌∙◌, arith}
use Rattle.std.specs.Char.{is_ascii_digit}
use Rattle.std.specs.Cmp.Lexicographic.{slice_cmp}
use Rattle.std.specs.List.{list_all}
use Rattle.std.specs.Ordering.{nat_cmp, ordering_then}
use Rattle.std.specs.Prelude.{option_map}
use Rattle.std.specs.Str.Parse.{digits_value}
use Rattle.std.specs.declared.cmp.Ordering.{Ordering}
use Rattle.modver.specs.Class.{class_from, class_of, stamp_of}
use Rattle.modver.specs.Parts.{identifiers_of}
use Rattle.modver.specs.Rank.{number_of_stamp, rank_cmp, rank_of, time_cmp, time_of}
use Rattle.modver.specs.Precedence.{precedence}
use Rattle.modver.specs.SemanticVersion.{SemanticVersion}
use Rattle.modver.specs.Time.{time_of_stamp}
use Rattle.modver.specs.declared.version.Class.TheVariants as class
use Rattle.modver.proofs.DotParts.{dots-shape}
use Rattle.modver.proofs.Numerals.{same_length}
use Rattle.modver.proofs.Ranks.{IsDigits, stamp-digits}
use Rattle.modver.proofs.DotParts.{no-stamp}

-- a list of 14
pub record Fourteen (s : List ℕ) : Type 0 where
  pub a : ℕ
  pub b : ℕ
  pub c : ℕ
  pub d : ℕ
  pub e : ℕ
  pub f : ℕ
  pub g : ℕ
  pub h : ℕ
  pub i : ℕ
  pub j : ℕ
  pub k : ℕ
  pub l : ℕ
  pub m : ℕ
  pub n : ℕ
  pub same : s ≡ a ∷ b ∷ c ∷ d ∷ e ∷ f ∷ g ∷ h ∷ i ∷ j ∷ k ∷ l ∷ m ∷ n ∷ []

-- a list of length 14 is its 14 items
pub fourteen : (s : List ℕ) → length s ≡ 14 → Fourteen s
fourteen [] size = absurd (omega arith)
fourteen (a ∷ []) size = absurd (omega arith)
fourteen (a ∷ b ∷ []) size = absurd (omega arith)
fourteen (a ∷ b ∷ c ∷ []) size = absurd (omega arith)
fourteen (a ∷ b ∷ c ∷ d ∷ []) size = absurd (omega arith)
fourteen (a ∷ b ∷ c ∷ d ∷ e ∷ []) size = absurd (omega arith)
fourteen (a ∷ b ∷ c ∷ d ∷ e ∷ f ∷ []) size = absurd (omega arith)
fourteen (a ∷ b ∷ c ∷ d ∷ e ∷ f ∷ g ∷ []) size = absurd (omega arith)
fourteen (a ∷ b ∷ c ∷ d ∷ e ∷ f ∷ g ∷ h ∷ []) size = absurd (omega arith)
fourteen (a ∷ b ∷ c ∷ d ∷ e ∷ f ∷ g ∷ h ∷ i ∷ []) size = absurd (omega arith)
fourteen (a ∷ b ∷ c ∷ d ∷ e ∷ f ∷ g ∷ h ∷ i ∷ j ∷ []) size = absurd (omega arith)
fourteen (a ∷ b ∷ c ∷ d ∷ e ∷ f ∷ g ∷ h ∷ i ∷ j ∷ k ∷ []) size = absurd (omega arith)
fourteen (a ∷ b ∷ c ∷ d ∷ e ∷ f ∷ g ∷ h ∷ i ∷ j ∷ k ∷ l ∷ []) size = absurd (omega arith)
fourteen (a ∷ b ∷ c ∷ d ∷ e ∷ f ∷ g ∷ h ∷ i ∷ j ∷ k ∷ l ∷ m ∷ []) size = absurd (omega arith)
fourteen (a ∷ b ∷ c ∷ d ∷ e ∷ f ∷ g ∷ h ∷ i ∷ j ∷ k ∷ l ∷ m ∷ n ∷ []) size =
    record {
      a = a;
      b = b;
      c = c;
      d = d;
      e = e;
      f = f;
      g = g;
      h = h;
      i = i;
      j = j;
      k = k;
      l = l;
      m = m;
      n = n;
      same =
          refl;
    }
fourteen (a ∷ b ∷ c ∷ d ∷ e ∷ f ∷ g ∷ h ∷ i ∷ j ∷ k ∷ l ∷ m ∷ n ∷ o ∷ rest) size = absurd (omega arith)

order-fourteen : (a1 b1 c1 d1 e1 f1 g1 h1 i1 j1 k1 l1 m1 n1 : ℕ) (a2 b2 c2 d2 e2 f2 g2 h2 i2 j2 k2 l2 m2 n2 : ℕ)
    → slice_cmp nat_cmp (time_of_stamp (a1 ∷ b1 ∷ c1 ∷ d1 ∷ e1 ∷ f1 ∷ g1 ∷ h1 ∷ i1 ∷ j1 ∷ k1 ∷ l1 ∷ m1 ∷ n1 ∷ []))
    (time_of_stamp (a2 ∷ b2 ∷ c2 ∷ d2 ∷ e2 ∷ f2 ∷ g2 ∷ h2 ∷ i2 ∷ j2 ∷ k2 ∷ l2 ∷ m2 ∷ n2 ∷ []))
    ≡ slice_cmp nat_cmp (a1 ∷ b1 ∷ c1 ∷ d1 ∷ e1 ∷ f1 ∷ g1 ∷ h1 ∷ i1 ∷ j1 ∷ k1 ∷ l1 ∷ m1 ∷ n1 ∷ [])
    (a2 ∷ b2 ∷ c2 ∷ d2 ∷ e2 ∷ f2 ∷ g2 ∷ h2 ∷ i2 ∷ j2 ∷ k2 ∷ l2 ∷ m2 ∷ n2 ∷ [])
order-fourteen a1 b1 c1 d1 e1 f1 g1 h1 i1 j1 k1 l1 m1 n1 a2 b2 c2 d2 e2 f2 g2 h2 i2 j2 k2 l2 m2 n2 = refl

time-order : (x y : List ℕ) → length x ≡ 14 → length y ≡ 14
    → slice_cmp nat_cmp (time_of_stamp x) (time_of_stamp y) ≡ slice_cmp nat_cmp x y
time-order x y p q =
    let f = fourteen x p in
    let g = fourteen y q in
    ap (λ (s : List ℕ). slice_cmp nat_cmp (time_of_stamp s) (time_of_stamp y)) f.same
    ∙ ap (λ (s : List ℕ). slice_cmp nat_cmp
    (time_of_stamp (f.a ∷ f.b ∷ f.c ∷ f.d ∷ f.e ∷ f.f ∷ f.g ∷ f.h ∷ f.i ∷ f.j ∷ f.k ∷ f.l ∷ f.m ∷ f.n ∷ []))
    (time_of_stamp s)) g.same
    ∙ order-fourteen f.a f.b f.c f.d f.e f.f f.g f.h f.i f.j f.k f.l f.m f.n g.a g.b g.c g.d g.e g.f g.g g.h g.i g.j g.k
    g.l g.m g.n
    ∙ sym (ap (λ (s : List ℕ). slice_cmp nat_cmp s y) f.same
    ∙ ap (λ (s : List ℕ). slice_cmp nat_cmp
    (f.a ∷ f.b ∷ f.c ∷ f.d ∷ f.e ∷ f.f ∷ f.g ∷ f.h ∷ f.i ∷ f.j ∷ f.k ∷ f.l ∷ f.m ∷ f.n ∷ []) s) g.same)

pub time-number : (x y : List ℕ) → (length x ≡ 14) × (list_all is_ascii_digit x ≡ Rattle.std.proofs.Common.true)
    → (length y ≡ 14) × (list_all is_ascii_digit y ≡ Rattle.std.proofs.Common.true)
    → slice_cmp nat_cmp (time_of_stamp x) (time_of_stamp y) ≡ nat_cmp (digits_value 10 x) (digits_value 10 y)
time-number x y p q = time-order x y p.0 q.0 ∙ sym (same_length x y p.1 q.1 (p.0 ∙ sym q.0))

-- ---- rank

-- comparing the times of two stamps gives the order that comparing the stamps as numbers gives, after the classes
ranked : (xs ys : List (List ℕ)) (s t : Option (List ℕ)) (r : Ordering) → IsDigits s → IsDigits t → (xs ≡ [] → s ≡ None)
    → (ys ≡ [] → t ≡ None)
    → ordering_then (nat_cmp (rank_of (class_from xs s)) (rank_of (class_from ys t)))
    (ordering_then (time_cmp (option_map time_of_stamp s) (option_map time_of_stamp t)) r)
    ≡ ordering_then (nat_cmp (rank_of (class_from xs s)) (rank_of (class_from ys t)))
    (ordering_then (nat_cmp (number_of_stamp s) (number_of_stamp t)) r)
ranked [] [] None None r p q f g = refl
ranked [] [] None (Some y) r p q f g = cc (g refl)
ranked [] [] (Some x) t r p q f g = cc (f refl)
ranked [] (j ∷ ys) s None r p q f g = refl
ranked [] (j ∷ ys) s (Some y) r p q f g = refl
ranked (i ∷ xs) [] None t r p q f g = refl
ranked (i ∷ xs) [] (Some x) t r p q f g = refl
ranked (i ∷ xs) (j ∷ ys) None None r p q f g = refl
ranked (i ∷ xs) (j ∷ ys) None (Some y) r p q f g = refl
ranked (i ∷ xs) (j ∷ ys) (Some x) None r p q f g = refl
ranked (i ∷ xs) (j ∷ ys) (Some x) (Some y) r p q f g = ap (λ (o : Ordering). ordering_then o r) (time-number x y p q)

time_of-class : (ids : List (List ℕ)) (stamp : Option (List ℕ)) → (ids ≡ [] → stamp ≡ None)
    → time_of (class_from ids stamp) ≡ option_map time_of_stamp stamp
time_of-class [] None h = refl
time_of-class [] (Some stamp) h = cc (h refl)
time_of-class (i ∷ rest) None h = refl
time_of-class (i ∷ rest) (Some stamp) h = refl

-- rank by class, then by time, then by precedence
pub rank_by : (u v : SemanticVersion)
    → ordering_then (nat_cmp (rank_of (class_of u)) (rank_of (class_of v)))
    (ordering_then (time_cmp (time_of (class_of u)) (time_of (class_of v))) (precedence u v))
    ≡ rank_cmp u v
rank_by u v =
    rw (
      time_of-class u.identifiers (stamp_of u) (no-stamp u),
      time_of-class v.identifiers (stamp_of v) (no-stamp v),
    )
    (ranked u.identifiers v.identifiers (stamp_of u) (stamp_of v) (precedence u v) (stamp-digits u) (stamp-digits v)
    (no-stamp u) (no-stamp v))

-- ---- class

class-some : (i : List ℕ) (rest : List (List ℕ)) (stamp : Option (List ℕ)) (time : List ℕ)
    → Some time ≡ option_map time_of_stamp stamp
    → class.Pseudo time ≡ class_from (i ∷ rest) stamp
class-some i rest None time e = cc e
class-some i rest (Some stamp) time e = let same : time ≡ time_of_stamp stamp = cc e in
    ap (λ (t : List ℕ). class.Pseudo t) same

class-of_ids : (pre : List ℕ) (ids : List (List ℕ)) (stamp : Option (List ℕ)) (time : List ℕ) → identifiers_of pre ≡ ids
    → 0 < length pre
    → Some time ≡ option_map time_of_stamp stamp → class.Pseudo time ≡ class_from ids stamp
class-of_ids [] ids stamp time same some e = absurd (omega arith)
class-of_ids (b ∷ rest) ids stamp time same some e =
    let s = dots-shape (b ∷ rest) in
    let shape : ids ≡ s.0 ∷ s.1 = sym same ∙ s.2 in
    rw shape (class-some s.0 s.1 stamp time e)

-- a version whose stamp has a time is a pseudo-version
pub class-pseudo : (v : SemanticVersion) (pre time : List ℕ) → identifiers_of pre ≡ v.identifiers → 0 < length pre
    → Some time ≡ option_map time_of_stamp (stamp_of v)
    → class.Pseudo time ≡ class_of v
class-pseudo v pre time ids some e = class-of_ids pre v.identifiers (stamp_of v) time ids some e

pre-from : (ids : List (List ℕ)) (stamp : Option (List ℕ)) (pre : List ℕ) → identifiers_of pre ≡ ids → 0 < length pre
    → None ≡ option_map time_of_stamp stamp
    → class.Pre ≡ class_from ids stamp
pre-from ids stamp [] same some e = absurd (omega arith)
pre-from ids None (b ∷ rest) same some e =
    let s = dots-shape (b ∷ rest) in
    let shape : ids ≡ s.0 ∷ s.1 = sym same ∙ s.2 in
    rw shape refl
pre-from ids (Some stamp) (b ∷ rest) same some e = cc e

-- and one with none is a pre-release
pub class-pre : (v : SemanticVersion) (pre : List ℕ) → identifiers_of pre ≡ v.identifiers → 0 < length pre
    → None ≡ option_map time_of_stamp (stamp_of v)
    → class.Pre ≡ class_of v
class-pre v pre ids some e = pre-from v.identifiers (stamp_of v) pre ids some e
