-- Keys of rank, and the laws of both keys.
use Rattle.std.proofs.Common.{◌≡◌, ◌++◌, ℕ, List, [], ◌∷◌, Option, Some, None, Bool, true, false, if◌then◌else◌, nat_le}
use Rattle.std.proofs.Common.{nat_lt, refl, sym, ap, ◌∙◌, arith}
use Rattle.std.proofs.lemmas.Bool.Decides.{nat_tests}
use Rattle.std.proofs.lemmas.Cmp.{nat_list_cmp_total, tied_itself}
use Rattle.std.specs.Option.{unwrap_or}
use Rattle.std.specs.Ordering.{nat_cmp, ordering_then}
use Rattle.std.specs.declared.cmp.Ordering.{Ordering}
use Rattle.std.specs.declared.cmp.Ordering.TheVariants.{Equal}
use Rattle.modpath.specs.Path.{suffix_of}
use Rattle.modpath.specs.declared.major.Suffix.TheVariants as suffix
use Rattle.modver.specs.Class.{class_from, stamp_of}
use Rattle.modver.specs.Fits.{fits}
use Rattle.modver.specs.KeyLaws.{KeysAreOneToOneAtAPath, OrderKeyIsPrecedence, RankKeyIsRank, bytes_cmp, unmarked}
use Rattle.modver.specs.Keys.{order_key_of, rank_key_of}
use Rattle.modver.specs.Precedence.{precedence}
use Rattle.modver.specs.Rank.{class_rank, number_of_stamp, rank_cmp, rank_of, stamp_number}
use Rattle.modver.specs.SemanticVersion.{IsVersion, SemanticVersion}
use Rattle.modver.proofs.Conditions.{then_second}
use Rattle.modver.proofs.DotParts.{no-stamp}
use Rattle.modver.proofs.KeyOrders.{first-lists, order-key}
use Rattle.modver.proofs.Numerals.{same_length}
use Rattle.modver.proofs.Ranks.{IsDigits, stamp-digits}
use Rattle.modver.proofs.SemVerOrders.{bytes-lower, lower-bytes}
use Rattle.modver.proofs.StrictOrders.{precedence-tied, turned, turned-back}

-- ---- rank

-- keys that begin with a class compare by rank of class, then by stamp as a number, and then by what follows the class
ranked : (xs ys : List (List ℕ)) (s t : Option (List ℕ)) (a b : List ℕ) → IsDigits s → IsDigits t → (xs ≡ [] → s ≡ None)
    → (ys ≡ [] → t ≡ None)
    → bytes_cmp (rank_of (class_from xs s) ∷ (unwrap_or s [] ++ a)) (rank_of (class_from ys t) ∷ (unwrap_or t [] ++ b))
    ≡ ordering_then (nat_cmp (rank_of (class_from xs s)) (rank_of (class_from ys t)))
    (ordering_then (nat_cmp (number_of_stamp s) (number_of_stamp t)) (bytes_cmp a b))
ranked [] [] None None a b p q f g = refl
ranked [] [] None (Some y) a b p q f g = cc (g refl)
ranked [] [] (Some x) t a b p q f g = cc (f refl)
ranked [] (j ∷ ys) s None a b p q f g = refl
ranked [] (j ∷ ys) s (Some y) a b p q f g = refl
ranked (i ∷ xs) [] None t a b p q f g = refl
ranked (i ∷ xs) [] (Some x) t a b p q f g = refl
ranked (i ∷ xs) (j ∷ ys) None None a b p q f g = refl
ranked (i ∷ xs) (j ∷ ys) None (Some y) a b p q f g = refl
ranked (i ∷ xs) (j ∷ ys) (Some x) None a b p q f g = refl
ranked (i ∷ xs) (j ∷ ys) (Some x) (Some y) a b p q f g =
    first-lists x y a b (p.0 ∙ sym q.0)
    ∙ ap (λ (o : Ordering). ordering_then o (bytes_cmp a b)) (sym (same_length x y p.1 q.1 (p.0 ∙ sym q.0)))

rank-key : (u v : SemanticVersion) → IsVersion u → IsVersion v
    → bytes_cmp (rank_key_of u) (rank_key_of v) ≡ rank_cmp u v
unfolding rank_key_of
rank-key u v p q =
    ranked u.identifiers v.identifiers (stamp_of u) (stamp_of v) (order_key_of u) (order_key_of v) (stamp-digits u)
    (stamp-digits v) (no-stamp u) (no-stamp v)
    ∙ ap (λ (o : Ordering). ordering_then (nat_cmp (class_rank u) (class_rank v))
    (ordering_then (nat_cmp (stamp_number u) (stamp_number v)) o)) (order-key u v p q)

-- ---- equal keys

-- equal keys tie
tied : (xs ys : List ℕ) (o : Ordering) → bytes_cmp xs ys ≡ o → xs ≡ ys → o ≡ Equal
tied xs ys o h e = sym h ∙ ap (bytes_cmp xs) (sym e) ∙ tied_itself nat_list_cmp_total xs

-- a version with the mark that lets it fit a path without suffix
abbrev fitting : SemanticVersion → SemanticVersion
fitting v = record {
  major = v.major;
  minor = v.minor;
  patch = v.patch;
  identifiers = v.identifiers;
  marked =
      nat_le 2 v.major;
}

mark-fits : (m : Bool) (n : ℕ) → m ≡ nat_le 2 n → (if m then nat_le 2 n else nat_lt n 2) ≡ true
mark-fits true n h = sym h
mark-fits false n h = grind (arith, nat_tests)

fitting-fits : (v : SemanticVersion) → IsVersion v → IsVersion (fitting v) × (fits suffix.None (fitting v) ≡ true)
fitting-fits v p = (
  record { major = p.major; minor = p.minor; patch = p.patch; identifiers = p.identifiers },
  mark-fits (nat_le 2 v.major) v.major refl,
)

-- versions that tie are the same but for the mark
same-unmarked : (u v : SemanticVersion) → IsVersion u → IsVersion v → precedence u v ≡ Equal → unmarked u ≡ unmarked v
same-unmarked u v p q e =
    ap unmarked (precedence-tied suffix.None (fitting u) (fitting v) (fitting-fits u p) (fitting-fits v q) e)

rank-unmarked : (u v : SemanticVersion) → IsVersion u → IsVersion v → rank_cmp u v ≡ Equal → unmarked u ≡ unmarked v
rank-unmarked u v p q e =
    same-unmarked u v p q (then_second (nat_cmp (stamp_number u) (stamp_number v)) _
    (then_second (nat_cmp (class_rank u) (class_rank v)) _ e))

-- the mark enters no key
order-unmarked : (v : SemanticVersion) → order_key_of v ≡ order_key_of (unmarked v)
unfolding order_key_of
order-unmarked v = refl

stamp-unmarked : (v : SemanticVersion) → stamp_of v ≡ stamp_of (unmarked v)
unfolding stamp_of
stamp-unmarked v = refl

key-unmarked : (v : SemanticVersion) → rank_key_of v ≡ rank_key_of (unmarked v)
unfolding rank_key_of
key-unmarked v = rw (stamp-unmarked v, order-unmarked v) refl

-- ---- the laws

-- keys of order compare as precedence does, and are equal exactly if the versions differ at most in the mark
pub order-law : OrderKeyIsPrecedence
order-law u v p q =
    let h = order-key u v p q in
    record {
      compared = h;
      below = (
        λ b. sym h ∙ lower-bytes (order_key_of u) (order_key_of v) b,
        λ b.
            bytes-lower (order_key_of u) (order_key_of v) (h ∙ b),
      );
      same = (
        λ e. same-unmarked u v p q (tied (order_key_of u) (order_key_of v) (precedence u v) h e),
        λ e. order-unmarked u ∙ ap order_key_of e ∙ sym (order-unmarked v),
      );
    }

-- keys of rank compare as rank does, and are equal exactly if the versions differ at most in the mark
pub rank-law : RankKeyIsRank
rank-law u v p q =
    let h = rank-key u v p q in
    record {
      compared = h;
      above = (
        λ b. sym h ∙ turned-back bytes_cmp nat_list_cmp_total (rank_key_of u) (rank_key_of v)
            (lower-bytes (rank_key_of v) (rank_key_of u) b),
        λ g. bytes-lower (rank_key_of v) (rank_key_of u)
            (turned bytes_cmp nat_list_cmp_total (rank_key_of u) (rank_key_of v) (h ∙ g)),
      );
      same = (
        λ e. rank-unmarked u v p q (tied (rank_key_of u) (rank_key_of v) (rank_cmp u v) h e),
        λ e. key-unmarked u ∙ ap rank_key_of e ∙ sym (key-unmarked v),
      );
    }

pub own-keys : KeysAreOneToOneAtAPath
own-keys path u v p q =
    let order : order_key_of u ≡ order_key_of v → u ≡ v
    = λ e. precedence-tied (suffix_of path) u v p q
    (tied (order_key_of u) (order_key_of v) (precedence u v) (order-key u v p.0 q.0) e) in
    record {
      order = order;
      rank = λ e. order ((order-law u v p.0 q.0).same.1 ((rank-law u v p.0 q.0).same.0 e));
    }
