-- What a bound keeps gives its version back, and the order of versions.
use Rattle.std.proofs.Common.{◌≡◌, ◌≢◌, ◌==◌, not, inl, inr, Bool, List, [], ◌∷◌, ◌++◌, ℕ, ◌*◌, ◌^◌, length, Option}
use Rattle.std.proofs.Common.{Some, None, true, sym, ap, ◌∙◌, refl, subst, arith}
use Rattle.std.proofs.lemmas.Bool.{cases_Bool, eq-eqb, eqb-true}
use Rattle.std.specs.Cmp.Lexicographic.{slice_cmp}
use Rattle.std.specs.List.{list_all}
use Rattle.std.specs.Ordering.{nat_cmp}
use Rattle.std.specs.declared.alloc.Global.{Global}
use Rattle.std.specs.declared.cmp.Ordering.{Ordering}
use Rattle.std.specs.declared.cmp.Ordering.TheVariants.{Equal}
use Rattle.std.specs.declared.rc.Rc.{Rc}
use Rattle.modver.specs.Bounds.{AreEnds, HasKey, IsBound, identifiers_at_end, mark_in, tails_cmp, version_in}
use Rattle.modver.specs.Fits.{has_identifiers}
use Rattle.modver.specs.Keys.{AreBytes, head_of, identifiers_in, identifiers_in_head, padded, pre_release_key}
use Rattle.modver.specs.Parts.{identifiers_of}
use Rattle.modver.specs.Precedence.{pre_release_cmp}
use Rattle.modver.specs.SemanticVersion.{IsVersion, SemanticVersion, is_identifier}
use Rattle.modver.specs.declared.bound.Bound.TheInside.{Inside}
use Rattle.modver.specs.declared.tail.Tail.{Tail}
use Rattle.modver.proofs.KeyOrders.{heads-decide, pre_release-order}
use Rattle.modver.proofs.KeyReads.{identifiers_in-head, identifiers_in-key, same-pre_releases, same-heads}

-- the head and the tail of identifiers give them back
pub read_back : (head : ℕ) (tail : Option (Rc Tail Global)) (ids : List (List ℕ)) → list_all is_identifier ids ≡ true
    → AreEnds head tail ids → identifiers_at_end head tail ≡ ids
read_back head None ids p a = ap identifiers_in_head a.front ∙ identifiers_in-head ids p a.bytes a.whole
read_back head (Some tail) ids p a = ap identifiers_in a.whole ∙ identifiers_in-key ids p

-- two tails compare as the identifiers do, if the heads are equal
pub tails-order : (m n : ℕ) (s t : Option (Rc Tail Global)) (xs ys : List (List ℕ)) → list_all is_identifier xs ≡ true
    → list_all is_identifier ys ≡ true
    → AreEnds m s xs → AreEnds n t ys → m ≡ n → tails_cmp s t ≡ pre_release_cmp xs ys
tails-order m n (Some s) (Some t) xs ys p q a b e =
    ap (λ l. slice_cmp nat_cmp l t.value.key.items) a.whole ∙ ap (slice_cmp nat_cmp (pre_release_key xs)) b.whole
    ∙ pre_release-order xs ys p q
tails-order m n (Some s) None xs ys p q a b e =
    let same = same-heads ys xs q p b.bytes a.bytes b.whole (sym b.front ∙ sym e ∙ a.front) in
    sym (same-pre_releases xs ys p (sym same))
tails-order m n None t xs ys p q a b e =
    let same = same-heads xs ys p q a.bytes b.bytes a.whole (sym a.front ∙ e ∙ b.front) in
    sym (same-pre_releases xs ys p same)

-- two versions whose heads differ compare as the heads do
pub heads-apart : (m n : ℕ) (s t : Option (Rc Tail Global)) (xs ys : List (List ℕ)) → list_all is_identifier xs ≡ true
    → list_all is_identifier ys ≡ true
    → AreEnds m s xs → AreEnds n t ys → (o : Ordering) → o ≡ nat_cmp m n → o ≢ Equal → o ≡ pre_release_cmp xs ys
heads-apart m n s t xs ys p q a b o e some =
    let heads = ap (λ k. nat_cmp k (head_of (pre_release_key ys))) (sym a.front) ∙ ap (nat_cmp m) (sym b.front)
    ∙ sym e in
    sym (heads-decide (pre_release_key xs) (pre_release_key ys) o a.bytes b.bytes heads some)
    ∙ pre_release-order xs ys p q

-- the head of a release, and its bytes
release-head : 3 * 2 ^ 56 ≡ head_of (3 ∷ [])
unfolding head_of
release-head = refl

release-bytes : AreBytes (padded 8 (3 ∷ []))
release-bytes = (
  omega arith,
  (omega arith, (omega arith, (omega arith, (omega arith, (omega arith, (omega arith, (omega arith, tt))))))),
)

-- a pre-release has another head than a release
pub other-head : (m : ℕ) (s : Option (Rc Tail Global)) (xs : List (List ℕ)) → list_all is_identifier xs ≡ true
    → AreEnds m s xs
    → not (m == 3 * 2 ^ 56) ≡ has_identifiers xs
other-head m s [] p a = ap not (eq-eqb m (3 * 2 ^ 56) (a.front ∙ sym release-head))
other-head m s (x ∷ xs) p a = elim (cases_Bool (m == 3 * 2 ^ 56)) [
  | inl t ↦ cc (same-heads [] (x ∷ xs) refl p release-bytes a.bytes (omega arith)
      (sym release-head ∙ sym (eqb-true m (3 * 2 ^ 56) t) ∙ a.front))
  | inr f ↦ ap not f
]

-- what a bound keeps of its version
pub ends-of : (b : Inside) (v : SemanticVersion) → IsBound b → version_in b ≡ v
    → IsVersion v × AreEnds b.head b.tail v.identifiers
ends-of b v p e = (
  subst IsVersion e p.valid,
  subst (λ (w : SemanticVersion). AreEnds b.head b.tail w.identifiers) e p.ends,
)

same-version : (a b c : ℕ) (ids : List (List ℕ)) (marked : Bool) (v : SemanticVersion) → a ≡ v.major → b ≡ v.minor
    → c ≡ v.patch → ids ≡ v.identifiers → marked ≡ v.marked
    → ◌≡◌ {A = SemanticVersion} (record { major = a; minor = b; patch = c; identifiers = ids; marked = marked }) v
same-version a b c ids marked v p q r s t = rw (p, q, r, s, t) refl

-- a bound with the numbers, the ends and the mark of a version gives it back
pub bound-version : (b : Inside) (v : SemanticVersion) → IsVersion v → b.major ≡ v.major → b.minor ≡ v.minor
    → b.patch ≡ v.patch
    → AreEnds b.head b.tail v.identifiers → mark_in b.tail ≡ v.marked → version_in b ≡ v
bound-version b v valid p q r ends mark =
    same-version b.major b.minor b.patch (identifiers_at_end b.head b.tail) (mark_in b.tail) v p q r
    (read_back b.head b.tail v.identifiers valid.identifiers ends) mark

pub bound-valid : (b : Inside) (v : SemanticVersion) → IsVersion v → AreEnds b.head b.tail v.identifiers
    → version_in b ≡ v → IsBound b
bound-valid b v valid ends same = record {
  valid = subst IsVersion (sym same) valid;
  ends = subst (λ (w : SemanticVersion). AreEnds b.head b.tail w.identifiers) (sym same) ends;
}

-- the ends of a release
pub release-ends : (pre : List ℕ) → length pre ≡ 0 → AreEnds (3 * 2 ^ 56) None (identifiers_of pre)
release-ends [] h = record { front = release-head; bytes = release-bytes; whole = omega arith }
release-ends (b ∷ pre) h = absurd (omega arith)

-- the ends of a key that was built
pub built-ends : (head : ℕ) (tail : Option (Rc Tail Global)) (pre start text key slice : List ℕ) → text ≡ pre
    → start ≡ [] → key ≡ start ++ pre_release_key (identifiers_of text)
    → slice ≡ key → head ≡ head_of slice → AreBytes (padded 8 slice) → HasKey tail key
    → AreEnds head tail (identifiers_of pre)
built-ends head tail pre start text key slice t n k s h b w =
    let e : key ≡ pre_release_key (identifiers_of pre) = rw (t, n) at k in
    record {
      front = h ∙ ap head_of (s ∙ e);
      bytes = subst (λ l. AreBytes (padded 8 l)) (s ∙ e) b;
      whole = subst (HasKey tail) e w;
    }
