-- What the rules of the schema say of a row.
use Rattle.std.proofs.Common.{◌≡◌, ◌⊎◌, ◌&&◌, ◌||◌, ℕ, ℤ, pos, Bool, true, false, not, cond, List, [], ◌∷◌, drop, Some}
use Rattle.std.proofs.Common.{None, inl, inr, refl, sym, ap, subst, subst₂, ◌∙◌, true≢false, codes}
use Rattle.std.specs.List.{list_any}
use Rattle.std.specs.Ordering.{is_eq}
use Rattle.std.specs.FinMap.{int_cmp-IsAntisymmetric}
use Rattle.std.proofs.lemmas.Bool.{and_parts, not-true}
use Rattle.sqlite.specs.declared.types.Value.{Value}
use Rattle.sqlite.specs.declared.types.Value.TheVariants.{Null, Int, Real, Text, Blob}
use Rattle.sqlite.specs.Collation.TheVariants.{Binary}
use Rattle.sqlite_sql.specs.declared.ops.BinaryOp.TheVariants.{Or, Compare}
use Rattle.sqlite_sql.specs.declared.ops.CompareOp.TheVariants.{Eq}
use Rattle.sqlite_sql.specs.Ops.{binary, is_null, is_false, truth, from_truth, or3}
use Rattle.sqlite.specs.Kind.TheVariants as kind
use Rattle.sqlite.specs.Order.{Row, column}
use Rattle.sqlite.specs.Tree.{Trees, rowid}
use Rattle.sqlite_schema.specs.Rules.{equal, suits, are_typed, is_held, parent_key}
use Rattle.sqlite_schema.specs.Names.{same_name}
use Rattle.sqlite_value.specs.Keys.{joined as key_joined, first_key}
use Rattle.sqlite_value.specs.Order.{value_cmp}
use Rattle.sqlite_value.proofs.OrderLemmas.{value_cmp-Int}
use Rattle.sqlite_schema.specs.declared.schema.Constraint.TheVariants.{Datatype, NotNull, Check, ForeignKey}
use Rattle.sqlite_catalog.specs.Listing.{IsSound}
use Rattle.sqlite_rules.specs.Lists.{Has}
use Rattle.sqlite_rules.proofs.ListLemmas.{some_has}
use Rattle.sqlite_rules.proofs.RuleLemmas.{keeps_at}
use Rattle.world.proofs.Ties.{is_tied}
use Rattle.tables.specs.Schema.{store_schema, access_table, version_table, piece_table, given, refers}
use Rattle.tables.specs.Means.{is_of}
use Rattle.tables.specs.Fit.{text_in}
use Rattle.tables.proofs.ValueLemmas.{equals_text, equal_turned, equal_chain, equal_gives}

-- ---- values of a type

text_from : (v : Value) → suits (given (codes "shelf") kind.Text) v ≡ true → is_null v ≡ false → v ≡ Text (text_in v)
text_from (Text t) typed present = refl
text_from Null typed present = absurd (true≢false present)
text_from (Int n) typed present = absurd (true≢false (sym typed))
text_from (Real x) typed present = absurd (true≢false (sym typed))
text_from (Blob b) typed present = absurd (true≢false (sym typed))

int_from : (v : Value) → suits (given (codes "publish") kind.Integer) v ≡ true → is_null v ≡ false
    → (n : ℤ) × (v ≡ Int n)
int_from (Int n) typed present = (n, refl)
int_from Null typed present = absurd (true≢false present)
int_from (Text t) typed present = absurd (true≢false (sym typed))
int_from (Real x) typed present = absurd (true≢false (sym typed))
int_from (Blob b) typed present = absurd (true≢false (sym typed))

one_of : (a b : Bool) → not (is_false (from_truth (or3 (truth (from_truth (Some a))) (truth (from_truth (Some b))))))
    ≡ true → (a ≡ true) ⊎ (b ≡ true)
one_of true b h = inl refl
one_of false true h = inr refl
one_of false false h = absurd (true≢false (sym h))

pub same_int : (m n : ℤ) → is_eq (value_cmp (Int m) (Int n)) ≡ true → m ≡ n
same_int m n h = int_cmp-IsAntisymmetric m n (sym (value_cmp-Int m n) ∙ is_tied _ h)

-- numbers that SQL's = takes for equal are equal
pub ints_equal : (m n : ℤ) → equal Binary (Int m) (Int n) ≡ true → m ≡ n
ints_equal m n h = same_int m n (equal_gives (Int m) (Int n) h).2

-- what passes the check is 0 or 1
zero_or_one : (n : ℤ) → not
    (is_false (binary Or (binary (Compare Eq Binary) (Int n) (Int (pos 0)))
    (binary (Compare Eq Binary) (Int n) (Int (pos 1))))) ≡ true
    → (b : Bool) × (n ≡ cond b (pos 1) (pos 0))
unfolding binary
zero_or_one n h = elim (one_of (is_eq (value_cmp (Int n) (Int (pos 0)))) (is_eq (value_cmp (Int n) (Int (pos 1)))) h) [
  | inl zero' ↦ (false, same_int n (pos 0) zero')
  | inr one ↦ (true, same_int n (pos 1) one)
]

-- a foreign key whose column is not NULL is held
held : (null : Bool) → null ≡ false → (b : Bool) → (((null || false) || b) && true) ≡ true → b ≡ true
held true is b h = absurd (true≢false is)
held false is b h = (and_parts _ _ h).0

-- ---- a row of `access`

-- a row of `access` that is typed and has a third value other than NULL has values of the types of `shelf` and
-- `publish`
typed_access : (row : Row) → are_typed None 0 access_table.columns (drop 1 row) ≡ true → is_null (column row 3) ≡ false
    → (suits (given (codes "shelf") kind.Text) (column row 2) ≡ true)
    × (suits (given (codes "publish") kind.Integer) (column row 3) ≡ true)
typed_access [] typed present = absurd (true≢false present)
typed_access (a ∷ []) typed present = absurd (true≢false present)
typed_access (a ∷ t ∷ []) typed present = absurd (true≢false present)
typed_access (a ∷ t ∷ s ∷ []) typed present = absurd (true≢false present)
typed_access (a ∷ t ∷ s ∷ p ∷ rest) typed present =
    let one = and_parts _ _ typed in
    let two = and_parts _ _ one.1 in
    let three = and_parts _ _ two.1 in
    (two.0, three.0)

-- the shelf is a text, and the right 0 or 1
pub access_row : (db : Trees) → IsSound store_schema db → (row : Row) → Has (db 4) row
    → (column row 2 ≡ Text (text_in (column row 2))) × ((b : Bool) × (column row 3 ≡ Int (cond b (pos 1) (pos 0))))
access_row db sound row there =
    let listed : Has store_schema.tables access_table = inr (inr (inl refl)) in
    let present = keeps_at NotNull store_schema db access_table row (sound.obeys.rules NotNull) listed there in
    let second = and_parts _ _ (and_parts _ _ present).1 in
    let third = and_parts _ _ second.1 in
    let shelf = not-true (is_null (column row 2)) second.0 in
    let publish = not-true (is_null (column row 3)) third.0 in
    let typed = typed_access row
    (and_parts _ _ (keeps_at Datatype store_schema db access_table row (sound.obeys.rules Datatype) listed there)).0
    publish in
    let n = int_from (column row 3) typed.1 publish in
    let passes = (and_parts _ _
    (keeps_at Check store_schema db access_table row (sound.obeys.rules Check) listed there)).0 in
    let flag = zero_or_one n.0
    (subst (λ v. not (is_false
    (binary Or (binary (Compare Eq Binary) v (Int (pos 0))) (binary (Compare Eq Binary) v (Int (pos 1))))) ≡ true)
    n.1 passes) in
    (text_from (column row 2) typed.0 shelf, (flag.0, n.1 ∙ ap Int flag.1))

-- ---- shelves

parents : (db : Trees) (row : Row)
    → is_held db (2 ∷ []) row (parent_key store_schema.tables (refers 2 (codes "shelf") (codes "name")))
    ≡ list_any (λ parent. equal Binary (column parent 1) (column row 2) && true) (db 2)
unfolding same_name key_joined first_key
parents db row = refl

parent_of : (db : Trees) (row : Row) (t : List ℕ) → column row 2 ≡ Text t
    → list_any (λ parent. equal Binary (column parent 1) (column row 2) && true) (db 2) ≡ true
    → (shelf : Row) × Has (db 2) shelf × (column shelf 1 ≡ Text t)
parent_of db row t is h =
    let it = some_has (λ parent. equal Binary (column parent 1) (column row 2) && true) (db 2) h in (
      it.0,
      it.1,
      equals_text (column it.0 1) t
          (subst (λ v. equal Binary (column it.0 1) v ≡ true) is (and_parts _ _ it.2).0),
    )

-- the shelf that a row of `access` or of `version` names has a row
pub key_shelf : (db : Trees) → IsSound store_schema db → (row : Row) → Has (db 4) row → (t : List ℕ)
    → column row 2 ≡ Text t → (shelf : Row) × Has (db 2) shelf × (column shelf 1 ≡ Text t)
key_shelf db sound row there t is =
    let h = keeps_at ForeignKey store_schema db access_table row (sound.obeys.rules ForeignKey) (inr (inr (inl refl)))
    there in
    parent_of db row t is (sym (parents db row) ∙ held _ (ap is_null is) _ h)

pub version_shelf : (db : Trees) → IsSound store_schema db → (row : Row) → Has (db 6) row → (t : List ℕ)
    → column row 2 ≡ Text t → (shelf : Row) × Has (db 2) shelf × (column shelf 1 ≡ Text t)
version_shelf db sound row there t is =
    let h = keeps_at ForeignKey store_schema db version_table row (sound.obeys.rules ForeignKey)
    (inr (inr (inr (inl refl)))) there in
    parent_of db row t is (sym (parents db row) ∙ held _ (ap is_null is) _ h)

-- ---- pieces

typed_piece : (row : Row) → are_typed None 0 piece_table.columns (drop 1 row) ≡ true → is_null (column row 1) ≡ false
    → suits (given (codes "version") kind.Integer) (column row 1) ≡ true
typed_piece [] typed present = absurd (true≢false present)
typed_piece (a ∷ []) typed present = absurd (true≢false present)
typed_piece (a ∷ v ∷ rest) typed present = (and_parts _ _ typed).0

piece_listed : Has store_schema.tables piece_table
piece_listed = inr (inr (inr (inr (inl refl))))

names_version : (db : Trees) → IsSound store_schema db → (row : Row) → Has (db 8) row → is_null (column row 1) ≡ false
names_version db sound row there =
    not-true (is_null (column row 1))
    (and_parts _ _ (keeps_at NotNull store_schema db piece_table row (sound.obeys.rules NotNull) piece_listed there)).0

-- a piece names a version by its number
pub piece_number : (db : Trees) → IsSound store_schema db → (row : Row) → Has (db 8) row
    → (n : ℤ) × (column row 1 ≡ Int n)
piece_number db sound row there =
    let present = names_version db sound row there in
    int_from (column row 1) (typed_piece row
    (and_parts _ _ (keeps_at Datatype store_schema db piece_table row (sound.obeys.rules Datatype) piece_listed
    there)).0 present) present

versions : (db : Trees) (row : Row)
    → is_held db (1 ∷ []) row (parent_key store_schema.tables (refers 1 (codes "version") (codes "id")))
    ≡ list_any (λ version. equal Binary (rowid version) (column row 1) && true) (db 6)
unfolding same_name key_joined first_key
versions db row = refl

-- the version that a piece names has a row
pub piece_version : (db : Trees) → IsSound store_schema db → (row : Row) → Has (db 8) row
    → (version : Row) × Has (db 6) version × (is_of version row ≡ true)
piece_version db sound row there =
    let h = keeps_at ForeignKey store_schema db piece_table row (sound.obeys.rules ForeignKey) piece_listed there in
    let any = sym (versions db row) ∙ held (is_null (column row 1)) (names_version db sound row there) _ h in
    let it = some_has (λ version. equal Binary (rowid version) (column row 1) && true) (db 6) any in
    (it.0, it.1, equal_turned (column row 1) (rowid it.0) ∙ (and_parts _ _ it.2).0)

-- pieces of one version have one number of it
pub one_version : (version : Row) (a b : Value) (m n : ℤ) → a ≡ Int m → b ≡ Int n
    → equal Binary a (rowid version) ≡ true → equal Binary b (rowid version) ≡ true → a ≡ b
one_version version a b m n one two here there =
    let tied : equal Binary a b ≡ true =
    equal_chain a (rowid version) b here (equal_turned (rowid version) b ∙ there) in
    let ints : equal Binary (Int m) (Int n) ≡ true = subst₂ (λ x y. equal Binary x y ≡ true) one two tied in
    one ∙ (ap Int (ints_equal m n ints) ∙ sym two)
