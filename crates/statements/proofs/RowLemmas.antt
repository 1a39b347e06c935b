-- What is read from rows when one more is put in.
use Rattle.std.proofs.Common.{◌≡◌, ◌⊎◌, ℕ, true, List, [], ◌∷◌, filter, inl, inr, refl, ap, subst, ◌∙◌}
use Rattle.sqlite.specs.Order.{Row, column}
use Rattle.sqlite.specs.Tree.{Trees, rowid}
use Rattle.sqlite.specs.Table.{Table}
use Rattle.sqlite.specs.Edit.{are_fresh, put_all}
use Rattle.sqlite.specs.Collation.TheVariants.{Binary}
use Rattle.sqlite.specs.State.{State}
use Rattle.sqlite_schema.specs.Rules.{equal}
use Rattle.sqlite_rules.specs.Lists.{Has}
use Rattle.sqlite_rules.proofs.ListLemmas.{has_filtered, has_kept}
use Rattle.sqlite_rules.proofs.TableLemmas.{put_all_has, put_all_keeps, put_all_adds}
use Rattle.world.specs.World.{World}
use Rattle.tables.specs.Means.{Means, ArePieces, IsPiece, is_of}
use Rattle.statements.specs.Rows.{Filling, Writing, Adds, AddsRows, IsOfAny, IsElseSame, IsRead, PutsRows, piece_read}
use Rattle.statements.specs.Extract.{Along}

-- ---- what is read

module _ (read : Row → Row) where
  -- a fresh row that is put in adds what is read from it
  pub adds_one : (rows : List Row) (new : Row) → are_fresh rows (new ∷ []) ≡ true
      → AddsRows read (λ values. values ≡ read new) rows (put_all rows (new ∷ []))
  adds_one rows new fresh values = (
    (λ it. elim (put_all_has (new ∷ []) rows it.0 it.1) [
      | inl (inl same) ↦ inr (it.2 ∙ ap read same)
      | inl (inr none) ↦ absurd none
      | inr was ↦ inl (it.0, was, it.2)
    ]),
    (λ it. elim it [
      | inl was ↦ (was.0, put_all_keeps (new ∷ []) rows was.0 fresh was.1, was.2)
      | inr is ↦ (new, put_all_adds (new ∷ []) rows new fresh (inl refl), is)
    ]),
  )

  pub adds_none : (rows : List Row) → AddsRows read (λ _. ⊥) rows rows
  adds_none rows values = ((λ it. inl it), (λ it. elim it [ inl was ↦ was | inr none ↦ absurd none ]))

  -- two additions, one after the other, add what either of them adds
  pub adds_then : (P Q : Row → Type 0) (a b c : List Row) → AddsRows read P a b → AddsRows read Q b c
      → AddsRows read (λ values. P values ⊎ Q values) a c
  adds_then P Q a b c p q values = (
    (λ it. elim ((q values).0 it) [
      | inl was ↦ elim ((p values).0 was) [ inl first ↦ inl first | inr one ↦ inr (inl one) ]
      | inr two ↦ inr (inr two)
    ]),
    (λ it. elim it [
      | inl first ↦ (q values).1 (inl ((p values).1 (inl first)))
      | inr (inl one) ↦ (q values).1 (inl ((p values).1 (inr one)))
      | inr (inr two) ↦ (q values).1 (inr two)
    ]),
  )

  pub adds_as : (P Q : Row → Type 0) (a b : List Row) → ((values : Row) → P values → Q values)
      → ((values : Row) → Q values → P values) → AddsRows read P a b → AddsRows read Q a b
  adds_as P Q a b there back p values = (
    (λ it. elim ((p values).0 it) [ inl was ↦ inl was | inr one ↦ inr (there values one) ]),
    (λ it. elim it [ inl was ↦ (p values).1 (inl was) | inr one ↦ (p values).1 (inr (back values one)) ]),
  )

-- ---- each other table

pub else_itself : (table : Table) (db : Trees) → IsElseSame table db db
else_itself table db = ((λ _. refl), ((λ _. refl), ((λ _. refl), ((λ _. refl), ((λ _. refl), tt)))))

pub else_then : (table : Table) (a b c : Trees) → IsElseSame table a b → IsElseSame table b c → IsElseSame table a c
else_then table a b c p q = (
  (λ e. q.0 e ∙ p.0 e),
  (
    (λ e. q.1.0 e ∙ p.1.0 e),
    ((λ e. q.1.1.0 e ∙ p.1.1.0 e), ((λ e. q.1.1.1.0 e ∙ p.1.1.1.0 e), ((λ e. q.1.1.1.1.0 e ∙ p.1.1.1.1.0 e), tt))),
  ),
)

-- ---- along a list

module _ {E A : Type 0} (IsOf : E → A → Type 0) where
  pub adds_of_none : (Was : A → Type 0) → Adds (λ a. IsOfAny [] (λ e. IsOf e a)) Was Was
  adds_of_none Was a = ((λ was. inl was), (λ it. elim it [ inl was ↦ was | inr of ↦ absurd of.1 ]))

  -- what the first of a list adds, and then what the others add, is what the list adds
  pub adds_of_more : (e : E) (es : List E) (Was Mid Is : A → Type 0) → Adds (IsOf e) Was Mid
      → Adds (λ a. IsOfAny es (λ e. IsOf e a)) Mid Is → Adds (λ a. IsOfAny (e ∷ es) (λ e. IsOf e a)) Was Is
  adds_of_more e es Was Mid Is one rest a = (
    (λ is. elim ((rest a).0 is) [
      | inl mid ↦ elim ((one a).0 mid) [ inl was ↦ inl was | inr here ↦ inr (e, inl refl, here) ]
      | inr later ↦ inr (later.0, inr later.1, later.2)
    ]),
    (λ it. elim it [
      | inl was ↦ (rest a).1 (inl ((one a).1 (inl was)))
      | inr of ↦ elim of.1 [
        | inl here ↦ (rest a).1 (inl ((one a).1 (inr (subst (λ x. IsOf x a) here of.2))))
        | inr later ↦ (rest a).1 (inr (of.0, later, of.2))
      ]
    ]),
  )

-- rows put in for each of a list, one after another, are rows put in for all of the list
pub puts_along : {E : Type 0} (table : Table) (read : Row → Row) (Once : List Row → Type 0)
    (IsOf : E → Trees → Row → Type 0) (es : List E) (source db after : Trees)
    → Along (λ e source. PutsRows table read Once (IsOf e source)) es source db after
    → PutsRows table read Once (λ values. IsOfAny es (λ e. IsOf e source values)) db after
puts_along table read Once IsOf [] source db after same =
    subst (PutsRows table read Once (λ values. IsOfAny [] (λ e. IsOf e source values)) db) same (record {
      rows = adds_of_none (λ e. IsOf e source) (IsRead read (db table.tree));
      apart = λ apart. apart;
      tables = else_itself table db;
    })
puts_along table read Once IsOf (e ∷ es) source db after it =
    let one : PutsRows table read Once (IsOf e source) db it.0 = it.1 in
    let rest = puts_along table read Once IsOf es source it.0 after it.2 in
    record {
      rows = adds_of_more (λ e. IsOf e source) e es (IsRead read (db table.tree)) (IsRead read (it.0 table.tree))
          (IsRead read (after table.tree)) one.rows rest.rows;
      apart = λ apart. rest.apart (one.apart apart);
      tables = else_then table db it.0 after one.tables rest.tables;
    }

-- ---- pieces

-- two rows of `piece` that read alike have equal versions, numbers and bytes
pub read_columns : (a b : Row) → piece_read a ≡ piece_read b
    → (column a 1 ≡ column b 1) × (column a 2 ≡ column b 2) × (column a 3 ≡ column b 3)
read_columns a b same = (
  ap (λ (r : Row). column r 0) same,
  ap (λ (r : Row). column r 1) same,
  ap (λ (r : Row). column r 2) same,
)

pub piece_as : (zip : List ℕ) (a b : Row) (n : ℕ) → piece_read a ≡ piece_read b → IsPiece zip b n → IsPiece zip a n
piece_as zip a b n same is = let it = read_columns a b same in
    record { number = it.1 ∙ is.number; bytes = it.2 ∙ is.bytes }

pub of_as : (version a b : Row) → piece_read a ≡ piece_read b → is_of version b ≡ true → is_of version a ≡ true
of_as version a b same is = ap (λ v. equal Binary v (rowid version)) (read_columns a b same).0 ∙ is

-- rows of a version that read like the pieces of a zip are the pieces of that zip
pub same_pieces : (one two : Row) (rows more : List Row) (zip : List ℕ)
    → ((b : Row) → Has more b → is_of two b ≡ true
    → (a : Row) × Has rows a × (is_of one a ≡ true) × (piece_read b ≡ piece_read a))
    → ((a : Row) → Has rows a → is_of one a ≡ true
    → (b : Row) × Has more b × (is_of two b ≡ true) × (piece_read b ≡ piece_read a))
    → ArePieces (filter (is_of one) rows) zip → ArePieces (filter (is_of two) more) zip
same_pieces one two rows more zip back there are = record {
  each = λ b h.
      let passed = has_filtered (is_of two) more b h in
      let a = back b passed.0 passed.1 in
      let it = are.each a.0 (has_kept (is_of one) rows a.0 a.1 a.2) in
      (it.0, piece_as zip b a.0 it.0 a.3 it.1, it.2);
  found = λ n has.
      let a = are.found n has in
      let passed = has_filtered (is_of one) rows a.0 a.1 in
      let b = there a.0 passed.0 passed.1 in
      (b.0, has_kept (is_of two) more b.0 b.1 b.2, piece_as zip b.0 a.0 n b.3 a.2);
}

-- ---- inside a transaction

pub filling_of : (s : State) (x : World) → Writing s x → Filling s
filling_of s x writing =
    record { schema = writing.schema; sound = writing.trees.sound; is_open = writing.is_open; inside = writing.inside }

pub writing_of : (s : State) (x : World) → Filling s → Means s.now.trees x → Writing s x
writing_of s x filling means =
    record {
      schema = filling.schema;
      trees = record { sound = filling.sound; means = means };
      is_open =
          filling.is_open;
      inside = filling.inside;
    }
