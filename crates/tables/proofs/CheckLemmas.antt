-- The terms of the CHECKs of `access` and `piece`.
use Rattle.std.proofs.Common.{◌≡◌, ℕ, zero, suc, pos, ◌-◌, ◌<◌, ◌≤◌, Bool, false, List, [], ◌∷◌, length, Decides, sym}
use Rattle.std.proofs.Common.{ap, subst, arith, true≢false, slice_index_or}
use Rattle.sqlite_schema.specs.declared.code.Op.{Op}
use Rattle.sqlite_schema.specs.declared.code.Op.TheVariants.{Literal, Column, Unary, Binary, Case}
use Rattle.sqlite_schema.specs.Code.{op_term, term_to, terms_in}
use Rattle.sqlite_value.specs.declared.value.Value.TheVariants.{Null, Int}
use Rattle.sqlite_value.specs.declared.keys.Collation.TheVariants as collation
use Rattle.sqlite_sql.specs.declared.ops.BinaryOp.TheVariants.{Compare}
use Rattle.sqlite_sql.specs.declared.ops.CompareOp.TheVariants.{Eq}
use Rattle.sqlite_sql.specs.Term.{Term, lit, col, op2}
use Rattle.tables.specs.Schema.{is_flag, is_from_zero}

-- a term that no code makes within so few steps
module _ (least : ℕ) (check : Term)
    (low : (nodes : List Op) (root n : ℕ) → n ≤ least → term_to nodes n root ≡ check → ⊥) where
  only : (nodes : List Op) (root : ℕ) (b : Bool) → Decides b (term_to nodes (length nodes) root ≡ check)
      → Decides b (terms_in nodes (root ∷ []) ≡ check ∷ [])
  only nodes root b it = (
    λ yes. ap (λ t. t ∷ []) (it.0 yes),
    λ same.
        it.1 (let e : term_to nodes (length nodes) root ≡ check = cc in e),
  )

  pub check_then : (above : ℕ → ℕ) → ((n : ℕ) → least < n → n ≡ above (n - suc least))
      → (nodes : List Op) (roots : List ℕ) (b : Bool) → least < length nodes → 1 ≤ length roots
      → length roots < 2 → ((depth : ℕ) → Decides b (term_to nodes (above depth) (slice_index_or roots 0 0) ≡ check))
      → Decides b (terms_in nodes roots ≡ check ∷ [])
  check_then above high nodes [] b long some few h = absurd (omega arith)
  check_then above high nodes (r ∷ []) b long some few h =
      only nodes r b (subst (λ n. Decides b (term_to nodes n r ≡ check)) (sym (high (length nodes) long))
      (h (length nodes - suc least)))
  check_then above high nodes (r ∷ s ∷ more) b long some few h = absurd (omega arith)

  pub check_else : (nodes : List Op) (roots : List ℕ) → length nodes ≤ least → 1 ≤ length roots → length roots < 2
      → Decides false (terms_in nodes roots ≡ check ∷ [])
  check_else nodes [] small some few = absurd (omega arith)
  check_else nodes (r ∷ []) small some few =
      only nodes r false (λ no. absurd (true≢false (sym no)), λ same. absurd (low nodes r (length nodes) small same))
  check_else nodes (r ∷ s ∷ more) small some few = absurd (omega arith)

-- ---- the check of `piece`

no_bound : (op : Op) → op_term (λ _. lit Null) op ≡ is_from_zero → ⊥
no_bound (Literal v) e = cc
no_bound (Column s a) e = cc
no_bound (Unary o a) e = cc
no_bound (Binary o a b) e = cc
no_bound (Case t a b) e = cc

pub low_bound : (nodes : List Op) (root n : ℕ) → n ≤ 1 → term_to nodes n root ≡ is_from_zero → ⊥
low_bound nodes root zero small e = cc
low_bound nodes root (suc zero) small e = no_bound (slice_index_or nodes root (Literal Null)) e
low_bound nodes root (suc (suc n)) small e = absurd (omega arith)

-- ---- the check of `access`

abbrev is_zero : Term
is_zero = op2 (Compare Eq collation.Binary) (col 1 3) (lit (Int (pos 0)))

no_zero : (op : Op) → op_term (λ _. lit Null) op ≡ is_zero → ⊥
no_zero (Literal v) e = cc
no_zero (Column s a) e = cc
no_zero (Unary o a) e = cc
no_zero (Binary o a b) e = cc
no_zero (Case t a b) e = cc

no_flag : (op : Op) → op_term (λ _. lit Null) op ≡ is_flag → ⊥
no_flag (Literal v) e = cc
no_flag (Column s a) e = cc
no_flag (Unary o a) e = cc
no_flag (Binary o a b) e = cc
no_flag (Case t a b) e = cc

-- a term of depth two is not the check of the flag
no_branch : (nodes : List Op) (op : Op) → op_term (term_to nodes 1) op ≡ is_flag → ⊥
no_branch nodes (Literal v) e = cc
no_branch nodes (Column s a) e = cc
no_branch nodes (Unary o a) e = cc
no_branch nodes (Case t a b) e = cc
no_branch nodes (Binary o a b) e =
    no_zero (slice_index_or nodes a (Literal Null)) (let f : term_to nodes 1 a ≡ is_zero = cc in f)

pub low_flag : (nodes : List Op) (root n : ℕ) → n ≤ 2 → term_to nodes n root ≡ is_flag → ⊥
low_flag nodes root zero small e = cc
low_flag nodes root (suc zero) small e = no_flag (slice_index_or nodes root (Literal Null)) e
low_flag nodes root (suc (suc zero)) small e = no_branch nodes (slice_index_or nodes root (Literal Null)) e
low_flag nodes root (suc (suc (suc n))) small e = absurd (omega arith)
