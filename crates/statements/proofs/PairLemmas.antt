-- What a query over two tables answers.
use Rattle.std.proofs.Common.{◌≡◌, ℕ, cond, List, [], ◌∷◌, map, flat_map, sym, ap, subst, ◌∙◌}
use Rattle.std.proofs.lemmas.List.Sorted.{IsPermutation-sym}
use Rattle.sqlite.specs.declared.types.Value.TheVariants.{Null}
use Rattle.sqlite.specs.Order.{Row}
use Rattle.sqlite.specs.Term.{Term}
use Rattle.sqlite.specs.Tree.{Trees}
use Rattle.sqlite.specs.Query.{inner, end, IsAnswer, Output, output, matches}
use Rattle.sqlite.specs.Program.{overlay}
use Rattle.sqlite.specs.Effect.{Database, Reads}
use Rattle.sqlite_rules.specs.Lists.{Has}
use Rattle.sqlite_rules.proofs.ProbeLemmas.{has_mapped, mapped_has}
use Rattle.statements.specs.Pairs.{pairs, passes_both, ArePaired}
use Rattle.tables.proofs.JoinLemmas.{flat_has, has_flat}
use Rattle.statements.proofs.LookupLemmas.{has_matched, matched_has, asks}
use Rattle.tables.proofs.Ascending.{has_permuted}

-- an answer to a query over two tables has the pairs that pass, projected, and no others
pub answer_paired : (t u : ℕ) (filter project : List Term) (db : Trees) (params : Row) (out : List Row)
    → IsAnswer (pairs t u filter project) db params out → ArePaired (db t) (db u) filter project params out
answer_paired t u filter project db params out answer =
    let q = pairs t u filter project in
    let env = λ (r b : Row). params ∷ r ∷ b ∷ [] in
    let test = λ (r b : Row). passes_both filter params r b in
    let each = λ (r : Row). flat_map (λ b. cond (test r b) (env r b ∷ []) []) (db u) in
    let all = matches db filter (inner t (inner u end)) (params ∷ []) in
    let listed : answer.kept ≡ map (output q) all = answer.distinct ∙ ap (map (output q)) answer.grouped in
    record {
      sound = λ x h.
          let o = has_mapped (λ (k : Output). k.1) answer.ordered x (subst (λ l. Has l x) answer.shown h) in
          let e = has_mapped (output q) all o.0
          (subst (λ l. Has l o.0) listed (has_permuted answer.kept answer.ordered o.0 answer.same o.1)) in
          let r = flat_has each (db t) e.0 e.1 in
          let b = has_matched (test r.0) (env r.0) (db u) e.0 r.2 in
          (r.0, b.0, r.1, b.1, b.2, o.2 ∙ ap (λ (k : Output). k.1) (e.2 ∙ ap (output q) b.3));
      complete = λ r b here there passed.
          let o = output q (env r b) in
          let found = has_flat each (db t) r (env r b) here (matched_has (test r) (env r) (db u) b there passed) in
          let at = subst (λ l. Has l o) (sym listed) (mapped_has (output q) all (env r b) found) in
          subst (λ l. Has l o.1) (sym answer.shown)
          (mapped_has (λ (k : Output). k.1) answer.ordered o
          (has_permuted answer.ordered answer.kept o (IsPermutation-sym _ _ answer.same) at));
    }

module _ (params : Row) (db : Database) (t u : ℕ) (filter project : List Term)
    (one : (trees : Trees) → overlay trees [] t ≡ trees t) (two : (trees : Trees) → overlay trees [] u ≡ trees u) where
  answered : (out : List Row) → IsAnswer (pairs t u filter project) (overlay db.trees []) params out
      → ArePaired (db.trees t) (db.trees u) filter project params out
  answered out answer = subst (λ l. ArePaired l (db.trees u) filter project params out) (one db.trees)
      (subst (λ l. ArePaired (overlay db.trees [] t) l filter project params out) (two db.trees)
      (answer_paired t u filter project (overlay db.trees []) params out answer))

  pub all_paired : (out : List Row) → Reads (asks (pairs t u filter project)) db params out
      → ArePaired (db.trees t) (db.trees u) filter project params out
  all_paired out read = answered out (read.answer Null)
