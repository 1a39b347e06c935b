-- What a query over one table answers.
use Rattle.std.proofs.Common.{◌≡◌, ℕ, Bool, true, false, cond, List, [], ◌∷◌, ◌++◌, map, flat_map, Option, Some, None}
use Rattle.std.proofs.Common.{inl, inr, refl, sym, ap, subst, ◌∙◌}
use Rattle.std.proofs.lemmas.List.Sorted.{IsPermutation-sym}
use Rattle.std.proofs.lemmas.Bool.{cases_Bool}
use Rattle.sqlite.specs.declared.types.Value.TheVariants.{Null}
use Rattle.sqlite_value.specs.declared.keys.Key.{Key}
use Rattle.sqlite.specs.Order.{Row}
use Rattle.sqlite.specs.Term.{Term}
use Rattle.sqlite.specs.Tree.{Trees}
use Rattle.sqlite.specs.Query.{Query, inner, end, IsAnswer, Output, output, matches}
use Rattle.sqlite.specs.Program.{overlay}
use Rattle.sqlite.specs.Command.{Command}
use Rattle.sqlite.specs.Command.TheVariants.{Select}
use Rattle.sqlite.specs.Listing.{understood}
use Rattle.sqlite.specs.Effect.{Database, Reads, ReadsFirst}
use Rattle.sqlite.proofs.Callers.{command_of}
use Rattle.tables.specs.Schema.{store_schema}
use Rattle.statements.specs.Calls.{Selects}
use Rattle.sqlite_rules.specs.Lists.{Has}
use Rattle.sqlite_rules.proofs.ListLemmas.{has_right}
use Rattle.sqlite_rules.proofs.ProbeLemmas.{has_mapped, mapped_has}
use Rattle.tables.proofs.Ascending.{has_permuted}
use Rattle.statements.specs.Lookup.{lookup, passes, AreFound, FirstFound}

pub has_matched : {X Y : Type 0} (p : X → Bool) (f : X → Y) (xs : List X) (y : Y)
    → Has (flat_map (λ x. cond (p x) (f x ∷ []) []) xs) y → (x : X) × Has xs x × (p x ≡ true) × (y ≡ f x)
has_matched p f [] y h = absurd h
has_matched {X} {Y} p f (x ∷ xs) y h = go (p x) refl h (has_matched p f xs y)
  where
    go : (b : Bool) → p x ≡ b → Has (cond b (f x ∷ []) [] ++ flat_map (λ z. cond (p z) (f z ∷ []) []) xs) y
        → (Has (flat_map (λ z. cond (p z) (f z ∷ []) []) xs) y → (z : X) × Has xs z × (p z ≡ true) × (y ≡ f z))
        → (z : X) × Has (x ∷ xs) z × (p z ≡ true) × (y ≡ f z)
    go true is (inl same) later = (x, inl refl, is, same)
    go true is (inr there) later = let r = later there in (r.0, inr r.1, r.2, r.3)
    go false is there later = let r = later there in (r.0, inr r.1, r.2, r.3)

pub matched_has : {X Y : Type 0} (p : X → Bool) (f : X → Y) (xs : List X) (x : X) → Has xs x → p x ≡ true
    → Has (flat_map (λ z. cond (p z) (f z ∷ []) []) xs) (f x)
matched_has p f [] x h passes = absurd h
matched_has p f (z ∷ xs) x (inl same) passes = rw (← same, passes) (inl refl)
matched_has p f (z ∷ xs) x (inr later) passes =
    has_right (cond (p z) (f z ∷ []) []) (flat_map (λ w. cond (p w) (f w ∷ []) []) xs) (f x)
    (matched_has p f xs x later passes)

-- a query over one table, in an order; with none it is a lookup
abbrev pub ordered : ℕ → List Term → List Term → List (Term × Key) → Query
ordered tree filter project order = record (lookup tree filter project) { order = order }

-- an answer has the rows that pass, as they are shown, in whatever order
pub answer_found : (tree : ℕ) (filter project : List Term) (order : List (Term × Key)) (db : Trees) (params : Row)
    (out : List Row)
    → IsAnswer (ordered tree filter project order) db params out → AreFound (db tree) filter project params out
answer_found tree filter project order db params out answer =
    let q = ordered tree filter project order in
    let test = passes filter params in
    let env = λ (r : Row). params ∷ r ∷ [] in
    let all = matches db filter (inner tree end) (params ∷ []) in
    let listed : answer.kept ≡ map (output q) all = answer.distinct ∙ ap (map (output q)) answer.grouped in
    record {
      sound = λ x h.
          let o = has_mapped (λ (k : Output). k.1) answer.ordered x (subst (λ l. Has l x) answer.shown h) in
          let e = has_mapped (output q) all o.0
          (subst (λ l. Has l o.0) listed (has_permuted answer.kept answer.ordered o.0 answer.same o.1)) in
          let r = has_matched test env (db tree) e.0 e.1 in
          (r.0, r.1, r.2, o.2 ∙ ap (λ (k : Output). k.1) (e.2 ∙ ap (output q) r.3));
      complete = λ r h passes.
          let o = output q (env r) in
          let there = subst (λ l. Has l o) (sym listed)
          (mapped_has (output q) all (env r) (matched_has test env (db tree) r h passes)) in
          subst (λ l. Has l o.1) (sym answer.shown)
          (mapped_has (λ (k : Output). k.1) answer.ordered o
          (has_permuted answer.ordered answer.kept o (IsPermutation-sym _ _ answer.same) there));
    }

-- ---- a query on its own, however it is written

-- the names of its columns do not matter
abbrev pub asks : Query → Command
asks q = Select (record { lets = []; body = q }) []

-- the row is the first of an answer to the query; None: the answer is empty
abbrev pub Picks : Query → Row → Database → Option Row → Type 0
Picks q params db (Some row) = ReadsFirst (asks q) db params (row ∷ [])
Picks q params db None = Reads (asks q) db params []

module _ (params : Row) (db : Database) (tree : ℕ) (filter project : List Term) (order : List (Term × Key))
    (own : (trees : Trees) → overlay trees [] tree ≡ trees tree) where
  answered : (out : List Row) → IsAnswer (ordered tree filter project order) (overlay db.trees []) params out
      → AreFound (db.trees tree) filter project params out
  answered out answer = subst (λ rows. AreFound rows filter project params out) (own db.trees)
      (answer_found tree filter project order (overlay db.trees []) params out answer)

  pub all_found : (out : List Row) → Reads (asks (ordered tree filter project order)) db params out
      → AreFound (db.trees tree) filter project params out
  all_found out read = answered out (read.answer Null)

  pub begun_found : (rows : List Row) → ReadsFirst (asks (ordered tree filter project order)) db params rows
      → (tail : List Row) × AreFound (db.trees tree) filter project params (rows ++ tail)
  begun_found rows h = let got = h.1 in (got.0, answered (rows ++ got.0) (got.1 Null))

  pub picked_found : (found : Option Row) → Picks (ordered tree filter project order) params db found
      → FirstFound (db.trees tree) filter project params found
  picked_found (Some row) h = (begun_found (row ∷ []) h).1.sound row (inl refl)
  picked_found None h = λ row there.
      elim (cases_Bool (passes filter params row)) [
        | inl passed ↦ absurd ((all_found [] h).complete row there passed)
        | inr failed ↦ failed
      ]

-- a text that is understood as a lookup selects a row that passes, projected, or None if no row passes
pub selected_found : (sql : List ℕ) (params : Row) (db : Database) (tree : ℕ) (filter project : List Term)
    (names : List (List ℕ))
    → command_of (understood store_schema sql) ≡ Select (record { lets = []; body = lookup tree filter project }) names
    → ((trees : Trees) → overlay trees [] tree ≡ trees tree)
    → (found : Option Row) → Selects sql params db found → FirstFound (db.trees tree) filter project params found
selected_found sql params db tree filter project names is own (Some row) h =
    picked_found params db tree filter project [] own (Some row) (subst (λ k. ReadsFirst k db params (row ∷ [])) is h)
selected_found sql params db tree filter project names is own None h =
    picked_found params db tree filter project [] own None (subst (λ k. Reads k db params []) is h)
