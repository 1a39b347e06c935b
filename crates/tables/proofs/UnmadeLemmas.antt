-- Why the tables are not made.
use Rattle.std.proofs.Common.{◌≡◌, ◌-◌, ℕ, suc, [], ◌∷◌, length, Some, Ok, Err, Result, inl, inr, refl, ◌∙◌, codes}
use Rattle.std.proofs.Common.{IsTrue, IfErr, true≢false, lit<}
use Rattle.sqlite.specs.declared.types.Value.TheVariants.{Null, Text}
use Rattle.sqlite_trees.specs.declared.store.Store.{Ghosts}
use Rattle.sqlite.specs.Term.{lit}
use Rattle.sqlite.specs.Command.TheVariants.{CreateTable}
use Rattle.sqlite.specs.Batch.{RunInTurn, ExecutesAllInside}
use Rattle.sqlite.specs.Held.{Held, state}
use Rattle.sqlite.specs.declared.error.Error.{Error}
use Rattle.tables.specs.Schema.{no_schema, store_schema, meta_table, shelf_table, access_table, version_table}
use Rattle.tables.specs.Schema.{piece_table, meta_text, shelf_text, access_text, version_text, piece_text}
use Rattle.tables.specs.Causes.{IsExcused}
use Rattle.tables.specs.Means.{schema_named}
use Rattle.tables.proofs.InsertLemmas.{cast_null, cast_int}
use Rattle.tables.proofs.CreateLemmas.{ran_as, makes, put_meta, meta_terms, meta_source, text1, text2, text3, text4}
use Rattle.tables.proofs.CreateLemmas.{text5, text6, text7, first1}
use Rattle.tables.proofs.CreateLemmas.{first2, first3, first4, first5, first6, first7, schema0, schema1, schema2}
use Rattle.tables.proofs.CreateLemmas.{schema3, schema4, schema5, cut1}
use Rattle.tables.proofs.CreateLemmas.{cut2, cut3, cut4, cut5, cut6, cut7, make1, make2, make3, make4, make5, put6}
use Rattle.tables.proofs.CreateLemmas.{put7, meta_row, common_row}
use Rattle.tables.proofs.CauseLemmas.{IsOnItsWay, make_excused, put_excused, turn_or_stop, excused_since, on_its_way}
use Rattle.tables.proofs.CauseLemmas.{further}
use Rattle.tables.proofs.MakeLemmas.{alone1, alone2, alone3, alone4, alone5, alone6, alone7, able1, able2, able3, able4}
use Rattle.tables.proofs.MakeLemmas.{able5, AreEmpty, puts_meta, puts_common}

module _ {S : Type 0} (g : Ghosts S) (start new : Held S) (e : Error) where
  abbrev Way : Held S → Type 0
  Way mid = IsOnItsWay (state g start) (state g mid)

  abbrev Fault : Type 0
  Fault = IsExcused (state g start) (state g new) e

  last_step : (mid : Held S) (most : ℕ) → Way mid → IsTrue mid.in_transaction → (state g mid).now.schema ≡ store_schema
      → (state g mid).now.trees 0 ≡ meta_row ∷ [] → (state g mid).now.trees 2 ≡ [] → AreEmpty (state g mid).now.trees
      → RunInTurn g (Some 0) (suc most) text7 mid new (Err e) → Fault
  last_step mid most way inside has a b empty run =
      elim (turn_or_stop g mid new e text7 first7 [] (lit< tt) cut7.0 cut7.1 inside store_schema has _ put7.0 tt most
      run) [
        | inl stop ↦ excused_since (state g start) (state g mid) (state g new) e way (
            put_excused first7 1 shelf_table refl refl (lit Null ∷ lit (Text (codes "common")) ∷ lit Null ∷ []) 3
            (Null ∷ Text (codes "common") ∷ Null ∷ []) refl
            (λ _. refl) (λ limit db x r. elim r [ inl (is, no') ↦ absurd (true≢false no') | inr (is, some) ↦ some ])
            put7.0 put7.1 alone7 (state g mid) (state g new) e has common_row (rw (b, cast_null) refl)
            (puts_common (state g mid).now.trees a b empty) stop)
        | inr (next, count, step, rest, within) ↦ (let d = rest.0 in absurd (cc))
      ]

  -- an error at or after the row of `meta` is excused
  meta_step : (mid : Held S) (most : ℕ) → Way mid → IsTrue mid.in_transaction → (state g mid).now.schema ≡ store_schema
      → (state g mid).now.trees 0 ≡ [] → (state g mid).now.trees 2 ≡ [] → AreEmpty (state g mid).now.trees
      → RunInTurn g (Some 0) (suc (suc most)) text6 mid new (Err e) → Fault
  meta_step mid most way inside has a b empty run =
      elim (turn_or_stop g mid new e text6 first6 text7 (lit< tt) cut6.0 cut6.1 inside store_schema has _ put6.0 tt
      (suc most) run) [
        | inl stop ↦ excused_since (state g start) (state g mid) (state g new) e way (
            put_excused first6 0 meta_table refl refl meta_terms 3 meta_source refl (λ _. refl)
            (λ limit db x r. elim r [ inl (is, no') ↦ absurd (true≢false no') | inr (is, some) ↦ some ])
            put6.0 put6.1 alone6 (state g mid) (state g new) e has meta_row
            (rw (a, cast_null, cast_int schema_named.1) refl) (puts_meta (state g mid).now.trees a b empty) stop)
        | inr (next, count, step, rest, within) ↦ (
            let it = put_meta (state g mid) (state g next) count has a step.runs in
            let ran = ran_as first6 (state g mid) (state g next) store_schema has _ put6.0 put6.1 count step.runs in
            last_step next most (further (state g start) (state g mid) (state g next) _ way step.survives
            ran.shown.is_open)
            within it.0 it.1
            (it.2 ∙ b) (record {
              access = it.3 ∙ empty.access;
              version = it.4 ∙ empty.version;
              piece = it.5
                  ∙ empty.piece;
            })
            rest)
      ]

  -- an error at or after the statement that makes `piece` is excused
  piece_step : (mid : Held S) (most : ℕ) → Way mid → IsTrue mid.in_transaction → (state g mid).now.schema ≡ schema4
      → (state g mid).now.trees 0 ≡ [] → (state g mid).now.trees 2 ≡ [] → (state g mid).now.trees 4 ≡ []
      → (state g mid).now.trees 6 ≡ []
      → RunInTurn g (Some 0) (suc (suc (suc most))) text5 mid new (Err e) → Fault
  piece_step mid most way inside has a b c d run =
      elim (turn_or_stop g mid new e text5 first5 text6 (lit< tt) cut5.0 cut5.1 inside schema4 has CreateTable make5.0
      tt (suc (suc most)) run) [
        | inl stop ↦ excused_since (state g start) (state g mid) (state g new) e way (
            make_excused schema4 first5 piece_text (record piece_table { tree = 0 }) make5.0 make5.1 alone5.0 alone5.1
            able5
            refl (state g mid) (state g new) e has stop)
        | inr (next, count, step, rest, within) ↦ (
            let it = makes schema4 schema5 first5 (record piece_table { tree = 0 }) make5.0 make5.1 make5.2 make5.3 refl
            (state g mid) (state g next) count has step.runs in
            let ran = ran_as first5 (state g mid) (state g next) schema4 has CreateTable make5.0 make5.1 count
            step.runs in
            meta_step next most (further (state g start) (state g mid) (state g next) _ way step.survives
            ran.shown.is_open)
            within it.0
            (it.2.0 ∙ a) (it.2.1.0 ∙ b) (record { access = it.2.1.1.0 ∙ c; version = it.2.1.1.1.0 ∙ d; piece = it.1 })
            rest)
      ]

  -- an error at or after the statement that makes `version` is excused
  version_step : (mid : Held S) (most : ℕ) → Way mid → IsTrue mid.in_transaction → (state g mid).now.schema ≡ schema3
      → (state g mid).now.trees 0 ≡ [] → (state g mid).now.trees 2 ≡ [] → (state g mid).now.trees 4 ≡ []
      → RunInTurn g (Some 0) (suc (suc (suc (suc most)))) text4 mid new (Err e) → Fault
  version_step mid most way inside has a b c run =
      elim (turn_or_stop g mid new e text4 first4 text5 (lit< tt) cut4.0 cut4.1 inside schema3 has CreateTable make4.0
      tt (suc (suc (suc most))) run) [
        | inl stop ↦ excused_since (state g start) (state g mid) (state g new) e way (
            make_excused schema3 first4 version_text (record version_table { tree = 0 }) make4.0 make4.1 alone4.0
            alone4.1
            able4 refl (state g mid) (state g new) e has stop)
        | inr (next, count, step, rest, within) ↦ (
            let it = makes schema3 schema4 first4 (record version_table { tree = 0 }) make4.0 make4.1 make4.2 make4.3
            refl
            (state g mid) (state g next) count has step.runs in
            let ran = ran_as first4 (state g mid) (state g next) schema3 has CreateTable make4.0 make4.1 count
            step.runs in
            piece_step next most (further (state g start) (state g mid) (state g next) _ way step.survives
            ran.shown.is_open) within it.0 (it.2.0 ∙ a) (it.2.1.0 ∙ b) (it.2.1.1.0 ∙ c) it.1 rest)
      ]

  access_step : (mid : Held S) (most : ℕ) → Way mid → IsTrue mid.in_transaction → (state g mid).now.schema ≡ schema2
      → (state g mid).now.trees 0 ≡ []
      → (state g mid).now.trees 2 ≡ [] → RunInTurn g (Some 0) (suc (suc (suc (suc (suc most))))) text3 mid new (Err e)
      → Fault
  access_step mid most way inside has a b run =
      elim (turn_or_stop g mid new e text3 first3 text4 (lit< tt) cut3.0 cut3.1 inside schema2 has CreateTable make3.0
      tt (suc (suc (suc (suc most)))) run) [
        | inl stop ↦ excused_since (state g start) (state g mid) (state g new) e way (
            make_excused schema2 first3 access_text (record access_table { tree = 0 }) make3.0 make3.1 alone3.0 alone3.1
            able3 refl (state g mid) (state g new) e has stop)
        | inr (next, count, step, rest, within) ↦ (
            let it = makes schema2 schema3 first3 (record access_table { tree = 0 }) make3.0 make3.1 make3.2 make3.3
            refl
            (state g mid) (state g next) count has step.runs in
            let ran = ran_as first3 (state g mid) (state g next) schema2 has CreateTable make3.0 make3.1 count
            step.runs in
            version_step next most (further (state g start) (state g mid) (state g next) _ way step.survives
            ran.shown.is_open) within it.0 (it.2.0 ∙ a) (it.2.1.0 ∙ b) it.1 rest)
      ]

  shelf_step : (mid : Held S) (most : ℕ) → Way mid → IsTrue mid.in_transaction → (state g mid).now.schema ≡ schema1
      → (state g mid).now.trees 0 ≡ []
      → RunInTurn g (Some 0) (suc (suc (suc (suc (suc (suc most)))))) text2 mid new (Err e) → Fault
  shelf_step mid most way inside has a run =
      elim (turn_or_stop g mid new e text2 first2 text3 (lit< tt) cut2.0 cut2.1 inside schema1 has CreateTable make2.0
      tt (suc (suc (suc (suc (suc most))))) run) [
        | inl stop ↦ excused_since (state g start) (state g mid) (state g new) e way (
            make_excused schema1 first2 shelf_text (record shelf_table { tree = 0 }) make2.0 make2.1 alone2.0 alone2.1
            able2 refl (state g mid) (state g new) e has stop)
        | inr (next, count, step, rest, within) ↦ (
            let it = makes schema1 schema2 first2 (record shelf_table { tree = 0 }) make2.0 make2.1 make2.2 make2.3 refl
            (state g mid) (state g next) count has step.runs in
            let ran = ran_as first2 (state g mid) (state g next) schema1 has CreateTable make2.0 make2.1 count
            step.runs in
            access_step next most (further (state g start) (state g mid) (state g next) _ way step.survives
            ran.shown.is_open) within it.0 (it.2.0 ∙ a) it.1 rest)
      ]

  pub all_excused : IsTrue start.in_transaction → (state g start).now.schema ≡ no_schema
      → ExecutesAllInside g 0 text1 start new (Err e) → Fault
  unfolding ExecutesAllInside
  all_excused inside has run =
      elim (turn_or_stop g start new e text1 first1 text2 (lit< tt) cut1.0 cut1.1 inside schema0 has CreateTable make1.0
      tt (length text1 - 1) run) [
        | inl stop ↦ make_excused schema0 first1 meta_text (record meta_table { tree = 0 }) make1.0 make1.1 alone1.0
            alone1.1 able1 refl (state g start) (state g new) e has stop
        | inr (next, count, step, rest, within) ↦ (
            let it = makes schema0 schema1 first1 (record meta_table { tree = 0 }) make1.0 make1.1 make1.2 make1.3 refl
            (state g start) (state g next) count has step.runs in
            let ran = ran_as first1 (state g start) (state g next) schema0 has CreateTable make1.0 make1.1 count
            step.runs in
            shelf_step next (length text1 - 7)
            (on_its_way (state g start) (state g next) _ step.survives ran.shown.is_open)
            within it.0 it.1 rest)
      ]

module _ {S : Type 0} (g : Ghosts S) (start new : Held S) where
  pub excused_if : (r : Result (Unit {0}) Error) → IsTrue start.in_transaction → (state g start).now.schema ≡ no_schema
      → ExecutesAllInside g 0 text1 start new r → IfErr r (IsExcused (state g start) (state g new))
  excused_if (Ok u) inside has run = tt
  excused_if (Err e) inside has run = all_excused g start new e inside has run
