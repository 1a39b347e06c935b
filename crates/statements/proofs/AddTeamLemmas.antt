-- What the INSERT of a shelf does.
use Rattle.std.proofs.Common.{◌≡◌, ℕ, false, List, [], ◌∷◌, Option, Some, None, Ok, refl, sym, ap, subst, ◌∙◌, arith}
use Rattle.std.proofs.Common.{is_some, true≢false, Bor, unwrap_or, option_copied}
use Rattle.sqlite.specs.declared.types.Value.{Value}
use Rattle.sqlite.specs.declared.types.Value.TheVariants.{Null, Int, Text}
use Rattle.sqlite.specs.Order.{Row, column}
use Rattle.sqlite.specs.Values.{or_null, bound_value}
use Rattle.sqlite.specs.Term.{Term, lit, col}
use Rattle.sqlite.specs.Effect.{Database}
use Rattle.sqlite.specs.Edit.{next_rowid}
use Rattle.sqlite.specs.Tree.{Trees}
use Rattle.sqlite.specs.Listing.{understood}
use Rattle.sqlite.specs.Command.{Command}
use Rattle.sqlite.specs.Command.TheVariants.{Insert}
use Rattle.sqlite.specs.Source.TheVariants.{Values}
use Rattle.sqlite.specs.Does.{Tally, Does}
use Rattle.sqlite.specs.State.{State, ExecutesInside}
use Rattle.sqlite.proofs.Callers.{IsPlain, command_of, runs_as}
use Rattle.sqlite_catalog.specs.Listing.{IsSound}
use Rattle.sqlite_rules.specs.Lists.{Has}
use Rattle.sqlite_rules.proofs.ListLemmas.{all_from}
use Rattle.std.specs.FinMap as map
use Rattle.world.specs.declared.registry.RegistryReply.{RegistryReply}
use Rattle.world.specs.declared.registry.RegistryReply.TheVariants.{Done, Name}
use Rattle.world.specs.World.{World, is_team_name, with_shelf, with_team, with_group}
use Rattle.world.specs.Registry.{team_added, group_added, after_team_add, after_group_add}
use Rattle.world.proofs.Orders.{texts_total, texts_exact, get_put}
use Rattle.world.proofs.Sound.{new_team, new_group}
use Rattle.tables.specs.Schema.{store_schema, shelf_table}
use Rattle.tables.specs.Means.{Holds, Means, IsShelf, Tabulates}
use Rattle.statements.specs.Rows.{Filling}
use Rattle.statements.specs.Extract.{PutsShelf}
use Rattle.statements.specs.Views.{with_team_added, with_group_added}
use Rattle.tables.proofs.InsertLemmas.{Inserted, inserted, enforced, cast_null}
use Rattle.statements.proofs.AddEntryLemmas.{cast_text}
use Rattle.statements.proofs.WriteLemmas.{Rewrites}
use Rattle.statements.proofs.TabulateLemmas.{tabulates_put, put_apart}
use Rattle.tables.proofs.Maps.{put_keeps, put_splits}

abbrev terms : List Term
terms = lit Null ∷ col 0 0 ∷ col 0 1 ∷ []

abbrev pub shelf_insert : Command
shelf_insert = Insert 1 (Values terms 3)

abbrev pub shelf_params : List ℕ → Option (List ℕ) → Row
shelf_params name parent = Text name ∷ or_null Text parent ∷ []

-- a borrowed parent is bound as its text, and None as NULL
pub parent_bound : (parent : Option (Bor (List ℕ)))
    → bound_value (or_null (λ (p : Bor (List ℕ)). Text p.now) parent) ≡ or_null Text (option_copied parent)
parent_bound None = refl
parent_bound (Some p) = refl

-- a borrowed group, or another borrowed shelf without one, has the text of the copied group, or of that shelf
pub lent_or : (group : Option (Bor (List ℕ))) (other : Bor (List ℕ))
    → (unwrap_or group other).now ≡ unwrap_or (option_copied group) other.now
lent_or None other = refl
lent_or (Some g) other = refl

module _ (name : List ℕ) (parent : Option (List ℕ)) where
  added : (limit : Option ℕ) (db : Database) (text : List ℕ) (tally : Tally) (after : Database)
      → db.schema ≡ store_schema
      → Does limit enforced (shelf_params name parent) db text None shelf_insert (Ok (tally, after))
      → (after.schema ≡ store_schema)
      × Inserted db.trees after.trees shelf_table (Int (next_rowid (db.trees 2)) ∷ shelf_params name parent)
  added limit db text tally after has h =
      let it = inserted limit shelf_table refl (shelf_params name parent) terms 3 (Null ∷ shelf_params name parent) refl
      (λ _. refl) 1 refl db text tally after has h in
      (it.0, rw (cast_null, cast_text parent) at it.1)

  module _ (w : World) (free : map.get w.shelves name ≡ None) where
    -- no row of the tables has the name of the shelf
    name_free : (rows : List Row) → Tabulates IsShelf rows (λ it. map.get w.shelves it.0 ≡ Some it.1) → (id : Value)
        → (r : Row) → Has rows r → (n : List ℕ) → column (id ∷ shelf_params name parent) 1 ≡ Text n
        → column r 1 ≡ Text n → ⊥
    name_free rows tabulated id r there n is also =
        let it = tabulated.each r there in
        let same : it.0.0 ≡ name = let e = sym it.1.0 ∙ (also ∙ sym is) in cc in
        let none : ◌≡◌ {A = Option (Option (List ℕ))} (Some it.0.1) None = sym it.2
        ∙ (ap (map.get w.shelves) same ∙ free) in absurd (cc)

    -- with one more row, of a shelf that was not there
    pub shelf_means : (db after : Trees)
        → Inserted db after shelf_table (Int (next_rowid (db 2)) ∷ shelf_params name parent) → Means db w
        → Means after (with_shelf w name parent)
    shelf_means db after it means = record {
      named = rw (it.tables.0 (λ e. omega (arith, e))) means.named;
      shelves = rw it.rows (tabulates_put IsShelf (db 2) _ (name, parent) _ _ it.fresh (refl, refl)
          (λ y. put_keeps texts_total texts_exact w.shelves name parent free y.0 y.1)
          (get_put texts_total w.shelves name parent) (put_splits texts_total texts_exact w.shelves name parent)
          means.shelves);
      access = rw (it.tables.1.1.0 (λ e. omega (arith, e))) means.access;
      numbered = rw (it.tables.1.1.0 (λ e. omega (arith, e))) means.numbered;
      entries = rw (it.tables.1.1.1.0 (λ e. omega (arith, e)), it.tables.1.1.1.1.0 (λ e. omega (arith, e)))
          means.entries;
      names = rw it.rows (put_apart (λ a b. (n : List ℕ) → column a 1 ≡ Text n → column b 1 ≡ Text n → ⊥)
          (λ a b apart n also is. apart n is also) _ (db 2)
          (all_from _ (db 2) (name_free (db 2) means.shelves (Int (next_rowid (db 2))))) means.names);
      tokens = rw (it.tables.1.1.0 (λ e. omega (arith, e))) means.tokens;
      places = rw (it.tables.1.1.1.0 (λ e. omega (arith, e))) means.places;
      pieces = rw (it.tables.1.1.1.1.0 (λ e. omega (arith, e))) means.pieces;
    }

    pub add_shelf_turns : (old : State) → Holds old w
        → Rewrites (shelf_params name parent) shelf_insert old (with_shelf w name parent)
    add_shelf_turns old h text tally after does = let it =
        added old.step_limit old.now text tally after h.schema does in
        (it.0, shelf_means old.now.trees after.trees it.1 h.trees.means)

-- ---- what is asked for

none_is : {X : Type 0} (o : Option X) → is_some o ≡ false → o ≡ None
none_is None e = refl
none_is (Some x) e = absurd (true≢false e)

module _ (w : World) (name : List ℕ) (group : Option (List ℕ)) where
  pub team_same : (r : RegistryReply) → r ≡ team_added w name group → (r ≡ Done → ⊥) → with_team_added name group w ≡ w
  team_same r is other = go (team_added w name group) (λ e. other (is ∙ e))
    where
      go : (q : RegistryReply) → (q ≡ Done → ⊥) → after_team_add w name group q ≡ w
      go Done other = absurd (other refl)
      go _ other = refl

  pub team_new : team_added w name group ≡ Done → with_team_added name group w ≡ with_team w name group
  team_new h = ap (λ (q : RegistryReply). after_team_add w name group q) h

  pub team_free : team_added w name group ≡ Done → map.get w.shelves name ≡ None
  team_free h = none_is (map.get w.shelves name) (new_team w name group h).1

module _ (w : World) (name : List ℕ) where
  pub group_same : (r : RegistryReply) → r ≡ group_added w name → (r ≡ Done → ⊥) → with_group_added name w ≡ w
  group_same r is other = go (group_added w name) (λ e. other (is ∙ e))
    where
      go : (q : RegistryReply) → (q ≡ Done → ⊥) → after_group_add w name q ≡ w
      go Done other = absurd (other refl)
      go _ other = refl

  pub group_new : group_added w name ≡ Done → with_group_added name w ≡ with_group w name
  group_new h = ap (λ (q : RegistryReply). after_group_add w name q) h

  pub group_free : group_added w name ≡ Done → map.get w.shelves name ≡ None
  group_free h = none_is (map.get w.shelves name) (new_group w name h).1

pub misnamed_team : (w : World) (name : List ℕ) (group : Option (List ℕ)) → is_team_name name ≡ false
    → Name ≡ team_added w name group
misnamed_team w name group wrong = rw wrong refl

pub misnamed_group : (w : World) (name : List ℕ) → is_team_name name ≡ false → Name ≡ group_added w name
misnamed_group w name wrong = rw wrong refl

-- an INSERT of a shelf inside a transaction puts in the shelf with its parent
pub shelf_put : (sql : List ℕ) → command_of (understood store_schema sql) ≡ shelf_insert
    → IsPlain (understood store_schema sql)
    → (old new : State) (name : List ℕ) (parent : Option (List ℕ)) (count : ℕ) → Filling old
    → ExecutesInside 0 sql (shelf_params name parent) old new (Ok count)
    → PutsShelf name parent old.now.trees new.now.trees × Filling new
shelf_put sql is plain old new name parent count filling ran =
    let wrote = runs_as sql (shelf_params name parent) old new store_schema filling.schema _ is plain count ran.0 in
    let it = added name parent old.step_limit old.now [] wrote.tally new.now filling.schema wrote.changed in
    let sound = subst (λ s. IsSound s new.now.trees) it.0 wrote.sound in (
      λ x stand free. record {
        sound = sound;
        means =
            shelf_means name parent x free old.now.trees new.now.trees it.1 stand.means;
      },
      record { schema = it.0; sound = sound; is_open = wrote.shown.is_open; inside = ran.1.mode },
    )
