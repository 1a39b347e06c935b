-- What the INSERT of a key does.
use Rattle.std.proofs.Common.{◌≡◌, ℕ, pos, Bool, true, false, cond, List, [], ◌∷◌, Option, Some, None, Ok, refl, sym}
use Rattle.std.proofs.Common.{ap, ◌∙◌, true≢false, arith, is_some, not}
use Rattle.sqlite.specs.declared.types.Value.{Value}
use Rattle.sqlite.specs.declared.types.Value.TheVariants.{Null, Int, Text}
use Rattle.sqlite.specs.Order.{Row, column}
use Rattle.sqlite.specs.Term.{Term, lit, col}
use Rattle.sqlite.specs.Effect.{Database}
use Rattle.sqlite.specs.Edit.{next_rowid}
use Rattle.sqlite.specs.Tree.{Trees}
use Rattle.sqlite.specs.Command.TheVariants.{Insert}
use Rattle.sqlite.specs.Source.TheVariants.{Values}
use Rattle.sqlite.specs.Does.{Tally, Does}
use Rattle.sqlite.specs.State.{State}
use Rattle.tables.specs.Schema.{store_schema, access_table}
use Rattle.std.specs.FinMap as map
use Rattle.world.specs.declared.entry.Holder.{Holder}
use Rattle.world.specs.declared.entry.Right.{Right}
use Rattle.world.specs.declared.registry.RegistryReply.{RegistryReply}
use Rattle.world.specs.declared.registry.RegistryReply.TheVariants.{Done, Name, Taken, NoTeam, NoKey, NoGroup}
use Rattle.world.specs.World.{World, with_key, is_key}
use Rattle.world.specs.Registry.{key_added, after_key_add}
use Rattle.world.proofs.Orders.{texts_total, texts_exact, get_put}
use Rattle.tables.specs.Means.{may_publish, Holds, Means, IsAccess, Tabulates}
use Rattle.statements.specs.Views.{with_key_added}
use Rattle.tables.proofs.InsertLemmas.{Inserted, inserted, cast_null, cast_int}
use Rattle.statements.proofs.WriteLemmas.{Rewrites}
use Rattle.statements.proofs.TabulateLemmas.{tabulates_put, numbered_put, put_apart}
use Rattle.sqlite_rules.specs.Lists.{Has}
use Rattle.sqlite_rules.proofs.ListLemmas.{all_from}
use Rattle.tables.proofs.Maps.{put_keeps, put_splits}

abbrev pub terms : List Term
terms = lit Null ∷ col 0 0 ∷ col 0 1 ∷ col 0 2 ∷ []

abbrev pub key_params : List ℕ → Holder → Row
key_params token g = Text token ∷ Text g.shelf ∷ Int (cond (may_publish g.right) (pos 1) (pos 0)) ∷ []

module _ (limit : Option ℕ) (token : List ℕ) (g : Holder) where
  source : Row
  source = Null ∷ key_params token g

  pub added : (db : Database) (text : List ℕ) (tally : Tally) (after : Database) → db.schema ≡ store_schema
      → Does limit Rattle.tables.proofs.InsertLemmas.enforced (key_params token g) db text None
      (Insert 2 (Values terms 4)) (Ok (tally, after))
      → (after.schema ≡ store_schema)
      × Inserted db.trees after.trees access_table (Int (next_rowid (db.trees 4)) ∷ key_params token g)
  added db text tally after has h =
      let it = inserted limit access_table refl (key_params token g) terms 4 (Null ∷ key_params token g) refl
      (λ _. refl) 2 refl db text tally after has h in
      (it.0, rw (cast_null, cast_int _) at it.1)

module _ (w : World) (token : List ℕ) (g : Holder) (unused : map.get w.keys token ≡ None) where
  -- no row of the tables has the key
  token_free : (rows : List Row) → Tabulates IsAccess rows (λ it. map.get w.keys it.0 ≡ Some it.1) → (id : Value)
      → (r : Row) → Has rows r → (t : List ℕ) → column (id ∷ key_params token g) 1 ≡ Text t → column r 1 ≡ Text t → ⊥
  token_free rows tabulated id r there t is also =
      let it = tabulated.each r there in
      let same : it.0.0 ≡ token = let e = sym it.1.0 ∙ (also ∙ sym is) in cc in
      let none : ◌≡◌ {A = Option Holder} (Some it.0.1) None = sym it.2
      ∙ (ap (map.get w.keys) same ∙ unused) in absurd (cc)

  -- with one more row, of a key that was not there
  pub key_means : (db after : Trees) → Inserted db after access_table (Int (next_rowid (db 4)) ∷ key_params token g)
      → Means db w → Means after (with_key w token g)
  key_means db after it means = record {
    named = rw (it.tables.0 (λ e. omega (arith, e))) means.named;
    shelves = rw (it.tables.1.0 (λ e. omega (arith, e))) means.shelves;
    access = rw it.rows (tabulates_put IsAccess (db 4) _ (token, g) _ _ it.fresh (refl, refl, refl)
        (λ y. put_keeps texts_total texts_exact w.keys token g unused y.0 y.1) (get_put texts_total w.keys token g)
        (put_splits texts_total texts_exact w.keys token g) means.access);
    numbered = rw it.rows (numbered_put (db 4) (next_rowid (db 4)) _ refl it.fresh means.numbered);
    entries = rw (it.tables.1.1.1.0 (λ e. omega (arith, e)), it.tables.1.1.1.1.0 (λ e. omega (arith, e))) means.entries;
    names = rw (it.tables.1.0 (λ e. omega (arith, e))) means.names;
    tokens = rw it.rows (put_apart (λ a b. (t : List ℕ) → column a 1 ≡ Text t → column b 1 ≡ Text t → ⊥)
        (λ a b apart t also is. apart t is also) _ (db 4)
        (all_from _ (db 4) (token_free (db 4) means.access (Int (next_rowid (db 4))))) means.tokens);
    places = rw (it.tables.1.1.1.0 (λ e. omega (arith, e))) means.places;
    pieces = rw (it.tables.1.1.1.1.0 (λ e. omega (arith, e))) means.pieces;
  }

  pub add_key_turns : (old : State) → Holds old w
      → Rewrites (key_params token g) (Insert 2 (Values terms 4)) old (with_key w token g)
  add_key_turns old h text tally after does = let it =
      added old.step_limit token g old.now text tally after h.schema does in
      (it.0, key_means old.now.trees after.trees it.1 h.trees.means)

is_done : RegistryReply → Bool
is_done Done = true
is_done r = false

module _ (w : World) (shelf token : List ℕ) (right : Right) where
  -- a command to add a key that is not `Done` leaves the world as it is
  pub added_same : (r : RegistryReply) → r ≡ key_added w shelf token → (r ≡ Done → ⊥)
      → with_key_added shelf token right w ≡ w
  added_same r is other = go (key_added w shelf token) (λ e. other (is ∙ e))
    where
      go : (q : RegistryReply) → (q ≡ Done → ⊥) → after_key_add w shelf token right q ≡ w
      go Done other = absurd (other refl)
      go Name other = refl
      go Taken other = refl
      go NoTeam other = refl
      go NoKey other = refl
      go NoGroup other = refl

  pub added_new : key_added w shelf token ≡ Done
      → with_key_added shelf token right w ≡ with_key w token (record { shelf = shelf; right = right })
  added_new h = ap (λ (q : RegistryReply). after_key_add w shelf token right q) h

  pub unused_from : key_added w shelf token ≡ Done → map.get w.keys token ≡ None
  unfolding is_done
  unused_from h = go (is_key token) (map.contains_key w.shelves shelf) (map.get w.keys token) refl h
    where
      go : (a b : Bool) (o : Option Holder) → map.get w.keys token ≡ o
          → cond (not a) Name (cond (not b) NoTeam (cond (is_some o) Taken Done)) ≡ Done → map.get w.keys token ≡ None
      go true true None is h = is
      go true true (Some x) is h = absurd (true≢false (sym (ap is_done h)))
      go true false o is h = absurd (true≢false (sym (ap is_done h)))
      go false b o is h = absurd (true≢false (sym (ap is_done h)))

pub misnamed : (w : World) (shelf token : List ℕ) → is_key token ≡ false → Name ≡ key_added w shelf token
misnamed w shelf token wrong = rw wrong refl
