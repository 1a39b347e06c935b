-- The rows of `shelf`: each but common becomes a team without a group.
use Rattle.std.proofs.Common.{◌≡◌, ◌⊎◌, ◌∙◌, ℕ, true, false, cond, List, [], ◌∷◌, Option, Some, None, is_some, inl, inr}
use Rattle.std.proofs.Common.{refl, sym, ap, subst, true≢false}
use Rattle.std.specs.Prelude.{bytes_eq}
use Rattle.std.specs.FinMap as map
use Rattle.std.specs.FinSet as set
use Rattle.std.proofs.lemmas.Bool.{and_parts, not-true}
use Rattle.sqlite.specs.declared.types.Value.TheVariants.{Text}
use Rattle.sqlite.specs.Order.{Row, column}
use Rattle.sqlite.specs.Tree.{Trees}
use Rattle.sqlite_rules.specs.Lists.{Has}
use Rattle.world.specs.World.{World, IsWorld, common, text_cmp, is_team_name, only_common, with_shelf}
use Rattle.world.proofs.OnlyCommon.{only_common_stands}
use Rattle.world.proofs.Orders.{texts_total, texts_exact, get_put}
use Rattle.world.proofs.Sound.{shelf_stands, still}
use Rattle.tables.specs.Means.{StandFor}
use Rattle.tables.proofs.Maps.{text_put, text_splits, no_text, none_in_empty, put_keeps, put_splits}
use Rattle.tables.proofs.OneWorld.{texts_same}
use Rattle.statements.specs.Lookup.{AreFound}
use Rattle.older.specs.Means.{IsShelf, parent_of}
use Rattle.older_rows.specs.declared.shelves.ShelfRows.{ShelfRows}
use Rattle.older_rows.specs.Visits.{Visits}
use Rattle.older_rows.specs.Registry.{IsCommonRow, IsTeamRow, PutsShelves}
use Rattle.older_rows.proofs.ListedLemmas.{shelf_columns}

abbrev pub Puts : ShelfRows → Row → Trees → ShelfRows → Trees → Type 0
Puts so_far row db next after =
    (IsCommonRow row db after × ((next.names ≡ so_far.names) × (next.has_common ≡ true)))
    ⊎ (IsTeamRow so_far.names row db after next.names × (next.has_common ≡ so_far.has_common))

-- ---- a world of common and these teams

abbrev Names : Type 0
Names = set.FinSet text_cmp

record HasTeams (names : Names) (x : World) : Type 0 where
  is : IsWorld x
  each : (s : List ℕ) (o : Option (List ℕ)) → map.get x.shelves s ≡ Some o
      → ((s ≡ common) × (o ≡ None)) ⊎ ((set.contains names s ≡ true) × (o ≡ Some common))
  noted : (s : List ℕ) → set.contains names s ≡ true → map.get x.shelves s ≡ Some (Some common)
  keys : x.keys ≡ map.empty
  entries : x.entries ≡ map.empty

abbrev Shelf : Type 0
Shelf = List ℕ × Option (List ℕ)

shelf_fields : (a b : Shelf) → a ≡ b → (a.0 ≡ b.0) × (a.1 ≡ b.1)
shelf_fields a b e = (ap (λ (p : Shelf). p.0) e, ap (λ (p : Shelf). p.1) e)

-- a world of `common` alone has no teams
no_teams : (names : Names) → names ≡ set.empty → HasTeams names only_common
no_teams names none = record {
  is = only_common_stands;
  each = λ s o at. elim (put_splits texts_total texts_exact map.empty common None (s, o) at) [
    | inl here ↦ inl (shelf_fields (s, o) (common, None) here)
    | inr before ↦ absurd (none_in_empty text_cmp s o before)
  ];
  noted = λ s there. absurd (no_text s (ap (λ (n : Names). set.contains n s) (sym none) ∙ there));
  keys = refl;
  entries = refl;
}

-- `common` is not the name of a team
not_common : (s : List ℕ) → is_team_name s ≡ true → s ≡ common → ⊥
not_common s good same = true≢false (sym good ∙ ap is_team_name same)

module _ (names : Names) (x : World) (has : HasTeams names x) (name : List ℕ) (good : is_team_name name ≡ true)
    (new : set.contains names name ≡ false) where
  free : map.get x.shelves name ≡ None
  free = go (map.get x.shelves name) refl
    where
      go : (o : Option (Option (List ℕ))) → map.get x.shelves name ≡ o → o ≡ None
      go None at = refl
      go (Some o) at = elim (has.each name o at) [
        | inl top ↦ absurd (not_common name good top.0)
        | inr team ↦ absurd (true≢false (sym team.0 ∙ new))
      ]

  -- a world of `common` and some teams, with one more team, is a world of `common` and these teams
  one_team : (more : Names) → more ≡ set.insert names name → HasTeams more (with_shelf x name (Some common))
  one_team more is = record {
    is = shelf_stands x name (Some common) (ap is_some free) has.is good
        (λ g same. let e : common ≡ g = cc same in subst (λ t. map.get x.shelves t ≡ Some None) e has.is.has_common);
    each = λ s o at. elim (put_splits texts_total texts_exact x.shelves name (Some common) (s, o) at) [
      | inl here
          ↦ (let it = shelf_fields (s, o) (name, Some common) here in
          inr (
            ap (λ (n : Names). set.contains n s) is
                ∙ (ap (set.contains (set.insert names name)) it.0 ∙ text_put names name),
            it.1,
          ))
      | inr before ↦ elim (has.each s o before) [
        | inl top ↦ inl top
        | inr team ↦ inr (ap (λ (n : Names). set.contains n s) is ∙ still names name s team.0, team.1)
      ]
    ];
    noted = λ s there. elim (text_splits names name s (ap (λ (n : Names). set.contains n s) (sym is) ∙ there)) [
      | inl here ↦ subst (λ t. map.get (map.insert x.shelves name (Some common)) t ≡ Some (Some common)) (sym here)
          (get_put texts_total x.shelves name (Some common))
      | inr before ↦ put_keeps texts_total texts_exact x.shelves name (Some common) free s (Some common)
          (has.noted s before)
    ];
    keys = has.keys;
    entries = has.entries;
  }

-- ---- the rows, one after another

-- a team that is noted stays noted
grown : (so_far : ShelfRows) (db : Trees) (rows : List Row) (end : ShelfRows) (after : Trees)
    → Visits Puts so_far db rows end after → (s : List ℕ) → set.contains so_far.names s ≡ true
    → set.contains end.names s ≡ true
grown so_far db [] end after same s there = ap (λ (x : ShelfRows). set.contains x.names s) same.0 ∙ there
grown so_far db (r ∷ rows) end after visited s there =
    grown visited.0 visited.1 rows end after visited.3 s (elim visited.2 [
      | inl top ↦ ap (λ (n : Names). set.contains n s) top.1.0 ∙ there
      | inr team ↦ ap (λ (n : Names). set.contains n s) team.0.noted ∙ still so_far.names team.0.name s there
    ])

-- the tables stand for a world of the teams that have come
stood : (so_far : ShelfRows) (db : Trees) (rows : List Row) (end : ShelfRows) (after : Trees)
    → Visits Puts so_far db rows end after → (x : World) → HasTeams so_far.names x → StandFor db x
    → (y : World) × HasTeams end.names y × StandFor after y
stood so_far db [] end after same x has stand =
    (x, subst (λ (k : ShelfRows). HasTeams k.names x) (sym same.0) has, subst (λ t. StandFor t x) (sym same.1) stand)
stood so_far db (r ∷ rows) end after visited x has stand = elim visited.2 [
  | inl top ↦ stood visited.0 visited.1 rows end after visited.3 x
      (subst (λ (n : Names). HasTeams n x) (sym top.1.0) has) (subst (λ t. StandFor t x) (sym top.0.1) stand)
  | inr team ↦
      let it = team.0 in
      stood visited.0 visited.1 rows end after visited.3 (with_shelf x it.name (Some common))
      (one_team so_far.names x has it.name it.good it.new visited.0.names it.noted)
      (it.puts x stand (free so_far.names x has it.name it.good it.new))
]

-- a row is of common, or of a team that is noted at the end
abbrev IsNoted : Names → Row → Type 0
IsNoted names row = (column row 0 ≡ Text common)
    ⊎ ((name : List ℕ) × (column row 0 ≡ Text name) × (is_team_name name ≡ true) × (set.contains names name ≡ true))

noted_all : (so_far : ShelfRows) (db : Trees) (rows : List Row) (end : ShelfRows) (after : Trees)
    → Visits Puts so_far db rows end after → (row : Row) → Has rows row → IsNoted end.names row
noted_all so_far db [] end after same row there = absurd there
noted_all so_far db (r ∷ rows) end after visited row (inr later) =
    noted_all visited.0 visited.1 rows end after visited.3 row later
noted_all so_far db (r ∷ rows) end after visited row (inl here) = subst (IsNoted end.names) (sym here) (elim visited.2 [
  | inl top ↦ inl top.0.0
  | inr team ↦
      let it = team.0 in
      inr (
        it.name,
        it.shows,
        it.good,
        grown visited.0 visited.1 rows end after visited.3 it.name
            (ap (λ (n : Names). set.contains n it.name) it.noted ∙ text_put so_far.names it.name),
      )
])

-- a row shows this name
abbrev HasRow : List Row → List ℕ → Type 0
HasRow rows s = (row : Row) × Has rows row × (column row 0 ≡ Text s)

-- a team that is noted at the end was noted at the start, or a row shows it
came : (so_far : ShelfRows) (db : Trees) (rows : List Row) (end : ShelfRows) (after : Trees)
    → Visits Puts so_far db rows end after
    → (s : List ℕ) → set.contains end.names s ≡ true → (set.contains so_far.names s ≡ true) ⊎ HasRow rows s
came so_far db [] end after same s there = inl (ap (λ (x : ShelfRows). set.contains x.names s) (sym same.0) ∙ there)
came so_far db (r ∷ rows) end after visited s there = elim (came visited.0 visited.1 rows end after visited.3 s there) [
  | inr later ↦ inr (later.0, inr later.1, later.2)
  | inl noted ↦ elim visited.2 [
    | inl top ↦ inl (ap (λ (n : Names). set.contains n s) (sym top.1.0) ∙ noted)
    | inr team ↦ elim (text_splits so_far.names team.0.name s
        (ap (λ (n : Names). set.contains n s) (sym team.0.noted) ∙ noted)) [
          | inl here ↦ inr (r, inl refl, team.0.shows ∙ ap Text (sym here))
          | inr before ↦ inl before
        ]
  ]
]

-- if `common` is there after a walk, it was there before or came from one of the rows
top_came : (so_far : ShelfRows) (db : Trees) (rows : List Row) (end : ShelfRows) (after : Trees)
    → Visits Puts so_far db rows end after → end.has_common ≡ true → (so_far.has_common ≡ true) ⊎ HasRow rows common
top_came so_far db [] end after same has = inl (ap (λ (x : ShelfRows). x.has_common) (sym same.0) ∙ has)
top_came so_far db (r ∷ rows) end after visited has = elim (top_came visited.0 visited.1 rows end after visited.3 has) [
  | inr later ↦ inr (later.0, inr later.1, later.2)
  | inl noted ↦ elim visited.2 [
    | inl top ↦ inr (r, inl refl, top.0.0)
    | inr team ↦ inl (sym team.1 ∙ noted)
  ]
]

-- ---- the shelves of the old tables

-- the parent of a team is `common`
parent_common : (s : List ℕ) → is_team_name s ≡ true → parent_of s ≡ Some common
parent_common s good = ap (λ b. cond b None (Some common)) (not-true (bytes_eq s common) (and_parts _ _ good).1)

module _ (old : Trees) (so_far end : ShelfRows) (db after : Trees) (rows : List Row) (new : so_far.names ≡ set.empty)
    (unseen : so_far.has_common ≡ false) (has : end.has_common ≡ true)
    (found : AreFound (old 2) [] shelf_columns [] rows) (visited : Visits Puts so_far db rows end after) where
  of_row : (y : World) → HasTeams end.names y → (row : Row) → Has (old 2) row
      → (it : List ℕ × Option (List ℕ)) × IsShelf row it × (map.get y.shelves it.0 ≡ Some it.1)
  of_row y teams row there = elim (noted_all so_far db rows end after visited _ (found.complete row there refl)) [
    | inl top ↦ ((common, None), (top, refl), teams.is.has_common)
    | inr team ↦ ((team.0, Some common), (team.1, sym (parent_common team.0 team.2)), teams.noted team.0 team.3)
  ]

  row_of : (s : List ℕ) → HasRow rows s → (row : Row) × Has (old 2) row × (column row 1 ≡ Text s)
  row_of s it = let from = found.sound it.0 it.1 in (from.0, from.1, ap (λ (r : Row). column r 0) (sym from.3) ∙ it.2)

  -- each shelf of the world has a row, and its parent is the one that its name determines
  of_shelf : (y : World) → HasTeams end.names y → (it : List ℕ × Option (List ℕ)) → map.get y.shelves it.0 ≡ Some it.1
      → (row : Row) × Has (old 2) row × IsShelf row it
  of_shelf y teams it at = elim (teams.each it.0 it.1 at) [
    | inl top ↦ elim (top_came so_far db rows end after visited has) [
      | inl before ↦ absurd (true≢false (sym before ∙ unseen))
      | inr came ↦ (let row = row_of common came in
          (row.0, row.1, (row.2 ∙ ap Text (sym top.0), top.1 ∙ ap parent_of (sym top.0))))
    ]
    | inr team ↦ elim (came so_far db rows end after visited it.0 team.0) [
      | inl before ↦ absurd (no_text it.0 (ap (λ (n : Names). set.contains n it.0) (sym new) ∙ before))
      | inr came ↦
          let row = row_of it.0 came in
          let own = of_row y teams row.0 row.1 in
          let name : own.0.0 ≡ it.0 = texts_same (column row.0 1) it.0 own.0.0 row.2 own.1.0 in
          let same : own.0.1 ≡ it.1 = let e : ◌≡◌ {A = Option (Option (List ℕ))} (Some own.0.1) (Some it.1) = sym own.2
          ∙ (ap (map.get y.shelves) name ∙ at) in cc in
          (row.0, row.1, (row.2, sym same ∙ (own.1.1 ∙ ap parent_of name)))
    ]
  ]

  pub puts_shelves : PutsShelves old db after
  puts_shelves blank =
      let it = stood so_far db rows end after visited only_common (no_teams so_far.names new) blank in
      record {
        world = it.0;
        is = it.1.is;
        shelves = record { each = of_row it.0 it.1; found = of_shelf it.0 it.1 };
        keys = it.1.keys;
        entries = it.1.entries;
        stands = it.2;
      }
