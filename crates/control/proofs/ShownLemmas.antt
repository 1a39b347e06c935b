-- What the notice of an order shows of its names.
use Rattle.std.proofs.Common.{◌≡◌, ℕ, Bool, true, false, not, List, ◌++◌, Option, Some, None, Ok, Err, inl, inr}
use Rattle.std.proofs.Common.{refl, sym, ap, ◌∙◌}
use Rattle.std.proofs.lemmas.Bool.{false≢true, true≢false, and_parts, not-false, or_left}
use Rattle.std.specs.Cmp.{tied_itself}
use Rattle.std.specs.FinMap as map
use Rattle.std.specs.Ordering.{is_eq}
use Rattle.std.specs.Prelude.{bytes_eq, codes, if◌then◌else◌, is_some, option_copied, unwrap_or}
use Rattle.machine.specs.Machine.{after}
use Rattle.world.specs.Registry.{after_group_add, after_key_add, after_keys_revoke, after_team_add, is_group, is_top}
use Rattle.world.specs.Registry.{lacks_group, team_added}
use Rattle.world.specs.World.{World, common, is_key, is_team_name, with_shelf}
use Rattle.world.specs.declared.entry.Right.{Right}
use Rattle.world.specs.declared.registry.RegistryReply.{RegistryReply}
use Rattle.world.specs.declared.registry.StoreFault.{StoreFault}
use Rattle.world.specs.declared.registry.RegistryReply.TheVariants.{Done, Name, Taken, NoTeam, NoGroup}
use Rattle.world.proofs.Orders.{texts_total}
use Rattle.world.proofs.Sound.{has_put, stands_still, top_is}
use Rattle.control.specs.Notices.{Answer, AreAlike, AreGroupsAlike, AreNamesAlike, IsNoShelf, behind_team, has_group}
use Rattle.control.specs.Notices.{ShowsNoneAfterFault, ShowsOnlyShelves, has_shelf, name_if}
use Rattle.control.specs.Notices.{outcome_line, shown_words}
use Rattle.control.specs.Outcome.{outcome_of}
use Rattle.control.specs.RegistryCommand.{event_of, outcome_in}
use Rattle.orders.specs.declared.command.RegistryCommand.{RegistryCommand}
use Rattle.orders.specs.declared.command.RegistryCommand.TheVariants.{TeamAdd, GroupAdd, KeyAdd}
use Rattle.orders.specs.declared.command.RegistryCommand.TheVariants.{KeyRevoke, KeysRevoke}

-- ---- a name that is shown is not none

abbrev Excludes : (List ℕ → Type 0) → Bool → List ℕ → Type 0
Excludes is_none has name = has ≡ true → ¬ is_none name

abbrev ExcludesIf : (List ℕ → Type 0) → Bool → Option (List ℕ) → Type 0
ExcludesIf is_none has None = Unit {0}
ExcludesIf is_none has (Some name) = Excludes is_none has name

abbrev Knows : (List ℕ → Type 0) → Answer → RegistryCommand → Type 0
Knows is_none told (TeamAdd name group) =
    Excludes is_none (has_shelf told) name.now × ExcludesIf is_none (has_group told) (option_copied group)
Knows is_none told (GroupAdd name) = Excludes is_none (has_shelf told) name.now
Knows is_none told (KeyAdd shelf key right) = Excludes is_none (has_shelf told) shelf.now
Knows is_none told (KeyRevoke key) = Unit {0}
Knows is_none told (KeysRevoke shelf) = Excludes is_none (has_shelf told) shelf.now

-- ---- then the words of two commands that are alike are the same

module _ (is_none : List ℕ → Type 0) where
  names_alike : (has : Bool) (one two : List ℕ) → AreNamesAlike is_none one two → Excludes is_none has one
      → name_if has one ≡ name_if has two
  names_alike has one two (inl same) shown = ap (name_if has) same
  names_alike true one two (inr none) shown = absurd (shown refl none.0)
  names_alike false one two (inr none) shown = refl

  groups_alike : (told : Answer) (one two : Option (List ℕ)) → AreGroupsAlike is_none one two
      → ExcludesIf is_none (has_group told) one → behind_team told one ≡ behind_team told two
  groups_alike told None None alike shown = refl
  groups_alike told None (Some two) alike shown = absurd alike
  groups_alike told (Some one) None alike shown = absurd alike
  groups_alike told (Some one) (Some two) alike shown =
      ap (λ n. codes " " ++ n) (names_alike (has_group told) one two alike shown)

  words_alike : (told : Answer) (one two : RegistryCommand) → AreAlike is_none one two → Knows is_none told one
      → shown_words one told ≡ shown_words two told
  words_alike told (TeamAdd name group) (TeamAdd other group_too) alike knows =
      rw (names_alike (has_shelf told) name.now other.now alike.0 knows.0)
      (rw (groups_alike told (option_copied group) (option_copied group_too) alike.1 knows.1) refl)
  words_alike told (GroupAdd name) (GroupAdd other) alike knows =
      ap (λ n. codes "group-add " ++ n) (names_alike (has_shelf told) name.now other.now alike knows)
  words_alike told (KeyAdd shelf key right) (KeyAdd other key_too right_too) alike knows =
      rw (names_alike (has_shelf told) shelf.now other.now alike.0 knows) (rw (alike.1) (rw (alike.2) refl))
  words_alike told (KeyRevoke key) (KeyRevoke other) alike knows = ap (λ f. codes "key-revoke " ++ f) alike
  words_alike told (KeysRevoke shelf) (KeysRevoke other) alike knows =
      ap (λ n. codes "keys-revoke " ++ n) (names_alike (has_shelf told) shelf.now other.now alike knows)
  words_alike told one two alike knows = absurd alike

-- ---- what a reply of the machine says

-- a shelf that was put is there
put_there : (w : World) (s : List ℕ) (parent : Option (List ℕ))
    → map.contains_key (with_shelf w s parent).shelves s ≡ true
put_there w s parent = has_put w s parent s ∙ or_left _ _ (ap is_eq (tied_itself texts_total s))

abbrev team_reply : Bool → Bool → Bool → RegistryReply
team_reply named taken lacks = if not named then Name else if taken then Taken else if lacks then NoGroup else Done

team_there : (w : World) (t : List ℕ) (group : Option (List ℕ)) (named taken lacks : Bool)
    → map.contains_key w.shelves t ≡ taken → has_shelf (Ok (team_reply named taken lacks)) ≡ true
    → map.contains_key (after_team_add w t group (team_reply named taken lacks)).shelves t ≡ true
team_there w t group false taken lacks is shown = absurd (false≢true shown)
team_there w t group true true lacks is shown = is
team_there w t group true false true is shown = absurd (false≢true shown)
team_there w t group true false false is shown = put_there w t (Some (unwrap_or group common))

group_there : (w : World) (t g : List ℕ) (named taken lacks : Bool) → lacks_group w (Some g) ≡ lacks
    → has_group (Ok (team_reply named taken lacks)) ≡ true
    → map.contains_key (after_team_add w t (Some g) (team_reply named taken lacks)).shelves g ≡ true
group_there w t g false taken lacks is shown = absurd (false≢true shown)
group_there w t g true true lacks is shown = absurd (false≢true shown)
group_there w t g true false true is shown = absurd (false≢true shown)
group_there w t g true false false is shown =
    let top = and_parts (is_top (map.get w.shelves g)) (not (bytes_eq g common)) (not-false (is_group w g) is) in
    stands_still w t (Some g) g (ap is_some (top_is (map.get w.shelves g) top.0))

abbrev group_reply : Bool → Bool → RegistryReply
group_reply named taken = if not named then Name else if taken then Taken else Done

top_there : (w : World) (g : List ℕ) (named taken : Bool) → map.contains_key w.shelves g ≡ taken
    → has_shelf (Ok (group_reply named taken)) ≡ true
    → map.contains_key (after_group_add w g (group_reply named taken)).shelves g ≡ true
top_there w g false taken is shown = absurd (false≢true shown)
top_there w g true true is shown = is
top_there w g true false is shown = put_there w g None

abbrev key_reply : Bool → Bool → Bool → RegistryReply
key_reply keeps there taken = if not keeps then Name else if not there then NoTeam else if taken then Taken else Done

key_there : (w : World) (s k : List ℕ) (right : Right) (keeps there taken : Bool)
    → map.contains_key w.shelves s ≡ there → has_shelf (Ok (key_reply keeps there taken)) ≡ true
    → map.contains_key (after_key_add w s k right (key_reply keeps there taken)).shelves s ≡ true
key_there w s k right false there taken is shown = absurd (false≢true shown)
key_there w s k right true false taken is shown = absurd (false≢true shown)
key_there w s k right true true true is shown = is
key_there w s k right true true false is shown = is

keys_there : (w : World) (s : List ℕ) (there : Bool) → map.contains_key w.shelves s ≡ there
    → has_shelf (Ok (if there then Done else NoTeam)) ≡ true
    → map.contains_key (after_keys_revoke w s (if there then Done else NoTeam)).shelves s ≡ true
keys_there w s false is shown = absurd (false≢true shown)
keys_there w s true is shown = is

-- a name that stands is none that no shelf has
stands : (w : World) (name : List ℕ) → map.contains_key w.shelves name ≡ true → ¬ IsNoShelf w name
stands w name is none = true≢false (sym is ∙ none)

group_known : (w : World) (t : List ℕ) (group : Option (List ℕ))
    → ExcludesIf (IsNoShelf (after_team_add w t group (team_added w t group)))
    (has_group (Ok (team_added w t group))) group
group_known w t None = tt
group_known w t (Some g) = λ shown.
    stands (after_team_add w t (Some g) (team_added w t (Some g))) g
    (group_there w t g (is_team_name t) (map.contains_key w.shelves t) (lacks_group w (Some g)) refl shown)

knows : (w : World) (command : RegistryCommand)
    → Knows (IsNoShelf (after w (event_of command))) (Ok (outcome_in w command)) command
knows w (TeamAdd name group) = (
  λ shown. stands (after w (event_of (TeamAdd name group))) name.now
      (team_there w name.now (option_copied group) (is_team_name name.now) (map.contains_key w.shelves name.now)
      (lacks_group w (option_copied group)) refl shown),
  group_known w name.now (option_copied group),
)
knows w (GroupAdd name) = λ shown.
    stands (after w (event_of (GroupAdd name))) name.now
    (top_there w name.now (is_team_name name.now) (map.contains_key w.shelves name.now) refl shown)
knows w (KeyAdd shelf key right) = λ shown.
    stands (after w (event_of (KeyAdd shelf key right))) shelf.now
    (key_there w shelf.now key.now right (is_key key.now) (map.contains_key w.shelves shelf.now)
    (map.contains_key w.keys key.now) refl shown)
knows w (KeyRevoke key) = tt
knows w (KeysRevoke shelf) = λ shown.
    stands (after w (event_of (KeysRevoke shelf))) shelf.now
    (keys_there w shelf.now (map.contains_key w.shelves shelf.now) refl shown)

-- ---- the laws

pub shows_only_shelves : ShowsOnlyShelves
shows_only_shelves w one two alike =
    ap (λ words. outcome_line (codes "order: ") words (outcome_of (Ok (outcome_in w one))))
    (words_alike (IsNoShelf (after w (event_of one))) (Ok (outcome_in w one)) one two alike (knows w one))

unknown : (fault : StoreFault) (command : RegistryCommand) → Knows (λ name. Unit {0}) (Err fault) command
unknown fault (TeamAdd name group) = (λ never. absurd (false≢true never), none (option_copied group))
  where
    none : (group : Option (List ℕ)) → ExcludesIf (λ name. Unit {0}) false group
    none None = tt
    none (Some g) = λ never. absurd (false≢true never)
unknown fault (GroupAdd name) = λ never. absurd (false≢true never)
unknown fault (KeyAdd shelf key right) = λ never. absurd (false≢true never)
unknown fault (KeyRevoke key) = tt
unknown fault (KeysRevoke shelf) = λ never. absurd (false≢true never)

pub shows_none_after_fault : ShowsNoneAfterFault
shows_none_after_fault fault one two alike =
    ap (λ words. outcome_line (codes "order: ") words (outcome_of (Err fault)))
    (words_alike (λ name. Unit {0}) (Err fault) one two alike (unknown fault one))
