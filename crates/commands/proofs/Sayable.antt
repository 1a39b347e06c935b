-- How orders that no line can carry end in each world.
use Rattle.std.proofs.Common.{◌≡◌, ℕ, ◌+◌, ◌<◌, ◌≤◌, ◌⊎◌, inl, inr, List, [], ◌∷◌, ◌++◌, length, Bool, true, false}
use Rattle.std.proofs.Common.{Option, Some}
use Rattle.std.proofs.Common.{None, Result, Ok, Err, refl, ◌∙◌, sym, ap, subst, arith, nat_eq, nat_lt, ltb-true}
use Rattle.std.proofs.Common.{leb-true, true≢false}
use Rattle.std.specs.Borrow.{Bor}
use Rattle.std.specs.Prelude.{◌&&◌, ◌||◌, not, if◌then◌else◌, codes, bytes_eq, nat_le, is_some, option_copied}
use Rattle.std.specs.List.{list_all}
use Rattle.std.specs.Str.{IsAscii}
use Rattle.std.specs.FinMap as map
use Rattle.std.proofs.lemmas.Bool.{and_parts, and_from, and_right}
use Rattle.std.proofs.lemmas.Bool.Decides.{nat_tests}
use Rattle.std.proofs.lemmas.List.{length-append}
use Rattle.std.proofs.lemmas.Str.{IsUtf8-from_ascii, IsAscii-append}
use Rattle.std.proofs.lemmas.Str.Ascii.{IsAscii-nil, IsAscii-cons}
use Rattle.world.specs.declared.entry.Holder.{Holder}
use Rattle.world.specs.declared.entry.Right.{Right}
use Rattle.world.specs.declared.entry.Right.TheVariants.{Reads, Publishes}
use Rattle.world.specs.declared.registry.RegistryReply.{RegistryReply}
use Rattle.world.specs.declared.registry.RegistryReply.TheVariants as registered
use Rattle.world.specs.Names.{is_lower, is_digit}
use Rattle.world.specs.Registry.{is_top, is_group, lacks_group, team_added, after_team_add}
use Rattle.world.specs.World.{World, IsWorld, common, is_team_name, is_key}
use Rattle.world.proofs.Orders.{text_self}
use Rattle.machine.specs.Machine.{after}
use Rattle.control.specs.RegistryCommand.{event_of, outcome_in}
use Rattle.orders.specs.Order as orders
use Rattle.orders.specs.Order.{Ordered, HasLine, HasNoLine, add_word, added, commanded, line_for}
use Rattle.orders.specs.Order.{longest, longest_of, said_in}
use Rattle.orders.specs.Words.{Said, Two, Three, space, is_word, is_word_byte, are_words, text_of}
use Rattle.orders.specs.declared.order.Order.TheVariants as order
use Rattle.orders.specs.declared.command.RegistryCommand.{RegistryCommand}
use Rattle.orders.specs.declared.command.RegistryCommand.TheVariants.{TeamAdd, GroupAdd, KeyAdd}
use Rattle.orders.specs.declared.command.RegistryCommand.TheVariants.{KeyRevoke, KeysRevoke}
use Rattle.commands.specs.Ending.{ending}
use Rattle.commands.specs.Order.{no_name, group_sent, ComeToTheSame, IsAlike, IsSentFor, unsayable}
use Rattle.commands.specs.SentOrder.{refusal_by}
use Rattle.commands.specs.declared.refusal.CommandRefusal.{CommandRefusal}
use Rattle.commands.specs.declared.refusal.CommandRefusal.TheVariants.{NoTeam}

-- ---- words that a line can carry

-- a word of ASCII with at most this many bytes
pub record Fits (most : ℕ) (word : List ℕ) : Type 0 where
  pub says : is_word word ≡ true
  pub ascii : IsAscii word
  pub few : length word ≤ most

says_by : (p : ℕ → Bool) → ((b : ℕ) → p b ≡ true → is_word_byte b ≡ true) → (t : List ℕ) → list_all p t ≡ true
    → is_word t ≡ true
says_by p says [] h = refl
says_by p says (b ∷ t) h = let halves = and_parts _ _ h in and_from _ _ (says b halves.0) (says_by p says t halves.1)

ascii_by : (p : ℕ → Bool) → ((b : ℕ) → p b ≡ true → b < 128) → (t : List ℕ) → list_all p t ≡ true → IsAscii t
ascii_by p small [] h = IsAscii-nil
ascii_by p small (b ∷ t) h = let halves = and_parts _ _ h in
    IsAscii-cons b t (small b halves.0) (ascii_by p small t halves.1)

name_byte : (c : ℕ) → (is_lower c || is_digit c || nat_eq c 45) ≡ true → c < 128
name_byte c h = grind (arith, nat_tests)

name_says : (c : ℕ) → (is_lower c || is_digit c || nat_eq c 45) ≡ true → is_word_byte c ≡ true
name_says c h = grind (arith, nat_tests)

key_byte : (c : ℕ) → (is_lower c || is_digit c) ≡ true → c < 128
key_byte c h = grind (arith, nat_tests)

key_says : (c : ℕ) → (is_lower c || is_digit c) ≡ true → is_word_byte c ≡ true
key_says c h = grind (arith, nat_tests)

small : (b : ℕ) → nat_lt b 128 ≡ true → b < 128
small b h = ltb-true b 128 h

team_fits : (t : List ℕ) → is_team_name t ≡ true → Fits 32 t
team_fits t h =
    let all = and_parts _ _ (and_parts _ _ h).0 in record {
      says = says_by _ name_says t all.1;
      ascii = ascii_by _ name_byte t all.1;
      few = leb-true (length t) 32 (and_parts _ _ all.0).0;
    }

key_fits : (k : List ℕ) → is_key k ≡ true → Fits 64 k
key_fits k h =
    let all = and_parts _ _ h in record {
      says = says_by _ key_says k all.1;
      ascii = ascii_by _ key_byte k all.1;
      few = leb-true (length k) 64 (and_parts _ _ all.0).1;
    }

-- a literal word fits if these tests hold
pub word_fits : (most : ℕ) (word : List ℕ) → is_word word ≡ true → list_all (λ b. nat_lt b 128) word ≡ true
    → nat_le (length word) most ≡ true → Fits most word
word_fits most word says ascii few =
    record { says = says; ascii = ascii_by (λ b. nat_lt b 128) small word ascii; few = leb-true (length word) most few }

shelf_fits : (s : List ℕ) → (s ≡ common) ⊎ (is_team_name s ≡ true) → Fits 32 s
shelf_fits s (inl same) = subst (Fits 32) (sym same) (word_fits 32 common refl refl refl)
shelf_fits s (inr named) = team_fits s named

add_fits : (right : Right) → Fits 10 (add_word right)
add_fits Publishes = word_fits 10 (codes "key-add") refl refl refl
add_fits Reads = word_fits 10 (codes "reader-add") refl refl refl

-- ---- a line of such words

-- words of ASCII that fit into the line of any order
pub record AreCarried (s : Said) : Type 0 where
  pub words : are_words s ≡ true
  pub ascii : IsAscii (text_of s)
  pub few : length (text_of s) ≤ longest

pub two_carried : (a b : ℕ) (verb first : List ℕ) → Fits a verb → Fits b first → a + b + 1 ≤ longest
    → AreCarried (Two verb first)
two_carried a b verb first fits fits_first room =
    let counted = length-append verb (space ∷ first) in
    let few = fits.few in
    let few_first = fits_first.few in
    record {
      words = and_from _ _ fits.says fits_first.says;
      ascii = IsAscii-append verb (space ∷ first) fits.ascii (IsAscii-cons space first (omega arith) fits_first.ascii);
      few = omega (arith, counted, few, few_first, room);
    }

three_carried : (a b c : ℕ) (verb first second : List ℕ) → Fits a verb → Fits b first → Fits c second
    → a + b + c + 2 ≤ longest → AreCarried (Three verb first second)
three_carried a b c verb first second fits fits_first fits_second room =
    let rest : List ℕ = first ++ space ∷ second in
    let counted = length-append verb (space ∷ rest) in
    let rest_counted = length-append first (space ∷ second) in
    let few = fits.few in
    let few_first = fits_first.few in
    let few_second = fits_second.few in
    record {
      words = and_from _ _ fits.says (and_from _ _ fits_first.says fits_second.says);
      ascii = IsAscii-append verb (space ∷ rest) fits.ascii
          (IsAscii-cons space rest (omega arith)
          (IsAscii-append first (space ∷ second) fits_first.ascii
          (IsAscii-cons space second (omega arith) fits_second.ascii)));
      few = omega (arith, counted, rest_counted, few, few_first, few_second, room);
    }

-- an order of such words has a line
pub carried : (o : Ordered) → AreCarried (said_in o) → longest_of o ≡ longest → HasLine o
carried o are most = (
  line_for o,
  record {
    line = record { is = refl; utf8 = IsUtf8-from_ascii (text_of (said_in o)) are.ascii };
    words = are.words;
    few = subst (λ n. length (text_of (said_in o)) ≤ n) (sym most) are.few;
  },
)

-- no line can carry the registry command
abbrev pub IsUnsayable : RegistryCommand → Type 0
IsUnsayable command = HasNoLine (orders.Registry (commanded command))

command_carried : (command : RegistryCommand) → AreCarried (said_in (orders.Registry (commanded command)))
    → ¬ IsUnsayable command
command_carried command are unsaid = let it = carried (orders.Registry (commanded command)) are refl in unsaid it.0 it.1

-- ---- groups that are sent for others

-- the group of a team fits in a line
abbrev IsGroupSayable : Option (List ℕ) → Type 0
IsGroupSayable None = Unit {0}
IsGroupSayable (Some group) = (group ≡ no_name) ⊎ (is_team_name group ≡ true)

sent_sayable : (group : Option (List ℕ)) → IsGroupSayable (group_sent group)
sent_sayable None = tt
sent_sayable (Some g) = go (is_team_name g) refl
  where
    go : (b : Bool) → is_team_name g ≡ b → IsGroupSayable (if b then Some g else Some no_name)
    go true named = inr named
    go false unnamed = inl refl

abbrev FitsIf : ℕ → Option (List ℕ) → Type 0
FitsIf most None = Unit {0}
FitsIf most (Some word) = Fits most word

group_fits : (group : Option (List ℕ)) → IsGroupSayable group → FitsIf 32 group
group_fits None sayable = tt
group_fits (Some g) (inl same) = subst (Fits 32) (sym same) (word_fits 32 no_name refl refl refl)
group_fits (Some g) (inr named) = team_fits g named

-- so do the words that add a team to it
team_carried : (name : List ℕ) (group : Option (List ℕ)) → Fits 32 name → FitsIf 32 group
    → AreCarried (added name group)
team_carried name None fits fits_group =
    two_carried 8 32 (codes "team-add") name (word_fits 8 (codes "team-add") refl refl refl) fits (omega arith)
team_carried name (Some group) fits fits_group =
    three_carried 8 32 32 (codes "team-add") name group (word_fits 8 (codes "team-add") refl refl refl) fits fits_group
    (omega arith)

common_no_group : (w : World) → is_group w common ≡ false
common_no_group w = and_right (is_top (map.get w.shelves common)) (not (bytes_eq common common))
    (ap not (text_self common))

no_group : (w : World) (g : List ℕ) → IsWorld w → is_team_name g ≡ false → is_group w g ≡ false
no_group w g is unnamed = go (map.get w.shelves g) refl
  where
    go : (o : Option (Option (List ℕ))) → map.get w.shelves g ≡ o → is_group w g ≡ false
    go None at = ap (λ o. is_top o && not (bytes_eq g common)) at
    go (Some parent) at = elim (is.team_names g (ap is_some at)) [
      | inl same ↦ ap (is_group w) same ∙ common_no_group w
      | inr named ↦ absurd (true≢false (sym named ∙ unnamed))
    ]

-- the answer to adding a team, by these tests
abbrev answer : Bool → Bool → Bool → RegistryReply
answer named there group =
    if not named then registered.Name else if there then registered.Taken else if not group then registered.NoGroup else
    registered.Done

refused : (w : World) (t g : List ℕ) → is_group w g ≡ false → after_team_add w t (Some g) (team_added w t (Some g)) ≡ w
refused w t g none =
    ap (λ b. after_team_add w t (Some g) (answer (is_team_name t) (map.contains_key w.shelves t) b)) none
    ∙ idle (is_team_name t) (map.contains_key w.shelves t)
  where
    idle : (named there : Bool) → after_team_add w t (Some g) (answer named there false) ≡ w
    idle true true = refl
    idle true false = refl
    idle false there = refl

-- adding a team with the group that is sent does what adding it with its own group does
same_team : (w : World) (t : List ℕ) (group : Option (List ℕ)) → IsWorld w
    → (team_added w t (group_sent group) ≡ team_added w t group)
    × (after_team_add w t (group_sent group) (team_added w t (group_sent group))
    ≡ after_team_add w t group (team_added w t group))
same_team w t None is = (refl, refl)
same_team w t (Some g) is = go (is_team_name g) refl
  where
    go : (b : Bool) → is_team_name g ≡ b → let group : Option (List ℕ) = if b then Some g else Some no_name in
        (team_added w t group ≡ team_added w t (Some g))
        × (after_team_add w t group (team_added w t group) ≡ after_team_add w t (Some g) (team_added w t (Some g)))
    go true named = (refl, refl)
    go false unnamed =
        let none = no_group w g is unnamed in
        let never = no_group w no_name is refl in (
          ap (answer (is_team_name t) (map.contains_key w.shelves t)) (never ∙ sym none),
          refused w t no_name never ∙ sym (refused w t g none),
        )

pub comes_to_the_same : (order sent : RegistryCommand) → IsSentFor order sent → ComeToTheSame sent order
comes_to_the_same (TeamAdd name group) sent (other, is, same) w world =
    let one = same_team w name.now (option_copied group) world in
    let both = subst (λ g. (team_added w name.now g ≡ team_added w name.now (option_copied group))
    × (after_team_add w name.now g (team_added w name.now g)
    ≡ after_team_add w name.now (option_copied group) (team_added w name.now (option_copied group)))) (sym same)
    one in
    subst (λ o. (outcome_in w o ≡ outcome_in w (TeamAdd name group))
    × (after w (event_of o) ≡ after w (event_of (TeamAdd name group)))) (sym is) both
comes_to_the_same (GroupAdd name) sent is w world = (ap (outcome_in w) is, ap (λ o. after w (event_of o)) is)
comes_to_the_same (KeyAdd shelf key right) sent is w world = (ap (outcome_in w) is, ap (λ o. after w (event_of o)) is)
comes_to_the_same (KeyRevoke key) sent is w world = (ap (outcome_in w) is, ap (λ o. after w (event_of o)) is)
comes_to_the_same (KeysRevoke shelf) sent is w world = (ap (outcome_in w) is, ap (λ o. after w (event_of o)) is)

-- ---- how an order that no line carries ends

-- adding a team that no line carries is refused in each world as the command says
team_unsaid : (name : Bor (List ℕ)) (group : Option (Bor (List ℕ))) → IsGroupSayable (option_copied group)
    → IsUnsayable (TeamAdd name group)
    → (w : World) → ending (Ok (outcome_in w (TeamAdd name group))) ≡ Err (unsayable (TeamAdd name group))
team_unsaid name group sayable unsaid w = go (is_team_name name.now) refl
  where
    go : (b : Bool) → is_team_name name.now ≡ b
        → ending (Ok (outcome_in w (TeamAdd name group))) ≡ Err (unsayable (TeamAdd name group))
    go false unnamed = ap (λ b.
        ending (Ok (if not b then registered.Name else if map.contains_key w.shelves name.now then registered.Taken
        else if lacks_group w (option_copied group) then registered.NoGroup else registered.Done))) unnamed
    go true named =
        absurd (command_carried (TeamAdd name group)
        (team_carried name.now (option_copied group) (team_fits name.now named)
        (group_fits (option_copied group) sayable)) unsaid)

group_unsaid : (name : Bor (List ℕ)) → IsUnsayable (GroupAdd name) → (w : World)
    → ending (Ok (outcome_in w (GroupAdd name))) ≡ Err (unsayable (GroupAdd name))
group_unsaid name unsaid w = go (is_team_name name.now) refl
  where
    go : (b : Bool) → is_team_name name.now ≡ b
        → ending (Ok (outcome_in w (GroupAdd name))) ≡ Err (unsayable (GroupAdd name))
    go false unnamed = ap (λ b.
        ending (Ok (if not b then registered.Name else if map.contains_key w.shelves name.now then registered.Taken
        else registered.Done))) unnamed
    go true named =
        absurd (command_carried (GroupAdd name)
        (two_carried 9 32 (codes "group-add") name.now (word_fits 9 (codes "group-add") refl refl refl)
        (team_fits name.now named) (omega arith)) unsaid)

abbrev key_told : Bool → Bool → Bool → RegistryReply
key_told named there taken =
    if not named then registered.Name else if not there then registered.NoTeam else if taken then registered.Taken else
    registered.Done

abbrev key_word : Bool → Result (Unit {0}) CommandRefusal
key_word named = Err (refusal_by named NoTeam)

-- adding a key that no line carries is refused in each world as the command says
key_unsaid : (shelf key : Bor (List ℕ)) (right : Right) → IsUnsayable (KeyAdd shelf key right) → (w : World) → IsWorld w
    → ending (Ok (outcome_in w (KeyAdd shelf key right))) ≡ Err (unsayable (KeyAdd shelf key right))
key_unsaid shelf key right unsaid w is = go (is_key key.now) (map.contains_key w.shelves shelf.now) refl refl
  where
    -- by whether the key keeps its rule, and whether there is the shelf
    go : (named there : Bool) → is_key key.now ≡ named → map.contains_key w.shelves shelf.now ≡ there
        → ending (Ok (outcome_in w (KeyAdd shelf key right))) ≡ Err (unsayable (KeyAdd shelf key right))
    go false there unnamed at =
        ap (λ b. ending (Ok (key_told b (map.contains_key w.shelves shelf.now) (map.contains_key w.keys key.now))))
        unnamed ∙ sym (ap key_word unnamed)
    go true false named at =
        ap (λ b. ending (Ok (key_told b (map.contains_key w.shelves shelf.now) (map.contains_key w.keys key.now))))
        named
        ∙ ap (λ b. ending (Ok (key_told true b (map.contains_key w.keys key.now)))) at ∙ sym (ap key_word named)
    go true true named at =
        absurd (command_carried (KeyAdd shelf key right)
        (three_carried 10 32 64 (add_word right) shelf.now key.now (add_fits right)
        (shelf_fits shelf.now (is.team_names shelf.now at)) (key_fits key.now named) (omega arith)) unsaid)

revoke_unsaid : (key : Bor (List ℕ)) → IsUnsayable (KeyRevoke key) → (w : World) → IsWorld w
    → ending (Ok (outcome_in w (KeyRevoke key))) ≡ Err (unsayable (KeyRevoke key))
revoke_unsaid key unsaid w is = go (map.get w.keys key.now) refl
  where
    go : (o : Option Holder) → map.get w.keys key.now ≡ o
        → ending (Ok (outcome_in w (KeyRevoke key))) ≡ Err (unsayable (KeyRevoke key))
    go None at = ap (λ o. ending (Ok (if is_some o then registered.Done else registered.NoKey))) at
    go (Some h) at =
        absurd (command_carried (KeyRevoke key)
        (two_carried 10 64 (codes "key-revoke") key.now (word_fits 10 (codes "key-revoke") refl refl refl)
        (key_fits key.now (is.key_names key.now h at)) (omega arith)) unsaid)

revoke_all_unsaid : (shelf : Bor (List ℕ)) → IsUnsayable (KeysRevoke shelf) → (w : World) → IsWorld w
    → ending (Ok (outcome_in w (KeysRevoke shelf))) ≡ Err (unsayable (KeysRevoke shelf))
revoke_all_unsaid shelf unsaid w is = go (map.contains_key w.shelves shelf.now) refl
  where
    go : (there : Bool) → map.contains_key w.shelves shelf.now ≡ there
        → ending (Ok (outcome_in w (KeysRevoke shelf))) ≡ Err (unsayable (KeysRevoke shelf))
    go false at = ap (λ b. ending (Ok (if b then registered.Done else registered.NoTeam))) at
    go true at =
        absurd (command_carried (KeysRevoke shelf)
        (two_carried 11 32 (codes "keys-revoke") shelf.now (word_fits 11 (codes "keys-revoke") refl refl refl)
        (shelf_fits shelf.now (is.team_names shelf.now at)) (omega arith)) unsaid)

-- an order that no line carries ends in each world as the command says, also if another is sent for it
pub unsent_ends : (order sent : RegistryCommand) → IsSentFor order sent → IsUnsayable sent → (w : World) → IsWorld w
    → Err (unsayable sent) ≡ ending (Ok (outcome_in w order))
unsent_ends (TeamAdd name group) sent (other, is, same) unsaid w world =
    let sayable = subst IsGroupSayable (sym same) (sent_sayable (option_copied group)) in
    let said = team_unsaid name other sayable (subst IsUnsayable is unsaid) w in
    ap (λ o. Err (unsayable o)) is ∙ sym said
    ∙ ap (λ o. ending (Ok o))
    (subst (λ o. outcome_in w o ≡ outcome_in w (TeamAdd name group)) is
    (comes_to_the_same (TeamAdd name group) sent (other, is, same) w world).0)
unsent_ends (GroupAdd name) sent is unsaid w world = ap (λ o. Err (unsayable o)) is
    ∙ sym (group_unsaid name (subst IsUnsayable is unsaid) w)
unsent_ends (KeyAdd shelf key right) sent is unsaid w world = ap (λ o. Err (unsayable o)) is
    ∙ sym (key_unsaid shelf key right (subst IsUnsayable is unsaid) w world)
unsent_ends (KeyRevoke key) sent is unsaid w world = ap (λ o. Err (unsayable o)) is
    ∙ sym (revoke_unsaid key (subst IsUnsayable is unsaid) w world)
unsent_ends (KeysRevoke shelf) sent is unsaid w world = ap (λ o. Err (unsayable o)) is
    ∙ sym (revoke_all_unsaid shelf (subst IsUnsayable is unsaid) w world)

-- ---- what is sent for an order

-- a registry command with a group that can be sent is one like it
pub command_alike : (command asked : RegistryCommand) → IsSentFor command asked
    → IsAlike (order.Registry command) (order.Registry asked)
command_alike command asked sends = (
  asked,
  refl,
  sends,
  comes_to_the_same command asked sends,
  λ unsaid world rules. unsent_ends command asked sends unsaid world rules,
)
