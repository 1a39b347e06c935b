-- Rows that are left to add, one step on; and what clap's shapes keep of the fields that they hide.
use Rattle.std.proofs.Common.{◌≡◌, ◌==◌, ◌∙◌, ap, ◌<◌, ◌+◌, ◌&&◌, ℕ, Bool, List, [], ◌∷◌, true, false, not, refl}
use Rattle.std.proofs.Common.{add-one, drop, drop-cons, length, map, slice_index_or}
use Rattle.std.specs.Prelude.{fold}
use Rattle.clap.specs.Simple.{has_plain_fields}
use Rattle.clap.specs.declared.builder.command.Command.{Command}
use Rattle.clap.specs.declared.builder.command.Command.TheViews.{out-Command}
use Rattle.clap.specs.Words.{App, Shape, Rule, shape_of, with_rule, with_subcommand}
use Rattle.args.specs.Table.{Follows, Line, Opt, bare_command, table_line, nothing, number, option_of, rule_of_option}
use Rattle.args.specs.Table.{shape_of_line, text, texts_each}
use Rattle.args.specs.declared.arguments.CommandRow.{CommandRow}
use Rattle.args.specs.declared.options.OptionRow.{OptionRow}

pub option_added : (old new total : App) (rows : List OptionRow) (i : ℕ) (d : OptionRow) → i < length rows
    → new ≡ with_rule old (rule_of_option (option_of (slice_index_or rows i d)))
    → fold with_rule old (map rule_of_option (map option_of (drop i rows))) ≡ total
    → fold with_rule new (map rule_of_option (map option_of (drop (i + 1) rows))) ≡ total
option_added old new total rows i d lt e h = rw (e, add-one) (rw (drop-cons rows i d lt) at h)

pub command_added : (old new total : App) (rows : List CommandRow) (i : ℕ) (d : CommandRow) → i < length rows
    → new ≡ with_subcommand old (shape_of_line (table_line (slice_index_or rows i d)))
    → fold with_subcommand old (map shape_of_line (map table_line (drop i rows))) ≡ total
    → fold with_subcommand new (map shape_of_line (map table_line (drop (i + 1) rows))) ≡ total
command_added old new total rows i d lt e h = rw (e, add-one) (rw (drop-cons rows i d lt) at h)

pub last_of : (a b : Bool) → (a && b) ≡ true → b ≡ true
last_of true b h = h
last_of false b h = cc

pub first_of_two : (a b : Bool) → (a && b) ≡ true → a ≡ true
first_of_two true b h = refl
first_of_two false b h = cc

pub is_not : (a : Bool) → not a ≡ true → a ≡ false
is_not true h = cc
is_not false h = refl

-- the last of what clap asks of a plain argument
pub last_of_ten : (a b c d e f g h i j : Bool)
    → (a && (b && (c && (d && (e && (f && (g && (h && (i && not j))))))))) ≡ true → j ≡ false
last_of_ten a b c d e f g h i j all =
    is_not j (last_of i _ (last_of h _
    (last_of g _ (last_of f _ (last_of e _ (last_of d _ (last_of c _ (last_of b _ (last_of a _ all)))))))))

pub option_is_simple : (option : Opt) → (rule_of_option option).is_simple ≡ true
option_is_simple option = go option.follows refl
  where
    go : (f : Follows) → option.follows ≡ f → (rule_of_option option).is_simple ≡ true
    go nothing e = rw e refl
    go text e = rw e refl
    go texts_each e = rw e refl
    go (number most) e = rw e refl

-- options leave a command plain
stays_plain : (app : App) (rules : List Rule) → (fold with_rule app rules).top.is_plain ≡ app.top.is_plain
stays_plain app [] = refl
stays_plain app (r ∷ rules) = stays_plain (with_rule app r) rules

line_is_plain : (line : Line) → (shape_of_line line).is_plain ≡ true
line_is_plain line = stays_plain (bare_command line) (map rule_of_option line.options)

fields_are_local : (fields : _) → has_plain_fields fields ≡ true → fields.has_globals ≡ false
fields_are_local fields plain =
    is_not _ (first_of_two (not fields.has_globals) _
    (last_of (not fields.allow_external_subcommands) _ (last_of (length fields.groups.items == 0) _ plain)))

-- the command of a row has no global option
pub row_is_local : (made : Command) (rows : List CommandRow) (i : ℕ) (d : CommandRow)
    → shape_of made ≡ shape_of_line (table_line (slice_index_or rows i d)) → (out-Command made).has_globals ≡ false
row_is_local made rows i d is =
    fields_are_local (out-Command made)
    (ap (λ (s : Shape). s.is_plain) is ∙ line_is_plain (table_line (slice_index_or rows i d)))
