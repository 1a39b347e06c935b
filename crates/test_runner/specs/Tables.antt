-- The tables of a store that has none.
use Rattle.std.specs.Prelude.{false, pos, [], None}
use Rattle.sqlite_trees.specs.Tree.{no_trees}
use Rattle.sqlite.specs.Effect.{Database}
use Rattle.sqlite.specs.State.{State}

abbrev pub nothing : Database
nothing = record { schema = record { tables = []; indexes = []; views = [] }; trees = no_trees }

abbrev pub no_tables : State
no_tables = record {
  now = nothing;
  committed = nothing;
  in_transaction = false;
  marks = [];
  is_open = false;
  is_clean = false;
  faults = 0;
  blamed = None;
  changes = 0;
  last_rowid = pos 0;
  step_limit = None;
  may_leave = λ _. Unit {0};
  IsShielded = Unit {0};
}
