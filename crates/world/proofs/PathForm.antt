-- A text that passes the test of a path is one.
use Rattle.std.proofs.Common.{◌≡◌, ℕ, List, true, refl, sym}
use Rattle.std.specs.Prelude.{is_ok, Ok, Err, Result, ⊤}
use Rattle.std.proofs.lemmas.Bool.{true≢false}
use Rattle.modpath.specs.declared.path.PathFault.{PathFault}
use Rattle.modpath.specs.Path.{path_check, passed, IsPath, is_path}

passes : (c : Result ⊤ PathFault) → is_ok c ≡ true → c ≡ passed
passes (Ok tt) e = refl
passes (Err f) e = absurd (true≢false (sym e))

pub path_form : (t : List ℕ) → is_path t ≡ true → IsPath t
path_form t e = passes (path_check t) e
