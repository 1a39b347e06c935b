-- A writer of CSV between two lines.
use Rattle.std.specs.Prelude.{ℕ, ◌≡◌, List, [], false, Some, Vec, unwrap_or}
use Rattle.std.specs.declared.alloc.Global.{Global}
use Rattle.csv.specs.Writing.{writer_setup, fields_written, has_written, default_writer, text_written}
use Rattle.csv.specs.declared.writer.Writer.{Writer}

-- it writes by the defaults of the crate, and is at the beginning of a line
pub record IsBetweenLines {W : Type 0} (writer : Writer W) : Type 0 where
  pub setup : writer_setup writer ≡ default_writer
  pub fields : fields_written writer ≡ 0
  pub fresh : has_written writer ≡ false

-- what was written to a vector
abbrev pub text_in : Writer (Vec ℕ Global) → List ℕ
text_in lines = unwrap_or (text_written (λ (v : Vec ℕ Global). Some v.items) lines) []
