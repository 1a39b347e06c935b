use Rattle.std.proofs.Common.{◌≡◌, ◌++◌, length, string_bytes}
use denote.Text.{Utf8}
use denote.Shadow.{shadow}
use Rattle.modlex.specs.Words.{plain_text}
use Rattle.modlex.proofs.words.unescaped.Given as goal

abbrev pub invariant-escapes : goal.invariant-escapes
invariant-escapes l = record {
  utf8 : shadow (Utf8 l.rest);
  reads : string_bytes l.out ++ plain_text l.rest ≡ plain_text l.text;
}

abbrev pub decreases-escapes : goal.decreases-escapes
decreases-escapes l = length l.rest
