use Rattle.std.proofs.Common.{rules, string_bytes}
use Rattle.modlex.proofs.WordLemmas.{escape_turn}
use Rattle.modlex.proofs.words.unescaped.Goals as goal

pub escapes-preserved : goal.escapes-preserved
escapes-preserved c = record {
  utf8 = search rules;
  reads = escape_turn c.in-Some.before.now c.in-Some.behind.now c.in-Some-split_char.others.now _
      c.in-Some-split_char.escaped (string_bytes c.escapes.out) (string_bytes c.push_str.new.self)
      (string_bytes c.push.new.self) c.escapes.rest.now c.escapes.invariant.reads c.in-Some.ensures.value
      c.in-Some-split_char.ensures c.in_ok-push_str.ensures.bytes c.in_ok-push.ensures.bytes;
}
