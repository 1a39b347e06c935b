use Rattle.std.proofs.Common.{◌≡◌, ◌<◌, take, ◌^◌}
use Rattle.std.specs.Str.Parse.{digits_value}
use Rattle.framing.proofs.length.length_value.Given as goal

abbrev pub invariant-loop-digit : goal.invariant-loop-digit
invariant-loop-digit l = record {
  value : l.n ≡ digits_value 10 (take l.digit-index l.text);
  small : l.n < 10 ^ l.digit-index;
}
