use Rattle.std.proofs.Common.{◌≡◌, ◌∙◌, Some, sym}
use Rattle.modver.specs.Reading.{version_of}
use Rattle.modver.specs.SemanticVersion.{SemanticVersion}
use Rattle.modver.proofs.Readings.{version-of}
use Rattle.tables.proofs.VersionKeyLemmas.{order_at, rank_at}
use Rattle.statements.proofs.keyed.KeyedVersion.of.Goals as goal

pub invariant_of-result : goal.invariant_of-result
invariant_of-result c =
    let v : SemanticVersion = c.args.version.now in
    let text = c.as_str.result.now in
    let named : version_of text ≡ Some v =
    (version-of text v).1 (record {
      valid = c.as_str.ensures.valid;
      same = sym c.as_str.ensures.value;
      short =
          c.as_str.ensures.short;
    }) in
    (c.in_ok-order.ensures ∙ sym (order_at text v named), c.in_ok-rank.ensures ∙ sym (rank_at text v named))
