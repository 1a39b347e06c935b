use Rattle.std.proofs.Common.{◌≡◌, arith, get_or, length, true, false}
use Rattle.std.specs.Str.{str_eq_ignore_ascii_case}
use Rattle.std.proofs.lemmas.List.Elements.{All-get_or}
use Rattle.httparse.specs.Spans.{IsHeaderWithin, header_bytes}
use Rattle.httparse.specs.declared.spans.HeaderSpan.{HeaderSpan}
use Rattle.framing.proofs.ValuesLemmas.{values_at_hit, values_at_miss}
use Rattle.framing.proofs.head.occurrences.Goals as goal
use Rattle.framing.proofs.head.occurrences.Goals.{then-is_named, else-is_named}

abbrev none : HeaderSpan
none = record { name = record { start = 0; end = 0 }; value = record { start = 0; end = 0 } }

pub loop-header-preserved : goal.loop-header-preserved
loop-header-preserved c =
    let bytes = c.args.bytes.now in
    let headers = c.args.headers.now in
    let i = c.loop-header.header-index in
    let within = All-get_or (IsHeaderWithin (length bytes)) headers i none (omega arith) c.requires in
    elim c.if-is_named.branch [
      | then-is_named w ↦
          let e : true ≡ str_eq_ignore_ascii_case (header_bytes bytes (get_or headers i none)).0 c.args.wanted.now =
          cc in
          rw (w.found-is, values_at_hit c.args.wanted.now bytes headers i none c.loop-header-test.true e)
          (w.and-found.ensures bytes _ within.1 c.loop-header.invariant)
      | else-is_named w ↦
          let e : false ≡ str_eq_ignore_ascii_case (header_bytes bytes (get_or headers i none)).0 c.args.wanted.now =
          cc in
          rw (w.found-is, values_at_miss c.args.wanted.now bytes headers i none c.loop-header-test.true e)
          c.loop-header.invariant
    ]
