use Rattle.std.proofs.Common.{◌≡◌, [], ◌∷◌, ◌++◌, get_or, true, false, ◌∙◌}
use Rattle.std.specs.Str.{str_eq_ignore_ascii_case}
use Rattle.std.proofs.lemmas.List.{map-append}
use Rattle.httparse.specs.Spans.{header_bytes}
use Rattle.httparse.specs.declared.spans.HeaderSpan.{HeaderSpan}
use Rattle.framing.proofs.ValuesLemmas.{values_at_hit, values_at_miss}
use Rattle.framing.proofs.cut.values.Goals as goal
use Rattle.framing.proofs.cut.values.Goals.{then-is_named+in_ok-from_slice+in_ok-push, else-is_named}

abbrev none : HeaderSpan
none = record { name = record { start = 0; end = 0 }; value = record { start = 0; end = 0 } }

pub loop-header-preserved : goal.loop-header-preserved
loop-header-preserved c =
    let bytes = c.args.bytes.now in
    let headers = c.args.headers.now in
    let i = c.loop-header.header-index in
    elim c.if-is_named.branch [
      | then-is_named+in_ok-from_slice+in_ok-push w ↦
          let e : true ≡ str_eq_ignore_ascii_case (header_bytes bytes (get_or headers i none)).0 c.args.wanted.now =
          cc in
          rw (
            w.found-is,
            values_at_hit c.args.wanted.now bytes headers i none c.loop-header-test.true e,
            w.in_ok-push.ensures.items,
            map-append _ c.loop-header.found.items,
          )
          (λ i. c.loop-header.invariant i ++ (w.in_ok-from_slice.ensures.items ∙ w.of-then-is_named.ensures) i ∷ [])
      | else-is_named w ↦
          let e : false ≡ str_eq_ignore_ascii_case (header_bytes bytes (get_or headers i none)).0 c.args.wanted.now =
          cc in
          rw (w.found-is, values_at_miss c.args.wanted.now bytes headers i none c.loop-header-test.true e)
          c.loop-header.invariant
    ]
