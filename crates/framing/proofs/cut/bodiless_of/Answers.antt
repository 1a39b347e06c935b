use Rattle.std.proofs.Common.{◌+◌, ◌∙◌, refl}
use Rattle.std.specs.List.{slice_range}
use Rattle.framing.specs.Framing.{texts}
use Rattle.framing.proofs.FramingLemmas.{message_at}
use Rattle.framing.proofs.cut.bodiless_of.Goals as goal

pub returns : goal.returns
returns c =
    let spans = c.args.head.spans in
    message_at c.args.bytes.now c.args.headers.now c.args.head
    (record {
      method = c.in_ok-from_slice.field-0.items;
      target = c.in_ok-from_slice-2.field-0.items;
      body = slice_range c.args.bytes.now spans.len (spans.len + c.args.head.body);
      mod_lengths = texts c.in_ok-values.field-0.items;
      version_times = texts c.in_ok-values-2.field-0.items;
    })
    c.requires.head c.requires.whole (c.in_ok-from_slice.ensures.items ∙ c.of.ensures)
    (c.in_ok-from_slice-2.ensures.items ∙ c.of-2.ensures) refl c.in_ok-values.ensures c.in_ok-values-2.ensures
