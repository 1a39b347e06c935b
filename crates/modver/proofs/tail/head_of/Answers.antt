use Rattle.std.proofs.Common.{refl, subst}
use Rattle.modver.specs.Keys.{AreBytes, head_of}
use Rattle.modver.proofs.KeyOrders.{eight-bytes}
use Rattle.modver.proofs.tail.head_of.Goals as goal

pub returns-clause-value : goal.returns-clause-value
unfolding head_of
returns-clause-value c =
    rw (
      ← eight-bytes c.args.key.now,
      c.from_be_bytes.ensures,
      c.byte_at.ensures.value,
      c.byte_at-2.ensures.value,
      c.byte_at-3.ensures.value,
      c.byte_at-4.ensures.value,
      c.byte_at-5.ensures.value,
      c.byte_at-6.ensures.value,
      c.byte_at-7.ensures.value,
      c.byte_at-8.ensures.value,
    ) refl

pub returns-clause-bytes : goal.returns-clause-bytes
returns-clause-bytes c = subst AreBytes (eight-bytes c.args.key.now) (
  c.byte_at.ensures.bound,
  (
    c.byte_at-2.ensures.bound,
    (
      c.byte_at-3.ensures.bound,
      (
        c.byte_at-4.ensures.bound,
        (
          c.byte_at-5.ensures.bound,
          (c.byte_at-6.ensures.bound, (c.byte_at-7.ensures.bound, (c.byte_at-8.ensures.bound, tt))),
        ),
      ),
    ),
  ),
)
