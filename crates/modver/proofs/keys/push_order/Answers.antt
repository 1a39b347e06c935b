use Rattle.modver.specs.Keys.{order_key_of}
use Rattle.modver.proofs.KeyParts.{four-joined}
use Rattle.modver.proofs.keys.push_order.Goals as goal

pub returns : goal.returns
unfolding order_key_of
returns c =
    rw (
      c.in_ok-push_pre_release.ensures,
      c.in_ok-extend_from_slice-3.ensures.items,
      c.in_ok-extend_from_slice-2.ensures.items,
      c.in_ok-extend_from_slice.ensures.items,
      c.pre_release.ensures.identifiers,
      c.to_be_bytes.ensures,
      c.to_be_bytes-2.ensures,
      c.to_be_bytes-3.ensures,
      c.major.ensures,
      c.minor.ensures,
      c.patch.ensures,
    )
    (four-joined c.args.key.now.items _ _ _ _)
