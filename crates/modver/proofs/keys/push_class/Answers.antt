use Rattle.std.proofs.Common.{◌∷◌, [], append_assoc, refl}
use Rattle.modver.proofs.KeyParts.{pseudo-key, rank-key}
use Rattle.modver.proofs.keys.push_class.Goals as goal

pub returns-in_ok-push_stamp : goal.returns-in_ok-push_stamp
returns-in_ok-push_stamp c =
    rw (
      c.in_ok-push_stamp.ensures,
      c.in_ok-push.ensures.items,
      pseudo-key c.args.version.now c.class-class.result c.class_rank.result c.in-Pseudo.time c.class-class.ensures
          c.class_rank.ensures c.in-Pseudo.is,
    )
    (append_assoc c.args.key.now.items (c.class_rank.result ∷ []) _)

pub returns-in_default : goal.returns-in_default
returns-in_default c =
    rw (
      c.in_ok-push.ensures.items,
      rank-key c.args.version.now c.class-class.result c.class_rank.result c.class-class.ensures c.class_rank.ensures
          c.in_default.not-Pseudo,
    ) refl
