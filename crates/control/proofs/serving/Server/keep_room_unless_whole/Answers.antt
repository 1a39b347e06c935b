use Rattle.std.proofs.Common.{◌≢◌, inl, inr, refl, rules}
use Rattle.control.specs.declared.reserve.Room.TheVariants.{Whole}
use Rattle.control.specs.Noted.{LooksOnce, LooksUnlessWhole}
use Rattle.control.proofs.FindLemmas.{does_none, does_so}
use Rattle.control.proofs.NoticeLemmas.{notices_none}
use Rattle.control.proofs.serving.Server.keep_room_unless_whole.Goals as goal

pub returns-then-eq-clause-notes : goal.returns-then-eq-clause-notes
returns-then-eq-clause-notes g c = notices_none _

pub returns-then-eq-clause-tells : goal.returns-then-eq-clause-tells
returns-then-eq-clause-tells g c =
    does_none LooksUnlessWhole _ _
    (inl (search rules, refl, refl, refl))

pub returns-clause-tells : goal.returns-clause-tells
returns-clause-tells g c =
    let short : c.args.self.now.room ≢ Whole = search rules in
    does_so LooksOnce LooksUnlessWhole _ _ _ _ (λ lines deeds looks. inr (short, looks))
    c.keep_room_and_tell.ensures.tells
