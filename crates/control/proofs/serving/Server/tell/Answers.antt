use Rattle.std.proofs.Common.{refl}
use Rattle.control.specs.Noted.{AreOf, LooksOnce, NotesAndLooks}
use Rattle.control.proofs.FindLemmas.{does_after}
use Rattle.control.proofs.NoticeLemmas.{notices_more}
use Rattle.control.proofs.serving.Server.tell.Goals as goal

pub returns-clause-notes : goal.returns-clause-notes
returns-clause-notes g c = notices_more _ _ _ c.tell_if.ensures.notes c.keep_room_and_tell.ensures.notes

pub returns-clause-tells : goal.returns-clause-tells
returns-clause-tells g c = does_after (AreOf c.args.noted) LooksOnce (NotesAndLooks c.args.noted) _ _ _ _ _
    (λ own room deeds are looks. (own, room, refl, are, looks)) c.tell_if.ensures.tells
    c.keep_room_and_tell.ensures.tells
