use Rattle.control.proofs.ReplyLemmas.{gets}
use Rattle.control.proofs.client.send.Goals as goal

pub returns : goal.returns
returns g c =
    let room = c.in_ok-got.ensures in
    let read = c.read_reply-read.ensures in
    gets _ _ _ _ (g.R.Hear.reads c.args.reader.now) (g.R.Hear.reads c.read_reply-read.new.reader) _ _ _ _ _ _ _ _ _
    room.room room.empty.1 room.sent
    (rw (c.extent_of.ensures, room.empty.0) at read.reads) read.hears (rw c.extent_of.ensures at read.memory)
    c.reply_to.ensures
