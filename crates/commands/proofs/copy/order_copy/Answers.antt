use Rattle.std.proofs.Common.{sym}
use Rattle.control.proofs.ReplyLemmas.{gets}
use Rattle.commands.proofs.copy.order_copy.Goals as goal

pub returns-clause-gets : goal.returns-clause-gets
returns-clause-gets g c is_line =
    let room = c.in-Ok.ensures in
    let read = c.await_line-read.ensures in
    gets _ _ _ _ (g.R.Hear.reads c.args.reader.now) (g.R.Hear.reads c.await_line-read.new.reader) _ _ _ _ _ _ _ _ _
    room.room room.empty.1 room.sent
    (rw (is_line, sym room.empty.0) read.reads) read.hears (rw is_line read.memory) c.reply_to.ensures
