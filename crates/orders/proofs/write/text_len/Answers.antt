use Rattle.std.proofs.lemmas.Str.{IsUtf8-append}
use Rattle.std.proofs.Common.{◌++◌}
use Rattle.orders.specs.Words.{behind}
use Rattle.orders.proofs.write.text_len.Goals as goal

pub returns-in-Two-clause-utf8 : goal.returns-in-Two-clause-utf8
returns-in-Two-clause-utf8 c =
    rw c.in-Two.is
    (IsUtf8-append c.in-Two.verb.now (behind c.in-Two.first.now) c.word_len-in-Two.ensures.utf8
    c.behind_len.ensures.utf8)

pub returns-in-Three-clause-utf8 : goal.returns-in-Three-clause-utf8
returns-in-Three-clause-utf8 c =
    let first = behind c.in-Three.first.now in
    let second = behind c.in-Three.second.now in
    rw c.in-Three.is
    (IsUtf8-append c.in-Three.verb.now (first ++ second) c.word_len-in-Three.ensures.utf8
    (IsUtf8-append first second c.behind_len-in-Three.ensures.utf8 c.behind_len-in-Three-2.ensures.utf8))
