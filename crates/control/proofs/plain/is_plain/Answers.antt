use Rattle.std.proofs.Common.{rules, not}
use Rattle.std.proofs.lemmas.Iterator.{YieldsList-from_chars}
use Rattle.std.proofs.lemmas.Iterator.Search.{all_from_yields_List}
use Rattle.std.proofs.lemmas.Str.{is_utf8-from_IsUtf8}
use borrow.Author.Tests.{tests}
use Rattle.ucd_category.specs.GeneralCategory.{general_category}
use Rattle.control.specs.Notices.{is_hidden}
use Rattle.control.proofs.plain.is_plain.Goals as goal

pub returns : goal.returns
returns c = rw (is_utf8-from_IsUtf8 c.args.text.now c.utf8.text) (all_from_yields_List (λ x. not (is_hidden (general_category x)))
    _ _ c.all.result c.all.ensures.ran (YieldsList-from_chars c.args.text.now c.utf8.text cc)
    (λ x b q k. search (rules, tests)))
