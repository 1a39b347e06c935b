use Rattle.std.proofs.Common.{sym, subst}
use Rattle.gomod.specs.Keywords.{profile_in_force}
use Rattle.gomod.specs.Reading.{Fails, bytes_say}
use Rattle.gomod.specs.State.{context_of, contents_of, said_after}
use Rattle.gomod.proofs.FrontTokens.{gives_front, fails_front}
use Rattle.gomod.proofs.reader.read_line.Goals as goal

pub returns-in-Ok-clause-value : goal.returns-in-Ok-clause-value
returns-in-Ok-clause-value c =
    gives_front _ c.read_tokens.result (contents_of c.args.reader.now) profile_in_force c.args.line
    (context_of c.args.reader.now) c.args.text.now c.deref.result.now c.first_tokens.new.out.items c.deref.ensures.value
    c.in-Ok.ensures.value c.read_tokens.ensures

pub returns-in-Err-clause-value : goal.returns-in-Err-clause-value
returns-in-Err-clause-value c =
    subst (λ f. Fails f (said_after (contents_of c.args.reader.now)
    (bytes_say profile_in_force c.args.line (context_of c.args.reader.now) c.args.text.now)))
    (sym c.token_fault.ensures)
    (fails_front profile_in_force c.args.line (context_of c.args.reader.now) c.args.text.now
    (contents_of c.args.reader.now) c.in-Err.fault c.in-Err.ensures.value)
