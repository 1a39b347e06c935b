use Rattle.std.proofs.Common.{◌≡◌, refl, rules, Ok, Err}
use Rattle.runner.proofs.Causes.{extract_never_io, made_key_cause, made_key_unprinted, migrate_never_io}
use Rattle.runner.proofs.Ran.{alone, ran}
use Rattle.runner.proofs.run.Goals as goal

pub returns-in-OnStore-clause-runs : goal.returns-in-OnStore-clause-runs
returns-in-OnStore-clause-runs g c =
    ran _ _ _ _ _ _ _ _ _ _ _ _ _ _ _ _ _ _ c.in-OnStore.is (c.on_file.ensures.acts, (refl, refl), refl)

pub returns-in-Extract-clause-runs : goal.returns-in-Extract-clause-runs
returns-in-Extract-clause-runs g c =
    ran _ _ _ _ _ _ _ _ _ _ _ _ _ _ _ _ _ _ c.in-Extract.is
    (alone _ _ _ _ _ c.extract.result c.extract.ensures c.acceptance.ensures, refl, refl)

pub returns-in-Migrate-clause-runs : goal.returns-in-Migrate-clause-runs
returns-in-Migrate-clause-runs g c =
    ran _ _ _ _ _ _ _ _ _ _ _ _ _ _ _ _ _ _ c.in-Migrate.is
    (alone _ _ _ _ _ c.migrate.result c.migrate.ensures c.acceptance-in-Migrate.ensures, refl, refl)

pub returns-in-Send-clause-runs : goal.returns-in-Send-clause-runs
returns-in-Send-clause-runs g c = ran _ _ _ _ _ _ _ _ _ _ _ _ _ _ _ _ _ _ c.in-Send.is
    (record { does = c.send_at.ensures.sends; input = refl; idle = refl }, (refl, refl, refl))

pub returns-in-OrderNew-clause-runs : goal.returns-in-OrderNew-clause-runs
returns-in-OrderNew-clause-runs g c = ran _ _ _ _ _ _ _ _ _ _ _ _ _ _ _ _ _ _ c.in-OrderNew.is (
  record {
    ended = c.order_new.result;
    does = c.order_new.ensures.orders;
    tells = c.acceptance-in-OrderNew.ensures;
    input = refl;
    idle = refl;
  },
  (refl, refl, refl),
)

pub returns-in_ok-answer_in_memory-in-AnswerInMemory-clause-runs :
    goal.returns-in_ok-answer_in_memory-in-AnswerInMemory-clause-runs
returns-in_ok-answer_in_memory-in-AnswerInMemory-clause-runs g c =
    ran _ _ _ _ _ _ _ _ _ _ _ _ _ _ _ _ _ _ c.in-AnswerInMemory.is (
      record {
        ended = Ok c.in_ok-answer_in_memory-in-AnswerInMemory.field-0;
        answers = c.in_ok-answer_in_memory-in-AnswerInMemory.ensures.answers;
        tells = refl;
        idle = refl;
      },
      (refl, refl, refl),
      refl,
    )

-- ---- why it ended with `Io`

pub returns-in-Extract-clause-cause : goal.returns-in-Extract-clause-cause
returns-in-Extract-clause-cause g c =
    rw c.in-Extract.is
    (extract_never_io _ _ _ _ _ _ _ c.extract.result _ c.extract.ensures c.acceptance.ensures)

pub returns-in-Migrate-clause-cause : goal.returns-in-Migrate-clause-cause
returns-in-Migrate-clause-cause g c =
    rw c.in-Migrate.is
    (migrate_never_io _ _ _ _ _ _ c.migrate.result _ c.migrate.ensures c.acceptance-in-Migrate.ensures)

pub returns-in-Send-clause-cause : goal.returns-in-Send-clause-cause
returns-in-Send-clause-cause g c = rw c.in-Send.is c.send_at.ensures.cause

pub returns-in-OrderNew-clause-cause : goal.returns-in-OrderNew-clause-cause
returns-in-OrderNew-clause-cause g c =
    rw c.in-OrderNew.is (
      made_key_cause _ c.order_new.result _ c.acceptance-in-OrderNew.ensures c.order_new.ensures.cause,
      made_key_unprinted _ _ (g.W.Tell.writes c.args.output.now) (g.W.Tell.writes c.order_new.new.output)
          c.order_new.result _ c.acceptance-in-OrderNew.ensures c.order_new.ensures.whole,
    )

pub returns-in_err-answer_in_memory-in-AnswerInMemory-clause-cause :
    goal.returns-in_err-answer_in_memory-in-AnswerInMemory-clause-cause
returns-in_err-answer_in_memory-in-AnswerInMemory-clause-cause g c =
    let is : c.from_residual.result ≡ Err c.in_err-answer_in_memory-in-AnswerInMemory.field-0.0 = search rules in
    rw c.in-AnswerInMemory.is (rw is c.in_err-answer_in_memory-in-AnswerInMemory.ensures.cause)
