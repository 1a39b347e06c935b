use Rattle.machine.proofs.Runs.{runs_replied, runs_failed}
use Rattle.machine.proofs.run.answer.Goals as goal

pub returns-in-Ok-clause-runs : goal.returns-in-Ok-clause-runs
returns-in-Ok-clause-runs g c =
    let does = c.in-Ok.ensures.does in
    record {
      honest = does.honest;
      at = λ h w stands.
          runs_replied _ _ w c.args.event.now c.in-Ok.reply (does.at h w stands tt);
    }

pub returns-in-Err-clause-runs : goal.returns-in-Err-clause-runs
returns-in-Err-clause-runs g c =
    let does = c.in-Err.ensures.does in
    record {
      honest = does.honest;
      at = λ h w stands.
          runs_failed _ _ w c.args.event.now c.in-Err.fault _ (does.at h w stands tt);
    }
