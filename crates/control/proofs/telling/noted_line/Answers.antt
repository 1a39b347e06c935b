use Rattle.std.proofs.Common.{refl, subst, sym}
use Rattle.control.specs.Notices.{IsNotice, Lost}
use Rattle.control.proofs.telling.noted_line.Goals as goal

pub returns-in-Ok-clause-notice : goal.returns-in-Ok-clause-notice
returns-in-Ok-clause-notice c = subst IsNotice (sym c.as_str.ensures) c.in-Ok.notice.is

pub returns-in-Err-clause-notice : goal.returns-in-Err-clause-notice
returns-in-Err-clause-notice c = ∣ (Lost, refl) ∣₁
