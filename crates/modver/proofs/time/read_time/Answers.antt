use Rattle.std.proofs.Common.{◌∙◌, subst, sym}
use Rattle.std.specs.Prelude.{codes}
use Rattle.modver.specs.Time.{IsTime, IsTimeFault}
use Rattle.modver.specs.declared.time.TimeFault.TheVariants as fault
use Rattle.modver.proofs.Forms.{length-fits}
use Rattle.modver.proofs.Times.{date-fault, time-of_tests}
use Rattle.modver.proofs.time.read_time.Goals as goal

pub copy_from_slice-requires : goal.copy_from_slice-requires
copy_from_slice-requires c = length-fits (codes "dddd-dd-ddTdd:dd:ddZ") _ (sym c.if-not-fits_form.ensures)

pub returns-then-not-is_moment-clause-err : goal.returns-then-not-is_moment-clause-err
returns-then-not-is_moment-clause-err c =
    subst (λ t. IsTimeFault t fault.Date) c.as_bytes-text.ensures.value
    (date-fault _ (sym c.if-not-fits_form.ensures) (sym c.if-not-is_moment.ensures))

pub invariant_of-result : goal.invariant_of-result
invariant_of-result c = subst IsTime (sym c.copy_from_slice.ensures.after)
    (time-of_tests _ (sym c.if-not-fits_form.ensures) (sym c.if-not-is_moment.ensures))

pub returns-clause-ok : goal.returns-clause-ok
returns-clause-ok c = (
  c.copy_from_slice.ensures.after ∙ c.as_bytes-text.ensures.value,
  subst IsTime c.as_bytes-text.ensures.value
      (time-of_tests _ (sym c.if-not-fits_form.ensures) (sym c.if-not-is_moment.ensures)),
)
