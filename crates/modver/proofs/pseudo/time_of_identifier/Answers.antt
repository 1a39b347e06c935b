use Rattle.std.proofs.Common.{◌∙◌, sym}
use Rattle.modver.proofs.Forms.{identifier-time}
use Rattle.modver.proofs.pseudo.time_of_identifier.Goals as goal

pub returns : goal.returns
returns c = c.of_stamp.ensures ∙ identifier-time c.args.identifier.now (sym c.if-not-fits_form.ensures)
