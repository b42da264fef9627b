use Rattle.tp_model.proofs.CopiesStay.{copies_stay}
use Rattle.tp_model.proofs.laws.copies_stay.Goals as goal

pub returns : goal.returns
returns c old call answer made new = copies_stay old call answer made new
