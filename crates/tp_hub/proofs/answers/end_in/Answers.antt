use Rattle.std.proofs.Common.{◌∙◌, ap, length}
use Rattle.tp_hub.proofs.Ending.{still_few}
use Rattle.tp_hub.proofs.answers.end_in.Goals as goal

pub returns-clause-most : goal.returns-clause-most
returns-clause-most g c most fits room =
    still_few c.widen.new.bytes.len c.end_at.new.bytes c.widen.new.bytes.items most (c.end_at.ensures.len ∙ ap length c.deref_mut.ensures.value) (c.widen.ensures.most most fits room)
