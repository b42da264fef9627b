use Rattle.std.proofs.Common.{sym, ap, subst, ◌∙◌}
use Rattle.nbd_wire.specs.declared.Request.{Request}
use Rattle.nbd_session.specs.declared.phase.Course.TheVariants.{Works}
use Rattle.nbd_session.specs.declared.phase.Phase.TheVariants.{Transmission}
use Rattle.nbd_session.specs.Buffers.{IsSound}
use Rattle.nbd_session.proofs.Parting.{left_to_keep}
use Rattle.nbd_session.proofs.answer.write_apart.Goals as goal

pub returns-in-Ok-clause-sound : goal.returns-in-Ok-clause-sound
returns-in-Ok-clause-sound g c =
    let stands = c.at_work.ensures ∙ ap (λ (r : Request). Transmission c.args.volume c.args.size (Works c.args.manner r)) c.to_keep.ensures in
    subst IsSound (sym stands) (left_to_keep c.args.size c.args.request c.requires.whole c.requires.some)
