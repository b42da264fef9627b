use Rattle.std.proofs.Common.{◌∙◌, ap, sym}
use Rattle.nbd_wire.specs.declared.Frame.{Frame}
use Rattle.nbd_wire.specs.Reading.{message_of}
use Rattle.nbd_session.specs.Requests.{kind_of_message}
use Rattle.nbd_session.proofs.batch.kind_of_frame.Goals as goal

pub returns-in-Command : goal.returns-in-Command
returns-in-Command c = c.kind_of_request.ensures ∙ ap (λ (f : Frame). kind_of_message (message_of f)) (sym c.in-Command.is)
