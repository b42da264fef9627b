use Rattle.std.proofs.Common.{◌∙◌, ap}
use Rattle.tp_lines.specs.Lines.{spelling}
use Rattle.tp_lines.proofs.Controlling.{asks_bytes, asks_hangup, asks_message, asks_nothing, asks_open}
use Rattle.tp_lines.proofs.control.event_like.Goals as goal

pub returns-in-Nothing : goal.returns-in-Nothing
returns-in-Nothing c = asks_nothing c.args.line.now _ c.message_of-message.ensures (c.requires.spelled ∙ ap spelling c.in-Nothing.is)

pub returns-in-Open : goal.returns-in-Open
returns-in-Open c = asks_open c.args.line.now _ _ c.message_of-message.ensures (c.requires.spelled ∙ ap spelling c.in-Open.is)

pub returns-in-Bytes : goal.returns-in-Bytes
returns-in-Bytes c = asks_bytes c.args.line.now _ _ c.message_of-message.ensures (c.requires.spelled ∙ ap spelling c.in-Bytes.is)

pub returns-in-Hangup : goal.returns-in-Hangup
returns-in-Hangup c = asks_hangup c.args.line.now _ _ c.message_of-message.ensures (c.requires.spelled ∙ ap spelling c.in-Hangup.is)

pub returns-in-Message : goal.returns-in-Message
returns-in-Message c = asks_message c.args.line.now _ _ c.message_of-message.ensures (c.requires.spelled ∙ ap spelling c.in-Message.is)
