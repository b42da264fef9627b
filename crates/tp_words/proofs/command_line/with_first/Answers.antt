use Rattle.tp_tasks.specs.CommandLine.{create_app, format_app, message_app, status_app, with_command}
use Rattle.tp_words.proofs.command_line.with_first.Goals as goal

pub returns : goal.returns
returns c before was =
    let one = with_command before format_app in
    let two = with_command one create_app in
    let three = with_command two message_app in
    c.add_to_made.ensures three status_app
    (c.add_to_made-known-3.ensures two message_app
    (c.add_to_made-known-2.ensures one create_app
    (c.add_to_made-known.ensures before format_app was c.format_command.ensures)
    c.create_command.ensures)
    c.message_command.ensures)
    c.status_command.ensures
