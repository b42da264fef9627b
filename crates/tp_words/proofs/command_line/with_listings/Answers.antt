use Rattle.tp_tasks.specs.CommandLine.{delta_app, free_app, list_app, map_app, with_command}
use Rattle.tp_words.proofs.command_line.with_listings.Goals as goal

pub returns : goal.returns
returns c before was =
    let one = with_command before list_app in
    let two = with_command one map_app in
    let three = with_command two delta_app in
    c.add_to_made.ensures three free_app
    (c.add_to_made-known-3.ensures two delta_app
    (c.add_to_made-known-2.ensures one map_app
    (c.add_to_made-known.ensures before list_app was c.list_command.ensures)
    c.map_command.ensures)
    c.delta_command.ensures)
    c.free_command.ensures
