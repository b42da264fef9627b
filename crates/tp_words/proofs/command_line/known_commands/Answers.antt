use Rattle.tp_tasks.specs.CommandLine.{ask_app, check_app, feed_app, play_app, run_app, serve_app, with_command, with_first, with_listings, without_subcommands}
use Rattle.tp_words.proofs.command_line.known_commands.Goals as goal

pub returns : goal.returns
returns c =
    let first = with_first without_subcommands in
    let listings = with_listings first in
    let one = with_command listings check_app in
    let two = with_command one feed_app in
    let three = with_command two serve_app in
    let four = with_command three play_app in
    let five = with_command four run_app in
    c.add_to_made.ensures five ask_app
    (c.add_to_made-known-5.ensures four run_app
    (c.add_to_made-known-4.ensures three play_app
    (c.add_to_made-known-3.ensures two serve_app
    (c.add_to_made-known-2.ensures one feed_app
    (c.add_to_made-known.ensures listings check_app
    (c.with_listings-known.ensures first
    (c.with_first-known.ensures without_subcommands c.program.ensures))
    c.check_command.ensures)
    c.feed_command.ensures)
    c.serve_command.ensures)
    c.play_command.ensures)
    c.run_command.ensures)
    c.ask_command.ensures
