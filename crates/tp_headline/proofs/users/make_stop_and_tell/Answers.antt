use Rattle.tp_commands.specs.Images.{sizes_asked}
use Rattle.tp_headline.proofs.FirstUser.{first_told_honest}
use Rattle.tp_headline.proofs.users.make_stop_and_tell.Goals as goal

pub returns : goal.returns
returns g c =
    let calls = g.S.Stream.calls in
    let law = c.commands_go_on.ensures in
    first_told_honest law.told c.args.name.now (sizes_asked c.args.sizes.now) c.args.id c.make_first.new.images c.stop.new.self c.status_of_image.new.images (calls c.args.stream.now) (calls c.make_first.new.stream)
    (calls c.status_of_image.new.stream) c.in_ok-make_first.ensures c.are_honest.ensures c.stop.ensures c.status_of_image.result c.status_of_image.ensures
