use Rattle.tp_commands.specs.Images.{sizes_asked}
use Rattle.tp_headline.proofs.FirstUser.{first_told}
use Rattle.tp_headline.proofs.users.make_and_tell.Goals as goal

pub returns : goal.returns
returns g c =
    let deeds = g.I.Images.deeds in
    let calls = g.S.Stream.calls in
    let law = c.commands_go_on.ensures in
    first_told law.told c.args.name.now (sizes_asked c.args.sizes.now) c.args.id (deeds c.make_first.new.images) (deeds c.status_of_image.new.images) (calls c.args.stream.now) (calls c.make_first.new.stream)
    (calls c.status_of_image.new.stream) c.in_ok-make_first.ensures c.status_of_image.result c.status_of_image.ensures
