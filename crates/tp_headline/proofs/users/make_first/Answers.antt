use Rattle.std.proofs.Common.{false}
use Rattle.tp_headline.proofs.FirstUser.{first_made}
use Rattle.tp_headline.proofs.users.make_first.Goals as goal

pub returns : goal.returns
returns g c =
    let deeds = g.I.Images.deeds in
    let calls = g.S.Stream.calls in
    let law = c.commands_go_on.ensures in
    first_made law.made law.given c.args.name.now c.args.sizes.now false (deeds c.args.images.now) (deeds c.format_image.new.images) (deeds c.message_to_image.new.images) (calls c.args.stream.now) (calls c.format_image.new.stream)
    (calls c.message_to_image.new.stream) c.in_ok-format_image.ensures c.message_to_image.result c.message_to_image.ensures
