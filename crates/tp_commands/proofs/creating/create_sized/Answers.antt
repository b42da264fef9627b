use Rattle.tp_failures.specs.Failures.{number_of}
use Rattle.tp_commands.proofs.Chosen.{then_made, unprinted}
use Rattle.tp_commands.proofs.creating.create_sized.Goals as goal

pub returns-then-not-write_sizes : goal.returns-then-not-write_sizes
returns-then-not-write_sizes g c =
    let calls = g.S.Stream.calls in
    unprinted c.args.asks c.args.image.now c.args.geometry.now c.args.overwrites (g.I.Images.deeds c.args.images.now) (calls c.args.stream.now) (calls c.write_sizes.new.stream) c.from.result.refusal
    c.if-not-write_sizes.ensures c.from.ensures

pub returns : goal.returns
returns g c =
    let calls = g.S.Stream.calls in
    let deeds = g.I.Images.deeds in
    then_made c.args.asks c.args.image.now c.args.geometry.now c.sizes_of-sizes.result c.args.overwrites (deeds c.args.images.now) (deeds c.format.new.images) (calls c.args.stream.now) (calls c.write_sizes.new.stream)
    (calls c.format.new.stream) (number_of c.format.result) c.if-not-write_sizes.ensures c.sizes_of-sizes.ensures c.format.ensures
