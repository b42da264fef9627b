use Rattle.tp_images.specs.declared.way.Way.TheVariants.{ToMake}
use Rattle.tp_images.proofs.Unclaimed.{opened_unclaimed}
use Rattle.tp_images.proofs.files.FileImagesImages.create.Goals as goal

pub invariant_of-self : goal.invariant_of-self
invariant_of-self g c = record { unclaimed = opened_unclaimed _ ToMake c.args.name.now c.args.self.now.log.deeds c.opened-self.result.deeds c.create-answer.result c.args.self.now.unclaimed c.opened-self.ensures }
