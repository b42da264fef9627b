use Rattle.tp_images.specs.declared.way.Way.TheVariants.{ToRead}
use Rattle.tp_images.proofs.Unclaimed.{answers_unclaimed, opened_unclaimed}
use Rattle.tp_images.proofs.files.FileImagesImages.open_to_read.Goals as goal

pub returns : goal.returns
returns g c = answers_unclaimed _ ToRead c.args.name.now c.args.self.now.log.deeds c.opened-self.result.deeds c.open_to_read-answer.result c.args.self.now.unclaimed c.opened-self.ensures c.open_to_read-answer.ensures

pub invariant_of-self : goal.invariant_of-self
invariant_of-self g c = record { unclaimed = opened_unclaimed _ ToRead c.args.name.now c.args.self.now.log.deeds c.opened-self.result.deeds c.open_to_read-answer.result c.args.self.now.unclaimed c.opened-self.ensures }
