use Rattle.tp_images.proofs.Unclaimed.{closed_unclaimed}
use Rattle.tp_images.proofs.files.FileImagesImages.close.Goals as goal

pub invariant_of-self : goal.invariant_of-self
invariant_of-self g c = record { unclaimed = closed_unclaimed c.args.name.now c.args.self.now.log.deeds c.closed-self.result.deeds c.args.disk.shadow.state c.args.disk.unclaimed c.args.self.now.unclaimed c.closed-self.ensures }
