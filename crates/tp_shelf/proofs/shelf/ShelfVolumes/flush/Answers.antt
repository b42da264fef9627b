use Rattle.std.proofs.Common.{◌∙◌, ap, length, length-append, refl}
use Rattle.tp_shelf.proofs.Shelving.{meets_flush}
use Rattle.tp_shelf.proofs.shelf.ShelfVolumes.flush.Goals as goal

pub returns : goal.returns
returns c = meets_flush _ _ _ c.args.self.now _ refl refl (ap length c.note.ensures ∙ length-append c.args.self.now.flushes.calls _)
