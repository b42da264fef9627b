use Rattle.std.proofs.Common.{refl}
use Rattle.std.specs.Prelude.{is_ok}
use Rattle.tp_images.proofs.Shelved.{put_pushed}
use Rattle.tp_images.proofs.shelf.add.Goals as goal

pub returns-in-Ok-clause-there : goal.returns-in-Ok-clause-there
returns-in-Ok-clause-there c =
    rw c.is_ok.ensures.value (put_pushed (is_ok c.push.result) c.args.name.now (record { name = c.in-Ok.name; disk = c.args.disk }) c.args.disk _ _ c.push.ensures.items c.requires c.in-Ok.ensures.items refl)
