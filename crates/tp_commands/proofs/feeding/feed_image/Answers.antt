use Rattle.std.proofs.Common.{Err, ap, inl, inr, refl}
use Rattle.tp_commands.proofs.Deeds.{done_on}
use Rattle.tp_commands.proofs.feeding.feed_image.Goals as goal

pub feed_disk-disk-requires : goal.feed_disk-disk-requires
feed_disk-disk-requires g c = let out = c.in-Ok.ensures in out.handed_out

pub returns-in-Ok : goal.returns-in-Ok
returns-in-Ok g c = inr (done_on _ c.in-Ok.ensures c.close.ensures c.feed_disk-disk.ensures)

pub returns-in-Err : goal.returns-in-Err
returns-in-Err g c = inl (c.in-Err.ensures, ap Err c.unopened.ensures, refl)
