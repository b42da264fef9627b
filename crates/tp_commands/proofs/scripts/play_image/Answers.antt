use Rattle.std.proofs.Common.{inl, inr, refl}
use Rattle.tp_commands.proofs.Deeds.{done_on}
use Rattle.tp_commands.proofs.scripts.play_image.Goals as goal

pub play_disk-disk-requires : goal.play_disk-disk-requires
play_disk-disk-requires g c = let out = c.in-Ok.ensures in out.handed_out

pub returns-in-Ok : goal.returns-in-Ok
returns-in-Ok g c = inr (done_on _ c.in-Ok.ensures c.close.ensures c.play_disk-disk.ensures)

pub returns-in-Err : goal.returns-in-Err
returns-in-Err g c = inl (c.in-Err.ensures, (c.unopened.result, refl, c.unopened.ensures), refl)
