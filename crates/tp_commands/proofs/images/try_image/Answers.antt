use Rattle.std.proofs.Common.{List, ◌∷◌, ap, inl, inr, refl, ◌∙◌, Err}
use Rattle.tp_images.specs.Deeds.{Closes, Deed}
use Rattle.tp_commands.proofs.images.try_image.Goals as goal

pub try_disk-disk-requires : goal.try_disk-disk-requires
try_disk-disk-requires g c = let out = c.in-Ok.ensures in out.handed_out

pub returns-in-Ok : goal.returns-in-Ok
returns-in-Ok g c =
    let out = c.in-Ok.ensures in
    let after = g.I.Disk.Disk.state c.try_disk-disk.result.0 in
    inr (record {
      before = g.I.Disk.Disk.state c.in-Ok.disk;
      after = after;
      deeds = c.close.ensures ∙ ap (λ (l : List Deed). Closes c.args.name.now after ∷ l) out.deeds;
      handed_out = out.handed_out;
      lasts = out.lasts;
      does = c.try_disk-disk.ensures;
    })

pub returns-in-Err : goal.returns-in-Err
returns-in-Err g c = inl (c.in-Err.ensures, ap Err c.unopened.ensures, refl)
