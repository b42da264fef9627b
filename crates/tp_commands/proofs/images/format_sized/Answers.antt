use Rattle.std.proofs.Common.{◌≡◌, List, ◌∷◌, ap, inl, inr, refl, ◌∙◌, Err, arith}
use Rattle.tp_model.specs.Geometry.{sectors_of_image}
use Rattle.tp_images.specs.Deeds.{Closes, Deed}
use Rattle.tp_commands.proofs.images.format_sized.Goals as goal

pub format_on-disk-requires : goal.format_on-disk-requires
format_on-disk-requires g c =
    let same : (g.I.Disk.Disk.state c.in-Ok.disk).size ≡ sectors_of_image c.args.geometry = c.in-Ok.ensures.size ∙ c.image_sectors.ensures in
    omega (arith, same)

pub returns-in-Ok : goal.returns-in-Ok
returns-in-Ok g c =
    let out = c.in-Ok.ensures.told in
    let after = g.I.Disk.Disk.state c.format_on-disk.result.0 in
    inr (record {
      before = g.I.Disk.Disk.state c.in-Ok.disk;
      after = after;
      deeds = c.close.ensures ∙ ap (λ (l : List Deed). Closes c.args.name.now after ∷ l) out.deeds;
      handed_out = out.handed_out;
      lasts = out.lasts;
      does = (c.in-Ok.ensures.size ∙ c.image_sectors.ensures, c.format_on-disk.ensures);
    })

pub returns-in-Err : goal.returns-in-Err
returns-in-Err g c = inl (c.in-Err.ensures.told, ap Err c.unopened.ensures, refl)
