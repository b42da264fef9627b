use Rattle.std.proofs.Common.{List, ◌∷◌, ap, inl, inr, refl, ◌∙◌, Err}
use Rattle.tp_images.specs.Deeds.{Closes, Deed}
use Rattle.tp_commands.proofs.images.status_of_image.Goals as goal

pub tell_status_on-disk-requires : goal.tell_status_on-disk-requires
tell_status_on-disk-requires g c = let out = c.in-Ok.ensures in out.handed_out

pub returns-in-Ok : goal.returns-in-Ok
returns-in-Ok g c =
    let out = c.in-Ok.ensures in
    let after = g.I.Disk.Disk.state c.tell_status_on-disk.result.0 in
    inr (record {
      before = g.I.Disk.Disk.state c.in-Ok.disk;
      after = after;
      deeds = c.close.ensures ∙ ap (λ (l : List Deed). Closes c.args.name.now after ∷ l) out.deeds;
      handed_out = out.handed_out;
      lasts = out.lasts;
      does = c.tell_status_on-disk.ensures;
    })

pub returns-in-Err : goal.returns-in-Err
returns-in-Err g c = inl (c.in-Err.ensures, ap Err c.unopened.ensures, refl)
