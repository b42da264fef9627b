use Rattle.std.proofs.Common.{◌≡◌, ◌*◌, replicate, ap, ◌∙◌, refl, rules}
use Rattle.tp_model.specs.Sectors.{zero_sector, chopped}
use Rattle.tp_disk.proofs.Currents.{chopped-zeros}
use Rattle.tp_disk.proofs.memory.MemDisk.new.Goals as goal

pub returns : goal.returns
returns c =
    let zeros : c.in_ok-kept.kept.items ≡ replicate (512 * c.args.sectors) 0 = search rules in
    let same : chopped c.args.sectors c.in_ok-kept.kept.items ≡ replicate c.args.sectors zero_sector = ap (chopped c.args.sectors) zeros ∙ chopped-zeros c.args.sectors (512 * c.args.sectors) refl in
    rw same at c.begin.ensures
