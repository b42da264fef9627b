use Rattle.std.proofs.Common.{◌≡◌, ◌+◌, ◌*◌, ◌/◌, ◌%◌, ◌≤◌, None, Some, length, arith, ◌∙◌, ap, subst}
use Rattle.std.specs.Prelude.{IfSome, Option}
use Rattle.tp_model.specs.Geometry.{data_sector}
use Rattle.tp_model.specs.Sectors.{bytes_at}
use Rattle.tp_model.specs.Disk.{seen}
use Rattle.tp_model.proofs.DiskLaws.{length-seen}
use Rattle.tp_meta.specs.declared.metadata.Home.{Home}
use Rattle.tp_pool.specs.Reading.{IsRun}
use Rattle.tp_pool.specs.Writing.{old_place}
use Rattle.tp_pool.proofs.Fetching.{reads_none, reads_run}
use Rattle.tp_pool.proofs.reading.read_part.Goals as goal

pub returns-in_default-clause-bytes : goal.returns-in_default-clause-bytes
returns-in_default-clause-bytes g c honest id volumes run =
    let gm = c.args.geometry.now in
    let n = length c.args.out.now / 512 in
    let none : IsRun gm id c.args.sector n volumes None = subst (λ (o : Option Home). IsRun gm id c.args.sector n volumes (old_place o)) c.in_default.is run in
    c.fill.ensures.after (λ y e. e)
    ∙ reads_none gm volumes (seen (g.D.Disk.state c.args.disk.now).cells) id c.args.sector n (omega (arith, c.block_sectors.ensures.within.block_least)) (length c.args.out.now) (omega (arith, c.requires.whole)) none

pub returns-in-Ok-clause-bytes : goal.returns-in-Ok-clause-bytes
returns-in-Ok-clause-bytes g c honest id volumes run =
    let gm = c.args.geometry.now in
    let disk = g.D.Disk.state c.args.disk.now in
    let n = length c.args.out.now / 512 in
    let place = c.in-Some.home.place in
    let follow : IsRun gm id c.args.sector n volumes (Some place) = subst (λ (o : Option Home). IsRun gm id c.args.sector n volumes (old_place o)) c.in-Some.is run in
    let same : data_sector c.args.blocks.now place + c.args.sector % c.block_sectors.result ≡ data_sector gm place + c.args.sector % gm.block_sectors =
    (λ i. data_sector (c.requires.blocks i) place + c.args.sector % c.block_sectors.ensures.value i) in
    let fits : place * gm.block_sectors + c.args.sector % gm.block_sectors + n ≤ gm.data_blocks * gm.block_sectors =
    subst (λ (o : Option Home). IfSome o (λ home. home.place * gm.block_sectors + c.args.sector % gm.block_sectors + n ≤ gm.data_blocks * gm.block_sectors)) c.in-Some.is c.requires.inside in
    c.in-Ok.ensures.bytes honest
    ∙ ap (λ k. bytes_at (seen disk.cells) k n) same
    ∙ reads_run gm volumes (seen disk.cells) id c.args.sector n (omega (arith, c.block_sectors.ensures.within.block_least)) place follow
    (omega (arith, fits, c.requires.disk, length-seen (g.met.D.Disk.well_formed c.args.disk.now)))
