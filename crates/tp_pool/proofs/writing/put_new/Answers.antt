use Rattle.std.proofs.Common.{◌%◌, ◌/◌, [], ap, arith, Err, length, rules, subst, ◌∙◌, ◌≡◌}
use Rattle.tp_model.specs.Calls.{Write}
use Rattle.std.specs.Prelude.{false}
use Rattle.tp_model.specs.Geometry.{Geometry, data_sector}
use Rattle.tp_model.specs.Sectors.{sectors_of}
use Rattle.tp_model.specs.DiskStops.{LeavesOutside}
use Rattle.tp_model.proofs.DiskLaws.{length-sectors_of}
use Rattle.tp_model.specs.Disk.{DiskState}
use Rattle.tp_counts.specs.declared.error.StoreError.TheVariants.{Damaged}
use Rattle.tp_pool.proofs.Halves.{half_changing, left_new}
use Rattle.tp_pool.specs.Writing.{Mapped}
use Rattle.tp_pool.proofs.NewBlock.{fills_same, written_new}
use Rattle.tp_pool.proofs.Ranges.{block_has}
use Rattle.tp_pool.proofs.Runs.{disk_ran, no_fault, one_fault, ran_joins}
use Rattle.tp_pool.proofs.Times.{leaves_later}
use Rattle.tp_pool.proofs.writing.put_new.Goals as goal

pub returns-in_err-place-clause-left : goal.returns-in_err-place-clause-left
returns-in_err-place-clause-left g c now kept stood device =
    half_changing (g.M.Metadata.geometry c.args.metadata.now) (Write c.args.id c.args.sector (sectors_of c.args.bytes.now) false) c.args.id [] kept (g.D.Disk.state c.args.disk.now) (g.D.Disk.state c.map_new.new.disk)
    (c.map_new.ensures.changing now kept stood).any_moment

pub returns-in-Ok-clause-written : goal.returns-in-Ok-clause-written
returns-in-Ok-clause-written g c now kept stood device from =
    let M = g.M.Metadata in
    let size = M.geometry c.args.metadata.now in
    let mid = g.D.Disk.state c.map_new.new.disk in
    let new = g.D.Disk.state c.fill.new.disk in
    let count = length-sectors_of c.args.bytes.now in
    let block : c.block_of.result ≡ c.args.sector / size.block_sectors = c.block_of.ensures.block ∙ ap (λ (x : Geometry). c.args.sector / x.block_sectors) c.geometry-geometry.ensures in
    let offset : c.args.sector % c.block_sectors.result ≡ c.args.sector % size.block_sectors =
    ap (λ n. c.args.sector % n) (c.block_sectors.ensures.value ∙ ap (λ (x : Geometry). x.block_sectors) c.geometry-geometry.ensures) in
    written_new M.geometry M.stands M.marks c.args.id c.args.sector c.in_ok-place.place c.args.bytes.now c.args.metadata.now c.map_new.new.metadata (g.D.Disk.state c.args.disk.now) mid new now kept c.args.from
    (λ x a b k s. g.met.M.Metadata.frame c.map_new.new.metadata a b x kept k s)
    (λ x s. ((g.met.M.Metadata.within c.map_new.new.metadata mid x kept s).volumes_now.ascend, g.met.M.Metadata.honest c.map_new.new.metadata mid x kept s))
    c.in_ok-place.ensures.ran.geometry device.0
    (subst (λ b. Mapped M.geometry M.stands M.marks c.args.id b c.in_ok-place.place c.args.metadata.now c.map_new.new.metadata mid now kept) block
    (c.in_ok-place.ensures.mapped now kept stood
    (block_has (g.M.Metadata.geometry c.args.metadata.now) c.geometry-geometry.result c.geometry-geometry.ensures c.block_of.ensures.limits c.args.id c.args.sector (length (sectors_of c.args.bytes.now)) c.block_of.result now.volumes c.block_of.ensures.block (omega (arith, c.requires.some, length-sectors_of c.args.bytes.now)) device)))
    (c.map_new.ensures.changing now kept stood).same_data
    (fills_same c.args.blocks.now size (c.args.sector % c.block_sectors.result) (c.args.sector % size.block_sectors) c.in_ok-place.place c.args.bytes.now c.args.from mid new c.requires.blocks offset c.in-Ok.ensures.filled)
    from
    (subst (λ (x : Geometry). LeavesOutside (data_sector x c.in_ok-place.place) x.block_sectors mid new) c.requires.blocks c.fill.ensures.any_moment)
    c.fill.ensures.same_disk (omega (arith, c.requires.disk, c.in_ok-place.ensures.ran.same_disk.size)) (g.met.D.Disk.well_formed c.map_new.new.disk)
    (omega (arith, c.requires.some, count)) (omega (arith, c.requires.inside, count))

pub returns-in-Ok-clause-left : goal.returns-in-Ok-clause-left
returns-in-Ok-clause-left g c now kept stood device =
    let w = c.in_ok-place.ensures.mapped now kept stood
    (block_has (g.M.Metadata.geometry c.args.metadata.now) c.geometry-geometry.result c.geometry-geometry.ensures c.block_of.ensures.limits c.args.id c.args.sector (length (sectors_of c.args.bytes.now)) c.block_of.result now.volumes c.block_of.ensures.block (omega (arith, c.requires.some, length-sectors_of c.args.bytes.now)) device) in
    let mid = g.D.Disk.state c.map_new.new.disk in
    let new = g.D.Disk.state c.fill.new.disk in
    left_new (g.M.Metadata.geometry c.args.metadata.now) (Write c.args.id c.args.sector (sectors_of c.args.bytes.now) false) c.args.id [] kept c.in_ok-place.place w.0.free.1 (g.D.Disk.state c.args.disk.now) mid new
    (c.map_new.ensures.changing now kept stood).any_moment
    (subst (λ (x : Geometry). LeavesOutside (data_sector x c.in_ok-place.place) x.block_sectors mid new) c.requires.blocks c.fill.ensures.any_moment)

pub returns-in-Ok-clause-ran : goal.returns-in-Ok-clause-ran
returns-in-Ok-clause-ran g c =
    let same : (g.D.Disk.state c.fill.new.disk).failures ≡ (g.D.Disk.state c.map_new.new.disk).failures = ap (λ (d : DiskState). d.failures) c.in-Ok.ensures.filled.written in
    ran_joins c.in_ok-place.ensures.ran (disk_ran c.fill.ensures.same_disk (no_fault same) c.fill.ensures.flushes (leaves_later c.fill.ensures.any_moment)) (omega arith)

pub returns-in-Err-clause-left : goal.returns-in-Err-clause-left
returns-in-Err-clause-left g c now kept stood device =
    let w = c.in_ok-place.ensures.mapped now kept stood
    (block_has (g.M.Metadata.geometry c.args.metadata.now) c.geometry-geometry.result c.geometry-geometry.ensures c.block_of.ensures.limits c.args.id c.args.sector (length (sectors_of c.args.bytes.now)) c.block_of.result now.volumes c.block_of.ensures.block (omega (arith, c.requires.some, length-sectors_of c.args.bytes.now)) device) in
    let mid = g.D.Disk.state c.map_new.new.disk in
    let new = g.D.Disk.state c.fill.new.disk in
    left_new (g.M.Metadata.geometry c.args.metadata.now) (Write c.args.id c.args.sector (sectors_of c.args.bytes.now) false) c.args.id [] kept c.in_ok-place.place w.0.free.1 (g.D.Disk.state c.args.disk.now) mid new
    (c.map_new.ensures.changing now kept stood).any_moment
    (subst (λ (x : Geometry). LeavesOutside (data_sector x c.in_ok-place.place) x.block_sectors mid new) c.requires.blocks c.fill.ensures.any_moment)

pub returns-in-Err-clause-ran : goal.returns-in-Err-clause-ran
returns-in-Err-clause-ran g c =
    ran_joins c.in_ok-place.ensures.ran (disk_ran c.fill.ensures.same_disk (one_fault c.in-Err.ensures.err) c.fill.ensures.flushes (leaves_later c.fill.ensures.any_moment)) (omega arith)

pub returns-in_err-place-clause-damaged : goal.returns-in_err-place-clause-damaged
returns-in_err-place-clause-damaged g c e now kept stood device some =
    let f : c.map_new.result ≡ Err Damaged = search (rules, e) in
    c.map_new.ensures.damaged f now kept stood
    (block_has (g.M.Metadata.geometry c.args.metadata.now) c.geometry-geometry.result c.geometry-geometry.ensures c.block_of.ensures.limits c.args.id c.args.sector (length (sectors_of c.args.bytes.now)) c.block_of.result now.volumes c.block_of.ensures.block (omega (arith, c.requires.some, length-sectors_of c.args.bytes.now)) device) some
