use Rattle.std.proofs.Common.{◌≡◌, ◌*◌, length, ◌∙◌, ap, refl, subst, sym, arith}
use Rattle.std.proofs.lemmas.Result.{on_ok_weaker}
use Rattle.tp_model.specs.Geometry.{Geometry, data_sector}
use Rattle.tp_model.specs.Disk.{DiskState}
use Rattle.tp_model.specs.DiskStops.{LeavesOutside}
use Rattle.tp_model.proofs.DiskLaws.{length-sectors_of}
use Rattle.tp_model.proofs.DiskStopLaws.{starts_outside, goes_on_outside}
use Rattle.tp_blocks.proofs.Filling.{block_over, covers, fills, may_fill, may_fill_none}
use Rattle.tp_blocks.proofs.Blocks.fill.Goals as goal

pub returns-then-bytes-block_sectors-clause-filled : goal.returns-then-bytes-block_sectors-clause-filled
returns-then-bytes-block_sectors-clause-filled g c =
    let place : c.data_sector-at.result ≡ data_sector c.args.self.now c.args.block = c.data_sector-at.ensures ∙ ap (λ (sizes : Geometry). data_sector sizes c.args.block) c.self.view_is in
    let sectors = ap (λ (sizes : Geometry). sizes.block_sectors) c.self.view_is in
    let long : length c.args.bytes.now ≡ 512 * c.args.self.now.block_sectors = omega (arith, sectors, c.if-bytes-block_sectors.true, c.block_sectors.ensures.value) in
    on_ok_weaker c.write.result
    (fills c.args.self.now c.args.block c.args.sector c.args.bytes.now c.args.from (g.D.Disk.state c.args.disk.now) (g.met.D.Disk.well_formed c.args.disk.now)
    c.requires.disk c.requires.from c.requires.whole c.requires.inside c.args.bytes.now long
    (λ known. covers c.args.self.now c.args.block c.args.sector c.args.bytes.now c.args.from (g.D.Disk.state c.args.disk.now) (g.met.D.Disk.well_formed c.args.disk.now)
    c.requires.disk c.requires.from c.requires.whole c.requires.inside long)
    c.data_sector-at.result place (g.D.Disk.state c.args.disk.now) (g.D.Disk.state c.write.new.self) refl)
    c.write.ensures.ok

pub returns-then-bytes-block_sectors-clause-any : goal.returns-then-bytes-block_sectors-clause-any
returns-then-bytes-block_sectors-clause-any g c =
    let place : c.data_sector-at.result ≡ data_sector c.args.self.now c.args.block = c.data_sector-at.ensures ∙ ap (λ (sizes : Geometry). data_sector sizes c.args.block) c.self.view_is in
    let sectors = ap (λ (sizes : Geometry). sizes.block_sectors) c.self.view_is in
    let long : length c.args.bytes.now ≡ 512 * c.args.self.now.block_sectors = omega (arith, sectors, c.if-bytes-block_sectors.true, c.block_sectors.ensures.value) in
    may_fill c.args.self.now c.args.block c.args.sector c.args.bytes.now c.args.from (g.D.Disk.state c.args.disk.now) (g.met.D.Disk.well_formed c.args.disk.now)
    c.requires.disk c.requires.from c.requires.whole c.requires.inside c.args.bytes.now long
    (λ known. covers c.args.self.now c.args.block c.args.sector c.args.bytes.now c.args.from (g.D.Disk.state c.args.disk.now) (g.met.D.Disk.well_formed c.args.disk.now)
    c.requires.disk c.requires.from c.requires.whole c.requires.inside long)
    c.data_sector-at.result place (g.D.Disk.state c.args.disk.now) (g.D.Disk.state c.write.new.self) refl c.write.ensures.any

pub returns-then-bytes-block_sectors-clause-any_moment : goal.returns-then-bytes-block_sectors-clause-any_moment
returns-then-bytes-block_sectors-clause-any_moment g c =
    let place : c.data_sector-at.result ≡ data_sector c.args.self.now c.args.block = c.data_sector-at.ensures ∙ ap (λ (sizes : Geometry). data_sector sizes c.args.block) c.self.view_is in
    let sectors = ap (λ (sizes : Geometry). sizes.block_sectors) c.self.view_is in
    let long : length c.args.bytes.now ≡ 512 * c.args.self.now.block_sectors = omega (arith, sectors, c.if-bytes-block_sectors.true, c.block_sectors.ensures.value) in
    let old = g.D.Disk.state c.args.disk.now in
    let at = data_sector c.args.self.now c.args.block in
    goes_on_outside (starts_outside at c.args.self.now.block_sectors old)
    c.write.ensures.any (omega (arith, place)) (omega (arith, place, long, length-sectors_of c.args.bytes.now))

pub returns-in_err-compose-clause-any : goal.returns-in_err-compose-clause-any
returns-in_err-compose-clause-any g c =
    may_fill_none c.args.self.now c.args.block c.args.sector c.args.bytes.now c.args.from (g.D.Disk.state c.args.disk.now) (g.met.D.Disk.well_formed c.args.disk.now)
    c.requires.disk c.requires.from c.requires.whole c.requires.inside
    (g.D.Disk.state c.compose.new.disk) c.in_err-compose.ensures.state

pub returns-clause-filled : goal.returns-clause-filled
returns-clause-filled g c =
    let place : c.data_sector-at.result ≡ data_sector c.args.self.now c.args.block = c.data_sector-at.ensures ∙ ap (λ (sizes : Geometry). data_sector sizes c.args.block) c.self.view_is in
    let sectors = ap (λ (sizes : Geometry). sizes.block_sectors) c.self.view_is in
    let long : length c.compose.new.out ≡ 512 * c.args.self.now.block_sectors =
    omega (arith, sectors, c.in_ok-compose.ensures.length, c.as_mut_slice-whole.ensures.len, ap length c.as_mut_slice-whole.ensures.value, c.self.invariant) in
    on_ok_weaker c.write-2.result
    (fills c.args.self.now c.args.block c.args.sector c.args.bytes.now c.args.from (g.D.Disk.state c.args.disk.now) (g.met.D.Disk.well_formed c.args.disk.now)
    c.requires.disk c.requires.from c.requires.whole c.requires.inside c.compose.new.out long
    (λ known. c.in_ok-compose.ensures.bytes known ∙ ap (block_over (g.D.Disk.state c.args.disk.now).cells c.args.from c.args.sector c.args.bytes.now) c.self.view_is)
    c.data_sector-at.result place (g.D.Disk.state c.compose.new.disk) (g.D.Disk.state c.write-2.new.self) c.in_ok-compose.ensures.state)
    c.write-2.ensures.ok

pub returns-clause-any : goal.returns-clause-any
returns-clause-any g c =
    let place : c.data_sector-at.result ≡ data_sector c.args.self.now c.args.block = c.data_sector-at.ensures ∙ ap (λ (sizes : Geometry). data_sector sizes c.args.block) c.self.view_is in
    let sectors = ap (λ (sizes : Geometry). sizes.block_sectors) c.self.view_is in
    let long : length c.compose.new.out ≡ 512 * c.args.self.now.block_sectors =
    omega (arith, sectors, c.in_ok-compose.ensures.length, c.as_mut_slice-whole.ensures.len, ap length c.as_mut_slice-whole.ensures.value, c.self.invariant) in
    may_fill c.args.self.now c.args.block c.args.sector c.args.bytes.now c.args.from (g.D.Disk.state c.args.disk.now) (g.met.D.Disk.well_formed c.args.disk.now)
    c.requires.disk c.requires.from c.requires.whole c.requires.inside c.compose.new.out long
    (λ known. c.in_ok-compose.ensures.bytes known ∙ ap (block_over (g.D.Disk.state c.args.disk.now).cells c.args.from c.args.sector c.args.bytes.now) c.self.view_is)
    c.data_sector-at.result place (g.D.Disk.state c.compose.new.disk) (g.D.Disk.state c.write-2.new.self) c.in_ok-compose.ensures.state c.write-2.ensures.any

pub returns-clause-any_moment : goal.returns-clause-any_moment
returns-clause-any_moment g c =
    let place : c.data_sector-at.result ≡ data_sector c.args.self.now c.args.block = c.data_sector-at.ensures ∙ ap (λ (sizes : Geometry). data_sector sizes c.args.block) c.self.view_is in
    let sectors = ap (λ (sizes : Geometry). sizes.block_sectors) c.self.view_is in
    let long : length c.compose.new.out ≡ 512 * c.args.self.now.block_sectors =
    omega (arith, sectors, c.in_ok-compose.ensures.length, c.as_mut_slice-whole.ensures.len, ap length c.as_mut_slice-whole.ensures.value, c.self.invariant) in
    let old = g.D.Disk.state c.args.disk.now in
    let at = data_sector c.args.self.now c.args.block in
    goes_on_outside (subst (λ (d : DiskState). LeavesOutside at c.args.self.now.block_sectors old d) (sym c.in_ok-compose.ensures.state) (starts_outside at c.args.self.now.block_sectors old))
    c.write-2.ensures.any (omega (arith, place)) (omega (arith, place, long, length-sectors_of c.compose.new.out))
