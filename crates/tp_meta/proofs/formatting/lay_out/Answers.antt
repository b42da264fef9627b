use Rattle.std.proofs.Common.{◌≡◌, refl, ◌≤◌, ◌∙◌, ◌+◌, ◌*◌, length, ap, sym, subst, arith}
use Rattle.std.specs.Prelude.{Err, Ok}
use Rattle.std.proofs.lemmas.Result.{on_ok_weaker}
use Rattle.tp_model.specs.declared.refusal.Refusal.TheVariants.{NotAPool}
use Rattle.tp_model.specs.Geometry.{Geometry, IsWithinLimits, fixed_part, sectors_of_image}
use Rattle.tp_model.specs.DiskStops.{Leaves, LeavesOnly, LeavesOutside}
use Rattle.tp_layout.specs.Super.{IsGoodSuper}
use Rattle.tp_layout.specs.declared.superblock.Superblock.{Superblock}
use Rattle.tp_layout.specs.declared.superblock.SlotId.TheVariants.{Zero}
use Rattle.tp_image.specs.Slots.{Chooses}
use Rattle.tp_image.specs.Fresh.{fresh_super}
use Rattle.tp_image.proofs.FreshImage.{good_first}
use Rattle.tp_super.specs.Store.{IsStoring, super_sector}
use Rattle.tp_meta.proofs.Contents.{blank_stays, is_settled, no_pool_at, no_pool_stays, pool_is_stored, pool_stands}
use Rattle.tp_meta.proofs.formatting.lay_out.Goals as goal

pub returns-in_err-write_contents-clause-any_moment : goal.returns-in_err-write_contents-clause-any_moment
returns-in_err-write_contents-clause-any_moment g c fresh blank =
    let old = g.D.Disk.state c.args.disk.now in
    let sizes = c.args.tm.now.geometry in
    let within = subst (λ (k : Geometry). IsWithinLimits k) c.geometry.ensures.value c.first_superblock-superblock.ensures.within in
    let long : 9 ≤ length old.cells = omega (arith, (g.met.D.Disk.well_formed c.args.disk.now).size_is, c.requires, within.metadata_least) in
    no_pool_stays (8 * (fixed_part sizes + 1)) sizes old (g.D.Disk.state c.write_contents.new.disk) long c.write_contents.ensures.any_moment blank

pub returns-clause-any_moment : goal.returns-clause-any_moment
returns-clause-any_moment g c fresh blank =
    let old = g.D.Disk.state c.args.disk.now in
    let mid = g.D.Disk.state c.write_contents.new.disk in
    let new = g.D.Disk.state c.store.new.disk in
    let sizes = c.args.tm.now.geometry in
    let within = subst (λ (k : Geometry). IsWithinLimits k) c.geometry.ensures.value c.first_superblock-superblock.ensures.within in
    let is : c.first_superblock-superblock.result ≡ fresh_super sizes = c.first_superblock-superblock.ensures.value ∙ ap fresh_super c.geometry.ensures.value in
    let long : 9 ≤ length old.cells = omega (arith, (g.met.D.Disk.well_formed c.args.disk.now).size_is, c.requires, within.metadata_least) in
    let whole : sectors_of_image sizes ≤ length mid.cells = omega (arith, (g.met.D.Disk.well_formed c.write_contents.new.disk).size_is, c.write_contents.ensures.same.size, c.requires) in
    let longer : 9 ≤ length mid.cells = omega (arith, whole, within.metadata_least) in
    let still = blank_stays (8 * (fixed_part sizes + 1)) old mid c.write_contents.ensures.any_moment blank in
    pool_is_stored sizes old mid new within whole still (c.in_ok-write_contents.ensures.written fresh)
    (no_pool_stays (8 * (fixed_part sizes + 1)) sizes old mid long c.write_contents.ensures.any_moment blank)
    (subst (λ (s : Superblock). LeavesOnly mid new (IsStoring (Err NotAPool) s mid.cells)) is
    (c.store.ensures.any_moment Zero (Err NotAPool) (subst (λ (s : Superblock). IsGoodSuper Zero s) (sym is) (good_first sizes within)) (refl, ap (λ (s : Superblock). s.sequence) is) (no_pool_at mid longer still)))

pub returns-clause-fresh : goal.returns-clause-fresh
returns-clause-fresh g c =
    let old = g.D.Disk.state c.args.disk.now in
    let mid = g.D.Disk.state c.write_contents.new.disk in
    let new = g.D.Disk.state c.store.new.disk in
    let sizes = c.args.tm.now.geometry in
    let within = subst (λ (k : Geometry). IsWithinLimits k) c.geometry.ensures.value c.first_superblock-superblock.ensures.within in
    let is : c.first_superblock-superblock.result ≡ fresh_super sizes = c.first_superblock-superblock.ensures.value ∙ ap fresh_super c.geometry.ensures.value in
    let whole : sectors_of_image sizes ≤ length mid.cells = omega (arith, (g.met.D.Disk.well_formed c.write_contents.new.disk).size_is, c.write_contents.ensures.same.size, c.requires) in
    let longer : 9 ≤ length mid.cells = omega (arith, whole, within.metadata_least) in
    on_ok_weaker c.store.result (λ stored fresh blank.
    let still = blank_stays (8 * (fixed_part sizes + 1)) old mid c.write_contents.ensures.any_moment blank in
    pool_stands sizes mid new within whole still (c.in_ok-write_contents.ensures.written fresh)
    (subst (λ (s : Superblock). LeavesOutside (super_sector s) 1 mid new) is c.store.ensures.outside)
    (subst (λ (s : Superblock). Leaves (λ image. Chooses image (Ok s)) new.cells) is
    (stored Zero (Err NotAPool) (subst (λ (s : Superblock). IsGoodSuper Zero s) (sym is) (good_first sizes within)) (refl, ap (λ (s : Superblock). s.sequence) is) (no_pool_at mid longer still))))
    c.store.ensures.stored

pub returns-clause-settled : goal.returns-clause-settled
returns-clause-settled g c = on_ok_weaker c.store.result (λ e. is_settled _ (g.D.Disk.state c.store.new.disk) e) c.store.ensures.ok
