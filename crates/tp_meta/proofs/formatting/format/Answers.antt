use Rattle.std.proofs.Common.{◌∙◌, ◌⊎◌, subst}
use Rattle.tp_model.specs.Geometry.{Geometry}
use Rattle.tp_model.specs.Disk.{seen}
use Rattle.tp_model.specs.DiskStops.{LeavesOnly}
use Rattle.tp_image.specs.Fresh.{IsFreshOf}
use Rattle.tp_meta.specs.Format.{IsNoPool}
use Rattle.tp_meta.proofs.Contents.{laid_out, not_begun, of_geometry, slots_cleared}
use Rattle.tp_meta.proofs.Held.{fresh_holds}
use Rattle.tp_meta.proofs.FirstCommit.{first_commit}
use Rattle.tp_meta.proofs.formatting.format.Goals as goal

pub returns-in_default-clause-any_moment : goal.returns-in_default-clause-any_moment
returns-in_default-clause-any_moment g c last honest was = not_begun last c.args.geometry (g.D.Disk.state c.args.disk.now) was

pub returns-then-sectors-image_sectors-clause-any_moment : goal.returns-then-sectors-image_sectors-clause-any_moment
returns-then-sectors-image_sectors-clause-any_moment g c last honest was = not_begun last c.args.geometry (g.D.Disk.state c.args.disk.now) was

pub returns-in_default-clear_slots-clause-any_moment : goal.returns-in_default-clear_slots-clause-any_moment
returns-in_default-clear_slots-clause-any_moment g c last honest was =
    slots_cleared last c.args.geometry (g.D.Disk.state c.args.disk.now) (g.D.Disk.state c.clear_slots.new.disk) (c.clear_slots.ensures.any_moment last honest was)

pub returns-in_default-lay_out-clause-any_moment : goal.returns-in_default-lay_out-clause-any_moment
returns-in_default-lay_out-clause-any_moment g c last honest was =
    let mid = g.D.Disk.state c.clear_slots.new.disk in
    let new = g.D.Disk.state c.lay_out.new.disk in
    let is = of_geometry c.args.geometry c.in-Ok.tm c.in-Ok.ensures.value in
    laid_out last c.args.geometry (g.D.Disk.state c.args.disk.now) mid new (c.clear_slots.ensures.any_moment last honest was)
    (subst (λ (k : Geometry). LeavesOnly mid new (λ image. IsNoPool image ⊎ IsFreshOf k image)) is.0 (c.lay_out.ensures.any_moment is.1 c.in-Ok-clear_slots.ensures.blank))

pub returns-clause-any_moment : goal.returns-clause-any_moment
returns-clause-any_moment g c last honest was =
    let mid = g.D.Disk.state c.clear_slots.new.disk in
    let new = g.D.Disk.state c.lay_out.new.disk in
    let is = of_geometry c.args.geometry c.in-Ok.tm c.in-Ok.ensures.value in
    laid_out last c.args.geometry (g.D.Disk.state c.args.disk.now) mid new (c.clear_slots.ensures.any_moment last honest was)
    (subst (λ (k : Geometry). LeavesOnly mid new (λ image. IsNoPool image ⊎ IsFreshOf k image)) is.0 (c.lay_out.ensures.any_moment is.1 c.in-Ok-clear_slots.ensures.blank))

pub returns-clause-holds : goal.returns-clause-holds
returns-clause-holds g c =
    let new = g.D.Disk.state c.lay_out.new.disk in
    let is = of_geometry c.args.geometry c.in-Ok.tm c.in-Ok.ensures.value in
    fresh_holds c.args.geometry c.in-Ok.ensures.within c.lay_out.new.tm new (c.lay_out.ensures.unchanged ∙ c.in-Ok.ensures.value)
    (subst (λ (k : Geometry). IsFreshOf k (seen new.cells)) is.0 (c.in-Ok-lay_out.ensures.fresh is.1 c.in-Ok-clear_slots.ensures.blank))

pub returns-clause-commit : goal.returns-clause-commit
returns-clause-commit g c =
    let new = g.D.Disk.state c.lay_out.new.disk in
    let is = of_geometry c.args.geometry c.in-Ok.tm c.in-Ok.ensures.value in
    first_commit c.args.geometry c.in-Ok.ensures.within (seen new.cells)
    (subst (λ (k : Geometry). IsFreshOf k (seen new.cells)) is.0 (c.in-Ok-lay_out.ensures.fresh is.1 c.in-Ok-clear_slots.ensures.blank))
