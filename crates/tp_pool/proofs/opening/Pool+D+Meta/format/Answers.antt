use Rattle.std.proofs.Common.{◌+◌, ◌≤◌, refl, subst, sym, true≢false}
use Rattle.tp_model.specs.Disk.{DiskState, IsSettled, seen}
use Rattle.tp_model.specs.Geometry.{Geometry, IsWithinLimits}
use Rattle.tp_model.proofs.DiskStopLaws.{AfterStop-seen}
use Rattle.tp_image.specs.Stands.{StandsFor}
use Rattle.tp_image.specs.Fresh.{empty_pool}
use Rattle.tp_image.proofs.FreshImage.{fresh_stands}
use Rattle.tp_stored.specs.Contents.{HoldsContents, IsOpened}
use Rattle.tp_stored.proofs.Opened.{stands_for_opened}
use Rattle.tp_model.specs.DiskStops.{LeavesOnly}
use Rattle.tp_meta.specs.Framing.{stands_left}
use Rattle.tp_meta.specs.Standing.{fresh_contents}
use Rattle.tp_pool.specs.Formatting.{IsBetween}
use Rattle.tp_pool.proofs.Opened.{fresh_spare, not_formatted}
use Rattle.tp_pool.proofs.Formatted.{commit_left, formats, formats_nothing}
use Rattle.tp_pool.proofs.opening.Pool+D+Meta.format.Goals as goal

pub returns-in_default-clause-any_moment : goal.returns-in_default-clause-any_moment
returns-in_default-clause-any_moment g c last honest was = not_formatted last c.args.geometry (g.D.Disk.state c.args.disk) was

pub returns-in-Ok-format-clause-reopened : goal.returns-in-Ok-format-clause-reopened
returns-in-Ok-format-clause-reopened g c honest =
    let g0 = c.args.geometry in
    let new = g.D.Disk.state c.format.new.disk in
    let fresh = fresh_contents g0 in
    let made = c.in-Ok-format.ensures.stands honest in
    let is = c.in-Ok-format.ensures.whole.0 in
    let holds : HoldsContents g0 fresh (seen new.cells) =
    subst (λ (k : Geometry). HoldsContents k fresh (seen new.cells)) made.1
    (stands_left c.in-Ok-format.metadata new fresh fresh made.0 (seen new.cells) (AfterStop-seen new.cells)) in
    let spare = fresh_spare g0 (subst (λ (k : Geometry). IsWithinLimits k) is made.0.mapping.sound.limits) in
    record {
      settled = subst (λ (d : DiskState). IsSettled d.cells) (sym c.over.ensures.disk) c.in-Ok-format.ensures.settled;
      image_is = refl;
      shows_it = λ k s any stands.
          let opened = (stands_for_opened g0 fresh (seen new.cells) holds s).0 (subst (λ (d : DiskState). StandsFor (seen d.cells) s) c.over.ensures.disk stands) in
          c.over.ensures.shows fresh fresh s made.0 (subst (λ (k : Geometry). IsOpened k fresh (seen new.cells) s) (sym is) opened)
          (subst (λ (k : Geometry). fresh.meta_used + 128 ≤ k.metadata_blocks) (sym is) spare) (λ wants. absurd (true≢false (sym wants)));
    }

pub returns-in-Ok-format-clause-shows : goal.returns-in-Ok-format-clause-shows
returns-in-Ok-format-clause-shows g c honest =
    let g0 = c.args.geometry in
    let new = g.D.Disk.state c.format.new.disk in
    let fresh = fresh_contents g0 in
    let made = c.in-Ok-format.ensures.stands honest in
    let limits = subst (λ (k : Geometry). IsWithinLimits k) c.in-Ok-format.ensures.whole.0 made.0.mapping.sound.limits in
    let holds : HoldsContents g0 fresh (seen new.cells) =
    subst (λ (k : Geometry). HoldsContents k fresh (seen new.cells)) made.1
    (stands_left c.in-Ok-format.metadata new fresh fresh made.0 (seen new.cells) (AfterStop-seen new.cells)) in
    let stands = fresh_stands g0 (seen new.cells) limits c.in-Ok-format.ensures.fresh in
    (returns-in-Ok-format-clause-reopened g c honest).shows_it g0 (empty_pool g0)
    (fresh, subst (λ (d : DiskState). HoldsContents g0 fresh (seen d.cells)) (sym c.over.ensures.disk) holds)
    (subst (λ (d : DiskState). StandsFor (seen d.cells) (empty_pool g0)) (sym c.over.ensures.disk) stands)

pub returns-in_default-clause-pools : goal.returns-in_default-clause-pools
returns-in_default-clause-pools g c honest settled k s is stands =
    formats_nothing k c.args.geometry s (g.D.Disk.state c.args.disk) settled is.0 is.1 stands

pub returns-in-Err-clause-pools : goal.returns-in-Err-clause-pools
returns-in-Err-clause-pools g c honest settled k s is stands =
    let old = g.D.Disk.state c.args.disk in
    formats k c.args.geometry s old settled is.0 is.1 stands (g.D.Disk.state c.format.new.disk)
    (c.format.ensures.commits is.1.0 is.1.1 honest (commit_left k c.args.geometry s old settled is.0 is.1 stands))

pub returns-in-Ok-format-clause-pools : goal.returns-in-Ok-format-clause-pools
returns-in-Ok-format-clause-pools g c honest settled k s is stands =
    let old = g.D.Disk.state c.args.disk in
    subst (λ (d : DiskState). LeavesOnly old d (IsBetween k s c.args.geometry)) (sym c.over.ensures.disk)
    (formats k c.args.geometry s old settled is.0 is.1 stands (g.D.Disk.state c.format.new.disk)
    (c.format.ensures.commits is.1.0 is.1.1 honest (commit_left k c.args.geometry s old settled is.0 is.1 stands)))
