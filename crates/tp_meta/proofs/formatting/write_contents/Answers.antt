use Rattle.std.proofs.Common.{◌≡◌, refl, ◌∙◌, ◌+◌, ◌*◌, ap, subst}
use Rattle.std.specs.Prelude.{is_ok}
use Rattle.tp_model.specs.Geometry.{Geometry, fixed_part}
use Rattle.tp_model.specs.Disk.{seen}
use Rattle.tp_model.proofs.DiskStopLaws.{goes_on_flush, starts_outside}
use Rattle.tp_layout.specs.declared.counts.Part.TheVariants.{Metadata, Data}
use Rattle.tp_layout.specs.declared.superblock.SlotId.TheVariants.{Zero}
use Rattle.tp_layout.specs.Node.{node_bytes}
use Rattle.tp_model.specs.DiskStops.{Leaves, LeavesOutside, SameOutside}
use Rattle.tp_image.specs.Nodes.{block_at}
use Rattle.tp_image.specs.Areas.{HoldsCounts, counts_sector, counts_sectors}
use Rattle.tp_image.specs.Fresh.{HasFreshContents, fresh_leaf}
use Rattle.tp_tm.specs.Tm.{Tm}
use Rattle.tp_meta.specs.Format.{fresh_store}
use Rattle.tp_meta.proofs.Areas.{none_spelled}
use Rattle.tp_meta.proofs.Contents.{contents, joins_counts, joins_leaf, kept_contents, on_ok_under}
use Rattle.tp_meta.proofs.formatting.write_contents.Goals as goal

pub returns-in_err-write_area-clause-any_moment : goal.returns-in_err-write_area-clause-any_moment
returns-in_err-write_area-clause-any_moment g c =
    let sizes = c.args.tm.now.geometry in
    joins_counts sizes sizes Metadata refl (starts_outside 16 (8 * (fixed_part sizes + 1)) (g.D.Disk.state c.args.disk.now)) c.write_area.ensures.any_moment

pub returns-in_err-write_area-2-clause-any_moment : goal.returns-in_err-write_area-2-clause-any_moment
returns-in_err-write_area-2-clause-any_moment g c =
    let sizes = c.args.tm.now.geometry in
    joins_counts sizes c.write_area.new.self.geometry Data (ap (λ (t : Tm). t.geometry) c.write_area.ensures.unchanged)
    (joins_counts sizes sizes Metadata refl (starts_outside 16 (8 * (fixed_part sizes + 1)) (g.D.Disk.state c.args.disk.now)) c.write_area.ensures.any_moment) c.write_area-2.ensures.any_moment

pub returns-in_err-write_leaf-clause-any_moment : goal.returns-in_err-write_leaf-clause-any_moment
returns-in_err-write_leaf-clause-any_moment g c =
    let sizes = c.args.tm.now.geometry in
    joins_leaf sizes
    (joins_counts sizes c.write_area.new.self.geometry Data (ap (λ (t : Tm). t.geometry) c.write_area.ensures.unchanged)
    (joins_counts sizes sizes Metadata refl (starts_outside 16 (8 * (fixed_part sizes + 1)) (g.D.Disk.state c.args.disk.now)) c.write_area.ensures.any_moment) c.write_area-2.ensures.any_moment)
    (subst (λ (k : Geometry). LeavesOutside (8 * fixed_part k) 8 (g.D.Disk.state c.write_area-2.new.disk) (g.D.Disk.state c.write_leaf.new.disk)) c.geometry-geometry.ensures.value c.write_leaf.ensures.any_moment)

pub returns-clause-any_moment : goal.returns-clause-any_moment
returns-clause-any_moment g c =
    let sizes = c.args.tm.now.geometry in
    goes_on_flush (is_ok c.flush.result)
    (joins_leaf sizes
    (joins_counts sizes c.write_area.new.self.geometry Data (ap (λ (t : Tm). t.geometry) c.write_area.ensures.unchanged)
    (joins_counts sizes sizes Metadata refl (starts_outside 16 (8 * (fixed_part sizes + 1)) (g.D.Disk.state c.args.disk.now)) c.write_area.ensures.any_moment) c.write_area-2.ensures.any_moment)
    (subst (λ (k : Geometry). LeavesOutside (8 * fixed_part k) 8 (g.D.Disk.state c.write_area-2.new.disk) (g.D.Disk.state c.write_leaf.new.disk)) c.geometry-geometry.ensures.value c.write_leaf.ensures.any_moment))
    c.flush.ensures

pub returns-clause-written : goal.returns-clause-written
returns-clause-written g c =
    let sizes = c.args.tm.now.geometry in
    let one = seen (g.D.Disk.state c.write_area.new.disk).cells in
    let two = seen (g.D.Disk.state c.write_area-2.new.disk).cells in
    let three = seen (g.D.Disk.state c.write_leaf.new.disk).cells in
    let then = c.write_area.ensures.unchanged in
    let same = ap (λ (t : Tm). t.geometry) then in
    on_ok_under (c.args.tm.now ≡ fresh_store sizes) (Leaves (HasFreshContents sizes) (g.D.Disk.state c.flush.new.self).cells) c.flush.result (λ fresh. kept_contents sizes c.flush.result (g.D.Disk.state c.write_leaf.new.disk) (g.D.Disk.state c.flush.new.self) c.flush.ensures
    (contents sizes one two three
    (subst (λ (t : Tm). HoldsCounts one sizes Metadata Zero t.metadata_now) fresh
    (c.in_ok-write_area.ensures.written (none_spelled (seen (g.D.Disk.state c.args.disk.now).cells) sizes Metadata Zero c.args.tm.now.metadata_now c.all-marks.result.metadata c.all-marks.ensures.metadata)))
    (subst (λ (k : Geometry). SameOutside (counts_sector k Data Zero) (counts_sectors k Data) one two) same c.write_area-2.ensures.outside)
    (subst (λ (t : Tm). HoldsCounts two t.geometry Data Zero t.data_now) (then ∙ fresh)
    (c.in_ok-write_area-2.ensures.written (none_spelled one c.write_area.new.self.geometry Data Zero c.write_area.new.self.data_now c.all-marks.result.data c.all-marks.ensures.others)))
    (subst (λ (k : Geometry). SameOutside (8 * fixed_part k) 8 two three) c.geometry-geometry.ensures.value c.write_leaf.ensures.outside)
    (subst (λ (k : Geometry). block_at three (fixed_part k) ≡ node_bytes (fresh_leaf k)) c.geometry-geometry.ensures.value c.in_ok-write_leaf.ensures.written)))
