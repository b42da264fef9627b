use Rattle.std.proofs.Common.{◌≡◌, ℕ, ◌<◌, List, [], sym, subst, ◌∙◌}
use Rattle.tp_model.specs.Geometry.{Geometry, IsWithinLimits, fixed_part}
use Rattle.tp_model.specs.Disk.{seen}
use Rattle.tp_model.specs.DiskStops.{SameOutside}
use Rattle.tp_layout.specs.declared.counts.Part.TheVariants.{Data, Metadata}
use Rattle.tp_image.specs.Areas.{HoldsCounts, counts_sector, counts_sectors}
use Rattle.tp_refs.specs.Store.{node_at}
use Rattle.tp_tm.specs.Tm.{Tm}
use Rattle.tp_tm.specs.Holds.{Holds}
use Rattle.tp_counts.specs.Counts.{SpellUnmarked}
use Rattle.tp_meta.proofs.Areas.{SameArea-then, area_outside, kept_area, other_part, still_spelled}
use Rattle.tp_meta.proofs.Kept.{after_area, after_nodes, both_written, written_data}
use Rattle.tp_meta.proofs.Times.{later_run, later_then}
use Rattle.tp_meta.proofs.committing.write_parts.Goals as goal

pub returns-in_err-write_nodes-clause-any_moment : goal.returns-in_err-write_nodes-clause-any_moment
returns-in_err-write_nodes-clause-any_moment g c last kept was is same differ =
    let t = c.args.tm.now in
    let old = g.D.Disk.state c.args.disk.now in
    let within = subst (λ (k : Geometry). IsWithinLimits k) c.geometry.ensures.value c.fixed_part.ensures.within in
    after_nodes last kept t c.args.area old within c.geometry.ensures.sized was is same differ (g.D.Disk.state c.write_nodes.new.disk) c.write_nodes.ensures.any_moment

pub returns-in_err-write_area-clause-any_moment : goal.returns-in_err-write_area-clause-any_moment
returns-in_err-write_area-clause-any_moment g c last kept was is same differ =
    let t = c.args.tm.now in
    let area = c.args.area in
    let old = g.D.Disk.state c.args.disk.now in
    let a = g.D.Disk.state c.write_nodes.new.disk in
    let b = g.D.Disk.state c.write_area.new.disk in
    let within = subst (λ (k : Geometry). IsWithinLimits k) c.geometry.ensures.value c.fixed_part.ensures.within in
    let sized = c.geometry.ensures.sized in
    let first = after_nodes last kept t area old within sized was is same differ a c.write_nodes.ensures.any_moment in
    after_area last kept t area old within sized was is same differ c.write_nodes.new.self Metadata a b c.write_nodes.ensures.unchanged first c.write_area.ensures.any_moment

pub returns-in_err-write_area-2-clause-any_moment : goal.returns-in_err-write_area-2-clause-any_moment
returns-in_err-write_area-2-clause-any_moment g c last kept was is same differ =
    let t = c.args.tm.now in
    let area = c.args.area in
    let old = g.D.Disk.state c.args.disk.now in
    let a = g.D.Disk.state c.write_nodes.new.disk in
    let b = g.D.Disk.state c.write_area.new.disk in
    let d = g.D.Disk.state c.write_area-2.new.disk in
    let within = subst (λ (k : Geometry). IsWithinLimits k) c.geometry.ensures.value c.fixed_part.ensures.within in
    let sized = c.geometry.ensures.sized in
    let first = after_nodes last kept t area old within sized was is same differ a c.write_nodes.ensures.any_moment in
    let second = after_area last kept t area old within sized was is same differ c.write_nodes.new.self Metadata a b c.write_nodes.ensures.unchanged first c.write_area.ensures.any_moment in
    after_area last kept t area old within sized was is same differ c.write_area.new.self Data b d (c.write_area.ensures.unchanged ∙ c.write_nodes.ensures.unchanged) second c.write_area-2.ensures.any_moment

pub returns-clause-any_moment : goal.returns-clause-any_moment
returns-clause-any_moment g c last kept was is same differ =
    let t = c.args.tm.now in
    let area = c.args.area in
    let old = g.D.Disk.state c.args.disk.now in
    let a = g.D.Disk.state c.write_nodes.new.disk in
    let b = g.D.Disk.state c.write_area.new.disk in
    let d = g.D.Disk.state c.write_area-2.new.disk in
    let within = subst (λ (k : Geometry). IsWithinLimits k) c.geometry.ensures.value c.fixed_part.ensures.within in
    let sized = c.geometry.ensures.sized in
    let first = after_nodes last kept t area old within sized was is same differ a c.write_nodes.ensures.any_moment in
    let second = after_area last kept t area old within sized was is same differ c.write_nodes.new.self Metadata a b c.write_nodes.ensures.unchanged first c.write_area.ensures.any_moment in
    after_area last kept t area old within sized was is same differ c.write_area.new.self Data b d (c.write_area.ensures.unchanged ∙ c.write_nodes.ensures.unchanged) second c.write_area-2.ensures.any_moment

pub returns-clause-holds : goal.returns-clause-holds
returns-clause-holds g c held s h bare =
    let d = g.D.Disk.state c.write_area-2.new.disk in
    let one = c.write_nodes.ensures.unchanged in
    let two = c.write_area.ensures.unchanged ∙ one in
    let first = c.write_nodes.ensures.holds [] held s h in
    let second = c.write_area.ensures.holds [] held s first (subst (λ (u : Tm). (b : ℕ) → b < fixed_part u.geometry → (node_at s b).rank ≡ 0) (sym one) bare) in
    let third = c.write_area-2.ensures.holds [] held s second (subst (λ (u : Tm). (b : ℕ) → b < fixed_part u.geometry → (node_at s b).rank ≡ 0) (sym two) bare) in
    subst (λ (u : Tm). Holds u d [] held s) (c.write_area-2.ensures.unchanged ∙ two) third

pub returns-clause-counts : goal.returns-clause-counts
returns-clause-counts g c named spelled =
    let t = c.args.tm.now in
    let area = c.args.area in
    let b = g.D.Disk.state c.write_area.new.disk in
    let d = g.D.Disk.state c.write_area-2.new.disk in
    let one = c.write_nodes.ensures.unchanged in
    let two = c.write_area.ensures.unchanged ∙ one in
    let old = g.D.Disk.state c.args.disk.now in
    let a = g.D.Disk.state c.write_nodes.new.disk in
    let marks = c.args.marks.now in
    let nodes = kept_area t area (seen old.cells) (seen a.cells) named c.write_nodes.ensures.any_moment.reads in
    let first = still_spelled t.geometry Metadata area t.metadata_now marks.metadata (seen old.cells) (seen a.cells) nodes (spelled Metadata) in
    let out = subst (λ (u : Tm). SameOutside (counts_sector u.geometry Metadata area) (counts_sectors u.geometry Metadata) (seen a.cells) (seen b.cells)) one c.write_area.ensures.outside in
    let second = other_part t.geometry area t.data_now marks.data (seen a.cells) (seen b.cells) out
    (still_spelled t.geometry Data area t.data_now marks.data (seen old.cells) (seen a.cells) nodes (spelled Data)) in
    both_written t.geometry t area (seen b.cells) (seen d.cells)
    (subst (λ (u : Tm). HoldsCounts (seen b.cells) u.geometry Metadata area u.metadata_now) one
    (c.in_ok-write_area.ensures.written (subst (λ (u : Tm). SpellUnmarked (seen a.cells) u.geometry Metadata area u.metadata_now marks.metadata) (sym one) first)))
    (subst (λ (u : Tm). SameOutside (counts_sector u.geometry Data area) (counts_sectors u.geometry Data) (seen b.cells) (seen d.cells)) two c.write_area-2.ensures.outside)
    (subst (λ (u : Tm). HoldsCounts (seen d.cells) u.geometry Data area u.data_now) two
    (c.in_ok-write_area-2.ensures.written (subst (λ (u : Tm). SpellUnmarked (seen b.cells) u.geometry Data area u.data_now marks.data) (sym two) second)))

pub returns-clause-beside : goal.returns-clause-beside
returns-clause-beside g c named other differ =
    let t = c.args.tm.now in
    let area = c.args.area in
    let old = g.D.Disk.state c.args.disk.now in
    let a = g.D.Disk.state c.write_nodes.new.disk in
    let b = g.D.Disk.state c.write_area.new.disk in
    let d = g.D.Disk.state c.write_area-2.new.disk in
    let one = c.write_nodes.ensures.unchanged in
    let two = c.write_area.ensures.unchanged ∙ one in
    let nodes = kept_area t other (seen old.cells) (seen a.cells) named c.write_nodes.ensures.any_moment.reads in
    let first = area_outside t.geometry Metadata area other (seen a.cells) (seen b.cells) differ
    (subst (λ (u : Tm). SameOutside (counts_sector u.geometry Metadata area) (counts_sectors u.geometry Metadata) (seen a.cells) (seen b.cells)) one c.write_area.ensures.outside) in
    let second = area_outside t.geometry Data area other (seen b.cells) (seen d.cells) differ
    (subst (λ (u : Tm). SameOutside (counts_sector u.geometry Data area) (counts_sectors u.geometry Data) (seen b.cells) (seen d.cells)) two c.write_area-2.ensures.outside) in
    SameArea-then t.geometry other (seen old.cells) (seen b.cells) (seen d.cells) (SameArea-then t.geometry other (seen old.cells) (seen a.cells) (seen b.cells) nodes first) second

pub returns-clause-same_data : goal.returns-clause-same_data
returns-clause-same_data g c =
    let t = c.args.tm.now in
    let area = c.args.area in
    let old = g.D.Disk.state c.args.disk.now in
    let a = g.D.Disk.state c.write_nodes.new.disk in
    let b = g.D.Disk.state c.write_area.new.disk in
    let d = g.D.Disk.state c.write_area-2.new.disk in
    let within = subst (λ (k : Geometry). IsWithinLimits k) c.geometry.ensures.value c.fixed_part.ensures.within in
    let one = c.write_nodes.ensures.unchanged in
    let two = c.write_area.ensures.unchanged ∙ one in
    written_data t area (seen old.cells) (seen a.cells) (seen b.cells) (seen d.cells) within c.geometry.ensures.sized c.write_nodes.ensures.any_moment.reads
    (subst (λ (u : Tm). SameOutside (counts_sector u.geometry Metadata area) (counts_sectors u.geometry Metadata) (seen a.cells) (seen b.cells)) one c.write_area.ensures.outside)
    (subst (λ (u : Tm). SameOutside (counts_sector u.geometry Data area) (counts_sectors u.geometry Data) (seen b.cells) (seen d.cells)) two c.write_area-2.ensures.outside)

pub returns-in_err-write_nodes-clause-time : goal.returns-in_err-write_nodes-clause-time
returns-in_err-write_nodes-clause-time g c = later_run c.write_nodes.ensures.any_moment.stops

pub returns-in_err-write_area-clause-time : goal.returns-in_err-write_area-clause-time
returns-in_err-write_area-clause-time g c = later_then (later_run c.write_nodes.ensures.any_moment.stops) (later_run c.write_area.ensures.any_moment)

pub returns-in_err-write_area-2-clause-time : goal.returns-in_err-write_area-2-clause-time
returns-in_err-write_area-2-clause-time g c =
    later_then (later_then (later_run c.write_nodes.ensures.any_moment.stops) (later_run c.write_area.ensures.any_moment)) (later_run c.write_area-2.ensures.any_moment)

pub returns-clause-time : goal.returns-clause-time
returns-clause-time g c =
    later_then (later_then (later_run c.write_nodes.ensures.any_moment.stops) (later_run c.write_area.ensures.any_moment)) (later_run c.write_area-2.ensures.any_moment)
