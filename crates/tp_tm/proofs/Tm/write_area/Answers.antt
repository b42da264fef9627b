use Rattle.std.proofs.Common.{◌≡◌, sym, subst, ◌∙◌}
use Rattle.tp_model.specs.Disk.{seen}
use Rattle.tp_model.specs.DiskStops.{SameOutside}
use Rattle.tp_layout.specs.declared.counts.Part.TheVariants.{Data, Metadata}
use Rattle.tp_image.specs.Areas.{counts_sector, counts_sectors}
use Rattle.tp_counts.specs.Counts.{Counts}
use Rattle.tp_tm.specs.Tm.{Tm}
use Rattle.tp_tm.specs.Holds.{Holds}
use Rattle.tp_tm.proofs.Counting.{data_are, metadata_are}
use Rattle.tp_tm.proofs.Standing.{area_holds}
use Rattle.tp_tm.proofs.Tm.write_area.Goals as goal

pub returns-in-Metadata-clause-holds : goal.returns-in-Metadata-clause-holds
returns-in-Metadata-clause-holds g c opens held s h none =
    let old = g.D.Disk.state c.args.disk.now in
    let new = g.D.Disk.state c.write_area.new.disk in
    let area = c.args.area in
    let after : record { geometry = c.self.inside.geometry; metadata_now = c.write_area.new.self.now; metadata_kept = c.write_area.new.self.kept; data_now = c.self.inside.data_counts.now; data_kept = c.self.inside.data_counts.kept; held_root = c.self.inside.held_root } ≡ c.args.self.now =
    (λ i. record { geometry = c.self.inside.geometry; metadata_now = (c.write_area.ensures.unchanged i).now; metadata_kept = (c.write_area.ensures.unchanged i).kept; data_now = c.self.inside.data_counts.now; data_kept = c.self.inside.data_counts.kept; held_root = c.self.inside.held_root }) ∙ c.self.view_is in
    subst (λ (t : Tm). Holds t new opens held s) (sym after)
    (area_holds c.args.self.now old new Metadata area opens held s
    (subst (λ (t : Tm). SameOutside (counts_sector t.geometry Metadata area) (counts_sectors t.geometry Metadata) (seen old.cells) (seen new.cells)) c.self.view_is
    (subst (λ (w : Counts). SameOutside (counts_sector w.geometry w.part area) (counts_sectors w.geometry w.part) (seen old.cells) (seen new.cells)) (metadata_are c.self.invariant) c.write_area.ensures.outside))
    h none)

pub returns-in-Data-clause-holds : goal.returns-in-Data-clause-holds
returns-in-Data-clause-holds g c opens held s h none =
    let old = g.D.Disk.state c.args.disk.now in
    let new = g.D.Disk.state c.write_area-in-Data.new.disk in
    let area = c.args.area in
    let after : record { geometry = c.self.inside.geometry; metadata_now = c.self.inside.metadata_counts.now; metadata_kept = c.self.inside.metadata_counts.kept; data_now = c.write_area-in-Data.new.self.now; data_kept = c.write_area-in-Data.new.self.kept; held_root = c.self.inside.held_root } ≡ c.args.self.now =
    (λ i. record { geometry = c.self.inside.geometry; metadata_now = c.self.inside.metadata_counts.now; metadata_kept = c.self.inside.metadata_counts.kept; data_now = (c.write_area-in-Data.ensures.unchanged i).now; data_kept = (c.write_area-in-Data.ensures.unchanged i).kept; held_root = c.self.inside.held_root }) ∙ c.self.view_is in
    subst (λ (t : Tm). Holds t new opens held s) (sym after)
    (area_holds c.args.self.now old new Data area opens held s
    (subst (λ (t : Tm). SameOutside (counts_sector t.geometry Data area) (counts_sectors t.geometry Data) (seen old.cells) (seen new.cells)) c.self.view_is
    (subst (λ (w : Counts). SameOutside (counts_sector w.geometry w.part area) (counts_sectors w.geometry w.part) (seen old.cells) (seen new.cells)) (data_are c.self.invariant) c.write_area-in-Data.ensures.outside))
    h none)
