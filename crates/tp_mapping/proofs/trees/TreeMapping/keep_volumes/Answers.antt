use Rattle.std.proofs.Common.{◌≤◌, sym, subst}
use Rattle.tp_tm.specs.Tm.{free_metadata}
use Rattle.tp_mapping.specs.Trees.{StandForVolumes}
use Rattle.tp_mapping.proofs.Fresh.{kept_stand, more_free}
use Rattle.tp_mapping.proofs.trees.TreeMapping.keep_volumes.Goals as goal

pub returns-clause-kept : goal.returns-clause-kept
returns-clause-kept c disk now kept s =
    let m = c.args.self.now in
    subst (λ t. StandForVolumes (record { tm = t; root = m.root }) disk now now) (sym c.keep.ensures.kept) (kept_stand m disk now kept s c.geometry.ensures.sized)

pub returns-clause-room : goal.returns-clause-room
returns-clause-room c =
    let t = c.args.self.now.tm in
    subst (λ u. free_metadata t ≤ free_metadata u) (sym c.keep.ensures.kept) (more_free t.geometry.metadata_blocks t.metadata_now t.metadata_kept)
