use Rattle.tp_mapping.proofs.Copies.{volume_begun}
use Rattle.tp_mapping.proofs.volume.new_volume.Goals as goal

pub returns-in-Ok-clause-made : goal.returns-in-Ok-clause-made
returns-in-Ok-clause-made g c geo root more now h = volume_begun geo c.args.tm.now (g.D.Disk.state c.args.disk.now) root more now h c.empty.new.tm (g.D.Disk.state c.empty.new.disk) (record { geometry = c.empty.ensures.kept.0; metadata_kept = c.empty.ensures.kept.1; data_kept = c.empty.ensures.kept.2; held_root = c.empty.ensures.kept.3 }) c.in-Ok.root (c.in-Ok.ensures.begun _ _ h.store h.holds)
