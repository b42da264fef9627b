use Rattle.std.proofs.Common.{◌∙◌, arith}
use Rattle.std.specs.Prelude.{true, false}
use Rattle.tp_disk.proofs.Unclaimed.{flushed_is_settled, kept_flush, unflushed_is_settled}
use Rattle.tp_disk.proofs.file.FileDiskDisk.flush.Goals as goal

pub invariant_of-self : goal.invariant_of-self
invariant_of-self g c =
    let disk = c.args.self.now in
    let kept = kept_flush true disk.shadow.state c.note.new.self.state disk.well_formed c.note.ensures in
    record {
      size_is = kept.size_is ∙ disk.size_is;
      unclaimed = kept.claim_is ∙ disk.unclaimed;
      well_formed = kept.well_formed;
      no_later = omega (arith, c.synced.ensures);
      counted = λ same fits. flushed_is_settled disk.shadow.state c.note.new.self.state c.note.ensures;
    }

pub invariant_of-self-in-Err : goal.invariant_of-self-in-Err
invariant_of-self-in-Err g c =
    let disk = c.args.self.now in
    let kept = kept_flush false disk.shadow.state c.note-in-Err.new.self.state disk.well_formed c.note-in-Err.ensures in
    record {
      size_is = kept.size_is ∙ disk.size_is;
      unclaimed = kept.claim_is ∙ disk.unclaimed;
      well_formed = kept.well_formed;
      no_later = disk.no_later;
      counted = λ same fits. unflushed_is_settled disk.shadow.state c.note-in-Err.new.self.state c.note-in-Err.ensures (disk.counted same fits);
    }
