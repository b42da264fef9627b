use Rattle.std.proofs.Common.{rules, ◌∙◌, arith}
use Rattle.tp_model.specs.Sectors.{sectors_of}
use Rattle.tp_model.proofs.DiskLaws.{Writes-after_write, length-sectors_of}
use Rattle.tp_disk.proofs.Unclaimed.{kept_write}
use Rattle.tp_disk.proofs.file.FileDiskDisk.write.Goals as goal

pub invariant_of-self : goal.invariant_of-self
invariant_of-self g c =
    let disk = c.args.self.now in
    let kept = kept_write c.args.at c.args.bytes.now c.is_ok-ok.result disk.shadow.state c.note.new.self.state disk.well_formed c.requires.whole c.note.ensures in
    record {
      size_is = kept.size_is ∙ disk.size_is;
      unclaimed = kept.claim_is ∙ disk.unclaimed;
      well_formed = kept.well_formed;
      no_later = omega (arith, c.args.self.now.no_later, c.saturating_add-self.ensures);
      counted = λ same fits. absurd (omega (arith, same, fits, disk.no_later, c.saturating_add-self.ensures));
    }

pub returns-then-ok-clause-any : goal.returns-then-ok-clause-any
returns-then-ok-clause-any g c =
    Writes-after_write c.args.at (sectors_of c.args.bytes.now) c.args.self.now.shadow.state _ c.is_ok-ok.result c.note.ensures (omega (arith, c.args.self.now.well_formed.size_is, c.requires.within, length-sectors_of c.args.bytes.now))

pub returns-else-ok-clause-any : goal.returns-else-ok-clause-any
returns-else-ok-clause-any g c =
    Writes-after_write c.args.at (sectors_of c.args.bytes.now) c.args.self.now.shadow.state _ c.is_ok-ok.result c.note.ensures (omega (arith, c.args.self.now.well_formed.size_is, c.requires.within, length-sectors_of c.args.bytes.now))

pub returns-then-ok-clause-ok : goal.returns-then-ok-clause-ok
returns-then-ok-clause-ok g c = search rules
