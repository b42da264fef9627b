use Rattle.std.proofs.Common.{subst, sym}
use Rattle.std.specs.Prelude.{IsTrue}
use Rattle.tp_model.specs.Disk.{DiskState}
use Rattle.tp_commands.proofs.Living.{honest_at}
use Rattle.tp_commands.proofs.images.hand_back.Goals as goal

pub returns-clause-disk : goal.returns-clause-disk
returns-clause-disk g c =
    let known = c.facts.ensures in
    record {
      disk_is = c.into_disk-disk.ensures;
      honest = λ s shown works. subst (λ (d : DiskState). IsTrue d.is_honest) (sym c.into_disk-disk.ensures) (honest_at c.args.pool s known.line shown works);
    }
