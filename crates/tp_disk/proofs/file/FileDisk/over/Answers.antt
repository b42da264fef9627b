use Rattle.std.proofs.Common.{◌≡◌, ap, sym, subst, arith}
use Rattle.std.specs.Prelude.{IfOk, Ok}
use Rattle.tp_model.specs.Disk.{DiskState, IsWellFormed}
use Rattle.tp_disk.proofs.Unclaimed.{unclaimed_is_settled, zeros_well}
use Rattle.tp_disk.proofs.file.FileDisk.over.Goals as goal

pub invariant_of-result : goal.invariant_of-result
invariant_of-result g c = record {
  size_is = ap (λ (d : DiskState). d.size) c.note.ensures;
  unclaimed = ap (λ (d : DiskState). d.is_honest) c.note.ensures;
  well_formed = subst (λ (d : DiskState). IsWellFormed d.size d.cells) (sym c.note.ensures) (zeros_well c.args.size (omega arith));
  no_later =
      let is : c.at_opening.result ≡ Ok c.in_ok-last.last = c.in_ok-last.ensures in
      let first : c.in_ok-last.last.writes ≡ 0 = subst (λ answer. IfOk answer (λ synced. synced.writes ≡ 0)) is c.at_opening.ensures in
      omega (arith, first);
  counted = λ same fits. unclaimed_is_settled c.args.size c.note.new.self.state c.note.ensures;
}
