use Rattle.std.proofs.Common.{◌≡◌, ◌⊎◌}
use Rattle.std.specs.Prelude.{IsTrue}
use Rattle.std.proofs.lemmas.Result.{IfErr-weaker}
use Rattle.tp_model.specs.Disk.{seen}
use Rattle.tp_image.specs.Clean.{IsClean}
use Rattle.tp_check.specs.declared.error.CheckError.{CheckError}
use Rattle.tp_check.specs.declared.error.CheckError.TheVariants.{Fault, Memory}
use Rattle.tp_check.specs.Found.{HasFault}
use Rattle.tp_check.proofs.Cleanness.{clean_no_fault}
use Rattle.tp_check.proofs.checking.check.Goals as goal

pub returns-clause-accepted : goal.returns-clause-accepted
returns-clause-accepted g c =
    let disk = g.D.Disk.state c.args.disk.now in
    IfErr-weaker c.find_fault.result (λ (e : CheckError). IsTrue disk.is_honest → HasFault (seen disk.cells) e)
    (λ (e : CheckError). IsTrue disk.is_honest → IsClean (seen disk.cells) → (e ≡ Fault) ⊎ (e ≡ Memory)) (λ e told honest clean. clean_no_fault (seen disk.cells) clean e (told honest)) c.find_fault.ensures.fault
