use Rattle.std.proofs.Common.{◌∙◌, ap, sym}
use Rattle.std.proofs.lemmas.Result.{IfOk-weaker}
use Rattle.tp_sharing.specs.Volumes.{slot_of}
use Rattle.tp_list_mapping.specs.List.{volumes}
use Rattle.tp_list_mapping.proofs.Stands.{is_told}
use Rattle.tp_list_mapping.proofs.list.ListMapping.place_of.Goals as goal

pub returns-in-Some-clause-told : goal.returns-in-Some-clause-told
returns-in-Some-clause-told c =
    IfOk-weaker c.told.result _ _
    (λ answer h now kept s. is_told c.args.self.now now kept s c.args.device c.args.block c.in-Some.place answer
    (ap (λ l. slot_of c.args.device c.args.block (volumes l)) (sym c.deref.ensures.value) ∙ sym c.in-Some.ensures) h) c.told.ensures.value
