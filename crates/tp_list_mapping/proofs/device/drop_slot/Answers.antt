use Rattle.std.proofs.Common.{◌∙◌, List, ap, sym}
use Rattle.std.specs.Prelude.{is_some, not}
use Rattle.std.proofs.lemmas.Bool.{false≢true}
use Rattle.tp_sharing.specs.Volumes.{slot_of}
use Rattle.tp_list_mapping.specs.List.{volumes}
use Rattle.tp_list_mapping.specs.declared.device.Device.{Device}
use Rattle.tp_list_mapping.proofs.WithoutRuns.{always_ok}
use Rattle.tp_mapping.proofs.WithoutRuns.{none_when, without_slot_absent}
use Rattle.tp_list_mapping.proofs.device.drop_slot.Goals as goal

pub returns-then-is_none-clause-value : goal.returns-then-is_none-clause-value
returns-then-is_none-clause-value c =
    let same = ap (λ (l : List Device). slot_of c.args.id c.args.block (volumes l)) c.deref.ensures.value in
    let none = sym same ∙ (sym c.slot_of.ensures ∙ none_when c.slot_of.result (c.is_none.ensures ∙ ap not c.if-is_none.true)) in
    sym (without_slot_absent c.args.id c.args.block (volumes c.args.devices.now.items) none)

pub returns-clause-value : goal.returns-clause-value
returns-clause-value c =
    let same = ap (λ (l : List Device). slot_of c.args.id c.args.block (volumes l)) c.deref.ensures.value in
    let some = c.is_none.ensures ∙ ap not c.if-is_none.false in
    always_ok _ c.take_slot.result c.take_slot.ensures.value c.take_slot.ensures.err
    (λ e gone. false≢true (sym (ap is_some (c.slot_of.ensures ∙ same ∙ gone.1)) ∙ some))
