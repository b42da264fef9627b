use Rattle.std.proofs.Common.{◌∙◌, ap}
use Rattle.tp_mapping.specs.List.{is_used}
use Rattle.tp_list_mapping.specs.List.{volumes}
use Rattle.tp_list_mapping.proofs.Stands.{now_kept}
use Rattle.tp_list_mapping.proofs.list.ListMappingMapping.keep.Goals as goal

pub returns-clause-kept : goal.returns-clause-kept
returns-clause-kept c disk now kept s =
    now_kept c.args.self.now now kept s (record { geometry = c.args.self.now.geometry; most_blocks = c.args.self.now.most_blocks; devices = c.args.self.now.devices; spare = c.args.self.now.spare; kept = c.mark.new.marks }) c.mark.ensures.sized
    (λ p h. c.mark.ensures.value p h ∙ ap (λ l. is_used p (volumes l)) c.deref.ensures.value)
