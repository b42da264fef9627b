use Rattle.std.proofs.Common.{◌∙◌, ap, sym}
use Rattle.tp_mapping.specs.List.{used_below}
use Rattle.tp_list_mapping.specs.List.{volumes}
use Rattle.tp_mapping.proofs.Used.{below_is_used}
use Rattle.tp_list_mapping.proofs.list.ListMappingMapping.used.Goals as goal

pub returns : goal.returns
returns c disk now kept s =
    c.count_used.ensures.value
    ∙ (ap (λ n. used_below n (volumes c.deref.result.now)) c.data_blocks.ensures.value
    ∙ (ap (λ l. used_below c.args.self.now.geometry.data_blocks (volumes l)) c.deref.ensures.value
    ∙ (ap (used_below c.args.self.now.geometry.data_blocks) (sym s.listed) ∙ below_is_used c.args.self.now.geometry now s.within.volumes_now)))
