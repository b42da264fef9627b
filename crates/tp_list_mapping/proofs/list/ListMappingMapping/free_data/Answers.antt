use Rattle.std.proofs.Common.{◌∙◌, ap}
use Rattle.tp_list_mapping.specs.List.{free_below, volumes}
use Rattle.tp_list_mapping.proofs.Frees.{below_is_free}
use Rattle.tp_list_mapping.proofs.list.ListMappingMapping.free_data.Goals as goal

pub returns : goal.returns
returns c disk now kept s =
    let m = c.args.self.now in
    c.count_free.ensures.value
    ∙ (ap (λ n. free_below n (volumes c.deref.result.now) c.deref-2.result.now) c.data_blocks.ensures.value
    ∙ (ap (λ l. free_below m.geometry.data_blocks (volumes l) c.deref-2.result.now) c.deref.ensures.value
    ∙ (ap (free_below m.geometry.data_blocks (volumes m.devices.items)) c.deref-2.ensures.value ∙ below_is_free m now kept s)))
