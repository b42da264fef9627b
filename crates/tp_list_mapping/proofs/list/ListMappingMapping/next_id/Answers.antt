use Rattle.std.proofs.Common.{rules, ◌∙◌, ap, sym}
use Rattle.tp_list_mapping.specs.List.{volumes}
use Rattle.tp_mapping.specs.Next.{first_device}
use Rattle.tp_mapping.proofs.Nexts.{first_is}
use Rattle.tp_list_mapping.proofs.list.ListMappingMapping.next_id.Goals as goal

pub returns : goal.returns
returns g c = record {
  told = λ honest now kept s. first_is 0 c.args.from now s.within.volumes_now.ascend c.next_of.result
      (c.next_of.ensures ∙ (ap (λ ds. first_device c.args.from (volumes ds)) c.deref.ensures.value ∙ ap (first_device c.args.from) (sym s.listed)));
  damaged = search rules;
  state = search rules;
}
