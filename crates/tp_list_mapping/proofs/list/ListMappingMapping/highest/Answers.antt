use Rattle.std.proofs.Common.{rules}
use Rattle.tp_list_mapping.proofs.Stands.{highest_is}
use Rattle.tp_list_mapping.proofs.list.ListMappingMapping.highest.Goals as goal

pub returns : goal.returns
returns g c = record {
  told = λ honest now kept s. highest_is c.args.self.now now kept s c.deref.result.now c.deref.ensures.value c.args.device c.highest_of.result c.highest_of.ensures;
  damaged = search rules;
  state = search rules;
}
