use Rattle.std.proofs.Common.{rules}
use Rattle.tp_list_mapping.proofs.Stands.{run_taken}
use Rattle.tp_list_mapping.proofs.list.ListMappingMapping.unmap_run.Goals as goal

pub returns-clause-changed : goal.returns-clause-changed
returns-clause-changed g c = record {
  made = λ honest now kept s some.
      run_taken c.args.self.now now kept s (record { geometry = c.args.self.now.geometry; most_blocks = c.args.self.now.most_blocks; devices = c.drop_slots.new.devices; spare = c.args.self.now.spare; kept = c.args.self.now.kept })
      c.args.device c.args.first c.args.count c.drop_slots.ensures.value c.drop_slots.ensures.room c.drop_slots.ensures.capacity;
  damaged = search rules;
  ran = search rules;
  used = search rules;
  same_kept = search rules;
  same_held = search rules;
}
