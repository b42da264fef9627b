use Rattle.std.proofs.Common.{rules, ◌+◌, arith}
use Rattle.tp_counts.specs.declared.error.StoreError.TheVariants.{Damaged}
use Rattle.tp_list_mapping.proofs.Changing.{err_gives, ok_gives, pushed_room}
use Rattle.tp_list_mapping.proofs.Stands.{device_removed}
use Rattle.tp_list_mapping.proofs.list.ListMappingMapping.delete.Goals as goal
use Rattle.tp_list_mapping.proofs.list.ListMappingMapping.delete.Goals.{in-Ok, in-Err}

pub returns : goal.returns
returns g c = record {
  made =
      let m = c.args.self.now in
      elim c.match-push.branch [
        | in-Ok w ↦
            ok_gives c.match-push.result
            (λ honest now kept s some.
            let n = m.most_blocks + 1 in
            let r = c.in-Some.ensures.room n s.roomy in (
              device_removed m now kept s (record { geometry = m.geometry; most_blocks = m.most_blocks; devices = c.remove.new.devices; spare = c.push.new.self; kept = m.kept }) c.args.device c.in-Some.ensures.value r.1
                  (pushed_room n c.in-Some.spare m.spare.items c.push.new.self.items w.in-Ok.ensures.items s.spare_roomy r.0)
                  (omega (arith, c.in-Some.ensures.sized, w.in-Ok.ensures.len)) c.remove.ensures.capacity c.push.ensures.capacity,
              omega arith,
            ))
        | in-Err w ↦ err_gives _ c.match-push.result Damaged w.result-is
      ];
  damaged = search rules;
  ran = search rules;
  used = search rules;
  same_kept = search rules;
  same_held = search rules;
}
