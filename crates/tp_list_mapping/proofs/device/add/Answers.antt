use Rattle.tp_counts.specs.declared.error.StoreError.TheVariants.{Damaged}
use Rattle.tp_list_mapping.proofs.Changing.{added, err_gives, ok_gives, roomy_more}
use Rattle.tp_list_mapping.proofs.device.add.Goals as goal
use Rattle.tp_list_mapping.proofs.device.add.Goals.{in-Ok, in-Err}

pub returns-clause-value : goal.returns-clause-value
returns-clause-value c =
    elim c.match-insert.branch [
      | in-Ok w ↦
          ok_gives c.match-insert.result
          (added c.deref.result.now c.args.devices.now.items c.deref.ensures.value c.args.device c.insert.new.self.items c.rank-at.result c.rank-at.ensures.value w.in-Ok.ensures.items)
      | in-Err w ↦ err_gives _ c.match-insert.result Damaged w.result-is
    ]

pub returns-clause-room : goal.returns-clause-room
returns-clause-room c =
    elim c.match-insert.branch [
      | in-Ok w ↦ ok_gives c.match-insert.result (λ n all h. roomy_more n c.rank-at.result c.args.device c.args.devices.now.items c.insert.new.self.items w.in-Ok.ensures.items all h)
      | in-Err w ↦ err_gives _ c.match-insert.result Damaged w.result-is
    ]
