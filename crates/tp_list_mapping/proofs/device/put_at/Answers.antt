use Rattle.std.proofs.Common.{◌≡◌, ◌≤◌, length, refl}
use Rattle.std.specs.Prelude.{vec_capacity}
use Rattle.std.proofs.lemmas.Result.{IfErr-weaker, on_ok_weaker}
use Rattle.tp_counts.specs.declared.error.StoreError.TheVariants.{Damaged}
use Rattle.tp_list_mapping.specs.List.{IsFullAt}
use Rattle.tp_list_mapping.proofs.device.put_at.Goals as goal

pub returns-clause-value : goal.returns-clause-value
returns-clause-value c =
    on_ok_weaker c.put.result (λ e. record {
      was = c.index_mut.result.now;
      device = record { id = c.index_mut.result.now.id; size = c.index_mut.result.now.size; slots = c.put.new.slots };
      there = c.index_mut.ensures.value;
      changed = refl;
      id = refl;
      size = refl;
      slots = e;
      room = c.put.ensures.capacity;
    }) c.put.ensures.value

pub returns-clause-err : goal.returns-clause-err
returns-clause-err c =
    IfErr-weaker c.put.result
    (λ refusal. (refusal ≡ Damaged) × (vec_capacity c.index_mut.result.now.slots ≤ length c.index_mut.result.now.slots.items))
    (λ refusal. (refusal ≡ Damaged) × IsFullAt c.args.at c.args.devices.now.items)
    (λ refusal h. (h.0, record { was = c.index_mut.result.now; there = c.index_mut.ensures.value; full = h.1 })) c.put.ensures.err
