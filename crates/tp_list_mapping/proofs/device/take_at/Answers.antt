use Rattle.std.proofs.Common.{◌≡◌, None, arith, refl}
use Rattle.tp_sharing.specs.Volumes.{place_in}
use Rattle.std.proofs.lemmas.Result.{IfErr-weaker, on_ok_weaker}
use Rattle.tp_counts.specs.declared.error.StoreError.TheVariants.{Damaged}
use Rattle.tp_list_mapping.specs.List.{LacksAt}
use Rattle.tp_list_mapping.proofs.device.take_at.Goals as goal

pub returns-clause-value : goal.returns-clause-value
returns-clause-value c =
    on_ok_weaker c.take_out.result (λ e. record {
      was = c.index_mut.result.now;
      device = record { id = c.index_mut.result.now.id; size = c.index_mut.result.now.size; slots = c.take_out.new.slots };
      there = c.index_mut.ensures.value;
      changed = refl;
      id = refl;
      size = refl;
      slots = e;
      room = omega (arith, c.take_out.ensures.capacity);
    }) c.take_out.ensures.value

pub returns-clause-err : goal.returns-clause-err
returns-clause-err c =
    IfErr-weaker c.take_out.result
    (λ refusal. (refusal ≡ Damaged) × (place_in c.args.block c.index_mut.result.now.slots.items ≡ None))
    (λ refusal. (refusal ≡ Damaged) × LacksAt c.args.at c.args.block c.args.devices.now.items)
    (λ refusal h. (h.0, record { was = c.index_mut.result.now; there = c.index_mut.ensures.value; absent = h.1 })) c.take_out.ensures.err
