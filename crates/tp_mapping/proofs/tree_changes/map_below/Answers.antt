use Rattle.std.proofs.Common.{rules, ◌≡◌, ◌+◌, ◌∷◌, ◌∙◌, [], Err, IsTrue, refl, sym, subst, arith}
use Rattle.std.proofs.lemmas.Result.{IfOk-weaker}
use Rattle.tp_counts.specs.declared.error.StoreError.TheVariants.{Damaged}
use Rattle.tp_sharing.specs.Volumes.{BlockSlot, Volumes, device_of, with_device, with_place}
use Rattle.tp_btree.proofs.Running.{ran_then}
use Rattle.tp_mapping.specs.Held.{HoldTrees}
use Rattle.tp_mapping.proofs.Between.{some_there, with_slot_is}
use Rattle.tp_mapping.proofs.Taking.{put_there, put_twice}
use Rattle.tp_mapping.proofs.tree_changes.map_below.Goals as goal

pub returns-in_err-taken : goal.returns-in_err-taken
returns-in_err-taken g c = record {
  made = search rules;
  damaged = λ e honest geo now h some inside. let f : c.take_with.result ≡ Err Damaged = search (rules, e) in c.take_with.ensures.damaged f honest geo now h some inside;
  ran = search rules;
}

pub returns : goal.returns
returns g c = record {
  made =
      IfOk-weaker c.put_over.result _ _
      (λ top f honest geo now h some inside.
      let o = some_there (device_of c.args.device now) some in
      let x : BlockSlot = record { block = c.args.block; place = c.args.place } in
      subst (λ (ds : Volumes). HoldTrees geo c.put_over.new.tm (g.D.Disk.state c.put_over.new.disk) top [] ds)
      (put_twice (record { id = c.args.device; size = c.in_ok-taken.taken.volume.size; slots = with_place x o.0 }) (record { id = c.args.device; size = 0; slots = [] }) now refl
      ∙ with_slot_is geo c.args.tm.now (g.D.Disk.state c.args.disk.now) c.args.root ((geo.metadata_blocks + c.args.place) ∷ []) now h c.args.device c.in_ok-taken.taken.volume.size x o.0 o.1 (c.in_ok-taken.ensures.told honest geo now h some))
      (f (subst IsTrue (sym c.in_ok-taken.ensures.ran.same_disk.is_honest) honest) geo (with_place x o.0) (with_device (record { id = c.args.device; size = 0; slots = [] }) now) (c.in_ok-taken.ensures.changed honest geo now h o.0 o.1 inside)
      (put_there (record { id = c.args.device; size = 0; slots = [] }) now))) c.put_over.ensures.put;
  damaged = λ e honest geo now h some inside.
      let o = some_there (device_of c.args.device now) some in
      let x : BlockSlot = record { block = c.args.block; place = c.args.place } in
      c.put_over.ensures.damaged e (subst IsTrue (sym c.in_ok-taken.ensures.ran.same_disk.is_honest) honest) geo (with_place x o.0) (with_device (record { id = c.args.device; size = 0; slots = [] }) now)
      (c.in_ok-taken.ensures.changed honest geo now h o.0 o.1 inside) (put_there (record { id = c.args.device; size = 0; slots = [] }) now);
  ran = ran_then 13 3 16 _ c.args.tm.now c.take_with.new.tm c.put_over.new.tm (g.D.Disk.state c.args.disk.now) (g.D.Disk.state c.take_with.new.disk) (g.D.Disk.state c.put_over.new.disk) (omega arith) c.in_ok-taken.ensures.ran c.put_over.ensures.ran;
}
