use Rattle.std.proofs.Common.{rules, ◌≡◌, ◌+◌, ◌≤◌, ◌∙◌, [], Err, IsTrue, refl, sym, subst, arith}
use Rattle.std.specs.Prelude.{IsSome}
use Rattle.std.proofs.lemmas.Result.{IfOk-weaker}
use Rattle.tp_counts.specs.declared.error.StoreError.TheVariants.{Damaged}
use Rattle.tp_sharing.specs.Volumes.{Volumes, device_of, with_device}
use Rattle.tp_sharing.proofs.Sized.{resized_is_put}
use Rattle.tp_btree.proofs.Running.{ran_then}
use Rattle.tp_mapping.specs.declared.volume.Volume.{Volume}
use Rattle.tp_mapping.specs.Held.{HoldTrees, HoldVolume, in_use}
use Rattle.tp_mapping.proofs.Between.{some_there, trees_ascend}
use Rattle.tp_mapping.proofs.Taking.{beside_resized, put_there, put_twice}
use Rattle.tp_mapping.proofs.tree_changes.grow_below.Goals as goal

pub returns-in_err-taken-clause-changed : goal.returns-in_err-taken-clause-changed
returns-in_err-taken-clause-changed g c = record {
  made = search rules;
  damaged = λ e honest geo now h some may more. let f : c.take_volume.result ≡ Err Damaged = search (rules, e) in c.take_volume.ensures.damaged f honest geo [] now (omega arith) h some;
  ran = search rules;
}

pub returns-clause-changed : goal.returns-clause-changed
returns-clause-changed g c = record {
  made =
      IfOk-weaker c.put_over.result _ _
      (λ top f honest geo now h some may more.
      let o = some_there (device_of c.args.device now) some in
      let told = c.in_ok-taken.ensures.told honest geo [] now (omega arith) h some in
      let put = with_device (record { id = c.args.device; size = 0; slots = [] }) now in
      subst (λ (ds : Volumes). HoldTrees geo c.put_over.new.tm (g.D.Disk.state c.put_over.new.disk) top [] ds)
      (put_twice (record { id = c.args.device; size = c.args.size; slots = o.0 }) (record { id = c.args.device; size = 0; slots = [] }) now refl
      ∙ resized_is_put 0 c.args.device c.args.size o.0 now (trees_ascend geo c.args.tm.now (g.D.Disk.state c.args.disk.now) c.args.root [] now h) o.1)
      (subst (λ (v : Volume). HoldVolume geo c.take_volume.new.tm (g.D.Disk.state c.take_volume.new.disk) c.in_ok-taken.taken.root v o.0 put → IsSome (device_of c.args.device put)
      → HoldTrees geo c.put_over.new.tm (g.D.Disk.state c.put_over.new.disk) top [] (with_device (record { id = c.args.device; size = v.size; slots = o.0 }) put)) c.with_size-volume.ensures
      (f (subst IsTrue (sym c.in_ok-taken.ensures.ran.same_disk.is_honest) honest) geo o.0 put)
      (beside_resized geo c.take_volume.new.tm (g.D.Disk.state c.take_volume.new.disk) c.in_ok-taken.taken.root [] c.in_ok-taken.taken.volume o.0 put (c.in_ok-taken.ensures.taken honest geo [] now (omega arith) h o.0 o.1) c.args.size may
      (more c.in_ok-taken.taken.volume.size told))
      (put_there (record { id = c.args.device; size = 0; slots = [] }) now))) c.put_over.ensures.put;
  damaged = λ e honest geo now h some may more.
      let o = some_there (device_of c.args.device now) some in
      let told = c.in_ok-taken.ensures.told honest geo [] now (omega arith) h some in
      let put = with_device (record { id = c.args.device; size = 0; slots = [] }) now in
      c.put_over.ensures.damaged e (subst IsTrue (sym c.in_ok-taken.ensures.ran.same_disk.is_honest) honest) geo o.0 put
      (subst (λ (v : Volume). HoldVolume geo c.take_volume.new.tm (g.D.Disk.state c.take_volume.new.disk) c.in_ok-taken.taken.root v o.0 put) (sym c.with_size-volume.ensures)
      (beside_resized geo c.take_volume.new.tm (g.D.Disk.state c.take_volume.new.disk) c.in_ok-taken.taken.root [] c.in_ok-taken.taken.volume o.0 put (c.in_ok-taken.ensures.taken honest geo [] now (omega arith) h o.0 o.1) c.args.size may
      (more c.in_ok-taken.taken.volume.size told))) (put_there (record { id = c.args.device; size = 0; slots = [] }) now);
  ran = ran_then 4 3 7 _ c.args.tm.now c.take_volume.new.tm c.put_over.new.tm (g.D.Disk.state c.args.disk.now) (g.D.Disk.state c.take_volume.new.disk) (g.D.Disk.state c.put_over.new.disk) (omega arith) c.in_ok-taken.ensures.ran c.put_over.ensures.ran;
}

pub returns-clause-used : goal.returns-clause-used
returns-clause-used g c = IfOk-weaker c.put_over.result _ _
    (λ top f none_held honest geo now h some may more.
    let o = some_there (device_of c.args.device now) some in
    let told = c.in_ok-taken.ensures.told honest geo [] now (omega arith) h some in
    let put = with_device (record { id = c.args.device; size = 0; slots = [] }) now in
    let first : in_use c.take_volume.new.tm ≤ in_use c.args.tm.now + 1 = c.in_ok-taken.ensures.used none_held honest geo now h some in
    let second : in_use c.put_over.new.tm ≤ in_use c.take_volume.new.tm =
    f (c.in_ok-taken.ensures.ran.held_root ∙ none_held) (subst IsTrue (sym c.in_ok-taken.ensures.ran.same_disk.is_honest) honest) geo o.0 put
    (subst (λ (v : Volume). HoldVolume geo c.take_volume.new.tm (g.D.Disk.state c.take_volume.new.disk) c.in_ok-taken.taken.root v o.0 put) (sym c.with_size-volume.ensures)
    (beside_resized geo c.take_volume.new.tm (g.D.Disk.state c.take_volume.new.disk) c.in_ok-taken.taken.root [] c.in_ok-taken.taken.volume o.0 put (c.in_ok-taken.ensures.taken honest geo [] now (omega arith) h o.0 o.1) c.args.size may
    (more c.in_ok-taken.taken.volume.size told))) (put_there (record { id = c.args.device; size = 0; slots = [] }) now) in
    omega (arith, first, second)) c.put_over.ensures.used
