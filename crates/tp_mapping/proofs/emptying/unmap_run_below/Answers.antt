use Rattle.std.proofs.Common.{rules, ◌≡◌, ◌+◌, ◌*◌, ◌<◌, ◌∙◌, [], Err, IsTrue, refl, sym, subst, arith}
use Rattle.std.proofs.lemmas.Result.{IfOk-weaker, err_from_is_err_and}
use Rattle.tp_counts.specs.declared.error.StoreError.TheVariants.{Damaged}
use Rattle.tp_model.specs.Geometry.{Geometry}
use Rattle.tp_sharing.specs.Volumes.{Volumes, device_of, with_device}
use Rattle.tp_btree.specs.Inserts.{Ran}
use Rattle.tp_counts.proofs.Refusing.{fault_is}
use Rattle.tp_btree.proofs.Running.{ran_more, ran_then}
use Rattle.tp_mapping.specs.Held.{HoldTrees}
use Rattle.tp_mapping.specs.Runs.{without_places}
use Rattle.tp_mapping.proofs.Between.{some_there}
use Rattle.tp_mapping.proofs.Taking.{put_there, put_twice}
use Rattle.tp_mapping.proofs.WithoutRuns.{run_put}
use Rattle.tp_mapping.proofs.emptying.unmap_run_below.Goals as goal

pub put_over-requires-clause-inside : goal.put_over-requires-clause-inside
put_over-requires-clause-inside g c =
    subst (λ (z : Geometry). c.in_ok-taken.taken.root < z.metadata_blocks) (sym c.in_ok-taken.ensures.ran.geometry) c.in_ok-taken.ensures.inside

pub put_over-requires-clause-room : goal.put_over-requires-clause-room
put_over-requires-clause-room g c = omega (arith, c.requires.room, c.in_ok-taken.ensures.ran.room)

pub returns-in_err-taken : goal.returns-in_err-taken
returns-in_err-taken g c = record {
  made = search rules;
  damaged = λ e honest geo now h some.
      let f : c.take_without_run.result ≡ Err Damaged = search (rules, e) in c.take_without_run.ensures.damaged f honest geo now h some;
  ran =
      let p = err_from_is_err_and c.from_residual.result c.from_residual.ensures.1 in
      let d = g.D.Disk.state c.args.disk.now in
      let d1 = g.D.Disk.state c.take_without_run.new.disk in
      subst (λ b. Ran (7 * c.args.count + 7) b c.args.tm.now c.take_without_run.new.tm d d1) (sym (fault_is c.from_residual.result p.0 c.in_err-taken.field-0.0 p.1 p.2))
      (ran_more (7 * c.args.count + 4) (7 * c.args.count + 7) _ c.args.tm.now c.take_without_run.new.tm d d1 (omega arith) c.in_err-taken.ensures.ran);
}

pub returns : goal.returns
returns g c = record {
  made =
      IfOk-weaker c.put_over.result _ _
      (λ top f honest geo now h some.
      let o = some_there (device_of c.args.device now) some in
      let slots = without_places c.args.first c.args.count o.0 in
      subst (λ (ds : Volumes). HoldTrees geo c.put_over.new.tm (g.D.Disk.state c.put_over.new.disk) top [] ds)
      (put_twice (record { id = c.args.device; size = c.in_ok-taken.taken.volume.size; slots = slots }) (record { id = c.args.device; size = 0; slots = [] }) now refl
      ∙ run_put geo c.args.tm.now (g.D.Disk.state c.args.disk.now) c.args.root [] now h c.args.device c.in_ok-taken.taken.volume.size c.args.first c.args.count o.0 o.1 (c.in_ok-taken.ensures.told honest geo now h some))
      (f (subst IsTrue (sym c.in_ok-taken.ensures.ran.same_disk.is_honest) honest) geo slots (with_device (record { id = c.args.device; size = 0; slots = [] }) now) (c.in_ok-taken.ensures.changed honest geo now h o.0 o.1)
      (put_there (record { id = c.args.device; size = 0; slots = [] }) now))) c.put_over.ensures.put;
  damaged = λ e honest geo now h some.
      let o = some_there (device_of c.args.device now) some in
      c.put_over.ensures.damaged e (subst IsTrue (sym c.in_ok-taken.ensures.ran.same_disk.is_honest) honest) geo (without_places c.args.first c.args.count o.0) (with_device (record { id = c.args.device; size = 0; slots = [] }) now)
      (c.in_ok-taken.ensures.changed honest geo now h o.0 o.1) (put_there (record { id = c.args.device; size = 0; slots = [] }) now);
  ran =
      ran_then (7 * c.args.count + 4) 3 (7 * c.args.count + 7) _ c.args.tm.now c.take_without_run.new.tm c.put_over.new.tm (g.D.Disk.state c.args.disk.now) (g.D.Disk.state c.take_without_run.new.disk)
      (g.D.Disk.state c.put_over.new.disk) (omega arith) c.in_ok-taken.ensures.ran c.put_over.ensures.ran;
}
