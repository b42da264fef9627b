use Rattle.std.proofs.Common.{[], IsTrue, sym, subst, arith}
use Rattle.std.proofs.lemmas.Result.{IfOk-weaker}
use Rattle.tp_sharing.specs.Volumes.{with_device}
use Rattle.tp_btree.proofs.Running.{ran_then}
use Rattle.tp_mapping.specs.Held.{HoldTrees}
use Rattle.tp_mapping.proofs.tree_changes.create_below.Goals as goal

pub returns : goal.returns
returns g c = record {
  made =
      IfOk-weaker c.put_new.result _ _
      (λ top f honest geo now h none few.
      subst (λ n. HoldTrees geo c.put_new.new.tm (g.D.Disk.state c.put_new.new.disk) top [] (with_device (record { id = c.args.device; size = n; slots = [] }) now)) c.in_ok-volume.ensures.size
      (f (subst IsTrue (sym c.in_ok-volume.ensures.ran.same_disk.is_honest) honest) geo [] now (c.in_ok-volume.ensures.made geo c.args.root [] now h) none few)) c.put_new.ensures.put;
  damaged = λ e honest geo now h none few.
      c.put_new.ensures.damaged e (subst IsTrue (sym c.in_ok-volume.ensures.ran.same_disk.is_honest) honest) geo [] now (c.in_ok-volume.ensures.made geo c.args.root [] now h) none few;
  ran = ran_then 1 7 8 _ c.args.tm.now c.new_volume.new.tm c.put_new.new.tm (g.D.Disk.state c.args.disk.now) (g.D.Disk.state c.new_volume.new.disk) (g.D.Disk.state c.put_new.new.disk) (omega arith) c.in_ok-volume.ensures.ran c.put_new.ensures.ran;
}
