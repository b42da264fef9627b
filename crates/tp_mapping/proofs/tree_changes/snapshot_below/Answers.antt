use Rattle.std.proofs.Common.{rules, ◌≡◌, ◌+◌, ◌≤◌, ◌∙◌, [], Err, IsTrue, sym, subst, arith}
use Rattle.tp_mapping.specs.Held.{HoldTrees, in_use}
use Rattle.std.proofs.lemmas.Result.{IfOk-weaker}
use Rattle.tp_counts.specs.declared.error.StoreError.TheVariants.{Damaged}
use Rattle.tp_sharing.specs.Volumes.{device_of, with_device}
use Rattle.tp_btree.proofs.Running.{ran_then}
use Rattle.tp_mapping.proofs.Between.{same_some, some_there}
use Rattle.tp_mapping.proofs.tree_changes.snapshot_below.Goals as goal

pub returns-in_err-volume-clause-changed : goal.returns-in_err-volume-clause-changed
returns-in_err-volume-clause-changed g c = record {
  made = search rules;
  damaged = λ e honest geo now h none few some. let f : c.named_again.result ≡ Err Damaged = search (rules, e) in c.named_again.ensures.damaged f honest geo now h some;
  ran = search rules;
}

pub returns-clause-changed : goal.returns-clause-changed
returns-clause-changed g c = record {
  made =
      IfOk-weaker c.put_new.result _ _
      (λ top f honest geo now h none few some slots size is told.
      subst (λ n. HoldTrees geo c.put_new.new.tm (g.D.Disk.state c.put_new.new.disk) top [] (with_device (record { id = c.args.device; size = n; slots = slots }) now))
      (same_some _ size (sym (c.in_ok-volume.ensures.told honest geo now h) ∙ told))
      (f (subst IsTrue (sym c.in_ok-volume.ensures.ran.same_disk.is_honest) honest) geo slots now (c.in_ok-volume.ensures.held honest geo now h slots is) none few)) c.put_new.ensures.put;
  damaged = λ e honest geo now h none few some.
      let o = some_there (device_of c.args.origin now) some in
      c.put_new.ensures.damaged e (subst IsTrue (sym c.in_ok-volume.ensures.ran.same_disk.is_honest) honest) geo o.0 now (c.in_ok-volume.ensures.held honest geo now h o.0 o.1) none few;
  ran = ran_then 1 7 8 _ c.args.tm.now c.named_again.new.tm c.put_new.new.tm (g.D.Disk.state c.args.disk.now) (g.D.Disk.state c.named_again.new.disk) (g.D.Disk.state c.put_new.new.disk) (omega arith) c.in_ok-volume.ensures.ran c.put_new.ensures.ran;
}

pub returns-clause-used : goal.returns-clause-used
returns-clause-used g c = IfOk-weaker c.put_new.result _ _
    (λ top f none_held honest geo now h none few some.
    let o = some_there (device_of c.args.origin now) some in
    let first : in_use c.named_again.new.tm ≤ in_use c.args.tm.now = c.in_ok-volume.ensures.used honest geo now h in
    let second : in_use c.put_new.new.tm ≤ in_use c.named_again.new.tm + 3 =
    f (c.in_ok-volume.ensures.ran.held_root ∙ none_held) (subst IsTrue (sym c.in_ok-volume.ensures.ran.same_disk.is_honest) honest) geo o.0 now (c.in_ok-volume.ensures.held honest geo now h o.0 o.1) none few in
    omega (arith, first, second)) c.put_new.ensures.used
