use Rattle.std.proofs.Common.{rules, ◌≡◌, ◌+◌, ◌*◌, ◌∙◌, Err, IsTrue, Some, ap, sym, subst, arith}
use Rattle.std.proofs.lemmas.Result.{err_from_is_err_and}
use Rattle.tp_counts.specs.declared.error.StoreError.TheVariants.{Damaged}
use Rattle.tp_sharing.specs.Volumes.{device_of}
use Rattle.tp_btree.specs.Inserts.{Ran}
use Rattle.tp_counts.proofs.Refusing.{fault_is}
use Rattle.tp_btree.proofs.Running.{ran_more, ran_then}
use Rattle.tp_mapping.proofs.Between.{some_there}
use Rattle.tp_mapping.proofs.emptying.take_without_run.Goals as goal

pub free_slots-requires-clause-room : goal.free_slots-requires-clause-room
free_slots-requires-clause-room g c = omega (arith, c.requires.room, c.in_ok-taken.ensures.ran.room)

pub returns-in_err-taken-clause-damaged : goal.returns-in_err-taken-clause-damaged
returns-in_err-taken-clause-damaged g c e honest geo now h some =
    let f : c.take_volume.result ≡ Err Damaged = search (rules, e) in c.take_volume.ensures.damaged f honest geo _ now (omega arith) h some

pub returns-in_err-volume-clause-damaged : goal.returns-in_err-volume-clause-damaged
returns-in_err-volume-clause-damaged g c e honest geo now h some =
    let f : c.free_slots.result ≡ Err Damaged = search (rules, e) in
    let o = some_there (device_of c.args.device now) some in
    c.free_slots.ensures.damaged f (subst IsTrue (sym c.in_ok-taken.ensures.ran.same_disk.is_honest) honest) geo c.in_ok-taken.taken.root o.0 _
    (c.in_ok-taken.ensures.taken honest geo _ now (omega arith) h o.0 o.1)

pub returns-clause-changed : goal.returns-clause-changed
returns-clause-changed g c honest geo now h slots is =
    c.in_ok-volume.ensures.changed (subst IsTrue (sym c.in_ok-taken.ensures.ran.same_disk.is_honest) honest) geo c.in_ok-taken.taken.root slots _
    (c.in_ok-taken.ensures.taken honest geo _ now (omega arith) h slots is)

pub returns-in_err-taken-clause-ran : goal.returns-in_err-taken-clause-ran
returns-in_err-taken-clause-ran g c =
    let p = err_from_is_err_and c.from_residual.result c.from_residual.ensures.1 in
    let d = g.D.Disk.state c.args.disk.now in
    let d1 = g.D.Disk.state c.take_volume.new.disk in
    subst (λ b. Ran (7 * c.args.count + 4) b c.args.tm.now c.take_volume.new.tm d d1) (sym (fault_is c.from_residual.result p.0 c.in_err-taken.field-0.0 p.1 p.2))
    (ran_more 4 (7 * c.args.count + 4) _ c.args.tm.now c.take_volume.new.tm d d1 (omega arith) c.in_err-taken.ensures.ran)

pub returns-in_err-volume-clause-ran : goal.returns-in_err-volume-clause-ran
returns-in_err-volume-clause-ran g c =
    let p = err_from_is_err_and c.from_residual-in_err-volume.result c.from_residual-in_err-volume.ensures.1 in
    let d = g.D.Disk.state c.args.disk.now in
    let d1 = g.D.Disk.state c.take_volume.new.disk in
    let d2 = g.D.Disk.state c.free_slots.new.disk in
    subst (λ b. Ran (7 * c.args.count + 4) b c.args.tm.now c.free_slots.new.tm d d2) (sym (fault_is c.from_residual-in_err-volume.result p.0 c.in_err-volume.field-0.0 p.1 p.2))
    (ran_then 4 (7 * c.args.count) (7 * c.args.count + 4) _ c.args.tm.now c.take_volume.new.tm c.free_slots.new.tm d d1 d2 (omega arith) c.in_ok-taken.ensures.ran c.in_err-volume.ensures.ran)

pub returns-clause-ran : goal.returns-clause-ran
returns-clause-ran g c =
    let d = g.D.Disk.state c.args.disk.now in
    let d1 = g.D.Disk.state c.take_volume.new.disk in
    let d2 = g.D.Disk.state c.free_slots.new.disk in
    ran_then 4 (7 * c.args.count) (7 * c.args.count + 4) _ c.args.tm.now c.take_volume.new.tm c.free_slots.new.tm d d1 d2 (omega arith) c.in_ok-taken.ensures.ran c.in_ok-volume.ensures.ran

pub returns-clause-told : goal.returns-clause-told
returns-clause-told g c honest geo now h some = c.in_ok-taken.ensures.told honest geo _ now (omega arith) h some ∙ ap Some (sym c.in_ok-volume.ensures.size)
