use Rattle.std.proofs.Common.{rules, ◌≡◌, ◌+◌, ◌*◌, ◌<◌, ◌≤◌, ◌∙◌, List, Err, IsTrue, refl, sym, subst, arith}
use Rattle.std.proofs.lemmas.Result.{err_from_is_err_and}
use Rattle.tp_counts.specs.declared.error.StoreError.TheVariants.{Damaged}
use Rattle.tp_model.specs.Geometry.{Geometry, sectors_of_image}
use Rattle.tp_sharing.specs.Volumes.{BlockSlot}
use Rattle.tp_btree.specs.Inserts.{Ran}
use Rattle.tp_counts.proofs.Refusing.{fault_is}
use Rattle.tp_btree.proofs.Running.{ran_more, ran_still, ran_then}
use Rattle.tp_mapping.specs.Held.{HoldVolume}
use Rattle.tp_mapping.specs.Runs.{without_places}
use Rattle.tp_mapping.proofs.WithoutRuns.{places_next}
use Rattle.tp_mapping.proofs.emptying.free_slots.Goals as goal

pub loop-done-init : goal.loop-done-init
loop-done-init g c =
    let t = c.args.tm.now in
    record {
      most = omega arith;
      inside = c.requires.inside;
      mapped = c.requires.few;
      size = refl;
      ran = ran_still (7 * 0) t t (g.D.Disk.state c.args.disk.now) refl refl refl refl (omega arith) (omega arith);
      changed = λ honest geo root slots now h. h;
    }

pub new-requires : goal.new-requires
new-requires g c = omega (arith, c.loop-done-test.true, c.requires.run)

pub free_slot-requires-clause-disk : goal.free_slot-requires-clause-disk
free_slot-requires-clause-disk g c =
    subst (λ (z : Geometry). sectors_of_image z ≤ (g.D.Disk.state c.loop-done.disk).size) (sym c.loop-done.invariant.ran.geometry)
    (omega (arith, c.requires.disk, c.loop-done.invariant.ran.same_disk.size))

pub free_slot-requires-clause-inside : goal.free_slot-requires-clause-inside
free_slot-requires-clause-inside g c =
    subst (λ (z : Geometry). c.loop-done.left.root < z.metadata_blocks) (sym c.loop-done.invariant.ran.geometry) c.loop-done.invariant.inside

pub free_slot-requires-clause-few : goal.free_slot-requires-clause-few
free_slot-requires-clause-few g c = c.loop-done.invariant.mapped

pub free_slot-requires-clause-room : goal.free_slot-requires-clause-room
free_slot-requires-clause-room g c = omega (arith, c.requires.room, c.loop-done-test.true, c.loop-done.invariant.ran.room)

pub loop-done-preserved : goal.loop-done-preserved
loop-done-preserved g c =
    let inv = c.loop-done.invariant in
    let done = c.loop-done.done in
    let d = g.D.Disk.state c.args.disk.now in
    let d1 = g.D.Disk.state c.loop-done.disk in
    let d2 = g.D.Disk.state c.free_slot.new.disk in
    record {
      most = omega (arith, c.loop-done-test.true);
      inside = subst (λ (z : Geometry). c.in_ok-left.left.root < z.metadata_blocks) inv.ran.geometry c.in_ok-left.ensures.inside;
      mapped = c.in_ok-left.ensures.mapped;
      size = c.in_ok-left.ensures.size ∙ inv.size;
      ran = ran_then (7 * done) 7 (7 * (done + 1)) _ c.args.tm.now c.loop-done.tm c.free_slot.new.tm d d1 d2 (omega arith) inv.ran c.in_ok-left.ensures.ran;
      changed = λ honest geo root slots now h.
          subst (λ (ys : List BlockSlot). HoldVolume geo c.free_slot.new.tm d2 root c.in_ok-left.left ys now) (places_next c.args.first done c.new.result slots (omega (arith, c.new.ensures)))
          (c.in_ok-left.ensures.changed (subst IsTrue (sym inv.ran.same_disk.is_honest) honest) geo root (without_places c.args.first done slots) now (inv.changed honest geo root slots now h));
    }

pub returns-in_err-left-clause-damaged : goal.returns-in_err-left-clause-damaged
returns-in_err-left-clause-damaged g c e honest geo root slots now h =
    let inv = c.loop-done.invariant in
    let f : c.free_slot.result ≡ Err Damaged = search (rules, e) in
    c.free_slot.ensures.damaged f (subst IsTrue (sym inv.ran.same_disk.is_honest) honest) geo root (without_places c.args.first c.loop-done.done slots) now (inv.changed honest geo root slots now h)

pub returns-in_err-left-clause-ran : goal.returns-in_err-left-clause-ran
returns-in_err-left-clause-ran g c =
    let p = err_from_is_err_and c.from_residual.result c.from_residual.ensures.1 in
    let d = g.D.Disk.state c.args.disk.now in
    let d1 = g.D.Disk.state c.loop-done.disk in
    let d2 = g.D.Disk.state c.free_slot.new.disk in
    subst (λ b. Ran (7 * c.args.count) b c.args.tm.now c.free_slot.new.tm d d2) (sym (fault_is c.from_residual.result p.0 c.in_err-left.field-0.0 p.1 p.2))
    (ran_then (7 * c.loop-done.done) 7 (7 * c.args.count) _ c.args.tm.now c.loop-done.tm c.free_slot.new.tm d d1 d2 (omega (arith, c.loop-done-test.true)) c.loop-done.invariant.ran c.in_err-left.ensures.ran)

pub returns-clause-changed : goal.returns-clause-changed
returns-clause-changed g c honest geo root slots now h =
    let inv = c.loop-done.invariant in
    let all : c.loop-done.done ≡ c.args.count = omega (arith, inv.most, c.loop-done-test.false) in
    subst (λ n. HoldVolume geo c.loop-done.tm (g.D.Disk.state c.loop-done.disk) root c.loop-done.left (without_places c.args.first n slots) now) all (inv.changed honest geo root slots now h)

pub returns-clause-ran : goal.returns-clause-ran
returns-clause-ran g c =
    let inv = c.loop-done.invariant in
    ran_more (7 * c.loop-done.done) (7 * c.args.count) _ c.args.tm.now c.loop-done.tm (g.D.Disk.state c.args.disk.now) (g.D.Disk.state c.loop-done.disk) (omega (arith, inv.most)) inv.ran
