use Rattle.std.proofs.Common.{◌≡◌, ◌+◌, ◌<◌, ◌≤◌, ◌^◌, arith, length, ap, refl, subst}
use Rattle.tp_model.specs.Geometry.{Geometry, IsWithinLimits, sectors_of_image}
use Rattle.tp_model.specs.Disk.{DiskState, seen}
use Rattle.tp_meta.proofs.Contents.{is_settled}
use Rattle.tp_meta.proofs.Midway.{flush_failed, flushed_on, named_failed}
use Rattle.tp_meta.proofs.Telling.{seen_size}
use Rattle.tp_meta.proofs.committing.go_on_store.Goals as goal

pub returns-in-Err-clause-failed : goal.returns-in-Err-clause-failed
returns-in-Err-clause-failed g c before written =
    flush_failed c.args.tm.now c.args.stale.now c.args.next before _ (g.D.Disk.state c.args.disk.now) (g.D.Disk.state c.flush.new.self) written c.in-Err.ensures

pub returns-in-Ok-put-clause-named : goal.returns-in-Ok-put-clause-named
returns-in-Ok-put-clause-named g c before written =
    let t = c.args.tm.now in
    let stale = c.args.stale.now in
    let next = c.args.next in
    let old = g.D.Disk.state c.args.disk.now in
    let mid = g.D.Disk.state c.flush.new.self in
    let size : mid.size ≡ old.size = ap (λ (d : DiskState). d.size) c.in-Ok.ensures in
    record {
      mid = mid;
      written = flushed_on t stale next before old mid written c.in-Ok.ensures;
      settled = is_settled old mid c.in-Ok.ensures;
      whole = omega (arith, c.requires, size, seen_size mid (g.met.D.Disk.well_formed c.flush.new.self));
      is = c.in-Ok-put.ensures.ok;
      any_moment = c.put.ensures.any_moment;
      chosen = c.in-Ok-put.ensures.chosen;
      outside = c.put.ensures.outside;
    }

pub returns-in-Err-put-clause-failed : goal.returns-in-Err-put-clause-failed
returns-in-Err-put-clause-failed g c before written =
    let t = c.args.tm.now in
    let stale = c.args.stale.now in
    let next = c.args.next in
    let old = g.D.Disk.state c.args.disk.now in
    let mid = g.D.Disk.state c.flush.new.self in
    let new = g.D.Disk.state c.put.new.disk in
    let size : mid.size ≡ old.size = ap (λ (d : DiskState). d.size) c.in-Ok.ensures in
    let small : next.transaction_id < 2 ^ 64 = omega arith in
    let whole : sectors_of_image t.geometry ≤ length (seen mid.cells) = omega (arith, c.requires, size, seen_size mid (g.met.D.Disk.well_formed c.flush.new.self)) in
    named_failed t stale next before mid (flushed_on t stale next before old mid written c.in-Ok.ensures) (is_settled old mid c.in-Ok.ensures) whole small new c.put.ensures.any_moment c.put.ensures.outside c.put.ensures.same
    _ (c.in-Err-put.ensures.cause.more refl) (omega (arith, c.put.ensures.flushes)) (omega (arith, c.put.ensures.flushes))

pub put-requires : goal.put-requires
put-requires g c =
    let within = subst (λ (k : Geometry). IsWithinLimits k) c.geometry.ensures.value c.fixed_part.ensures.within in
    let size : (g.D.Disk.state c.flush.new.self).size ≡ (g.D.Disk.state c.args.disk.now).size = ap (λ (d : DiskState). d.size) c.in-Ok.ensures in
    omega (arith, c.requires, size, within.metadata_least)
