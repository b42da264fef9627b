use Rattle.std.proofs.Common.{arith, refl, sym, subst}
use Rattle.tp_model.specs.Disk.{seen}
use Rattle.tp_model.proofs.DiskStopLaws.{AfterStop-seen}
use Rattle.tp_tm.specs.Tm.{Tm}
use Rattle.tp_meta.specs.Midway.{IsWritten}
use Rattle.tp_meta.proofs.Areas.{named_fixed}
use Rattle.tp_meta.proofs.Kept.{counted, not_stored, other_area}
use Rattle.tp_meta.proofs.committing.begin_store.Goals as goal

pub returns-in-Ok-clause-written : goal.returns-in-Ok-clause-written
returns-in-Ok-clause-written g c =
    let area = c.slot-area.result in
    let t = c.args.tm.now in
    let next = c.args.next in
    let stale = c.args.stale.now in
    let old = g.D.Disk.state c.args.disk.now in
    let new = g.D.Disk.state c.write_parts.new.disk in
    let any = c.write_parts.ensures in
    let done = c.in-Ok.ensures in
    let all : IsWritten 0 t stale next old new = record {
      area = area;
      its = c.slot-area.ensures;
      limits = any.sized.0;
      sized = any.sized.1;
      run = λ last kept s may. any.any_moment last kept may.left may.kept_is may.geometry (other_area last.sequence next.sequence area may.follows c.slot-area.ensures);
      holds = done.holds;
      counts = λ last kept s may.
          counted t stale area c.of.result.now c.changed_in-changed.result c.joined-marks.result old last next kept s may c.of.ensures c.changed_in-changed.ensures.same c.joined-marks.ensures.both done.counts;
      beside = λ last kept s may. done.beside (named_fixed t last kept (seen old.cells) (may.left (seen old.cells) (AfterStop-seen old.cells)) may.kept_is may.geometry);
      same_data = any.same_data;
      time = any.time;
      same_disk = any.same_disk;
      failures = done.cause.none refl;
      flushes = omega (arith, any.flushes);
    } in
    subst (λ (u : Tm). IsWritten 0 u stale next old new) (sym any.unchanged) all

pub returns-in-Err-clause-failed : goal.returns-in-Err-clause-failed
returns-in-Err-clause-failed g c =
    let area = c.slot-area.result in
    let next = c.args.next in
    let old = g.D.Disk.state c.args.disk.now in
    let new = g.D.Disk.state c.write_parts.new.disk in
    let any = c.write_parts.ensures in
    record {
      any_moment = λ last kept s may.
          not_stored last next kept s old new (any.any_moment last kept may.left may.kept_is may.geometry (other_area last.sequence next.sequence area may.follows c.slot-area.ensures));
      stored = tt;
      holds = tt;
      current = tt;
      same_data = any.same_data;
      kept = tt;
      unchanged = any.unchanged;
      ran = record {
        time = any.time;
        same_disk = any.same_disk;
        cause = c.in-Err.ensures.cause;
        flushes = (omega (arith, any.flushes), omega (arith, any.flushes));
        flushed = tt;
        settled = tt;
      };
    }
