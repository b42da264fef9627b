use Rattle.std.proofs.Common.{◌≡◌, ◌∙◌, Bool, false, length, drop, ap, arith}
use Rattle.std.proofs.lemmas.List.{length-replicate, take_at}
use Rattle.tp_counts.proofs.Tallying.{used_most, keeps}
use Rattle.tp_image.specs.Areas.{blocks_of}
use Rattle.tp_counts.proofs.Runs.{runs_of_all, runs_lent}
use Rattle.tp_counts.proofs.Touching.{none_touched}
use Rattle.tp_counts.proofs.Counts.keep.Goals as goal

pub overflow_sub-self : goal.overflow_sub-self
overflow_sub-self c = omega (arith, c.len.ensures, c.self.invariant.tallies.now_long, c.self.invariant.tallies.used_is, used_most (blocks_of c.self.inside.geometry c.self.inside.part) c.self.inside.current.items)

pub keep_touched-requires-clause-runs : goal.keep_touched-requires-clause-runs
keep_touched-requires-clause-runs c = runs_lent c.deref.ensures.value c.deref_mut.ensures.value c.deref_mut-2.ensures.value c.self.invariant.tallies.now_long c.self.invariant.runs

pub invariant_of-self : goal.invariant_of-self
invariant_of-self c =
    let n : c.len.result ≡ blocks_of c.self.inside.geometry c.self.inside.part = omega (arith, c.len.ensures, c.self.invariant.tallies.now_long) in
    let again : c.len-self-inside.result ≡ blocks_of c.self.inside.geometry c.self.inside.part = omega (arith, c.len-self-inside.ensures, c.self.invariant.tallies.now_long) in
    let same =
    take_at c.keep_touched.new.kept (drop (length c.keep_touched.new.kept) c.self.inside.kept.items) c.self.inside.kept.len
    (omega (arith, ap length c.keep_touched.ensures.kept, ap length c.deref.ensures.value, c.self.inside.kept.ok.0, c.self.invariant.tallies.now_long, c.self.invariant.tallies.kept_long))
    ∙ c.keep_touched.ensures.kept ∙ c.deref.ensures.value in
    let runs =
    take_at c.keep_touched.new.free_by_run (drop (length c.keep_touched.new.free_by_run) c.self.inside.free_by_run.items) c.self.inside.free_by_run.len
    (omega (arith, c.keep_touched.ensures.runs.long, c.self.inside.free_by_run.ok.0, c.self.invariant.runs.long)) in
    let long : length c.untouch.new.touched ≡ 1024 =
    ap length c.untouch.ensures ∙ length-replicate {A = Bool} _ false ∙ ap length c.deref_mut-3.ensures.value ∙ c.self.invariant.touched.long in
    let marks =
    take_at c.untouch.new.touched (drop (length c.untouch.new.touched) c.self.inside.touched.items) c.self.inside.touched.len
    (omega (arith, long, c.self.inside.touched.ok.0, c.self.invariant.touched.long)) in
    record {
      tallies = rw (n, again, c.min-self-inside.ensures) (keeps _ _ _ _ _ _ _ _ c.self.invariant.tallies same);
      runs = rw runs (runs_of_all c.deref.ensures.value same c.self.invariant.tallies.now_long c.keep_touched.ensures.runs);
      touched = rw marks (none_touched _ _ c.untouch.new.touched same long);
    }
