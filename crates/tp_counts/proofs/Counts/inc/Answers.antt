use Rattle.std.proofs.Common.{◌/◌, arith}
use Rattle.std.proofs.lemmas.List.{get_or_read}
use Rattle.tp_image.specs.Areas.{blocks_of}
use Rattle.tp_counts.proofs.Tallying.{used_most, inside_view, stays_named, named_again, some_free, taken}
use Rattle.tp_counts.proofs.Touching.{touch}
use Rattle.tp_counts.proofs.Runs.{runs_same, runs_taken, some_in_run}
use Rattle.tp_counts.proofs.Counts.inc.Goals as goal

pub invariant_of-self : goal.invariant_of-self
invariant_of-self c =
    let inside = inside_view c.self.view_is c.requires.inside in
    let was = get_or_read c.self.inside.current.items c.args.block c.index-count.result.now (omega (arith, inside, c.self.invariant.tallies.now_long)) c.index-count.ensures 0 in
    record {
      tallies = stays_named _ _ _ _ _ _ _ _ _ c.self.invariant.tallies inside (omega (arith, was, c.if-count-gt0.true)) (omega arith);
      runs = runs_same _ _ _ _ _ _ c.self.invariant.runs c.self.invariant.tallies.few c.self.invariant.tallies.now_long inside (omega (arith, was, c.if-count-gt0.true)) (omega arith);
      touched = touch _ _ _ _ _ c.self.invariant.touched (omega (arith, inside, c.self.invariant.tallies.few));
    }

pub overflow_add-self : goal.overflow_add-self
overflow_add-self c = omega (arith, c.self.invariant.tallies.few, c.self.invariant.tallies.used_is, used_most (blocks_of c.self.inside.geometry c.self.inside.part) c.self.inside.current.items)

pub invariant_of-self-then-index-gt0 : goal.invariant_of-self-then-index-gt0
invariant_of-self-then-index-gt0 c =
    let inside = inside_view c.self.view_is c.requires.inside in
    let was = get_or_read c.self.inside.current.items c.args.block c.index-count.result.now (omega (arith, inside, c.self.invariant.tallies.now_long)) c.index-count.ensures 0 in
    let kept = get_or_read c.self.inside.kept.items c.args.block c.index.result.now (omega (arith, inside, c.self.invariant.tallies.kept_long)) c.index.ensures 0 in
    record {
      tallies = named_again _ _ _ _ _ _ _ _ _ c.self.invariant.tallies inside (omega (arith, was, c.if-count-gt0.false)) (omega arith) (omega (arith, kept, c.if-index-gt0.true));
      runs = runs_same _ _ _ _ _ _ c.self.invariant.runs c.self.invariant.tallies.few c.self.invariant.tallies.now_long inside (omega (arith, kept, c.if-index-gt0.true)) (omega arith);
      touched = touch _ _ _ _ _ c.self.invariant.touched (omega (arith, inside, c.self.invariant.tallies.few));
    }

pub overflow_sub-self : goal.overflow_sub-self
overflow_sub-self c =
    let inside = inside_view c.self.view_is c.requires.inside in
    let was = get_or_read c.self.inside.current.items c.args.block c.index-count.result.now (omega (arith, inside, c.self.invariant.tallies.now_long)) c.index-count.ensures 0 in
    let kept = get_or_read c.self.inside.kept.items c.args.block c.index.result.now (omega (arith, inside, c.self.invariant.tallies.kept_long)) c.index.ensures 0 in
    some_free _ _ _ _ 1 _ _ _ _ c.self.invariant.tallies inside (omega (arith, was, c.if-count-gt0.false)) (omega arith) (omega (arith, kept, c.if-index-gt0.false))

pub overflow_sub-index_mut : goal.overflow_sub-index_mut
overflow_sub-index_mut c =
    let inside = inside_view c.self.view_is c.requires.inside in
    let was = get_or_read c.self.inside.current.items c.args.block c.index-count.result.now (omega (arith, inside, c.self.invariant.tallies.now_long)) c.index-count.ensures 0 in
    let kept = get_or_read c.self.inside.kept.items c.args.block c.index.result.now (omega (arith, inside, c.self.invariant.tallies.kept_long)) c.index.ensures 0 in
    let there = get_or_read c.self.inside.free_by_run.items (c.args.block / 1024) c.index_mut-3.result.now (omega (arith, inside, c.self.invariant.tallies.few, c.self.invariant.runs.long)) c.index_mut-3.ensures.value 0 in
    let some = some_in_run _ _ _ _ _ 1 c.self.invariant.runs c.self.invariant.tallies.few c.self.invariant.tallies.now_long inside (omega (arith, was, c.if-count-gt0.false)) (omega (arith, kept, c.if-index-gt0.false)) in
    omega (arith, there, some)

pub invariant_of-self-2 : goal.invariant_of-self-2
invariant_of-self-2 c =
    let inside = inside_view c.self.view_is c.requires.inside in
    let was = get_or_read c.self.inside.current.items c.args.block c.index-count.result.now (omega (arith, inside, c.self.invariant.tallies.now_long)) c.index-count.ensures 0 in
    let kept = get_or_read c.self.inside.kept.items c.args.block c.index.result.now (omega (arith, inside, c.self.invariant.tallies.kept_long)) c.index.ensures 0 in
    let there = get_or_read c.self.inside.free_by_run.items (c.args.block / 1024) c.index_mut-3.result.now (omega (arith, inside, c.self.invariant.tallies.few, c.self.invariant.runs.long)) c.index_mut-3.ensures.value 0 in
    record {
      tallies = taken _ _ _ _ _ _ _ _ _ c.self.invariant.tallies inside (omega (arith, was, c.if-count-gt0.false)) (omega arith) (omega (arith, kept, c.if-index-gt0.false));
      runs = rw there (runs_taken _ _ _ _ _ _ c.self.invariant.runs c.self.invariant.tallies.few c.self.invariant.tallies.now_long inside (omega (arith, was, c.if-count-gt0.false)) (omega arith) (omega (arith, kept, c.if-index-gt0.false)));
      touched = touch _ _ _ _ _ c.self.invariant.touched (omega (arith, inside, c.self.invariant.tallies.few));
    }
