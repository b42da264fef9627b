use Rattle.std.proofs.Common.{◌/◌, get_or, ap, arith}
use Rattle.std.proofs.lemmas.List.{get_or_read}
use Rattle.tp_image.specs.Areas.{blocks_of}
use Rattle.tp_counts.specs.Counts.{Counts}
use Rattle.tp_counts.proofs.Tallying.{free_most, inside_view, stays_named, some_used, lost, freed}
use Rattle.tp_counts.proofs.Touching.{touch}
use Rattle.tp_counts.proofs.Runs.{run_most, runs_same, runs_freed}
use Rattle.tp_counts.proofs.Counts.dec.Goals as goal

pub invariant_of-self : goal.invariant_of-self
invariant_of-self c =
    let inside = inside_view c.self.view_is c.requires.inside in
    let was = get_or_read c.self.inside.current.items c.args.block c.index.result.now (omega (arith, inside, c.self.invariant.tallies.now_long)) c.index.ensures 0 in
    let named = ap (λ (v : Counts). get_or v.now c.args.block 0) c.self.view_is in
    record {
      tallies = stays_named _ _ _ _ _ _ _ _ _ c.self.invariant.tallies inside (omega (arith, named, c.requires.named)) c.if-left-gt0.true;
      runs = runs_same _ _ _ _ _ _ c.self.invariant.runs c.self.invariant.tallies.few c.self.invariant.tallies.now_long inside (omega (arith, named, c.requires.named)) (omega (arith, c.if-left-gt0.true));
      touched = touch _ _ _ _ _ c.self.invariant.touched (omega (arith, inside, c.self.invariant.tallies.few));
    }

pub overflow_sub-self : goal.overflow_sub-self
overflow_sub-self c =
    let inside = inside_view c.self.view_is c.requires.inside in
    let was = get_or_read c.self.inside.current.items c.args.block c.index.result.now (omega (arith, inside, c.self.invariant.tallies.now_long)) c.index.ensures 0 in
    let named = ap (λ (v : Counts). get_or v.now c.args.block 0) c.self.view_is in
    some_used _ _ _ _ 0 _ _ _ _ c.self.invariant.tallies inside (omega (arith, named, c.requires.named)) (omega arith)

pub invariant_of-self-then-index-gt0 : goal.invariant_of-self-then-index-gt0
invariant_of-self-then-index-gt0 c =
    let inside = inside_view c.self.view_is c.requires.inside in
    let was = get_or_read c.self.inside.current.items c.args.block c.index.result.now (omega (arith, inside, c.self.invariant.tallies.now_long)) c.index.ensures 0 in
    let named = ap (λ (v : Counts). get_or v.now c.args.block 0) c.self.view_is in
    let kept = get_or_read c.self.inside.kept.items c.args.block c.index-2.result.now (omega (arith, inside, c.self.invariant.tallies.kept_long)) c.index-2.ensures 0 in
    record {
      tallies = rw c.min-self-inside.ensures (lost _ _ _ _ _ _ _ _ _ c.self.invariant.tallies inside (omega (arith, named, c.requires.named)) (omega (arith, c.if-left-gt0.false)) (omega (arith, kept, c.if-index-gt0.true)));
      runs = runs_same _ _ _ _ _ _ c.self.invariant.runs c.self.invariant.tallies.few c.self.invariant.tallies.now_long inside (omega (arith, named, c.requires.named)) (omega (arith, kept, c.if-index-gt0.true));
      touched = touch _ _ _ _ _ c.self.invariant.touched (omega (arith, inside, c.self.invariant.tallies.few));
    }

pub overflow_add-self : goal.overflow_add-self
overflow_add-self c = omega (arith, c.self.invariant.tallies.few, c.self.invariant.tallies.free_is, free_most (blocks_of c.self.inside.geometry c.self.inside.part) c.self.inside.current.items c.self.inside.kept.items)

pub overflow_add-index_mut : goal.overflow_add-index_mut
overflow_add-index_mut c =
    let inside = inside_view c.self.view_is c.requires.inside in
    let there = get_or_read c.self.inside.free_by_run.items (c.args.block / 1024) c.index_mut-3.result.now (omega (arith, inside, c.self.invariant.tallies.few, c.self.invariant.runs.long)) c.index_mut-3.ensures.value 0 in
    omega (arith, there, c.self.invariant.tallies.few, inside, run_most _ _ _ _ c.self.invariant.runs (c.args.block / 1024) (omega (arith, inside, c.self.invariant.tallies.few)))

pub invariant_of-self-2 : goal.invariant_of-self-2
invariant_of-self-2 c =
    let inside = inside_view c.self.view_is c.requires.inside in
    let was = get_or_read c.self.inside.current.items c.args.block c.index.result.now (omega (arith, inside, c.self.invariant.tallies.now_long)) c.index.ensures 0 in
    let named = ap (λ (v : Counts). get_or v.now c.args.block 0) c.self.view_is in
    let kept = get_or_read c.self.inside.kept.items c.args.block c.index-2.result.now (omega (arith, inside, c.self.invariant.tallies.kept_long)) c.index-2.ensures 0 in
    let there = get_or_read c.self.inside.free_by_run.items (c.args.block / 1024) c.index_mut-3.result.now (omega (arith, inside, c.self.invariant.tallies.few, c.self.invariant.runs.long)) c.index_mut-3.ensures.value 0 in
    record {
      tallies = rw c.min-self-inside-2.ensures (freed _ _ _ _ _ _ _ _ _ c.self.invariant.tallies inside (omega (arith, named, c.requires.named)) (omega (arith, c.if-left-gt0.false)) (omega (arith, kept, c.if-index-gt0.false)));
      runs = rw there (runs_freed _ _ _ _ _ _ c.self.invariant.runs c.self.invariant.tallies.few c.self.invariant.tallies.now_long inside (omega (arith, named, c.requires.named)) (omega (arith, c.if-left-gt0.false)) (omega (arith, kept, c.if-index-gt0.false)));
      touched = touch _ _ _ _ _ c.self.invariant.touched (omega (arith, inside, c.self.invariant.tallies.few));
    }
