use Rattle.std.proofs.Common.{◌≡◌, ◌-◌, ◌∙◌, ℕ, Bool, false, List, length, ap, arith}
use Rattle.std.proofs.lemmas.List.{length-replicate}
use Rattle.tp_counts.specs.Counts.{used_in}
use Rattle.tp_counts.proofs.Tallying.{used_most, unchanged}
use Rattle.tp_image.specs.Areas.{blocks_of}
use Rattle.tp_counts.proofs.Touching.{none_touched}
use Rattle.tp_counts.proofs.Runs.{runs_of_all}
use Rattle.tp_counts.proofs.Counts.unchanged.Goals as goal

pub overflow_sub-result : goal.overflow_sub-result
overflow_sub-result c =
    omega (arith, c.used_among-used.ensures, used_most (length c.deref.result.now) c.deref.result.now, ap length c.deref.ensures.value, c.requires.long, c.blocks_of-blocks.ensures.value)

pub invariant_of-result : goal.invariant_of-result
invariant_of-result c =
    let n = blocks_of c.args.geometry c.args.part in
    let same = c.blocks_of-blocks.ensures.value in
    let used : c.used_among-used.result ≡ used_in n c.args.room.now.items =
    c.used_among-used.ensures ∙ ap (λ (l : List ℕ). used_in (length l) l) c.deref.ensures.value ∙ ap (λ (k : ℕ). used_in k c.args.room.now.items) c.requires.long in
    let filled : c.copy_from_slice.new.self.items ≡ c.unused_by_run-runs.result = c.copy_from_slice.ensures.items in
    record {
      tallies =
          rw same (unchanged n c.args.room.now.items c.args.room.kept.items c.used_among-used.result (n - c.used_among-used.result) 0 (omega (arith, same, c.blocks_of-blocks.ensures.few)) c.requires.long c.requires.same used
          (omega (arith, used, used_most n c.args.room.now.items)) (λ k low. absurd (omega (arith, low))));
      runs = rw filled (runs_of_all c.deref-2.ensures.value c.requires.same c.requires.long c.unused_by_run-runs.ensures);
      touched = none_touched c.args.room.now.items c.args.room.kept.items c.args.room.touched.items c.requires.same (ap length c.requires.touched ∙ length-replicate {A = Bool} 1024 false);
    }
