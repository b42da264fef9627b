use Rattle.std.proofs.Common.{◌≡◌, ℕ, ◌+◌, ◌<◌, get_or, subst, arith, inl, inr}
use Rattle.std.proofs.lemmas.Bool.{cases_lt}
use Rattle.tp_image.specs.Areas.{blocks_of}
use Rattle.tp_counts.specs.Counts.{Counts, free_count}
use Rattle.tp_counts.proofs.Free.{none_free}
use Rattle.tp_counts.proofs.Tallying.{some_free}
use Rattle.tp_counts.proofs.Runs.{runs_lent}
use Rattle.tp_counts.proofs.Counts.find_free.Goals as goal

pub least_free-block-requires-clause-runs : goal.least_free-block-requires-clause-runs
least_free-block-requires-clause-runs c = runs_lent c.deref.ensures.value c.deref-2.ensures.value c.deref-3.ensures.value c.self.invariant.tallies.now_long c.self.invariant.runs

pub returns-then-block-len-clause-count : goal.returns-then-block-len-clause-count
returns-then-block-len-clause-count c =
    let n = blocks_of c.self.inside.geometry c.self.inside.part in
    let used : (b : ℕ) → b < n → 0 < get_or c.self.inside.current.items b 0 + get_or c.self.inside.kept.items b 0 = λ b inside. elim (cases_lt b c.self.inside.no_free_below) [
      | inl low ↦ c.self.invariant.tallies.no_free b low
      | inr high ↦ rw (c.deref.ensures.value, c.deref-2.ensures.value) at (c.least_free-block.ensures.least b high (omega (arith, c.if-block-len.true, c.len.ensures, c.self.invariant.tallies.now_long)))
    ] in
    subst (λ (v : Counts). free_count v ≡ 0) c.self.view_is
    (none_free n c.self.inside.current.items c.self.inside.kept.items (λ b inside now kept. let z : ⊥ = omega (arith, used b inside) in z))

pub returns-clause-count : goal.returns-clause-count
returns-clause-count c =
    let inside : c.least_free-block.result < blocks_of c.self.inside.geometry c.self.inside.part = omega (arith, c.if-block-len.false, c.len.ensures, c.self.invariant.tallies.now_long) in
    let free = rw (c.deref.ensures.value, c.deref-2.ensures.value) at c.least_free-block.ensures.free in
    let is = free (omega (arith, c.if-block-len.false, c.len.ensures)) in
    subst (λ (v : Counts). 0 < free_count v) c.self.view_is
    (omega (arith, c.self.invariant.tallies.free_is, some_free _ _ _ _ 1 _ _ _ _ c.self.invariant.tallies inside is.0 (omega arith) is.1))
