use Rattle.std.proofs.Common.{ℕ, arith, refl, subst}
use Rattle.tp_sizing.specs.Sizing.{IsLargest, Suits}
use Rattle.tp_sizing.proofs.Blocks.{enough_largest, next_size, none_suits, smaller}
use Rattle.tp_sizing.proofs.sizing.smallest_block.Goals as goal

pub loop-smallest-preserved : goal.loop-smallest-preserved
loop-smallest-preserved c =
    let w = c.args.wanted.now in
    let s = c.loop-smallest.sectors in (
      c.requires.blocks.next s c.loop-smallest.invariant.0 c.if-sectors-largest.false,
      (λ n is suits. next_size s n c.loop-smallest.invariant.0.0 is.0 (c.loop-smallest.invariant.1 n is suits) (λ same. let none = c.loop-smallest-test.ensures.1 (subst (λ (m : ℕ). Suits w m) same suits) in absurd cc)),
    )

pub most_volumes-requires-clause-enough : goal.most_volumes-requires-clause-enough
most_volumes-requires-clause-enough c = enough_largest c.args.wanted.now c.args.smallest c.args.largest c.loop-smallest.sectors c.requires.blocks c.if-sectors-largest.true c.requires.range

pub returns-then-sectors-largest : goal.returns-then-sectors-largest
returns-then-sectors-largest c =
    let w = c.args.wanted.now in
    let s = c.loop-smallest.sectors in
    let blocks = c.requires.blocks in
    let is = c.if-sectors-largest.true in
    let none = none_suits w c.args.smallest c.args.largest s blocks is c.loop-smallest.invariant.1 (λ suits. let bad = c.loop-smallest-test.ensures.1 suits in absurd cc) in
    let largest : IsLargest w s = (c.loop-smallest.invariant.0, (λ m allowed. let le = blocks.most m allowed in omega (arith, le, is))) in
    (c.requires.range, none, (s, c.most_volumes.ensures.0, largest, c.most_volumes.ensures.1))

pub loop-smallest-smaller : goal.loop-smallest-smaller
loop-smallest-smaller c = smaller c.loop-smallest.sectors c.loop-smallest.invariant.0.0 (c.requires.blocks.next c.loop-smallest.sectors c.loop-smallest.invariant.0 c.if-sectors-largest.false).0

pub returns : goal.returns
returns c = record { allowed = c.loop-smallest.invariant.0; suits = c.loop-smallest-test.ensures.0 refl; least = c.loop-smallest.invariant.1 }
