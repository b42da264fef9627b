-- How many sectors of a range lie before the first block that begins in it, and how many behind the last one that ends in it.
use Rattle.std.proofs.Common.{◌≡◌, inl, inr, ℕ, ◌+◌, ◌-◌, ◌*◌, ◌/◌, ◌%◌, ◌<◌, ◌≤◌, ◌∙◌, ap, arith}
use Rattle.std.proofs.Math.Nat.{mod-lt, mul-mod_left}
use Rattle.std.proofs.lemmas.Nat.{div-add-mod'}
use Rattle.tp_model.specs.Geometry.{Geometry}
use Rattle.tp_pool.specs.Zeroing.{AreEdges}
use Rattle.tp_pool.proofs.Rounds.{ends_at}

module _ (g : Geometry) (pos : 0 < g.block_sectors) (sector count : ℕ) where
  -- what is left of some sectors without those behind the last whole block
  whole_left : (n tail : ℕ) → tail ≡ n % g.block_sectors → (n - tail) % g.block_sectors ≡ 0
  whole_left n tail is =
      let parts : n / g.block_sectors * g.block_sectors + n % g.block_sectors ≡ n = div-add-mod' n g.block_sectors in
      let e : n - tail ≡ n / g.block_sectors * g.block_sectors = omega (arith, parts, is) in
      ap (λ k. k % g.block_sectors) e ∙ mul-mod_left (n / g.block_sectors) g.block_sectors

  tail_small : (n : ℕ) → n % g.block_sectors < g.block_sectors
  tail_small n = mod-lt n pos

  -- a block begins with the first sector
  pub edges_at_start : (tail : ℕ) → sector % g.block_sectors ≡ 0 → tail ≡ count % g.block_sectors → AreEdges g sector count 0 tail
  edges_at_start tail begins is =
      let parts : count / g.block_sectors * g.block_sectors + count % g.block_sectors ≡ count = div-add-mod' count g.block_sectors in
      let blank : sector + 0 ≡ sector = omega arith in
      let all : count - 0 - tail ≡ count - tail = omega arith in
      record {
        fits = omega (arith, parts, is);
        first = λ lt. absurd (omega (arith, lt));
        last = let small = tail_small count in omega (arith, small, is);
        begins = inr (ap (λ k. k % g.block_sectors) blank ∙ begins);
        ends = ap (λ k. k % g.block_sectors) all ∙ whole_left count tail is;
      }

  -- it lies inside a block, and the range ends in that
  pub edges_within : 0 < sector % g.block_sectors → count ≤ g.block_sectors - sector % g.block_sectors → AreEdges g sector count count 0
  edges_within past small =
      let within : sector % g.block_sectors < g.block_sectors = mod-lt sector pos in
      let blank : count - count - 0 ≡ 0 * g.block_sectors = omega arith in
      record {
        fits = omega arith;
        first = λ lt. (past, omega (arith, small, within));
        last = pos;
        begins = inl (omega arith);
        ends = ap (λ k. k % g.block_sectors) blank ∙ mul-mod_left 0 g.block_sectors;
      }

  -- or goes on behind it
  pub edges_inside : (head tail : ℕ) → 0 < sector % g.block_sectors → head ≡ g.block_sectors - sector % g.block_sectors → head < count → tail ≡ (count - head) % g.block_sectors → AreEdges g sector count head tail
  edges_inside head tail past is_head most is =
      let rest = count - head in
      let parts : rest / g.block_sectors * g.block_sectors + rest % g.block_sectors ≡ rest = div-add-mod' rest g.block_sectors in
      let within : sector % g.block_sectors < g.block_sectors = mod-lt sector pos in
      let up : sector % g.block_sectors + head ≡ 1 * g.block_sectors = omega (arith, is_head, within) in
      record {
        fits = omega (arith, parts, is, most);
        first = λ lt. (past, omega (arith, is_head, within));
        last = let less = tail_small rest in omega (arith, less, is);
        begins = inr (ends_at g pos sector head 1 up);
        ends = whole_left rest tail is;
      }
