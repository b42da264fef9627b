-- A range of sectors whose zeros are written, by its first part, the blocks that lie wholly in it, and its last part.
use Rattle.std.proofs.Common.{◌≡◌, ◌⊎◌, inl, inr, ℕ, ◌+◌, ◌*◌, ◌/◌, ◌%◌, ◌<◌, ◌≤◌, Bool, true, false, Option, refl, sym, ◌∙◌, ap, arith}
use Rattle.std.specs.Prelude.{nat_le, nat_lt, ◌&&◌, if◌then◌else◌}
use Rattle.std.specs.Option.{is_some}
use Rattle.std.proofs.Math.Nat.{mul-le-mul_right}
use Rattle.std.proofs.lemmas.Bool.{and_from, and_parts, cases_lt, le-leb, leb-true, lt-ltb, ltb-true}
use Rattle.std.proofs.lemmas.Nat.{div-add-mod', div-mul-add}
use Rattle.tp_model.specs.Geometry.{Geometry}
use Rattle.tp_model.specs.Sectors.{Sector, zero_sector}
use Rattle.tp_model.specs.Calls.{Call, Keeps, Loses, Owns, Trim, WriteZeroes, covers, is_within, sector_after, slot_effect, touches}
use Rattle.tp_pool.proofs.Composing.{AreParts, IsOf}

-- tests that follow from one another are one
alike : (x y : Bool) → (x ≡ true → y ≡ true) → (y ≡ true → x ≡ true) → x ≡ y
alike true true f h = refl
alike true false f h = sym (f refl)
alike false true f h = h refl
alike false false f h = refl

pub never : (x : Bool) → (x ≡ true → ⊥) → x ≡ false
never true f = absurd (f refl)
never false f = refl

module _ (g : Geometry) (pos : 0 < g.block_sectors) (block : ℕ) where
  abbrev starts : ℕ
  starts = block * g.block_sectors

  next : (block + 1) * g.block_sectors ≡ starts + g.block_sectors
  next = omega arith

  pub touch_is : (sector count : ℕ) → touches g sector count block ≡ true → (0 < count) × (sector < starts + g.block_sectors) × (starts < sector + count)
  touch_is sector count e =
      let two = and_parts (nat_lt 0 count && nat_lt sector ((block + 1) * g.block_sectors)) (nat_lt starts (sector + count)) e in
      let one = and_parts (nat_lt 0 count) (nat_lt sector ((block + 1) * g.block_sectors)) two.0 in
      let low = ltb-true sector ((block + 1) * g.block_sectors) one.1 in
      (ltb-true 0 count one.0, omega (arith, low, next), ltb-true starts (sector + count) two.1)

  pub touch_by : (sector count : ℕ) → 0 < count → sector < starts + g.block_sectors → starts < sector + count → touches g sector count block ≡ true
  touch_by sector count some low high =
      and_from (nat_lt 0 count && nat_lt sector ((block + 1) * g.block_sectors)) (nat_lt starts (sector + count))
      (and_from (nat_lt 0 count) (nat_lt sector ((block + 1) * g.block_sectors)) (lt-ltb 0 count some) (lt-ltb sector ((block + 1) * g.block_sectors) (omega (arith, low, next))))
      (lt-ltb starts (sector + count) high)

  pub cover_is : (sector count : ℕ) → covers g sector count block ≡ true → (sector ≤ starts) × (starts + g.block_sectors ≤ sector + count)
  cover_is sector count e =
      let two = and_parts (nat_le sector starts) (nat_le ((block + 1) * g.block_sectors) (sector + count)) e in
      let high = leb-true ((block + 1) * g.block_sectors) (sector + count) two.1 in
      (leb-true sector starts two.0, omega (arith, high, next))

  pub cover_by : (sector count : ℕ) → sector ≤ starts → starts + g.block_sectors ≤ sector + count → covers g sector count block ≡ true
  cover_by sector count low high =
      and_from (nat_le sector starts) (nat_le ((block + 1) * g.block_sectors) (sector + count)) (le-leb sector starts low)
      (le-leb ((block + 1) * g.block_sectors) (sector + count) (omega (arith, high, next)))

  pub within_is : (sector count k : ℕ) → is_within sector count k ≡ true → (sector ≤ k) × (k < sector + count)
  within_is sector count k e =
      let two = and_parts (nat_le sector k) (nat_lt k (sector + count)) e in
      (leb-true sector k two.0, ltb-true k (sector + count) two.1)

  pub within_by : (sector count k : ℕ) → sector ≤ k → k < sector + count → is_within sector count k ≡ true
  within_by sector count k low high = and_from (nat_le sector k) (nat_lt k (sector + count)) (le-leb sector k low) (lt-ltb k (sector + count) high)

  abbrev zeroes : ℕ → ℕ → ℕ → Call
  zeroes id sector count = WriteZeroes id sector count false false

  module _ (id : ℕ) where
    -- a range that does not touch the block
    idle_effect : (sector count : ℕ) → (covers g sector count block ≡ true → ⊥) → (touches g sector count block ≡ true → ⊥) → (o : Option ℕ) → slot_effect g (zeroes id sector count) block o ≡ Keeps
    idle_effect sector count none apart o =
        let c = never (covers g sector count block) none in
        let t = never (touches g sector count block) apart in
        (λ i. if c i then Loses else (if t i && is_some o then Owns else Keeps))

    idle_sector : (sector count offset : ℕ) (old : Sector) → (is_within sector count (starts + offset) ≡ true → ⊥) → sector_after g (zeroes id sector count) (starts + offset) old ≡ old
    idle_sector sector count offset old apart =
        let w = never (is_within sector count (starts + offset)) apart in
        (λ i. if w i then zero_sector else old)

    trim_idle : (sector count : ℕ) → (covers g sector count block ≡ true → ⊥) → (o : Option ℕ) → slot_effect g (Trim id sector count false) block o ≡ Keeps
    trim_idle sector count none o = let c = never (covers g sector count block) none in (λ i. if c i then Loses else Keeps)

    trim_same : (sector count offset : ℕ) (old : Sector) → offset < g.block_sectors → (covers g sector count block ≡ true → ⊥) → sector_after g (Trim id sector count false) (starts + offset) old ≡ old
    trim_same sector count offset old small none =
        let c : covers g sector count ((starts + offset) / g.block_sectors) ≡ false = ap (covers g sector count) (div-mul-add block g.block_sectors offset small) ∙ never (covers g sector count block) none in
        (λ i. if c i then zero_sector else old)

    -- ranges that touch it alike
    like_effect : (sector count other n : ℕ) → covers g sector count block ≡ covers g other n block → touches g sector count block ≡ touches g other n block → (o : Option ℕ)
        → slot_effect g (zeroes id sector count) block o ≡ slot_effect g (zeroes id other n) block o
    like_effect sector count other n c t o = (λ i. if c i then Loses else (if t i && is_some o then Owns else Keeps))

    like_sector : (sector count other n offset : ℕ) (old : Sector) → is_within sector count (starts + offset) ≡ is_within other n (starts + offset)
        → sector_after g (zeroes id sector count) (starts + offset) old ≡ sector_after g (zeroes id other n) (starts + offset) old
    like_sector sector count other n offset old w = (λ i. if w i then zero_sector else old)

    -- a range that does not reach a block that begins at its end or behind
    module _ (sector count : ℕ) (past : sector + count ≤ starts) where
      past_cover : covers g sector count block ≡ true → ⊥
      past_cover e = let w = cover_is sector count e in absurd (omega (arith, w.1, past, pos))

      past_touch : touches g sector count block ≡ true → ⊥
      past_touch e = let w = touch_is sector count e in absurd (omega (arith, w.2, past))

      past_within : (offset : ℕ) → is_within sector count (starts + offset) ≡ true → ⊥
      past_within offset e = let w = within_is sector count (starts + offset) e in absurd (omega (arith, w.1, past))

    -- nor one that begins behind the block
    module _ (sector count : ℕ) (later : starts + g.block_sectors ≤ sector) where
      later_cover : covers g sector count block ≡ true → ⊥
      later_cover e = let w = cover_is sector count e in absurd (omega (arith, w.0, later, pos))

      later_touch : touches g sector count block ≡ true → ⊥
      later_touch e = let w = touch_is sector count e in absurd (omega (arith, w.1, later))

      later_within : (offset : ℕ) → offset < g.block_sectors → is_within sector count (starts + offset) ≡ true → ⊥
      later_within offset small e = let w = within_is sector count (starts + offset) e in absurd (omega (arith, w.0, later, small))

-- ---- a range cut where a block begins

module _ (g : Geometry) (pos : 0 < g.block_sectors) (id sector head rest : ℕ) where
  abbrev bs : ℕ
  bs = g.block_sectors

  abbrev whole : Call
  whole = WriteZeroes id sector (head + rest) false false

  abbrev low : Call
  low = WriteZeroes id sector head false false

  abbrev high : Call
  high = WriteZeroes id (sector + head) rest false false

  -- a block of the first part
  of_low : (block : ℕ) → block * bs + bs ≤ sector + head → IsOf g low high whole block
  of_low block ends = record {
    effect = λ o. like_effect g pos block id sector (head + rest) sector head
        (alike (covers g sector (head + rest) block) (covers g sector head block)
        (λ e. let w = cover_is g pos block sector (head + rest) e in cover_by g pos block sector head w.0 ends)
        (λ e. let w = cover_is g pos block sector head e in cover_by g pos block sector (head + rest) w.0 (omega (arith, w.1))))
        (alike (touches g sector (head + rest) block) (touches g sector head block)
        (λ e. let w = touch_is g pos block sector (head + rest) e in touch_by g pos block sector head (omega (arith, w.1, ends)) w.1 (omega (arith, ends, pos)))
        (λ e. let w = touch_is g pos block sector head e in touch_by g pos block sector (head + rest) (omega (arith, w.0)) w.1 (omega (arith, w.2))))
        o;
    keeps = idle_effect g pos block id (sector + head) rest (later_cover g pos block id (sector + head) rest ends) (later_touch g pos block id (sector + head) rest ends);
    sector = λ offset old small. like_sector g pos block id sector (head + rest) sector head offset old
        (alike (is_within sector (head + rest) (block * bs + offset)) (is_within sector head (block * bs + offset))
        (λ e. let w = within_is g pos block sector (head + rest) (block * bs + offset) e in within_by g pos block sector head (block * bs + offset) w.0 (omega (arith, small, ends)))
        (λ e. let w = within_is g pos block sector head (block * bs + offset) e in within_by g pos block sector (head + rest) (block * bs + offset) w.0 (omega (arith, w.1))));
    same = λ offset old small. idle_sector g pos block id (sector + head) rest offset old (later_within g pos block id (sector + head) rest ends offset small);
  }

  -- a block of the second
  of_high : (block : ℕ) → sector + head ≤ block * bs → IsOf g high low whole block
  of_high block begins = record {
    effect = λ o. like_effect g pos block id sector (head + rest) (sector + head) rest
        (alike (covers g sector (head + rest) block) (covers g (sector + head) rest block)
        (λ e. let w = cover_is g pos block sector (head + rest) e in cover_by g pos block (sector + head) rest begins (omega (arith, w.1)))
        (λ e. let w = cover_is g pos block (sector + head) rest e in cover_by g pos block sector (head + rest) (omega (arith, w.0)) (omega (arith, w.1))))
        (alike (touches g sector (head + rest) block) (touches g (sector + head) rest block)
        (λ e. let w = touch_is g pos block sector (head + rest) e in touch_by g pos block (sector + head) rest (omega (arith, w.2, begins)) (omega (arith, begins, pos)) (omega (arith, w.2)))
        (λ e. let w = touch_is g pos block (sector + head) rest e in touch_by g pos block sector (head + rest) (omega (arith, w.0)) (omega (arith, begins, pos)) (omega (arith, w.2))))
        o;
    keeps = idle_effect g pos block id sector head (past_cover g pos block id sector head begins) (past_touch g pos block id sector head begins);
    sector = λ offset old small. like_sector g pos block id sector (head + rest) (sector + head) rest offset old
        (alike (is_within sector (head + rest) (block * bs + offset)) (is_within (sector + head) rest (block * bs + offset))
        (λ e. let w = within_is g pos block sector (head + rest) (block * bs + offset) e in within_by g pos block (sector + head) rest (block * bs + offset) (omega (arith, begins)) (omega (arith, w.1)))
        (λ e. let w = within_is g pos block (sector + head) rest (block * bs + offset) e in within_by g pos block sector (head + rest) (block * bs + offset) (omega (arith, w.0)) (omega (arith, w.1))));
    same = λ offset old small. idle_sector g pos block id sector head offset old (past_within g pos block id sector head begins offset);
  }

  -- nothing is behind it
  of_all : rest ≡ 0 → (block : ℕ) → IsOf g low high whole block
  of_all none block =
      let none_cover : covers g (sector + head) rest block ≡ true → ⊥ = λ e. let w = cover_is g pos block (sector + head) rest e in absurd (omega (arith, w.0, w.1, none, pos)) in
      let none_touch : touches g (sector + head) rest block ≡ true → ⊥ = λ e. let w = touch_is g pos block (sector + head) rest e in absurd (omega (arith, w.0, none)) in
      let all : head + rest ≡ head = omega (arith, none) in
      record {
        effect = λ o. ap (λ n. slot_effect g (WriteZeroes id sector n false false) block o) all;
        keeps = idle_effect g pos block id (sector + head) rest none_cover none_touch;
        sector = λ offset old small. ap (λ n. sector_after g (WriteZeroes id sector n false false) (block * bs + offset) old) all;
        same = λ offset old small. idle_sector g pos block id (sector + head) rest offset old
            (λ e. let w = within_is g pos block (sector + head) rest (block * bs + offset) e in absurd (omega (arith, w.0, w.1, none)));
      }

  -- where a number of sectors ends with a block, a block lies before that or behind
  before_or_behind : (k block : ℕ) → sector + head ≡ k * bs → (block * bs + bs ≤ sector + head) ⊎ (sector + head ≤ block * bs)
  before_or_behind k block e = elim (cases_lt block k) [
    | inl lt ↦ let up : (block + 1) * bs ≤ k * bs = mul-le-mul_right bs (omega (arith, lt)) in let more : (block + 1) * bs ≡ block * bs + bs = omega arith in inl (omega (arith, up, more, e))
    | inr ge ↦ let up : k * bs ≤ block * bs = mul-le-mul_right bs ge in inr (omega (arith, up, e))
  ]

  pub head_parts : (rest ≡ 0) ⊎ ((sector + head) % bs ≡ 0) → AreParts g low high whole
  head_parts (inl none) block = inl (of_all none block)
  head_parts (inr ends) block =
      let parts : (sector + head) / bs * bs + (sector + head) % bs ≡ sector + head = div-add-mod' (sector + head) bs in
      elim (before_or_behind ((sector + head) / bs) block (omega (arith, parts, ends))) [ inl b ↦ inl (of_low block b) | inr b ↦ inr (of_high block b) ]

-- ---- the last part, and the blocks that lie wholly in the range

-- from: where the first block begins; middle: sectors of whole blocks.
module _ (g : Geometry) (pos : 0 < g.block_sectors) (id sector head middle tail : ℕ) (small_head : head < g.block_sectors) (small_tail : tail < g.block_sectors) where
  abbrev n : ℕ
  n = g.block_sectors

  abbrev from : ℕ
  from = sector + head

  abbrev behind_all : Call
  behind_all = WriteZeroes id from (middle + tail) false false

  abbrev last : Call
  last = WriteZeroes id (from + middle) tail false false

  abbrev trim : Call
  trim = Trim id sector (head + middle + tail) false

  -- a block before the whole ones
  of_none : (block : ℕ) → block * n + n ≤ from → IsOf g last trim behind_all block
  of_none block ends =
      let no : covers g sector (head + middle + tail) block ≡ true → ⊥ = λ e. let w = cover_is g pos block sector (head + middle + tail) e in absurd (omega (arith, w.0, ends, small_head)) in
      let ends_too : block * n + n ≤ from + middle = omega (arith, ends) in
      record {
        effect = λ o. idle_effect g pos block id from (middle + tail) (later_cover g pos block id from (middle + tail) ends) (later_touch g pos block id from (middle + tail) ends) o
            ∙ sym (idle_effect g pos block id (from + middle) tail (later_cover g pos block id (from + middle) tail ends_too) (later_touch g pos block id (from + middle) tail ends_too) o);
        keeps = trim_idle g pos block id sector (head + middle + tail) no;
        sector = λ offset old small. idle_sector g pos block id from (middle + tail) offset old (later_within g pos block id from (middle + tail) ends offset small)
            ∙ sym (idle_sector g pos block id (from + middle) tail offset old (later_within g pos block id (from + middle) tail ends_too offset small));
        same = λ offset old small. trim_same g pos block id sector (head + middle + tail) offset old small no;
      }

  -- a block that lies wholly in the range
  of_middle : (block : ℕ) → from ≤ block * n → block * n + n ≤ from + middle → IsOf g trim last behind_all block
  of_middle block begins ends =
      let all : covers g from (middle + tail) block ≡ true = cover_by g pos block from (middle + tail) begins (omega (arith, ends)) in
      let all_trim : covers g sector (head + middle + tail) block ≡ true = cover_by g pos block sector (head + middle + tail) (omega (arith, begins)) (omega (arith, ends)) in
      record {
        effect = λ o. (λ i. if all i then Loses else (if touches g from (middle + tail) block && is_some o then Owns else Keeps)) ∙ sym (λ i. if all_trim i then Loses else Keeps);
        keeps = idle_effect g pos block id (from + middle) tail (later_cover g pos block id (from + middle) tail ends) (later_touch g pos block id (from + middle) tail ends);
        sector = λ offset old small.
            let w : is_within from (middle + tail) (block * n + offset) ≡ true = within_by g pos block from (middle + tail) (block * n + offset) (omega (arith, begins)) (omega (arith, ends, small)) in
            let t : covers g sector (head + middle + tail) ((block * n + offset) / n) ≡ true = ap (covers g sector (head + middle + tail)) (div-mul-add block n offset small) ∙ all_trim in
            (λ i. if w i then zero_sector else old) ∙ sym (λ i. if t i then zero_sector else old);
        same = λ offset old small. idle_sector g pos block id (from + middle) tail offset old (later_within g pos block id (from + middle) tail ends offset small);
      }

  -- a block behind them
  of_last : (block : ℕ) → from + middle ≤ block * n → IsOf g last trim behind_all block
  of_last block begins =
      let none : covers g from (middle + tail) block ≡ true → ⊥ = λ e. let w = cover_is g pos block from (middle + tail) e in absurd (omega (arith, w.1, begins, small_tail)) in
      let none_last : covers g (from + middle) tail block ≡ true → ⊥ = λ e. let w = cover_is g pos block (from + middle) tail e in absurd (omega (arith, w.1, begins, small_tail)) in
      let no : covers g sector (head + middle + tail) block ≡ true → ⊥ = λ e. let w = cover_is g pos block sector (head + middle + tail) e in absurd (omega (arith, w.1, begins, small_tail)) in
      record {
        effect = λ o. like_effect g pos block id from (middle + tail) (from + middle) tail
            (never (covers g from (middle + tail) block) none ∙ sym (never (covers g (from + middle) tail block) none_last))
            (alike (touches g from (middle + tail) block) (touches g (from + middle) tail block)
            (λ e. let w = touch_is g pos block from (middle + tail) e in touch_by g pos block (from + middle) tail (omega (arith, w.2, begins)) (omega (arith, begins, pos)) (omega (arith, w.2)))
            (λ e. let w = touch_is g pos block (from + middle) tail e in touch_by g pos block from (middle + tail) (omega (arith, w.0)) (omega (arith, begins, pos)) (omega (arith, w.2))))
            o;
        keeps = trim_idle g pos block id sector (head + middle + tail) no;
        sector = λ offset old small. like_sector g pos block id from (middle + tail) (from + middle) tail offset old
            (alike (is_within from (middle + tail) (block * n + offset)) (is_within (from + middle) tail (block * n + offset))
            (λ e. let w = within_is g pos block from (middle + tail) (block * n + offset) e in within_by g pos block (from + middle) tail (block * n + offset) (omega (arith, begins)) (omega (arith, w.1)))
            (λ e. let w = within_is g pos block (from + middle) tail (block * n + offset) e in within_by g pos block from (middle + tail) (block * n + offset) (omega (arith, w.0)) (omega (arith, w.1))));
        same = λ offset old small. trim_same g pos block id sector (head + middle + tail) offset old small no;
      }

  -- nothing is behind the first part
  of_nothing : middle + tail ≡ 0 → (block : ℕ) → IsOf g last trim behind_all block
  of_nothing blank block =
      let no : covers g sector (head + middle + tail) block ≡ true → ⊥ = λ e. let w = cover_is g pos block sector (head + middle + tail) e in absurd (omega (arith, w.0, w.1, blank, small_head)) in
      let none_cover : covers g from (middle + tail) block ≡ true → ⊥ = λ e. let w = cover_is g pos block from (middle + tail) e in absurd (omega (arith, w.0, w.1, blank, pos)) in
      let none_touch : touches g from (middle + tail) block ≡ true → ⊥ = λ e. let w = touch_is g pos block from (middle + tail) e in absurd (omega (arith, w.0, blank)) in
      let last_cover : covers g (from + middle) tail block ≡ true → ⊥ = λ e. let w = cover_is g pos block (from + middle) tail e in absurd (omega (arith, w.0, w.1, blank, pos)) in
      let last_touch : touches g (from + middle) tail block ≡ true → ⊥ = λ e. let w = touch_is g pos block (from + middle) tail e in absurd (omega (arith, w.0, blank)) in
      record {
        effect = λ o. idle_effect g pos block id from (middle + tail) none_cover none_touch o ∙ sym (idle_effect g pos block id (from + middle) tail last_cover last_touch o);
        keeps = trim_idle g pos block id sector (head + middle + tail) no;
        sector = λ offset old small.
            idle_sector g pos block id from (middle + tail) offset old (λ e. let w = within_is g pos block from (middle + tail) (block * n + offset) e in absurd (omega (arith, w.0, w.1, blank)))
            ∙ sym (idle_sector g pos block id (from + middle) tail offset old (λ e. let w = within_is g pos block (from + middle) tail (block * n + offset) e in absurd (omega (arith, w.0, w.1, blank))));
        same = λ offset old small. trim_same g pos block id sector (head + middle + tail) offset old small no;
      }

  pub tail_parts : (middle + tail ≡ 0) ⊎ (from % n ≡ 0) → middle % n ≡ 0 → AreParts g last trim behind_all
  tail_parts (inl blank) whole block = inl (of_nothing blank block)
  tail_parts (inr starts_one) whole block =
      let k = from / n in
      let j = middle / n in
      let first : k * n + from % n ≡ from = div-add-mod' from n in
      let more : j * n + middle % n ≡ middle = div-add-mod' middle n in
      let both : (k + j) * n ≡ k * n + j * n = omega arith in
      elim (before_or_behind g pos id sector head 0 k block (omega (arith, first, starts_one))) [
        | inl b ↦ inl (of_none block b)
        | inr b ↦ elim (before_or_behind g pos id from middle 0 (k + j) block (omega (arith, first, starts_one, more, whole, both))) [
          | inl e ↦ inr (of_middle block b e)
          | inr e ↦ inl (of_last block e)
        ]
      ]
