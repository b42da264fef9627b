use Rattle.std.proofs.Common.{◌≡◌, ℕ, ◌-◌, ◌*◌, length, drop, sym, ap, ◌∙◌, arith, length-drop}
use Rattle.std.proofs.lemmas.List.{length-take-le}
use Rattle.tp_layout.specs.Node.{entry_len, most_entries}
use Rattle.tp_layout.proofs.NumberLaws.{zeros_of_length, zeros_at_length}
use Rattle.tp_layout.proofs.NodeLaws.{Parts, to_parts, EndsInZeros, form_from_tests}
use Rattle.tp_layout.proofs.view.is_formed.Goals as goal

pub returns-then-not-is_zero : goal.returns-then-not-is_zero
returns-then-not-is_zero c = (
  (λ h. absurd cc),
  (λ p. let zero = c.is_zero.ensures.1 (zeros_of_length _ 44 (c.unused_head.ensures ∙ p.head)) in absurd cc),
)

pub returns : goal.returns
returns c =
    let parts : Parts c.args.kind c.args.block.now c.body-entries.result.now c.u32_at-level.result c.u32_at-count.result c.is_long_of-long.result = record { level_is = c.u32_at-level.ensures; count_is = c.u32_at-count.ensures; long_is = c.is_long_of-long.ensures; entries_is = c.body-entries.ensures.value } in
    let place : c.entry_len_of.result * c.u32_at-count.result ≡ entry_len c.is_long_of-long.result * c.u32_at-count.result = ap (λ (s : ℕ). s * c.u32_at-count.result) c.entry_len_of.ensures in
    let tail : c.rest.result.now ≡ drop (entry_len c.is_long_of-long.result * c.u32_at-count.result) c.body-entries.result.now = c.rest.ensures ∙ ap (λ (k : ℕ). drop k c.body-entries.result.now) place in
    let size : length c.rest.result.now ≡ 4032 - entry_len c.is_long_of-long.result * c.u32_at-count.result = ap length tail ∙ length-drop (entry_len c.is_long_of-long.result * c.u32_at-count.result) c.body-entries.result.now ∙ ap (λ (n : ℕ). n - entry_len c.is_long_of-long.result * c.u32_at-count.result) c.body-entries.ensures.size in
    let unused : length c.unused_head.result.now ≡ 44 = ap length c.unused_head.ensures ∙ length-take-le 44 (drop 20 c.args.block.now) (omega (arith, c.told-block, length-drop 20 c.args.block.now)) in
    let head = sym c.unused_head.ensures ∙ zeros_at_length _ 44 unused (c.is_zero.ensures.0 c.if-not-is_zero.false) in (
      (λ h. form_from_tests _ _ _ _ _ _ _ parts (omega (arith, c.u32_at.ensures, c.number.ensures, c.if-u32_at-number.false)) (omega (arith, c.most_level.ensures, c.if-level-most_level.false)) (omega (arith, c.u64_at.ensures, c.number-2.ensures.value, c.if-u64_at-number.false)) c.number-2.ensures.below (omega (arith, c.most_entries.ensures, ap most_entries c.is_long_of-long.ensures, c.if-count-most_entries.false)) head (sym tail ∙ zeros_at_length _ _ size (c.is_zero-2.ensures.0 h))),
      (λ p. c.is_zero-2.ensures.1 (zeros_of_length _ _ (tail ∙ to_parts EndsInZeros _ _ _ _ _ _ parts p.tail))),
    )
