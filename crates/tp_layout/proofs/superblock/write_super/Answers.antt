use Rattle.std.proofs.Common.{◌≡◌, ℕ, List, ap, subst, ◌∙◌}
use Rattle.tp_layout.specs.Numbers.{le32, le64, zeros}
use Rattle.tp_layout.proofs.Pieces.{Puts}
use Rattle.tp_layout.proofs.SuperLaws.{super_written}
use Rattle.tp_layout.proofs.superblock.write_super.Goals as goal

-- a number that was written is the one that a call gave
put32_is : (at x y : ℕ) (old new : List ℕ) → x ≡ y → Puts at 4 (le32 x) old new → Puts at 4 (le32 y) old new
put32_is at x y old new e p = let P : ℕ → Type 0 = λ z. Puts at 4 (le32 z) old new in subst P e p

put64_is : (at x y : ℕ) (old new : List ℕ) → x ≡ y → Puts at 8 (le64 x) old new → Puts at 8 (le64 y) old new
put64_is at x y old new e p = let P : ℕ → Type 0 = λ z. Puts at 8 (le64 z) old new in subst P e p

pub returns : goal.returns
returns c = super_written c.args.superblock.now c.clear.new.bytes c.put_u64.new.bytes c.put_u32.new.bytes c.put_u32-2.new.bytes c.put_u64-2.new.bytes c.put_u64-3.new.bytes c.put_u32-3.new.bytes c.put_u32-4.new.bytes c.put_u32-5.new.bytes c.put_u32-6.new.bytes c.put_u64-4.new.bytes c.put_u64-5.new.bytes
    (c.clear.ensures ∙ ap zeros c.told-sector) c.put_u64.ensures (put32_is 8 _ _ _ _ c.number.ensures c.put_u32.ensures)
    (put32_is 12 _ _ _ _ c.flags_number.ensures c.put_u32-2.ensures) c.put_u64-2.ensures c.put_u64-3.ensures
    (put32_is 32 _ _ _ _ c.block_sectors.ensures.value c.put_u32-3.ensures) (put32_is 36 _ _ _ _ c.virtual_blocks.ensures.value c.put_u32-4.ensures)
    (put32_is 40 _ _ _ _ c.metadata_blocks.ensures.value c.put_u32-5.ensures) (put32_is 44 _ _ _ _ c.data_blocks.ensures.value c.put_u32-6.ensures)
    (put64_is 48 _ _ _ _ c.number-2.ensures.value c.put_u64-4.ensures) (put64_is 56 _ _ _ _ c.number-3.ensures.value c.put_u64-5.ensures)
