use Rattle.std.proofs.Common.{◌≡◌, ◌⊎◌, ℕ, length, refl, sym, ap, subst, ◌∙◌, arith, length-drop, inl, inr}
use Rattle.tp_model.specs.Geometry.{Geometry, IsTreeBlock, IsWithinLimits}
use Rattle.tp_layout.proofs.NumberLaws.{zeros_of_length, zeros_at_length}
use Rattle.tp_layout.proofs.SuperLaws.{flags_from_number}
use Rattle.tp_layout.proofs.superblock.fields_of.Goals as goal

pub returns-then-not-is_zero-clause-none : goal.returns-then-not-is_zero-clause-none
returns-then-not-is_zero-clause-none c s version good fields =
    let zero = c.is_zero.ensures.1 (zeros_of_length _ 448 (c.rest.ensures ∙ fields.tail)) in absurd cc

pub returns-then-not-may_be_held-clause-none : goal.returns-then-not-may_be_held-clause-none
returns-then-not-may_be_held-clause-none c s version good fields =
    let shape = c.in-Ok.ensures.good in
    let same : s.geometry ≡ c.in-Ok.geometry = (λ i. record {
      block_sectors = (sym fields.block_sectors ∙ sym c.u32_at-block_sectors.ensures) i;
      virtual_blocks = (sym fields.virtual_blocks ∙ sym c.u32_at-virtual_blocks.ensures) i;
      metadata_blocks = (sym fields.metadata_blocks ∙ sym c.u32_at-metadata_blocks.ensures) i;
      data_blocks = (sym fields.data_blocks ∙ sym c.u32_at-data_blocks.ensures) i;
    }) ∙ sym shape in
    let held : s.held_root ≡ c.u64_at-held_root.result = sym fields.held ∙ sym c.u64_at-held_root.ensures in
    let may : (c.u64_at-held_root.result ≡ 0) ⊎ IsTreeBlock c.in-Ok.geometry c.u64_at-held_root.result =
    subst (λ (g : Geometry). (c.u64_at-held_root.result ≡ 0) ⊎ IsTreeBlock g c.u64_at-held_root.result) same (subst (λ (n : ℕ). (n ≡ 0) ⊎ IsTreeBlock s.geometry n) held good.held) in
    c.if-not-may_be_held.ensures.no refl may (λ first. sym held ∙ good.unheld (version ∙ first))

pub returns-clause-found : goal.returns-clause-found
returns-clause-found c =
    let size : length c.rest.result.now ≡ 448 = ap length c.rest.ensures ∙ omega (arith, length-drop 64 c.args.sector.now, c.told-sector) in
    let tail = sym c.rest.ensures ∙ zeros_at_length _ 448 size (c.is_zero.ensures.0 c.if-not-is_zero.false) in
    let shape = c.in-Ok.ensures.good in
    let metadata = ap (λ (g : Geometry). g.metadata_blocks) shape in (
      record {
        sequence = omega (arith, c.u64_at-sequence.type_inv);
        transaction_id = omega (arith, c.u64_at.type_inv);
        slot_is = c.if-sequence-number.false ∙ c.number.ensures;
        geometry = subst IsWithinLimits (sym c.in-Ok.ensures.good) (c.in-Ok.ensures.limits.0 refl);
        held = elim (c.may_be_held.ensures.yes c.if-not-may_be_held.false).0 [
          | inl e ↦ inl (omega (arith, e, c.new-3.ensures))
          | inr t ↦ inr (omega (arith, t.0, c.new-3.ensures), omega (arith, t.1, c.new-3.ensures, metadata))
        ];
        unheld = λ is. let none : c.u64_at-held_root.result ≡ 0 = (c.may_be_held.ensures.yes c.if-not-may_be_held.false).1 is in omega (arith, none, c.new-3.ensures);
        root = (omega (arith, c.if-root-fixed_part.false, c.fixed_part.ensures.value, c.new-2.ensures), omega (arith, c.if-root-metadata_blocks.false, metadata, c.new-2.ensures));
      },
      record {
        flags = sym c.u32_at-flags.ensures ∙ flags_from_number c.u32_at-flags.result c.if-flags-gt1.false;
        sequence = sym c.u64_at-sequence.ensures;
        transaction_id = sym c.u64_at.ensures;
        block_sectors = sym c.u32_at-block_sectors.ensures ∙ sym (ap (λ (g : Geometry). g.block_sectors) shape);
        virtual_blocks = sym c.u32_at-virtual_blocks.ensures ∙ sym (ap (λ (g : Geometry). g.virtual_blocks) shape);
        metadata_blocks = sym c.u32_at-metadata_blocks.ensures ∙ sym metadata;
        data_blocks = sym c.u32_at-data_blocks.ensures ∙ sym (ap (λ (g : Geometry). g.data_blocks) shape);
        root = omega (arith, c.u64_at-root.ensures, c.new-2.ensures);
        held = omega (arith, c.u64_at-held_root.ensures, c.new-3.ensures);
        tail = tail;
      },
    )
