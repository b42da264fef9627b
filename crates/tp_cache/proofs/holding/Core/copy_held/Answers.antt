use Rattle.std.proofs.Common.{◌≡◌, ◌-◌, ◌*◌, ◌<◌, [], length, sym, ◌∙◌, ap, subst, arith}
use Rattle.std.specs.Prelude.{slice_index_or}
use Rattle.std.proofs.lemmas.List.{get_or_default}
use Rattle.tp_model.specs.Sectors.{bytes_at}
use Rattle.tp_model.specs.Disk.{seen}
use Rattle.tp_cache.specs.Table.{Held, slot_of}
use Rattle.tp_cache.proofs.holding.Core.copy_held.Goals as goal

pub returns : goal.returns
returns g c =
    let h = c.self.inside in
    let kept = c.self.invariant.2 in
    let block = c.args.block in
    let slot = c.index.result.now in
    let within : block < length h.held.items = omega (arith, subst (λ (v : Held). block < length v.index) (sym c.self.view_is) c.requires.inside, kept.same_length) in
    let its : slot ≡ slot_of h.held.items block = c.index.ensures ∙ get_or_default h.held.items block slot 0 within in
    let some : 0 < slot_of h.held.items block = omega (arith, its, c.if-slot-eq0.false) in
    let there : slot - 1 < length h.slots.items = let most = kept.inside block in omega (arith, most, its, some) in
    let bytes = c.index-2.ensures ∙ get_or_default h.slots.items (slot - 1) c.index-2.result.now [] there ∙ ap (λ n. slice_index_or h.slots.items (n - 1) []) its ∙ kept.value block some in
    subst (λ (v : Held). c.copy_from_slice.new.self ≡ bytes_at (seen v.line.outer.cells) (8 * block) 8) c.self.view_is (c.copy_from_slice.ensures.after ∙ bytes)
