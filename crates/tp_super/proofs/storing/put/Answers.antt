use Rattle.std.proofs.Common.{◌≡◌, ℕ, ◌+◌, ◌*◌, ◌<◌, ◌≤◌, List, [], ◌∷◌, length, inl, sym, ◌∙◌, ap, subst, arith}
use Rattle.std.specs.Prelude.{Result, Ok}
use Rattle.std.proofs.lemmas.Result.{on_ok_weaker}
use Rattle.tp_model.specs.declared.refusal.Refusal.{Refusal}
use Rattle.tp_model.specs.Sectors.{Sector, sector_at, sectors_of}
use Rattle.tp_model.specs.Disk.{DiskState, Writes, seen, written, after_write}
use Rattle.tp_model.specs.DiskStops.{AfterStop, Leaves, LeavesOnly}
use Rattle.tp_model.proofs.DiskLaws.{sectors_of-one}
use Rattle.tp_model.proofs.DiskStopLaws.{PartlyOverlaid-seen, AfterStop-seen, sector_at-written, starts, goes_on_write, SameOutside-none, SameOutside-partly, starts_outside, goes_on_outside}
use Rattle.tp_layout.specs.Super.{IsGoodSuper, super_bytes}
use Rattle.tp_layout.specs.declared.superblock.Superblock.{Superblock}
use Rattle.tp_layout.specs.declared.superblock.SlotId.{SlotId}
use Rattle.tp_layout.specs.declared.superblock.SlotId.TheVariants.{Zero, One}
use Rattle.tp_image.specs.Slots.{Chooses, slot_sector}
use Rattle.tp_super.specs.Store.{IsNext, IsStoring, super_sector}
use Rattle.tp_super.proofs.Choice.{Chooses-either, Chooses-next, slot_sector_is}
use Rattle.tp_super.proofs.storing.put.Goals as goal

on_the_disk : (slot : SlotId) (n : ℕ) → 9 ≤ n → slot_sector slot < n
on_the_disk Zero n h = omega (arith, h)
on_the_disk One n h = omega (arith, h)

-- what the write was of
one_sector : (next : Superblock) (at : ℕ) (bytes : List ℕ) (old new : DiskState) → at ≡ super_sector next → bytes ≡ super_bytes next → length bytes ≡ 512
    → Writes at (sectors_of bytes) old new → Writes (super_sector next) (super_bytes next ∷ []) old new
one_sector next at bytes old new here is long writes =
    subst (λ l. Writes (super_sector next) (l ∷ []) old new) is (subst (λ (l : List Sector). Writes (super_sector next) l old new) (sectors_of-one bytes long) (subst (λ n. Writes n (sectors_of bytes) old new) here writes))

module _ (slot : SlotId) (one : Result Superblock Refusal) (next : Superblock) (good : IsGoodSuper slot next) (is : IsNext one next) (old : DiskState) (room : 9 ≤ length old.cells)
    (before : Leaves (λ image. Chooses image one) old.cells) where
  begins : LeavesOnly old old (IsStoring one next old.cells)
  begins = starts {P = IsStoring one next old.cells} old (λ image stop. (inl (before image stop), (image, stop, SameOutside-none (super_sector next) 1 image)))

  goes_on : (new : DiskState) → Writes (super_sector next) (super_bytes next ∷ []) old new → LeavesOnly old new (IsStoring one next old.cells)
  goes_on new writes =
      goes_on_write {P = IsStoring one next old.cells} {Q = λ image. Chooses image one × AfterStop old.cells image} begins writes (λ image stop. (before image stop, stop))
      (λ left image was partly. (
        Chooses-either slot one next left image good is was.0 (on_the_disk slot (length image) (omega (arith, room, partly.same_length, was.1.same_length))) partly,
        (left, was.1, SameOutside-partly (super_sector next) 1 partly (omega arith) (omega arith)),
      ))

  -- what reads give once it is written
  reads : Chooses (seen (written (super_sector next) (super_bytes next ∷ []) old.cells)) (Ok next)
  reads =
      let at = slot_sector_is slot next good in
      let fits : super_sector next + 1 ≤ length old.cells = omega (arith, room, at, on_the_disk slot (length old.cells) room) in
      let partly = PartlyOverlaid-seen (super_sector next) (super_bytes next ∷ []) old.cells fits in
      let image = seen (written (super_sector next) (super_bytes next ∷ []) old.cells) in
      let here = sector_at-written (super_sector next) 0 (super_sector next) (super_bytes next ∷ []) old.cells (omega arith) (omega arith) fits in
      Chooses-next slot one next (seen old.cells) image good is (before (seen old.cells) (AfterStop-seen old.cells))
      (SameOutside-partly (slot_sector slot) 1 partly (omega (arith, at)) (omega (arith, at)))
      (on_the_disk slot (length image) (omega (arith, room, partly.same_length, (AfterStop-seen old.cells).same_length)))
      (sym (ap (sector_at image) at) ∙ here)

-- the write of one sector that succeeded
wrote : (next : Superblock) (at : ℕ) (bytes : List ℕ) (old new : DiskState) → at ≡ super_sector next → bytes ≡ super_bytes next → length bytes ≡ 512
    → new ≡ after_write at (sectors_of bytes) old → new ≡ after_write (super_sector next) (super_bytes next ∷ []) old
wrote next at bytes old new here is long e =
    e ∙ ap (λ n. after_write n (sectors_of bytes) old) here ∙ ap (λ (l : List Sector). after_write (super_sector next) l old) (sectors_of-one bytes long ∙ ap (λ b. b ∷ []) is)

pub returns-clause-any_moment : goal.returns-clause-any_moment
returns-clause-any_moment g c slot one good is before =
    let old = g.D.Disk.state c.args.disk.now in
    let next = c.args.next.now in
    let at = c.sector.ensures ∙ ap (λ n. 8 * n) c.slot.ensures in
    goes_on slot one next good is old (omega (arith, (g.met.D.Disk.well_formed c.args.disk.now).size_is, c.requires)) before (g.D.Disk.state c.write.new.self)
    (one_sector next c.sector.result c.write_super.new.sector old (g.D.Disk.state c.write.new.self) at c.write_super.ensures c.write_super.array_long c.write.ensures.any)

pub returns-clause-outside : goal.returns-clause-outside
returns-clause-outside g c =
    let old = g.D.Disk.state c.args.disk.now in
    let next = c.args.next.now in
    let at = c.sector.ensures ∙ ap (λ n. 8 * n) c.slot.ensures in
    goes_on_outside (starts_outside (super_sector next) 1 old)
    (one_sector next c.sector.result c.write_super.new.sector old (g.D.Disk.state c.write.new.self) at c.write_super.ensures c.write_super.array_long c.write.ensures.any) (omega arith) (omega arith)

pub returns-clause-ok : goal.returns-clause-ok
returns-clause-ok g c =
    let old = g.D.Disk.state c.args.disk.now in
    let next = c.args.next.now in
    let at = c.sector.ensures ∙ ap (λ n. 8 * n) c.slot.ensures in
    on_ok_weaker c.write.result (λ e. wrote next c.sector.result c.write_super.new.sector old (g.D.Disk.state c.write.new.self) at c.write_super.ensures c.write_super.array_long e) c.write.ensures.ok

pub returns-clause-chosen : goal.returns-clause-chosen
returns-clause-chosen g c =
    let old = g.D.Disk.state c.args.disk.now in
    let next = c.args.next.now in
    on_ok_weaker c.write.result
    (λ e slot one good is before. subst (λ (d : DiskState). Chooses (seen d.cells) (Ok next)) (sym e)
    (reads slot one next good is old (omega (arith, (g.met.D.Disk.well_formed c.args.disk.now).size_is, c.requires)) before))
    (returns-clause-ok g c)
