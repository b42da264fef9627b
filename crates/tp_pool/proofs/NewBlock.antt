-- A block of a volume that is written to a new data block.
use Rattle.std.proofs.Common.{◌≡◌, ◌≢◌, inl, inr, ℕ, ◌+◌, ◌*◌, ◌/◌, ◌%◌, ◌<◌, ◌≤◌, Bool, Option, None, Some, List, [], ◌∷◌, length, refl, sym, ◌∙◌, ap, subst, arith, true, true≢false}
use Rattle.std.specs.Prelude.{IsTrue, MatchOption}
use Rattle.std.specs.Option.{IsSome, is_some}
use Rattle.std.proofs.lemmas.Bool.{cases_eq, false≢true}
use Rattle.std.proofs.lemmas.List.{length-map}
use Rattle.std.proofs.lemmas.Option.{none-some}
use Rattle.tp_sharing.proofs.Told.{size_changes}
use Rattle.tp_model.specs.Geometry.{Geometry, data_sector, sectors_of_image}
use Rattle.tp_model.specs.Sectors.{Sector, overlaid, sectors_of}
use Rattle.tp_model.specs.Disk.{DiskState, IsSameDisk, IsWellFormed, after_write, newest, seen}
use Rattle.tp_model.specs.DiskStops.{LeavesOutside, SameOutside}
use Rattle.tp_model.proofs.DiskLaws.{length-seen, seen-written}
use Rattle.tp_model.proofs.DiskStopLaws.{PartlyOverlaid-seen, SameOutside-partly}
use Rattle.tp_blocks.specs.Filled.{Fills, IsKnown, base_of}
use Rattle.tp_sharing.specs.Volumes.{BlockSlot, DevicesAscend, Volumes, changed_at, device_of, slot_of, with_place, with_slot}
use Rattle.tp_sharing.proofs.Changes.{altered, changed_here, changed_later, slot_changes}
use Rattle.tp_sharing.proofs.Slots.{device_here, device_later}
use Rattle.tp_stored.specs.Contents.{Contents, SameData}
use Rattle.tp_meta.specs.Metadata.{KeepsMetadata}
use Rattle.tp_shown.specs.Shown.{Overwrites}
use Rattle.tp_pool.specs.Writing.{HasWrittenPart, Mapped, takes_block}
use Rattle.tp_pool.proofs.Fetching.{block_end}
use Rattle.tp_pool.proofs.Halves.{keeps_outside}
use Rattle.tp_pool.proofs.Overwriting.{overwrites_new}
use Rattle.tp_pool.proofs.Taken.{free_after, taken_before}

-- the same devices are there after a change of one of them
pub same_devices : (q i : ℕ) (f : List BlockSlot → List BlockSlot) (ds : Volumes) → is_some (device_of i (changed_at q f ds)) ≡ is_some (device_of i ds)
same_devices q i f [] = refl
same_devices q i f (d ∷ ds) = elim (cases_eq d.id q) [
  | inl e ↦
      ap (λ l. is_some (device_of i l)) (changed_here q f d ds e)
      ∙ elim (cases_eq d.id i) [
        | inl s ↦ ap is_some (device_here i (altered f d) ds s) ∙ sym (ap is_some (device_here i d ds s))
        | inr n ↦ ap is_some (device_later i (altered f d) ds n) ∙ sym (ap is_some (device_later i d ds n))
      ]
  | inr m ↦
      ap (λ l. is_some (device_of i l)) (changed_later q f d ds m)
      ∙ elim (cases_eq d.id i) [
        | inl s ↦ ap is_some (device_here i d (changed_at q f ds) s) ∙ sym (ap is_some (device_here i d ds s))
        | inr n ↦ ap is_some (device_later i d (changed_at q f ds) n) ∙ (same_devices q i f ds ∙ sym (ap is_some (device_later i d ds n)))
      ]
]

pub there : {A : Type 0} (o : Option A) → IsSome o → (x : A) × (o ≡ Some x)
there None s = absurd (false≢true s)
there (Some x) s = (x, refl)

-- the data blocks lie behind the metadata blocks
pub data_high : (g : Geometry) (p offset : ℕ) → 8 * g.metadata_blocks ≤ data_sector g p + offset
data_high g p offset = omega arith

pub on_disk : (g : Geometry) (d : DiskState) (p : ℕ) → p < g.data_blocks → IsWellFormed d.size d.cells → sectors_of_image g ≤ d.size → data_sector g p + g.block_sectors ≤ length (seen d.cells)
on_disk g d p lt formed room = omega (arith, block_end g p lt, length-seen formed, room)

known : (from : Option ℕ) (honest : Bool) → IsTrue honest → IsKnown from honest
known None honest h = tt
known (Some p) honest h = h

filled_outside : (at n : ℕ) (values : List Sector) (mid new : DiskState) → new ≡ after_write at values mid → at + length values ≤ length mid.cells → length values ≤ n → SameOutside at n (seen mid.cells) (seen new.cells)
filled_outside at n values mid new e fits short =
    let low : at ≤ at = omega arith in
    let within : at + length values ≤ at + n = omega (arith, short) in
    subst (λ (d : DiskState). SameOutside at n (seen mid.cells) (seen d.cells)) (sym e) (SameOutside-partly at n (PartlyOverlaid-seen at values mid.cells fits) low within)

pub none_match : {A : Type 0} (P : Type 0) (Q : A → Type 0) (o : Option A) → o ≡ None → MatchOption o P Q → P
none_match P Q None e m = m
none_match P Q (Some x) e m = absurd (none-some x (sym e))

pub fills_same : (g h : Geometry) (n m place : ℕ) (bytes : List ℕ) (from : Option ℕ) (old new : DiskState) → g ≡ h → n ≡ m → Fills g place n bytes from old new → Fills h place m bytes from old new
fills_same g h n m place bytes from old new e f w = subst (λ (x : Geometry). Fills x place m bytes from old new) e (subst (λ k. Fills g place k bytes from old new) f w)

module _ {M : Type 0} (geometry : M → Geometry) (stands : M → DiskState → Contents → Contents → Type 0) (marks : M → List Bool) (id sector place : ℕ) (bytes : List ℕ)
    (before after : M) (old mid new : DiskState) (now kept : Contents) (from : Option ℕ) where
  abbrev g : Geometry
  g = geometry before

  abbrev block : ℕ
  block = sector / g.block_sectors

  abbrev next : Volumes
  next = with_slot id (record { block = block; place = place }) now.volumes

  pub written_new : ((c : Contents) (a b : DiskState) → KeepsMetadata (geometry after) a b → stands after a c kept → stands after b c kept)
      → ((c : Contents) → stands after mid c kept → DevicesAscend 0 c.volumes × IsTrue mid.is_honest)
      → geometry after ≡ g → IsSome (device_of id now.volumes) → Mapped geometry stands marks id block place before after mid now kept → SameData g (seen old.cells) (seen mid.cells)
      → Fills g place (sector % g.block_sectors) bytes from mid new → from ≡ slot_of id block now.volumes
      → LeavesOutside (data_sector g place) g.block_sectors mid new → IsSameDisk mid new → sectors_of_image g ≤ mid.size → IsWellFormed mid.size mid.cells
      → 0 < length (sectors_of bytes) → sector % g.block_sectors + length (sectors_of bytes) ≤ g.block_sectors
      → HasWrittenPart geometry stands marks id block 1 sector (sectors_of bytes) true before after old new now kept
  written_new frame within geo device map same fills from_is left same_disk room formed some fits =
      let free = map.0 in
      let meta_used = map.1.0 in
      let standing = map.1.1 in
      let marks_are = map.2 in
      let w = within (record now { volumes = next; meta_used = meta_used }) standing in
      let ascend = w.0 in
      let honest = w.1 in
      let at = data_sector g place in
      let high : 8 * g.metadata_blocks ≤ at = omega arith in
      let long = on_disk g mid place free.inside formed room in
      let is : seen new.cells ≡ overlaid at fills.values (seen mid.cells) = ap (λ (d : DiskState). seen d.cells) fills.written ∙ seen-written at fills.values mid.cells in
      let d = there (device_of id now.volumes) device in
      let x : BlockSlot = record { block = block; place = place } in
      let here : slot_of id block next ≡ Some place = slot_changes.with_same id x d.0 now.volumes d.1 in
      let others : (i b : ℕ) → (((i ≡ id) × (b ≡ block)) → ⊥) → slot_of i b next ≡ slot_of i b now.volumes = λ i b n. slot_changes.with_other id x i b now.volumes n in
      let outside : SameOutside at g.block_sectors (seen mid.cells) (seen new.cells) =
      filled_outside at g.block_sectors fills.values mid new fills.written (omega (arith, fills.whole, long, length-map mid.cells newest)) (omega (arith, fills.whole)) in
      let keeps : KeepsMetadata g mid new = keeps_outside g at g.block_sectors high mid new same_disk left outside in
      record {
        volumes = next;
        meta_used = meta_used;
        standing = frame (record now { volumes = next; meta_used = meta_used }) mid new (subst (λ (y : Geometry). KeepsMetadata y mid new) (sym geo) keeps) standing;
        overwrites =
            subst (Overwrites g id sector (sectors_of bytes) now.volumes next (seen old.cells)) (sym is)
            (overwrites_new g id sector (sectors_of bytes) now.volumes next place free.free.0 some fits
            (λ i s. sym (same_devices id i (with_place x) now.volumes) ∙ s) (λ i s. same_devices id i (with_place x) now.volumes ∙ s) (λ i. size_changes.slots id i (with_place x) now.volumes) here others
            (seen old.cells) (seen mid.cells) same fills.values fills.whole
            (fills.are (known from mid.is_honest honest) ∙ ap (λ o. overlaid (sector % g.block_sectors) (sectors_of bytes) (base_of g (seen mid.cells) o)) from_is) long);
        in_place = λ same. absurd (free.free.0 id block (sym same ∙ here));
        still = λ none. absurd (true≢false none);
        others = λ other far t.
            let n : other ≢ block = λ is. elim far [ inl below ↦ absurd (omega (arith, below, is)) | inr past ↦ absurd (omega (arith, past, is)) ] in
            taken_before id block now.volumes next place here others ascend free.free.0 (marks before) other n
            (subst (λ (m : List Bool). IsTrue (takes_block id next m other)) marks_are t);
        free = free_after id block now.volumes next place here others ascend free.free.0 g kept.volumes;
      }
