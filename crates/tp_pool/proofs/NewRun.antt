-- Whole blocks of a volume that are written to new data blocks, which are mapped one after another before their sectors are written.
use Rattle.std.proofs.Common.{◌≡◌, ◌⊎◌, inl, inr, ℕ, zero, suc, ◌+◌, ◌-◌, ◌*◌, ◌/◌, ◌%◌, ◌<◌, ◌≤◌, Bool, Some, List, [], length, take, drop, refl, sym, ◌∙◌, ap, subst, arith, true, false, true≢false}
use Rattle.std.specs.Prelude.{IsTrue, slice_index_or}
use Rattle.std.specs.Option.{IsSome, is_some}
use Rattle.std.proofs.Math.Nat.{mul-le-mul_right}
use Rattle.std.proofs.lemmas.Bool.{cases_eq, cases_lt}
use Rattle.std.proofs.lemmas.List.{get_or-drop, get_or-take, get_or_default, length-drop, length-take-le}
use Rattle.std.proofs.lemmas.Nat.{div-add-mod'}
use Rattle.std.proofs.lemmas.Option.{same_Some}
use Rattle.tp_sharing.proofs.Told.{size_changes}
use Rattle.tp_model.specs.Geometry.{Geometry, data_sector, sectors_of_image}
use Rattle.tp_model.specs.Sectors.{Sector, overlaid, sector_at}
use Rattle.tp_model.specs.Calls.{Call, Write, touches}
use Rattle.tp_model.specs.Disk.{DiskState, FaultHasCause, IsWellFormed, Writes, after_write, seen}
use Rattle.tp_model.specs.DiskStops.{LeavesOnly}
use Rattle.tp_model.proofs.DiskLaws.{length-seen, sector_at-overlaid, sector_at-overlaid_above, sector_at-overlaid_below, seen-written}
use Rattle.tp_model.proofs.DiskStopLaws.{goes_on_outside, starts_outside}
use Rattle.tp_sharing.specs.Volumes.{BlockSlot, DevicesAscend, OtherSlot, Unused, Volumes, device_of, slot_of, with_place, with_slot, size_of}
use Rattle.tp_sharing.proofs.Changes.{slot_changes}
use Rattle.tp_mapping.specs.Mapping.{free_places}
use Rattle.tp_stored.specs.Contents.{Contents, SameData}
use Rattle.tp_meta.specs.Metadata.{IsChanging, KeepsMetadata, Ran}
use Rattle.tp_shown.specs.Shown.{Overwrites, own_blocks, value_of}
use Rattle.tp_shown.proofs.Overwritten.{overwrites_by, written_at}
use Rattle.tp_shown.proofs.Values.{one_place}
use Rattle.tp_pool.specs.Writing.{HasBlock, HasWrittenPart, IsHalf, LeavesHalf, Mapped, Reaches, takes_block}
use Rattle.tp_pool.proofs.Edges.{touch_by}
use Rattle.tp_pool.proofs.Following.{from_first, up_to_last}
use Rattle.tp_pool.proofs.Halves.{half_changing, half_goes_on, keeps_writes, left_run, lies_in}
use Rattle.tp_pool.proofs.NewBlock.{same_devices, there}
use Rattle.tp_pool.proofs.Overwriting.{apart, written_inside}
use Rattle.tp_pool.proofs.Ranges.{own_same}
use Rattle.tp_pool.proofs.Runs.{ran_at_most, ran_joins, write_ran}
use Rattle.tp_pool.proofs.Taken.{free_after, taken_before}

abbrev Image : Type 0
Image = List Sector

-- a data block that is none of a run lies apart from it
apart_from : (g : Geometry) (place k p offset : ℕ) → offset < g.block_sectors → ((j : ℕ) → j < k → p ≡ place + j → ⊥)
    → (data_sector g p + offset < data_sector g place) ⊎ (data_sector g place + k * g.block_sectors ≤ data_sector g p + offset)
apart_from g place k p offset small none = elim (cases_lt (data_sector g p + offset) (data_sector g place)) [
  | inl lt ↦ inl lt
  | inr ge ↦ elim (cases_lt (data_sector g p + offset) (data_sector g place + k * g.block_sectors)) [
    | inl lt ↦
        let w = lies_in g place k (data_sector g p + offset) ge lt in
        let same : p * g.block_sectors + offset ≡ (place + w.0) * g.block_sectors + w.1 = omega (arith, w.4) in
        absurd (none w.0 w.2 (one_place g.block_sectors p (place + w.0) offset w.1 small w.3 same).0)
    | inr past ↦ inr past
  ]
]

-- ---- blocks that were mapped

module _ {M : Type 0} (geometry : M → Geometry) (stands : M → DiskState → Contents → Contents → Type 0) (marks : M → List Bool) (g : Geometry) (id first : ℕ) (sectors : List Sector) (n : ℕ) where
  -- Of n whole blocks the first ones were mapped, as many as `mapped`. Those before `from` were written; from there on and up to `to` they have data
  -- blocks that follow one another from `place` on, and the next one has `last`.
  pub record AreMapped (from to mapped place last : ℕ) (before after : M) (old new : DiskState) (now kept : Contents) : Type 0 where
    pub volumes : Volumes
    pub meta_used : ℕ
    pub standing : stands after new (record now { volumes = volumes; meta_used = meta_used }) kept
    pub devices : (i : ℕ) → is_some (device_of i volumes) ≡ is_some (device_of i now.volumes)
    pub sizes : (i : ℕ) → size_of i volumes ≡ size_of i now.volumes
    pub others : (i b : ℕ) → (((i ≡ id) × (first ≤ b) × (b < first + mapped)) → ⊥) → slot_of i b volumes ≡ slot_of i b now.volumes
    -- no other slot has one of the data blocks, and none had it at the last commit
    pub own : (j : ℕ) → j < mapped
        → (p : ℕ) × (slot_of id (first + j) volumes ≡ Some p) × (OtherSlot id (first + j) p volumes → ⊥) × Unused p kept.volumes
    pub pending : (j : ℕ) → from ≤ j → j < to → slot_of id (first + j) volumes ≡ Some (place + (j - from))
    pub behind : to < mapped → slot_of id (first + to) volumes ≡ Some last
    pub other_data : (i b p offset : ℕ) → (((i ≡ id) × (first ≤ b) × (b < first + n)) → ⊥) → slot_of i b now.volumes ≡ Some p
        → offset < g.block_sectors
        → sector_at (seen new.cells) (data_sector g p + offset) ≡ sector_at (seen old.cells) (data_sector g p + offset)
    pub own_data : (j p offset : ℕ) → j < from → slot_of id (first + j) volumes ≡ Some p → offset < g.block_sectors
        → sector_at (seen new.cells) (data_sector g p + offset) ≡ sector_at sectors (j * g.block_sectors + offset)
    pub moved : 0 < mapped → slot_of id (first) volumes ≡ slot_of id (first) now.volumes → ⊥
    pub takes : (other : ℕ) → (((first ≤ other) × (other < first + mapped)) → ⊥)
        → IsTrue (takes_block id volumes (marks after) other) → IsTrue (takes_block id now.volumes (marks before) other)
    pub free : free_places g now.volumes kept.volumes ≤ free_places g volumes kept.volumes + mapped

  -- none was mapped
  abbrev pub none_mapped : (place : ℕ) (before : M) (old : DiskState) (now kept : Contents) → stands before old now kept → AreMapped 0 0 0 place 0 before before old old now kept
  none_mapped place before old now kept stood = record {
    volumes = now.volumes;
    meta_used = now.meta_used;
    standing = stood;
    devices = λ i. refl;
    sizes = λ i. refl;
    others = λ i b apart. refl;
    own = λ j lt. absurd (omega (arith, lt));
    pending = λ j low lt. absurd (omega (arith, lt));
    behind = λ lt. absurd (omega (arith, lt));
    other_data = λ i b p offset apart e small. refl;
    own_data = λ j p offset lt e small. absurd (omega (arith, lt));
    moved = λ lt. absurd (omega (arith, lt));
    takes = λ other apart t. t;
    free = omega arith;
  }

  -- the next one follows those before it
  pub joined : (from mapped next place last : ℕ) (before after : M) (old new : DiskState) (now kept : Contents) → next ≡ mapped + 1 → from ≤ mapped → last ≡ place + (mapped - from)
      → AreMapped from mapped next place last before after old new now kept → AreMapped from next next place 0 before after old new now kept
  joined from mapped next place last before after old new now kept e low follows a = record {
    volumes = a.volumes;
    meta_used = a.meta_used;
    standing = a.standing;
    devices = a.devices;
    sizes = a.sizes;
    others = a.others;
    own = a.own;
    pending = λ j up lt. elim (cases_eq j mapped) [
      | inl here ↦ ap (λ k. slot_of id (first + k) a.volumes) here ∙ (a.behind (omega (arith, e)) ∙ ap Some (follows ∙ ap (λ k. place + (k - from)) (sym here)))
      | inr other ↦ a.pending j up (omega (arith, lt, e, other))
    ];
    behind = λ lt. absurd (omega (arith, lt));
    other_data = a.other_data;
    own_data = a.own_data;
    moved = a.moved;
    takes = a.takes;
    free = a.free;
  }

  -- ---- one more is mapped

  module _ (from mapped next place last q : ℕ) (before mid after : M) (old between new : DiskState) (now kept : Contents) (e : next ≡ mapped + 1) (more : mapped < n) (low : from ≤ mapped)
      (a : AreMapped from mapped mapped place last before mid old between now kept) (device : IsSome (device_of id now.volumes))
      (map : Mapped geometry stands marks id (first + mapped) q mid after new (record now { volumes = a.volumes; meta_used = a.meta_used }) kept)
      (steady : SameData g (seen between.cells) (seen new.cells)) (rises : (c : Contents) → stands after new c kept → DevicesAscend 0 c.volumes) where
    abbrev x : BlockSlot
    x = record { block = first + mapped; place = q }

    abbrev after_it : Volumes
    after_it = with_slot id x a.volumes

    ascend : DevicesAscend 0 after_it
    ascend = rises (record now { volumes = after_it; meta_used = map.1.0 }) map.1.1

    unused_now : Unused q a.volumes
    unused_now = map.0.free.0

    its_slot : slot_of id (first + mapped) after_it ≡ Some q
    its_slot =
        let s : IsSome (device_of id a.volumes) = a.devices id ∙ device in
        let d = there (device_of id a.volumes) s in
        slot_changes.with_same id x d.0 a.volumes d.1

    other_slots : (i b : ℕ) → (((i ≡ id) × (b ≡ first + mapped)) → ⊥) → slot_of i b after_it ≡ slot_of i b a.volumes
    other_slots i b apart = slot_changes.with_other id x i b a.volumes apart

    -- a block that was mapped before keeps its slot
    earlier : (j : ℕ) → j < mapped → slot_of id (first + j) after_it ≡ slot_of id (first + j) a.volumes
    earlier j lt = other_slots id (first + j) (λ t. absurd (omega (arith, lt, t.1)))

    alone : (j p : ℕ) → j < mapped → (OtherSlot id (first + j) p a.volumes → ⊥) → slot_of id (first + j) a.volumes ≡ Some p → OtherSlot id (first + j) p after_it → ⊥
    alone j p lt none mine o = elim (cases_eq o.0 id) [
      | inr far ↦ none (o.0, o.1, sym (other_slots o.0 o.1 (λ t. far t.0)) ∙ o.2, o.3)
      | inl here ↦ elim (cases_eq o.1 (first + mapped)) [
        | inr far ↦ none (o.0, o.1, sym (other_slots o.0 o.1 (λ t. far t.1)) ∙ o.2, o.3)
        | inl it ↦
            let is : p ≡ q = same_Some p q (sym o.2 ∙ ((λ t. slot_of (here t) (it t) after_it) ∙ its_slot)) in
            unused_now id (first + j) (mine ∙ ap Some is)
      ]
    ]

    owned : (j : ℕ) → j < next → (p : ℕ) × (slot_of id (first + j) after_it ≡ Some p) × (OtherSlot id (first + j) p after_it → ⊥) × Unused p kept.volumes
    owned j lt = elim (cases_eq j mapped) [
      | inl here ↦
          subst (λ k. (p : ℕ) × (slot_of id (first + k) after_it ≡ Some p) × (OtherSlot id (first + k) p after_it → ⊥) × Unused p kept.volumes) (sym here)
          (q, its_slot, (λ o. unused_now o.0 o.1 (sym (other_slots o.0 o.1 o.3) ∙ o.2)), map.0.free.1)
      | inr other ↦
          let small : j < mapped = omega (arith, lt, e, other) in
          let w = a.own j small in
          (w.0, earlier j small ∙ w.1, alone j w.0 small w.2 w.1, w.3)
    ]

    stays : (i : ℕ) → 8 * g.metadata_blocks ≤ i → sector_at (seen new.cells) i ≡ sector_at (seen between.cells) i
    stays i high = steady.same i high

    moved_still : (k : ℕ) → mapped ≡ k → slot_of id first after_it ≡ slot_of id first now.volumes → ⊥
    moved_still zero none is =
        let z : first + mapped ≡ first = omega (arith, none) in
        let was : slot_of id first a.volumes ≡ slot_of id first now.volumes = a.others id first (λ t. absurd (omega (arith, t.2, none))) in
        unused_now id first (was ∙ (sym is ∙ (ap (λ b. slot_of id b after_it) (sym z) ∙ its_slot)))
    moved_still (suc k) some is =
        let z : first + 0 ≡ first = omega arith in
        let pos : 0 < mapped = omega (arith, some) in
        a.moved pos (sym (ap (λ b. slot_of id b a.volumes) z) ∙ (sym (earlier 0 pos) ∙ (ap (λ b. slot_of id b after_it) z ∙ is)))

    pub one_mapped : AreMapped from mapped next place q before after old new now kept
    one_mapped = record {
      volumes = after_it;
      meta_used = map.1.0;
      standing = map.1.1;
      devices = λ i. same_devices id i (with_place x) a.volumes ∙ a.devices i;
      sizes = λ i. size_changes.slots id i (with_place x) a.volumes ∙ a.sizes i;
      others = λ i b apart.
          other_slots i b (λ t. apart (t.0, omega (arith, t.1), omega (arith, t.1, e))) ∙ a.others i b (λ t. apart (t.0, t.1, omega (arith, t.2, e)));
      own = owned;
      pending = λ j up lt. earlier j lt ∙ a.pending j up lt;
      behind = λ lt. its_slot;
      other_data = λ i b p offset apart is small. stays (data_sector g p + offset) (omega arith) ∙ a.other_data i b p offset apart is small;
      own_data = λ j p offset lt is small.
          let lt_too : j < mapped = omega (arith, lt, low) in
          stays (data_sector g p + offset) (omega arith) ∙ a.own_data j p offset lt (sym (earlier j lt_too) ∙ is) small;
      moved = λ lt is. moved_still mapped refl is;
      takes = λ other apart t.
          let far : other ≡ first + mapped → ⊥ = λ it. apart (omega (arith, it), omega (arith, it, e)) in
          a.takes other (λ w. apart (w.0, omega (arith, w.1, e)))
          (taken_before id (first + mapped) a.volumes after_it q its_slot other_slots ascend unused_now (marks mid) other far (subst (λ (m : List Bool). IsTrue (takes_block id after_it m other)) map.2 t));
      free =
          let less = free_after id (first + mapped) a.volumes after_it q its_slot other_slots ascend unused_now g kept.volumes in
          omega (arith, less, a.free, e);
    }

  -- ---- a run of them is written

  module _ (from to mapped place last : ℕ) (before after : M) (old between new : DiskState) (now kept : Contents) (low : from ≤ to) (high : to ≤ mapped) (most : mapped ≤ n) (one : mapped ≤ to + 1)
      (long : length sectors ≡ n * g.block_sectors) (a : AreMapped from to mapped place last before after old between now kept) where
    abbrev part : Image
    part = take (g.block_sectors * to - g.block_sectors * from) (drop (g.block_sectors * from) sectors)

    long_part : length part ≡ (to - from) * g.block_sectors
    long_part =
        let up : g.block_sectors * to ≤ n * g.block_sectors = let w : to * g.block_sectors ≤ n * g.block_sectors = mul-le-mul_right g.block_sectors (omega (arith, high, most)) in let e : g.block_sectors * to ≡ to * g.block_sectors = omega arith in omega (arith, w, e) in
        let some : from * g.block_sectors ≤ to * g.block_sectors = mul-le-mul_right g.block_sectors low in
        let diff : (to - from) * g.block_sectors + from * g.block_sectors ≡ to * g.block_sectors =
        let s : to - from + from ≡ to = omega (arith, low) in
        let d : (to - from + from) * g.block_sectors ≡ (to - from) * g.block_sectors + from * g.block_sectors = omega arith in
        sym d ∙ ap (λ k. k * g.block_sectors) s in
        let rest = length-drop (g.block_sectors * from) sectors in
        let l = length-take-le (g.block_sectors * to - g.block_sectors * from) (drop (g.block_sectors * from) sectors) (omega (arith, rest, long, up)) in
        omega (arith, l, diff)

    fresh : (j : ℕ) → j < to - from → Unused (place + j) kept.volumes
    fresh j lt =
        let w = a.own (from + j) (omega (arith, lt, high)) in
        let k : from + j - from ≡ j = omega arith in
        let is : w.0 ≡ place + j = same_Some w.0 (place + j) (sym w.1 ∙ (a.pending (from + j) (omega arith) (omega (arith, lt)) ∙ ap (λ m. Some (place + m)) k)) in
        subst (λ p. Unused p kept.volumes) is w.3

    pub left_pending : (call : Call) (volumes : Volumes) → LeavesOnly old between (IsHalf g call id volumes kept old.cells) → Writes (data_sector g place) part between new
        → LeavesOnly old new (IsHalf g call id volumes kept old.cells)
    left_pending call volumes r writes =
        let at = data_sector g place in
        let low : at ≤ at = omega arith in
        let fits : at + length part ≤ at + (to - from) * g.block_sectors = omega (arith, long_part) in
        left_run g call id volumes kept place (to - from) fresh old between new r (goes_on_outside (starts_outside at ((to - from) * g.block_sectors) between) writes low fits)

    module _ (frame : (c : Contents) (x y : DiskState) → KeepsMetadata g x y → stands after x c kept → stands after y c kept) (is : new ≡ after_write (data_sector g place) part between)
        (writes : Writes (data_sector g place) part between new)
        (room : (to - from) * g.block_sectors + data_sector g place ≤ length (seen between.cells)) where
      cells : seen new.cells ≡ overlaid (data_sector g place) part (seen between.cells)
      cells = ap (λ (d : DiskState). seen d.cells) is ∙ seen-written (data_sector g place) part between.cells

      -- a data block of another slot is not written
      stays_there : (i b p offset : ℕ) → slot_of i b a.volumes ≡ Some p → offset < g.block_sectors → (((i ≡ id) × (first + from ≤ b) × (b < first + to)) → ⊥)
          → sector_at (seen new.cells) (data_sector g p + offset) ≡ sector_at (seen between.cells) (data_sector g p + offset)
      stays_there i b p offset slot small far =
          let none : (j : ℕ) → j < to - from → p ≡ place + j → ⊥ = λ j lt same.
          let w = a.own (from + j) (omega (arith, lt, high)) in
          let k : from + j - from ≡ j = omega arith in
          let mine : slot_of id (first + (from + j)) a.volumes ≡ Some (place + j) = a.pending (from + j) (omega arith) (omega (arith, lt)) ∙ ap (λ m. Some (place + m)) k in
          let its : w.0 ≡ place + j = same_Some w.0 (place + j) (sym w.1 ∙ mine) in
          w.2 (i, b, slot ∙ ap Some (same ∙ sym its), λ t. far (t.0, omega (arith, t.1), omega (arith, t.1, lt))) in
          ap (λ (l : Image). sector_at l (data_sector g p + offset)) cells
          ∙ elim (apart_from g place (to - from) p offset small none) [
            | inl lt ↦ sector_at-overlaid_below (data_sector g place) part (seen between.cells) (data_sector g p + offset) lt
            | inr past ↦ sector_at-overlaid_above (data_sector g place) part (seen between.cells) (data_sector g p + offset) (omega (arith, past, long_part))
          ]

      -- and those of the run have the sectors
      written_there : (j p offset : ℕ) → from ≤ j → j < to → slot_of id (first + j) a.volumes ≡ Some p → offset < g.block_sectors
          → sector_at (seen new.cells) (data_sector g p + offset) ≡ sector_at sectors (j * g.block_sectors + offset)
      written_there j p offset up lt slot small =
          let is_there : p ≡ place + (j - from) = same_Some p (place + (j - from)) (sym slot ∙ a.pending j up lt) in
          let k = (j - from) * g.block_sectors + offset in
          let split : (place + (j - from)) * g.block_sectors ≡ place * g.block_sectors + (j - from) * g.block_sectors = omega arith in
          let lies : data_sector g (place + (j - from)) + offset ≡ data_sector g place + k = omega (arith, split) in
          let below : (j - from + 1) * g.block_sectors ≤ (to - from) * g.block_sectors = mul-le-mul_right g.block_sectors (omega (arith, up, lt)) in
          let next : (j - from + 1) * g.block_sectors ≡ (j - from) * g.block_sectors + g.block_sectors = omega arith in
          let inside : k < (to - from) * g.block_sectors = omega (arith, below, next, small) in
          let sum : (j - from) * g.block_sectors + from * g.block_sectors ≡ j * g.block_sectors =
          let s : j - from + from ≡ j = omega (arith, up) in
          let d : (j - from + from) * g.block_sectors ≡ (j - from) * g.block_sectors + from * g.block_sectors = omega arith in
          sym d ∙ ap (λ m. m * g.block_sectors) s in
          let comm : g.block_sectors * from ≡ from * g.block_sectors = omega arith in
          let from_start : g.block_sectors * from + k ≡ j * g.block_sectors + offset = omega (arith, sum, comm) in
          let all : k < g.block_sectors * to - g.block_sectors * from =
          let some : (to - from) * g.block_sectors + from * g.block_sectors ≡ to * g.block_sectors =
          let s : to - from + from ≡ to = omega (arith, low) in
          let d : (to - from + from) * g.block_sectors ≡ (to - from) * g.block_sectors + from * g.block_sectors = omega arith in
          sym d ∙ ap (λ m. m * g.block_sectors) s in
          let comm_to : g.block_sectors * to ≡ to * g.block_sectors = omega arith in
          omega (arith, inside, some, comm, comm_to) in
          ap (λ (l : Image). sector_at l (data_sector g p + offset)) cells
          ∙ (ap (λ m. sector_at (overlaid (data_sector g place) part (seen between.cells)) (data_sector g m + offset)) is_there
          ∙ (ap (sector_at (overlaid (data_sector g place) part (seen between.cells))) lies
          ∙ (sector_at-overlaid (data_sector g place) part (seen between.cells) k (data_sector g place + k) refl (omega (arith, inside, long_part)) (omega (arith, inside, room))
          ∙ (get_or-take (g.block_sectors * to - g.block_sectors * from) (drop (g.block_sectors * from) sectors) k [] all
          ∙ (get_or-drop (g.block_sectors * from) sectors k [] ∙ ap (sector_at sectors) from_start)))))

      pub run_written : AreMapped to mapped mapped last 0 before after old new now kept
      run_written = record {
        volumes = a.volumes;
        meta_used = a.meta_used;
        standing = frame (record now { volumes = a.volumes; meta_used = a.meta_used }) between new (keeps_writes g (data_sector g place) (length part) (omega arith) part between new writes (omega arith)) a.standing;
        devices = a.devices;
        sizes = a.sizes;
        others = a.others;
        own = a.own;
        pending = λ j up lt.
            let here : j ≡ to = omega (arith, up, lt, one) in
            let zero_more : last ≡ last + (j - to) = omega (arith, here) in
            ap (λ k. slot_of id (first + k) a.volumes) here ∙ (a.behind (omega (arith, up, lt)) ∙ ap Some zero_more);
        behind = λ lt. absurd (omega (arith, lt));
        other_data = λ i b p offset far slot small.
            let was : slot_of i b a.volumes ≡ slot_of i b now.volumes = a.others i b (λ t. far (t.0, t.1, omega (arith, t.2, most))) in
            stays_there i b p offset (was ∙ slot) small (λ t. far (t.0, omega (arith, t.1), omega (arith, t.2, high, most))) ∙ a.other_data i b p offset far slot small;
        own_data = λ j p offset lt slot small. elim (cases_lt j from) [
          | inl less ↦
              stays_there id (first + j) p offset slot small (λ t. absurd (omega (arith, t.1, less))) ∙ a.own_data j p offset less slot small
          | inr up ↦ written_there j p offset up lt slot small
        ];
        moved = a.moved;
        takes = a.takes;
        free = a.free;
      }

-- ---- all were written

module _ {M : Type 0} (geometry : M → Geometry) (stands : M → DiskState → Contents → Contents → Type 0) (marks : M → List Bool) (id sector : ℕ) (sectors : List Sector) (n place last : ℕ) (before after : M)
    (old new : DiskState) (now kept : Contents) (some : 0 < n) (pos : 0 < (geometry before).block_sectors) (starts : sector % (geometry before).block_sectors ≡ 0)
    (long : length sectors ≡ n * (geometry before).block_sectors) (a : AreMapped geometry stands marks (geometry before) id (sector / (geometry before).block_sectors) sectors n n n n place last before after old new now kept) where
  abbrev g : Geometry
  g = geometry before

  abbrev first : ℕ
  first = sector / g.block_sectors

  start : sector ≡ first * g.block_sectors
  start = let s : first * g.block_sectors + sector % g.block_sectors ≡ sector = div-add-mod' sector g.block_sectors in omega (arith, s, starts)

  -- the sectors touch these blocks
  among : (b : ℕ) → touches g sector (length sectors) b ≡ true → (first ≤ b) × (b < first + n)
  among b t = (from_first g pos sector (length sectors) b t, up_to_last g pos sector (length sectors) n b (omega (arith, starts, long)) t)

  touched : (b : ℕ) → first ≤ b → b < first + n → touches g sector (length sectors) b ≡ true
  touched b low high =
      let up : first * g.block_sectors ≤ b * g.block_sectors = mul-le-mul_right g.block_sectors low in
      let below : (b + 1) * g.block_sectors ≤ (first + n) * g.block_sectors = mul-le-mul_right g.block_sectors (omega (arith, high)) in
      let next : (b + 1) * g.block_sectors ≡ b * g.block_sectors + g.block_sectors = omega arith in
      let sum : (first + n) * g.block_sectors ≡ first * g.block_sectors + n * g.block_sectors = omega arith in
      let least : 1 * g.block_sectors ≤ n * g.block_sectors = mul-le-mul_right g.block_sectors some in
      touch_by g pos b sector (length sectors) (omega (arith, long, least, pos)) (omega (arith, start, up, pos)) (omega (arith, start, below, next, sum, long, pos))

  own_sectors : (b p offset : ℕ) → IsTrue (touches g sector (length sectors) b) → slot_of id b a.volumes ≡ Some p → offset < g.block_sectors
      → sector_at (seen new.cells) (data_sector g p + offset) ≡ written_at sector sectors (b * g.block_sectors + offset) (value_of g (seen old.cells) (slot_of id b now.volumes) offset)
  own_sectors b p offset t slot small =
      let w = among b t in
      let j = b - first in
      let is : first + j ≡ b = omega (arith, w.0) in
      let lt : j < n = omega (arith, w.0, w.1) in
      let was = value_of g (seen old.cells) (slot_of id b now.volumes) offset in
      let split : (first + j) * g.block_sectors ≡ first * g.block_sectors + j * g.block_sectors = omega arith in
      let here : b * g.block_sectors ≡ first * g.block_sectors + j * g.block_sectors = ap (λ k. k * g.block_sectors) (sym is) ∙ split in
      let below : (j + 1) * g.block_sectors ≤ n * g.block_sectors = mul-le-mul_right g.block_sectors (omega (arith, lt)) in
      let next : (j + 1) * g.block_sectors ≡ j * g.block_sectors + g.block_sectors = omega arith in
      let k = b * g.block_sectors + offset in
      let from_start : k - sector ≡ j * g.block_sectors + offset = omega (arith, here, start) in
      let inside : j * g.block_sectors + offset < length sectors = omega (arith, below, next, small, long) in
      a.own_data j p offset lt (ap (λ m. slot_of id m a.volumes) is ∙ slot) small
      ∙ (get_or_default sectors (j * g.block_sectors + offset) [] was inside
      ∙ (ap (λ m. slice_index_or sectors m was) (sym from_start) ∙ sym (written_inside sector sectors k was (omega (arith, here, start)) (omega (arith, here, start, inside)))))

  pub whole_overwritten : Overwrites g id sector sectors now.volumes a.volumes (seen old.cells) (seen new.cells)
  whole_overwritten = overwrites_by g id sector sectors now.volumes a.volumes (seen old.cells) (seen new.cells) (record {
    devices = λ i s. sym (a.devices i) ∙ s;
    still = λ i s. a.devices i ∙ s;
    sizes = a.sizes;
    others = λ i b far. a.others i b (λ t. far (t.0, touched b t.1 t.2));
    own = λ b t.
        let w = among b t in
        let is : first + (b - first) ≡ b = omega (arith, w.0) in
        let o = a.own (b - first) (omega (arith, w.0, w.1)) in
        (o.0, ap (λ m. slot_of id m a.volumes) (sym is) ∙ o.1, subst (λ m. OtherSlot id m o.0 a.volumes → ⊥) is o.2);
    other_data = λ i b p offset far slot small. a.other_data i b p offset (λ t. far (t.0, touched b t.1 t.2)) slot small;
    own_data = own_sectors;
  })

  pub whole_written : HasWrittenPart geometry stands marks id first n sector sectors true before after old new now kept
  whole_written = record {
    volumes = a.volumes;
    meta_used = a.meta_used;
    standing = a.standing;
    overwrites = whole_overwritten;
    in_place = λ is. absurd (a.moved some is);
    still = λ none. absurd (true≢false none);
    others = λ other far t. a.takes other (λ w. elim far [ inl below ↦ absurd (omega (arith, w.0, below)) | inr past ↦ absurd (omega (arith, w.1, past)) ]) t;
    free = a.free;
  }

-- ---- step by step

-- some sectors of whole blocks are of one at least
pub some_whole : (n size rest count : ℕ) → n * size + rest ≡ count → rest ≡ 0 → 0 < count → 0 < n
some_whole zero size rest count all none some = absurd (omega (arith, all, none, some))
some_whole (suc n) size rest count all none some = omega arith

-- a block of a range of n whole blocks is one of so many blocks in which the range lies
pub block_inside : (g : Geometry) → 0 < g.block_sectors → (sector n blocks k : ℕ) → sector % g.block_sectors ≡ 0 → sector + n * g.block_sectors ≤ blocks * g.block_sectors → k < n
    → sector / g.block_sectors + k < blocks
block_inside g pos sector n blocks k starts within lt =
    let start : sector / g.block_sectors * g.block_sectors + sector % g.block_sectors ≡ sector = div-add-mod' sector g.block_sectors in
    let below : (k + 1) * g.block_sectors ≤ n * g.block_sectors = mul-le-mul_right g.block_sectors (omega (arith, lt)) in
    let sum : (sector / g.block_sectors + k) * g.block_sectors ≡ sector / g.block_sectors * g.block_sectors + k * g.block_sectors = omega arith in
    let next : (k + 1) * g.block_sectors ≡ k * g.block_sectors + g.block_sectors = omega arith in
    elim (cases_lt (sector / g.block_sectors + k) blocks) [
      | inl lt ↦ lt
      | inr ge ↦
          let past : blocks * g.block_sectors ≤ (sector / g.block_sectors + k) * g.block_sectors = mul-le-mul_right g.block_sectors ge in
          absurd (omega (arith, past, sum, start, starts, below, next, within, pos))
    ]

-- a run of data blocks, in sectors
pub run_sectors : (g : Geometry) (start from to : ℕ) → from ≤ to → start + (to - from) ≤ g.data_blocks
    → start * g.block_sectors + (g.block_sectors * to - g.block_sectors * from) ≤ g.data_blocks * g.block_sectors
run_sectors g start from to low fits =
    let up : (start + (to - from)) * g.block_sectors ≤ g.data_blocks * g.block_sectors = mul-le-mul_right g.block_sectors fits in
    let split : (start + (to - from)) * g.block_sectors ≡ start * g.block_sectors + (to - from) * g.block_sectors = omega arith in
    let s : to - from + from ≡ to = omega (arith, low) in
    let sum : (to - from + from) * g.block_sectors ≡ (to - from) * g.block_sectors + from * g.block_sectors = omega arith in
    let whole : (to - from + from) * g.block_sectors ≡ to * g.block_sectors = ap (λ k. k * g.block_sectors) s in
    let a : g.block_sectors * to ≡ to * g.block_sectors = omega arith in
    let b : g.block_sectors * from ≡ from * g.block_sectors = omega arith in
    omega (arith, up, split, sum, whole, a, b)

run_on_disk : (g : Geometry) (d : DiskState) (start k : ℕ) → start + k ≤ g.data_blocks → IsWellFormed d.size d.cells → sectors_of_image g ≤ d.size → k * g.block_sectors + data_sector g start ≤ length (seen d.cells)
run_on_disk g d start k fits formed room =
    let up : (start + k) * g.block_sectors ≤ g.data_blocks * g.block_sectors = mul-le-mul_right g.block_sectors fits in
    let split : (start + k) * g.block_sectors ≡ start * g.block_sectors + k * g.block_sectors = omega arith in
    omega (arith, up, split, length-seen formed, room)

module _ {M : Type 0} (geometry : M → Geometry) (stands : M → DiskState → Contents → Contents → Type 0) (marks : M → List Bool) (room : M → ℕ) (id sector : ℕ) (sectors : List Sector) (n : ℕ)
    (before : M) (old : DiskState) where
  abbrev size : Geometry
  size = geometry before

  abbrev its_first : ℕ
  its_first = sector / size.block_sectors

  abbrev Whole : ℕ → ℕ → ℕ → ℕ → ℕ → M → DiskState → Contents → Contents → Type 0
  Whole from to mapped place last after new now kept = AreMapped geometry stands marks size id its_first sectors n from to mapped place last before after old new now kept

  -- Blocks were mapped, and all but those of the last run were written.
  pub record IsMapping (start written mapped : ℕ) (after : M) (new : DiskState) : Type 0 where
    pub most : mapped ≤ n
    pub low : written < mapped
    pub fits : start + (mapped - written) ≤ (geometry before).data_blocks
    pub ran : Ran (16 * mapped) false (room before) (room after) (geometry before) (geometry after) old new
    pub left : LeavesHalf geometry stands marks id sector sectors before old new
    pub blocks : (now kept : Contents) → stands before old now kept → Reaches (geometry before) id (sector + length sectors) now.volumes
        → AreMapped geometry stands marks (geometry before) id (sector / (geometry before).block_sectors) sectors n written mapped mapped start 0 before after old new now kept

  module _ (rises : (metadata : M) (d : DiskState) (c kept : Contents) → stands metadata d c kept → DevicesAscend 0 c.volumes) where
    pub mapping_begins : (q : ℕ) (after : M) (new : DiskState) → 0 < n → q < size.data_blocks → Ran 16 false (room before) (room after) (geometry before) (geometry after) old new
        → ((now kept : Contents) → stands before old now kept → IsChanging size kept old new)
        → ((now kept : Contents) → stands before old now kept → Reaches size id (sector + length sectors) now.volumes → Mapped geometry stands marks id its_first q before after new now kept)
        → IsMapping q 0 1 after new
    mapping_begins q after new some below ran changing given = record {
      most = omega (arith, some);
      low = omega arith;
      fits = omega (arith, below);
      ran = ran_at_most ran (omega arith);
      left = λ now kept stood device. half_changing size (Write id sector sectors false) id [] kept old new (changing now kept stood).any_moment;
      blocks = λ now kept stood device.
          let none = none_mapped geometry stands marks size id its_first sectors n q before old now kept stood in
          let z : its_first ≡ its_first + 0 = omega arith in
          joined geometry stands marks size id its_first sectors n 0 0 1 q q before after old new now kept refl (omega arith) (omega arith)
          (one_mapped geometry stands marks size id its_first sectors n 0 0 1 q 0 q before before after old old new now kept refl some (omega arith) none device.0
          (subst (λ b. Mapped geometry stands marks id b q before after new now kept) z (given now kept stood device)) (changing now kept stood).same_data (λ c s. rises after new c kept s));
    }

  module _ (start written mapped : ℕ) (mid : M) (between : DiskState) (is : IsMapping start written mapped mid between) where
    -- the volume has the next block
    pub next_has : 0 < size.block_sectors → sector % size.block_sectors ≡ 0 → length sectors ≡ n * size.block_sectors → mapped < n
        → (now kept : Contents) (stood : stands before old now kept) (device : Reaches size id (sector + length sectors) now.volumes) → HasBlock (geometry mid) id (its_first + mapped) (is.blocks now kept stood device).volumes
    next_has pos starts long more now kept stood device =
        let a = is.blocks now kept stood device in
        let below : its_first + mapped < own_blocks size now.volumes id = block_inside size pos sector n (own_blocks size now.volumes id) mapped starts (omega (arith, device.1, long)) more in
        subst (λ (x : Geometry). HasBlock x id (its_first + mapped) a.volumes) (sym is.ran.geometry)
        (a.devices id ∙ device.0, omega (arith, below, own_same size a.volumes now.volumes id (a.sizes id)))

    module _ (after : M) (new : DiskState) (changing : (now kept : Contents) → stands mid between now kept → IsChanging (geometry mid) kept between new) where
      changes : (now kept : Contents) → stands before old now kept → Reaches size id (sector + length sectors) now.volumes → IsChanging size kept between new
      changes now kept stood device =
          let a = is.blocks now kept stood device in
          subst (λ (x : Geometry). IsChanging x kept between new) is.ran.geometry (changing (record now { volumes = a.volumes; meta_used = a.meta_used }) kept a.standing)

      -- what a stop leaves behind one more
      pub left_mapped : LeavesHalf geometry stands marks id sector sectors before old new
      left_mapped now kept stood device =
          half_goes_on size (Write id sector sectors false) id [] kept old between new (is.left now kept stood device)
          (half_changing size (Write id sector sectors false) id [] kept between new (changes now kept stood device).any_moment)

      module _ (rises : (metadata : M) (d : DiskState) (c kept : Contents) → stands metadata d c kept → DevicesAscend 0 c.volumes) (q : ℕ) (below : q < size.data_blocks)
          (ran : Ran 16 false (room mid) (room after) (geometry mid) (geometry after) between new)
          (given : (now kept : Contents) → stands mid between now kept → HasBlock (geometry mid) id (its_first + mapped) now.volumes → Mapped geometry stands marks id (its_first + mapped) q mid after new now kept) (more : mapped < n)
          (pos : 0 < size.block_sectors) (starts : sector % size.block_sectors ≡ 0) (long : length sectors ≡ n * size.block_sectors) where
        more_ran : Ran (16 * (mapped + 1)) false (room before) (room after) (geometry before) (geometry after) old new
        more_ran = ran_at_most (ran_joins is.ran ran refl) (omega arith)

        more_blocks : (now kept : Contents) → stands before old now kept → Reaches size id (sector + length sectors) now.volumes → Whole written mapped (mapped + 1) start q after new now kept
        more_blocks now kept stood device =
            let a = is.blocks now kept stood device in
            let low = is.low in
            let has = next_has pos starts long more now kept stood device in
            one_mapped geometry stands marks size id its_first sectors n written mapped (mapped + 1) start 0 q before mid after old between new now kept refl more (omega (arith, low)) a device.0
            (given (record now { volumes = a.volumes; meta_used = a.meta_used }) kept a.standing has) (changes now kept stood device).same_data (λ c s. rises after new c kept s)

        -- it follows those before it
        pub goes_on_joined : q ≡ start + (mapped - written) → IsMapping start written (mapped + 1) after new
        goes_on_joined follows =
            let low = is.low in
            record {
              most = omega (arith, more);
              low = omega (arith, low);
              fits = omega (arith, low, follows, below);
              ran = more_ran;
              left = left_mapped;
              blocks = λ now kept stood device.
                  joined geometry stands marks size id its_first sectors n written mapped (mapped + 1) start q before after old new now kept refl (omega (arith, low)) follows (more_blocks now kept stood device);
            }

        module _ (end : DiskState)
            (writes : Writes (data_sector size start) (take (size.block_sectors * mapped - size.block_sectors * written) (drop (size.block_sectors * written) sectors)) new end) where
          -- what a stop leaves behind the write of those before it
          pub left_before : LeavesHalf geometry stands marks id sector sectors before old end
          left_before now kept stood device =
              let low = is.low in
              left_pending geometry stands marks size id its_first sectors n written mapped (mapped + 1) start q before after old new end now kept (omega (arith, low)) (omega arith) (omega (arith, more)) (omega arith) long (more_blocks now kept stood device)
              (Write id sector sectors false) [] (left_mapped now kept stood device) writes

          -- it begins the next run
          pub goes_on_written : ((metadata : M) (a b : DiskState) (c kept : Contents) → KeepsMetadata (geometry metadata) a b → stands metadata a c kept → stands metadata b c kept)
              → end ≡ after_write (data_sector size start) (take (size.block_sectors * mapped - size.block_sectors * written) (drop (size.block_sectors * written) sectors)) new
              → FaultHasCause false new end → IsWellFormed new.size new.cells → sectors_of_image size ≤ new.size → IsMapping q mapped (mapped + 1) after end
          goes_on_written frame done cause formed space =
              let low = is.low in
              record {
                most = omega (arith, more);
                low = omega arith;
                fits = omega (arith, below);
                ran = ran_at_most (ran_joins more_ran (write_ran writes cause) refl) (omega arith);
                left = left_before;
                blocks = λ now kept stood device.
                    run_written geometry stands marks size id its_first sectors n written mapped (mapped + 1) start q before after old new end now kept (omega (arith, low)) (omega arith) (omega (arith, more)) (omega arith) long
                    (more_blocks now kept stood device)
                    (λ c x y keeps s. frame after x y c kept (subst (λ (z : Geometry). KeepsMetadata z x y) (sym more_ran.geometry) keeps) s) done writes (run_on_disk size new start (mapped - written) is.fits formed space);
              }

    -- ---- the last run

    module _ (all : mapped ≡ n) (long : length sectors ≡ n * size.block_sectors) (end : DiskState)
        (writes : Writes (data_sector size start) (take (size.block_sectors * mapped - size.block_sectors * written) (drop (size.block_sectors * written) sectors)) between end) where
      pub left_last : LeavesHalf geometry stands marks id sector sectors before old end
      left_last now kept stood device =
          let low = is.low in
          left_pending geometry stands marks size id its_first sectors n written mapped mapped start 0 before mid old between end now kept (omega (arith, low)) (omega arith) (omega (arith, all)) (omega arith) long (is.blocks now kept stood device)
          (Write id sector sectors false) [] (is.left now kept stood device) writes

      pub last_written : ((metadata : M) (a b : DiskState) (c kept : Contents) → KeepsMetadata (geometry metadata) a b → stands metadata a c kept → stands metadata b c kept)
          → end ≡ after_write (data_sector size start) (take (size.block_sectors * mapped - size.block_sectors * written) (drop (size.block_sectors * written) sectors)) between
          → IsWellFormed between.size between.cells → sectors_of_image size ≤ between.size → 0 < size.block_sectors → sector % size.block_sectors ≡ 0 → (now kept : Contents) → stands before old now kept → Reaches size id (sector + length sectors) now.volumes
          → HasWrittenPart geometry stands marks id its_first n sector sectors true before mid old end now kept
      last_written frame done formed space pos starts now kept stood device =
          let low = is.low in
          let w = run_written geometry stands marks size id its_first sectors n written mapped mapped start 0 before mid old between end now kept (omega (arith, low)) (omega arith) (omega (arith, all)) (omega arith) long (is.blocks now kept stood device)
          (λ c x y keeps s. frame mid x y c kept (subst (λ (z : Geometry). KeepsMetadata z x y) (sym is.ran.geometry) keeps) s) done writes (run_on_disk size between start (mapped - written) is.fits formed space) in
          whole_written geometry stands marks id sector sectors n 0 0 before mid old end now kept (omega (arith, low, all)) pos starts long (subst (λ k. Whole k k k 0 0 mid end now kept) all w)
