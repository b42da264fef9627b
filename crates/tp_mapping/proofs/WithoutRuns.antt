-- Slots of a run of virtual blocks are taken, one after another.
use Rattle.std.proofs.Common.{◌≡◌, ℕ, zero, suc, ◌+◌, ◌<◌, ◌≤◌, List, [], ◌∷◌, Option, None, Some, false, refl, sym, ap, ◌∙◌, arith, inl, inr}
use Rattle.std.specs.Prelude.{is_some, ◌-◌}
use Rattle.std.specs.Option.{option_map}
use Rattle.std.proofs.lemmas.Bool.{cases_eq, false≢true}
use Rattle.std.proofs.lemmas.Option.{none-some}
use Rattle.tp_model.specs.Disk.{DiskState}
use Rattle.tp_model.specs.Geometry.{Geometry}
use Rattle.tp_layout.specs.Entries.{found}
use Rattle.tp_layout.specs.declared.entry.Entry.{Entry}
use Rattle.tp_sharing.specs.Forest.{content}
use Rattle.tp_sharing.proofs.Changed.{with_is_changed}
use Rattle.tp_tm.specs.Tm.{Tm}
use Rattle.tp_sharing.specs.Volumes.{BlockSlot, DeviceSlots, Volumes, changed_at, device_of, place_in, place_or_none, size_of, slot_of, with_device, without_place, without_slot}
use Rattle.tp_sharing.proofs.Changes.{altered, changed_here, changed_later, slot_changes, without_place_later}
use Rattle.tp_sharing.proofs.Slots.{device_here, device_later, place_found, place_here, place_later}
use Rattle.tp_mapping.specs.Held.{HoldBeside, HoldTrees}
use Rattle.tp_mapping.specs.Mapping.{IsWithin}
use Rattle.tp_mapping.specs.Runs.{without_places, without_run}
use Rattle.tp_mapping.specs.declared.volume.Volume.{Volume}
use Rattle.tp_mapping.proofs.Between.{trees_ascend}
use Rattle.tp_mapping.proofs.Within.{within_without_slot}

-- ---- no slot there

pub without_absent : (block : ℕ) (ys : List BlockSlot) → place_in block ys ≡ None → without_place block ys ≡ ys
without_absent block [] h = refl
without_absent block (y ∷ ys) h =
    elim (cases_eq y.block block) [
      | inl e ↦ absurd (none-some y.place (sym h ∙ place_here block y ys e))
      | inr n ↦ without_place_later block y ys n ∙ ap (λ (zs : List BlockSlot). y ∷ zs) (without_absent block ys (sym (place_later block y ys n) ∙ h))
    ]

-- ---- the slots of one device

changed_same : (id : ℕ) (f : List BlockSlot → List BlockSlot) (ds : Volumes) → ((xs : List BlockSlot) → device_of id ds ≡ Some xs → f xs ≡ xs) → changed_at id f ds ≡ ds
changed_same id f [] same = refl
changed_same id f (d ∷ ds) same =
    elim (cases_eq d.id id) [
      | inl e ↦
          let q : f d.slots ≡ d.slots = same d.slots (device_here id d ds e) in
          let r : altered f d ≡ d = λ i. record { id = d.id; size = d.size; slots = q i } in
          changed_here id f d ds e ∙ ap (λ (x : DeviceSlots). x ∷ ds) r
      | inr n ↦ changed_later id f d ds n ∙ ap (λ (zs : Volumes). d ∷ zs) (changed_same id f ds (λ xs h. same xs (device_later id d ds n ∙ h)))
    ]

changed_twice : (id : ℕ) (f g : List BlockSlot → List BlockSlot) (ds : Volumes) → changed_at id f (changed_at id g ds) ≡ changed_at id (λ xs. f (g xs)) ds
changed_twice id f g [] = refl
changed_twice id f g (d ∷ ds) =
    elim (cases_eq d.id id) [
      | inl e ↦ ap (changed_at id f) (changed_here id g d ds e) ∙ (changed_here id f (altered g d) ds e ∙ sym (changed_here id (λ xs. f (g xs)) d ds e))
      | inr n ↦
          ap (changed_at id f) (changed_later id g d ds n)
          ∙ (changed_later id f d (changed_at id g ds) n ∙ (ap (λ (zs : Volumes). d ∷ zs) (changed_twice id f g ds) ∙ sym (changed_later id (λ xs. f (g xs)) d ds n)))
    ]

pub run_is_changed : (id first n : ℕ) (ds : Volumes) → without_run id first n ds ≡ changed_at id (without_places first n) ds
run_is_changed id first zero ds = sym (changed_same id (without_places first zero) ds (λ xs h. refl))
run_is_changed id first (suc n) ds = ap (without_slot id (first + n)) (run_is_changed id first n ds) ∙ changed_twice id (without_place (first + n)) (without_places first n) ds

pub without_slot_absent : (id block : ℕ) (ds : Volumes) → slot_of id block ds ≡ None → without_slot id block ds ≡ ds
without_slot_absent id block ds none = changed_same id (without_place block) ds (λ xs h. without_absent block xs (sym (ap (place_or_none block) h) ∙ none))

-- ---- one more

pub places_next : (first n b : ℕ) (xs : List BlockSlot) → b ≡ first + n → without_place b (without_places first n xs) ≡ without_places first (n + 1) xs
places_next first n b xs e =
    let q : suc n ≡ n + 1 = omega arith in
    ap (λ x. without_place x (without_places first n xs)) e ∙ ap (λ k. without_places first k xs) q

-- ---- slots behind it

-- a slot that is not of the run is as it was
pub run_other : (id first n other at : ℕ) (ds : Volumes) → (((other ≡ id) × (first ≤ at) × (at < first + n)) → ⊥) → slot_of other at (without_run id first n ds) ≡ slot_of other at ds
run_other id first zero other at ds apart = refl
run_other id first (suc n) other at ds apart =
    slot_changes.without_other id (first + n) other at (without_run id first n ds) (λ q. apart (q.0, omega (arith, q.1), omega (arith, q.1)))
    ∙ run_other id first n other at ds (λ q. apart (q.0, q.1, omega (arith, q.2)))

-- where it had no slots nothing changes
pub run_idle : (id first n : ℕ) (ds : Volumes) → ((i : ℕ) → i < n → slot_of id (first + i) ds ≡ None) → without_run id first n ds ≡ ds
run_idle id first zero ds none = refl
run_idle id first (suc n) ds none =
    ap (without_slot id (first + n)) (run_idle id first n ds (λ i lt. none i (omega (arith, lt)))) ∙ without_slot_absent id (first + n) ds (none n (omega arith))

-- ---- within the sizes of a pool

pub within_run : (g : Geometry) (id first n : ℕ) (ds : Volumes) → IsWithin g ds → IsWithin g (without_run id first n ds)
within_run g id first zero ds w = w
within_run g id first (suc n) ds w = within_without_slot g (without_run id first n ds) (within_run g id first n ds w) id (first + n)

-- ---- an answer that is no error

pub none_when : {A : Type 0} (o : Option A) → is_some o ≡ false → o ≡ None
none_when None e = refl
none_when (Some x) e = absurd (false≢true (sym e))

-- ---- the trees

-- where a volume's tree has no entry there is no slot
pub slot_absent : (g : Geometry) (t : Tm) (disk : DiskState) (root : ℕ) (more : List ℕ) (v : Volume) (slots : List BlockSlot) (now : Volumes) (h : HoldBeside g t disk root more v slots now)
    → (block : ℕ) → found block (content 1 h.trees.store v.root) ≡ None → place_in block slots ≡ None
slot_absent g t disk root more v slots now h block e =
    ap (place_in block) (sym h.content_is)
    ∙ (place_found g.metadata_blocks block (content 1 h.trees.store v.root) ∙ ap (option_map (λ (y : Entry). y.value - g.metadata_blocks)) e)

-- a device with the slots that are left
pub run_put : (g : Geometry) (t : Tm) (disk : DiskState) (root : ℕ) (more : List ℕ) (now : Volumes) → HoldTrees g t disk root more now
    → (device size first n : ℕ) (slots : List BlockSlot) → device_of device now ≡ Some slots → size_of device now ≡ Some size
    → with_device (record { id = device; size = size; slots = without_places first n slots }) now ≡ without_run device first n now
run_put g t disk root more now h device size first n slots is told =
    with_is_changed 0 device size (without_places first n) slots now (trees_ascend g t disk root more now h) is told ∙ sym (run_is_changed device first n now)
