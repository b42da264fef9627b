-- A pool with the copies of all its volumes behind them, and one without its copies.
use Rattle.std.proofs.Common.{◌≡◌, ℕ, ◌-◌, ◌/◌, ◌<◌, ◌≤◌, ◌==◌, false, cond, List, [], ◌∷◌, ◌++◌, length, map, Option, Some, None, ◌⊎◌, inl, inr, refl, sym, ap, subst, ◌∙◌, arith}
use Rattle.std.specs.Prelude.{◌^◌, if◌then◌else◌, slice_get}
use Rattle.std.specs.Option.{is_some, option_map, option_map_or}
use Rattle.std.specs.Ordering.{nat_cmp}
use Rattle.std.specs.Cmp.{unsigned_tied}
use Rattle.std.specs.FinMap.{FinMap, empty, entries, find, get, get-entries, insert, retain_keys}
use Rattle.std.proofs.lemmas.Bool.{cases_eq, cases_lt, eq-eqb, le-ltb, lt-ltb, ne_eqb, true≢false}
use Rattle.std.proofs.lemmas.Option.{none-some}
use Rattle.tp_model.specs.Geometry.{Geometry}
use Rattle.tp_model.specs.Told.{told_sectors}
use Rattle.tp_model.specs.Sectors.{Sector}
use Rattle.tp_model.specs.Pool.{PlainPool, Volume, copy_id, is_now, slot_at, volume_size}
use Rattle.tp_model.specs.Calls.{held_of}
use Rattle.tp_model.proofs.Maps.{get_empty, get_retain}
use Rattle.tp_model.proofs.Steps.{other_of_insert}
use Rattle.tp_image.specs.Stands.{HasSectors}
use Rattle.tp_sharing.specs.Volumes.{Volumes, as_copy, device_of, place_or_none, size_of, slot_of}
use Rattle.tp_sharing.proofs.Copies.{copies_are, copies_high, device_behind, device_front, size_copies_are}
use Rattle.tp_sharing.proofs.Slots.{device_later, size_here, size_later}
use Rattle.tp_sharing.proofs.Told.{size_changes}
use Rattle.tp_mapping.specs.Mapping.{without_copies}
use Rattle.tp_stored.specs.Contents.{Contents, HasContents}
use Rattle.tp_shown.specs.Laws.{ReleaseMakes, ReserveMakes}
use Rattle.tp_shown.proofs.Made.{get_same}
use Rattle.tp_shown.proofs.Values.{no_volume}

-- ---- volumes that are those of a pool under other ids

-- In maps and lists alike, what is new of a device is what was old of another one.
record IsOf (old new : FinMap nat_cmp Volume) (now after : Volumes) (id other : ℕ) : Type 0 where
  pub volume : get new id ≡ get old other
  pub device : device_of id after ≡ device_of other now
  pub size : size_of id after ≡ size_of other now

-- There is no such device any more.
record IsGone (new : FinMap nat_cmp Volume) (after : Volumes) (id : ℕ) : Type 0 where
  pub volume : get new id ≡ None
  pub device : device_of id after ≡ None
  pub size : size_of id after ≡ None

module _ (g : Geometry) (c : Contents) (image : List Sector) (p q : PlainPool) (h : HasContents g c image p) (after : Volumes)
    (each : (id : ℕ) → ((other : ℕ) × IsOf p.volumes q.volumes c.volumes after id other) ⊎ IsGone q.volumes after id) where
  abbrev size_from : Option Volume → Option ℕ
  size_from o = option_map (λ (v : Volume). length v.sectors) o

  abbrev slot_from : ℕ → Option Volume → Option ℕ
  slot_from block o = get (option_map_or (λ v. v.slots) o empty) block

  abbrev sector_from : ℕ → Option Volume → Option Sector
  sector_from k o = slice_get (option_map_or (λ v. v.sectors) o []) k

  sizes_are : (id : ℕ) → volume_size q id ≡ option_map (told_sectors g) (size_of id after)
  sizes_are id = elim (each id) [
    | inl w ↦ ap size_from w.1.volume ∙ (h.sizes w.0 ∙ sym (ap (option_map (told_sectors g)) w.1.size))
    | inr w ↦ ap size_from w.volume ∙ sym (ap (option_map (told_sectors g)) w.size)
  ]

  slots_are : (id block : ℕ) → slot_at q id block ≡ slot_of id block after
  slots_are id block = elim (each id) [
    | inl w ↦ ap (slot_from block) w.1.volume ∙ (h.slots w.0 block ∙ sym (ap (place_or_none block) w.1.device))
    | inr w ↦ ap (slot_from block) w.volume ∙ (get_empty block ∙ sym (ap (place_or_none block) w.device))
  ]

  sectors_are : HasSectors image g q
  sectors_are = record {
    mapped = λ id k place size sized lt e. elim (each id) [
      | inl w ↦ ap (sector_from k) w.1.volume ∙ h.sectors.mapped w.0 k place size (sym (ap size_from w.1.volume) ∙ sized) lt (sym (ap (slot_from (k / g.block_sectors)) w.1.volume) ∙ e)
      | inr w ↦ absurd (none-some size (sym (ap size_from w.volume) ∙ sized))
    ];
    unmapped = λ id k size sized lt e. elim (each id) [
      | inl w ↦ ap (sector_from k) w.1.volume ∙ h.sectors.unmapped w.0 k size (sym (ap size_from w.1.volume) ∙ sized) lt (sym (ap (slot_from (k / g.block_sectors)) w.1.volume) ∙ e)
      | inr w ↦ absurd (none-some size (sym (ap size_from w.volume) ∙ sized))
    ];
  }

-- ---- sizes in two lists

no_size : (id : ℕ) (ds : Volumes) → device_of id ds ≡ None → size_of id ds ≡ None
no_size id ds e = go (size_of id ds) (size_changes.told id ds ∙ ap is_some e) where
  go : (o : Option ℕ) → is_some o ≡ false → o ≡ None
  go None s = refl
  go (Some n) s = absurd (true≢false s)

size_behind : (id : ℕ) (ds es : Volumes) → size_of id ds ≡ None → size_of id (ds ++ es) ≡ size_of id es
size_behind id [] es h = refl
size_behind id (d ∷ ds) es h =
    elim (cases_eq d.id id) [
      | inl e ↦ absurd (none-some d.size (sym h ∙ size_here id d ds e))
      | inr n ↦ size_later id d (ds ++ es) n ∙ size_behind id ds es (sym (size_later id d ds n) ∙ h)
    ]

size_front : (id : ℕ) (ds es : Volumes) → size_of id es ≡ None → size_of id (ds ++ es) ≡ size_of id ds
size_front id [] es h = h
size_front id (d ∷ ds) es h =
    elim (cases_eq d.id id) [
      | inl e ↦ size_here id d (ds ++ es) e ∙ sym (size_here id d ds e)
      | inr n ↦ size_later id d (ds ++ es) n ∙ (size_front id ds es h ∙ sym (size_later id d ds n))
    ]

-- ---- copies of all volumes

-- the map with a copy of each of these
with_copies : List (ℕ × Volume) → FinMap nat_cmp Volume → FinMap nat_cmp Volume
with_copies [] m = m
with_copies (e ∷ es) m = insert (with_copies es m) (copy_id e.0) e.1

get_low : (es : List (ℕ × Volume)) (m : FinMap nat_cmp Volume) (id : ℕ) → id < 2 ^ 24 → get (with_copies es m) id ≡ get m id
unfolding with_copies
get_low [] m id l = refl
get_low (e ∷ es) m id l = other_of_insert (with_copies es m) (copy_id e.0) e.1 id (λ s. absurd (omega (arith, s, l))) ∙ get_low es m id l

get_copy : (es : List (ℕ × Volume)) (m : FinMap nat_cmp Volume) (id : ℕ) → get m (copy_id id) ≡ None → get (with_copies es m) (copy_id id) ≡ find nat_cmp id es
unfolding with_copies
get_copy [] m id none = none
get_copy (e ∷ es) m id none =
    elim (cases_eq id e.0) [
      | inl s ↦
          ap (λ i. get (insert (with_copies es m) (copy_id e.0) e.1) (copy_id i)) s
          ∙ (get_same (with_copies es m) (copy_id e.0) e.1 ∙ sym (ap (λ b. cond b (Some e.1) (find nat_cmp id es)) (unsigned_tied id e.0 ∙ eq-eqb id e.0 s)))
      | inr n ↦
          other_of_insert (with_copies es m) (copy_id e.0) e.1 (copy_id id) (λ s. n (omega (arith, s)))
          ∙ (get_copy es m id none ∙ sym (ap (λ b. cond b (Some e.1) (find nat_cmp id es)) (unsigned_tied id e.0 ∙ ne_eqb id e.0 n)))
    ]

module _ (g : Geometry) (c : Contents) (image : List Sector) (p : PlainPool) (h : HasContents g c image p) (none : (id : ℕ) → 2 ^ 24 ≤ id → device_of id c.volumes ≡ None) (root : ℕ) where
  abbrev copied : PlainPool
  copied = record p { volumes = with_copies (entries p.volumes) p.volumes; held_root = root }

  abbrev both : Volumes
  both = c.volumes ++ map as_copy c.volumes

  of_now : (id : ℕ) → id < 2 ^ 24 → IsOf p.volumes copied.volumes c.volumes both id id
  of_now id l = record {
    volume = get_low (entries p.volumes) p.volumes id l;
    device = device_front id c.volumes (map as_copy c.volumes) (copies_high id c.volumes l);
    size = size_front id c.volumes (map as_copy c.volumes) (no_size id (map as_copy c.volumes) (copies_high id c.volumes l));
  }

  of_copy : (id : ℕ) → IsOf p.volumes copied.volumes c.volumes both (copy_id id) id
  of_copy id =
      let gone = none (copy_id id) (omega arith) in
      record {
        volume = get_copy (entries p.volumes) p.volumes id (no_volume g c image p h (copy_id id) gone) ∙ sym (get-entries p.volumes id);
        device = device_behind (copy_id id) c.volumes (map as_copy c.volumes) gone ∙ copies_are id c.volumes;
        size = size_behind (copy_id id) c.volumes (map as_copy c.volumes) (no_size (copy_id id) c.volumes gone) ∙ size_copies_are id c.volumes;
      }

  above : (id : ℕ) → 2 ^ 24 ≤ id → copy_id (id - 2 ^ 24) ≡ id
  above id l = omega (arith, l)

  of_held : (id : ℕ) → IsOf p.volumes copied.volumes c.volumes both id (held_of id)
  of_held id = elim (cases_lt id (2 ^ 24)) [
    | inl l ↦ subst (IsOf p.volumes copied.volumes c.volumes both id) (sym (ap (λ b. if b then id else id - 2 ^ 24) (lt-ltb id (2 ^ 24) l))) (of_now id l)
    | inr l ↦
        subst (IsOf p.volumes copied.volumes c.volumes both id) (sym (ap (λ b. if b then id else id - 2 ^ 24) (le-ltb id (2 ^ 24) l)))
        (subst (λ i. IsOf p.volumes copied.volumes c.volumes both i (id - 2 ^ 24)) (above id l) (of_copy (id - 2 ^ 24)))
  ]

  has_both : HasContents g (record c { volumes = both; held_root = root }) image copied
  has_both =
      let each : (id : ℕ) → ((other : ℕ) × IsOf p.volumes copied.volumes c.volumes both id other) ⊎ IsGone copied.volumes both id = λ id. inl (held_of id, of_held id) in
      record {
        geometry = h.geometry;
        transaction_id = h.transaction_id;
        needs_check = h.needs_check;
        meta_used = h.meta_used;
        held_root = refl;
        sizes = sizes_are g c image p copied h both each;
        slots = slots_are g c image p copied h both each;
        sectors = sectors_are g c image p copied h both each;
      }

pub reserve_makes : ReserveMakes
reserve_makes g c image p h none root some = (
  copied g c image p h none root,
  has_both g c image p h none root,
  record { rest = refl; held = some; volumes = λ id. (of_held g c image p h none root id).volume },
)

-- ---- without copies

device_low : (id : ℕ) (ds : Volumes) → id < 2 ^ 24 → device_of id (without_copies ds) ≡ device_of id ds
device_low id [] l = refl
device_low id (d ∷ ds) l =
    elim (cases_lt d.id (2 ^ 24)) [
      | inl now ↦
          ap (λ b. device_of id (if b then d ∷ without_copies ds else without_copies ds)) (lt-ltb d.id (2 ^ 24) now)
          ∙ ap (λ o. if d.id == id then Some d.slots else o) (device_low id ds l)
      | inr high ↦
          ap (λ b. device_of id (if b then d ∷ without_copies ds else without_copies ds)) (le-ltb d.id (2 ^ 24) high)
          ∙ (device_low id ds l ∙ sym (device_later id d ds (λ e. absurd (omega (arith, e, high, l)))))
    ]

size_low : (id : ℕ) (ds : Volumes) → id < 2 ^ 24 → size_of id (without_copies ds) ≡ size_of id ds
size_low id [] l = refl
size_low id (d ∷ ds) l =
    elim (cases_lt d.id (2 ^ 24)) [
      | inl now ↦
          ap (λ b. size_of id (if b then d ∷ without_copies ds else without_copies ds)) (lt-ltb d.id (2 ^ 24) now)
          ∙ ap (λ o. if d.id == id then Some d.size else o) (size_low id ds l)
      | inr high ↦
          ap (λ b. size_of id (if b then d ∷ without_copies ds else without_copies ds)) (le-ltb d.id (2 ^ 24) high)
          ∙ (size_low id ds l ∙ sym (size_later id d ds (λ e. absurd (omega (arith, e, high, l)))))
    ]

device_high : (id : ℕ) (ds : Volumes) → 2 ^ 24 ≤ id → device_of id (without_copies ds) ≡ None
device_high id [] l = refl
device_high id (d ∷ ds) l =
    elim (cases_lt d.id (2 ^ 24)) [
      | inl now ↦
          ap (λ b. device_of id (if b then d ∷ without_copies ds else without_copies ds)) (lt-ltb d.id (2 ^ 24) now)
          ∙ (device_later id d (without_copies ds) (λ e. absurd (omega (arith, e, now, l))) ∙ device_high id ds l)
      | inr high ↦ ap (λ b. device_of id (if b then d ∷ without_copies ds else without_copies ds)) (le-ltb d.id (2 ^ 24) high) ∙ device_high id ds l
    ]

module _ (g : Geometry) (c : Contents) (image : List Sector) (p : PlainPool) (h : HasContents g c image p) (meta_used : ℕ) where
  abbrev alone : PlainPool
  alone = record p { volumes = retain_keys p.volumes is_now; held_root = 0; meta_used = meta_used }

  abbrev own : Volumes
  own = without_copies c.volumes

  each_alone : (id : ℕ) → ((other : ℕ) × IsOf p.volumes alone.volumes c.volumes own id other) ⊎ IsGone alone.volumes own id
  each_alone id = elim (cases_lt id (2 ^ 24)) [
    | inl l ↦ inl (
      id,
      record {
        volume = get_retain p.volumes is_now id ∙ ap (λ b. cond b (get p.volumes id) None) (lt-ltb id (2 ^ 24) l);
        device = device_low id c.volumes l;
        size = size_low id c.volumes l;
      },
    )
    | inr l ↦ inr (record {
      volume = get_retain p.volumes is_now id ∙ ap (λ b. cond b (get p.volumes id) None) (le-ltb id (2 ^ 24) l);
      device = device_high id c.volumes l;
      size = no_size id own (device_high id c.volumes l);
    })
  ]

  has_alone : HasContents g (record c { volumes = own; held_root = 0; meta_used = meta_used }) image alone
  has_alone = record {
    geometry = h.geometry;
    transaction_id = h.transaction_id;
    needs_check = h.needs_check;
    meta_used = refl;
    held_root = refl;
    sizes = sizes_are g c image p alone h own each_alone;
    slots = slots_are g c image p alone h own each_alone;
    sectors = sectors_are g c image p alone h own each_alone;
  }

pub release_makes : ReleaseMakes
release_makes g c image p h meta_used = has_alone g c image p h meta_used
