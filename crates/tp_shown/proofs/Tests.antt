-- What the tests of calls ask of a pool, in words of its lists.
use Rattle.std.proofs.Common.{◌≡◌, ◌≢◌, ℕ, suc, ◌+◌, ◌/◌, ◌==◌, ◌<◌, ◌≤◌, ◌&&◌, Bool, true, false, not, cond, List, [], ◌∷◌, length, map, Option, Some, None, Less, Equal, Greater, ◌⊎◌, inl, inr, refl, sym, ap, subst, ◌∙◌, arith}
use Rattle.std.specs.Prelude.{◌^◌, if◌then◌else◌}
use Rattle.std.specs.Option.{IsSome, is_some, option_map, option_map_or}
use Rattle.std.specs.List.{count_by, range_with_len}
use Rattle.std.specs.Ordering.{nat_cmp}
use Rattle.std.specs.Cmp.{nat_cmp_total}
use Rattle.std.specs.FinMap.{FinMap, empty, entries, get, insert, len, len-insert, remove}
use Rattle.std.specs.FinMap.Entries.{by_order, put}
use Rattle.std.proofs.lemmas.Bool.{cases_eq, eq-eqb, false≢true, lt-ltb, ne_eqb, true≢false}
use Rattle.std.proofs.lemmas.List.FromFn.{length-range_with_len}
use Rattle.std.proofs.lemmas.List.Sums.{count_by-le-length, sum_by-cons}
use Rattle.std.proofs.lemmas.Option.{none-some}
use Rattle.tp_model.specs.Geometry.{Geometry, IsWithinLimits}
use Rattle.tp_model.specs.Sectors.{Sector}
use Rattle.tp_model.specs.Pool.{PlainPool, Volume, copy_id, is_exclusive, is_now, slot_at, used, volume_sectors}
use Rattle.tp_model.specs.Calls.{Call, Keeps, Loses, Owns, Write, WriteZeroes, covers, effect_at, is_owning, need, slot_effect, touches}
use Rattle.tp_model.proofs.Counting.{count_agree_from, count_part, used-counts}
use Rattle.tp_model.proofs.Maps.{entries_empty, entries_insert, get_empty, get_insert, get_remove, same_nat_map}
use Rattle.tp_model.proofs.Sharing.{Decides-is_exclusive}
use Rattle.tp_sharing.specs.Volumes.{BlockSlot, DeviceSlots, DevicesAscend, Volumes, device_of, slot_of}
use Rattle.tp_sharing.proofs.Changes.{device_below}
use Rattle.tp_sharing.proofs.Slots.{device_here, device_later}
use Rattle.tp_mapping.specs.List.{is_used_elsewhere}
use Rattle.tp_mapping.specs.Slots.{is_used}
use Rattle.tp_mapping.specs.Mapping.{IsWithin}
use Rattle.tp_mapping.proofs.Used.{below_counts, below_is_used}
use Rattle.tp_mapping.proofs.Uses.{elsewhere_from_slot, slot_from_elsewhere, slot_from_used, used_from_slot}
use Rattle.tp_stored.specs.Contents.{Contents, HasContents}
use Rattle.tp_shown.specs.Laws.{CopyIsListed, CountIsListed, ExistsIsListed, NeedIsWanted, NeedZeroes, UsedFits, UsedIsListed}
use Rattle.tp_shown.specs.Shown.{blocks_touched, blocks_wanted_by, first_block, owns_block, wants_block, own_blocks, own_sectors}
use Rattle.tp_shown.proofs.Blocks.{not_touched_before, not_touched_behind, touched_fit, touched_inside, whole_blocks}
use Rattle.tp_shown.proofs.Values.{exclusive, length_is, no_value, not_shared, own_sizes}

-- ---- data blocks in use

pub used_is_listed : UsedIsListed
used_is_listed g c image p within h =
    used-counts p g.data_blocks (λ l. is_used l c.volumes)
    (λ id block l e. (within.slots id block l (sym (h.slots id block) ∙ e)).1)
    (λ l lt. (
      λ e. let r = slot_from_used l c.volumes within.ascend e in (r.0, r.1, h.slots r.0 r.1 ∙ r.2),
      λ w. used_from_slot w.0 w.1 l c.volumes (sym (h.slots w.0 w.1) ∙ w.2),
    ))
    ∙ (sym (below_counts g.data_blocks c.volumes) ∙ below_is_used g c.volumes within)

pub used_fits : UsedFits
used_fits g c image p within h =
    let counted : used p ≡ count_by (λ l. is_used l c.volumes) (range_with_len 0 g.data_blocks) = used_is_listed g c image p within h ∙ (sym (below_is_used g c.volumes within) ∙ below_counts g.data_blocks c.volumes) in
    let few = count_by-le-length (λ l. is_used l c.volumes) (range_with_len 0 g.data_blocks) in
    let long = length-range_with_len 0 g.data_blocks in
    let same = ap (λ (x : Geometry). x.data_blocks) h.geometry in
    omega (arith, counted, few, long, same)

-- ---- devices

there_by : (n : ℕ) (o : Option Volume) (d : Option (List BlockSlot)) → option_map (λ v. length v.sectors) o ≡ option_map (λ slots. n) d → is_some o ≡ is_some d
there_by n None None e = refl
there_by n (Some v) (Some xs) e = refl
there_by n None (Some xs) e = absurd (none-some n e)
there_by n (Some v) None e = absurd (none-some (length v.sectors) (sym e))

there_is_listed : (g : Geometry) (c : Contents) (image : List Sector) (p : PlainPool) (id : ℕ) → HasContents g c image p → is_some (get p.volumes id) ≡ is_some (device_of id c.volumes)
there_is_listed g c image p id h = there_by (own_sectors g c.volumes id) (get p.volumes id) (device_of id c.volumes) (own_sizes g c image p h id)

pub exists_is_listed : ExistsIsListed
exists_is_listed g c image p id low h = ap (λ b. b && is_some (get p.volumes id)) (lt-ltb id (2 ^ 24) low) ∙ there_is_listed g c image p id h

pub copy_is_listed : CopyIsListed
copy_is_listed g c image p id h = there_is_listed g c image p (copy_id id) h

module _ {X : Type 0} where
  none_here : (o : Option X) → is_some o ≡ false → o ≡ None
  none_here None e = refl
  none_here (Some x) e = absurd (true≢false e)

  some_here : (o : Option X) → is_some o ≡ true → (x : X) × (o ≡ Some x)
  some_here None e = absurd (false≢true e)
  some_here (Some x) e = (x, refl)

  -- a map is what it is without a key, with that
  pub with_key : (m : FinMap nat_cmp X) (k : ℕ) (x : X) → get m k ≡ Some x → m ≡ insert (remove m k) k x
  with_key m k x e = same_nat_map m (insert (remove m k) k x) (λ q. back q (cases_eq q k))
    where
      back : (q : ℕ) → (q ≡ k) ⊎ (q ≢ k) → get m q ≡ get (insert (remove m k) k x) q
      back q (inl s) = ap (get m) s ∙ (e ∙ sym (get_insert (remove m k) k x q ∙ ap (λ b. cond b (Some x) (get (remove m k) q)) (eq-eqb q k s)))
      back q (inr n) =
          sym (get_insert (remove m k) k x q ∙ (ap (λ b. cond b (Some x) (get (remove m k) q)) (ne_eqb q k n)
          ∙ (get_remove m k q ∙ ap (λ b. cond b None (get m q)) (ne_eqb q k n))))

  -- without one key there is one less
  pub one_less : (m : FinMap nat_cmp X) (k : ℕ) (x : X) → get m k ≡ Some x → len m ≡ len (remove m k) + 1
  one_less m k x e =
      ap len (with_key m k x e)
      ∙ (len-insert nat_cmp_total (remove m k) k x
      ∙ ap (λ b. cond b (len (remove m k)) (len (remove m k) + 1)) (ap is_some (get_remove m k k ∙ ap (λ b. cond b None (get m k)) (eq-eqb k k refl))))

  -- the first key is this one or a greater one
  abbrev pub From : ℕ → List (ℕ × X) → Type 0
  From low [] = Unit {0}
  From low (e ∷ es) = low ≤ e.0

  pub put_first : (k : ℕ) (x : X) (es : List (ℕ × X)) → From (suc k) es → put nat_cmp k x es ≡ (k, x) ∷ es
  put_first k x [] h = refl
  put_first k x (e ∷ es) h =
      ap (λ b. by_order (cond b Less (cond (k == e.0) Equal Greater)) ((k, x) ∷ (e ∷ es)) ((e.0, x) ∷ es) (e ∷ put nat_cmp k x es)) (lt-ltb k e.0 (omega (arith, h)))

  -- a map with the ids of devices in order has them as its keys in that order
  keys_in_order : (low : ℕ) (ds : Volumes) (m : FinMap nat_cmp X) → DevicesAscend low ds → ((id : ℕ) → is_some (get m id) ≡ is_some (device_of id ds))
      → From low (entries m) × (map (λ (e : ℕ × X). e.0) (entries m) ≡ map (λ (d : DeviceSlots). d.id) ds)
  keys_in_order low [] m a same =
      let e : entries m ≡ [] = ap entries (same_nat_map m empty (λ q. none_here (get m q) (same q) ∙ sym (get_empty q))) ∙ entries_empty in
      (subst (From low) (sym e) tt, ap (λ es. map (λ (x : ℕ × X). x.0) es) e)
  keys_in_order low (d ∷ ds) m a same =
      let here = some_here (get m d.id) (same d.id ∙ ap is_some (device_here d.id d ds refl)) in
      let rest = keys_in_order (suc d.id) ds (remove m d.id) a.2 (λ q. without q (cases_eq q d.id)) in
      let e : entries m ≡ (d.id, here.0) ∷ entries (remove m d.id) =
      ap entries (with_key m d.id here.0 here.1) ∙ (entries_insert (remove m d.id) d.id here.0 ∙ put_first d.id here.0 (entries (remove m d.id)) rest.0) in (
        subst (From low) (sym e) a.0,
        ap (λ es. map (λ (x : ℕ × X). x.0) es) e ∙ ap (λ ns. d.id ∷ ns) rest.1,
      )
    where
      without : (q : ℕ) → (q ≡ d.id) ⊎ (q ≢ d.id) → is_some (get (remove m d.id) q) ≡ is_some (device_of q ds)
      without q (inl s) =
          let low : q < suc d.id = omega (arith, s) in
          ap is_some (get_remove m d.id q ∙ ap (λ b. cond b None (get m q)) (eq-eqb q d.id s)) ∙ sym (ap is_some (device_below (suc d.id) q ds a.2 low))
      without q (inr n) =
          ap is_some (get_remove m d.id q ∙ ap (λ b. cond b None (get m q)) (ne_eqb q d.id n))
          ∙ (same q ∙ ap is_some (device_later q d ds (λ s. n (sym s))))

-- a test of a part of each element is one of the parts
count_of_parts : {X : Type 0} (test : ℕ → Bool) (f : X → ℕ) (xs : List X) → count_by (λ x. test (f x)) xs ≡ count_by test (map f xs)
count_of_parts test f [] = refl
count_of_parts test f (x ∷ xs) =
    sum_by-cons (λ y. if test (f y) then 1 else 0) x xs
    ∙ (ap (λ (n : ℕ). (if test (f x) then 1 else 0) + n) (count_of_parts test f xs)
    ∙ sym (sum_by-cons (λ n. if test n then 1 else 0) (f x) (map f xs)))

pub count_is_listed : CountIsListed
count_is_listed g c image p within h =
    count_of_parts is_now (λ (e : ℕ × Volume). e.0) (entries p.volumes)
    ∙ (ap (count_by is_now) (keys_in_order 0 c.volumes p.volumes within.ascend (λ id. there_is_listed g c image p id h)).1
    ∙ sym (count_of_parts is_now (λ (d : DeviceSlots). d.id) c.volumes))

-- ---- what a write needs

opposite : (a b : Bool) → (a ≡ true → b ≡ true → ⊥) → (b ≡ false → a ≡ true) → not a ≡ b
opposite true true f k = absurd (f refl refl)
opposite true false f k = refl
opposite false true f k = refl
opposite false false f k = absurd (false≢true (k refl))

module _ (g : Geometry) (c : Contents) (image : List Sector) (p : PlainPool) (limits : IsWithinLimits g) (within : IsWithin g c.volumes) (h : HasContents g c image p) (id : ℕ) where
  pos : 0 < g.block_sectors
  pos = omega (arith, limits.block_least)

  -- a block is not exclusive exactly where it wants a data block
  wants_by : (block : ℕ) (o : Option ℕ) → slot_of id block c.volumes ≡ o → not (is_exclusive p id block) ≡ option_map_or (λ place. is_used_elsewhere id block place c.volumes) o true
  wants_by block None e = opposite (is_exclusive p id block) true
      (λ x t. no_value (slot_at p id block) (h.slots id block ∙ e) ((Decides-is_exclusive p id block).0 x).mapped)
      (λ f. absurd (true≢false f))
  wants_by block (Some place) e = opposite (is_exclusive p id block) (is_used_elsewhere id block place c.volumes)
      (λ x t.
      let r = slot_from_elsewhere id block place c.volumes within.ascend t in
      not_shared g c image p h id block place e ((Decides-is_exclusive p id block).0 x) (r.0, r.1, r.2, r.3))
      (λ f. (Decides-is_exclusive p id block).1 (exclusive g c image p h id block place e
      (λ other. true≢false (sym (elsewhere_from_slot id block other.0 other.1 place c.volumes other.2 other.3) ∙ f))))

  -- a request that leaves blocks as they are that its range does not touch
  module _ (call : Call) (sector count : ℕ) (idle : (block : ℕ) (o : Option ℕ) → touches g sector count block ≡ false → is_owning (slot_effect g call block o) ≡ false)
      (there : IsSome (device_of id c.volumes)) (inside : sector + count ≤ own_sectors g c.volumes id) where
    abbrev test : ℕ → Bool
    test = λ block. is_owning (effect_at p call id block) && not (is_exclusive p id block)

    abbrev listed : ℕ → Bool
    listed = λ block. owns_block g call id c.volumes block && wants_block id c.volumes block

    owns_is : (block : ℕ) → is_owning (effect_at p call id block) ≡ owns_block g call id c.volumes block
    owns_is block = (λ i. is_owning (slot_effect (h.geometry i) call block (h.slots id block i)))

    test_is : (block : ℕ) → test block ≡ listed block
    test_is block = (λ i. owns_is block i && wants_by block (slot_of id block c.volumes) refl i)

    none_by : (block : ℕ) → touches g sector count block ≡ false → test block ≡ false
    none_by block e = ap (λ b. b && not (is_exclusive p id block)) (owns_is block ∙ idle block (slot_of id block c.volumes) e)

    pub need_by : need p call id ≡ blocks_wanted_by g call id c.volumes (first_block g sector) (blocks_touched g sector count)
    need_by =
        let b = sector / g.block_sectors in
        let k = blocks_touched g sector count in
        let blocks : length (volume_sectors p id) / p.geometry.block_sectors ≡ own_blocks g c.volumes id =
        (λ i. length_is g c image p h id there i / (h.geometry i).block_sectors) ∙ whole_blocks g (own_blocks g c.volumes id) pos in
        ap (λ m. count_by test (range_with_len 0 m)) blocks
        ∙ (count_part test b k (own_blocks g c.volumes id) (touched_fit g (own_blocks g c.volumes id) sector count pos inside)
        (λ v lt. none_by v (not_touched_before g sector count v lt))
        (λ v le. none_by v (not_touched_behind g sector count v pos le))
        ∙ count_agree_from test listed b k (λ v low high. test_is v))

-- a write gives each block that it touches a data block of its own
pub need_is_wanted : NeedIsWanted
need_is_wanted g c image p limits within h id sector sectors fua there inside =
    let n = length sectors in
    let b = sector / g.block_sectors in
    let call = Write id sector sectors fua in
    let pos : 0 < g.block_sectors = omega (arith, limits.block_least) in
    need_by g c image p limits within h id call sector n (λ block o e. (λ i. is_owning (cond (e i) Owns Keeps))) there inside
    ∙ count_agree_from (λ block. owns_block g call id c.volumes block && wants_block id c.volumes block) (wants_block id c.volumes) b (blocks_touched g sector n)
    (λ v low high. (λ i. is_owning (cond (touched_inside g sector n v pos low high i) Owns Keeps) && wants_block id c.volumes v))

-- so much of a request of zeros: a block that lies wholly in it may lose its data block, and one that has none may stay so
idle_zeroes : (g : Geometry) (id sector count : ℕ) (no_hole fua : Bool) (block : ℕ) (o : Option ℕ) → touches g sector count block ≡ false → is_owning (slot_effect g (WriteZeroes id sector count no_hole fua) block o) ≡ false
idle_zeroes g id sector count true fua block o e = (λ i. is_owning (cond (e i) Owns Keeps))
idle_zeroes g id sector count false fua block o e =
    (λ i. is_owning (cond (covers g sector count block) Loses (cond (e i && is_some o) Owns Keeps))) ∙ by (covers g sector count block)
  where
    by : (b : Bool) → is_owning (cond b Loses Keeps) ≡ false
    by true = refl
    by false = refl

pub need_zeroes : NeedZeroes
need_zeroes g c image p limits within h id sector count no_hole fua there inside =
    need_by g c image p limits within h id (WriteZeroes id sector count no_hole fua) sector count (idle_zeroes g id sector count no_hole fua) there inside
