-- What one volume of a plain pool shows, written and read.
use Rattle.std.proofs.Common.{◌≡◌, ◌⊎◌, inl, inr, ℕ, ◌+◌, ◌-◌, ◌/◌, ◌%◌, ◌^◌, ◌++◌, ◌<◌, ◌≤◌, Bool, true, false, cond, Option, Some, None, List, [], ◌∷◌, length, map, take, drop, get_or, refl, sym, ap, subst, ◌∙◌, arith}
use Rattle.std.specs.Prelude.{MatchOption, nat_le, nat_lt, not, ◌&&◌}
use Rattle.std.specs.List.{concat, count_by, enumerate_from, flat_map, range_with_len}
use Rattle.std.specs.Option.{is_some, option_map_or}
use Rattle.std.proofs.lemmas.List.Sums.{count_by-le-length}
use Rattle.std.specs.Ordering.{nat_cmp}
use Rattle.std.specs.FinMap.{FinMap, empty, entries, get, insert, len, len-empty, put}
use Rattle.std.proofs.lemmas.Bool.{and_from, and_parts, eq-eqb, false≢true, le-leb, lt-ltb, ltb-true}
use Rattle.std.proofs.lemmas.List.{ext_get_or, get_or_default, get_or-drop, get_or-map, get_or-take, length-drop, length-map, length-replicate, length-take-le}
use Rattle.std.proofs.lemmas.List.FromFn.{get_or-enumerate_from, length-enumerate_from, length-range_with_len}
use Rattle.tp_model.specs.declared.refusal.Refusal.{Refusal}
use Rattle.tp_model.specs.declared.refusal.Refusal.TheVariants.{Exists, Failed, Fault, NoDataSpace, NoMetadataSpace, NoSuchDevice, TooManyDevices}
use Rattle.tp_model.specs.declared.mode.Mode.{Mode}
use Rattle.tp_model.specs.declared.mode.Mode.TheVariants as mode
use Rattle.tp_model.specs.Sectors.{Sector, sectors_of, zero_sector}
use Rattle.tp_model.specs.Pool.{PlainPool, Volume, device_count, different, is_exclusive, is_now, used, volume_sectors}
use Rattle.tp_model.specs.Calls.{Answer, Call, CreateThin, Done, Edits, Gave, Line, Found, Read, Refused, Sized, Listed, Takes, Write, refusal_of, reply, exists, is_within, first_from, Makes, after_refusal, sector_after, new_volume, has_metadata_room, has_data_room, need, effect_at, is_failed, is_owning}
use Rattle.tp_model.proofs.DiskLaws.{concat-chopped, length-sectors_of}
use Rattle.tp_model.proofs.Maps.{entries_empty, entries_insert, get_empty, get_insert}
use Rattle.tp_image.specs.Fresh.{empty_pool}
use Rattle.tp_model.specs.PoolStops.{reopened}
pub use Rattle.tp_pool.proofs.Lasting.{accepts, is_refused, reason_of}
use Rattle.tp_image.specs.Bound.{mapped_in, metadata_bound}
use Rattle.tp_pool.specs.Bounds.{BoundLeavesRoom}
use Rattle.tp_users.specs.Users.{Bears, IsBlank, users_geometry}

-- ---- answers

-- where no test refuses a call, a refusal of it is a fault
pub fault_alone : (s : PlainPool) (call : Call) (reason : Refusal) (made after : PlainPool) → refusal_of s call ≡ None → Takes s call (Refused reason) made after → reason ≡ Fault
fault_alone s call reason made after none (inl step) =
    let h = subst (λ (o : Option Refusal). MatchOption o ((Refused reason ≡ reply s call) × Makes s call after) (λ r. (Refused reason ≡ Refused r) × (after ≡ after_refusal r s))) none step.0 in
    absurd (false≢true (sym (accepts s call) ∙ ap is_refused (sym h.0)))
fault_alone s call reason made after none (inr fault) = ap reason_of fault.0

-- where a test refuses it, another refusal is a fault
pub tested_or_fault : (s : PlainPool) (call : Call) (reason why : Refusal) (made after : PlainPool) → refusal_of s call ≡ Some why → Takes s call (Refused reason) made after
    → (reason ≡ why) ⊎ (reason ≡ Fault)
tested_or_fault s call reason why made after some (inl step) =
    let h = subst (λ (o : Option Refusal). MatchOption o ((Refused reason ≡ reply s call) × Makes s call after) (λ r. (Refused reason ≡ Refused r) × (after ≡ after_refusal r s))) some step.0 in
    inl (ap reason_of h.0)
tested_or_fault s call reason why made after some (inr fault) = inr (ap reason_of fault.0)

pub not_refused : (reason : Refusal) → Done ≡ Refused reason → ⊥
not_refused reason e = false≢true (ap is_refused e)

done_step : (s : PlainPool) (call : Call) (q : PlainPool) (o : Option Refusal)
    → MatchOption o ((Done ≡ reply s call) × Makes s call q) (λ reason. (Done ≡ Refused reason) × (q ≡ after_refusal reason s)) → Makes s call q
done_step s call q None h = h.1
done_step s call q (Some reason) h = absurd (false≢true (ap is_refused h.0))

-- a call that is done makes the state after it
pub done_makes : (s : PlainPool) (call : Call) (made after : PlainPool) → Takes s call Done made after → Makes s call after
done_makes s call made after (inl step) = done_step s call after (refusal_of s call) step.0
done_makes s call made after (inr fault) = absurd (false≢true (ap is_refused fault.0))

-- ---- what was written

pub within : (at n k : ℕ) → at ≤ k → k < at + n → is_within at n k ≡ true
within at n k low high = and_from _ _ (le-leb at k low) (lt-ltb k (at + n) high)

pub overlaid_at : (xs zs : List Sector) (at : ℕ) → at + length xs ≤ length zs
    → take (length xs) (drop at (map (λ (e : ℕ × Sector). cond (is_within at (length xs) e.0) (get_or xs (e.0 - at) e.1) e.1) (enumerate_from 0 zs))) ≡ xs
overlaid_at xs zs at fits =
    let n = length xs in
    let f : ℕ × Sector → Sector = λ e. cond (is_within at n e.0) (get_or xs (e.0 - at) e.1) e.1 in
    let es = enumerate_from 0 zs in
    let many : length es ≡ length zs = length-enumerate_from 0 zs in
    let long : length (map f es) ≡ length zs = length-map es f ∙ many in
    let part : length (drop at (map f es)) ≡ length zs - at = length-drop at (map f es) ∙ ap (λ m. m - at) long in
    let took : length (take n (drop at (map f es))) ≡ n = length-take-le n (drop at (map f es)) (omega (arith, part, fits)) in
    ext_get_or [] (take n (drop at (map f es))) xs took
    (λ i lt.
    let low : i < n = omega (arith, lt, took) in
    let inside : at + i < length zs = omega (arith, low, fits) in
    let here : at + i < length es = omega (arith, inside, many) in
    let from_zero : 0 + (at + i) ≡ at + i = omega arith in
    let told : get_or es (at + i) (0, []) ≡ (at + i, get_or zs (at + i) []) = get_or-enumerate_from 0 zs (at + i) (0, []) inside ∙ (λ j. (from_zero j, get_or zs (at + i) [])) in
    let back : at + i - at ≡ i = omega arith in
    get_or-take n (drop at (map f es)) i [] low
    ∙ get_or-drop at (map f es) i []
    ∙ get_or-map f es (at + i) (0, []) [] here
    ∙ ap f told
    ∙ ap (λ b. cond b (get_or xs (at + i - at) (get_or zs (at + i) [])) (get_or zs (at + i) [])) (within at n (at + i) (omega arith) (omega (arith, low)))
    ∙ ap (λ m. get_or xs m (get_or zs (at + i) [])) back
    ∙ get_or_default xs i (get_or zs (at + i) []) [] low)

-- ---- a pool with one volume

abbrev pub blank : ℕ → ℕ → PlainPool
blank id meta_used = record (empty_pool users_geometry) { volumes = insert empty id (new_volume users_geometry); meta_used = meta_used }

at_own : {X : Type 0} (m : FinMap nat_cmp X) (id : ℕ) (v : X) → get (insert m id v) id ≡ Some v
at_own m id v = get_insert m id v id ∙ ap (λ b. cond b (Some v) (get m id)) (eq-eqb id id refl)

-- a volume of an id that a device may have is there where it is listed
pub device_there : (s : PlainPool) (id : ℕ) → id < 2 ^ 24 → is_some (get s.volumes id) ≡ true → exists s id ≡ true
device_there s id low there = and_from (is_now id) (is_some (get s.volumes id)) (lt-ltb id (2 ^ 24) low) there

-- and each that is there has one
pub is_device : (s : PlainPool) (id : ℕ) → exists s id ≡ true → id < 2 ^ 24
is_device s id there = ltb-true id (2 ^ 24) (and_parts (is_now id) (is_some (get s.volumes id)) there).0

pub there_is : (id meta_used : ℕ) → id < 2 ^ 24 → exists (blank id meta_used) id ≡ true
there_is id meta_used low = device_there (blank id meta_used) id low (ap is_some (at_own empty id (new_volume users_geometry)))

-- and it is the least from its id on
pub least_is : (id meta_used : ℕ) → id < 2 ^ 24 → first_from id (entries (blank id meta_used).volumes) ≡ Some id
least_is id meta_used low =
    let v = new_volume users_geometry in
    let fits : id ≤ id = omega arith in
    ap (first_from id) (entries_insert empty id v ∙ ap (put nat_cmp id v) entries_empty) ∙ ap (λ (b : Bool). cond b (Some id) None) (and_from (nat_le id id) (is_now id) (le-leb id id fits) (lt-ltb id (2 ^ 24) low))

pub blank_sectors : (id meta_used : ℕ) → length (volume_sectors (blank id meta_used) id) ≡ 2048
blank_sectors id meta_used =
    ap (λ (o : Option Volume). length (option_map_or (λ v. v.sectors) o [])) (at_own empty id (new_volume users_geometry))
    ∙ length-replicate {A = Sector} 2048 zero_sector

-- none of its blocks has a data block
blank_used : (id meta_used : ℕ) → used (blank id meta_used) ≡ 0
blank_used id meta_used =
    let v = new_volume users_geometry in
    ap (λ (es : List (ℕ × Volume)). different (map (λ (s : ℕ × ℕ × ℕ). s.2) (flat_map (λ e. map (λ x. (e.0, x.0, x.1)) (entries e.1.slots)) es)))
    (entries_insert empty id v ∙ ap (put nat_cmp id v) entries_empty)
    ∙ ap (λ (es : List (ℕ × ℕ)). different (map (λ (s : ℕ × ℕ × ℕ). s.2) (map (λ x. (id, x.0, x.1)) es ++ []))) entries_empty

-- so there is room for each block of it
roomy : (id meta_used : ℕ) (call : Call) → has_data_room (blank id meta_used) call id ≡ true
roomy id meta_used call =
    let p = blank id meta_used in
    let blocks = range_with_len 0 (length (volume_sectors p id) / 128) in
    let many : length blocks ≡ 16 = length-range_with_len 0 (length (volume_sectors p id) / 128) ∙ ap (λ n. n / 128) (blank_sectors id meta_used) in
    let most : need p call id ≤ length blocks = count_by-le-length (λ block. is_owning (effect_at p call id block) && not (is_exclusive p id block)) blocks in
    le-leb (used p + need p call id) 16 (omega (arith, most, many, blank_used id meta_used))

-- a volume may be created in a pool without one
no_device : (low : Bool) → (low && false) ≡ false
no_device true = refl
no_device false = refl

pub creatable : (id : ℕ) → refusal_of (empty_pool users_geometry) (CreateThin id) ≡ None
creatable id =
    ap (λ (b : Bool). cond b (Some Exists) (cond (nat_le 65536 (device_count (empty_pool users_geometry))) (Some TooManyDevices) None)) (ap (λ (o : Option Volume). is_now id && is_some o) (get_empty {X = Volume} id) ∙ no_device (is_now id))
    ∙ ap (λ (es : List (ℕ × Volume)). cond (nat_le 65536 (count_by (λ e. is_now e.0) es)) (Some TooManyDevices) None) entries_empty

-- the tests of a write to it: there may be no metadata room, and no other fails
by_room : (room : Bool) (some : Bool) → (cond (some && not room) (Some NoMetadataSpace) None ≡ None) ⊎ (cond (some && not room) (Some NoMetadataSpace) None ≡ Some NoMetadataSpace)
by_room true true = inl refl
by_room true false = inl refl
by_room false true = inr refl
by_room false false = inl refl

abbrev pub IsRoomTested : PlainPool → Call → Type 0
IsRoomTested s call = (refusal_of s call ≡ None) ⊎ (refusal_of s call ≡ Some NoMetadataSpace)

write_tests : (id meta_used sector : ℕ) (xs : List Sector) → id < 2 ^ 24 → IsRoomTested (blank id meta_used) (Write id sector xs false)
write_tests id meta_used sector xs low =
    let p = blank id meta_used in
    let call = Write id sector xs false in
    let tests : refusal_of p call ≡ cond (nat_lt 0 (length xs) && not (has_metadata_room p 512)) (Some NoMetadataSpace) None =
    ap (λ (b : Bool). cond (not b) (Some NoSuchDevice) (cond (nat_lt 0 (length xs) && not (has_metadata_room p 512)) (Some NoMetadataSpace) (cond (not (has_data_room p call id)) (Some NoDataSpace) None))) (there_is id meta_used low)
    ∙ ap (λ (b : Bool). cond (nat_lt 0 (length xs) && not (has_metadata_room p 512)) (Some NoMetadataSpace) (cond (not b) (Some NoDataSpace) None)) (roomy id meta_used call) in
    subst (λ (o : Option Refusal). (o ≡ None) ⊎ (o ≡ Some NoMetadataSpace)) (sym tests) (by_room (has_metadata_room p 512) (nat_lt 0 (length xs)))

-- so its volume uses 10 metadata blocks at most
blank_bound : (id meta_used : ℕ) → metadata_bound users_geometry (mapped_in (blank id meta_used)) ≡ 10
blank_bound id meta_used =
    ap (λ (es : List (ℕ × Volume)). metadata_bound users_geometry (map (λ (e : ℕ × Volume). len e.1.slots) es))
    (entries_insert empty id (new_volume users_geometry) ∙ ap (put nat_cmp id (new_volume users_geometry)) entries_empty)
    ∙ ap (λ (n : ℕ). metadata_bound users_geometry (n ∷ [])) (len-empty nat_cmp ℕ)

room_beside : (n : ℕ) → n ≡ 10 → n + 512 ≤ 2048
room_beside n is = omega (arith, is)

pub blank_leaves : (id sector : ℕ) (xs : List Sector) (s : PlainPool) → IsBlank id s → BoundLeavesRoom s (Write id sector xs false)
blank_leaves id sector xs s is =
    subst (λ (p : PlainPool). BoundLeavesRoom p (Write id sector xs false)) (sym is.1) (refl, room_beside (metadata_bound users_geometry (mapped_in (blank id is.0))) (blank_bound id is.0))

pub writable : (id sector : ℕ) (xs : List Sector) (s : PlainPool) → id < 2 ^ 24 → IsBlank id s → IsRoomTested s (Write id sector xs false)
writable id sector xs s low is = subst (λ (p : PlainPool). IsRoomTested p (Write id sector xs false)) (sym is.1) (write_tests id is.0 sector xs low)

-- a pool that works bears what was written to a volume of it
pub put_is_borne : (id sector : ℕ) (bytes : List ℕ) (s q : PlainPool) → id < 2 ^ 24 → s.geometry ≡ users_geometry → s.mode ≡ mode.Writable → s.needs_check ≡ false
    → sector + length bytes / 512 ≤ length (volume_sectors s id) → Edits s (Write id sector (sectors_of bytes) false) id q → Bears id sector bytes q
put_is_borne id sector bytes s q low sizes works clean fits e =
    let xs = sectors_of bytes in
    let many : length xs ≡ length bytes / 512 = length-sectors_of bytes in
    let zs = volume_sectors s id in
    let f : ℕ × Sector → Sector = λ x. sector_after s.geometry (Write id sector xs false) x.0 x.1 in
    let made : volume_sectors q id ≡ map f (enumerate_from 0 zs) = ap (λ (o : Option Volume). option_map_or (λ v. v.sectors) o []) e.volume in
    let long : length (volume_sectors q id) ≡ length zs = ap length made ∙ length-map (enumerate_from 0 zs) f ∙ length-enumerate_from 0 zs in
    record {
      geometry = ap (λ (p : PlainPool). p.geometry) e.rest ∙ sizes;
      works = ap (λ (p : PlainPool). p.mode) e.rest ∙ works;
      clean = ap (λ (p : PlainPool). p.needs_check) e.rest ∙ clean;
      there = device_there q id low (ap is_some e.volume);
      inside = omega (arith, long, fits);
      bytes_are = ap (λ n. take n (drop sector (volume_sectors q id))) (sym many) ∙ ap (λ l. take (length xs) (drop sector l)) made ∙ overlaid_at xs zs sector (omega (arith, many, fits));
    }

-- it bears what was written to it
pub written_is_borne : (id sector : ℕ) (bytes : List ℕ) (s q : PlainPool) → id < 2 ^ 24 → IsBlank id s → sector + length bytes / 512 ≤ 2048
    → Edits s (Write id sector (sectors_of bytes) false) id q → Bears id sector bytes q
written_is_borne id sector bytes s q low is fits e =
    let long : length (volume_sectors s id) ≡ 2048 = ap (λ (p : PlainPool). length (volume_sectors p id)) is.1 ∙ blank_sectors id is.0 in
    put_is_borne id sector bytes s q low (ap (λ (p : PlainPool). p.geometry) is.1) (ap (λ (p : PlainPool). p.mode) is.1) (ap (λ (p : PlainPool). p.needs_check) is.1) (omega (arith, long, fits)) e

-- what is opened again bears it too
pub reopened_bears : (id sector : ℕ) (bytes : List ℕ) (s P : PlainPool) → Bears id sector bytes s → P ≡ reopened s → Bears id sector bytes P
reopened_bears id sector bytes s P b is = record {
  geometry = ap (λ (p : PlainPool). p.geometry) is ∙ b.geometry;
  works = ap (λ (p : PlainPool). p.mode) is ∙ ap (λ (c : Bool). cond c mode.ReadOnly mode.Writable) b.clean;
  clean = ap (λ (p : PlainPool). p.needs_check) is ∙ b.clean;
  there = ap (λ (p : PlainPool). exists p id) is ∙ b.there;
  inside = subst (λ (p : PlainPool). sector + length bytes / 512 ≤ length (volume_sectors p id)) (sym is) b.inside;
  bytes_are = ap (λ (p : PlainPool). take (length bytes / 512) (drop sector (volume_sectors p id))) is ∙ b.bytes_are;
}

-- ---- what is read

-- no test refuses a read of it
pub readable : (id sector count : ℕ) (bytes : List ℕ) (s : PlainPool) → Bears id sector bytes s → refusal_of s (Read id sector count) ≡ None
readable id sector count bytes s b =
    ap (λ (m : Mode). cond (is_failed m) (Some Failed) (cond (not (exists s id)) (Some NoSuchDevice) None)) b.works
    ∙ ap (λ (t : Bool). cond (not t) (Some NoSuchDevice) None) b.there

abbrev pub sectors_in : Answer → List Sector
sectors_in (Gave sectors) = sectors
sectors_in Done = []
sectors_in (Line bytes) = []
sectors_in (Found id) = []
sectors_in (Sized blocks) = []
sectors_in (Listed slots) = []
sectors_in (Refused reason) = []

-- the bytes are those that it bears
pub read_gives : (id sector n : ℕ) (bytes out : List ℕ) (s made after : PlainPool) → Bears id sector bytes s → n ≡ length bytes / 512 → length bytes % 512 ≡ 0 → length out ≡ length bytes
    → Takes s (Read id sector n) (Gave (sectors_of out)) made after → out ≡ bytes
read_gives id sector n bytes out s made after b many whole long (inl step) =
    let call = Read id sector n in
    let h = subst (λ (o : Option Refusal). MatchOption o ((Gave (sectors_of out) ≡ reply s call) × Makes s call after) (λ r. (Gave (sectors_of out) ≡ Refused r) × (after ≡ after_refusal r s))) (readable id sector n bytes s b) step.0 in
    let same : sectors_of out ≡ sectors_of bytes = ap sectors_in h.0 ∙ ap (λ m. take m (drop sector (volume_sectors s id))) many ∙ b.bytes_are in
    sym (concat-chopped (length out / 512) out (omega (arith, long, whole))) ∙ ap concat same ∙ concat-chopped (length bytes / 512) bytes (omega (arith, whole))
read_gives id sector n bytes out s made after b many whole long (inr fault) = absurd (false≢true (ap is_refused fault.0))
