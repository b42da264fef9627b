-- A volume that grows: what it shows, and that there is room for it.
use Rattle.std.proofs.Common.{◌≡◌, ◌⊎◌, inl, inr, ℕ, ◌+◌, ◌-◌, ◌*◌, ◌/◌, ◌^◌, ◌==◌, ◌++◌, ◌<◌, ◌≤◌, Bool, true, false, cond, Option, Some, None, List, [], ◌∷◌, length, map, take, drop, replicate, Result, Ok, Err, refl, sym, ap, subst, ◌∙◌, arith}
use Rattle.std.specs.Prelude.{IfErr, MatchResult, OnOk, T, nat_lt, not, ◌||◌}
use Rattle.std.specs.List.{enumerate_from, list_all}
use Rattle.std.specs.Option.{is_some, option_map, option_map_or, unwrap_or}
use Rattle.std.specs.declared.cmp.Ordering.TheVariants.{Equal, Greater, Less}
use Rattle.std.specs.Ordering.{is_lt, nat_cmp}
use Rattle.std.specs.FinMap.{FinMap, empty, entries, entries_sorted, get, insert, is_sorted, len, put}
use Rattle.std.specs.FinMap.Entries.{below_all}
use Rattle.std.proofs.lemmas.Bool.{and_parts, eq-eqb, eqb-true, false≢true, le-ltb, lt-ltb, ltb-true}
use Rattle.std.proofs.lemmas.Option.{same_Some}
use Rattle.std.proofs.lemmas.List.{drop-drop, drop-replicate, drop_at, length-append, length-map, length-replicate, take-replicate}
use Rattle.std.proofs.lemmas.List.FromFn.{length-enumerate_from}
use Rattle.tp_model.specs.declared.mode.Mode.{Mode}
use Rattle.tp_model.specs.declared.mode.Mode.TheVariants as mode
use Rattle.tp_model.specs.declared.refusal.Refusal.{Refusal}
use Rattle.tp_model.specs.declared.refusal.Refusal.TheVariants.{BadSize, Busy, Failed, NoMetadataSpace, NoSuchDevice, ReadOnly}
use Rattle.tp_model.specs.Geometry.{Geometry}
use Rattle.tp_model.specs.Sectors.{Sector, sectors_of, zero_sector}
use Rattle.tp_model.specs.Pool.{IsShaped, PlainPool, Volume, hold_count, volume_sectors, volume_slots}
use Rattle.tp_model.specs.Calls.{Call, Done, Edits, Gave, Grow, Grows, Read, Refused, Takes, Write, exists, grown, has_metadata_room, is_failed, is_read_only, new_volume, refusal_of, sector_after, volume_blocks, volume_of}
use Rattle.tp_model.specs.Clauses.{EndsInVolume}
use Rattle.tp_model.specs.PoolStops.{reopened}
use Rattle.tp_model.specs.Disk.{Cell, DiskState}
use Rattle.tp_model.specs.DiskStops.{AfterStop}
use Rattle.tp_model.proofs.Maps.{all_entries_from, both_hold, entries_empty, entries_insert, get_empty, get_insert, len_is_length, same_nat_map}
use Rattle.tp_model.proofs.Found.{MayReopen-nothing}
use Rattle.tp_image.specs.Bound.{mapped_in, metadata_bound}
use Rattle.tp_image.specs.Stands.{StandsFor}
use Rattle.tp_meta.specs.declared.whole.Meta.{Meta}
use Rattle.tp_meta.specs.Framing.{stands_one}
use Rattle.tp_meta.specs.Standing as metadata
use Rattle.tp_meta.specs.Standing.{geometry_of}
use Rattle.tp_pool.specs.Bounds.{BoundLeavesRoom}
use Rattle.tp_pool.specs.Held.{Held, PoolCalled, PoolRefused, moment_of, view}
use Rattle.tp_pool.specs.Shown.{at_now, one_size, shown, wider}
use Rattle.tp_users.specs.Users.{IsBlank, IsGrown, IsLeftAs, IsOutside, users_geometry}
use Rattle.tp_users.proofs.Given.{RoomLasts, Shows, made_after}
use Rattle.tp_users.proofs.Plain.{blank, blank_sectors, device_there, done_makes, fault_alone, tested_or_fault}
use Rattle.tp_users.proofs.Unchanged.{plainly}

-- ---- how many keys below a bound a map has

less : (b c : Bool) → T (is_lt (cond b Less (cond c Equal Greater))) → b ≡ true
less true c h = refl
less false true h = absurd h
less false false h = absurd h

below : (a b : ℕ) → T (is_lt (nat_cmp a b)) → a < b
below a b h = ltb-true a b (less (nat_lt a b) (a == b) h)

module _ {X : Type 0} (n : ℕ) where
  few_from : (a : ℕ) (es : List (ℕ × X)) → a < n → T (below_all nat_cmp a es) → T (is_sorted nat_cmp es) → list_all (λ e. nat_lt e.0 n) es ≡ true → a + 1 + length es ≤ n
  few_from a [] low first s all = omega (arith, low)
  few_from a (e ∷ es) low first s all =
      let f = both_hold (is_lt (nat_cmp a e.0)) (below_all nat_cmp a es) first in
      let p = both_hold (below_all nat_cmp e.0 es) (is_sorted nat_cmp es) s in
      let q = and_parts (nat_lt e.0 n) (list_all (λ (x : ℕ × X). nat_lt x.0 n) es) all in
      let more = below a e.0 f.0 in
      let rest = few_from e.0 es (ltb-true e.0 n q.0) p.0 p.1 q.1 in
      omega (arith, more, rest)

  few_entries : (es : List (ℕ × X)) → T (is_sorted nat_cmp es) → list_all (λ e. nat_lt e.0 n) es ≡ true → length es ≤ n
  few_entries [] s all = omega arith
  few_entries (e ∷ es) s all =
      let p = both_hold (below_all nat_cmp e.0 es) (is_sorted nat_cmp es) s in
      let q = and_parts (nat_lt e.0 n) (list_all (λ (x : ℕ × X). nat_lt x.0 n) es) all in
      let rest = few_from e.0 es (ltb-true e.0 n q.0) p.0 p.1 q.1 in
      omega (arith, rest)

  few_keys : (m : FinMap nat_cmp X) → ((k : ℕ) (x : X) → get m k ≡ Some x → k < n) → len m ≤ n
  few_keys m h =
      let few = few_entries (entries m) (entries_sorted m) (all_entries_from (λ e. nat_lt e.0 n) m (λ k x f. lt-ltb k n (h k x f))) in
      omega (arith, few, len_is_length m)

-- ---- a blank pool whose volume was written to

pub record IsFilled (id : ℕ) (s : PlainPool) : Type 0 where
  pub low : id < 2 ^ 24
  pub geometry : s.geometry ≡ users_geometry
  pub works : s.mode ≡ mode.Writable
  pub clean : s.needs_check ≡ false
  pub free : s.holds ≡ empty
  pub unheld : s.held_root ≡ 0
  pub volume : Volume
  pub volumes : s.volumes ≡ insert empty id volume
  pub long : length (volume_sectors s id) ≡ 2048
  pub few : len volume.slots ≤ 16

works_on : (m : Mode) → m ≡ mode.Writable → m ≡ mode.Failed → ⊥
works_on m works failed = false≢true (sym (ap is_failed works) ∙ ap is_failed failed)

shape : (h : Held Meta) (s : PlainPool) → s.mode ≡ mode.Writable → Shows h s → IsShaped s
shape h s works (inl w) = w.2.sound.shaped
shape h s works (inr f) = absurd (works_on s.mode works f.mode_is)

at_own : {X : Type 0} (m : FinMap nat_cmp X) (id : ℕ) (v : X) → get (insert m id v) id ≡ Some v
at_own m id v = get_insert m id v id ∙ ap (λ b. cond b (Some v) (get m id)) (eq-eqb id id refl)

block_below : (block n long : ℕ) → n ≡ 128 → long ≡ 2048 → (block + 1) * n ≤ long → block < 16
block_below block n long is all fits =
    let at : (block + 1) * 128 ≤ long = subst (λ (k : ℕ). (block + 1) * k ≤ long) is fits in omega (arith, at, all)

module _ (id meta_used sector : ℕ) (xs : List Sector) (q : PlainPool) (e : Edits (blank id meta_used) (Write id sector xs false) id q) where
  sizes : q.geometry ≡ users_geometry
  sizes = ap (λ (p : PlainPool). p.geometry) e.rest

  abbrev left : Volume
  left = record {
    sectors = map (λ (x : ℕ × Sector). sector_after users_geometry (Write id sector xs false) x.0 x.1) (enumerate_from 0 (volume_sectors (blank id meta_used) id));
    slots = volume_slots q id;
  }

  all : length left.sectors ≡ 2048
  all =
      length-map (enumerate_from 0 (volume_sectors (blank id meta_used) id)) (λ (x : ℕ × Sector). sector_after users_geometry (Write id sector xs false) x.0 x.1)
      ∙ length-enumerate_from 0 (volume_sectors (blank id meta_used) id) ∙ blank_sectors id meta_used

  abbrev lone : FinMap nat_cmp Volume
  lone = insert empty id left

  abbrev none : FinMap nat_cmp Volume
  none = empty

  at_each : (i : ℕ) (b : Bool) → (i == id) ≡ b → get q.volumes i ≡ get lone i
  at_each i true is =
      ap (get q.volumes) (eqb-true i id is) ∙ e.volume
      ∙ sym (get_insert none id left i ∙ ap (λ (b : Bool). cond b (Some left) (get none i)) is)
  at_each i false is =
      e.others i (λ same. false≢true (sym is ∙ eq-eqb i id same))
      ∙ get_insert none id (new_volume users_geometry) i ∙ ap (λ (b : Bool). cond b (Some (new_volume users_geometry)) (get none i)) is
      ∙ sym (get_insert none id left i ∙ ap (λ (b : Bool). cond b (Some left) (get none i)) is)

  filled_blank : id < 2 ^ 24 → IsShaped q → IsFilled id q
  filled_blank low shaped = record {
    low = low;
    geometry = sizes;
    works = ap (λ (p : PlainPool). p.mode) e.rest;
    clean = ap (λ (p : PlainPool). p.needs_check) e.rest;
    free = ap (λ (p : PlainPool). p.holds) e.rest;
    unheld = ap (λ (p : PlainPool). p.held_root) e.rest;
    volume = left;
    volumes = same_nat_map q.volumes lone (λ i. at_each i (i == id) refl);
    long = ap (λ (o : Option Volume). length (option_map_or (λ v. v.sectors) o [])) e.volume ∙ all;
    few = few_keys 16 left.slots (λ k x f. block_below k q.geometry.block_sectors (length left.sectors) (ap (λ (g : Geometry). g.block_sectors) sizes) all ((shaped id left e.volume).inside k x f));
  }

pub filled : (old new : Held Meta) (id sector : ℕ) (xs : List Sector) → id < 2 ^ 24 → ((s : PlainPool) × IsBlank id s × Shows old s)
    → PoolCalled geometry_of metadata.StandsFor old new (Write id sector xs false) Done → (s : PlainPool) × IsFilled id s × Shows new s
filled old new id sector xs low w called =
    let m = called.called.meets w.0 w.2 in
    let q = m.1 in
    let e : Edits (blank id w.1.0) (Write id sector xs false) id q =
    subst (λ (p : PlainPool). Edits p (Write id sector xs false) id q) w.1.1 (done_makes w.0 (Write id sector xs false) m.0 q m.2) in
    (q, filled_blank id w.1.0 sector xs q e low (shape new q (ap (λ (p : PlainPool). p.mode) e.rest) m.3), m.3)

-- ---- it may grow

module _ (id : ℕ) (s : PlainPool) (f : IsFilled id s) where
  mapped : mapped_in s ≡ len f.volume.slots ∷ []
  mapped =
      ap (λ (vs : FinMap nat_cmp Volume). map (λ (e : ℕ × Volume). len e.1.slots) (entries vs)) f.volumes
      ∙ ap (λ (es : List (ℕ × Volume)). map (λ (e : ℕ × Volume). len e.1.slots) es) (entries_insert empty id f.volume ∙ ap (put nat_cmp id f.volume) entries_empty)

  bound : (n : ℕ) → n ≤ 16 → metadata_bound users_geometry (n ∷ []) + 512 ≤ 2048
  bound n small = omega (arith, small)

  leaves : (blocks : ℕ) → BoundLeavesRoom s (Grow id blocks)
  leaves blocks = (
    f.unheld,
    subst (λ (g : Geometry). metadata_bound g (mapped_in s) + 512 ≤ g.metadata_blocks) (sym f.geometry)
        (subst (λ (ms : List ℕ). metadata_bound users_geometry ms + 512 ≤ 2048) (sym mapped) (bound (len f.volume.slots) f.few)),
  )

  there_is : exists s id ≡ true
  there_is = device_there s id f.low (ap (λ (vs : FinMap nat_cmp Volume). is_some (get vs id)) f.volumes ∙ ap is_some (at_own empty id f.volume))

  none_held : hold_count s.holds id ≡ 0
  none_held = ap (λ (m : FinMap nat_cmp ℕ). hold_count m id) f.free ∙ ap (λ (o : Option ℕ). unwrap_or o 0) (get_empty id)

  sixteen : volume_blocks s id ≡ 16
  sixteen = ap (λ (n : ℕ). n / s.geometry.block_sectors) f.long ∙ ap (λ (g : Geometry). 2048 / g.block_sectors) f.geometry

  by_room : (b : Bool) → (cond (not b) (Some NoMetadataSpace) None ≡ None) ⊎ (cond (not b) (Some NoMetadataSpace) None ≡ Some NoMetadataSpace)
  by_room true = inl refl
  by_room false = inr refl

  tests : (blocks : ℕ) → 16 ≤ blocks → blocks ≤ 2 ^ 24 → refusal_of s (Grow id blocks) ≡ cond (not (has_metadata_room s 512)) (Some NoMetadataSpace) None
  tests blocks least most =
      let room : Option Refusal = cond (not (has_metadata_room s 512)) (Some NoMetadataSpace) None in
      let size : Bool = nat_lt blocks (volume_blocks s id) || nat_lt 16777216 blocks in
      let small : nat_lt blocks (volume_blocks s id) ≡ false = le-ltb blocks (volume_blocks s id) (omega (arith, sixteen, least)) in
      let great : nat_lt 16777216 blocks ≡ false = le-ltb 16777216 blocks (omega (arith, most)) in
      let fits : size ≡ false = ap (λ (b : Bool). b || nat_lt 16777216 blocks) small ∙ great in
      ap (λ (m : Mode). cond (is_failed m) (Some Failed) (cond (is_read_only m) (Some ReadOnly) (cond (not (exists s id)) (Some NoSuchDevice) (cond (nat_lt 0 (hold_count s.holds id)) (Some Busy) (cond size (Some BadSize) room))))) f.works
      ∙ ap (λ (b : Bool). cond (not b) (Some NoSuchDevice) (cond (nat_lt 0 (hold_count s.holds id)) (Some Busy) (cond size (Some BadSize) room))) there_is
      ∙ ap (λ (n : ℕ). cond (nat_lt 0 n) (Some Busy) (cond size (Some BadSize) room)) none_held
      ∙ ap (λ (b : Bool). cond b (Some BadSize) room) fits

  tested : (blocks : ℕ) → 16 ≤ blocks → blocks ≤ 2 ^ 24 → (refusal_of s (Grow id blocks) ≡ None) ⊎ (refusal_of s (Grow id blocks) ≡ Some NoMetadataSpace)
  tested blocks least most =
      subst (λ (o : Option Refusal). (o ≡ None) ⊎ (o ≡ Some NoMetadataSpace)) (sym (tests blocks least most)) (by_room (has_metadata_room s 512))

by_tests : (s made after : PlainPool) (call : Call) (reason : Refusal) → (reason ≡ NoMetadataSpace → ⊥) → ((refusal_of s call ≡ None) ⊎ (refusal_of s call ≡ Some NoMetadataSpace))
    → Takes s call (Refused reason) made after → IsOutside reason
by_tests s made after call reason roomy (inl none) takes = inr (fault_alone s call reason made after none takes)
by_tests s made after call reason roomy (inr some) takes =
    elim (tested_or_fault s call reason NoMetadataSpace made after some takes) [
      | inl e ↦ absurd (roomy e)
      | inr e ↦ inr e
    ]

pub grow_refused : (old new : Held Meta) (id blocks : ℕ) (reason : Refusal) → RoomLasts → ((s : PlainPool) × IsFilled id s × Shows old s) → 16 ≤ blocks → blocks ≤ 2 ^ 24
    → PoolRefused geometry_of metadata.StandsFor old new (Grow id blocks) reason → IsOutside reason
grow_refused old new id blocks reason lasts w least most called =
    let m = called.called.meets w.0 w.2 in
    let call = Grow id blocks in
    by_tests w.0 m.0 m.1 call reason
    (λ short. lasts old new w.0 call w.2 (leaves id w.0 w.1 blocks) (subst (λ (r : Refusal). PoolRefused geometry_of metadata.StandsFor old new call r) short called))
    (tested id w.0 w.1 blocks least most) m.2

-- ---- it has grown

blank_behind : (a total from : ℕ) (xs : List Sector) → length xs ≡ a → a ≤ from → drop from (xs ++ replicate (total - a) zero_sector) ≡ replicate (total - from) zero_sector
blank_behind a total from xs long le =
    let whole : a + (from - a) ≡ from = omega (arith, le) in
    let less_ : total - a - (from - a) ≡ total - from = omega (arith, le) in
    let zs : List Sector = replicate (total - a) zero_sector in
    ap (λ (n : ℕ). drop n (xs ++ zs)) (sym whole)
    ∙ sym (drop-drop (from - a) a (xs ++ zs))
    ∙ ap (drop (from - a)) (drop_at xs zs a long)
    ∙ drop-replicate (from - a) (total - a) zero_sector
    ∙ ap (λ (n : ℕ). replicate n zero_sector) less_

longer : (a total : ℕ) (xs : List Sector) → length xs ≡ a → a ≤ total → length (xs ++ replicate (total - a) zero_sector) ≡ total
longer a total xs long le =
    let n = length-append xs (replicate (total - a) zero_sector) in
    let m = length-replicate {A = Sector} (total - a) zero_sector in
    omega (arith, n, m, long, le)

module _ (id blocks : ℕ) (s q : PlainPool) (f : IsFilled id s) (least : 16 ≤ blocks) (g : Grows s id blocks q) where
  here : get q.volumes id ≡ Some (grown s.geometry blocks (volume_of s id))
  here = ap (λ (p : PlainPool). get p.volumes id) g.is ∙ at_own s.volumes id (grown s.geometry blocks (volume_of s id))

  many : blocks * s.geometry.block_sectors ≡ blocks * 128
  many = ap (λ (x : Geometry). blocks * x.block_sectors) f.geometry

  is_sectors : (grown s.geometry blocks (volume_of s id)).sectors ≡ volume_sectors s id ++ replicate (blocks * 128 - 2048) zero_sector
  is_sectors = ap (λ (n : ℕ). volume_sectors s id ++ replicate n zero_sector) (λ i. many i - f.long i)

  own : volume_sectors q id ≡ volume_sectors s id ++ replicate (blocks * 128 - 2048) zero_sector
  own = ap (λ (o : Option Volume). option_map_or (λ v. v.sectors) o []) here ∙ is_sectors

  enough : 2048 ≤ blocks * 128
  enough = omega (arith, least)

  grown_is : IsGrown id blocks q
  grown_is = record {
    geometry = ap (λ (p : PlainPool). p.geometry) g.is ∙ f.geometry;
    works = ap (λ (p : PlainPool). p.mode) g.is ∙ f.works;
    clean = ap (λ (p : PlainPool). p.needs_check) g.is ∙ f.clean;
    there = device_there q id f.low (ap is_some here);
    size = ap (option_map (λ (v : Volume). length v.sectors)) here ∙ ap Some (ap length is_sectors ∙ longer 2048 (blocks * 128) (volume_sectors s id) f.long enough);
    zeros = λ from le. ap (drop from) own ∙ blank_behind 2048 (blocks * 128) from (volume_sectors s id) f.long le;
  }

-- whatever a stop leaves is opened as this pool
left_as : (old new : Held Meta) (id blocks : ℕ) (s : PlainPool) (was : Shows old s) (called : PoolCalled geometry_of metadata.StandsFor old new (Grow id blocks) Done)
    → IsLeftAs (called.called.meets s was).1 new.disk
left_as old new id blocks s was called image stop =
    let m = called.called.meets s was in
    let since = wider geometry_of metadata.StandsFor new (moment_of old) (moment_of new) image called.called.time.later (at_now geometry_of metadata.StandsFor new image stop) in
    let there = called.called.opens s was image since in
    let found = MayReopen-nothing m.0 there.0 (m.4.kept refl there.0 (image, stop, there.1)) in
    (there.1.0, subst (λ (P : PlainPool). StandsFor image P) (found ∙ ap reopened (sym (made_after s (Grow id blocks) m.0 m.1 m.2))) there.1.1)

pub grown_shown : (old new : Held Meta) (id blocks : ℕ) → ((s : PlainPool) × IsFilled id s × Shows old s) → 16 ≤ blocks
    → PoolCalled geometry_of metadata.StandsFor old new (Grow id blocks) Done → (s : PlainPool) × IsGrown id blocks s × IsLeftAs s new.disk × Shows new s
grown_shown old new id blocks w least called =
    let m = called.called.meets w.0 w.2 in
    (m.1, grown_is id blocks w.0 m.1 w.1 least (done_makes w.0 (Grow id blocks) m.0 m.1 m.2), left_as old new id blocks w.0 w.2 called, m.3)

-- so it is opened again
pub grown_again : (id blocks : ℕ) (s : PlainPool) → IsGrown id blocks s → IsGrown id blocks (reopened s)
grown_again id blocks s g = record {
  geometry = g.geometry;
  works = ap (λ (c : Bool). cond c mode.ReadOnly mode.Writable) g.clean;
  clean = g.clean;
  there = g.there;
  size = g.size;
  zeros = g.zeros;
}

-- ---- it is read behind its old end

module _ (h : Held Meta) (id blocks : ℕ) (s : PlainPool) (g : IsGrown id blocks s) (is : Shows h s) where
  sizes_told : geometry_of h.metadata ≡ users_geometry
  sizes_told = sym (ap (λ o. o.geometry) (shown geometry_of metadata.StandsFor h s is)) ∙ g.geometry

  pub ends : (end : ℕ) → end ≤ blocks * 128 → blocks ≤ 2 ^ 24 → EndsInVolume (view geometry_of metadata.StandsFor) h id end
  ends end inside most =
      let low : end ≤ 2 ^ 24 * 128 = omega (arith, inside, most) in
      inr (
        subst (λ (x : Geometry). end ≤ 2 ^ 24 * x.block_sectors) (sym sizes_told) low,
        λ t size other works has.
            let same = one_size geometry_of metadata.StandsFor stands_one h s t id is other (ap is_failed g.works) in
            let equal : blocks * 128 ≡ size = same_Some (blocks * 128) size (sym (same ∙ g.size) ∙ has) in
            omega (arith, inside, equal),
      )

  readable : (from n : ℕ) → refusal_of s (Read id from n) ≡ None
  readable from n =
      ap (λ (m : Mode). cond (is_failed m) (Some Failed) (cond (not (exists s id)) (Some NoSuchDevice) None)) g.works
      ∙ ap (λ (b : Bool). cond (not b) (Some NoSuchDevice) None) g.there

  pub read_refused : (new : Held Meta) (from n : ℕ) (reason : Refusal) → PoolRefused geometry_of metadata.StandsFor h new (Read id from n) reason → IsOutside reason
  read_refused new from n reason called =
      let m = called.called.meets s is in inr (fault_alone s (Read id from n) reason m.0 m.1 (readable from n) m.2)

  pub read_zeros : (new : Held Meta) (from n : ℕ) (out : List ℕ) → 2048 ≤ from → from + n ≤ blocks * 128 → length out / 512 ≡ n
      → PoolCalled geometry_of metadata.StandsFor h new (Read id from n) (Gave (sectors_of out)) → sectors_of out ≡ replicate (length out / 512) zero_sector
  read_zeros new from n out behind inside long called =
      let m = called.called.meets s is in
      (plainly s m.0 m.1 id from n (sectors_of out) m.2).0
      ∙ ap (take n) (g.zeros from behind)
      ∙ take-replicate n (blocks * 128 - from) zero_sector (omega (arith, inside))
      ∙ ap (λ (k : ℕ). replicate k zero_sector) (sym long)

abbrev pub ReadAnswered : Held Meta → Held Meta → ℕ → ℕ → ℕ → List ℕ → Result (Unit {0}) Refusal → Type 0
ReadAnswered old new id from n out result =
    MatchResult result (λ _. PoolCalled geometry_of metadata.StandsFor old new (Read id from n) (Gave (sectors_of out)))
    (λ reason. PoolRefused geometry_of metadata.StandsFor old new (Read id from n) reason)

pub last_zeros : (h new : Held Meta) (id blocks : ℕ) (s : PlainPool) → IsGrown id blocks s → Shows h s → (from n : ℕ) (out : List ℕ) → 2048 ≤ from → from + n ≤ blocks * 128 → length out / 512 ≡ n
    → (result : Result (Unit {0}) Refusal) → ReadAnswered h new id from n out result → OnOk result (sectors_of out ≡ replicate (length out / 512) zero_sector)
last_zeros h new id blocks s g is from n out behind inside long (Ok u) called = read_zeros h id blocks s g is new from n out behind inside long called
last_zeros h new id blocks s g is from n out behind inside long (Err reason) called = tt

pub last_refused : (h new : Held Meta) (id blocks : ℕ) (s : PlainPool) → IsGrown id blocks s → Shows h s → (from n : ℕ) (out : List ℕ)
    → (result : Result (Unit {0}) Refusal) → ReadAnswered h new id from n out result → IfErr result (λ reason. IsOutside reason)
last_refused h new id blocks s g is from n out (Ok u) called = tt
last_refused h new id blocks s g is from n out (Err reason) called = read_refused h id blocks s g is new from n reason called

pub ok_always : (P : Type 0) (result : Result (Unit {0}) Refusal) → P → OnOk result P
ok_always P (Ok u) p = p
ok_always P (Err reason) p = tt

-- a disk with the same cells
pub left_still : (old new : DiskState) (s : PlainPool) → new.cells ≡ old.cells → IsLeftAs s old → IsLeftAs s new
left_still old new s same left image stop = left image (subst (λ (cells : List Cell). AfterStop cells image) same stop)
