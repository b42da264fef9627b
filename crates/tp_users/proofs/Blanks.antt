-- What was made zero, and what a trim spares.
use Rattle.std.proofs.Common.{◌≡◌, ℕ, ◌+◌, ◌-◌, ◌/◌, ◌<◌, ◌≤◌, Bool, true, false, cond, Option, List, [], length, map, min, take, drop, get_or, replicate, sym, ap, ◌∙◌, arith}
use Rattle.std.specs.List.{enumerate_from}
use Rattle.std.specs.Option.{option_map_or}
use Rattle.std.proofs.lemmas.List.{ext_get_or, get_or-drop, get_or-map, get_or-replicate, get_or-take, length-drop, length-map, length-replicate, length-take}
use Rattle.std.proofs.lemmas.List.FromFn.{get_or-enumerate_from, length-enumerate_from}
use Rattle.tp_model.specs.Geometry.{Geometry}
use Rattle.tp_model.specs.Sectors.{Sector, zero_sector}
use Rattle.tp_model.specs.Pool.{PlainPool, Volume, volume_sectors}
use Rattle.tp_model.specs.Calls.{Call, Done, Makes, Trim, WriteZeroes, covers, sector_after}
use Rattle.tp_model.specs.Disk.{DiskState}
use Rattle.tp_stored.specs.Contents.{Contents}
use Rattle.tp_pool.specs.Held.{Held, PoolCalled, shows}
use Rattle.tp_users.proofs.Plain.{done_makes, within}

-- a sector of a range that has a place in a list
has_place : (i n part many : ℕ) → i < min n (many - part) → (i < n) × (part + i < many)
has_place i n part many lt = (omega (arith, lt), omega (arith, lt))

-- ---- a range of sectors, each of which was changed by its number

module _ (f : ℕ × Sector → Sector) (zs : List Sector) (part n : ℕ) where
  many_in : length (take n (drop part (map f (enumerate_from 0 zs)))) ≡ min n (length zs - part)
  many_in =
      length-take n (drop part (map f (enumerate_from 0 zs)))
      ∙ ap (λ m. min n m) (length-drop part (map f (enumerate_from 0 zs)) ∙ ap (λ m. m - part) (length-map (enumerate_from 0 zs) f ∙ length-enumerate_from 0 zs))

  sector_in : (i : ℕ) → i < min n (length zs - part) → get_or (take n (drop part (map f (enumerate_from 0 zs)))) i [] ≡ f (part + i, get_or zs (part + i) [])
  sector_in i few =
      let place = has_place i n part (length zs) few in
      let inside : part + i < length zs = place.1 in
      let here : part + i < length (enumerate_from 0 zs) = omega (arith, inside, length-enumerate_from 0 zs) in
      let from_zero : 0 + (part + i) ≡ part + i = omega arith in
      let told : get_or (enumerate_from 0 zs) (part + i) (0, []) ≡ (part + i, get_or zs (part + i) []) = get_or-enumerate_from 0 zs (part + i) (0, []) inside ∙ (λ j. (from_zero j, get_or zs (part + i) [])) in
      get_or-take n (drop part (map f (enumerate_from 0 zs))) i [] place.0
      ∙ get_or-drop part (map f (enumerate_from 0 zs)) i []
      ∙ get_or-map f (enumerate_from 0 zs) (part + i) (0, []) [] here
      ∙ ap f told

-- sectors of a range that a request makes zero are zero
all_zero : (s q : PlainPool) (call : Call) (id part n : ℕ) (xs : List Sector)
    → volume_sectors q id ≡ map (λ (x : ℕ × Sector). sector_after s.geometry call x.0 x.1) (enumerate_from 0 (volume_sectors s id))
    → ((k : ℕ) (x : Sector) → part ≤ k → k < part + n → sector_after s.geometry call k x ≡ zero_sector)
    → length xs ≡ n → xs ≡ take n (drop part (volume_sectors q id)) → xs ≡ replicate n zero_sector
all_zero s q call id part n xs made blanked many is =
    let zs = volume_sectors s id in
    let f : ℕ × Sector → Sector = λ x. sector_after s.geometry call x.0 x.1 in
    let took : xs ≡ take n (drop part (map f (enumerate_from 0 zs))) = is ∙ ap (λ l. take n (drop part l)) made in
    let all : n ≡ min n (length zs - part) = sym many ∙ ap length took ∙ many_in f zs part n in
    ext_get_or [] xs (replicate n zero_sector) (many ∙ sym (length-replicate {A = Sector} n zero_sector))
    (λ i lt.
    let low : i < n = omega (arith, lt, many) in
    ap (λ l. get_or l i []) took
    ∙ sector_in f zs part n i (omega (arith, low, all))
    ∙ blanked (part + i) (get_or zs (part + i) []) (omega arith) (omega (arith, low))
    ∙ sym (get_or-replicate n i zero_sector [] low))

pub zeros_there : (s q : PlainPool) (id sector n : ℕ) (no_hole fua : Bool) (xs : List Sector) → Makes s (WriteZeroes id sector n no_hole fua) q → length xs ≡ n
    → xs ≡ take n (drop sector (volume_sectors q id)) → xs ≡ replicate n zero_sector
zeros_there s q id sector n no_hole fua xs e many is =
    all_zero s q (WriteZeroes id sector n no_hole fua) id sector n xs (ap (λ (o : Option Volume). option_map_or (λ v. v.sectors) o []) e.volume)
    (λ k x low high. ap (λ (b : Bool). cond b zero_sector x) (within sector n k low high)) many is

-- sectors of blocks that a trim covers are zero
pub trimmed : (s q : PlainPool) (id sector count part n : ℕ) (fua : Bool) (xs : List Sector) → Makes s (Trim id sector count fua) q
    → ((k : ℕ) → part ≤ k → k < part + n → covers s.geometry sector count (k / s.geometry.block_sectors) ≡ true)
    → length xs ≡ n → xs ≡ take n (drop part (volume_sectors q id)) → xs ≡ replicate n zero_sector
trimmed s q id sector count part n fua xs e covered many is =
    all_zero s q (Trim id sector count fua) id part n xs (ap (λ (o : Option Volume). option_map_or (λ v. v.sectors) o []) e.volume)
    (λ k x low high. ap (λ (b : Bool). cond b zero_sector x) (covered k low high)) many is

-- those of other blocks are as they were
pub spared : (s q : PlainPool) (id sector count part n : ℕ) (fua : Bool) → Makes s (Trim id sector count fua) q
    → ((k : ℕ) → part ≤ k → k < part + n → covers s.geometry sector count (k / s.geometry.block_sectors) ≡ false)
    → take n (drop part (volume_sectors q id)) ≡ take n (drop part (volume_sectors s id))
spared s q id sector count part n fua e apart =
    let zs = volume_sectors s id in
    let f : ℕ × Sector → Sector = λ x. sector_after s.geometry (Trim id sector count fua) x.0 x.1 in
    let made : volume_sectors q id ≡ map f (enumerate_from 0 zs) = ap (λ (o : Option Volume). option_map_or (λ v. v.sectors) o []) e.volume in
    let before : length (take n (drop part zs)) ≡ min n (length zs - part) = length-take n (drop part zs) ∙ ap (λ m. min n m) (length-drop part zs) in
    ap (λ l. take n (drop part l)) made
    ∙ ext_get_or [] (take n (drop part (map f (enumerate_from 0 zs)))) (take n (drop part zs)) (many_in f zs part n ∙ sym before)
    (λ i lt.
    let few : i < min n (length zs - part) = omega (arith, lt, many_in f zs part n) in
    let low : i < n = (has_place i n part (length zs) few).0 in
    sector_in f zs part n i few
    ∙ ap (λ (b : Bool). cond b zero_sector (get_or zs (part + i) [])) (apart (part + i) (omega arith) (omega (arith, low)))
    ∙ sym (get_or-drop part zs i [])
    ∙ sym (get_or-take n (drop part zs) i [] low))

pub zeroed : {M : Type 0} (geometry : M → Geometry) (stands : M → DiskState → Contents → Contents → Type 0) (s : PlainPool) (old new : Held M) (call : Call)
    → shows geometry stands old s → PoolCalled geometry stands old new call Done → (q : PlainPool) × Makes s call q × shows geometry stands new q
zeroed geometry stands s old new call is called =
    let m = called.called.meets s is in
    (m.1, done_makes s call m.0 m.1 m.2, m.3)
