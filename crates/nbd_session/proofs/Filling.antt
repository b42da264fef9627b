-- What a client has who puts the chunks of a READ over its buffer.
use Rattle.std.proofs.Common.{◌≡◌, inl, inr, ℕ, suc, ◌+◌, ◌-◌, ◌*◌, ◌/◌, ◌%◌, ◌<◌, ◌≤◌, ◌⊎◌, Bool, true, false, Option, Some, None, List, [], ◌∷◌, ◌++◌, length, drop, take, get_or, replicate, refl, sym, ap, ap₂, subst, ◌∙◌, arith}
use Rattle.std.specs.Prelude.{◌==◌, if◌then◌else◌, nat_le, slice_get}
use Rattle.std.specs.Option.{option_map_or}
use Rattle.std.specs.List.{AllByRecursion, concat}
use Rattle.std.specs.FinMap.{get}
use Rattle.std.proofs.Math.Nat.{div-div-eq-div-mul}
use Rattle.std.proofs.lemmas.Bool.{cases_lt, eq-eqb, ne_eqb}
use Rattle.std.proofs.lemmas.List.{append-nil, drop-drop, drop_all, get_or-append-add, get_or-drop, get_or-replicate, get_or-take, get_or_append_left, get_or_past, length-drop, length-take-le, take-append-drop, take_all}
use Rattle.tp_model.specs.Pool.{IsSound, PlainPool, Volume, slot_at, volume_sectors}
use Rattle.tp_model.specs.Sectors.{Sector, zero_sector}
use Rattle.tp_model.proofs.DiskLaws.{bytes_at-is, length-concat}
use Rattle.nbd_wire.specs.declared.Request.{Request}
use Rattle.nbd_wire.specs.declared.contexts.MetaContext.TheVariants.{Allocation}
use Rattle.nbd_wire.specs.Chunks.{data_chunk}
use Rattle.nbd_session.specs.Status.{AllOf, AreTold, IsUnmapped, bytes_of}
use Rattle.nbd_session.specs.Holes.{Anything, TellsHoles, bytes_in, contents_len, contents_text, filled, may_be_cut, read_text}

abbrev AreWhole : List Sector → Type 0
AreWhole = AllByRecursion (λ (value : Sector). length value ≡ 512)

-- ---- which answer it is

one_is : (r : Request) (given : List ℕ) → length given ≡ r.len → data_chunk true r.cookie r.offset given ≡ contents_text r.cookie r.offset ((r.len, 0) ∷ []) given
one_is r given long =
    ap (data_chunk true r.cookie r.offset) (sym (take_all r.len given (omega (arith, long)))) ∙ sym (append-nil (data_chunk true r.cookie r.offset (take r.len given)))

module _ (Hole : ℕ → Type 0) (r : Request) (extents : List (ℕ × ℕ)) (given sent : List ℕ) (some : 0 < r.len) (long : length given ≡ r.len) where
  -- all in one chunk, which tells of no hole
  in_one : sent ≡ data_chunk true r.cookie r.offset given → TellsHoles Hole r given sent
  in_one is = record { extents = (r.len, 0) ∷ []; sent_is = is ∙ one_is r given long; told = (some, inl (refl, λ k l m. tt), tt); all = omega arith }

  tells_by : (b c : Bool) → AreTold Allocation Anything Hole r.offset extents → bytes_of extents ≡ r.len
      → sent ≡ (if b then (if c then contents_text r.cookie r.offset extents given else data_chunk true r.cookie r.offset given) else data_chunk true r.cookie r.offset given) → TellsHoles Hole r given sent
  tells_by true true told all is = record { extents = extents; sent_is = is; told = told; all = all }
  tells_by true false told all is = in_one is
  tells_by false c told all is = in_one is

  pub tells_holes : AreTold Allocation Anything Hole r.offset extents → bytes_of extents ≡ r.len → sent ≡ read_text r extents given → TellsHoles Hole r given sent
  tells_holes told all is = tells_by (may_be_cut r extents) (nat_le (contents_len extents) r.len) told all is

-- ---- zeros

zeros_from_each : (xs : List ℕ) → ((i : ℕ) → i < length xs → get_or xs i 0 ≡ 0) → xs ≡ replicate (length xs) 0
zeros_from_each [] each = refl
zeros_from_each (x ∷ xs) each = ap₂ (λ (y : ℕ) (ys : List ℕ). y ∷ ys) (each 0 (omega arith)) (zeros_from_each xs (λ i lt. each (suc i) (omega (arith, lt))))

zero_byte : (k : ℕ) → k < 512 → get_or zero_sector k 0 ≡ 0
unfolding zero_sector
zero_byte k lt = get_or-replicate 512 k 0 0 lt

-- a byte of a sector that is zero
byte_zero : (ss : List Sector) (k : ℕ) → AreWhole ss → ((x : Sector) → slice_get ss (k / 512) ≡ Some x → x ≡ zero_sector) → get_or (concat ss) k 0 ≡ 0
byte_zero [] k whole zero_there = get_or_past [] k 0 (omega arith)
byte_zero (x ∷ xs) k whole zero_there =
    elim (cases_lt k 512) [
      | inl lt ↦
          let at : k / 512 ≡ 0 = omega (arith, lt) in
          let is : x ≡ zero_sector = zero_there x (ap (λ (n : ℕ). slice_get (x ∷ xs) n) at) in
          get_or_append_left x (concat xs) 0 k (omega (arith, lt, whole.0)) ∙ (ap (λ (l : Sector). get_or l k 0) is ∙ zero_byte k lt)
      | inr more ↦
          let on : k / 512 ≡ suc ((k - 512) / 512) = omega (arith, more) in
          let back : k ≡ length x + (k - 512) = omega (arith, more, whole.0) in
          ap (λ (n : ℕ). get_or (x ++ concat xs) n 0) back
          ∙ (get_or-append-add x (concat xs) (k - 512) 0 ∙ byte_zero xs (k - 512) whole.1 (λ y e. zero_there y (ap (λ (n : ℕ). slice_get (x ∷ xs) n) on ∙ e)))
    ]

-- ---- a buffer that is filled

module _ (Hole : ℕ → Type 0) (all : List ℕ) (base : ℕ) (blank : (k : ℕ) → base ≤ k → k < base + length all → Hole k → get_or all (k - base) 0 ≡ 0) where
  hole_byte : (d n i : ℕ) → AllOf Hole (base + d) n → d + n ≤ length all → i < n → get_or (take n (drop d all)) i 0 ≡ 0
  hole_byte d n i holes le lt =
      let at : d + i ≡ base + d + i - base = omega arith in
      get_or-take n (drop d all) i 0 lt
      ∙ (get_or-drop d all i 0
      ∙ (ap (λ (k : ℕ). get_or all k 0) at ∙ blank (base + d + i) (omega arith) (omega (arith, lt, le)) (holes (base + d + i) (omega arith) (omega (arith, lt)))))

  hole_front : (d n : ℕ) → AllOf Hole (base + d) n → d + n ≤ length all → replicate n 0 ≡ take n (drop d all)
  hole_front d n holes le =
      let long : length (take n (drop d all)) ≡ n = length-take-le n (drop d all) (omega (arith, le, length-drop d all)) in
      sym (zeros_from_each (take n (drop d all)) (λ i lt. hole_byte d n i holes le (omega (arith, lt, long))) ∙ ap (λ (m : ℕ). replicate m 0) long)

  front_is : (d n flags : ℕ) → ((flags ≡ 0) × AllOf Anything (base + d) n) ⊎ ((flags ≡ 3) × AllOf Hole (base + d) n) → d + n ≤ length all
      → (if flags == 0 then take n (drop d all) else replicate n 0) ≡ take n (drop d all)
  front_is d n flags (inl h) le = ap (λ (b : Bool). if b then take n (drop d all) else replicate n 0) (eq-eqb flags 0 h.0)
  front_is d n flags (inr h) le =
      let is : flags ≡ 3 = h.0 in
      ap (λ (b : Bool). if b then take n (drop d all) else replicate n 0) (ne_eqb flags 0 (λ e. absurd (omega (arith, e, is)))) ∙ hole_front d n h.1 le

  filled_from : (d : ℕ) (xs : List (ℕ × ℕ)) → AreTold Allocation Anything Hole (base + d) xs → d + bytes_of xs ≡ length all → filled xs (drop d all) ≡ drop d all
  filled_from d [] told sum = sym (drop_all d all (omega (arith, sum)))
  filled_from d (x ∷ xs) told sum =
      let n : ℕ = x.0 in
      let on : base + d + n ≡ base + (d + n) = omega arith in
      let behind : drop n (drop d all) ≡ drop (d + n) all = drop-drop n d all in
      let rest : filled xs (drop (d + n) all) ≡ drop (d + n) all = filled_from (d + n) xs (subst (λ (k : ℕ). AreTold Allocation Anything Hole k xs) on told.2) (omega (arith, sum)) in
      let tail : filled xs (drop n (drop d all)) ≡ drop n (drop d all) = ap (filled xs) behind ∙ (rest ∙ sym behind) in
      ap₂ (λ (a b : List ℕ). a ++ b) (front_is d n x.1 told.1 (omega (arith, sum))) tail ∙ take-append-drop n (drop d all)

-- ---- over a plain volume

whole_from : (xs : List Sector) → ((k : ℕ) (x : Sector) → slice_get xs k ≡ Some x → length x ≡ 512) → AreWhole xs
whole_from [] each = tt
whole_from (x ∷ xs) each = (each 0 x refl, whole_from xs (λ k y e. each (suc k) y e))

module _ (s : PlainPool) (id : ℕ) (sound : IsSound s) where
  whole_by : (o : Option Volume) → get s.volumes id ≡ o → AreWhole (option_map_or (λ (v : Volume). v.sectors) o [])
  whole_by None e = tt
  whole_by (Some v) e = whole_from v.sectors (sound.shaped id v e).bytes

  whole : AreWhole (volume_sectors s id)
  whole = whole_by (get s.volumes id) refl

  -- a byte of a block that is not mapped
  unmapped_byte : (k : ℕ) → IsUnmapped s id k → get_or (concat (volume_sectors s id)) k 0 ≡ 0
  unmapped_byte k none_there =
      byte_zero (volume_sectors s id) k whole
      (λ x is. sound.lawful.unmapped id (k / 512) x (ap (λ (b : ℕ). slot_at s id b) (div-div-eq-div-mul k 512 s.geometry.block_sectors) ∙ none_there) is)

  module _ (r : Request) (aligned : r.offset % 512 ≡ 0) (even : r.len % 512 ≡ 0) (inside : r.offset + r.len ≤ 512 * length (volume_sectors s id)) where
    abbrev image : List ℕ
    image = concat (volume_sectors s id)

    given_is : bytes_in s id r ≡ take r.len (drop r.offset image)
    given_is =
        let front : 512 * (r.offset / 512) ≡ r.offset = omega (arith, aligned) in
        let count : 512 * (r.len / 512) ≡ r.len = omega (arith, even) in
        bytes_at-is (volume_sectors s id) (r.offset / 512) (r.len / 512) whole
        ∙ (ap (λ (n : ℕ). take n (drop (512 * (r.offset / 512)) image)) count ∙ ap (λ (n : ℕ). take r.len (drop n image)) front)

    long : length (bytes_in s id r) ≡ r.len
    long =
        ap length given_is ∙ length-take-le r.len (drop r.offset image) (omega (arith, inside, length-drop r.offset image, length-concat (volume_sectors s id) whole))

    blank_in : (k : ℕ) → r.offset ≤ k → k < r.offset + length (bytes_in s id r) → IsUnmapped s id k → get_or (bytes_in s id r) (k - r.offset) 0 ≡ 0
    blank_in k low high none_there =
        let back : r.offset + (k - r.offset) ≡ k = omega (arith, low) in
        ap (λ (l : List ℕ). get_or l (k - r.offset) 0) given_is
        ∙ (get_or-take r.len (drop r.offset image) (k - r.offset) 0 (omega (arith, low, high, long))
        ∙ (get_or-drop r.offset image (k - r.offset) 0 ∙ (ap (λ (n : ℕ). get_or image n 0) back ∙ unmapped_byte k none_there)))

    pub filled_is : (extents : List (ℕ × ℕ)) → AreTold Allocation Anything (IsUnmapped s id) r.offset extents → bytes_of extents ≡ r.len → filled extents (bytes_in s id r) ≡ bytes_in s id r
    filled_is extents told sum =
        let here : r.offset ≡ r.offset + 0 = omega arith in
        filled_from (IsUnmapped s id) (bytes_in s id r) r.offset blank_in 0 extents (subst (λ (n : ℕ). AreTold Allocation Anything (IsUnmapped s id) n extents) here told) (omega (arith, sum, long))
