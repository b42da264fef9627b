-- Sectors of a volume that are written block by block.
use Rattle.std.proofs.Common.{◌≡◌, ◌⊎◌, inl, inr, ℕ, zero, suc, ◌+◌, ◌-◌, ◌*◌, ◌/◌, ◌%◌, ◌<◌, ◌≤◌, Bool, Option, true, false, List, [], length, take, drop, refl, sym, ◌∙◌, ap, subst, arith}
use Rattle.std.specs.Prelude.{IsTrue, if◌then◌else◌}
use Rattle.std.specs.Option.{IsSome}
use Rattle.std.proofs.Math.Seq.{take-add}
use Rattle.std.proofs.lemmas.Bool.{cases_eq, false_from_ne_true, true≢false}
use Rattle.std.proofs.lemmas.Nat.{div-add-mod'}
use Rattle.std.proofs.Math.Nat.{mul-le-mul_right}
use Rattle.std.proofs.lemmas.List.{length-drop, length-take-le, take_all}
use Rattle.tp_model.specs.Geometry.{Geometry, IsWithinLimits}
use Rattle.tp_model.specs.Sectors.{Sector, sectors_of}
use Rattle.tp_model.specs.Pool.{PlainPool}
use Rattle.tp_model.specs.Calls.{Write, touches}
use Rattle.tp_model.specs.Disk.{DiskState, seen}
use Rattle.tp_model.specs.DiskStops.{LeavesOnly}
use Rattle.tp_model.proofs.DiskLaws.{sectors_of-part}
use Rattle.tp_model.proofs.Steps.{not_touched_past}
use Rattle.tp_sharing.specs.Volumes.{Volumes, device_of, slot_of}
use Rattle.tp_mapping.specs.Mapping.{free_places}
use Rattle.tp_stored.specs.Contents.{Contents, HasContents}
use Rattle.tp_shown.specs.Shown.{Overwrites, blocks_touched}
use Rattle.tp_shown.proofs.Edited.{edits_are_listed}
use Rattle.tp_shown.proofs.Overwritten.{by_blocks}
use Rattle.tp_meta.specs.declared.metadata.Home.{Home}
use Rattle.tp_pool.specs.Writing.{HasFree, HasWritten, HasWrittenPart, IsHalfWritten, IsKnown, Reaches, blocks_taken, takes_block}
use Rattle.tp_pool.proofs.Halves.{half_goes_on, half_of_part, part_of_list}
use Rattle.tp_pool.proofs.Joining.{overwrites_then}
use Rattle.tp_pool.proofs.Overwriting.{overwrites_none}
use Rattle.tp_pool.proofs.Following.{from_first}
use Rattle.tp_pool.proofs.Ranges.{reached_still}
use Rattle.tp_pool.proofs.Rounds.{behind, touched_apart, touched_to}
use Rattle.tp_pool.proofs.Taken.{all_taken, last_taken}

-- ---- how many data blocks are free for the rest

-- where none of the rest is left, nothing is taken
none_taken : (g : Geometry) (id : ℕ) (volumes : Volumes) (marks : List Bool) (first sector rest : ℕ) → rest ≡ 0 → blocks_taken id volumes marks first (blocks_touched g sector rest) ≡ 0
none_taken g id volumes marks first sector zero e = refl
none_taken g id volumes marks first sector (suc n) e = absurd (omega (arith, e))

-- those of a part, where all of them do or none, and those behind it
module _ (g : Geometry) (pos : 0 < g.block_sectors) (id : ℕ) (volumes : Volumes) (marks : List Bool) (sector n rest free left : ℕ)
    (enough : blocks_taken id volumes marks (sector / g.block_sectors) (blocks_touched g sector (n + rest)) ≤ free) where
  abbrev AllTaken : Type 0
  AllTaken = (j : ℕ) → j < blocks_touched g sector n → takes_block id volumes marks (sector / g.block_sectors + j) ≡ true

  enough_by : (m : ℕ) (taken : Bool) → (taken ≡ true → AllTaken) → free ≤ left + (if taken then blocks_touched g sector n else 0)
      → blocks_taken id volumes marks (sector / g.block_sectors) (m + blocks_touched g sector n) ≤ free → blocks_taken id volumes marks (sector / g.block_sectors + blocks_touched g sector n) m ≤ left
  enough_by m true all le most = omega (arith, le, most, all_taken id volumes marks (sector / g.block_sectors) m (blocks_touched g sector n) (all refl))
  enough_by m false all le most = omega (arith, le, most, last_taken id volumes marks (sector / g.block_sectors) m (blocks_touched g sector n))

  -- the part ends with a block, and more is to be written
  parts_apart : 0 < n → (sector + n) % g.block_sectors ≡ 0 → 0 < rest
      → (blocks_touched g sector (n + rest) ≡ blocks_touched g (sector + n) rest + blocks_touched g sector n) × (sector / g.block_sectors + blocks_touched g sector n ≡ (sector + n) / g.block_sectors)
  parts_apart some ends more =
      let here = touched_to g pos sector n some ends in
      let up = behind g pos sector n some ends in
      (omega (arith, touched_apart g pos sector n rest more, here), omega (arith, here, up))

  enough_behind : (taken : Bool) → (taken ≡ true → AllTaken) → free ≤ left + (if taken then blocks_touched g sector n else 0) → 0 < n → (sector + n) % g.block_sectors ≡ 0 → 0 < rest
      → blocks_taken id volumes marks ((sector + n) / g.block_sectors) (blocks_touched g (sector + n) rest) ≤ left
  enough_behind taken all le some ends more =
      let m = blocks_touched g (sector + n) rest in
      let w = parts_apart some ends more in
      subst (λ b. blocks_taken id volumes marks b m ≤ left) w.1
      (enough_by m taken all le (subst (λ j. blocks_taken id volumes marks (sector / g.block_sectors) j ≤ free) w.0 enough))

  pub enough_more : (taken : Bool) → (taken ≡ true → AllTaken) → free ≤ left + (if taken then blocks_touched g sector n else 0) → 0 < n → (rest ≡ 0) ⊎ ((sector + n) % g.block_sectors ≡ 0)
      → blocks_taken id volumes marks ((sector + n) / g.block_sectors) (blocks_touched g (sector + n) rest) ≤ left
  enough_more taken all le some (inl none) = omega (arith, none_taken g id volumes marks ((sector + n) / g.block_sectors) (sector + n) rest none)
  enough_more taken all le some (inr ends) = elim (cases_eq rest 0) [
    | inl none ↦ omega (arith, none_taken g id volumes marks ((sector + n) / g.block_sectors) (sector + n) rest none)
    | inr more ↦ enough_behind taken all le some ends (omega (arith, more))
  ]

  here_by : (m : ℕ) → AllTaken → blocks_touched g sector (n + rest) ≡ m + blocks_touched g sector n → blocks_touched g sector n ≤ free
  here_by m all is =
      let most : blocks_taken id volumes marks (sector / g.block_sectors) (m + blocks_touched g sector n) ≤ free = subst (λ j. blocks_taken id volumes marks (sector / g.block_sectors) j ≤ free) is enough in
      omega (arith, most, all_taken id volumes marks (sector / g.block_sectors) m (blocks_touched g sector n) all)

  none_behind : AllTaken → rest ≡ 0 → blocks_touched g sector n ≤ free
  none_behind all none =
      let z : n + rest ≡ n = omega (arith, none) in
      let same = ap (blocks_touched g sector) z in
      here_by 0 all (omega (arith, same))

  -- there are as many as the part takes
  pub enough_here : AllTaken → 0 < n → (rest ≡ 0) ⊎ ((sector + n) % g.block_sectors ≡ 0) → blocks_touched g sector n ≤ free
  enough_here all some (inl none) = none_behind all none
  enough_here all some (inr ends) = elim (cases_eq rest 0) [
    | inl none ↦ none_behind all none
    | inr more ↦ here_by (blocks_touched g (sector + n) rest) all (parts_apart some ends (omega (arith, more))).0
  ]

-- ---- parts of the bytes

module _ (bytes : List ℕ) (done n : ℕ) (whole : length bytes % 512 ≡ 0) (fits : done + n ≤ length bytes / 512) where
  abbrev part_bytes : List ℕ
  part_bytes = take (512 * (done + n) - 512 * done) (drop (512 * done) bytes)

  pub part_length : length part_bytes ≡ 512 * n
  part_length =
      let k : 512 * (done + n) - 512 * done ≡ 512 * n = omega arith in
      length-take-le (512 * (done + n) - 512 * done) (drop (512 * done) bytes) (omega (arith, fits, whole, length-drop (512 * done) bytes)) ∙ k

  pub part_sectors : sectors_of part_bytes ≡ take n (drop done (sectors_of bytes))
  part_sectors =
      let k : 512 * (done + n) - 512 * done ≡ 512 * n = omega arith in
      ap (λ m. sectors_of (take m (drop (512 * done) bytes))) k ∙ sectors_of-part bytes done n whole fits

-- ---- whole blocks

-- a block that starts where the first sectors end, or behind that, is none of theirs
starts_behind : (g : Geometry) (sector done block : ℕ) → (done ≡ 0) ⊎ ((sector + done) % g.block_sectors ≡ 0) → (sector + done) / g.block_sectors ≤ block → touches g sector done block ≡ false
starts_behind g sector done block (inl none) low = ap (λ k. touches g sector k block) none
starts_behind g sector done block (inr whole) low =
    let parts : (sector + done) / g.block_sectors * g.block_sectors + (sector + done) % g.block_sectors ≡ sector + done = div-add-mod' (sector + done) g.block_sectors in
    let up : (sector + done) / g.block_sectors * g.block_sectors ≤ block * g.block_sectors = mul-le-mul_right g.block_sectors low in
    not_touched_past g sector done block (omega (arith, parts, whole, up))

-- ---- what has been written so far

module _ {M : Type 0} (geometry : M → Geometry) (stands : M → DiskState → Contents → Contents → Type 0) (marks : M → List Bool) (id sector : ℕ) (sectors : List Sector) (count : ℕ) where
  -- The first ones were written.
  pub record IsBegun (done : ℕ) (before after : M) (old new : DiskState) (now kept : Contents) : Type 0 where
    pub volumes : Volumes
    pub meta_used : ℕ
    pub standing : stands after new (record now { volumes = volumes; meta_used = meta_used }) kept
    pub overwrites : Overwrites (geometry before) id sector (take done sectors) now.volumes volumes (seen old.cells) (seen new.cells)
    -- where no slot has changed, no node has
    pub untouched : ((block : ℕ) → slot_of id block volumes ≡ slot_of id block now.volumes) → meta_used ≡ now.meta_used
    -- whole blocks were written, but for the first one and the last one
    pub aligned : (done ≡ 0) ⊎ (done ≡ count) ⊎ ((sector + done) % (geometry before).block_sectors ≡ 0)
    -- a block that is to be written takes no data block that took none before
    pub takes : done < count → (block : ℕ) → (sector + done) / (geometry before).block_sectors ≤ block → IsTrue (takes_block id volumes (marks after) block) → IsTrue (takes_block id now.volumes (marks before) block)
    -- there are as many free ones as the rest took
    pub enough : HasFree geometry stands marks id before now kept (sector / (geometry before).block_sectors) (blocks_touched (geometry before) sector count)
        → blocks_taken id now.volumes (marks before) ((sector + done) / (geometry before).block_sectors) (blocks_touched (geometry before) (sector + done) (count - done))
        ≤ free_places (geometry before) volumes kept.volumes

  pub begins : (before : M) (old : DiskState) (now kept : Contents) → stands before old now kept → IsBegun 0 before before old old now kept
  begins before old now kept stood =
      let g = geometry before in
      let z : sector + 0 ≡ sector = omega arith in
      let all : count - 0 ≡ count = omega arith in
      record {
        volumes = now.volumes;
        meta_used = now.meta_used;
        standing = stood;
        overwrites = overwrites_none g id sector (take 0 sectors) now.volumes (seen old.cells) refl;
        untouched = λ same. refl;
        aligned = inl refl;
        takes = λ lt block le t. t;
        enough = λ h. subst (λ k. blocks_taken id now.volumes (marks before) (k / g.block_sectors) (blocks_touched g k (count - 0)) ≤ free_places g now.volumes kept.volumes) (sym z)
            (subst (λ k. blocks_taken id now.volumes (marks before) (sector / g.block_sectors) (blocks_touched g sector k) ≤ free_places g now.volumes kept.volumes) (sym all) h);
      }

  module _ (long : length sectors ≡ count) (done n : ℕ) (some : 0 < n) (fits : done + n ≤ count) (before mid after : M) (old between new : DiskState) (now kept : Contents)
      (same : geometry mid ≡ geometry before) where
    abbrev g : Geometry
    g = geometry before

    -- the slots of the next block and of those behind it are as they were
    same_slot : (begun : IsBegun done before mid old between now kept) (block : ℕ) → (sector + done) / g.block_sectors ≤ block → slot_of id block begun.volumes ≡ slot_of id block now.volumes
    same_slot begun block low =
        let front : length (take done sectors) ≡ done = length-take-le done sectors (omega (arith, fits, long)) in
        let starts : (done ≡ 0) ⊎ ((sector + done) % g.block_sectors ≡ 0) = elim begun.aligned [ inl e ↦ inl e | inr (inl e) ↦ absurd (omega (arith, e, some, fits)) | inr (inr e) ↦ inr e ] in
        let none : touches g sector (length (take done sectors)) block ≡ false = ap (λ k. touches g sector k block) front ∙ starts_behind g sector done block starts low in
        (by_blocks g id sector (take done sectors) now.volumes begun.volumes (seen old.cells) (seen between.cells) begun.overwrites).others id block (λ t. true≢false (sym t.1 ∙ none))

    -- the next sectors lie in the volume too
    pub reached_part : (begun : IsBegun done before mid old between now kept) (part : List Sector) → part ≡ take n (drop done sectors) → Reaches g id (sector + length sectors) now.volumes
        → Reaches (geometry mid) id (sector + done + length part) begun.volumes
    reached_part begun part is r =
        let short : length part ≡ n = ap length is ∙ length-take-le n (drop done sectors) (omega (arith, fits, long, length-drop done sectors)) in
        subst (λ (x : Geometry). Reaches x id (sector + done + length part) begun.volumes) (sym same)
        (reached_still g id (sector + length sectors) (sector + done + length part) now.volumes begun.volumes (omega (arith, short, fits, long)) (begun.overwrites.still id) (begun.overwrites.sizes id) r)

    -- what was known of the next sectors is known still
    pub known_still : 0 < g.block_sectors → (begun : IsBegun done before mid old between now kept) (home : Option Home) → IsKnown g id (sector + done) n now.volumes (marks before) home
        → IsKnown (geometry mid) id (sector + done) n begun.volumes (marks mid) home
    known_still pos begun home known =
        let le : (sector + done) / g.block_sectors ≤ (sector + done) / g.block_sectors = omega arith in
        let more : done < count = omega (arith, some, fits) in
        subst (λ (x : Geometry). IsKnown x id (sector + done) n begun.volumes (marks mid) home) (sym same)
        (record {
          has = known.has ∙ sym (same_slot begun ((sector + done) / g.block_sectors) le);
          run = λ place own block t.
              let low = from_first g pos (sector + done) n block t in
              let w = known.run place own block t in
              (same_slot begun block low ∙ w.0, false_from_ne_true (takes_block id begun.volumes (marks mid) block) (λ takes. true≢false (sym (begun.takes more block low takes) ∙ w.1)));
        })

    -- the blocks of the next sectors take a data block each
    abbrev pub AreTaken : Contents → Type 0
    AreTaken was = (j : ℕ) → j < blocks_touched g (sector + done) n → takes_block id was.volumes (marks before) ((sector + done) / g.block_sectors + j) ≡ true

    pub begun_more : 0 < g.block_sectors → (begun : IsBegun done before mid old between now kept) → (part : List Sector) → part ≡ take n (drop done sectors)
        → (taken : Bool) → (taken ≡ true → AreTaken now)
        → HasWrittenPart geometry stands marks id ((sector + done) / (geometry mid).block_sectors) (blocks_touched (geometry mid) (sector + done) n) (sector + done) part taken mid after between new (record now { volumes = begun.volumes; meta_used = begun.meta_used }) kept
        → (n ≡ count - done) ⊎ ((sector + done + n) % g.block_sectors ≡ 0)
        → IsBegun (done + n) before after old new now kept
    begun_more pos begun part is taken told w ends =
        let front : length (take done sectors) ≡ done = length-take-le done sectors (omega (arith, fits, long)) in
        let block : (sector + done) / (geometry mid).block_sectors ≡ (sector + done) / g.block_sectors = ap (λ (x : Geometry). (sector + done) / x.block_sectors) same in
        let second : Overwrites g id (sector + length (take done sectors)) (take n (drop done sectors)) begun.volumes w.volumes (seen between.cells) (seen new.cells) =
        subst (λ k. Overwrites g id (sector + k) (take n (drop done sectors)) begun.volumes w.volumes (seen between.cells) (seen new.cells)) (sym front)
        (subst (λ (l : List Sector). Overwrites g id (sector + done) l begun.volumes w.volumes (seen between.cells) (seen new.cells)) is
        (subst (λ (x : Geometry). Overwrites x id (sector + done) part begun.volumes w.volumes (seen between.cells) (seen new.cells)) same w.overwrites)) in
        let both = overwrites_then g pos id sector (take done sectors) (take n (drop done sectors)) now.volumes begun.volumes w.volumes (seen old.cells) (seen between.cells) (seen new.cells) begun.overwrites second in
        let rest = count - (done + n) in
        let sum : n + rest ≡ count - done = omega (arith, fits) in
        let at : sector + done + n ≡ sector + (done + n) = omega arith in
        let last : (rest ≡ 0) ⊎ ((sector + done + n) % g.block_sectors ≡ 0) = elim ends [ inl e ↦ inl (omega (arith, e, fits)) | inr e ↦ inr e ] in
        let free : free_places g begun.volumes kept.volumes ≤ free_places g w.volumes kept.volumes + (if taken then blocks_touched g (sector + done) n else 0) =
        subst (λ (x : Geometry). free_places x begun.volumes kept.volumes ≤ free_places x w.volumes kept.volumes + (if taken then blocks_touched x (sector + done) n else 0)) same w.free in
        record {
          volumes = w.volumes;
          meta_used = w.meta_used;
          standing = w.standing;
          overwrites = subst (λ (l : List Sector). Overwrites g id sector l now.volumes w.volumes (seen old.cells) (seen new.cells)) (sym (take-add done n sectors)) both;
          untouched = λ all.
              let at_block = (sector + done) / g.block_sectors in
              let le : at_block ≤ at_block = omega arith in
              let here : slot_of id at_block w.volumes ≡ slot_of id at_block begun.volumes = all at_block ∙ sym (same_slot begun at_block le) in
              let kept = w.in_place (subst (λ b. slot_of id b w.volumes ≡ slot_of id b begun.volumes) (sym block) here) in
              kept.1 ∙ begun.untouched (λ b. ap (slot_of id b) (sym kept.0) ∙ all b);
          aligned = elim last [
            | inl none ↦ inr (inl (omega (arith, none, fits)))
            | inr e ↦ inr (inr (subst (λ k. k % g.block_sectors ≡ 0) at e))
          ];
          takes = λ lt b low t.
              let ends_here : (sector + done + n) % g.block_sectors ≡ 0 = elim last [ inl none ↦ absurd (omega (arith, none, lt)) | inr e ↦ e ] in
              let next = behind g pos (sector + done) n some ends_here in
              let many = touched_to g pos (sector + done) n some ends_here in
              let are : blocks_touched (geometry mid) (sector + done) n ≡ blocks_touched g (sector + done) n = ap (λ (x : Geometry). blocks_touched x (sector + done) n) same in
              let moved : (sector + done + n) / g.block_sectors ≡ (sector + (done + n)) / g.block_sectors = ap (λ k. k / g.block_sectors) at in
              let up : (sector + done) / g.block_sectors + 1 ≤ b = omega (arith, low, next, moved) in
              let earlier : done < count = omega (arith, some, fits) in
              let low_too : (sector + done) / g.block_sectors ≤ b = omega (arith, up) in
              begun.takes earlier b low_too (w.others b (inr (omega (arith, low, next, moved, many, are, block))) t);
          enough = λ h.
              subst (λ k. blocks_taken id now.volumes (marks before) (k / g.block_sectors) (blocks_touched g k rest) ≤ free_places g w.volumes kept.volumes) at
              (enough_more g pos id now.volumes (marks before) (sector + done) n rest (free_places g begun.volumes kept.volumes) (free_places g w.volumes kept.volumes)
              (subst (λ k. blocks_taken id now.volumes (marks before) ((sector + done) / g.block_sectors) (blocks_touched g (sector + done) k) ≤ free_places g begun.volumes kept.volumes) (sym sum) (begun.enough h)) taken told free some last);
        }

    -- there are as many as the next ones take
    pub are_free : 0 < g.block_sectors → (begun : IsBegun done before mid old between now kept)
        → HasFree geometry stands marks id before now kept (sector / g.block_sectors) (blocks_touched g sector count) → AreTaken now → (n ≡ count - done) ⊎ ((sector + done + n) % g.block_sectors ≡ 0)
        → blocks_touched (geometry mid) (sector + done) n ≤ free_places (geometry mid) begun.volumes kept.volumes
    are_free pos begun h all ends =
        let rest = count - (done + n) in
        let sum : n + rest ≡ count - done = omega (arith, fits) in
        let last : (rest ≡ 0) ⊎ ((sector + done + n) % g.block_sectors ≡ 0) = elim ends [ inl e ↦ inl (omega (arith, e, fits)) | inr e ↦ inr e ] in
        subst (λ (x : Geometry). blocks_touched x (sector + done) n ≤ free_places x begun.volumes kept.volumes) (sym same)
        (enough_here g pos id now.volumes (marks before) (sector + done) n rest (free_places g begun.volumes kept.volumes) 0
        (subst (λ k. blocks_taken id now.volumes (marks before) ((sector + done) / g.block_sectors) (blocks_touched g (sector + done) k) ≤ free_places g begun.volumes kept.volumes) (sym sum) (begun.enough h)) all some last)

    pub half_more : (part : List Sector) → part ≡ take n (drop done sectors) → LeavesOnly old between (IsHalfWritten g id sector sectors kept old.cells)
        → LeavesOnly between new (IsHalfWritten (geometry mid) id (sector + done) part kept between.cells) → LeavesOnly old new (IsHalfWritten g id sector sectors kept old.cells)
    half_more part is r s =
        half_goes_on g (Write id sector sectors false) id [] kept old between new r
        (half_of_part g id sector sectors done (take n (drop done sectors)) (λ k x e. part_of_list sectors done n k x e) kept between new
        (subst (λ (l : List Sector). LeavesOnly between new (IsHalfWritten g id (sector + done) l kept between.cells)) is
        (subst (λ (x : Geometry). LeavesOnly between new (IsHalfWritten x id (sector + done) part kept between.cells)) same s)))

  -- all were written
  pub written_all : (done : ℕ) (before after : M) (old new : DiskState) (now kept : Contents) (s : PlainPool) → IsBegun done before after old new now kept → done ≡ length sectors → IsSome (device_of id now.volumes)
      → HasContents (geometry before) now (seen old.cells) s → geometry after ≡ geometry before → IsWithinLimits (geometry before)
      → HasWritten geometry stands marks id sector sectors after new kept s
  written_all done before after old new now kept s begun end device has same limits =
      let g = geometry before in
      let all : take done sectors ≡ sectors = take_all done sectors (omega (arith, end)) in
      let over : Overwrites g id sector sectors now.volumes begun.volumes (seen old.cells) (seen new.cells) =
      subst (λ (l : List Sector). Overwrites g id sector l now.volumes begun.volumes (seen old.cells) (seen new.cells)) all begun.overwrites in
      let c : Contents = record now { volumes = begun.volumes; meta_used = begun.meta_used } in
      let w = edits_are_listed g now (seen old.cells) (seen new.cells) s limits has (Write id sector sectors false) id begun.volumes begun.meta_used device over begun.untouched in
      record {
        contents = c;
        pool = w.0;
        standing = begun.standing;
        device = begun.overwrites.still id device;
        has = subst (λ (x : Geometry). HasContents x c (seen new.cells) w.0) (sym same) w.1;
        edits = w.2;
      }
