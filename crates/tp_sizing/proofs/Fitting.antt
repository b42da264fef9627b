-- What the contract of the sizes says to those who use it.
use Rattle.std.proofs.Common.{◌≡◌, ℕ, ◌+◌, ◌*◌, ◌/◌, ◌≤◌, ◌<◌, ⊎_elim, length, ◌^◌, ◌∙◌, arith, refl, subst, sym}
use Rattle.std.specs.Prelude.{All, IfSome}
use Rattle.std.specs.FinMap.{entries, len, len-entries}
use Rattle.std.proofs.Math.Nat.{mul-le-mul_left}
use Rattle.std.proofs.lemmas.Bool.{cases_lt}
use Rattle.std.proofs.lemmas.List.{length-map}
use Rattle.std.proofs.lemmas.List.Elements.{All-map}
use Rattle.tp_model.specs.Geometry.{Geometry, count_blocks, fixed_part}
use Rattle.tp_model.specs.Pool.{PlainPool, Volume}
use Rattle.tp_image.specs.Bound.{mapped_in, metadata_bound}
use Rattle.tp_sizing.specs.declared.wanted.Wanted.{Wanted}
use Rattle.tp_sizing.specs.declared.wanted.Unfit.{Unfit}
use Rattle.tp_sizing.specs.declared.wanted.Unfit.TheVariants.{OutOfRange, TooMany}
use Rattle.tp_sizing.specs.Sizing.{AreEnough, HasBlocks, HaveRoom, Holds, IsAllowed, IsInRange, IsMost, IsSizedFor, IsUnfit, Suits, most_mapped, with_metadata}
use Rattle.tp_sizing.proofs.Blocks.{few_blocks}
use Rattle.tp_sizing.proofs.Room.{LeavesRoom, have_room, leaves_room}

-- fewer volumes have room, too
pub fewer : (g : Geometry) (volumes less : ℕ) → less ≤ volumes → HaveRoom g volumes → HaveRoom g less
fewer g volumes less le room mapped few each = room mapped (omega arith) each

few_of : (g : Geometry) (volumes all : ℕ) → fixed_part g + 513 + (volumes / 31 + all) ≤ g.metadata_blocks → volumes ≤ all → g.metadata_blocks ≤ 65536 → volumes < 65536
few_of g volumes all leaves more most = omega arith

pub has_room : (w : Wanted) (g : Geometry) (s : PlainPool) → IsSizedFor w g → s.geometry ≡ g → len s.volumes ≤ w.volumes → All (λ (e : ℕ × Volume). len e.1.slots ≤ most_mapped g) (entries s.volumes)
    → metadata_bound s.geometry (mapped_in s) + 512 ≤ s.geometry.metadata_blocks
has_room w g s sized is few each =
    let short : length (mapped_in s) ≤ w.volumes = omega (arith, length-map (entries s.volumes) (λ (e : ℕ × Volume). len e.1.slots), len-entries s.volumes) in
    subst (λ (k : Geometry). metadata_bound k (mapped_in s) + 512 ≤ k.metadata_blocks) (sym is)
    (sized.room (mapped_in s) short (All-map (λ m. m ≤ most_mapped g) (λ (e : ℕ × Volume). len e.1.slots) (entries s.volumes) each))

room_for_few : (g : Geometry) (volumes : ℕ) → HaveRoom g volumes → g.metadata_blocks ≤ 65536 → volumes < 65536
room_for_few g volumes room most =
    let leaves : LeavesRoom g (most_mapped g) volumes = leaves_room g (most_mapped g) volumes room in
    let one : volumes * 1 ≤ volumes * (1 + most_mapped g / 63) = mul-le-mul_left {m = 1} {n = 1 + most_mapped g / 63} volumes (omega arith) in
    few_of g volumes (volumes * (1 + most_mapped g / 63)) leaves (omega arith) most

pub few_devices : (w : Wanted) (g : Geometry) → IsSizedFor w g → w.volumes < 65536
few_devices w g sized = room_for_few g w.volumes sized.room sized.limits.metadata_most

pub few_fit : (w : Wanted) (sectors fit : ℕ) (g : Geometry) → IsMost w sectors fit g → fit < 65536
few_fit w sectors fit g much = room_for_few g fit much.room much.limits.metadata_most

-- three volumes always fit
three_leave : (pool most n : ℕ) → pool ≤ 1048576 → most ≤ pool → n ≡ 65536 → 2 + 2 * (count_blocks n + count_blocks pool) + 513 + (3 / 31 + 3 * (1 + most / 63)) ≤ n
three_leave pool most n few low is = omega arith

pub three_fit : (w : Wanted) (sectors fit : ℕ) (g : Geometry) → IsMost w sectors fit g → 3 ≤ fit
three_fit w sectors fit g much =
    ⊎_elim
    (λ (lt : fit < 3).
    let leaves : LeavesRoom g (most_mapped g) 3 = three_leave g.data_blocks (most_mapped g) g.metadata_blocks much.limits.data_most (omega arith) much.metadata in
    absurd (much.none (fewer g 3 (fit + 1) (omega arith) (have_room g (most_mapped g) 3 leaves))))
    (λ (le : 3 ≤ fit). le)
    (cases_lt fit 3)

-- blocks that hold as many bytes are as many
as_many : (blocks also sectors more bytes least : ℕ) → sectors ≡ more → bytes ≡ least → Holds blocks sectors bytes → Holds also more least → blocks ≤ also
as_many blocks also sectors more bytes least same equal held too =
    few_blocks blocks also (512 * sectors) bytes held.1
    (subst (λ s. bytes ≤ also * (512 * s)) (sym same) (subst (λ b. b ≤ also * (512 * more)) (sym equal) too.0))

allowed_again : (w v : Wanted) (sectors : ℕ) → w.block_size ≡ v.block_size → IsAllowed w sectors → IsAllowed v sectors
allowed_again w v sectors block allowed = (allowed.0, subst (λ b. IfSome b (λ bytes. bytes ≡ 512 * sectors)) block allowed.1)

enough_again : (w v : Wanted) (sectors : ℕ) → w.size ≡ v.size → w.volume_size ≡ v.volume_size → AreEnough w sectors → AreEnough v sectors
enough_again w v sectors size volume_size enough = (subst (λ b. b ≤ 1048576 * (512 * sectors)) size enough.0, subst (λ b. b ≤ 2 ^ 24 * (512 * sectors)) volume_size enough.1)

-- There is one such pool with blocks of that size, however many volumes are wanted.
module _
    (w v : Wanted) (g h : Geometry) (size : w.size ≡ v.size) (volume_size : w.volume_size ≡ v.volume_size) (sectors : g.block_sectors ≡ h.block_sectors) (one : HasBlocks w g) (two : HasBlocks v h)
    (metadata : g.metadata_blocks ≡ h.metadata_blocks) where
  pools : g.data_blocks ≡ h.data_blocks
  pools =
      let low = as_many g.data_blocks h.data_blocks g.block_sectors h.block_sectors w.size v.size sectors size one.pool two.pool in
      let high = as_many h.data_blocks g.data_blocks h.block_sectors g.block_sectors v.size w.size (sym sectors) (sym size) two.pool one.pool in
      omega (arith, low, high)

  volumes : g.virtual_blocks ≡ h.virtual_blocks
  volumes =
      let low = as_many g.virtual_blocks h.virtual_blocks g.block_sectors h.block_sectors w.volume_size v.volume_size sectors volume_size one.volume two.volume in
      let high = as_many h.virtual_blocks g.virtual_blocks h.block_sectors g.block_sectors v.volume_size w.volume_size (sym sectors) (sym volume_size) two.volume one.volume in
      omega (arith, low, high)

  pub one_pool : g ≡ h
  one_pool = λ i. record { block_sectors = sectors i; virtual_blocks = volumes i; metadata_blocks = metadata i; data_blocks = pools i }

-- The most metadata leave the most room.
roomy : (pool rest n m : ℕ) → 2 + 2 * (count_blocks n + count_blocks pool) + 513 + rest ≤ n → n ≤ 65536 → m ≡ 65536 → 2 + 2 * (count_blocks m + count_blocks pool) + 513 + rest ≤ m
roomy pool rest n m leaves most is = omega arith

pub largest : (g : Geometry) (volumes m : ℕ) → g.metadata_blocks ≤ 65536 → m ≡ 65536 → HaveRoom g volumes → HaveRoom (with_metadata g m) volumes
largest g volumes m most is room =
    have_room (with_metadata g m) (most_mapped g) volumes (roomy g.data_blocks (volumes / 31 + volumes * (1 + most_mapped g / 63)) g.metadata_blocks m (leaves_room g (most_mapped g) volumes room) most is)

-- Of blocks that suit no more volumes are wanted than fit.
pub few_enough : (w : Wanted) (sectors fit : ℕ) (g : Geometry) → IsMost w sectors fit g → Suits w sectors → w.volumes ≤ fit
few_enough w sectors fit g much suits =
    let h = suits.0 in
    let it = suits.1 in
    let same : with_metadata h g.metadata_blocks ≡ g =
    one_pool w w (with_metadata h g.metadata_blocks) g refl refl (it.sectors_are ∙ sym much.sectors_are) (record { pool = it.blocks.pool; volume = it.blocks.volume }) much.blocks refl in
    let room : HaveRoom g w.volumes = subst (λ (k : Geometry). HaveRoom k w.volumes) same (largest h w.volumes g.metadata_blocks it.limits.metadata_most much.metadata it.room) in
    ⊎_elim
    (λ (lt : fit < w.volumes). absurd (much.none (fewer g w.volumes (fit + 1) (omega arith) room)))
    (λ (le : w.volumes ≤ fit). le)
    (cases_lt fit w.volumes)

-- Where no more are wanted than fit, the blocks suit.
pub suits_few : (w : Wanted) (sectors fit : ℕ) (g : Geometry) → IsMost w sectors fit g → w.volumes ≤ fit → Suits w sectors
suits_few w sectors fit g much few = (g, record { sectors_are = much.sectors_are; limits = much.limits; blocks = much.blocks; room = fewer g fit w.volumes few much.room })

blocks_again : (w v : Wanted) (g : Geometry) → w.size ≡ v.size → w.volume_size ≡ v.volume_size → HasBlocks w g → HasBlocks v g
blocks_again w v g size volume_size blocks = record {
  pool = subst (λ b. Holds g.data_blocks g.block_sectors b) size blocks.pool;
  volume = subst (λ b. Holds g.virtual_blocks g.block_sectors b) volume_size blocks.volume;
}

fits_again : (w v : Wanted) (sectors fit : ℕ) (g : Geometry) → w.size ≡ v.size → w.volume_size ≡ v.volume_size → v.volumes ≡ fit → IsMost w sectors fit g → Suits v sectors
fits_again w v sectors fit g size volume_size volumes it = (
  g,
  record {
    sectors_are = it.sectors_are;
    limits = it.limits;
    blocks = blocks_again w v g size volume_size it.blocks;
    room = subst (λ n. HaveRoom g n) (sym volumes) it.room;
  },
)

-- Of as many as fit, none are too many.
pub only_out_of_range : (w v : Wanted) (fit : ℕ) (e : Unfit) → w.size ≡ v.size → w.volume_size ≡ v.volume_size → w.block_size ≡ v.block_size → v.volumes ≡ fit
    → IsUnfit w (TooMany fit) → IsUnfit v e → (e ≡ OutOfRange) × (IsInRange w → ⊥)
only_out_of_range w v fit OutOfRange size volume_size block volumes much none =
    let three = three_fit w much.2.0 fit much.2.1 much.2.3 in
    let enough = much.0.3 in
    absurd (none (
      subst (λ n. 0 < n) size much.0.0,
      subst (λ n. 0 < n) volume_size much.0.1,
      omega (arith, three, volumes),
      (enough.0, allowed_again w v enough.0 block enough.1, enough_again w v enough.0 size volume_size enough.2),
    ))
only_out_of_range w v fit (TooMany less) size volume_size block volumes much most =
    absurd (most.1 much.2.0 (allowed_again w v much.2.0 block much.2.2.0) (fits_again w v much.2.0 fit much.2.1 size volume_size volumes much.2.3))
