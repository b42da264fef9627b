-- The sizes that are answered are those that are wanted.
use Rattle.std.proofs.Common.{◌≡◌, ℕ, ◌+◌, ◌*◌, ◌/◌, ◌^◌, ◌≤◌, ◌<◌, arith, refl, subst, sym}
use Rattle.std.specs.Prelude.{min}
use Rattle.tp_model.specs.Geometry.{Geometry, IsWithinLimits, count_blocks, fixed_part}
use Rattle.tp_sizing.specs.declared.wanted.Wanted.{Wanted}
use Rattle.tp_sizing.specs.Numbers.{DoesMetadata, behind_fixed, for_volumes, room_for_volumes}
use Rattle.tp_sizing.specs.Sizing.{AreEnough, HasBlocks, HaveRoom, Holds, IsBlockSize, IsInRange, IsMost, IsSizedFor, IsSmallest, Suits}
use Rattle.tp_sizing.proofs.Blocks.{enough_blocks, few_blocks, least_size, most_size, some_blocks, step_of}
use Rattle.tp_sizing.proofs.Room.{LeavesRoom, have_room, leaves_room}
use Rattle.tp_sizing.proofs.Fitting.{largest, one_pool}

-- the formulas of metadata, over numbers alone
metadata_of : (pool volumes each n : ℕ) → 2 + 2 * (count_blocks n + count_blocks pool) + 1024 ≤ n → 2 + 2 * (count_blocks n + count_blocks pool) + 513 + for_volumes volumes each ≤ n → DoesMetadata pool (behind_fixed volumes each) n
metadata_of pool volumes each n low leaves = omega arith

room_of : (pool volumes each n : ℕ) → DoesMetadata pool (behind_fixed volumes each) n → 2 + 2 * (count_blocks n + count_blocks pool) + 513 + for_volumes volumes each ≤ n
room_of pool volumes each n good = omega arith

least_of : (pool volumes each n : ℕ) → DoesMetadata pool (behind_fixed volumes each) n → 2 + 2 * (count_blocks n + count_blocks pool) + 1024 ≤ n
least_of pool volumes each n good = omega arith

largest_room : (pool volumes each : ℕ) → pool ≤ 1048576 → for_volumes volumes each ≤ room_for_volumes pool → 2 + 2 * (count_blocks 65536 + count_blocks pool) + 513 + for_volumes volumes each ≤ 65536
largest_room pool volumes each few room = omega arith

largest_full : (pool volumes each : ℕ) → pool ≤ 1048576 → room_for_volumes pool < for_volumes volumes each → 2 + 2 * (count_blocks 65536 + count_blocks pool) + 513 + for_volumes volumes each ≤ 65536 → ⊥
largest_full pool volumes each few many leaves = omega arith

room_left : (pool volumes each : ℕ) → pool ≤ 1048576 → 2 + 2 * (count_blocks 65536 + count_blocks pool) + 513 + for_volumes volumes each ≤ 65536 → for_volumes volumes each ≤ room_for_volumes pool
room_left pool volumes each few leaves = omega arith

-- Of blocks that suit there are enough.
pub enough_of : (w : Wanted) (sectors : ℕ) → Suits w sectors → AreEnough w sectors
enough_of w sectors suits =
    let g = suits.0 in
    let it = suits.1 in
    subst (λ s. AreEnough w s) it.sectors_are (
      enough_blocks g.data_blocks 1048576 (512 * g.block_sectors) w.size it.blocks.pool.0 it.limits.data_most,
      enough_blocks g.virtual_blocks (2 ^ 24) (512 * g.block_sectors) w.volume_size it.blocks.volume.0 it.limits.virtual_most,
    )

module _
    (w : Wanted) (sectors pool volume : ℕ) (range : IsInRange w) (allowed : IsBlockSize sectors) (enough : AreEnough w sectors) (data_held : Holds pool sectors w.size)
    (volume_held : Holds volume sectors w.volume_size) where
  abbrev of : ℕ → Geometry
  of n = record { block_sectors = sectors; virtual_blocks = volume; metadata_blocks = n; data_blocks = pool }

  pub few_data : pool ≤ 1048576
  few_data = few_blocks pool 1048576 (512 * sectors) w.size data_held.1 enough.0

  few_virtual : volume ≤ 2 ^ 24
  few_virtual = few_blocks volume (2 ^ 24) (512 * sectors) w.volume_size volume_held.1 enough.1

  limits : (n : ℕ) → fixed_part (of n) + 1024 ≤ n → n ≤ 65536 → IsWithinLimits (of n)
  limits n least most = record {
    block_least = least_size sectors allowed;
    block_most = most_size sectors allowed;
    block_step = step_of sectors allowed;
    virtual_least = some_blocks volume (512 * sectors) w.volume_size range.1 volume_held.0;
    virtual_most = few_virtual;
    metadata_least = least;
    metadata_most = most;
    data_least = some_blocks pool (512 * sectors) w.size range.0 data_held.0;
    data_most = few_data;
  }

  blocks : (n : ℕ) → HasBlocks w (of n)
  blocks n = record { pool = data_held; volume = volume_held }

  module _ (each : ℕ) (is : each ≡ 1 + min volume pool / 63) where
    within : (n : ℕ) → DoesMetadata pool (behind_fixed w.volumes each) n → n ≤ 65536 → IsWithinLimits (of n)
    within n good most = limits n (least_of pool w.volumes each n good) most

    good_of : (n : ℕ) → IsWithinLimits (of n) → HaveRoom (of n) w.volumes → DoesMetadata pool (behind_fixed w.volumes each) n
    good_of n inside room =
        let leaves : LeavesRoom (of n) (min volume pool) w.volumes = leaves_room (of n) (min volume pool) w.volumes room in
        let low = inside.metadata_least in
        subst (λ e. DoesMetadata pool (behind_fixed w.volumes e) n) (sym is) (metadata_of pool w.volumes (1 + min volume pool / 63) n low leaves)

    pub sized : (n : ℕ) → IsSmallest w sectors → DoesMetadata pool (behind_fixed w.volumes each) n → ((m : ℕ) → DoesMetadata pool (behind_fixed w.volumes each) m → n ≤ m) → n ≤ 65536
        → IsSizedFor w (of n)
    sized n smallest good least most = record {
      wanted = range;
      limits = within n good most;
      block = smallest;
      blocks = blocks n;
      room = have_room (of n) (min volume pool) w.volumes (room_of pool w.volumes (1 + min volume pool / 63) n (subst (λ e. DoesMetadata pool (behind_fixed w.volumes e) n) is good));
      least = λ m inside room. least m (good_of m inside room);
    }

    pub most : (fit : ℕ) → for_volumes fit each ≤ room_for_volumes pool → room_for_volumes pool < for_volumes (fit + 1) each → IsMost w sectors fit (of 65536)
    most fit few many = record {
      sectors_are = refl;
      limits = limits 65536 (omega (arith, few_data)) (omega arith);
      blocks = blocks 65536;
      metadata = refl;
      room = have_room (of 65536) (min volume pool) fit (largest_room pool fit (1 + min volume pool / 63) few_data (subst (λ e. for_volumes fit e ≤ room_for_volumes pool) is few));
      none = λ room. largest_full pool (fit + 1) (1 + min volume pool / 63) few_data (subst (λ e. room_for_volumes pool < for_volumes (fit + 1) e) is many) (leaves_room (of 65536) (min volume pool) (fit + 1) room);
    }

    -- Where the blocks suit, the metadata have room.
    pub left : Suits w sectors → for_volumes w.volumes each ≤ room_for_volumes pool
    left suits =
        let g = suits.0 in
        let it = suits.1 in
        let same : g ≡ of g.metadata_blocks = one_pool w w g (of g.metadata_blocks) refl refl it.sectors_are it.blocks (blocks g.metadata_blocks) refl in
        let room : HaveRoom (of 65536) w.volumes =
        largest (of g.metadata_blocks) w.volumes 65536 it.limits.metadata_most refl (subst (λ (k : Geometry). HaveRoom k w.volumes) same it.room) in
        subst (λ e. for_volumes w.volumes e ≤ room_for_volumes pool) (sym is)
        (room_left pool w.volumes (1 + min volume pool / 63) few_data (leaves_room (of 65536) (min volume pool) w.volumes room))
