-- Which lists of mapped blocks use the most metadata: those where each volume has the most.
use Rattle.std.proofs.Common.{◌≡◌, ℕ, ◌+◌, ◌*◌, ◌/◌, ◌≤◌, List, length, arith, get_or}
use Rattle.std.specs.Prelude.{All, replicate, sum_by}
use Rattle.std.proofs.Math.Nat.{mul-le-mul_right}
use Rattle.std.proofs.lemmas.List.{length-replicate}
use Rattle.std.proofs.lemmas.List.Elements.{All-replicate}
use Rattle.std.proofs.lemmas.List.Folds.{sum_by-replicate}
use Rattle.std.proofs.lemmas.List.Sums.{sum_by-le}
use Rattle.tp_model.specs.Geometry.{Geometry, fixed_part}
use Rattle.tp_image.specs.Bound.{metadata_bound}
use Rattle.tp_sizing.specs.Numbers.{for_volumes}

-- So many volumes have room, none with more mapped than so many.
abbrev pub HaveRoomFor : Geometry → ℕ → ℕ → Type 0
HaveRoomFor g most volumes = (mapped : List ℕ) → length mapped ≤ volumes → All (λ m. m ≤ most) mapped → metadata_bound g mapped + 512 ≤ g.metadata_blocks

-- what that is as a number
abbrev pub LeavesRoom : Geometry → ℕ → ℕ → Type 0
LeavesRoom g most volumes = fixed_part g + 513 + for_volumes volumes (1 + most / 63) ≤ g.metadata_blocks

bounded : (g : Geometry) (most volumes : ℕ) (mapped : List ℕ) → length mapped ≤ volumes → All (λ m. m ≤ most) mapped → metadata_bound g mapped ≤ fixed_part g + 1 + for_volumes volumes (1 + most / 63)
bounded g most volumes mapped few each =
    let sum : sum_by (λ m. 1 + m / 63) mapped ≤ length mapped * (1 + most / 63) =
    sum_by-le (λ m. 1 + m / 63) (1 + most / 63) mapped (λ k d lt. let low : get_or mapped k d ≤ most = each k d lt in omega arith) in
    let more : length mapped * (1 + most / 63) ≤ volumes * (1 + most / 63) = mul-le-mul_right {m = length mapped} {n = volumes} (1 + most / 63) few in
    omega arith

reached : (g : Geometry) (most volumes : ℕ) → metadata_bound g (replicate volumes most) ≡ fixed_part g + 1 + for_volumes volumes (1 + most / 63)
reached g most volumes =
    let long : length (replicate volumes most) ≡ volumes = length-replicate {A = ℕ} volumes most in
    let sum : sum_by (λ m. 1 + m / 63) (replicate volumes most) ≡ volumes * (1 + most / 63) = sum_by-replicate (λ m. 1 + m / 63) volumes most in
    omega (arith, long, sum)

pub have_room : (g : Geometry) (most volumes : ℕ) → LeavesRoom g most volumes → HaveRoomFor g most volumes
have_room g most volumes room mapped few each = omega (arith, bounded g most volumes mapped few each)

pub leaves_room : (g : Geometry) (most volumes : ℕ) → HaveRoomFor g most volumes → LeavesRoom g most volumes
leaves_room g most volumes have =
    let long : length (replicate volumes most) ≤ volumes = omega (arith, length-replicate {A = ℕ} volumes most) in
    let here : metadata_bound g (replicate volumes most) + 512 ≤ g.metadata_blocks =
    have (replicate {A = ℕ} volumes most) long (All-replicate (λ m. m ≤ most) volumes most (omega arith)) in
    omega (arith, reached g most volumes)
