-- Trusted reading: true counts: how many references name a block (own, in the manner of the kernel's space maps).
use Rattle.std.specs.Prelude.{ℕ, zero, suc, ◌+◌, ◌==◌, nat_eq, Bool, true, false, if◌then◌else◌, nat_lt, List, [], map, Contains, sum_by, count_by}
use Rattle.std.specs.List.{IsDistinct, range_with_len}
use Rattle.tp_model.specs.Geometry.{Geometry, fixed_part}
use Rattle.tp_model.specs.Sectors.{Sector}
use Rattle.tp_layout.specs.Node.{NodeValue}
use Rattle.tp_layout.specs.declared.kind.TreeKind.{TreeKind}
use Rattle.tp_layout.specs.declared.kind.TreeKind.TheVariants.{Device, Mapping}
use Rattle.tp_image.specs.Nodes.{IsNodeAt}

abbrev pub values : NodeValue → List ℕ
values n = map (λ e. e.value) n.entries

-- the leaves of mapping trees name data blocks, every other node names metadata blocks
abbrev pub is_naming_data : TreeKind → ℕ → Bool
is_naming_data Mapping zero = true
is_naming_data Mapping (suc level) = false
is_naming_data Device level = false

abbrev pub metadata_names : NodeValue → List ℕ
metadata_names n = if is_naming_data n.kind n.level then [] else values n

abbrev pub data_names : NodeValue → List ℕ
data_names n = if is_naming_data n.kind n.level then values n else []

-- A node is reachable where it is one of the roots of device trees, or a reachable node names it.
pub data IsReachable (image : List Sector) (roots : List ℕ) : NodeValue → Type 0 where
  itself : (root : ℕ) (n : NodeValue) → Contains roots root → IsNodeAt image root n → IsReachable image roots n
  through : (parent n : NodeValue) → IsReachable image roots parent → Contains (metadata_names parent) n.own → IsNodeAt image n.own n → IsReachable image roots n

-- these are the reachable nodes, each once
pub record AreReachable (image : List Sector) (roots : List ℕ) (nodes : List NodeValue) : Type 0 where
  pub all : (n : NodeValue) → IsReachable image roots n → Contains nodes n
  pub only : (n : NodeValue) → Contains nodes n → IsReachable image roots n
  pub once : IsDistinct nat_eq (map (λ n. n.own) nodes)

-- how many times a block is among the names that these nodes have
abbrev pub times_named : (NodeValue → List ℕ) → List NodeValue → ℕ → ℕ
times_named names nodes b = sum_by (λ n. count_by (λ x. x == b) (names n)) nodes

-- the count of a metadata block: its names, one more for each root that it is, and one more for a block of the fixed part
abbrev pub metadata_count : Geometry → List ℕ → List NodeValue → ℕ → ℕ
metadata_count g roots nodes b =
    times_named metadata_names nodes b + count_by (λ root. b == root) roots + (if nat_lt b (fixed_part g) then 1 else 0)

abbrev pub data_count : List NodeValue → ℕ → ℕ
data_count nodes p = times_named data_names nodes p

-- how many metadata blocks have a count
abbrev pub metadata_use : Geometry → List ℕ → List NodeValue → ℕ
metadata_use g roots nodes = count_by (λ b. nat_lt 0 (metadata_count g roots nodes b)) (range_with_len 0 g.metadata_blocks)
