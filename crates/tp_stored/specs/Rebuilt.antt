-- Internal: the store that a clean image has: the nodes that can be reached in it, and its stored counts (own).
use Rattle.std.specs.Prelude.{ℕ, ◌==◌, List, [], ◌∷◌, ◌++◌, map, if◌then◌else◌}
use Rattle.std.specs.List.{range_with_len}
use Rattle.tp_model.specs.Geometry.{Geometry}
use Rattle.tp_layout.specs.Node.{NodeValue}
use Rattle.tp_layout.specs.declared.counts.Part.{Part}
use Rattle.tp_layout.specs.declared.counts.Part.TheVariants.{Data, Metadata}
use Rattle.tp_refs.specs.Store.{Node, Store, no_node, node_from}

-- the node among these that stands in block b, of m metadata blocks
abbrev pub node_among : ℕ → List NodeValue → ℕ → Node
node_among m [] b = no_node
node_among m (n ∷ nodes) b = if n.own == b then node_from m n else node_among m nodes b

abbrev pub all_counts : (Part → List ℕ) → List ℕ
all_counts counts = counts Metadata ++ counts Data

abbrev pub store_from : Geometry → List NodeValue → (Part → List ℕ) → Store
store_from g nodes counts = record {
  counts = all_counts counts;
  kept = all_counts counts;
  nodes = map (node_among g.metadata_blocks nodes) (range_with_len 0 g.metadata_blocks);
}
