-- Internal: trees stand in the metadata blocks behind the fixed part: what else is written leaves them (own).
use Rattle.std.proofs.Common.{ℕ, ◌*◌, ◌<◌, ◌≤◌, List, ◌∙◌, arith, inl, inr}
use Rattle.std.proofs.lemmas.Bool.{cases_lt}
use Rattle.tp_model.specs.Disk.{DiskState, seen}
use Rattle.tp_model.specs.Geometry.{Geometry, fixed_part}
use Rattle.tp_model.specs.Sectors.{Sector}
use Rattle.tp_model.proofs.DiskStopLaws.{bytes_at-same}
use Rattle.tp_refs.specs.Store.{Node, Store, node_at}
use Rattle.tp_trees.proofs.Trees.{rank_inside}
use Rattle.tp_sharing.specs.Volumes.{Volumes}
use Rattle.tp_stored.specs.Commit.{IsSound}
use Rattle.tp_stored.proofs.Ranges.{in_range}
use Rattle.tp_tm.specs.Holds.{IsSpelled}
use Rattle.tp_mapping.specs.Mapping.{SameTreeBlocks}
use Rattle.tp_mapping.specs.Trees.{StandForVolumes}
use Rattle.tp_mapping.specs.declared.trees.TreeMapping.{TreeMapping}

node_behind : (g : Geometry) (root held : ℕ) (s : Store) → IsSound g root held s → (b : ℕ) → 0 < (node_at s b).rank → fixed_part g ≤ b
node_behind g root held s sound b ranked =
    elim (cases_lt b (fixed_part g)) [
      | inl l ↦ absurd (omega (arith, ranked, sound.forest.bare b (omega (arith, in_range b 0 (fixed_part g) (omega arith) (omega (arith, l))))))
      | inr h ↦ omega (arith, h)
    ]

spelled_same : (g : Geometry) (m b : ℕ) (old new : List Sector) (node : Node) → SameTreeBlocks g old new → fixed_part g ≤ b → b < g.metadata_blocks → IsSpelled m old b node → IsSpelled m new b node
spelled_same g m b old new node same low high was = (
  was.0,
  (
    record {
      good = was.1.0.good;
      own = was.1.0.own;
      bytes = bytes_at-same (8 * b) 8 new old same.same_length (λ i l h. same.same i (omega (arith, low, l)) (omega (arith, high, h))) ∙ was.1.0.bytes;
    },
    was.1.1,
  ),
)

pub frame_stands : (m : TreeMapping) (old new : DiskState) (now kept : Volumes) → SameTreeBlocks m.tm.geometry (seen old.cells) (seen new.cells)
    → StandForVolumes m old now kept → StandForVolumes m new now kept
frame_stands m old new now kept same s = record {
  store = s.store;
  holds = record {
    stands = record {
      counts = s.holds.stands.counts;
      kept = s.holds.stands.kept;
      sized = s.holds.stands.sized;
      nodes = λ b live closed ranked.
          spelled_same m.tm.geometry m.tm.geometry.metadata_blocks b (seen old.cells) (seen new.cells) (node_at s.store b) same
          (node_behind m.tm.geometry m.root m.tm.held_root s.store s.sound b ranked) (omega (arith, rank_inside s.store b ranked, s.sound.sized)) (s.holds.stands.nodes b live closed ranked);
    };
    balanced = s.holds.balanced;
  };
  sound = s.sound;
  listed = s.listed;
  within = s.within;
  kept_places = s.kept_places;
}
