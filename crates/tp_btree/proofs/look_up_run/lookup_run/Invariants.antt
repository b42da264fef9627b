use Rattle.std.proofs.Common.{◌≡◌, ◌≤◌, ◌<◌, ◌+◌, ◌-◌, ℕ, List, IsTrue, None, length}
use Rattle.std.specs.Prelude.{slice_index_or}
use Rattle.tp_layout.specs.Entries.{found}
use Rattle.tp_refs.specs.Store.{Store}
use Rattle.tp_trees.specs.Tree.{is_shared_path, pairs}
use Rattle.tp_btree.specs.Trees.{StandsBelow, Told}
use Rattle.tp_btree.proofs.look_up_run.lookup_run.Given as goal

abbrev pub invariant-loop-done : goal.invariant-loop-done
invariant-loop-done g l = record {
  state : g.D.Disk.state l.disk ≡ g.D.Disk.state l.fn.disk;
  sized : length l.out ≡ length l.fn.out;
  within : l.done ≤ length l.out;
  told : IsTrue (g.D.Disk.state l.fn.disk).is_honest → (opens held : List ℕ) (s : Store) (k high : ℕ)
      → StandsBelow l.tm (g.D.Disk.state l.fn.disk) l.kind opens held s k 0 high l.root → l.first + length l.fn.out ≤ high → (i : ℕ) → i < l.done
      → Told l.tm.geometry.metadata_blocks l.kind (found (l.first + i) (pairs k s l.root)) (is_shared_path k s (l.first + i) l.root) (slice_index_or l.out i None);
}

abbrev pub decreases-loop-done : goal.decreases-loop-done
decreases-loop-done g l = length l.out - l.done
