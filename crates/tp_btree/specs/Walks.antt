-- Internal: what is read of a tree in the order of its keys.
use Rattle.std.specs.Prelude.{◌≡◌, ℕ, List, [], ◌∷◌, Option, None, Some, ◌++◌, map, nat_le, take, if◌then◌else◌}
use Rattle.tp_layout.specs.declared.entry.Entry.{Entry}
use Rattle.tp_layout.specs.declared.kind.TreeKind.{TreeKind}
use Rattle.tp_refs.specs.Store.{first_named, moved_by}

-- the entries with keys from this one on
abbrev pub from_key : ℕ → List Entry → List Entry
from_key key [] = []
from_key key (e ∷ es) = if nat_le key e.key then e ∷ from_key key es else from_key key es

-- the entries of a leaf of this kind as those of a store's node, among m metadata blocks: their values are references
abbrev pub as_references : ℕ → TreeKind → List Entry → List Entry
as_references m kind es = map (moved_by (first_named m kind 0)) es

-- To the old entries these were added, given with their values as references, as many as there was room for.
abbrev pub IsFilled : ℕ → TreeKind → List Entry → List Entry → List Entry → Type 0
IsFilled m kind added old new = as_references m kind new ≡ take 252 (as_references m kind old ++ added)

-- entries were added at the end
abbrev pub IsLonger : List Entry → List Entry → Type 0
IsLonger old new = (added : List Entry) × (new ≡ old ++ added)

-- the last entry, if there is one
abbrev pub last_entry : List Entry → Option Entry
last_entry [] = None
last_entry (e ∷ []) = Some e
last_entry (e ∷ f ∷ es) = last_entry (f ∷ es)
