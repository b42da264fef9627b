-- Trusted reading: entries in the order of their keys: places, look-ups and changes.
use Rattle.std.specs.Prelude.{ℕ, suc, ◌≤◌, List, [], ◌∷◌, nat_le, nat_lt, ◌==◌, if◌then◌else◌, Option, Some, None}
use Rattle.tp_layout.specs.declared.entry.Entry.{Entry}

-- how many entries at the front have a key up to this one
abbrev pub rank_of : ℕ → List Entry → ℕ
rank_of key [] = 0
rank_of key (e ∷ es) = if nat_le e.key key then suc (rank_of key es) else 0

-- the first entry that has the key
abbrev pub found : ℕ → List Entry → Option Entry
found key [] = None
found key (e ∷ es) = if e.key == key then Some e else found key es

-- The entries with this one at its key: in the place of the one that had the key, or else before the first greater key.
abbrev pub with_entry : Entry → List Entry → List Entry
with_entry x [] = x ∷ []
with_entry x (e ∷ es) = if nat_lt x.key e.key then x ∷ (e ∷ es) else if e.key == x.key then x ∷ es else e ∷ with_entry x es

-- the entries without the first one that has the key
abbrev pub without_key : ℕ → List Entry → List Entry
without_key key [] = []
without_key key (e ∷ es) = if e.key == key then es else e ∷ without_key key es

-- the first key, or this end where there is none
abbrev pub first_key : List Entry → ℕ → ℕ
first_key [] high = high
first_key (e ∷ es) high = e.key

-- the keys ascend strictly, from `low` up to, not including, `high`
abbrev pub Ascend : ℕ → ℕ → List Entry → Type 0
Ascend low high [] = low ≤ high
Ascend low high (e ∷ es) = (low ≤ e.key) × Ascend (suc e.key) high es
