-- Internal: the node that a block says, good or not.
use Rattle.std.specs.Prelude.{◌≡◌, ◌<◌, ◌≤◌, ◌-◌, take, length, ℕ, zero, suc, ◌*◌, Bool, true, false, List, [], ◌∷◌, drop}
use Rattle.std.specs.List.Sorted.{IsStrictlyIncreasing}
use Rattle.tp_layout.specs.Numbers.{number32, number64, zeros}
use Rattle.tp_layout.specs.Node.{NodeValue, kind_number, most_level, is_long, entry_len, most_entries, keys, IsNode, node_bytes}
use Rattle.tp_layout.specs.declared.entry.Entry.{Entry}
use Rattle.tp_layout.specs.declared.kind.TreeKind.{TreeKind}

unfoldable pub entry_of : Bool → List ℕ → Entry
entry_of true bytes = record { key = number64 bytes; value = number64 (drop 8 bytes); mapped = number64 (drop 16 bytes); size = number64 (drop 24 bytes) }
entry_of false bytes = record { key = number64 bytes; value = number64 (drop 8 bytes); mapped = 0; size = 0 }

unfoldable pub entries_of : Bool → ℕ → List ℕ → List Entry
entries_of long zero bytes = []
entries_of long (suc n) bytes = entry_of long bytes ∷ entries_of long n (drop (entry_len long) bytes)

unfoldable pub node_of : TreeKind → List ℕ → NodeValue
node_of kind bytes = record {
  kind = kind;
  level = number32 (drop 4 bytes);
  own = number64 (drop 8 bytes);
  entries = entries_of (is_long kind (number32 (drop 4 bytes))) (number32 (drop 16 bytes)) (drop 64 bytes);
}

-- whether the entries of a block are long, by its level, and how many it says that it has
abbrev pub long_at : TreeKind → List ℕ → Bool
long_at kind bytes = is_long kind (number32 (drop 4 bytes))

abbrev pub count_at : List ℕ → ℕ
count_at bytes = number32 (drop 16 bytes)

-- what the tests of a block's form show
pub record HasForm (kind : TreeKind) (own : ℕ) (bytes : List ℕ) : Type 0 where
  pub kind_is : number32 bytes ≡ kind_number kind
  pub level : number32 (drop 4 bytes) ≤ most_level kind
  pub own_is : number64 (drop 8 bytes) ≡ own
  pub own_below : own < 65536
  pub room : count_at bytes ≤ most_entries (long_at kind bytes)
  pub head : take 44 (drop 20 bytes) ≡ zeros 44
  pub tail : drop (entry_len (long_at kind bytes) * count_at bytes) (drop 64 bytes) ≡ zeros (4032 - entry_len (long_at kind bytes) * count_at bytes)

-- what all tests of a block show
pub record Passes (kind : TreeKind) (own : ℕ) (bytes : List ℕ) : Type 0 where
  pub form : HasForm kind own bytes
  pub ascending : IsStrictlyIncreasing (keys (entries_of (long_at kind bytes) (count_at bytes) (drop 64 bytes)))

-- what a view keeps beside its block is what the block says, and the block spells a good node
pub record IsViewed (kind : TreeKind) (level : ℕ) (long : Bool) (len : ℕ) (bytes : List ℕ) : Type 0 where
  pub size : length bytes ≡ 4096
  pub level_is : level ≡ number32 (drop 4 bytes)
  pub long_is : long ≡ long_at kind bytes
  pub len_is : len ≡ count_at bytes
  pub good : IsNode (node_of kind bytes)
  pub spelled : bytes ≡ node_bytes (node_of kind bytes)
