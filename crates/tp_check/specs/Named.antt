-- Internal: a block that spells a node of a demanded form.
use Rattle.std.specs.Prelude.{◌≡◌, ℕ, List, Option, MatchOption}
use Rattle.tp_layout.specs.Node.{NodeValue, IsFormed, node_bytes}
use Rattle.tp_layout.specs.declared.kind.TreeKind.{TreeKind}

-- the bytes spell this node, which has the form that is demanded
pub record IsOfForm (kind : TreeKind) (level : Option ℕ) (own : ℕ) (bytes : List ℕ) (n : NodeValue) : Type 0 where
  pub form : IsFormed n
  pub kind_is : n.kind ≡ kind
  pub level_is : MatchOption level (Unit {0}) (λ wanted. n.level ≡ wanted)
  pub own_is : n.own ≡ own
  pub spelled : bytes ≡ node_bytes n
