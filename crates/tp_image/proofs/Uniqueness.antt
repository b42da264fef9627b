-- A block's bytes say one node.
use Rattle.std.proofs.Common.{◌≡◌, ℕ, zero, suc, List, [], ◌∷◌, Some, refl, sym, ap, ◌∙◌, arith}
use Rattle.std.specs.Prelude.{slice_get, Contains}
use Rattle.std.proofs.lemmas.Option.{none-some, same_Some}
use Rattle.tp_model.specs.Sectors.{Sector}
use Rattle.tp_layout.specs.Node.{IsFormed, NodeValue, kind_number, node_bytes}
use Rattle.tp_layout.specs.Numbers.{number32}
use Rattle.tp_layout.specs.declared.entry.Entry.{Entry}
use Rattle.tp_layout.specs.declared.kind.TreeKind.{TreeKind}
use Rattle.tp_layout.specs.declared.kind.TreeKind.TheVariants.{Device, Mapping}
use Rattle.tp_layout.proofs.NodeLaws.{form_node_bytes, formed_says}
use Rattle.tp_image.specs.Nodes.{IsNodeAt, block_at, LeadsTo, ends, goes, HasEntry, found, under}

same_kind : (k l : TreeKind) → kind_number k ≡ kind_number l → k ≡ l
same_kind Device Device h = refl
same_kind Mapping Mapping h = refl
same_kind Device Mapping h = absurd (omega (arith, h))
same_kind Mapping Device h = absurd (omega (arith, h))

-- in whatever order its keys are
pub IsFormed-one : (bytes : List ℕ) (n m : NodeValue) → IsFormed n → IsFormed m → bytes ≡ node_bytes n → bytes ≡ node_bytes m → n ≡ m
IsFormed-one bytes n m x y a b =
    let same : node_bytes n ≡ node_bytes m = sym a ∙ b in
    let kinds : n.kind ≡ m.kind = same_kind n.kind m.kind (sym (form_node_bytes n x).kind_is ∙ ap number32 same ∙ (form_node_bytes m y).kind_is) in
    sym (formed_says m.kind (node_bytes n) n x kinds refl) ∙ formed_says m.kind (node_bytes n) m y refl same

pub IsNodeAt-one : (image : List Sector) (b : ℕ) (n m : NodeValue) → IsNodeAt image b n → IsNodeAt image b m → n ≡ m
IsNodeAt-one image b n m x y = IsFormed-one (block_at image b) n m x.good.form y.good.form x.bytes y.bytes

-- what stands at a place is an element
pub contains_at : {X : Type 0} (xs : List X) (i : ℕ) (x : X) → slice_get xs i ≡ Some x → Contains xs x
contains_at [] i x h = absurd (none-some x h)
contains_at (y ∷ ys) zero x h = (0, omega arith, same_Some y x h)
contains_at (y ∷ ys) (suc i) x h = let rest = contains_at ys i x h in (suc rest.0, omega (arith, rest.1), rest.2)

pub HasEntry-LeadsTo : (image : List Sector) (kind : TreeKind) (key b : ℕ) (e : Entry) → HasEntry image kind key b e → LeadsTo image kind b e
HasEntry-LeadsTo image kind key b e (found n at k leaf there same) = ends n at k leaf there
HasEntry-LeadsTo image kind key b e (under n i child at k inner there from before h) = goes n child at k inner (contains_at n.entries i child there) (HasEntry-LeadsTo image kind key child.value e h)

pub HasEntry-key : (image : List Sector) (kind : TreeKind) (key b : ℕ) (e : Entry) → HasEntry image kind key b e → e.key ≡ key
HasEntry-key image kind key b e (found n at k leaf there same) = same
HasEntry-key image kind key b e (under n i child at k inner there from before h) = HasEntry-key image kind key child.value e h
