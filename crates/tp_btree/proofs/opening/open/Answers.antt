use Rattle.std.proofs.Common.{◌≡◌, ◌∙◌, ◌∷◌, ◌++◌, ℕ, List, refl, ap, sym, subst, arith}
use Rattle.std.specs.Prelude.{IsTrue}
use Rattle.tp_model.specs.Disk.{DiskState}
use Rattle.tp_layout.specs.Node.{NodeValue}
use Rattle.tp_layout.specs.Value.{node_value}
use Rattle.tp_refs.specs.Store.{Node, Store, children, node_at}
use Rattle.tp_refs.proofs.Steps.{held_closed, held_live, one_same}
use Rattle.tp_tm.specs.Holds.{Holds, IsRankOf}
use Rattle.tp_btree.specs.Trees.{base_of}
use Rattle.tp_btree.specs.Replaces.{Opened}
use Rattle.tp_btree.proofs.Steps.{Standing, rank_by_level, standing}
use Rattle.tp_btree.proofs.opening.open.Given.{Over}
use Rattle.tp_btree.proofs.opening.open.Goals as goal
use Rattle.tp_btree.proofs.opening.open.Goals.{After-node_in-node}

-- the node that stood there, and what was read of it
record Found (g : Over) (c : After-node_in-node g) (s : Store) : Type 0 where
  pub there : Standing c.args.tm.now.geometry.metadata_blocks (g.D.Disk.state c.args.disk.now) c.args.kind s c.args.block
  pub read : node_value c.node_in-node.result ≡ record there.node { own = c.in_ok-own.own }

was_found : (g : Over) (c : After-node_in-node g) → IsTrue (g.D.Disk.state c.args.disk.now).is_honest → (opens held : List ℕ) (s : Store) → Holds c.args.tm.now (g.D.Disk.state c.args.disk.now) opens (c.args.block ∷ held) s
    → IsRankOf c.args.kind (node_at s c.args.block).rank → Found g c s
was_found g c honest opens held s h rank =
    let r = standing c.args.tm.now (g.D.Disk.state c.args.disk.now) c.args.kind opens (c.args.block ∷ held) s c.args.block h
    (held_live s opens (c.args.block ∷ held) c.args.block h.balanced (omega (arith, one_same c.args.block c.args.block refl)))
    (held_closed s opens (c.args.block ∷ held) c.args.block h.balanced (omega (arith, one_same c.args.block c.args.block refl))) rank in
    record { there = r; read = c.node_in-node.ensures.value r.node r.there.good r.kind_is (c.in_ok-own.ensures.found honest ∙ r.there.bytes) }

pub returns-then-node-top-clause-damaged : goal.returns-then-node-top-clause-damaged
returns-then-node-top-clause-damaged g c e honest opens held s h rank room low =
    let f = was_found g (goal.at.returns-then-node-top-clause-damaged g c).After-node_in-node honest opens held s h rank in
    omega (
      arith,
      low,
      c.if-node-top.true,
      ap (λ (v : NodeValue). v.level) f.read,
      ap (λ (y : Node). y.rank) f.there.same,
      rank_by_level f.there.node.kind f.there.node.level,
      ap base_of f.there.kind_is,
    )

pub returns-clause-opened : goal.returns-clause-opened
returns-clause-opened g c honest opens held s h rank room =
    let f = was_found g (goal.at.returns-clause-opened g c).After-node_in-node honest opens held s h rank in
    let m = c.args.tm.now.geometry.metadata_blocks in
    let sh = c.in_ok-own.ensures.shadowed honest opens held s h rank room in
    let opened : Opened m s c.shadow.new.self (g.D.Disk.state c.shadow.new.disk) c.args.block (record f.there.node { own = c.in_ok-own.own }) opens held =
    record {
      after = sh.after;
      holds = subst (λ (z : DiskState). Holds c.shadow.new.self z (c.in_ok-own.own ∷ opens) (children (node_at s c.args.block) ++ held) sh.after) (sym c.in_ok-own.ensures.state) sh.holds;
      same = sh.same;
      node = f.there.same;
    } in
    subst (λ v. Opened m s c.shadow.new.self (g.D.Disk.state c.shadow.new.disk) c.args.block v opens held) (sym f.read) opened
