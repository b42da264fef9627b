use Rattle.std.proofs.Common.{◌≡◌, ◌∙◌, ◌∷◌, ℕ, suc, List, [], ap, arith, length, sym, subst}
use Rattle.std.specs.Prelude.{◌↔◌, ◌^◌, slice_index}
use Rattle.std.proofs.lemmas.Result.{on_ok_weaker}
use Rattle.tp_layout.specs.declared.kind.TreeKind.TheVariants.{Device}
use Rattle.tp_sharing.specs.Volumes.{Unused, Volumes}
use Rattle.tp_stored.specs.Commit.{held_by}
use Rattle.tp_tm.specs.Tm.{OnlyFewer, Tm, used_metadata}
use Rattle.tp_btree.specs.Trees.{StandsBelow}
use Rattle.tp_mapping.specs.Mapping.{without_copies}
use Rattle.tp_mapping.specs.Trees.{StandForVolumes}
use Rattle.tp_mapping.specs.declared.trees.TreeMapping.{TreeMapping}
use Rattle.tp_mapping.proofs.Between.{again, held_trees}
use Rattle.tp_mapping.proofs.Holding.{SameCommit, height}
use Rattle.tp_mapping.proofs.Holdings.{copy_stands, held_some, holding, released}
use Rattle.tp_mapping.proofs.trees.TreeMapping.release.Given.{Over}
use Rattle.tp_mapping.proofs.trees.TreeMapping.release.Goals as goal
use Rattle.tp_mapping.proofs.trees.TreeMapping.release.Goals.{After-drop_tree}

let_go_is : (g : Over) (c : After-drop_tree g) → c.hold.new.self ≡ holding c.args.self.now.tm 0
let_go_is g c = c.hold.ensures ∙ ap (holding c.args.self.now.tm) c.new-none.ensures

stands : (g : Over) (c : After-drop_tree g) (now kept : Volumes) (s : StandForVolumes c.args.self.now (g.D.Disk.state c.args.disk.now) now kept) (n : ℕ) → c.args.self.now.tm.held_root ≡ suc n
    → StandsBelow c.hold.new.self (g.D.Disk.state c.args.disk.now) Device [] (c.in_ok-root.root ∷ held_by c.args.self.now.tm.geometry c.args.self.now.root 0) (held_trees c.args.self.now (g.D.Disk.state c.args.disk.now) now kept s).store
    (height 5 (held_trees c.args.self.now (g.D.Disk.state c.args.disk.now) now kept s).store (suc n)) 0 (2 ^ 24) c.in_ok-root.root
stands g c now kept s n is =
    let m = c.args.self.now in
    let d = g.D.Disk.state c.args.disk.now in
    let at : c.in_ok-root.root ≡ suc n = omega (arith, c.in_ok-root.ensures.inside.0, c.number-number.ensures.value, c.held_root-held.ensures, is) in
    subst (λ (z : Tm). StandsBelow z d Device [] (c.in_ok-root.root ∷ held_by m.tm.geometry m.root 0) (held_trees c.args.self.now (g.D.Disk.state c.args.disk.now) now kept s).store (height 5 (held_trees c.args.self.now (g.D.Disk.state c.args.disk.now) now kept s).store (suc n)) 0 (2 ^ 24) c.in_ok-root.root) (sym (let_go_is g c))
    (subst (λ b. StandsBelow (holding m.tm 0) d Device [] (b ∷ held_by m.tm.geometry m.root 0) (held_trees c.args.self.now (g.D.Disk.state c.args.disk.now) now kept s).store (height 5 (held_trees c.args.self.now (g.D.Disk.state c.args.disk.now) now kept s).store (suc n)) 0 (2 ^ 24) b) (sym at)
    (copy_stands m.tm.geometry m.tm d m.root now (held_trees m d now kept s) n is))

pub returns-clause-made : goal.returns-clause-made
returns-clause-made g c = on_ok_weaker c.drop_tree.result
    (λ f honest now kept s some.
    let m = c.args.self.now in
    let d = g.D.Disk.state c.args.disk.now in
    let u = c.drop_tree.new.tm in
    let d1 = g.D.Disk.state c.drop_tree.new.disk in
    let k = held_some m.tm.held_root some in
    let few = subst (λ (z : Tm). OnlyFewer z u) (let_go_is g c) c.drop_tree.ensures.fewer in
    let same : SameCommit (holding m.tm 0) u = record { geometry = few.geometry; metadata_kept = few.metadata_kept; data_kept = few.data_kept; held_root = few.held_root } in
    let q = f honest [] (held_by m.tm.geometry m.root 0) (held_trees c.args.self.now (g.D.Disk.state c.args.disk.now) now kept s).store _ _ (stands g (goal.at.returns-clause-made g c).After-drop_tree now kept s k.0 k.1) in
    let trees = released m.tm.geometry m.tm d m.root now (held_trees m d now kept s) k.0 k.1 u d1 same q in
    let n : TreeMapping = record { tm = u; root = m.root } in
    again kept n d1 (without_copies now) m.tm.geometry same.geometry s.within.volumes_kept (ap length same.metadata_kept ∙ s.within.sized) trees
    (λ place lt. subst (λ (l : List ℕ). (slice_index l place ≡ 0) ↔ Unused place kept) (sym same.data_kept) (s.kept_places place lt))) c.drop_tree.ensures.dropped

pub returns-clause-damaged : goal.returns-clause-damaged
returns-clause-damaged g c e honest now kept s some =
    let m = c.args.self.now in
    let k = held_some m.tm.held_root some in
    c.drop_tree.ensures.damaged e honest [] (held_by m.tm.geometry m.root 0) (held_trees c.args.self.now (g.D.Disk.state c.args.disk.now) now kept s).store _ _ (stands g (goal.at.returns-clause-damaged g c).After-drop_tree now kept s k.0 k.1)

pub returns-clause-used : goal.returns-clause-used
returns-clause-used g c = omega (arith, c.drop_tree.ensures.used, ap used_metadata (let_go_is g (goal.at.returns-clause-used g c).After-drop_tree))
