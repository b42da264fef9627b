use Rattle.std.proofs.Common.{rules, ◌≡◌, ◌+◌, ◌-◌, ◌<◌, ◌≤◌, ◌++◌, ◌∷◌, ℕ, Err, IsTrue, length, slice_index, drop, sym, ap, subst, ◌∙◌, arith, ⊎_elim}
use Rattle.tp_counts.specs.declared.error.StoreError.TheVariants.{Damaged}
use Rattle.tp_model.specs.Geometry.{Geometry}
use Rattle.tp_model.specs.Disk.{DiskState}
use Rattle.tp_layout.specs.declared.kind.TreeKind.{TreeKind}
use Rattle.tp_refs.specs.Store.{children, first_named, node_at, node_from, rank_of}
use Rattle.tp_tm.specs.Tm.{counts_now}
use Rattle.tp_tm.specs.Holds.{Holds, IsUnder, Released, kind_below}
use Rattle.tp_tm.proofs.Releasing.{all_gone, child_below, child_held, child_released, child_under, childless, fewer_trans, held_positive, kind_is, last, more_left, one_left, rank_above, rank_low, ranked_below, several, spelled}
use Rattle.tp_tm.proofs.Tm.+release_to.Given.{Over}
use Rattle.tp_tm.proofs.Tm.+release_to.Goals as goal
use Rattle.tp_tm.proofs.Tm.+release_to.Goals.{After-reference, In_ok-child}

pub returns-in_err-unname-clause-damaged : goal.returns-in_err-unname-clause-damaged
returns-in_err-unname-clause-damaged g t c e honest opens held s h under =
    omega (arith, c.in_err-unname.ensures.err.1, held_positive c.args.self.now (g.D.Disk.state c.args.disk.now) opens held s c.args.reference h)

pub returns-then-branch-clause-released : goal.returns-then-branch-clause-released
returns-then-branch-clause-released g t c honest opens held s h under =
    let disk = g.D.Disk.state c.args.disk.now in
    let old = c.args.self.now in
    let new = c.unname.new.self in
    let x = c.args.reference in
    let many = λ (more : 1 < slice_index (counts_now old) x). several old new disk opens held s x h c.in_ok-unname.ensures.recounted more in
    ⊎_elim (λ e. many (more_left c.in_ok-unname.field-0 _ c.in_ok-unname.ensures.still e))
    (λ w. childless s new disk opens held x (omega (arith, under.0, w.1))
    (last old new disk opens held s x h c.in_ok-unname.ensures.recounted (one_left c.in_ok-unname.field-0 _ c.in_ok-unname.ensures.still w.0 c.in_ok-unname.ensures.was)))
    c.then-branch.either

pub returns-in_err-load-clause-damaged : goal.returns-in_err-load-clause-damaged
returns-in_err-load-clause-damaged g t c e honest opens held s h under =
    let disk = g.D.Disk.state c.args.disk.now in
    let old = c.args.self.now in
    let x = c.args.reference in
    let more : 0 < c.args.top = omega arith in
    let l : c.load.result ≡ Err Damaged = search (rules, e) in
    let sp = spelled old disk opens held s x c.args.top c.args.kind h under more in
    let low : x < length s.nodes = ranked_below s x (rank_above c.args.kind (node_at s x).rank (under.1 more)) in
    let same : c.unname.new.self.geometry ≡ old.geometry = c.in_ok-unname.ensures.recounted.geometry in
    c.load.ensures.damaged l honest sp.0 (omega (arith, h.stands.sized, ap (λ (z : Geometry). z.metadata_blocks) same)) sp.1.0
    (kind_is old disk opens held s x c.args.top c.args.kind h under more) (rank_low old disk opens held s x c.args.top c.args.kind h under more)

pub loop-i-init : goal.loop-i-init
loop-i-init g t c =
    let found = c.known-node.ensures.found in
    record {
      state = c.in_ok-load.ensures.state;
      fewer = c.in_ok-unname.ensures.fewer;
      good = found.0;
      kind = found.1;
      rank = c.rank_of-rank.ensures ∙ ap (rank_of c.args.kind) c.level.ensures.value;
      low = subst (λ r. r ≤ c.args.top) (sym (c.rank_of-rank.ensures ∙ ap (rank_of c.args.kind) c.level.ensures.value)) (c.in_ok-load.ensures.top c.known-node.result found.0 found.1 found.2);
      more = omega arith;
      end = c.len-i-end.ensures.value;
      left = λ honest opens held s h under.
          let disk = g.D.Disk.state c.args.disk.now in
          let old = c.args.self.now in
          let x = c.args.reference in
          let more : 0 < c.args.top = omega arith in
          let sp = spelled old disk opens held s x c.args.top c.args.kind h under more in
          let is : c.known-node.result ≡ sp.0 = c.known-node.ensures.only sp.0 sp.1.0.good (kind_is old disk opens held s x c.args.top c.args.kind h under more) (c.in_ok-load.ensures.found honest ∙ sp.1.0.bytes) in (
            sp.1.1 ∙ ap (node_from old.geometry.metadata_blocks) (sym is),
            last old c.unname.new.self disk opens held s x h c.in_ok-unname.ensures.recounted (one_left c.in_ok-unname.field-0 _ c.in_ok-unname.ensures.still c.if-branch.false c.in_ok-unname.ensures.was),
          );
    }

-- the reference that the loop tests is that of the entry
first_is : (m n : Geometry) (kind other : TreeKind) (level lvl value : ℕ) → n ≡ m → kind ≡ other → level ≡ lvl → first_named n.metadata_blocks kind level + value ≡ first_named m.metadata_blocks other lvl + value
first_is m n kind other level lvl value e f l = λ i. first_named (e i).metadata_blocks (f i) (l i) + value

entry_named : (g : Over) (t : ℕ) (c : After-reference g t) → first_named c.loop-i.self.geometry.metadata_blocks c.args.kind c.level-in-loop-i.result + c.entry.result.value ≡ first_named c.args.self.now.geometry.metadata_blocks c.known-node.result.kind c.known-node.result.level + c.entry.result.value
entry_named g t c =
    first_is c.args.self.now.geometry c.loop-i.self.geometry c.args.kind c.known-node.result.kind c.level-in-loop-i.result c.known-node.result.level c.entry.result.value
    c.loop-i.invariant.fewer.geometry (sym c.loop-i.invariant.kind) c.level-in-loop-i.ensures.value

pub returns-in_err-child-clause-damaged : goal.returns-in_err-child-clause-damaged
returns-in_err-child-clause-damaged g t c e honest opens held s h under =
    let l = c.loop-i.invariant.left honest opens held s h under in
    let b = child_below c.args.self.now (g.D.Disk.state c.args.disk.now) c.args.reference c.args.top c.loop-i.i c.args.kind c.known-node.result c.loop-i.self opens held s h under c.loop-i.invariant.more l.0 l.1 (omega arith) c.entry.result c.entry.ensures
    (first_named c.loop-i.self.geometry.metadata_blocks c.args.kind c.level-in-loop-i.result + c.entry.result.value)
    (entry_named g t (goal.at.returns-in_err-child-clause-damaged g t c).After-reference) in
    omega (arith, b, c.in_err-child.ensures.err.1, c.reference.ensures.sized)

child_is : (g : Over) (t : ℕ) (c : In_ok-child g t) → c.in_ok-child.child ≡ first_named c.args.self.now.geometry.metadata_blocks c.known-node.result.kind c.known-node.result.level + c.entry.result.value
child_is g t c = c.in_ok-child.ensures.found ∙ first_is c.args.self.now.geometry c.loop-i.self.geometry c.args.kind c.known-node.result.kind c.level-in-loop-i.result c.known-node.result.level c.entry.result.value
    c.loop-i.invariant.fewer.geometry (sym c.loop-i.invariant.kind) c.level-in-loop-i.ensures.value

pub returns-in_err-release_to-clause-damaged : goal.returns-in_err-release_to-clause-damaged
returns-in_err-release_to-clause-damaged g t c e honest opens held s h under =
    let d = (goal.at.returns-in_err-release_to-clause-damaged g t c).In_ok-child in
    let disk = g.D.Disk.state c.args.disk.now in
    let old = c.args.self.now in
    let now = c.loop-i.self in
    let x = c.args.reference in
    let f : c.release_to.result ≡ Err Damaged = search (rules, e) in
    let left = c.loop-i.invariant.left honest opens held s h under in
    let more = c.loop-i.invariant.more in
    let rank : c.rank_of-rank.result ≡ rank_of c.known-node.result.kind c.known-node.result.level = c.loop-i.invariant.rank ∙ ap (λ k. rank_of k c.known-node.result.level) (sym c.loop-i.invariant.kind) in
    let holds : Holds now disk opens (c.in_ok-child.child ∷ (drop (c.loop-i.i + 1) (children (node_at s x)) ++ held)) left.1.after =
    child_held old disk x c.args.top c.loop-i.i c.args.kind c.known-node.result now opens held s h under more left.0 left.1 (omega arith) c.entry.result c.entry.ensures c.in_ok-child.child (child_is g t d) in
    let low : IsUnder (kind_below c.rank_of-rank.result) (c.rank_of-rank.result - 1) (node_at left.1.after c.in_ok-child.child).rank =
    child_under old disk x c.args.top c.loop-i.i c.args.kind c.known-node.result now opens held s h under more left.0 left.1 (omega arith) c.entry.result c.entry.ensures c.in_ok-child.child c.rank_of-rank.result (child_is g t d) rank in
    c.release_to.ensures.damaged f (subst (λ (z : DiskState). IsTrue z.is_honest) (sym c.loop-i.invariant.state) honest) opens (drop (c.loop-i.i + 1) (children (node_at s x)) ++ held) left.1.after
    (subst (λ (z : DiskState). Holds now z opens (c.in_ok-child.child ∷ (drop (c.loop-i.i + 1) (children (node_at s x)) ++ held)) left.1.after) (sym c.loop-i.invariant.state) holds)
    (subst (λ (k : TreeKind). IsUnder k (c.rank_of-rank.result - 1) (node_at left.1.after c.in_ok-child.child).rank) (sym c.kind_below.ensures) low)

pub loop-i-preserved : goal.loop-i-preserved
loop-i-preserved g t c =
    let d = (goal.at.loop-i-preserved g t c).In_ok-child in
    let disk = g.D.Disk.state c.args.disk.now in
    let old = c.args.self.now in
    let now = c.loop-i.self in
    let new = c.release_to.new.self in
    let x = c.args.reference in
    record {
      state = c.in_ok-release_to.ensures.state ∙ c.loop-i.invariant.state;
      fewer = fewer_trans old now new c.loop-i.invariant.fewer c.in_ok-release_to.ensures.fewer;
      good = c.loop-i.invariant.good;
      kind = c.loop-i.invariant.kind;
      rank = c.loop-i.invariant.rank;
      low = c.loop-i.invariant.low;
      more = c.loop-i.invariant.more;
      end = c.loop-i.invariant.end;
      left = λ honest opens held s h under.
          let left = c.loop-i.invariant.left honest opens held s h under in
          let more = c.loop-i.invariant.more in
          let rest = drop (c.loop-i.i + 1) (children (node_at s x)) ++ held in
          let rank : c.rank_of-rank.result ≡ rank_of c.known-node.result.kind c.known-node.result.level = c.loop-i.invariant.rank ∙ ap (λ k. rank_of k c.known-node.result.level) (sym c.loop-i.invariant.kind) in
          let holds : Holds now disk opens (c.in_ok-child.child ∷ rest) left.1.after =
          child_held old disk x c.args.top c.loop-i.i c.args.kind c.known-node.result now opens held s h under more left.0 left.1 (omega arith) c.entry.result c.entry.ensures c.in_ok-child.child (child_is g t d) in
          let low : IsUnder (kind_below c.rank_of-rank.result) (c.rank_of-rank.result - 1) (node_at left.1.after c.in_ok-child.child).rank =
          child_under old disk x c.args.top c.loop-i.i c.args.kind c.known-node.result now opens held s h under more left.0 left.1 (omega arith) c.entry.result c.entry.ensures c.in_ok-child.child c.rank_of-rank.result (child_is g t d) rank in
          let made : Released left.1.after new (g.D.Disk.state c.loop-i.disk) opens rest =
          c.in_ok-release_to.ensures.released (subst (λ (z : DiskState). IsTrue z.is_honest) (sym c.loop-i.invariant.state) honest) opens rest left.1.after
          (subst (λ (z : DiskState). Holds now z opens (c.in_ok-child.child ∷ rest) left.1.after) (sym c.loop-i.invariant.state) holds)
          (subst (λ (k : TreeKind). IsUnder k (c.rank_of-rank.result - 1) (node_at left.1.after c.in_ok-child.child).rank) (sym c.kind_below.ensures) low) in (
            left.0,
            child_released old disk x c.args.top c.loop-i.i c.args.kind c.known-node.result now opens held s h under more left.0 left.1 (omega arith) c.entry.result c.entry.ensures new
                (subst (λ (z : DiskState). Released left.1.after new z opens rest) c.loop-i.invariant.state made),
          );
    }

pub returns-clause-released : goal.returns-clause-released
returns-clause-released g t c honest opens held s h under =
    let l = c.loop-i.invariant.left honest opens held s h under in
    all_gone s c.loop-i.self (g.D.Disk.state c.args.disk.now) opens held c.args.reference c.loop-i.i c.args.self.now.geometry.metadata_blocks c.known-node.result l.0 (omega arith) l.1
