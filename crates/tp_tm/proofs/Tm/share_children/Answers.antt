use Rattle.std.proofs.Common.{◌≡◌, ◌+◌, sym, ap, ◌∙◌, arith}
use Rattle.tp_refs.specs.Store.{first_named, node_at, node_from}
use Rattle.tp_tm.proofs.Sharing.{all_shared, named_as, none_shared, raised_below, raised_live, raised_refl, raised_room, raised_trans, shared_more}
use Rattle.tp_tm.proofs.Tm.share_children.Goals as goal
use Rattle.tp_tm.proofs.Tm.share_children.Goals.{After-reference, In_ok-child}

pub loop-i-init : goal.loop-i-init
loop-i-init c = record {
  raised = raised_refl c.args.self.now;
  kind = c.known-node.ensures.found.1;
  end = c.len-i-end.ensures.value;
  left = λ disk opens held s b h is. none_shared c.args.self.now disk opens held s b h;
}

entry_named : (c : After-reference) → first_named c.loop-i.self.geometry.metadata_blocks c.args.kind c.level.result + c.entry.result.value ≡ first_named c.args.self.now.geometry.metadata_blocks c.known-node.result.kind c.known-node.result.level + c.entry.result.value
entry_named c =
    named_as c.args.self.now.geometry c.loop-i.self.geometry c.args.kind c.known-node.result.kind c.level.result c.known-node.result.level c.entry.result.value
    c.loop-i.invariant.raised.untaken.geometry (sym c.loop-i.invariant.kind) c.level.ensures.value

child_is : (c : In_ok-child) → c.in_ok-child.child ≡ first_named c.args.self.now.geometry.metadata_blocks c.known-node.result.kind c.known-node.result.level + c.entry.result.value
child_is c =
    c.in_ok-child.ensures.found
    ∙ named_as c.args.self.now.geometry c.loop-i.self.geometry c.args.kind c.known-node.result.kind c.level.result c.known-node.result.level c.entry.result.value
    c.loop-i.invariant.raised.untaken.geometry (sym c.loop-i.invariant.kind) c.level.ensures.value

pub returns-in_err-child-clause-damaged : goal.returns-in_err-child-clause-damaged
returns-in_err-child-clause-damaged c e disk opens held s b n good kind spelled h is room =
    let m = c.args.self.now.geometry.metadata_blocks in
    let v : node_at s b ≡ node_from m c.known-node.result = is ∙ ap (node_from m) (sym (c.known-node.ensures.only n good kind spelled)) in
    let below = raised_below c.args.self.now c.loop-i.self disk opens held s b c.loop-i.i m (first_named c.loop-i.self.geometry.metadata_blocks c.args.kind c.level.result + c.entry.result.value) c.known-node.result c.entry.result v
    (c.loop-i.invariant.left disk opens held s b h v) (omega arith) c.entry.ensures (entry_named (goal.at.returns-in_err-child-clause-damaged c).After-reference) in
    omega (arith, below, c.in_err-child.ensures.err.1, c.reference.ensures.sized)

pub returns-in_err-raise-clause-damaged : goal.returns-in_err-raise-clause-damaged
returns-in_err-raise-clause-damaged c e disk opens held s b n good kind spelled h is room =
    let m = c.args.self.now.geometry.metadata_blocks in
    let d = (goal.at.returns-in_err-raise-clause-damaged c).In_ok-child in
    let v : node_at s b ≡ node_from m c.known-node.result = is ∙ ap (node_from m) (sym (c.known-node.ensures.only n good kind spelled)) in
    let left = c.loop-i.invariant.left disk opens held s b h v in
    c.in_err-raise.ensures.err.1
    (raised_live c.args.self.now c.loop-i.self disk opens held s b c.loop-i.i m c.in_ok-child.child c.known-node.result c.entry.result v left (omega arith) c.entry.ensures (child_is d))
    (raised_room c.args.self.now c.loop-i.self disk opens held s b c.loop-i.i m c.in_ok-child.child c.known-node.result c.entry.result v left (omega arith) c.entry.ensures (child_is d) room)

pub loop-i-preserved : goal.loop-i-preserved
loop-i-preserved c =
    let m = c.args.self.now.geometry.metadata_blocks in
    let d = (goal.at.loop-i-preserved c).In_ok-child in
    record {
      raised = raised_trans c.args.self.now c.loop-i.self c.raise.new.self c.loop-i.invariant.raised c.in_ok-raise.ensures.raised;
      kind = c.loop-i.invariant.kind;
      end = c.loop-i.invariant.end;
      left = λ disk opens held s b h v.
          shared_more c.args.self.now c.loop-i.self disk opens held s b c.loop-i.i m c.in_ok-child.child c.known-node.result c.entry.result v (c.loop-i.invariant.left disk opens held s b h v) (omega arith) c.entry.ensures (child_is d)
          c.raise.new.self c.in_ok-raise.ensures.recounted;
    }

pub returns-clause-shared : goal.returns-clause-shared
returns-clause-shared c disk opens held s b n good kind spelled h is =
    let m = c.args.self.now.geometry.metadata_blocks in
    let v : node_at s b ≡ node_from m c.known-node.result = is ∙ ap (node_from m) (sym (c.known-node.ensures.only n good kind spelled)) in
    all_shared s c.loop-i.self disk opens held b c.loop-i.i m c.known-node.result v (omega arith) (c.loop-i.invariant.left disk opens held s b h v)
