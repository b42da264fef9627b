use Rattle.std.proofs.Common.{◌≡◌, ◌∙◌, ◌+◌, ◌<◌, List, length, ap, sym, subst}
use Rattle.std.proofs.lemmas.Result.{on_ok_weaker}
use Rattle.std.specs.List.{remove}
use Rattle.tp_layout.specs.Node.{NodeValue}
use Rattle.tp_layout.specs.Value.{node_value}
use Rattle.tp_layout.specs.declared.entry.Entry.{Entry}
use Rattle.tp_trees.specs.Growth.{One, Two, traded}
use Rattle.tp_btree.specs.Inserts.{IsBetween, grown, with_traded}
use Rattle.tp_btree.proofs.Grafting.{halves_traded, middle_new, whole_traded}
use Rattle.tp_btree.proofs.Joining.{place_left}
use Rattle.tp_btree.proofs.refit.rename.Goals as goal
use Rattle.tp_btree.proofs.refit.rename.Goals.{In-Halves}

pub returns-in-Whole-clause-renamed : goal.returns-in-Whole-clause-renamed
returns-in-Whole-clause-renamed c between =
    let n = node_value c.take_at.new.node in
    let v = node_value c.exchange_child.new.node in
    let old = node_value c.args.node.now in
    let rest = remove c.args.node.now.entries.items (c.args.index + 1) in
    let within : c.args.index < length n.entries = subst (λ (xs : List Entry). c.args.index < length xs) (sym (ap (λ (x : NodeValue). x.entries) c.take_at.ensures.value)) (place_left c.args.node.now.entries.items c.args.index c.requires.within) in
    subst (λ p. v ≡ record old { entries = traded rest c.args.index (grown p) }) (sym c.in-Whole.is)
    (whole_traded n v c.args.index c.in-Whole.child within c.exchange_child.ensures.value ∙ ap (with_traded c.args.index (One c.in-Whole.child)) c.take_at.ensures.value)

-- the second part's key lies between its neighbours'
lies_between : (c : In-Halves) → IsBetween (remove c.args.node.now.entries.items (c.args.index + 1)) c.args.index (grown c.args.parts)
    → IsBetween c.take_at.new.node.entries.items c.args.index (Two c.in-Halves.child c.in-Halves.middle c.in-Halves.other)
lies_between c b =
    subst (λ (xs : List Entry). IsBetween xs c.args.index (Two c.in-Halves.child c.in-Halves.middle c.in-Halves.other)) (sym (ap (λ (x : NodeValue). x.entries) c.take_at.ensures.value))
    (subst (λ p. IsBetween (remove c.args.node.now.entries.items (c.args.index + 1)) c.args.index (grown p)) c.in-Halves.is b)

inside : (c : In-Halves) → c.args.index < length c.take_at.new.node.entries.items
inside c = subst (λ (xs : List Entry). c.args.index < length xs) (sym (ap (λ (x : NodeValue). x.entries) c.take_at.ensures.value)) (place_left c.args.node.now.entries.items c.args.index c.requires.within)

pub returns-in-Halves-clause-renamed : goal.returns-in-Halves-clause-renamed
returns-in-Halves-clause-renamed c = on_ok_weaker c.put_other.result
    (λ made b.
    let here = (goal.at.returns-in-Halves-clause-renamed c).In-Halves in
    let n = node_value c.take_at.new.node in
    let v = node_value c.exchange_child-in-Halves.new.node in
    let old = node_value c.args.node.now in
    let rest = remove c.args.node.now.entries.items (c.args.index + 1) in
    let child = c.in-Halves.child in
    let middle = c.in-Halves.middle in
    let other = c.in-Halves.other in
    subst (λ p. node_value c.put_other.new.node ≡ record old { entries = traded rest c.args.index (grown p) }) (sym c.in-Halves.is)
    (made ∙ (halves_traded n v c.args.index child middle other c.take_at.ensures.good (inside here) (lies_between here b) c.exchange_child-in-Halves.ensures.value
    ∙ ap (with_traded c.args.index (Two child middle other)) c.take_at.ensures.value)))
    c.put_other.ensures.value

pub returns-in-Halves-clause-damaged : goal.returns-in-Halves-clause-damaged
returns-in-Halves-clause-damaged c e b =
    let here = (goal.at.returns-in-Halves-clause-damaged c).In-Halves in
    let n = node_value c.take_at.new.node in
    let v = node_value c.exchange_child-in-Halves.new.node in
    c.put_other.ensures.damaged e
    (middle_new n v c.args.index c.in-Halves.child c.in-Halves.middle c.in-Halves.other c.exchange_child-in-Halves.ensures.good (inside here) (lies_between here b) c.exchange_child-in-Halves.ensures.value)
