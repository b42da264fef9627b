use Rattle.std.proofs.Common.{◌∷◌, [], ◌++◌, List, take, sym, ap, ◌∙◌, arith}
use Rattle.std.proofs.lemmas.List.{take_more}
use Rattle.tp_layout.specs.declared.entry.Entry.{Entry}
use Rattle.tp_layout.proofs.ViewLaws.{got}
use Rattle.tp_layout.proofs.view.NodeView.to_node.Goals as goal

pub loop-i-preserved : goal.loop-i-preserved
loop-i-preserved c =
    let xs = c.args.self.now.entries in
    let i = c.loop-i.i in
    let here = got xs i c.entry.result c.entry.ensures in
    c.push.ensures.items ∙ ap (λ (z : List Entry). z ++ c.entry.result ∷ []) c.loop-i.invariant ∙ ap (λ (e : Entry). take i xs ++ e ∷ []) (sym here) ∙ sym (take_more xs i c.entry.result (omega (arith, c.len-i-end.ensures.value)))
