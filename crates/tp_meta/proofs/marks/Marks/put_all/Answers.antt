use Rattle.std.proofs.Common.{◌≡◌, ◌∙◌, List, Bool, true, length, min, replicate, ap, arith}
use Rattle.std.proofs.lemmas.List.{length-replicate}
use Rattle.tp_meta.proofs.Listed.{each_listed}
use Rattle.tp_meta.proofs.marks.Marks.put_all.Goals as goal

pub invariant_of-self : goal.invariant_of-self
invariant_of-self c =
    let n = length c.self.inside.marks.items in
    let most : c.min.result ≡ min n 4096 = omega (arith, c.min.ensures, c.len.ensures, c.set_all.new.marks.ok.0, ap length c.set_all.ensures, length-replicate {A = Bool} n true) in
    (c.fill.ensures.capacity, each_listed n c.min.result c.set_all.new.marks.items c.fill.new.places.items c.set_all.ensures most c.fill.ensures.long c.fill.ensures.each)

pub returns : goal.returns
returns c = c.set_all.ensures ∙ ap (λ (l : List Bool). replicate {A = Bool} (length l) true) c.self.view_is
