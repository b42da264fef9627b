use Rattle.std.proofs.Common.{◌∙◌, List, ℕ, Bool, false, length, replicate, ap, subst, sym, arith}
use Rattle.tp_meta.specs.Marking.{AreFollowed, AreListed}
use Rattle.tp_meta.proofs.Listed.{none_listed}
use Rattle.tp_meta.proofs.marks.Marks.clear.Goals as goal

pub invariant_of-self : goal.invariant_of-self
invariant_of-self c =
    let marks = c.self.inside.marks.items in
    let follows = subst (λ (ps : List ℕ). AreFollowed marks ps) (sym c.deref.ensures.value) c.self.invariant.1.follow in (
      omega (arith, c.clear.ensures.capacity, c.self.invariant.0),
      subst (λ (ps : List ℕ). AreListed c.clear_marks.new.marks.items ps) (sym c.clear.ensures.items)
          (none_listed (length marks) c.clear_marks.new.marks.items (c.clear_marks.ensures follows)),
    )

pub returns : goal.returns
returns c =
    let marks = c.self.inside.marks.items in
    let follows = subst (λ (ps : List ℕ). AreFollowed marks ps) (sym c.deref.ensures.value) c.self.invariant.1.follow in
    c.clear_marks.ensures follows ∙ ap (λ (l : List Bool). replicate {A = Bool} (length l) false) c.self.view_is
