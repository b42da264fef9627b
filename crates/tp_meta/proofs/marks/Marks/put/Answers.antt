use Rattle.std.proofs.Common.{◌≡◌, ◌<◌, ◌∙◌, List, ℕ, Bool, length, get_or, set, true, false, ap, subst, sym, arith}
use Rattle.tp_meta.specs.Marking.{AreListed}
use Rattle.tp_meta.proofs.Listed.{listed_more}
use Rattle.tp_meta.proofs.marks.Marks.put.Goals as goal

pub invariant_of-self : goal.invariant_of-self
invariant_of-self c =
    let place = c.number-place.result in
    let marks = c.self.inside.marks.items in
    let low : place < length marks = omega (arith, c.if-place-len.false, c.len.ensures, c.self.inside.marks.ok.0) in
    let clear : get_or marks place false ≡ false =
    ap (λ (l : List Bool). get_or l place false) c.self.view_is
    ∙ ap (λ (k : ℕ). get_or c.args.self.now k false) c.number-place.ensures.value ∙ sym c.has.ensures ∙ c.if-has.false in
    let listed = listed_more place c.self.inside.places.items marks low clear c.self.invariant.1 in (
      c.list.ensures.capacity,
      subst (λ (l : List Bool). AreListed l c.list.new.places.items) (sym c.put_at.ensures)
          (subst (λ (ps : List ℕ). AreListed (set marks place true) ps) (sym c.list.ensures.value) listed),
    )
