use Rattle.std.proofs.Common.{Bool, length, sym, ap, ◌∙◌, subst, arith}
use Rattle.tp_image.specs.Rules.{IsInRange}
use Rattle.tp_check.specs.Walk.{Progress}
use Rattle.tp_check.proofs.walk.Walk.count.Goals as goal

pub count-requires : goal.count-requires
count-requires c = record {
  inside = λ e there.
      let v = subst (λ (t : Bool). IsInRange c.args.self.now.geometry t e.value) (sym c.is_naming_data.ensures ∙ c.if-is_naming_data.true) (c.requires e there) in
      let g = ap (λ (p : Progress). p.geometry.data_blocks) c.self.view_is in
      omega (arith, v, g, c.self.invariant.others_long, ap length c.deref_mut.ensures.value);
}

pub count-requires-else-is_naming_data : goal.count-requires-else-is_naming_data
count-requires-else-is_naming_data c = record {
  inside = λ e there.
      let v = subst (λ (t : Bool). IsInRange c.args.self.now.geometry t e.value) (sym c.is_naming_data.ensures ∙ c.if-is_naming_data.false) (c.requires e there) in
      let g = ap (λ (p : Progress). p.geometry.metadata_blocks) c.self.view_is in
      omega (arith, v, g, c.self.invariant.metadata_long, ap length c.deref_mut-else-is_naming_data.ensures.value);
}
