use Rattle.std.proofs.Common.{◌≡◌, ℕ, List, false, replicate, rules, subst, sym}
use Rattle.tp_meta.specs.Marking.{AreListed}
use Rattle.tp_meta.proofs.Listed.{none_listed}
use Rattle.tp_meta.proofs.marks.Marks.new.Goals as goal

pub invariant_of-result : goal.invariant_of-result
invariant_of-result c =
    let clear : c.in_ok-vec.field-0.items ≡ replicate c.args.blocks false = search rules in (
      search rules,
      subst (λ (ps : List ℕ). AreListed c.in_ok-vec.field-0.items ps) (sym c.in_ok-with_capacity.ensures.items)
          (none_listed c.args.blocks c.in_ok-vec.field-0.items clear),
    )
