use Rattle.std.proofs.Common.{rules, inl, inr, refl, subst, ap, ◌∙◌, Err}
use Rattle.tp_model.specs.Geometry.{Geometry, IsWithinLimits}
use Rattle.tp_failures.specs.Failures.{number_of}
use Rattle.tp_commands.specs.Images.{MakesPool, sizes_asked}
use Rattle.tp_commands.proofs.images.format_image.Goals as goal

pub returns-in-Ok : goal.returns-in-Ok
returns-in-Ok g c =
    let limits : IsWithinLimits (sizes_asked c.args.sizes.now) = search rules in
    let calls = g.S.Stream.calls in
    let deeds = g.I.Images.deeds in
    inr (
      limits,
      subst (λ (k : Geometry). MakesPool c.args.name.now c.args.overwrites k (deeds c.args.images.now) (deeds c.format_there.new.images) (calls c.args.stream.now) (calls c.format_there.new.stream)
          (number_of c.format_there.result)) c.in-Ok.ensures.good c.format_there.ensures,
    )

pub returns-in-Err : goal.returns-in-Err
returns-in-Err g c =
    let beyond : IsWithinLimits (sizes_asked c.args.sizes.now) → ⊥ = search rules in
    inl (beyond, ap Err (c.from.ensures ∙ c.in-Err.ensures.refused), refl, refl)
