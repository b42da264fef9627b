use Rattle.std.proofs.Common.{refl, subst}
use Rattle.std.proofs.lemmas.Result.{IfErr-weaker}
use Rattle.tp_sizing.specs.Sizing.{IsUnfit}
use Rattle.tp_sizing.proofs.Fitting.{only_out_of_range}
use Rattle.tp_sizing.proofs.users.what_fits_is_taken.Goals as goal

pub returns-in-Err-TooMany : goal.returns-in-Err-TooMany
returns-in-Err-TooMany c =
    let w = c.args.wanted.now in
    let much = subst (IsUnfit w) c.in-Err-TooMany.field-0-is c.in-Err-TooMany.ensures.unfit in
    IfErr-weaker c.sizes_for-in-Err-TooMany.result _ _ (λ e unfit. only_out_of_range w (record w { volumes = c.in-Err-TooMany.fit }) c.in-Err-TooMany.fit e refl refl refl refl much unfit)
    c.sizes_for-in-Err-TooMany.ensures.unfit
