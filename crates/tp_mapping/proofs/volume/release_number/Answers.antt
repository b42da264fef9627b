use Rattle.std.proofs.Common.{◌+◌, ◌-◌, ◌∷◌, arith, subst, sym}
use Rattle.std.proofs.lemmas.Result.{on_ok_weaker}
use Rattle.tp_refs.specs.Store.{count_of, with_count}
use Rattle.tp_tm.specs.Holds.{Holds}
use Rattle.tp_mapping.proofs.Copies.{data_below, err_of, not_released}
use Rattle.tp_mapping.proofs.volume.release_number.Goals as goal

pub returns-in_err-place-clause-damaged : goal.returns-in_err-place-clause-damaged
returns-in_err-place-clause-damaged c e disk opens held s h = omega (arith, data_below c.args.tm.now disk opens held s c.args.number c.geometry.ensures.sized h, c.in_err-place.ensures.err.1)

pub returns-clause-released : goal.returns-clause-released
returns-clause-released c = on_ok_weaker c.release_data.result
    (λ f disk opens held s. subst (λ n. Holds c.args.tm.now disk opens ((c.args.tm.now.geometry.metadata_blocks + n) ∷ held) s
    → Holds c.release_data.new.self disk opens held (with_count s (c.args.tm.now.geometry.metadata_blocks + n) (count_of s (c.args.tm.now.geometry.metadata_blocks + n) - 1))) c.in_ok-place.ensures.inside.0 (f disk opens held s)) c.release_data.ensures.holds

pub returns-clause-damaged : goal.returns-clause-damaged
returns-clause-damaged c e disk opens held s h =
    not_released c.args.tm.now disk opens held s c.in_ok-place.place c.geometry.ensures.sized c.in_ok-place.ensures.inside.1
    (subst (λ n. Holds c.args.tm.now disk opens ((c.args.tm.now.geometry.metadata_blocks + n) ∷ held) s) (sym c.in_ok-place.ensures.inside.0) h) (err_of c.release_data.result _ _ e c.release_data.ensures.err).2
