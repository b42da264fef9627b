use Rattle.std.proofs.Common.{ℕ, ap, refl, sym, ◌∙◌}
use Rattle.std.specs.FinMap.{insert}
use Rattle.tp_model.specs.Geometry.{Geometry}
use Rattle.tp_model.specs.Calls.{CreateThin, Done, new_volume}
use Rattle.tp_model.specs.Disk.{DiskState}
use Rattle.tp_image.specs.Fresh.{empty_pool}
use Rattle.tp_model.proofs.PoolStopLaws.{MayReopen-same}
use Rattle.tp_model.proofs.Running.{reopened_after}
use Rattle.tp_commands.specs.First.{first_pool}
use Rattle.tp_commands.proofs.First.{done_makes, unheld}
use Rattle.tp_commands.proofs.Living.{said_laws}
use Rattle.tp_commands.proofs.fresh.fresh_pool.Goals as goal

pub returns-clause-empty : goal.returns-clause-empty
returns-clause-empty c = c.in_ok-order.ensures.holds ∙ unheld c.in-Ok-format.pool.besides.holders c.in-Ok-format.ensures.holders

pub returns-clause-shows : goal.returns-clause-shows
returns-clause-shows c =
    let g = c.in_ok-geometry.geometry in
    let s = empty_pool g in
    let id = c.new-3.result in
    let shown = c.in-Ok-format.ensures.shows (ap (λ (d : DiskState). d.is_honest) c.in-Ok.ensures.0) in
    let call = c.in_ok-order.ensures.called in
    let met = call.meets s shown in
    let makes = done_makes s (CreateThin id) met.0 met.1 met.2 in
    let named = ap (λ (n : ℕ). record s { volumes = insert s.volumes n (new_volume g); meta_used = met.1.meta_used }) c.new-3.ensures in
    let sized = ap (λ (k : Geometry). first_pool k met.1.meta_used) c.in_ok-geometry.ensures.good in
    let later = call.time.later in (
      met.1,
      (met.1.meta_used, makes.is ∙ named ∙ sized),
      record {
        shown = met.3;
        opens = λ image left. call.opens s shown image (said_laws.wider c.order.new.self _ _ image later left);
        left = λ S found. let stops = met.4 in MayReopen-same met.0 met.1 S _ (sym (reopened_after s (CreateThin id) Done met.0 met.1 met.2)) (stops.kept refl S found);
      },
    )
