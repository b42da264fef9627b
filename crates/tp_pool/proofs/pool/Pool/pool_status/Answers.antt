use Rattle.std.proofs.Common.{◌∙◌, ap, arith, refl, subst, sym}
use Rattle.tp_model.specs.Geometry.{Geometry}
use Rattle.tp_msg.specs.declared.status.PoolStatus.{PoolStatus}
use Rattle.tp_pool.specs.Held.{Held, shows}
use Rattle.tp_pool.proofs.Calling.{Laws}
use Rattle.tp_pool.proofs.Statuses.{pool_told}
use Rattle.tp_pool.proofs.pool.Pool.pool_status.Goals as goal

pub returns : goal.returns
returns g c s shown =
    let met = g.met.M.Metadata in
    let laws : Laws g.M.Metadata.geometry g.M.Metadata.stands g.M.Metadata.marks g.M.Metadata.room =
    record { within = met.within; honest = met.honest; left = met.left; frame = met.frame } in
    let old : Held g.row.M.Denot =
    record {
      disk = g.D.Disk.state c.self.inside.disk;
      metadata = c.self.inside.metadata;
      holders = c.self.inside.holders.items;
      mode = c.self.inside.mode;
    } in
    let told : PoolStatus =
    record {
      transaction_id = c.transaction_id.result;
      used_metadata = c.used_metadata.result;
      metadata_blocks = c.metadata_blocks.result;
      used_data = c.narrowed.result;
      data_blocks = c.data_blocks.result;
      mode = c.self.inside.mode;
      needs_check = c.needs_check.result;
      held_root = c.held_root.result;
    } in
    pool_told laws old told refl (c.metadata_blocks.ensures.value ∙ ap (λ (x : Geometry). x.metadata_blocks) c.geometry-geometry.ensures)
    (c.data_blocks.ensures.value ∙ ap (λ (x : Geometry). x.data_blocks) c.geometry-geometry.ensures)
    (λ now kept st. record {
      transaction_id = c.transaction_id.ensures old.disk now kept st;
      used_metadata = c.used_metadata.ensures old.disk now kept st;
      used_data = λ lt. let e = c.used_data.ensures old.disk now kept st in c.narrowed.ensures (omega (arith, e, lt)) ∙ e;
      needs_check = c.needs_check.ensures old.disk now kept st;
      held_root = c.held_root.ensures old.disk now kept st;
    })
    s (subst (λ (h : Held g.row.M.Denot). shows g.M.Metadata.geometry g.M.Metadata.stands h s) (sym c.self.view_is) shown)
