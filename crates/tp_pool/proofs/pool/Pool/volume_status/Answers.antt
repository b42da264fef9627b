use Rattle.std.proofs.Common.{rules, ◌∙◌, Err, ap, arith, inl, inr, not, refl, subst, sym}
use Rattle.std.proofs.lemmas.Result.{err_from_is_err_and}
use Rattle.tp_model.specs.Disk.{DiskState, after_read}
use Rattle.tp_model.specs.Geometry.{Geometry}
use Rattle.tp_model.specs.Refusals.{is_fault_refusal, refusal_number}
use Rattle.tp_model.specs.declared.refusal.Refusal.TheVariants.{Damaged, NoSuchDevice}
use Rattle.tp_counts.specs.declared.error.StoreError.{StoreError}
use Rattle.tp_counts.specs.StoreErrors.{refusal_of}
use Rattle.tp_counts.proofs.Refusing.{damaged_so, no_other, refusal_is, refused_so}
use Rattle.tp_mapping.specs.Mapping.{IsHighest}
use Rattle.tp_msg.specs.declared.status.VolumeStatus.{VolumeStatus}
use Rattle.tp_pool.specs.Held.{Held, shows}
use Rattle.tp_pool.proofs.Calling.{Laws}
use Rattle.tp_pool.proofs.Statuses.{volume_told}
use Rattle.tp_pool.proofs.pool.Pool.volume_status.Goals as goal

pub returns-in_err-mapped_blocks-clause-absent : goal.returns-in_err-mapped_blocks-clause-absent
returns-in_err-mapped_blocks-clause-absent g c e now kept st =
    let p = err_from_is_err_and c.from_residual.result c.from_residual.ensures.1 in
    absurd (no_other c.in_err-mapped_blocks.field-0.0 15 (omega arith) (ap refusal_number (refusal_is c.from_residual.result p.0 (refusal_of c.in_err-mapped_blocks.field-0.0) NoSuchDevice p.1 p.2 e)))

pub returns-in_err-mapped_blocks-clause-damaged : goal.returns-in_err-mapped_blocks-clause-damaged
returns-in_err-mapped_blocks-clause-damaged g c e now kept st =
    let p = err_from_is_err_and c.from_residual.result c.from_residual.ensures.1 in
    c.in_err-mapped_blocks.ensures.damaged (ap (λ (x : StoreError). Err x) (damaged_so c.in_err-mapped_blocks.field-0.0 (refusal_is c.from_residual.result p.0 (refusal_of c.in_err-mapped_blocks.field-0.0) Damaged p.1 p.2 e))) now kept (subst (λ (h : Held g.row.M.Denot). g.M.Metadata.stands h.metadata h.disk now kept) (sym c.self.view_is) st)

pub returns-in_err-mapped_blocks-clause-only : goal.returns-in_err-mapped_blocks-clause-only
returns-in_err-mapped_blocks-clause-only g c =
    let p = err_from_is_err_and c.from_residual.result c.from_residual.ensures.1 in
    let so = refused_so c.in_err-mapped_blocks.field-0.0 in
    rw (p.1, p.2) (elim so [ inl fault ↦ inr (inl fault) | inr damaged ↦ inr (inr (inl damaged)) ])

pub returns-in_err-mapped_blocks-clause-held : goal.returns-in_err-mapped_blocks-clause-held
returns-in_err-mapped_blocks-clause-held g c =
    let was : Held g.row.M.Denot = record { disk = g.D.Disk.state c.self.inside.disk; metadata = c.self.inside.metadata; holders = c.self.inside.holders.items; mode = c.self.inside.mode } in
    let p = err_from_is_err_and c.from_residual.result c.from_residual.ensures.1 in
    rw (p.1, p.2) (ap (λ (d : DiskState). record was { disk = d }) c.in_err-mapped_blocks.ensures.state
    ∙ ap (λ (h : Held g.row.M.Denot). record h { disk = after_read (not (is_fault_refusal (refusal_of c.in_err-mapped_blocks.field-0.0))) h.disk }) c.self.view_is)

pub returns-in_err-highest-clause-absent : goal.returns-in_err-highest-clause-absent
returns-in_err-highest-clause-absent g c e now kept st =
    let p = err_from_is_err_and c.from_residual-in_err-highest.result c.from_residual-in_err-highest.ensures.1 in
    absurd (no_other c.in_err-highest.field-0.0 15 (omega arith) (ap refusal_number (refusal_is c.from_residual-in_err-highest.result p.0 (refusal_of c.in_err-highest.field-0.0) NoSuchDevice p.1 p.2 e)))

pub returns-in_err-highest-clause-damaged : goal.returns-in_err-highest-clause-damaged
returns-in_err-highest-clause-damaged g c e now kept st =
    let p = err_from_is_err_and c.from_residual-in_err-highest.result c.from_residual-in_err-highest.ensures.1 in
    c.in_err-highest.ensures.damaged (ap (λ (x : StoreError). Err x) (damaged_so c.in_err-highest.field-0.0 (refusal_is c.from_residual-in_err-highest.result p.0 (refusal_of c.in_err-highest.field-0.0) Damaged p.1 p.2 e))) now kept (subst (λ (d : DiskState). g.M.Metadata.stands c.self.inside.metadata d now kept) (sym c.in_ok-mapped_blocks.ensures.state)
    (subst (λ (h : Held g.row.M.Denot). g.M.Metadata.stands h.metadata h.disk now kept) (sym c.self.view_is) st))

pub returns-in_err-highest-clause-only : goal.returns-in_err-highest-clause-only
returns-in_err-highest-clause-only g c =
    let p = err_from_is_err_and c.from_residual-in_err-highest.result c.from_residual-in_err-highest.ensures.1 in
    let so = refused_so c.in_err-highest.field-0.0 in
    rw (p.1, p.2) (elim so [ inl fault ↦ inr (inl fault) | inr damaged ↦ inr (inr (inl damaged)) ])

pub returns-in_err-highest-clause-held : goal.returns-in_err-highest-clause-held
returns-in_err-highest-clause-held g c =
    let was : Held g.row.M.Denot = record { disk = g.D.Disk.state c.self.inside.disk; metadata = c.self.inside.metadata; holders = c.self.inside.holders.items; mode = c.self.inside.mode } in
    let p = err_from_is_err_and c.from_residual-in_err-highest.result c.from_residual-in_err-highest.ensures.1 in
    rw (p.1, p.2) (ap (λ (d : DiskState). record was { disk = d }) (c.in_err-highest.ensures.state ∙ ap (after_read (not (is_fault_refusal (refusal_of c.in_err-highest.field-0.0)))) c.in_ok-mapped_blocks.ensures.state)
    ∙ ap (λ (h : Held g.row.M.Denot). record h { disk = after_read (not (is_fault_refusal (refusal_of c.in_err-highest.field-0.0))) h.disk }) c.self.view_is)

pub returns-clause-told : goal.returns-clause-told
returns-clause-told g c s shown =
    let met = g.met.M.Metadata in
    let laws : Laws g.M.Metadata.geometry g.M.Metadata.stands g.M.Metadata.marks g.M.Metadata.room =
    record { within = met.within; honest = met.honest; left = met.left; frame = met.frame } in
    let old : Held g.row.M.Denot =
    record {
      disk = g.D.Disk.state c.self.inside.disk;
      metadata = c.self.inside.metadata;
      holders = c.self.inside.holders.items;
      mode = c.self.inside.mode;
    } in
    let told : VolumeStatus =
    record {
      mode = c.self.inside.mode;
      block_sectors = c.block_sectors-block_sectors.result;
      mapped_blocks = c.in-Some.mapped_blocks;
      highest_block = c.number_of.result;
    } in
    volume_told laws old told c.args.id (search rules) refl (c.block_sectors-block_sectors.ensures.value ∙ ap (λ (x : Geometry). x.block_sectors) c.geometry.ensures)
    (λ now kept st. sym c.in-Some.is ∙ c.in_ok-mapped_blocks.ensures.told now kept st)
    (λ now kept st. subst (IsHighest c.args.id now.volumes) (sym c.number_of.ensures)
    (c.in_ok-highest.ensures.told now kept (subst (λ (d : DiskState). g.M.Metadata.stands old.metadata d now kept) (sym c.in_ok-mapped_blocks.ensures.state) st)))
    (sym c.is_failed.ensures ∙ c.if-is_failed.false) s (subst (λ (h : Held g.row.M.Denot). shows g.M.Metadata.geometry g.M.Metadata.stands h s) (sym c.self.view_is) shown)
