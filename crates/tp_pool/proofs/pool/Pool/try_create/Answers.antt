use Rattle.std.proofs.Common.{rules, ap, refl, subst, sym, ◌≡◌, ◌∙◌, ◌+◌, ◌≤◌, false, true, Err, Ok}
use Rattle.std.specs.Prelude.{Result}
use Rattle.std.proofs.lemmas.Result.{err_from_is_err_and}
use Rattle.tp_model.specs.declared.refusal.Refusal.{Refusal}
use Rattle.tp_model.specs.declared.refusal.Refusal.TheVariants.{ReadOnly}
use Rattle.tp_counts.specs.declared.error.StoreError.{StoreError}
use Rattle.tp_counts.specs.StoreErrors.{refusal_of}
use Rattle.tp_counts.proofs.Refusing.{damaged_so, refused_so}
use Rattle.tp_model.specs.Calls.{Call, is_read_only}
use Rattle.tp_pool.specs.Held.{Held, IsTried, LacksRoom, PoolRefused, PoolTried, failed_by}
use Rattle.tp_pool.specs.Messages.{create_call}
use Rattle.tp_pool.proofs.Calling.{Laws}
use Rattle.tp_pool.proofs.Creating.{IsReady, create_failed, create_read_only_called, create_refused, create_tested, create_unkept, create_unreclaimed, ready}
use Rattle.tp_pool.proofs.Serving.{exit_is}
use Rattle.tp_pool.proofs.Answering.{create_exit, create_kept, create_read_only, create_short, failure_refuses, new_commits}
use Rattle.tp_pool.proofs.Putting.{writable_is}
use Rattle.tp_pool.proofs.Flushing.{changed_failed, changed_nothing, changed_read, changed_short, counted_nothing}
use Rattle.tp_pool.proofs.CreateFlushes.{create_before, create_flushed_short, create_reclaimed}
use Rattle.tp_pool.specs.Unkept.{PoolBegun}
use Rattle.tp_pool.proofs.Begun.{begun_short, left_of}
use Rattle.tp_pool.proofs.pool.Pool.try_create.Goals as goal

pub returns-then-is_read_only-clause-called : goal.returns-then-is_read_only-clause-called
returns-then-is_read_only-clause-called g c =
    let met = g.met.M.Metadata in
    let laws : Laws g.M.Metadata.geometry g.M.Metadata.stands g.M.Metadata.marks g.M.Metadata.room =
    record { within = met.within; honest = met.honest; left = met.left; frame = met.frame } in
    let reads : is_read_only c.args.self.now.mode ≡ true =
    sym (ap (λ (h : Held g.row.M.Denot). is_read_only h.mode) c.self.view_is) ∙ sym c.is_read_only.ensures ∙ c.if-is_read_only.true in
    create_read_only_called laws c.args.id c.args.origin.now c.args.self.now c.requires.works reads

pub returns-in_err-test_new-clause-called : goal.returns-in_err-test_new-clause-called
returns-in_err-test_new-clause-called g c =
    let met = g.met.M.Metadata in
    let laws : Laws g.M.Metadata.geometry g.M.Metadata.stands g.M.Metadata.marks g.M.Metadata.room =
    record { within = met.within; honest = met.honest; left = met.left; frame = met.frame } in
    let writes : is_read_only c.args.self.now.mode ≡ false =
    sym (ap (λ (h : Held g.row.M.Denot). is_read_only h.mode) c.self.view_is) ∙ sym c.is_read_only.ensures ∙ c.if-is_read_only.false in
    let id = c.args.id in
    let origin = c.args.origin.now in
    let old = c.args.self.now in
    let told = c.in_err-test_new.ensures in
    let p = err_from_is_err_and c.from_residual.result c.from_residual.ensures.1 in
    let x = c.in_err-test_new.field-0.0 in
    exit_is (λ (r : Result (Unit {0}) Refusal). PoolBegun g.M.Metadata.geometry g.M.Metadata.stands g.M.Metadata.marks g.M.Metadata.room g.M.Metadata.changed old c.test_new.new.self (create_call id origin) r)
    c.from_residual.result x p.0 p.1 (sym p.2)
    (subst (λ (h : Held g.row.M.Denot). PoolRefused g.M.Metadata.geometry g.M.Metadata.stands old (failed_by x h) (create_call id origin) x) (sym told.held)
    (create_tested laws id origin old x ((search rules), c.test_new.ensures.low) c.requires.works writes told.told (λ e now kept st. told.damaged (ap (λ (r : Refusal). Err r) e) now kept st) told.only))

pub returns-then-lacks_metadata-clause-called : goal.returns-then-lacks_metadata-clause-called
returns-then-lacks_metadata-clause-called g c =
    let met = g.met.M.Metadata in
    let laws : Laws g.M.Metadata.geometry g.M.Metadata.stands g.M.Metadata.marks g.M.Metadata.room =
    record { within = met.within; honest = met.honest; left = met.left; frame = met.frame } in
    let old : Held g.row.M.Denot =
    record {
      disk = g.D.Disk.state c.self-2.inside.disk;
      metadata = c.self-2.inside.metadata;
      holders = c.self-2.inside.holders.items;
      mode = c.self-2.inside.mode;
    } in
    let view : old ≡ c.args.self.now = c.self-2.view_is ∙ c.in_ok-test_new.ensures.held in
    let writes : is_read_only c.args.self.now.mode ≡ false =
    sym (ap (λ (h : Held g.row.M.Denot). is_read_only h.mode) c.self.view_is) ∙ sym c.is_read_only.ensures ∙ c.if-is_read_only.false in
    let tested : IsReady g.M.Metadata.stands c.args.id c.args.origin.now c.args.self.now old =
    ready g.M.Metadata.stands c.args.id c.args.origin.now c.args.self.now old view c.requires.works writes ((search rules), c.test_new.ensures.low) c.in_ok-test_new.ensures.told in
    begun_short g.M.Metadata.geometry g.M.Metadata.stands g.M.Metadata.marks g.M.Metadata.room g.M.Metadata.changed c.test_new.new.self c.args.self.now c.refuse_for_room.new.self (create_call c.args.id c.args.origin.now) c.refuse_for_room.result c.refuse_for_room.ensures.ends
    (create_refused laws c.args.id c.args.origin.now c.args.self.now old tested c.lacks_metadata.result c.lacks_metadata.ensures c.refuse_for_room.new.self c.refuse_for_room.result c.if-lacks_metadata.true
    (subst (λ (h : Held g.row.M.Denot). (any : Call) → LacksRoom g.M.Metadata.geometry g.M.Metadata.stands h any → PoolTried g.M.Metadata.geometry g.M.Metadata.stands h c.refuse_for_room.new.self any c.refuse_for_room.result)
    (sym c.self-2.view_is) c.refuse_for_room.ensures.called))

pub returns-in_err-reclaim-clause-called : goal.returns-in_err-reclaim-clause-called
returns-in_err-reclaim-clause-called g c =
    let met = g.met.M.Metadata in
    let laws : Laws g.M.Metadata.geometry g.M.Metadata.stands g.M.Metadata.marks g.M.Metadata.room =
    record { within = met.within; honest = met.honest; left = met.left; frame = met.frame } in
    let old : Held g.row.M.Denot =
    record {
      disk = g.D.Disk.state c.self-2.inside.disk;
      metadata = c.self-2.inside.metadata;
      holders = c.self-2.inside.holders.items;
      mode = c.self-2.inside.mode;
    } in
    let view : old ≡ c.args.self.now = c.self-2.view_is ∙ c.in_ok-test_new.ensures.held in
    let writes : is_read_only c.args.self.now.mode ≡ false =
    sym (ap (λ (h : Held g.row.M.Denot). is_read_only h.mode) c.self.view_is) ∙ sym c.is_read_only.ensures ∙ c.if-is_read_only.false in
    let tested : IsReady g.M.Metadata.stands c.args.id c.args.origin.now c.args.self.now old =
    ready g.M.Metadata.stands c.args.id c.args.origin.now c.args.self.now old view c.requires.works writes ((search rules), c.test_new.ensures.low) c.in_ok-test_new.ensures.told in
    let new : Held g.row.M.Denot = record old { disk = g.D.Disk.state c.reclaim.new.disk; metadata = c.reclaim.new.metadata } in
    let p = err_from_is_err_and c.from_residual-in_err-reclaim.result c.from_residual-in_err-reclaim.ensures.1 in
    let x = c.in_err-reclaim.field-0.0 in
    exit_is (λ (r : Result (Unit {0}) Refusal). PoolBegun g.M.Metadata.geometry g.M.Metadata.stands g.M.Metadata.marks g.M.Metadata.room g.M.Metadata.changed c.args.self.now new (create_call c.args.id c.args.origin.now) r)
    c.from_residual-in_err-reclaim.result x p.0 p.1 (sym p.2)
    (create_unreclaimed laws c.args.id c.args.origin.now c.args.self.now old tested c.lacks_metadata.result c.lacks_metadata.ensures c.if-lacks_metadata.false
    x c.reclaim.new.metadata (g.D.Disk.state c.reclaim.new.disk) c.reclaim.ensures.geometry c.reclaim.ensures.time c.in_err-reclaim.ensures.cause c.reclaim.ensures.left
    (λ is now kept st enough. c.in_err-reclaim.ensures.damaged (ap (λ (r : Refusal). Err r) is) now kept st enough) c.in_err-reclaim.ensures.only)

pub returns-in_err-add-clause-called : goal.returns-in_err-add-clause-called
returns-in_err-add-clause-called g c =
    let met = g.met.M.Metadata in
    let laws : Laws g.M.Metadata.geometry g.M.Metadata.stands g.M.Metadata.marks g.M.Metadata.room =
    record { within = met.within; honest = met.honest; left = met.left; frame = met.frame } in
    let old : Held g.row.M.Denot =
    record {
      disk = g.D.Disk.state c.self-2.inside.disk;
      metadata = c.self-2.inside.metadata;
      holders = c.self-2.inside.holders.items;
      mode = c.self-2.inside.mode;
    } in
    let view : old ≡ c.args.self.now = c.self-2.view_is ∙ c.in_ok-test_new.ensures.held in
    let writes : is_read_only c.args.self.now.mode ≡ false =
    sym (ap (λ (h : Held g.row.M.Denot). is_read_only h.mode) c.self.view_is) ∙ sym c.is_read_only.ensures ∙ c.if-is_read_only.false in
    let tested : IsReady g.M.Metadata.stands c.args.id c.args.origin.now c.args.self.now old =
    ready g.M.Metadata.stands c.args.id c.args.origin.now c.args.self.now old view c.requires.works writes ((search rules), c.test_new.ensures.low) c.in_ok-test_new.ensures.told in
    let new : Held g.row.M.Denot = record old { disk = g.D.Disk.state c.add.new.disk; metadata = c.add.new.metadata } in
    let p = err_from_is_err_and c.from_residual-in_err-add.result c.from_residual-in_err-add.ensures.1 in
    let x = refusal_of c.in_err-add.field-0.0 in
    exit_is (λ (r : Result (Unit {0}) Refusal). PoolBegun g.M.Metadata.geometry g.M.Metadata.stands g.M.Metadata.marks g.M.Metadata.room g.M.Metadata.changed c.args.self.now new (create_call c.args.id c.args.origin.now) r)
    c.from_residual-in_err-add.result x p.0 p.1 (sym p.2)
    (create_failed laws c.args.id c.args.origin.now c.args.self.now old tested c.lacks_metadata.result c.lacks_metadata.ensures c.if-lacks_metadata.false
    c.reclaim.new.metadata (g.D.Disk.state c.reclaim.new.disk) c.reclaim.ensures.geometry c.reclaim.ensures.time c.in_ok-reclaim.ensures.cause c.reclaim.ensures.left c.in_ok-reclaim.ensures.done
    c.add.new.metadata (g.D.Disk.state c.add.new.disk) c.add.ensures.altered.changing
    x c.in_err-add.ensures.altered.ran
    (λ is now kept st none few there. c.in_err-add.ensures.altered.damaged (ap (λ (r : StoreError). Err r) (damaged_so c.in_err-add.field-0.0 is)) now kept st none few there) (refused_so c.in_err-add.field-0.0))

pub returns-clause-called : goal.returns-clause-called
returns-clause-called g c =
    let met = g.met.M.Metadata in
    let laws : Laws g.M.Metadata.geometry g.M.Metadata.stands g.M.Metadata.marks g.M.Metadata.room =
    record { within = met.within; honest = met.honest; left = met.left; frame = met.frame } in
    let old : Held g.row.M.Denot =
    record {
      disk = g.D.Disk.state c.self-2.inside.disk;
      metadata = c.self-2.inside.metadata;
      holders = c.self-2.inside.holders.items;
      mode = c.self-2.inside.mode;
    } in
    let view : old ≡ c.args.self.now = c.self-2.view_is ∙ c.in_ok-test_new.ensures.held in
    let writes : is_read_only c.args.self.now.mode ≡ false =
    sym (ap (λ (h : Held g.row.M.Denot). is_read_only h.mode) c.self.view_is) ∙ sym c.is_read_only.ensures ∙ c.if-is_read_only.false in
    let tested : IsReady g.M.Metadata.stands c.args.id c.args.origin.now c.args.self.now old =
    ready g.M.Metadata.stands c.args.id c.args.origin.now c.args.self.now old view c.requires.works writes ((search rules), c.test_new.ensures.low) c.in_ok-test_new.ensures.told in
    let counted =
    create_reclaimed laws c.args.id c.args.origin.now c.args.self.now old tested c.lacks_metadata.result c.lacks_metadata.ensures c.if-lacks_metadata.false c.reclaim.new.metadata (g.D.Disk.state c.reclaim.new.disk) c.reclaim.ensures.flushes c.reclaim.ensures.idle
    (g.D.Disk.state c.add.new.disk) c.in_ok-add.ensures.altered.ran.flushes in
    create_unkept laws c.args.id c.args.origin.now c.args.self.now old tested c.lacks_metadata.result c.lacks_metadata.ensures c.if-lacks_metadata.false
    c.reclaim.new.metadata (g.D.Disk.state c.reclaim.new.disk) c.reclaim.ensures.geometry c.reclaim.ensures.time c.in_ok-reclaim.ensures.cause c.reclaim.ensures.left c.in_ok-reclaim.ensures.done
    c.add.new.metadata (g.D.Disk.state c.add.new.disk) c.add.ensures.altered.changing
    c.in_ok-add.ensures.altered.ran c.in_ok-reclaim.ensures.room c.in_ok-add.ensures.altered.made c.in_ok-add.ensures.used g.M.Metadata.changed counted

pub returns-then-is_read_only-clause-tried : goal.returns-then-is_read_only-clause-tried
returns-then-is_read_only-clause-tried g c =
    create_read_only c.args.self.now c.args.id c.args.origin.now (sym (ap (λ (h : Held g.row.M.Denot). is_read_only h.mode) c.self.view_is) ∙ sym c.is_read_only.ensures ∙ c.if-is_read_only.true)

pub returns-in_err-test_new-clause-tried : goal.returns-in_err-test_new-clause-tried
returns-in_err-test_new-clause-tried g c =
    let writes : is_read_only c.args.self.now.mode ≡ false =
    sym (ap (λ (h : Held g.row.M.Denot). is_read_only h.mode) c.self.view_is) ∙ sym c.is_read_only.ensures ∙ c.if-is_read_only.false in
    let works = writable_is c.args.self.now.mode c.requires.works writes in
    let p = err_from_is_err_and c.from_residual.result c.from_residual.ensures.1 in
    let x = c.in_err-test_new.field-0.0 in
    create_exit c.args.self.now c.test_new.new.self works c.args.id c.args.origin.now c.from_residual.result x p.0
    (ap (λ (h : Held g.row.M.Denot). h.mode) c.in_err-test_new.ensures.held) p.1 (sym p.2) c.in_err-test_new.ensures.only

pub returns-then-lacks_metadata-clause-tried : goal.returns-then-lacks_metadata-clause-tried
returns-then-lacks_metadata-clause-tried g c =
    let writes : is_read_only c.args.self.now.mode ≡ false =
    sym (ap (λ (h : Held g.row.M.Denot). is_read_only h.mode) c.self.view_is) ∙ sym c.is_read_only.ensures ∙ c.if-is_read_only.false in
    let works = writable_is c.args.self.now.mode c.requires.works writes in
    let same = c.in_ok-test_new.ensures.held in
    subst (λ (h : Held g.row.M.Denot). IsTried h c.refuse_for_room.new.self (create_call c.args.id c.args.origin.now) c.refuse_for_room.result) same
    (create_short c.test_new.new.self c.refuse_for_room.new.self (ap (λ (h : Held g.row.M.Denot). h.mode) same ∙ works) c.args.id c.args.origin.now c.refuse_for_room.result
    c.refuse_for_room.ensures.ends)

pub returns-in_err-reclaim-clause-tried : goal.returns-in_err-reclaim-clause-tried
returns-in_err-reclaim-clause-tried g c =
    let writes : is_read_only c.args.self.now.mode ≡ false =
    sym (ap (λ (h : Held g.row.M.Denot). is_read_only h.mode) c.self.view_is) ∙ sym c.is_read_only.ensures ∙ c.if-is_read_only.false in
    let works = writable_is c.args.self.now.mode c.requires.works writes in
    let p = err_from_is_err_and c.from_residual-in_err-reclaim.result c.from_residual-in_err-reclaim.ensures.1 in
    let x = c.in_err-reclaim.field-0.0 in
    let new : Held g.row.M.Denot = record { disk = g.D.Disk.state c.reclaim.new.disk; metadata = c.reclaim.new.metadata; holders = c.self-2.inside.holders.items; mode = c.self-2.inside.mode } in
    create_exit c.args.self.now new works c.args.id c.args.origin.now c.from_residual-in_err-reclaim.result x p.0 (ap (λ (h : Held g.row.M.Denot). h.mode) (c.self-2.view_is ∙ c.in_ok-test_new.ensures.held)) p.1 (sym p.2)
    (failure_refuses c.args.origin.now x c.in_err-reclaim.ensures.only)

pub returns-in_err-add-clause-tried : goal.returns-in_err-add-clause-tried
returns-in_err-add-clause-tried g c =
    let writes : is_read_only c.args.self.now.mode ≡ false =
    sym (ap (λ (h : Held g.row.M.Denot). is_read_only h.mode) c.self.view_is) ∙ sym c.is_read_only.ensures ∙ c.if-is_read_only.false in
    let works = writable_is c.args.self.now.mode c.requires.works writes in
    let p = err_from_is_err_and c.from_residual-in_err-add.result c.from_residual-in_err-add.ensures.1 in
    let x = refusal_of c.in_err-add.field-0.0 in
    let new : Held g.row.M.Denot = record { disk = g.D.Disk.state c.add.new.disk; metadata = c.add.new.metadata; holders = c.self-2.inside.holders.items; mode = c.self-2.inside.mode } in
    create_exit c.args.self.now new works c.args.id c.args.origin.now c.from_residual-in_err-add.result x p.0 (ap (λ (h : Held g.row.M.Denot). h.mode) (c.self-2.view_is ∙ c.in_ok-test_new.ensures.held)) p.1 (sym p.2)
    (failure_refuses c.args.origin.now x (refused_so c.in_err-add.field-0.0))

pub returns-clause-tried : goal.returns-clause-tried
returns-clause-tried g c =
    let writes : is_read_only c.args.self.now.mode ≡ false =
    sym (ap (λ (h : Held g.row.M.Denot). is_read_only h.mode) c.self.view_is) ∙ sym c.is_read_only.ensures ∙ c.if-is_read_only.false in
    let works = writable_is c.args.self.now.mode c.requires.works writes in
    let new : Held g.row.M.Denot = record { disk = g.D.Disk.state c.add.new.disk; metadata = c.add.new.metadata; holders = c.self-2.inside.holders.items; mode = c.self-2.inside.mode } in
    create_kept c.args.self.now new works c.args.id c.args.origin.now (Ok tt) (ap (λ (h : Held g.row.M.Denot). h.mode) (c.self-2.view_is ∙ c.in_ok-test_new.ensures.held)) tt

pub returns-then-is_read_only-clause-flushes : goal.returns-then-is_read_only-clause-flushes
returns-then-is_read_only-clause-flushes g c =
    counted_nothing g.M.Metadata.geometry g.M.Metadata.stands g.M.Metadata.marks g.M.Metadata.room c.args.self.now c.args.self.now.disk (create_call c.args.id c.args.origin.now) refl

pub returns-in_err-test_new-clause-flushes : goal.returns-in_err-test_new-clause-flushes
returns-in_err-test_new-clause-flushes g c =
    counted_nothing g.M.Metadata.geometry g.M.Metadata.stands g.M.Metadata.marks g.M.Metadata.room c.args.self.now c.test_new.new.self.disk (create_call c.args.id c.args.origin.now) (ap (λ (h : Held g.row.M.Denot). h.disk.flushes) c.in_err-test_new.ensures.held)

pub returns-then-lacks_metadata-clause-flushes : goal.returns-then-lacks_metadata-clause-flushes
returns-then-lacks_metadata-clause-flushes g c =
    let met = g.met.M.Metadata in
    let laws : Laws g.M.Metadata.geometry g.M.Metadata.stands g.M.Metadata.marks g.M.Metadata.room =
    record { within = met.within; honest = met.honest; left = met.left; frame = met.frame } in
    let old : Held g.row.M.Denot =
    record {
      disk = g.D.Disk.state c.self-2.inside.disk;
      metadata = c.self-2.inside.metadata;
      holders = c.self-2.inside.holders.items;
      mode = c.self-2.inside.mode;
    } in
    let view : old ≡ c.args.self.now = c.self-2.view_is ∙ c.in_ok-test_new.ensures.held in
    let writes : is_read_only c.args.self.now.mode ≡ false =
    sym (ap (λ (h : Held g.row.M.Denot). is_read_only h.mode) c.self.view_is) ∙ sym c.is_read_only.ensures ∙ c.if-is_read_only.false in
    let tested : IsReady g.M.Metadata.stands c.args.id c.args.origin.now c.args.self.now old =
    ready g.M.Metadata.stands c.args.id c.args.origin.now c.args.self.now old view c.requires.works writes ((search rules), c.test_new.ensures.low) c.in_ok-test_new.ensures.told in
    create_flushed_short laws c.args.id c.args.origin.now c.args.self.now old tested c.lacks_metadata.result c.lacks_metadata.ensures c.refuse_for_room.new.self.disk c.if-lacks_metadata.true
    (subst (λ (h : Held g.row.M.Denot). (h.disk.flushes ≤ c.refuse_for_room.new.self.disk.flushes) × (c.refuse_for_room.new.self.disk.flushes ≤ h.disk.flushes + 2))
    (sym c.self-2.view_is) c.refuse_for_room.ensures.flushes)

pub returns-in_err-reclaim-clause-flushes : goal.returns-in_err-reclaim-clause-flushes
returns-in_err-reclaim-clause-flushes g c =
    let met = g.met.M.Metadata in
    let laws : Laws g.M.Metadata.geometry g.M.Metadata.stands g.M.Metadata.marks g.M.Metadata.room =
    record { within = met.within; honest = met.honest; left = met.left; frame = met.frame } in
    let old : Held g.row.M.Denot =
    record {
      disk = g.D.Disk.state c.self-2.inside.disk;
      metadata = c.self-2.inside.metadata;
      holders = c.self-2.inside.holders.items;
      mode = c.self-2.inside.mode;
    } in
    let view : old ≡ c.args.self.now = c.self-2.view_is ∙ c.in_ok-test_new.ensures.held in
    let writes : is_read_only c.args.self.now.mode ≡ false =
    sym (ap (λ (h : Held g.row.M.Denot). is_read_only h.mode) c.self.view_is) ∙ sym c.is_read_only.ensures ∙ c.if-is_read_only.false in
    let tested : IsReady g.M.Metadata.stands c.args.id c.args.origin.now c.args.self.now old =
    ready g.M.Metadata.stands c.args.id c.args.origin.now c.args.self.now old view c.requires.works writes ((search rules), c.test_new.ensures.low) c.in_ok-test_new.ensures.told in
    create_before laws c.args.id c.args.origin.now c.args.self.now old tested c.lacks_metadata.result c.lacks_metadata.ensures c.if-lacks_metadata.false c.reclaim.new.metadata (g.D.Disk.state c.reclaim.new.disk) c.reclaim.ensures.flushes c.reclaim.ensures.idle (g.D.Disk.state c.reclaim.new.disk) refl

pub returns-in_err-add-clause-flushes : goal.returns-in_err-add-clause-flushes
returns-in_err-add-clause-flushes g c =
    let met = g.met.M.Metadata in
    let laws : Laws g.M.Metadata.geometry g.M.Metadata.stands g.M.Metadata.marks g.M.Metadata.room =
    record { within = met.within; honest = met.honest; left = met.left; frame = met.frame } in
    let old : Held g.row.M.Denot =
    record {
      disk = g.D.Disk.state c.self-2.inside.disk;
      metadata = c.self-2.inside.metadata;
      holders = c.self-2.inside.holders.items;
      mode = c.self-2.inside.mode;
    } in
    let view : old ≡ c.args.self.now = c.self-2.view_is ∙ c.in_ok-test_new.ensures.held in
    let writes : is_read_only c.args.self.now.mode ≡ false =
    sym (ap (λ (h : Held g.row.M.Denot). is_read_only h.mode) c.self.view_is) ∙ sym c.is_read_only.ensures ∙ c.if-is_read_only.false in
    let tested : IsReady g.M.Metadata.stands c.args.id c.args.origin.now c.args.self.now old =
    ready g.M.Metadata.stands c.args.id c.args.origin.now c.args.self.now old view c.requires.works writes ((search rules), c.test_new.ensures.low) c.in_ok-test_new.ensures.told in
    create_before laws c.args.id c.args.origin.now c.args.self.now old tested c.lacks_metadata.result c.lacks_metadata.ensures c.if-lacks_metadata.false c.reclaim.new.metadata (g.D.Disk.state c.reclaim.new.disk) c.reclaim.ensures.flushes c.reclaim.ensures.idle (g.D.Disk.state c.add.new.disk) c.in_err-add.ensures.altered.ran.flushes

pub returns-clause-flushes : goal.returns-clause-flushes
returns-clause-flushes g c =
    let met = g.met.M.Metadata in
    let laws : Laws g.M.Metadata.geometry g.M.Metadata.stands g.M.Metadata.marks g.M.Metadata.room =
    record { within = met.within; honest = met.honest; left = met.left; frame = met.frame } in
    let old : Held g.row.M.Denot =
    record {
      disk = g.D.Disk.state c.self-2.inside.disk;
      metadata = c.self-2.inside.metadata;
      holders = c.self-2.inside.holders.items;
      mode = c.self-2.inside.mode;
    } in
    let view : old ≡ c.args.self.now = c.self-2.view_is ∙ c.in_ok-test_new.ensures.held in
    let writes : is_read_only c.args.self.now.mode ≡ false =
    sym (ap (λ (h : Held g.row.M.Denot). is_read_only h.mode) c.self.view_is) ∙ sym c.is_read_only.ensures ∙ c.if-is_read_only.false in
    let tested : IsReady g.M.Metadata.stands c.args.id c.args.origin.now c.args.self.now old =
    ready g.M.Metadata.stands c.args.id c.args.origin.now c.args.self.now old view c.requires.works writes ((search rules), c.test_new.ensures.low) c.in_ok-test_new.ensures.told in
    create_before laws c.args.id c.args.origin.now c.args.self.now old tested c.lacks_metadata.result c.lacks_metadata.ensures c.if-lacks_metadata.false c.reclaim.new.metadata (g.D.Disk.state c.reclaim.new.disk) c.reclaim.ensures.flushes c.reclaim.ensures.idle (g.D.Disk.state c.add.new.disk) c.in_ok-add.ensures.altered.ran.flushes

pub returns-then-is_read_only-clause-changes : goal.returns-then-is_read_only-clause-changes
returns-then-is_read_only-clause-changes g c =
    left_of g.M.Metadata.changed c.args.self.now.metadata c.args.self.now.metadata (create_call c.args.id c.args.origin.now) (Err ReadOnly)
    (changed_nothing g.M.Metadata.changed c.args.self.now.metadata c.args.self.now.metadata (create_call c.args.id c.args.origin.now) ReadOnly refl refl)

pub returns-in_err-test_new-clause-changes : goal.returns-in_err-test_new-clause-changes
returns-in_err-test_new-clause-changes g c =
    let p = err_from_is_err_and c.from_residual.result c.from_residual.ensures.1 in
    left_of g.M.Metadata.changed c.args.self.now.metadata c.test_new.new.self.metadata (create_call c.args.id c.args.origin.now) c.from_residual.result
    (changed_read g.M.Metadata.changed c.args.self.now.metadata c.test_new.new.self.metadata (create_call c.args.id c.args.origin.now) c.from_residual.result c.in_err-test_new.field-0.0 p.0 p.1 (sym p.2)
    (new_commits c.args.origin.now c.in_err-test_new.field-0.0 c.in_err-test_new.ensures.only) (ap (λ (h : Held g.row.M.Denot). h.metadata) c.in_err-test_new.ensures.held))

pub returns-then-lacks_metadata-clause-changes : goal.returns-then-lacks_metadata-clause-changes
returns-then-lacks_metadata-clause-changes g c =
    left_of g.M.Metadata.changed c.args.self.now.metadata c.refuse_for_room.new.self.metadata (create_call c.args.id c.args.origin.now) c.refuse_for_room.result
    (changed_short g.M.Metadata.changed (create_call c.args.id c.args.origin.now) c.test_new.new.self
    c.refuse_for_room.new.self c.args.self.now.metadata c.refuse_for_room.result c.refuse_for_room.ensures.ends c.refuse_for_room.ensures.unchanged)

pub returns-in_err-reclaim-clause-changes : goal.returns-in_err-reclaim-clause-changes
returns-in_err-reclaim-clause-changes g c =
    let p = err_from_is_err_and c.from_residual-in_err-reclaim.result c.from_residual-in_err-reclaim.ensures.1 in
    left_of g.M.Metadata.changed c.args.self.now.metadata c.reclaim.new.metadata (create_call c.args.id c.args.origin.now) c.from_residual-in_err-reclaim.result
    (changed_failed g.M.Metadata.changed c.args.self.now.metadata c.reclaim.new.metadata (create_call c.args.id c.args.origin.now) c.from_residual-in_err-reclaim.result c.in_err-reclaim.field-0.0 p.0 p.1 (sym p.2) c.in_err-reclaim.ensures.only)

pub returns-in_err-add-clause-changes : goal.returns-in_err-add-clause-changes
returns-in_err-add-clause-changes g c =
    let p = err_from_is_err_and c.from_residual-in_err-add.result c.from_residual-in_err-add.ensures.1 in
    left_of g.M.Metadata.changed c.args.self.now.metadata c.add.new.metadata (create_call c.args.id c.args.origin.now) c.from_residual-in_err-add.result
    (changed_failed g.M.Metadata.changed c.args.self.now.metadata c.add.new.metadata (create_call c.args.id c.args.origin.now) c.from_residual-in_err-add.result (refusal_of c.in_err-add.field-0.0) p.0 p.1 (sym p.2) (refused_so c.in_err-add.field-0.0))

pub returns-clause-changes : goal.returns-clause-changes
returns-clause-changes g c = record { committed = tt; unchanged = tt }
