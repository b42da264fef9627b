use Rattle.std.proofs.Common.{rules, ap, refl, subst, sym, ◌≡◌, ◌∙◌, ◌+◌, ◌≤◌, false, Err, Ok}
use Rattle.std.specs.Prelude.{Result}
use Rattle.std.proofs.lemmas.Result.{err_from_is_err_and}
use Rattle.tp_model.specs.declared.refusal.Refusal.{Refusal}
use Rattle.tp_model.specs.declared.refusal.Refusal.TheVariants.{ReadOnly}
use Rattle.tp_counts.specs.declared.error.StoreError.{StoreError}
use Rattle.tp_counts.specs.StoreErrors.{refusal_of}
use Rattle.tp_counts.proofs.Refusing.{damaged_so, refused_so}
use Rattle.tp_model.specs.Calls.{Call, Delete, is_read_only}
use Rattle.tp_pool.specs.Held.{Held, IsTried, LacksRoom, PoolRefused, PoolTried, failed_by}
use Rattle.tp_pool.proofs.Calling.{Laws}
use Rattle.tp_pool.proofs.Deleting.{IsDeletable, deletable, delete_before, delete_failed, delete_kept, delete_read_only, delete_read_only_called, delete_reclaimed, delete_refused, delete_short, delete_tested, delete_unkept, delete_unreclaimed, failure_deletes_nothing, old_commits, removal_flushed_short, removal_refused}
use Rattle.tp_pool.proofs.Serving.{exit_is}
use Rattle.tp_pool.proofs.Putting.{writable_is}
use Rattle.tp_pool.proofs.Flushing.{changed_failed, changed_nothing, changed_read, changed_short, counted_nothing}
use Rattle.tp_pool.specs.Unkept.{PoolBegun}
use Rattle.tp_pool.proofs.Begun.{begun_short, left_of}
use Rattle.tp_pool.proofs.pool.Pool.try_delete.Goals as goal

pub returns-then-is_read_only-clause-called : goal.returns-then-is_read_only-clause-called
returns-then-is_read_only-clause-called g c =
    let met = g.met.M.Metadata in
    let laws : Laws g.M.Metadata.geometry g.M.Metadata.stands g.M.Metadata.marks g.M.Metadata.room =
    record { within = met.within; honest = met.honest; left = met.left; frame = met.frame } in
    delete_read_only_called laws c.args.id c.args.self.now c.requires.works
    (sym (ap (λ (h : Held g.row.M.Denot). is_read_only h.mode) c.self.view_is) ∙ sym c.is_read_only.ensures ∙ c.if-is_read_only.true)

pub returns-in_err-test_old-clause-called : goal.returns-in_err-test_old-clause-called
returns-in_err-test_old-clause-called g c =
    let met = g.met.M.Metadata in
    let laws : Laws g.M.Metadata.geometry g.M.Metadata.stands g.M.Metadata.marks g.M.Metadata.room =
    record { within = met.within; honest = met.honest; left = met.left; frame = met.frame } in
    let writes : is_read_only c.args.self.now.mode ≡ false =
    sym (ap (λ (h : Held g.row.M.Denot). is_read_only h.mode) c.self.view_is) ∙ sym c.is_read_only.ensures ∙ c.if-is_read_only.false in
    let told = c.in_err-test_old.ensures in
    let p = err_from_is_err_and c.from_residual.result c.from_residual.ensures.1 in
    let x = c.in_err-test_old.field-0.0 in
    exit_is (λ (r : Result (Unit {0}) Refusal). PoolBegun g.M.Metadata.geometry g.M.Metadata.stands g.M.Metadata.marks g.M.Metadata.room g.M.Metadata.changed c.args.self.now c.test_old.new.self (Delete c.args.id) r)
    c.from_residual.result x p.0 p.1 (sym p.2)
    (subst (λ (h : Held g.row.M.Denot). PoolRefused g.M.Metadata.geometry g.M.Metadata.stands c.args.self.now (failed_by x h) (Delete c.args.id) x) (sym told.held)
    (delete_tested laws c.args.id c.args.self.now x (search rules) c.requires.works writes told.told (λ e now kept st. told.damaged (ap (λ (r : Refusal). Err r) e) now kept st) told.only))

pub returns-in_err-reclaim_metadata-clause-called : goal.returns-in_err-reclaim_metadata-clause-called
returns-in_err-reclaim_metadata-clause-called g c =
    let met = g.met.M.Metadata in
    let laws : Laws g.M.Metadata.geometry g.M.Metadata.stands g.M.Metadata.marks g.M.Metadata.room =
    record { within = met.within; honest = met.honest; left = met.left; frame = met.frame } in
    let old : Held g.row.M.Denot =
    record {
      disk = g.D.Disk.state c.self-2.inside.disk;
      metadata = c.self-2.inside.metadata;
      holders = c.self-2.inside.holders.items;
      mode = c.self-2.inside.mode;
    } in
    let view : old ≡ c.args.self.now = c.self-2.view_is ∙ c.in_ok-test_old.ensures.held in
    let writes : is_read_only c.args.self.now.mode ≡ false =
    sym (ap (λ (h : Held g.row.M.Denot). is_read_only h.mode) c.self.view_is) ∙ sym c.is_read_only.ensures ∙ c.if-is_read_only.false in
    let tested : IsDeletable g.M.Metadata.stands c.args.id c.args.self.now old =
    deletable g.M.Metadata.stands c.args.id c.args.self.now old view c.requires.works writes (search rules) c.in_ok-test_old.ensures.told in
    let new : Held g.row.M.Denot = record old { disk = g.D.Disk.state c.reclaim_metadata.new.disk; metadata = c.reclaim_metadata.new.metadata } in
    let p = err_from_is_err_and c.from_residual-in_err-reclaim_metadata.result c.from_residual-in_err-reclaim_metadata.ensures.1 in
    let x = c.in_err-reclaim_metadata.field-0.0 in
    exit_is (λ (r : Result (Unit {0}) Refusal). PoolBegun g.M.Metadata.geometry g.M.Metadata.stands g.M.Metadata.marks g.M.Metadata.room g.M.Metadata.changed c.args.self.now new (Delete c.args.id) r)
    c.from_residual-in_err-reclaim_metadata.result x p.0 p.1 (sym p.2)
    (delete_unreclaimed laws c.args.id c.args.self.now old tested c.lacks_for_removal.result c.lacks_for_removal.ensures c.if-lacks_for_removal.false x c.reclaim_metadata.new.metadata (g.D.Disk.state c.reclaim_metadata.new.disk) c.reclaim_metadata.ensures.geometry c.reclaim_metadata.ensures.time c.in_err-reclaim_metadata.ensures.cause c.reclaim_metadata.ensures.left
    (λ is now kept st spare. c.in_err-reclaim_metadata.ensures.damaged (ap (λ (r : Refusal). Err r) is) now kept st spare) c.in_err-reclaim_metadata.ensures.only)

pub returns-in_err-delete-clause-called : goal.returns-in_err-delete-clause-called
returns-in_err-delete-clause-called g c =
    let met = g.met.M.Metadata in
    let laws : Laws g.M.Metadata.geometry g.M.Metadata.stands g.M.Metadata.marks g.M.Metadata.room =
    record { within = met.within; honest = met.honest; left = met.left; frame = met.frame } in
    let old : Held g.row.M.Denot =
    record {
      disk = g.D.Disk.state c.self-2.inside.disk;
      metadata = c.self-2.inside.metadata;
      holders = c.self-2.inside.holders.items;
      mode = c.self-2.inside.mode;
    } in
    let view : old ≡ c.args.self.now = c.self-2.view_is ∙ c.in_ok-test_old.ensures.held in
    let writes : is_read_only c.args.self.now.mode ≡ false =
    sym (ap (λ (h : Held g.row.M.Denot). is_read_only h.mode) c.self.view_is) ∙ sym c.is_read_only.ensures ∙ c.if-is_read_only.false in
    let tested : IsDeletable g.M.Metadata.stands c.args.id c.args.self.now old =
    deletable g.M.Metadata.stands c.args.id c.args.self.now old view c.requires.works writes (search rules) c.in_ok-test_old.ensures.told in
    let new : Held g.row.M.Denot = record old { disk = g.D.Disk.state c.delete.new.disk; metadata = c.delete.new.self } in
    let p = err_from_is_err_and c.from_residual-in_err-delete.result c.from_residual-in_err-delete.ensures.1 in
    let x = refusal_of c.in_err-delete.field-0.0 in
    exit_is (λ (r : Result (Unit {0}) Refusal). PoolBegun g.M.Metadata.geometry g.M.Metadata.stands g.M.Metadata.marks g.M.Metadata.room g.M.Metadata.changed c.args.self.now new (Delete c.args.id) r)
    c.from_residual-in_err-delete.result x p.0 p.1 (sym p.2)
    (delete_failed laws c.args.id c.args.self.now old tested c.lacks_for_removal.result c.lacks_for_removal.ensures c.if-lacks_for_removal.false c.reclaim_metadata.new.metadata (g.D.Disk.state c.reclaim_metadata.new.disk) c.reclaim_metadata.ensures.geometry c.reclaim_metadata.ensures.time c.in_ok-reclaim_metadata.ensures.cause c.reclaim_metadata.ensures.left
    c.in_ok-reclaim_metadata.ensures.done c.delete.new.self (g.D.Disk.state c.delete.new.disk) c.delete.ensures.changing x c.in_err-delete.ensures.ran
    (λ is now kept st there. c.in_err-delete.ensures.damaged (ap (λ (r : StoreError). Err r) (damaged_so c.in_err-delete.field-0.0 is)) now kept st there) (refused_so c.in_err-delete.field-0.0))

pub returns-clause-called : goal.returns-clause-called
returns-clause-called g c =
    let met = g.met.M.Metadata in
    let laws : Laws g.M.Metadata.geometry g.M.Metadata.stands g.M.Metadata.marks g.M.Metadata.room =
    record { within = met.within; honest = met.honest; left = met.left; frame = met.frame } in
    let old : Held g.row.M.Denot =
    record {
      disk = g.D.Disk.state c.self-2.inside.disk;
      metadata = c.self-2.inside.metadata;
      holders = c.self-2.inside.holders.items;
      mode = c.self-2.inside.mode;
    } in
    let view : old ≡ c.args.self.now = c.self-2.view_is ∙ c.in_ok-test_old.ensures.held in
    let writes : is_read_only c.args.self.now.mode ≡ false =
    sym (ap (λ (h : Held g.row.M.Denot). is_read_only h.mode) c.self.view_is) ∙ sym c.is_read_only.ensures ∙ c.if-is_read_only.false in
    let tested : IsDeletable g.M.Metadata.stands c.args.id c.args.self.now old =
    deletable g.M.Metadata.stands c.args.id c.args.self.now old view c.requires.works writes (search rules) c.in_ok-test_old.ensures.told in
    let counted =
    delete_reclaimed laws c.args.id c.args.self.now old tested c.lacks_for_removal.result c.lacks_for_removal.ensures c.if-lacks_for_removal.false c.reclaim_metadata.new.metadata (g.D.Disk.state c.reclaim_metadata.new.disk) c.reclaim_metadata.ensures.flushes c.reclaim_metadata.ensures.idle
    (g.D.Disk.state c.delete.new.disk) c.in_ok-delete.ensures.ran.flushes in
    delete_unkept laws c.args.id c.args.self.now old tested c.lacks_for_removal.result c.lacks_for_removal.ensures c.if-lacks_for_removal.false c.reclaim_metadata.new.metadata (g.D.Disk.state c.reclaim_metadata.new.disk) c.reclaim_metadata.ensures.geometry c.reclaim_metadata.ensures.time c.in_ok-reclaim_metadata.ensures.cause c.reclaim_metadata.ensures.left
    c.in_ok-reclaim_metadata.ensures.done c.delete.new.self (g.D.Disk.state c.delete.new.disk) c.delete.ensures.changing c.in_ok-delete.ensures.ran
    (λ now kept st there. (c.in_ok-delete.ensures.made now kept st there).0) g.M.Metadata.changed counted

pub returns-then-is_read_only-clause-tried : goal.returns-then-is_read_only-clause-tried
returns-then-is_read_only-clause-tried g c =
    delete_read_only c.args.self.now c.args.id (sym (ap (λ (h : Held g.row.M.Denot). is_read_only h.mode) c.self.view_is) ∙ sym c.is_read_only.ensures ∙ c.if-is_read_only.true)

pub returns-in_err-test_old-clause-tried : goal.returns-in_err-test_old-clause-tried
returns-in_err-test_old-clause-tried g c =
    let writes : is_read_only c.args.self.now.mode ≡ false =
    sym (ap (λ (h : Held g.row.M.Denot). is_read_only h.mode) c.self.view_is) ∙ sym c.is_read_only.ensures ∙ c.if-is_read_only.false in
    let works = writable_is c.args.self.now.mode c.requires.works writes in
    let p = err_from_is_err_and c.from_residual.result c.from_residual.ensures.1 in
    let x = c.in_err-test_old.field-0.0 in
    exit_is (λ (r : Result (Unit {0}) Refusal). IsTried c.args.self.now c.test_old.new.self (Delete c.args.id) r) c.from_residual.result x p.0 p.1 (sym p.2)
    (delete_refused c.args.self.now c.test_old.new.self c.args.id works (ap (λ (h : Held g.row.M.Denot). h.mode) c.in_err-test_old.ensures.held) x c.in_err-test_old.ensures.only)

pub returns-in_err-reclaim_metadata-clause-tried : goal.returns-in_err-reclaim_metadata-clause-tried
returns-in_err-reclaim_metadata-clause-tried g c =
    let writes : is_read_only c.args.self.now.mode ≡ false =
    sym (ap (λ (h : Held g.row.M.Denot). is_read_only h.mode) c.self.view_is) ∙ sym c.is_read_only.ensures ∙ c.if-is_read_only.false in
    let works = writable_is c.args.self.now.mode c.requires.works writes in
    let p = err_from_is_err_and c.from_residual-in_err-reclaim_metadata.result c.from_residual-in_err-reclaim_metadata.ensures.1 in
    let x = c.in_err-reclaim_metadata.field-0.0 in
    let new : Held g.row.M.Denot = record { disk = g.D.Disk.state c.reclaim_metadata.new.disk; metadata = c.reclaim_metadata.new.metadata; holders = c.self-2.inside.holders.items; mode = c.self-2.inside.mode } in
    exit_is (λ (r : Result (Unit {0}) Refusal). IsTried c.args.self.now new (Delete c.args.id) r) c.from_residual-in_err-reclaim_metadata.result x p.0 p.1 (sym p.2)
    (delete_refused c.args.self.now new c.args.id works (ap (λ (h : Held g.row.M.Denot). h.mode) (c.self-2.view_is ∙ c.in_ok-test_old.ensures.held)) x (failure_deletes_nothing x c.in_err-reclaim_metadata.ensures.only))

pub returns-in_err-delete-clause-tried : goal.returns-in_err-delete-clause-tried
returns-in_err-delete-clause-tried g c =
    let writes : is_read_only c.args.self.now.mode ≡ false =
    sym (ap (λ (h : Held g.row.M.Denot). is_read_only h.mode) c.self.view_is) ∙ sym c.is_read_only.ensures ∙ c.if-is_read_only.false in
    let works = writable_is c.args.self.now.mode c.requires.works writes in
    let p = err_from_is_err_and c.from_residual-in_err-delete.result c.from_residual-in_err-delete.ensures.1 in
    let x = refusal_of c.in_err-delete.field-0.0 in
    let new : Held g.row.M.Denot = record { disk = g.D.Disk.state c.delete.new.disk; metadata = c.delete.new.self; holders = c.self-2.inside.holders.items; mode = c.self-2.inside.mode } in
    exit_is (λ (r : Result (Unit {0}) Refusal). IsTried c.args.self.now new (Delete c.args.id) r) c.from_residual-in_err-delete.result x p.0 p.1 (sym p.2)
    (delete_refused c.args.self.now new c.args.id works (ap (λ (h : Held g.row.M.Denot). h.mode) (c.self-2.view_is ∙ c.in_ok-test_old.ensures.held)) x (failure_deletes_nothing x (refused_so c.in_err-delete.field-0.0)))

pub returns-clause-tried : goal.returns-clause-tried
returns-clause-tried g c =
    let writes : is_read_only c.args.self.now.mode ≡ false =
    sym (ap (λ (h : Held g.row.M.Denot). is_read_only h.mode) c.self.view_is) ∙ sym c.is_read_only.ensures ∙ c.if-is_read_only.false in
    let works = writable_is c.args.self.now.mode c.requires.works writes in
    let new : Held g.row.M.Denot = record { disk = g.D.Disk.state c.delete.new.disk; metadata = c.delete.new.self; holders = c.self-2.inside.holders.items; mode = c.self-2.inside.mode } in
    delete_kept c.args.self.now new c.args.id works (ap (λ (h : Held g.row.M.Denot). h.mode) (c.self-2.view_is ∙ c.in_ok-test_old.ensures.held)) (Ok tt) tt

pub returns-then-is_read_only-clause-flushes : goal.returns-then-is_read_only-clause-flushes
returns-then-is_read_only-clause-flushes g c =
    counted_nothing g.M.Metadata.geometry g.M.Metadata.stands g.M.Metadata.marks g.M.Metadata.room c.args.self.now c.args.self.now.disk (Delete c.args.id) refl

pub returns-in_err-test_old-clause-flushes : goal.returns-in_err-test_old-clause-flushes
returns-in_err-test_old-clause-flushes g c =
    counted_nothing g.M.Metadata.geometry g.M.Metadata.stands g.M.Metadata.marks g.M.Metadata.room c.args.self.now c.test_old.new.self.disk (Delete c.args.id) (ap (λ (h : Held g.row.M.Denot). h.disk.flushes) c.in_err-test_old.ensures.held)

pub returns-in_err-reclaim_metadata-clause-flushes : goal.returns-in_err-reclaim_metadata-clause-flushes
returns-in_err-reclaim_metadata-clause-flushes g c =
    let met = g.met.M.Metadata in
    let laws : Laws g.M.Metadata.geometry g.M.Metadata.stands g.M.Metadata.marks g.M.Metadata.room =
    record { within = met.within; honest = met.honest; left = met.left; frame = met.frame } in
    let old : Held g.row.M.Denot =
    record {
      disk = g.D.Disk.state c.self-2.inside.disk;
      metadata = c.self-2.inside.metadata;
      holders = c.self-2.inside.holders.items;
      mode = c.self-2.inside.mode;
    } in
    let view : old ≡ c.args.self.now = c.self-2.view_is ∙ c.in_ok-test_old.ensures.held in
    let writes : is_read_only c.args.self.now.mode ≡ false =
    sym (ap (λ (h : Held g.row.M.Denot). is_read_only h.mode) c.self.view_is) ∙ sym c.is_read_only.ensures ∙ c.if-is_read_only.false in
    let tested : IsDeletable g.M.Metadata.stands c.args.id c.args.self.now old =
    deletable g.M.Metadata.stands c.args.id c.args.self.now old view c.requires.works writes (search rules) c.in_ok-test_old.ensures.told in
    delete_before laws c.args.id c.args.self.now old tested c.lacks_for_removal.result c.lacks_for_removal.ensures c.if-lacks_for_removal.false c.reclaim_metadata.new.metadata (g.D.Disk.state c.reclaim_metadata.new.disk) c.reclaim_metadata.ensures.flushes c.reclaim_metadata.ensures.idle (g.D.Disk.state c.reclaim_metadata.new.disk) refl

pub returns-in_err-delete-clause-flushes : goal.returns-in_err-delete-clause-flushes
returns-in_err-delete-clause-flushes g c =
    let met = g.met.M.Metadata in
    let laws : Laws g.M.Metadata.geometry g.M.Metadata.stands g.M.Metadata.marks g.M.Metadata.room =
    record { within = met.within; honest = met.honest; left = met.left; frame = met.frame } in
    let old : Held g.row.M.Denot =
    record {
      disk = g.D.Disk.state c.self-2.inside.disk;
      metadata = c.self-2.inside.metadata;
      holders = c.self-2.inside.holders.items;
      mode = c.self-2.inside.mode;
    } in
    let view : old ≡ c.args.self.now = c.self-2.view_is ∙ c.in_ok-test_old.ensures.held in
    let writes : is_read_only c.args.self.now.mode ≡ false =
    sym (ap (λ (h : Held g.row.M.Denot). is_read_only h.mode) c.self.view_is) ∙ sym c.is_read_only.ensures ∙ c.if-is_read_only.false in
    let tested : IsDeletable g.M.Metadata.stands c.args.id c.args.self.now old =
    deletable g.M.Metadata.stands c.args.id c.args.self.now old view c.requires.works writes (search rules) c.in_ok-test_old.ensures.told in
    delete_before laws c.args.id c.args.self.now old tested c.lacks_for_removal.result c.lacks_for_removal.ensures c.if-lacks_for_removal.false c.reclaim_metadata.new.metadata (g.D.Disk.state c.reclaim_metadata.new.disk) c.reclaim_metadata.ensures.flushes c.reclaim_metadata.ensures.idle (g.D.Disk.state c.delete.new.disk) c.in_err-delete.ensures.ran.flushes

pub returns-clause-flushes : goal.returns-clause-flushes
returns-clause-flushes g c =
    let met = g.met.M.Metadata in
    let laws : Laws g.M.Metadata.geometry g.M.Metadata.stands g.M.Metadata.marks g.M.Metadata.room =
    record { within = met.within; honest = met.honest; left = met.left; frame = met.frame } in
    let old : Held g.row.M.Denot =
    record {
      disk = g.D.Disk.state c.self-2.inside.disk;
      metadata = c.self-2.inside.metadata;
      holders = c.self-2.inside.holders.items;
      mode = c.self-2.inside.mode;
    } in
    let view : old ≡ c.args.self.now = c.self-2.view_is ∙ c.in_ok-test_old.ensures.held in
    let writes : is_read_only c.args.self.now.mode ≡ false =
    sym (ap (λ (h : Held g.row.M.Denot). is_read_only h.mode) c.self.view_is) ∙ sym c.is_read_only.ensures ∙ c.if-is_read_only.false in
    let tested : IsDeletable g.M.Metadata.stands c.args.id c.args.self.now old =
    deletable g.M.Metadata.stands c.args.id c.args.self.now old view c.requires.works writes (search rules) c.in_ok-test_old.ensures.told in
    delete_before laws c.args.id c.args.self.now old tested c.lacks_for_removal.result c.lacks_for_removal.ensures c.if-lacks_for_removal.false c.reclaim_metadata.new.metadata (g.D.Disk.state c.reclaim_metadata.new.disk) c.reclaim_metadata.ensures.flushes c.reclaim_metadata.ensures.idle (g.D.Disk.state c.delete.new.disk) c.in_ok-delete.ensures.ran.flushes

pub returns-then-is_read_only-clause-changes : goal.returns-then-is_read_only-clause-changes
returns-then-is_read_only-clause-changes g c =
    left_of g.M.Metadata.changed c.args.self.now.metadata c.args.self.now.metadata (Delete c.args.id) (Err ReadOnly)
    (changed_nothing g.M.Metadata.changed c.args.self.now.metadata c.args.self.now.metadata (Delete c.args.id) ReadOnly refl refl)

pub returns-in_err-test_old-clause-changes : goal.returns-in_err-test_old-clause-changes
returns-in_err-test_old-clause-changes g c =
    let p = err_from_is_err_and c.from_residual.result c.from_residual.ensures.1 in
    let x = c.in_err-test_old.field-0.0 in
    left_of g.M.Metadata.changed c.args.self.now.metadata c.test_old.new.self.metadata (Delete c.args.id) c.from_residual.result
    (changed_read g.M.Metadata.changed c.args.self.now.metadata c.test_old.new.self.metadata (Delete c.args.id) c.from_residual.result x p.0 p.1 (sym p.2)
    (old_commits x c.in_err-test_old.ensures.only) (ap (λ (h : Held g.row.M.Denot). h.metadata) c.in_err-test_old.ensures.held))

pub returns-in_err-reclaim_metadata-clause-changes : goal.returns-in_err-reclaim_metadata-clause-changes
returns-in_err-reclaim_metadata-clause-changes g c =
    let p = err_from_is_err_and c.from_residual-in_err-reclaim_metadata.result c.from_residual-in_err-reclaim_metadata.ensures.1 in
    let x = c.in_err-reclaim_metadata.field-0.0 in
    left_of g.M.Metadata.changed c.args.self.now.metadata c.reclaim_metadata.new.metadata (Delete c.args.id) c.from_residual-in_err-reclaim_metadata.result
    (changed_failed g.M.Metadata.changed c.args.self.now.metadata c.reclaim_metadata.new.metadata (Delete c.args.id) c.from_residual-in_err-reclaim_metadata.result x p.0 p.1 (sym p.2) c.in_err-reclaim_metadata.ensures.only)

pub returns-in_err-delete-clause-changes : goal.returns-in_err-delete-clause-changes
returns-in_err-delete-clause-changes g c =
    let p = err_from_is_err_and c.from_residual-in_err-delete.result c.from_residual-in_err-delete.ensures.1 in
    let x = refusal_of c.in_err-delete.field-0.0 in
    left_of g.M.Metadata.changed c.args.self.now.metadata c.delete.new.self (Delete c.args.id) c.from_residual-in_err-delete.result
    (changed_failed g.M.Metadata.changed c.args.self.now.metadata c.delete.new.self (Delete c.args.id) c.from_residual-in_err-delete.result x p.0 p.1 (sym p.2) (refused_so c.in_err-delete.field-0.0))

pub returns-clause-changes : goal.returns-clause-changes
returns-clause-changes g c = record { committed = tt; unchanged = tt }

pub returns-then-lacks_for_removal-clause-called : goal.returns-then-lacks_for_removal-clause-called
returns-then-lacks_for_removal-clause-called g c =
    let met = g.met.M.Metadata in
    let laws : Laws g.M.Metadata.geometry g.M.Metadata.stands g.M.Metadata.marks g.M.Metadata.room =
    record { within = met.within; honest = met.honest; left = met.left; frame = met.frame } in
    let old : Held g.row.M.Denot =
    record {
      disk = g.D.Disk.state c.self-2.inside.disk;
      metadata = c.self-2.inside.metadata;
      holders = c.self-2.inside.holders.items;
      mode = c.self-2.inside.mode;
    } in
    let view : old ≡ c.args.self.now = c.self-2.view_is ∙ c.in_ok-test_old.ensures.held in
    let writes : is_read_only c.args.self.now.mode ≡ false =
    sym (ap (λ (h : Held g.row.M.Denot). is_read_only h.mode) c.self.view_is) ∙ sym c.is_read_only.ensures ∙ c.if-is_read_only.false in
    let tested : IsDeletable g.M.Metadata.stands c.args.id c.args.self.now old =
    deletable g.M.Metadata.stands c.args.id c.args.self.now old view c.requires.works writes (search rules) c.in_ok-test_old.ensures.told in
    begun_short g.M.Metadata.geometry g.M.Metadata.stands g.M.Metadata.marks g.M.Metadata.room g.M.Metadata.changed c.test_old.new.self c.args.self.now c.refuse_for_room.new.self (Delete c.args.id) c.refuse_for_room.result c.refuse_for_room.ensures.ends
    (removal_refused laws c.args.id c.args.self.now old tested c.lacks_for_removal.result c.lacks_for_removal.ensures c.refuse_for_room.new.self c.refuse_for_room.result c.if-lacks_for_removal.true
    (subst (λ (h : Held g.row.M.Denot). (any : Call) → LacksRoom g.M.Metadata.geometry g.M.Metadata.stands h any → PoolTried g.M.Metadata.geometry g.M.Metadata.stands h c.refuse_for_room.new.self any c.refuse_for_room.result)
    (sym c.self-2.view_is) c.refuse_for_room.ensures.called))

pub returns-then-lacks_for_removal-clause-tried : goal.returns-then-lacks_for_removal-clause-tried
returns-then-lacks_for_removal-clause-tried g c =
    let writes : is_read_only c.args.self.now.mode ≡ false =
    sym (ap (λ (h : Held g.row.M.Denot). is_read_only h.mode) c.self.view_is) ∙ sym c.is_read_only.ensures ∙ c.if-is_read_only.false in
    let works = writable_is c.args.self.now.mode c.requires.works writes in
    let same = c.in_ok-test_old.ensures.held in
    subst (λ (h : Held g.row.M.Denot). IsTried h c.refuse_for_room.new.self (Delete c.args.id) c.refuse_for_room.result) same
    (delete_short c.test_old.new.self c.refuse_for_room.new.self c.args.id (ap (λ (h : Held g.row.M.Denot). h.mode) same ∙ works) c.refuse_for_room.result c.refuse_for_room.ensures.ends)

pub returns-then-lacks_for_removal-clause-flushes : goal.returns-then-lacks_for_removal-clause-flushes
returns-then-lacks_for_removal-clause-flushes g c =
    let met = g.met.M.Metadata in
    let laws : Laws g.M.Metadata.geometry g.M.Metadata.stands g.M.Metadata.marks g.M.Metadata.room =
    record { within = met.within; honest = met.honest; left = met.left; frame = met.frame } in
    let old : Held g.row.M.Denot =
    record {
      disk = g.D.Disk.state c.self-2.inside.disk;
      metadata = c.self-2.inside.metadata;
      holders = c.self-2.inside.holders.items;
      mode = c.self-2.inside.mode;
    } in
    let view : old ≡ c.args.self.now = c.self-2.view_is ∙ c.in_ok-test_old.ensures.held in
    let writes : is_read_only c.args.self.now.mode ≡ false =
    sym (ap (λ (h : Held g.row.M.Denot). is_read_only h.mode) c.self.view_is) ∙ sym c.is_read_only.ensures ∙ c.if-is_read_only.false in
    let tested : IsDeletable g.M.Metadata.stands c.args.id c.args.self.now old =
    deletable g.M.Metadata.stands c.args.id c.args.self.now old view c.requires.works writes (search rules) c.in_ok-test_old.ensures.told in
    removal_flushed_short laws c.args.id c.args.self.now old tested c.lacks_for_removal.result c.lacks_for_removal.ensures c.refuse_for_room.new.self.disk c.if-lacks_for_removal.true
    (subst (λ (h : Held g.row.M.Denot). (h.disk.flushes ≤ c.refuse_for_room.new.self.disk.flushes) × (c.refuse_for_room.new.self.disk.flushes ≤ h.disk.flushes + 2))
    (sym c.self-2.view_is) c.refuse_for_room.ensures.flushes)

pub returns-then-lacks_for_removal-clause-changes : goal.returns-then-lacks_for_removal-clause-changes
returns-then-lacks_for_removal-clause-changes g c =
    left_of g.M.Metadata.changed c.args.self.now.metadata c.refuse_for_room.new.self.metadata (Delete c.args.id) c.refuse_for_room.result
    (changed_short g.M.Metadata.changed (Delete c.args.id) c.test_old.new.self
    c.refuse_for_room.new.self c.args.self.now.metadata c.refuse_for_room.result c.refuse_for_room.ensures.ends c.refuse_for_room.ensures.unchanged)
