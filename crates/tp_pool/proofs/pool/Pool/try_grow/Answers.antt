use Rattle.std.proofs.Common.{rules, ap, refl, subst, sym, ◌≡◌, ◌∙◌, ◌+◌, ◌≤◌, false, true, Err, Ok}
use Rattle.std.specs.Prelude.{Result}
use Rattle.std.proofs.lemmas.Result.{err_from_is_err_and}
use Rattle.tp_model.specs.declared.refusal.Refusal.{Refusal}
use Rattle.tp_model.specs.declared.refusal.Refusal.TheVariants.{ReadOnly}
use Rattle.tp_counts.specs.StoreErrors.{refusal_of}
use Rattle.tp_counts.proofs.Refusing.{damaged_so, refused_so}
use Rattle.tp_model.specs.Calls.{Call, Grow, is_read_only}
use Rattle.tp_pool.specs.Held.{Held, LacksRoom, PoolRefused, PoolTried, failed_by}
use Rattle.tp_pool.proofs.Calling.{Laws}
use Rattle.tp_pool.proofs.Growing.{IsGrowable, enlarge_ran, grown_commits, grow_before, grow_failed, grow_flushed_short, grow_read_only_called, grow_reclaimed, grow_refused, grow_tested, grow_unkept, grow_unreclaimed, growable}
use Rattle.tp_pool.proofs.Serving.{exit_is}
use Rattle.tp_pool.specs.Unkept.{PoolBegun}
use Rattle.tp_pool.proofs.Answering.{tried_writable}
use Rattle.tp_pool.proofs.Begun.{begun_short, left_of}
use Rattle.tp_pool.proofs.Flushing.{changed_failed, changed_nothing, changed_read, changed_short}
use Rattle.tp_pool.proofs.Putting.{writable_is}
use Rattle.tp_pool.proofs.pool.Pool.try_grow.Goals as goal

pub returns-then-is_read_only-clause-called : goal.returns-then-is_read_only-clause-called
returns-then-is_read_only-clause-called g c =
    let M = g.M.Metadata in
    let met = g.met.M.Metadata in
    let laws : Laws M.geometry M.stands M.marks M.room = record { within = met.within; honest = met.honest; left = met.left; frame = met.frame } in
    let reads : is_read_only c.args.self.now.mode ≡ true = sym (ap (λ (h : Held g.row.M.Denot). is_read_only h.mode) c.self.view_is) ∙ sym c.is_read_only.ensures ∙ c.if-is_read_only.true in
    grow_read_only_called laws c.args.id c.args.blocks c.args.self.now c.requires.works reads

pub returns-in_err-present-clause-called : goal.returns-in_err-present-clause-called
returns-in_err-present-clause-called g c =
    let M = g.M.Metadata in
    let met = g.met.M.Metadata in
    let laws : Laws M.geometry M.stands M.marks M.room = record { within = met.within; honest = met.honest; left = met.left; frame = met.frame } in
    let writes : is_read_only c.args.self.now.mode ≡ false = sym (ap (λ (h : Held g.row.M.Denot). is_read_only h.mode) c.self.view_is) ∙ sym c.is_read_only.ensures ∙ c.if-is_read_only.false in
    let id = c.args.id in
    let blocks = c.args.blocks in
    let old = c.args.self.now in
    let told = c.in_err-present.ensures in
    let p = err_from_is_err_and c.from_residual.result c.from_residual.ensures.1 in
    let x = c.in_err-present.field-0.0 in
    exit_is (λ (r : Result (Unit {0}) Refusal). PoolBegun M.geometry M.stands M.marks M.room M.changed old c.test_grown.new.self (Grow id blocks) r) c.from_residual.result x p.0 p.1 (sym p.2)
    (subst (λ (h : Held g.row.M.Denot). PoolRefused M.geometry M.stands old (failed_by x h) (Grow id blocks) x) (sym told.held)
    (grow_tested laws id blocks old x (search rules) c.requires.works writes told.told (λ e now kept st. told.damaged (ap (λ (r : Refusal). Err r) e) now kept st) told.only))

pub returns-then-lacks_metadata-clause-called : goal.returns-then-lacks_metadata-clause-called
returns-then-lacks_metadata-clause-called g c =
    let M = g.M.Metadata in
    let met = g.met.M.Metadata in
    let laws : Laws M.geometry M.stands M.marks M.room = record { within = met.within; honest = met.honest; left = met.left; frame = met.frame } in
    let writes : is_read_only c.args.self.now.mode ≡ false = sym (ap (λ (h : Held g.row.M.Denot). is_read_only h.mode) c.self.view_is) ∙ sym c.is_read_only.ensures ∙ c.if-is_read_only.false in
    let id = c.args.id in
    let blocks = c.args.blocks in
    let present = c.in_ok-present.present in
    let sizes = c.in_ok-present.ensures.more in
    let start = c.args.self.now in
    let old : Held g.row.M.Denot =
    record {
      disk = g.D.Disk.state c.self-2.inside.disk;
      metadata = c.self-2.inside.metadata;
      holders = c.self-2.inside.holders.items;
      mode = c.self-2.inside.mode;
    } in
    let ready : IsGrowable M.geometry M.stands id blocks present start old =
    growable M.geometry M.stands id blocks present start old (c.self-2.view_is ∙ c.in_ok-present.ensures.held) c.requires.works writes (search rules) c.in_ok-present.ensures.told in
    begun_short M.geometry M.stands M.marks M.room M.changed c.test_grown.new.self start c.refuse_for_room.new.self (Grow id blocks) c.refuse_for_room.result c.refuse_for_room.ensures.ends
    (grow_refused laws id blocks present sizes.0 sizes.1 start old ready c.lacks_metadata.result c.lacks_metadata.ensures c.refuse_for_room.new.self c.refuse_for_room.result c.if-lacks_metadata.true
    (subst (λ (h : Held g.row.M.Denot). (any : Call) → LacksRoom M.geometry M.stands h any → PoolTried M.geometry M.stands h c.refuse_for_room.new.self any c.refuse_for_room.result)
    (sym c.self-2.view_is) c.refuse_for_room.ensures.called))

pub returns-in_err-reclaim-clause-called : goal.returns-in_err-reclaim-clause-called
returns-in_err-reclaim-clause-called g c =
    let M = g.M.Metadata in
    let met = g.met.M.Metadata in
    let laws : Laws M.geometry M.stands M.marks M.room = record { within = met.within; honest = met.honest; left = met.left; frame = met.frame } in
    let writes : is_read_only c.args.self.now.mode ≡ false = sym (ap (λ (h : Held g.row.M.Denot). is_read_only h.mode) c.self.view_is) ∙ sym c.is_read_only.ensures ∙ c.if-is_read_only.false in
    let id = c.args.id in
    let blocks = c.args.blocks in
    let present = c.in_ok-present.present in
    let sizes = c.in_ok-present.ensures.more in
    let start = c.args.self.now in
    let old : Held g.row.M.Denot =
    record {
      disk = g.D.Disk.state c.self-2.inside.disk;
      metadata = c.self-2.inside.metadata;
      holders = c.self-2.inside.holders.items;
      mode = c.self-2.inside.mode;
    } in
    let ready : IsGrowable M.geometry M.stands id blocks present start old =
    growable M.geometry M.stands id blocks present start old (c.self-2.view_is ∙ c.in_ok-present.ensures.held) c.requires.works writes (search rules) c.in_ok-present.ensures.told in
    let new : Held g.row.M.Denot = record old { disk = g.D.Disk.state c.reclaim.new.disk; metadata = c.reclaim.new.metadata } in
    let p = err_from_is_err_and c.from_residual-in_err-reclaim.result c.from_residual-in_err-reclaim.ensures.1 in
    let x = c.in_err-reclaim.field-0.0 in
    exit_is (λ (r : Result (Unit {0}) Refusal). PoolBegun M.geometry M.stands M.marks M.room M.changed start new (Grow id blocks) r) c.from_residual-in_err-reclaim.result x p.0 p.1 (sym p.2)
    (grow_unreclaimed laws id blocks present sizes.0 sizes.1 start old ready c.lacks_metadata.result c.lacks_metadata.ensures c.if-lacks_metadata.false
    x c.reclaim.new.metadata (g.D.Disk.state c.reclaim.new.disk) c.reclaim.ensures.geometry c.reclaim.ensures.time c.in_err-reclaim.ensures.cause c.reclaim.ensures.left
    (λ is now kept st enough. c.in_err-reclaim.ensures.damaged (ap (λ (r : Refusal). Err r) is) now kept st enough) c.in_err-reclaim.ensures.only)

pub returns-in_err-enlarge-clause-called : goal.returns-in_err-enlarge-clause-called
returns-in_err-enlarge-clause-called g c =
    let M = g.M.Metadata in
    let met = g.met.M.Metadata in
    let laws : Laws M.geometry M.stands M.marks M.room = record { within = met.within; honest = met.honest; left = met.left; frame = met.frame } in
    let writes : is_read_only c.args.self.now.mode ≡ false = sym (ap (λ (h : Held g.row.M.Denot). is_read_only h.mode) c.self.view_is) ∙ sym c.is_read_only.ensures ∙ c.if-is_read_only.false in
    let id = c.args.id in
    let blocks = c.args.blocks in
    let present = c.in_ok-present.present in
    let sizes = c.in_ok-present.ensures.more in
    let start = c.args.self.now in
    let old : Held g.row.M.Denot =
    record {
      disk = g.D.Disk.state c.self-2.inside.disk;
      metadata = c.self-2.inside.metadata;
      holders = c.self-2.inside.holders.items;
      mode = c.self-2.inside.mode;
    } in
    let ready : IsGrowable M.geometry M.stands id blocks present start old =
    growable M.geometry M.stands id blocks present start old (c.self-2.view_is ∙ c.in_ok-present.ensures.held) c.requires.works writes (search rules) c.in_ok-present.ensures.told in
    let new : Held g.row.M.Denot = record old { disk = g.D.Disk.state c.enlarge.new.disk; metadata = c.enlarge.new.metadata } in
    let p = err_from_is_err_and c.from_residual-in_err-enlarge.result c.from_residual-in_err-enlarge.ensures.1 in
    let error = c.in_err-enlarge.field-0.0 in
    let x = refusal_of error in
    exit_is (λ (r : Result (Unit {0}) Refusal). PoolBegun M.geometry M.stands M.marks M.room M.changed start new (Grow id blocks) r) c.from_residual-in_err-enlarge.result x p.0 p.1 (sym p.2)
    (grow_failed laws id blocks present sizes.0 sizes.1 start old ready c.lacks_metadata.result c.lacks_metadata.ensures c.if-lacks_metadata.false
    c.reclaim.new.metadata (g.D.Disk.state c.reclaim.new.disk) c.reclaim.ensures.geometry c.reclaim.ensures.time c.in_ok-reclaim.ensures.cause c.reclaim.ensures.left c.in_ok-reclaim.ensures.done
    c.enlarge.new.metadata (g.D.Disk.state c.enlarge.new.disk) (Err error) c.in_err-enlarge.ensures.same c.in_err-enlarge.ensures.altered
    error x refl refl (damaged_so error) (refused_so error))

pub returns-clause-called : goal.returns-clause-called
returns-clause-called g c =
    let M = g.M.Metadata in
    let met = g.met.M.Metadata in
    let laws : Laws M.geometry M.stands M.marks M.room = record { within = met.within; honest = met.honest; left = met.left; frame = met.frame } in
    let writes : is_read_only c.args.self.now.mode ≡ false = sym (ap (λ (h : Held g.row.M.Denot). is_read_only h.mode) c.self.view_is) ∙ sym c.is_read_only.ensures ∙ c.if-is_read_only.false in
    let id = c.args.id in
    let blocks = c.args.blocks in
    let present = c.in_ok-present.present in
    let sizes = c.in_ok-present.ensures.more in
    let start = c.args.self.now in
    let old : Held g.row.M.Denot =
    record {
      disk = g.D.Disk.state c.self-2.inside.disk;
      metadata = c.self-2.inside.metadata;
      holders = c.self-2.inside.holders.items;
      mode = c.self-2.inside.mode;
    } in
    let ready : IsGrowable M.geometry M.stands id blocks present start old =
    growable M.geometry M.stands id blocks present start old (c.self-2.view_is ∙ c.in_ok-present.ensures.held) c.requires.works writes (search rules) c.in_ok-present.ensures.told in
    let ran = enlarge_ran laws id present blocks sizes.0 sizes.1 c.reclaim.new.metadata (g.D.Disk.state c.reclaim.new.disk) c.enlarge.new.metadata (g.D.Disk.state c.enlarge.new.disk) (Ok tt) c.in_ok-enlarge.ensures.same c.in_ok-enlarge.ensures.altered in
    let counted =
    grow_reclaimed laws id blocks present sizes.0 sizes.1 start old ready c.lacks_metadata.result c.lacks_metadata.ensures c.if-lacks_metadata.false c.reclaim.new.metadata (g.D.Disk.state c.reclaim.new.disk) c.reclaim.ensures.flushes c.reclaim.ensures.idle
    (g.D.Disk.state c.enlarge.new.disk) ran.flushes in
    grow_unkept laws id blocks present sizes.0 sizes.1 start old ready c.lacks_metadata.result c.lacks_metadata.ensures c.if-lacks_metadata.false
    c.reclaim.new.metadata (g.D.Disk.state c.reclaim.new.disk) c.reclaim.ensures.geometry c.reclaim.ensures.time c.in_ok-reclaim.ensures.cause c.reclaim.ensures.left c.in_ok-reclaim.ensures.done
    c.enlarge.new.metadata (g.D.Disk.state c.enlarge.new.disk) (Ok tt) c.in_ok-enlarge.ensures.same c.in_ok-enlarge.ensures.altered
    refl c.in_ok-reclaim.ensures.room c.in_ok-enlarge.ensures.used M.changed counted

pub returns-then-lacks_metadata-clause-flushes : goal.returns-then-lacks_metadata-clause-flushes
returns-then-lacks_metadata-clause-flushes g c =
    let M = g.M.Metadata in
    let met = g.met.M.Metadata in
    let laws : Laws M.geometry M.stands M.marks M.room = record { within = met.within; honest = met.honest; left = met.left; frame = met.frame } in
    let writes : is_read_only c.args.self.now.mode ≡ false = sym (ap (λ (h : Held g.row.M.Denot). is_read_only h.mode) c.self.view_is) ∙ sym c.is_read_only.ensures ∙ c.if-is_read_only.false in
    let id = c.args.id in
    let blocks = c.args.blocks in
    let present = c.in_ok-present.present in
    let sizes = c.in_ok-present.ensures.more in
    let start = c.args.self.now in
    let old : Held g.row.M.Denot =
    record {
      disk = g.D.Disk.state c.self-2.inside.disk;
      metadata = c.self-2.inside.metadata;
      holders = c.self-2.inside.holders.items;
      mode = c.self-2.inside.mode;
    } in
    let ready : IsGrowable M.geometry M.stands id blocks present start old =
    growable M.geometry M.stands id blocks present start old (c.self-2.view_is ∙ c.in_ok-present.ensures.held) c.requires.works writes (search rules) c.in_ok-present.ensures.told in
    grow_flushed_short laws id blocks present sizes.0 sizes.1 start old ready c.lacks_metadata.result c.lacks_metadata.ensures c.refuse_for_room.new.self.disk c.if-lacks_metadata.true
    (subst (λ (h : Held g.row.M.Denot). (h.disk.flushes ≤ c.refuse_for_room.new.self.disk.flushes) × (c.refuse_for_room.new.self.disk.flushes ≤ h.disk.flushes + 2))
    (sym c.self-2.view_is) c.refuse_for_room.ensures.flushes)

pub returns-in_err-reclaim-clause-flushes : goal.returns-in_err-reclaim-clause-flushes
returns-in_err-reclaim-clause-flushes g c =
    let M = g.M.Metadata in
    let met = g.met.M.Metadata in
    let laws : Laws M.geometry M.stands M.marks M.room = record { within = met.within; honest = met.honest; left = met.left; frame = met.frame } in
    let writes : is_read_only c.args.self.now.mode ≡ false = sym (ap (λ (h : Held g.row.M.Denot). is_read_only h.mode) c.self.view_is) ∙ sym c.is_read_only.ensures ∙ c.if-is_read_only.false in
    let id = c.args.id in
    let blocks = c.args.blocks in
    let present = c.in_ok-present.present in
    let sizes = c.in_ok-present.ensures.more in
    let start = c.args.self.now in
    let old : Held g.row.M.Denot =
    record {
      disk = g.D.Disk.state c.self-2.inside.disk;
      metadata = c.self-2.inside.metadata;
      holders = c.self-2.inside.holders.items;
      mode = c.self-2.inside.mode;
    } in
    let ready : IsGrowable M.geometry M.stands id blocks present start old =
    growable M.geometry M.stands id blocks present start old (c.self-2.view_is ∙ c.in_ok-present.ensures.held) c.requires.works writes (search rules) c.in_ok-present.ensures.told in
    grow_before laws id blocks present sizes.0 sizes.1 start old ready c.lacks_metadata.result c.lacks_metadata.ensures c.if-lacks_metadata.false c.reclaim.new.metadata (g.D.Disk.state c.reclaim.new.disk) c.reclaim.ensures.flushes c.reclaim.ensures.idle
    (g.D.Disk.state c.reclaim.new.disk) refl

pub returns-in_err-enlarge-clause-flushes : goal.returns-in_err-enlarge-clause-flushes
returns-in_err-enlarge-clause-flushes g c =
    let M = g.M.Metadata in
    let met = g.met.M.Metadata in
    let laws : Laws M.geometry M.stands M.marks M.room = record { within = met.within; honest = met.honest; left = met.left; frame = met.frame } in
    let writes : is_read_only c.args.self.now.mode ≡ false = sym (ap (λ (h : Held g.row.M.Denot). is_read_only h.mode) c.self.view_is) ∙ sym c.is_read_only.ensures ∙ c.if-is_read_only.false in
    let id = c.args.id in
    let blocks = c.args.blocks in
    let present = c.in_ok-present.present in
    let sizes = c.in_ok-present.ensures.more in
    let start = c.args.self.now in
    let old : Held g.row.M.Denot =
    record {
      disk = g.D.Disk.state c.self-2.inside.disk;
      metadata = c.self-2.inside.metadata;
      holders = c.self-2.inside.holders.items;
      mode = c.self-2.inside.mode;
    } in
    let ready : IsGrowable M.geometry M.stands id blocks present start old =
    growable M.geometry M.stands id blocks present start old (c.self-2.view_is ∙ c.in_ok-present.ensures.held) c.requires.works writes (search rules) c.in_ok-present.ensures.told in
    let ran = enlarge_ran laws id present blocks sizes.0 sizes.1 c.reclaim.new.metadata (g.D.Disk.state c.reclaim.new.disk) c.enlarge.new.metadata (g.D.Disk.state c.enlarge.new.disk) (Err c.in_err-enlarge.field-0.0) c.in_err-enlarge.ensures.same c.in_err-enlarge.ensures.altered in
    grow_before laws id blocks present sizes.0 sizes.1 start old ready c.lacks_metadata.result c.lacks_metadata.ensures c.if-lacks_metadata.false c.reclaim.new.metadata (g.D.Disk.state c.reclaim.new.disk) c.reclaim.ensures.flushes c.reclaim.ensures.idle
    (g.D.Disk.state c.enlarge.new.disk) ran.flushes

pub returns-clause-flushes : goal.returns-clause-flushes
returns-clause-flushes g c =
    let M = g.M.Metadata in
    let met = g.met.M.Metadata in
    let laws : Laws M.geometry M.stands M.marks M.room = record { within = met.within; honest = met.honest; left = met.left; frame = met.frame } in
    let writes : is_read_only c.args.self.now.mode ≡ false = sym (ap (λ (h : Held g.row.M.Denot). is_read_only h.mode) c.self.view_is) ∙ sym c.is_read_only.ensures ∙ c.if-is_read_only.false in
    let id = c.args.id in
    let blocks = c.args.blocks in
    let present = c.in_ok-present.present in
    let sizes = c.in_ok-present.ensures.more in
    let start = c.args.self.now in
    let old : Held g.row.M.Denot =
    record {
      disk = g.D.Disk.state c.self-2.inside.disk;
      metadata = c.self-2.inside.metadata;
      holders = c.self-2.inside.holders.items;
      mode = c.self-2.inside.mode;
    } in
    let ready : IsGrowable M.geometry M.stands id blocks present start old =
    growable M.geometry M.stands id blocks present start old (c.self-2.view_is ∙ c.in_ok-present.ensures.held) c.requires.works writes (search rules) c.in_ok-present.ensures.told in
    let ran = enlarge_ran laws id present blocks sizes.0 sizes.1 c.reclaim.new.metadata (g.D.Disk.state c.reclaim.new.disk) c.enlarge.new.metadata (g.D.Disk.state c.enlarge.new.disk) (Ok tt) c.in_ok-enlarge.ensures.same c.in_ok-enlarge.ensures.altered in
    grow_before laws id blocks present sizes.0 sizes.1 start old ready c.lacks_metadata.result c.lacks_metadata.ensures c.if-lacks_metadata.false c.reclaim.new.metadata (g.D.Disk.state c.reclaim.new.disk) c.reclaim.ensures.flushes c.reclaim.ensures.idle
    (g.D.Disk.state c.enlarge.new.disk) ran.flushes

pub returns-clause-tried : goal.returns-clause-tried
returns-clause-tried g c =
    let writes : is_read_only c.args.self.now.mode ≡ false = sym (ap (λ (h : Held g.row.M.Denot). is_read_only h.mode) c.self.view_is) ∙ sym c.is_read_only.ensures ∙ c.if-is_read_only.false in
    let works = writable_is c.args.self.now.mode c.requires.works writes in
    let new : Held g.row.M.Denot = record { disk = g.D.Disk.state c.enlarge.new.disk; metadata = c.enlarge.new.metadata; holders = c.self-2.inside.holders.items; mode = c.self-2.inside.mode } in
    tried_writable c.args.self.now new (Grow c.args.id c.args.blocks) (Ok tt) c.args.self.now.mode refl works (ap (λ (h : Held g.row.M.Denot). h.mode) (c.self-2.view_is ∙ c.in_ok-present.ensures.held)) refl tt

pub returns-then-is_read_only-clause-changes : goal.returns-then-is_read_only-clause-changes
returns-then-is_read_only-clause-changes g c =
    left_of g.M.Metadata.changed c.args.self.now.metadata c.args.self.now.metadata (Grow c.args.id c.args.blocks) (Err ReadOnly)
    (changed_nothing g.M.Metadata.changed c.args.self.now.metadata c.args.self.now.metadata (Grow c.args.id c.args.blocks) ReadOnly refl refl)

pub returns-in_err-present-clause-changes : goal.returns-in_err-present-clause-changes
returns-in_err-present-clause-changes g c =
    let p = err_from_is_err_and c.from_residual.result c.from_residual.ensures.1 in
    let x = c.in_err-present.field-0.0 in
    left_of g.M.Metadata.changed c.args.self.now.metadata c.test_grown.new.self.metadata (Grow c.args.id c.args.blocks) c.from_residual.result
    (changed_read g.M.Metadata.changed c.args.self.now.metadata c.test_grown.new.self.metadata (Grow c.args.id c.args.blocks) c.from_residual.result x p.0 p.1 (sym p.2)
    (grown_commits x c.in_err-present.ensures.only) (ap (λ (h : Held g.row.M.Denot). h.metadata) c.in_err-present.ensures.held))

pub returns-then-lacks_metadata-clause-changes : goal.returns-then-lacks_metadata-clause-changes
returns-then-lacks_metadata-clause-changes g c =
    left_of g.M.Metadata.changed c.args.self.now.metadata c.refuse_for_room.new.self.metadata (Grow c.args.id c.args.blocks) c.refuse_for_room.result
    (changed_short g.M.Metadata.changed (Grow c.args.id c.args.blocks) c.test_grown.new.self
    c.refuse_for_room.new.self c.args.self.now.metadata c.refuse_for_room.result c.refuse_for_room.ensures.ends c.refuse_for_room.ensures.unchanged)

pub returns-in_err-reclaim-clause-changes : goal.returns-in_err-reclaim-clause-changes
returns-in_err-reclaim-clause-changes g c =
    let p = err_from_is_err_and c.from_residual-in_err-reclaim.result c.from_residual-in_err-reclaim.ensures.1 in
    left_of g.M.Metadata.changed c.args.self.now.metadata c.reclaim.new.metadata (Grow c.args.id c.args.blocks) c.from_residual-in_err-reclaim.result
    (changed_failed g.M.Metadata.changed c.args.self.now.metadata c.reclaim.new.metadata (Grow c.args.id c.args.blocks) c.from_residual-in_err-reclaim.result c.in_err-reclaim.field-0.0 p.0 p.1 (sym p.2) c.in_err-reclaim.ensures.only)

pub returns-in_err-enlarge-clause-changes : goal.returns-in_err-enlarge-clause-changes
returns-in_err-enlarge-clause-changes g c =
    let p = err_from_is_err_and c.from_residual-in_err-enlarge.result c.from_residual-in_err-enlarge.ensures.1 in
    let error = c.in_err-enlarge.field-0.0 in
    left_of g.M.Metadata.changed c.args.self.now.metadata c.enlarge.new.metadata (Grow c.args.id c.args.blocks) c.from_residual-in_err-enlarge.result
    (changed_failed g.M.Metadata.changed c.args.self.now.metadata c.enlarge.new.metadata (Grow c.args.id c.args.blocks) c.from_residual-in_err-enlarge.result (refusal_of error) p.0 p.1 (sym p.2) (refused_so error))

pub returns-clause-changes : goal.returns-clause-changes
returns-clause-changes g c = record { committed = tt; unchanged = tt }
