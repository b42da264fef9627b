use Rattle.std.proofs.Common.{ap, subst, sym, ◌≡◌, ◌∙◌, false, Err, Ok}
use Rattle.std.proofs.lemmas.Bool.{eq-eqb, ne_eqb}
use Rattle.tp_model.specs.declared.mode.Mode.TheVariants.{Writable}
use Rattle.tp_model.specs.declared.refusal.Refusal.TheVariants.{StaleTransactionId}
use Rattle.tp_model.specs.Calls.{Refused, SetTransactionId, is_read_only}
use Rattle.tp_pool.specs.Held.{Held, IsTried, PoolCalled, shows}
use Rattle.tp_pool.proofs.Calling.{Laws}
use Rattle.tp_pool.proofs.Exchanging.{exchange_kept, exchange_read_only, exchange_read_only_called, exchange_refused, exchange_stale, exchange_unkept}
use Rattle.tp_pool.proofs.Flushing.{counted_nothing}
use Rattle.tp_pool.proofs.Idling.{still}
use Rattle.tp_pool.proofs.Putting.{writable_is}
use Rattle.tp_pool.specs.Unkept.{IsUnkept}
use Rattle.tp_pool.proofs.pool.Pool.try_set_transaction_id.Goals as goal

pub returns-then-is_read_only-clause-called : goal.returns-then-is_read_only-clause-called
returns-then-is_read_only-clause-called g c =
    let met = g.met.M.Metadata in
    let laws : Laws g.M.Metadata.geometry g.M.Metadata.stands g.M.Metadata.marks g.M.Metadata.room =
    record { within = met.within; honest = met.honest; left = met.left; frame = met.frame } in
    exchange_read_only_called laws c.args.current c.args.next c.args.self.now c.requires.works
    (sym (ap (λ (h : Held g.row.M.Denot). is_read_only h.mode) c.self.view_is) ∙ sym c.is_read_only.ensures ∙ c.if-is_read_only.true)

pub returns-then-id-current-clause-called : goal.returns-then-id-current-clause-called
returns-then-id-current-clause-called g c =
    let met = g.met.M.Metadata in
    let laws : Laws g.M.Metadata.geometry g.M.Metadata.stands g.M.Metadata.marks g.M.Metadata.room =
    record { within = met.within; honest = met.honest; left = met.left; frame = met.frame } in
    let old : Held g.row.M.Denot =
    record {
      disk = g.D.Disk.state c.self.inside.disk;
      metadata = c.self.inside.metadata;
      holders = c.self.inside.holders.items;
      mode = c.self.inside.mode;
    } in
    let writes : is_read_only c.args.self.now.mode ≡ false =
    sym (ap (λ (h : Held g.row.M.Denot). is_read_only h.mode) c.self.view_is) ∙ sym c.is_read_only.ensures ∙ c.if-is_read_only.false in
    let works : c.args.self.now.mode ≡ Writable = writable_is c.args.self.now.mode c.requires.works writes in
    let works_old : c.self.inside.mode ≡ Writable = ap (λ (h : Held g.row.M.Denot). h.mode) c.self.view_is ∙ works in
    subst (λ (h : Held g.row.M.Denot). PoolCalled g.M.Metadata.geometry g.M.Metadata.stands h h (SetTransactionId c.args.current c.args.next) (Refused StaleTransactionId)) c.self.view_is
    (exchange_stale laws c.args.current c.args.next old works_old (λ now kept st.
    ne_eqb c.args.current now.transaction_id (λ e. c.if-id-current.true (c.transaction_id-id.ensures old.disk now kept st ∙ sym e))))

pub returns-clause-called : goal.returns-clause-called
returns-clause-called g c =
    let met = g.met.M.Metadata in
    let laws : Laws g.M.Metadata.geometry g.M.Metadata.stands g.M.Metadata.marks g.M.Metadata.room =
    record { within = met.within; honest = met.honest; left = met.left; frame = met.frame } in
    let old : Held g.row.M.Denot =
    record {
      disk = g.D.Disk.state c.self.inside.disk;
      metadata = c.self.inside.metadata;
      holders = c.self.inside.holders.items;
      mode = c.self.inside.mode;
    } in
    let writes : is_read_only c.args.self.now.mode ≡ false =
    sym (ap (λ (h : Held g.row.M.Denot). is_read_only h.mode) c.self.view_is) ∙ sym c.is_read_only.ensures ∙ c.if-is_read_only.false in
    let works : c.args.self.now.mode ≡ Writable = writable_is c.args.self.now.mode c.requires.works writes in
    let works_old : c.self.inside.mode ≡ Writable = ap (λ (h : Held g.row.M.Denot). h.mode) c.self.view_is ∙ works in
    let new : Held g.row.M.Denot = record old { metadata = c.set_transaction_id.new.self } in
    subst (λ (h : Held g.row.M.Denot). IsUnkept g.M.Metadata.geometry g.M.Metadata.stands g.M.Metadata.marks g.M.Metadata.room g.M.Metadata.changed h new (SetTransactionId c.args.current c.args.next)) c.self.view_is
    (exchange_unkept laws c.args.current c.args.next old works_old
    (λ now kept st. eq-eqb c.args.current now.transaction_id (sym c.if-id-current.false ∙ c.transaction_id-id.ensures old.disk now kept st))
    c.set_transaction_id.new.self c.set_transaction_id.ensures.geometry c.set_transaction_id.ensures.stands g.M.Metadata.changed)

pub returns-then-is_read_only-clause-tried : goal.returns-then-is_read_only-clause-tried
returns-then-is_read_only-clause-tried g c =
    exchange_read_only c.args.self.now c.args.current c.args.next
    (sym (ap (λ (h : Held g.row.M.Denot). is_read_only h.mode) c.self.view_is) ∙ sym c.is_read_only.ensures ∙ c.if-is_read_only.true)

pub returns-then-id-current-clause-tried : goal.returns-then-id-current-clause-tried
returns-then-id-current-clause-tried g c =
    let old : Held g.row.M.Denot =
    record {
      disk = g.D.Disk.state c.self.inside.disk;
      metadata = c.self.inside.metadata;
      holders = c.self.inside.holders.items;
      mode = c.self.inside.mode;
    } in
    let writes : is_read_only c.args.self.now.mode ≡ false =
    sym (ap (λ (h : Held g.row.M.Denot). is_read_only h.mode) c.self.view_is) ∙ sym c.is_read_only.ensures ∙ c.if-is_read_only.false in
    let works : c.args.self.now.mode ≡ Writable = writable_is c.args.self.now.mode c.requires.works writes in
    let works_old : c.self.inside.mode ≡ Writable = ap (λ (h : Held g.row.M.Denot). h.mode) c.self.view_is ∙ works in
    subst (λ (h : Held g.row.M.Denot). IsTried h h (SetTransactionId c.args.current c.args.next) (Err StaleTransactionId)) c.self.view_is (exchange_refused old c.args.current c.args.next works_old)

pub returns-clause-tried : goal.returns-clause-tried
returns-clause-tried g c =
    let writes : is_read_only c.args.self.now.mode ≡ false =
    sym (ap (λ (h : Held g.row.M.Denot). is_read_only h.mode) c.self.view_is) ∙ sym c.is_read_only.ensures ∙ c.if-is_read_only.false in
    let works : c.args.self.now.mode ≡ Writable = writable_is c.args.self.now.mode c.requires.works writes in
    let works_old : c.self.inside.mode ≡ Writable = ap (λ (h : Held g.row.M.Denot). h.mode) c.self.view_is ∙ works in
    let new : Held g.row.M.Denot = record { disk = g.D.Disk.state c.self.inside.disk; metadata = c.set_transaction_id.new.self; holders = c.self.inside.holders.items; mode = c.self.inside.mode } in
    exchange_kept c.args.self.now new c.args.current c.args.next works (ap (λ (h : Held g.row.M.Denot). h.mode) c.self.view_is) (Ok tt) tt

pub returns-clause-flushes : goal.returns-clause-flushes
returns-clause-flushes g c =
    counted_nothing g.M.Metadata.geometry g.M.Metadata.stands g.M.Metadata.marks g.M.Metadata.room c.args.self.now (g.D.Disk.state c.self.inside.disk) (SetTransactionId c.args.current c.args.next) (ap (λ (h : Held g.row.M.Denot). h.disk.flushes) c.self.view_is)

pub returns-clause-changes : goal.returns-clause-changes
returns-clause-changes g c = record { committed = tt; unchanged = tt }

pub returns-clause-idle : goal.returns-clause-idle
returns-clause-idle g c same unchanged s shown =
    let M = g.M.Metadata in
    let old : Held g.row.M.Denot =
    record {
      disk = g.D.Disk.state c.self.inside.disk;
      metadata = c.self.inside.metadata;
      holders = c.self.inside.holders.items;
      mode = c.self.inside.mode;
    } in
    let writes : is_read_only c.args.self.now.mode ≡ false =
    sym (ap (λ (h : Held g.row.M.Denot). is_read_only h.mode) c.self.view_is) ∙ sym c.is_read_only.ensures ∙ c.if-is_read_only.false in
    let works : c.args.self.now.mode ≡ Writable = writable_is c.args.self.now.mode c.requires.works writes in
    let works_old : c.self.inside.mode ≡ Writable = ap (λ (h : Held g.row.M.Denot). h.mode) c.self.view_is ∙ works in
    let unchanged_then : M.changed c.set_transaction_id.new.self ≡ false =
    still M.geometry M.stands M.changed c.args.current c.args.next old works_old
    (λ now kept st. eq-eqb c.args.current now.transaction_id (sym c.if-id-current.false ∙ c.transaction_id-id.ensures old.disk now kept st))
    same (ap (λ (h : Held g.row.M.Denot). M.changed h.metadata) c.self.view_is ∙ unchanged) c.set_transaction_id.new.self c.set_transaction_id.ensures.changed
    s (subst (λ (h : Held g.row.M.Denot). shows M.geometry M.stands h s) (sym c.self.view_is) shown) in
    (unchanged_then, ap (λ (h : Held g.row.M.Denot). h.disk.flushes) c.self.view_is, works_old)
