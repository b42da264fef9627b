use Rattle.std.proofs.Common.{rules, ◌≡◌, ℕ, ◌+◌, ◌-◌, ◌^◌, ◌<◌, false, not, Err, List, [], ◌∷◌, refl, sym, ap, subst, ◌∙◌}
use Rattle.std.specs.Prelude.{MatchResult, Result, nat_le, if◌then◌else◌}
use Rattle.std.proofs.lemmas.Result.{err_from_is_err_and}
use Rattle.tp_model.specs.declared.refusal.Refusal.{Refusal}
use Rattle.tp_model.specs.declared.refusal.Refusal.TheVariants.{Failed, NoSuchDevice}
use Rattle.tp_model.specs.Pool.{hold_count}
use Rattle.tp_model.specs.Calls.{Refused, Sized, VolumeBlocks, exists, first_failed, is_failed}
use Rattle.tp_counts.specs.declared.error.StoreError.{StoreError}
use Rattle.tp_counts.specs.StoreErrors.{refusal_of}
use Rattle.tp_counts.proofs.Refusing.{damaged_so, refused_so}
use Rattle.tp_holders.specs.Holders.{Holding, blocks_held, holds_of}
use Rattle.tp_pool.specs.Held.{Held, PoolCalled, PoolRefused, blocks_of_held}
use Rattle.tp_pool.proofs.Calling.{Laws, called_failed}
use Rattle.tp_pool.proofs.Serving.{exit_is, no_device, no_size, none_there, read_refused}
use Rattle.tp_pool.proofs.Sizes.{size_by, size_of_held}
use Rattle.tp_pool.proofs.pool.Pool.volume_blocks.Goals as goal

pub returns-then-is_failed-clause-called : goal.returns-then-is_failed-clause-called
returns-then-is_failed-clause-called g c =
    let met = g.met.M.Metadata in
    let laws : Laws g.M.Metadata.geometry g.M.Metadata.stands g.M.Metadata.marks g.M.Metadata.room = record { within = met.within; honest = met.honest; left = met.left; frame = met.frame } in
    called_failed laws c.args.self.now (VolumeBlocks c.args.id) (sym (ap (λ (h : Held g.row.M.Denot). is_failed h.mode) c.self.view_is) ∙ sym c.is_failed.ensures ∙ c.if-is_failed.true)
    (λ s failed. (λ i. first_failed ((failed i, Failed) ∷ (not (exists s c.args.id), NoSuchDevice) ∷ []))) refl

pub returns-in-Some-clause-called : goal.returns-in-Some-clause-called
returns-in-Some-clause-called g c =
    let M = g.M.Metadata in
    let met = g.met.M.Metadata in
    let laws : Laws M.geometry M.stands M.marks M.room = record { within = met.within; honest = met.honest; left = met.left; frame = met.frame } in
    let was : Held g.row.M.Denot = record { disk = g.D.Disk.state c.self.inside.disk; metadata = c.self.inside.metadata; holders = c.self.inside.holders.items; mode = c.self.inside.mode } in
    let works : is_failed was.mode ≡ false = sym c.is_failed.ensures ∙ c.if-is_failed.false in
    let held : 0 < hold_count (holds_of was.holders) c.args.id = subst (λ (l : List Holding). 0 < hold_count (holds_of l) c.args.id) c.deref.ensures.0 c.in-Some.ensures.0 in
    let sizes : c.geometry.result ≡ M.geometry was.metadata = c.geometry.ensures in
    let blocks : c.in-Some.blocks ≡ blocks_held was.holders c.args.id = c.in-Some.ensures.1 ∙ ap (λ (l : List Holding). blocks_held l c.args.id) c.deref.ensures.0 in
    let is : c.blocks_known.result ≡ blocks_of_held (M.geometry was.metadata) was.holders c.args.id =
    c.blocks_known.ensures.value ∙ (λ i. (sizes i).virtual_blocks + ((if nat_le (blocks i) (2 ^ 24) then blocks i else 2 ^ 24) - (sizes i).virtual_blocks)) in
    subst (λ (h : Held g.row.M.Denot). PoolCalled M.geometry M.stands h h (VolumeBlocks c.args.id) (Sized c.blocks_known.result)) c.self.view_is
    (subst (λ n. PoolCalled M.geometry M.stands was was (VolumeBlocks c.args.id) (Sized n)) (sym is) (size_of_held laws was c.args.id works held))

pub returns-in_err-blocks-clause-called : goal.returns-in_err-blocks-clause-called
returns-in_err-blocks-clause-called g c =
    let M = g.M.Metadata in
    let met = g.met.M.Metadata in
    let laws : Laws M.geometry M.stands M.marks M.room = record { within = met.within; honest = met.honest; left = met.left; frame = met.frame } in
    let works : is_failed c.args.self.now.mode ≡ false = sym (ap (λ (h : Held g.row.M.Denot). is_failed h.mode) c.self.view_is) ∙ sym c.is_failed.ensures ∙ c.if-is_failed.false in
    let p = err_from_is_err_and c.from_residual.result c.from_residual.ensures.1 in
    let x = refusal_of c.in_err-blocks.field-0.0 in
    let old = c.args.self.now in
    exit_is (λ (r : Result ℕ Refusal). MatchResult r (λ blocks. PoolCalled M.geometry M.stands old c.size.new.self (VolumeBlocks c.args.id) (Sized blocks)) (λ reason. PoolRefused M.geometry M.stands old c.size.new.self (VolumeBlocks c.args.id) reason))
    c.from_residual.result x p.0 p.1 (sym p.2)
    (subst (λ (h : Held g.row.M.Denot). PoolRefused M.geometry M.stands old h (VolumeBlocks c.args.id) x) (sym c.in_err-blocks.ensures.held)
    (read_refused laws old (VolumeBlocks c.args.id) x works refl refl (refused_so c.in_err-blocks.field-0.0) (λ e now kept st. c.in_err-blocks.ensures.damaged (ap (λ (r : StoreError). Err r) (damaged_so c.in_err-blocks.field-0.0 e)) now kept st)))

pub returns-in_default-2-clause-called : goal.returns-in_default-2-clause-called
returns-in_default-2-clause-called g c =
    let M = g.M.Metadata in
    let met = g.met.M.Metadata in
    let laws : Laws M.geometry M.stands M.marks M.room = record { within = met.within; honest = met.honest; left = met.left; frame = met.frame } in
    let works : is_failed c.args.self.now.mode ≡ false = sym (ap (λ (h : Held g.row.M.Denot). is_failed h.mode) c.self.view_is) ∙ sym c.is_failed.ensures ∙ c.if-is_failed.false in
    let old = c.args.self.now in
    subst (λ (h : Held g.row.M.Denot). PoolCalled M.geometry M.stands old h (VolumeBlocks c.args.id) (Refused NoSuchDevice)) (sym c.in_ok-blocks.ensures.held)
    (none_there laws old (VolumeBlocks c.args.id) c.args.id (search rules) works refl
    (λ now kept st. no_size laws (M.geometry old.metadata) now.volumes c.args.id c.in_ok-blocks.field-0 c.in_default-2.is (c.in_ok-blocks.ensures.told now kept st)) (λ s w e. no_device s c.args.id w e))

pub returns-clause-called : goal.returns-clause-called
returns-clause-called g c =
    let M = g.M.Metadata in
    let met = g.met.M.Metadata in
    let laws : Laws M.geometry M.stands M.marks M.room = record { within = met.within; honest = met.honest; left = met.left; frame = met.frame } in
    let works : is_failed c.args.self.now.mode ≡ false = sym (ap (λ (h : Held g.row.M.Denot). is_failed h.mode) c.self.view_is) ∙ sym c.is_failed.ensures ∙ c.if-is_failed.false in
    let old = c.args.self.now in
    subst (λ (h : Held g.row.M.Denot). PoolCalled M.geometry M.stands old h (VolumeBlocks c.args.id) (Sized c.in-Some-2.blocks)) (sym c.in_ok-blocks.ensures.held)
    (size_by laws old c.args.id c.in-Some-2.blocks (search rules) works (λ now kept st. sym c.in-Some-2.is ∙ c.in_ok-blocks.ensures.told now kept st))
