use Rattle.std.proofs.Common.{refl, None}
use Rattle.std.proofs.lemmas.Result.{err_from_is_err_and}
use Rattle.tp_model.specs.Calls.{Found, NextId, Refused, Sized, VolumeBlocks}
use Rattle.tp_listings.proofs.Following.{next_none, next_still, next_volume}
use Rattle.tp_listings.proofs.Looked.{blocks_still}
use Rattle.tp_listings.proofs.Steps.{call_refused, call_told, handed_on, joined, with_value}
use Rattle.tp_model.specs.declared.refusal.Refusal.{Refusal}
use Rattle.tp_model.specs.Pool.{PlainPool}
use Rattle.tp_listings.specs.Refusing.{IsRefusalOfAll}
use Rattle.tp_listings.proofs.Looked.{refusal_on}
use Rattle.tp_listings.proofs.Looked.{blocks_refusal}
use Rattle.tp_listings.proofs.Following.{next_refusal, there_refusal}
use Rattle.tp_listings.proofs.usage.next_usage.Goals as goal

pub returns-in_err-id-clause-looked : goal.returns-in_err-id-clause-looked
returns-in_err-id-clause-looked g c =
    let p = err_from_is_err_and c.from_residual.result c.from_residual.ensures.1 in
    call_refused g.V.Volumes.view c.args.pool.now c.next_id.new.self (NextId c.new.result) c.in_err-id.field-0.0 p.0 c.from_residual.result p.1 p.2 refl
    (next_still g.V.Volumes.view c.args.pool.now c.next_id.new.self c.new.result (Refused c.in_err-id.field-0.0) c.in_err-id.ensures) c.in_err-id.ensures

pub returns-in_default-clause-looked : goal.returns-in_default-clause-looked
returns-in_default-clause-looked g c =
    call_told g.V.Volumes.view c.args.pool.now c.next_id.new.self (NextId c.new.result) (Found c.in_ok-id.field-0) None refl
    (next_still g.V.Volumes.view c.args.pool.now c.next_id.new.self c.new.result (Found c.in_ok-id.field-0) c.in_ok-id.ensures) c.in_ok-id.ensures

pub returns-in_default-clause-next : goal.returns-in_default-clause-next
returns-in_default-clause-next g c s shown =
    next_none g.V.Volumes.view c.args.pool.now c.next_id.new.self s c.args.from c.new.result c.args.mine c.in_ok-id.field-0 c.args.owners.now c.new.ensures c.in_default.is shown c.in_ok-id.ensures

pub returns-in_err-blocks-clause-looked : goal.returns-in_err-blocks-clause-looked
returns-in_err-blocks-clause-looked g c =
    let p = err_from_is_err_and c.from_residual-in_err-blocks.result c.from_residual-in_err-blocks.ensures.1 in
    joined g.V.Volumes.view c.args.pool.now c.next_id.new.self c.volume_blocks.new.self (tt {0}) c.from_residual-in_err-blocks.result
    (call_told g.V.Volumes.view c.args.pool.now c.next_id.new.self (NextId c.new.result) (Found c.in_ok-id.field-0) (tt {0}) refl
    (next_still g.V.Volumes.view c.args.pool.now c.next_id.new.self c.new.result (Found c.in_ok-id.field-0) c.in_ok-id.ensures) c.in_ok-id.ensures)
    (call_refused g.V.Volumes.view c.next_id.new.self c.volume_blocks.new.self (VolumeBlocks c.in-Some.id) c.in_err-blocks.field-0.0 p.0 c.from_residual-in_err-blocks.result p.1 p.2 refl
    (blocks_still g.V.Volumes.view c.next_id.new.self c.volume_blocks.new.self c.in-Some.id (Refused c.in_err-blocks.field-0.0) c.in_err-blocks.ensures.told) c.in_err-blocks.ensures.told)

pub returns-in_err-mapped-clause-looked : goal.returns-in_err-mapped-clause-looked
returns-in_err-mapped-clause-looked g c =
    let p = err_from_is_err_and c.from_residual-in_err-mapped.result c.from_residual-in_err-mapped.ensures.1 in
    joined g.V.Volumes.view c.args.pool.now c.next_id.new.self c.mark_volume.new.pool (tt {0}) c.from_residual-in_err-mapped.result
    (call_told g.V.Volumes.view c.args.pool.now c.next_id.new.self (NextId c.new.result) (Found c.in_ok-id.field-0) (tt {0}) refl
    (next_still g.V.Volumes.view c.args.pool.now c.next_id.new.self c.new.result (Found c.in_ok-id.field-0) c.in_ok-id.ensures) c.in_ok-id.ensures)
    (joined g.V.Volumes.view c.next_id.new.self c.volume_blocks.new.self c.mark_volume.new.pool (tt {0}) c.from_residual-in_err-mapped.result
    (call_told g.V.Volumes.view c.next_id.new.self c.volume_blocks.new.self (VolumeBlocks c.in-Some.id) (Sized c.in_ok-blocks.blocks) (tt {0}) refl
    (blocks_still g.V.Volumes.view c.next_id.new.self c.volume_blocks.new.self c.in-Some.id (Sized c.in_ok-blocks.blocks) c.in_ok-blocks.ensures.told) c.in_ok-blocks.ensures.told)
    (handed_on g.V.Volumes.view c.volume_blocks.new.self c.mark_volume.new.pool c.in_err-mapped.field-0.0 p.0 c.from_residual-in_err-mapped.result p.1 p.2 c.in_err-mapped.ensures.looked))

pub returns-clause-looked : goal.returns-clause-looked
returns-clause-looked g c =
    joined g.V.Volumes.view c.args.pool.now c.next_id.new.self c.mark_volume.new.pool (tt {0}) _
    (call_told g.V.Volumes.view c.args.pool.now c.next_id.new.self (NextId c.new.result) (Found c.in_ok-id.field-0) (tt {0}) refl
    (next_still g.V.Volumes.view c.args.pool.now c.next_id.new.self c.new.result (Found c.in_ok-id.field-0) c.in_ok-id.ensures) c.in_ok-id.ensures)
    (joined g.V.Volumes.view c.next_id.new.self c.volume_blocks.new.self c.mark_volume.new.pool (tt {0}) _
    (call_told g.V.Volumes.view c.next_id.new.self c.volume_blocks.new.self (VolumeBlocks c.in-Some.id) (Sized c.in_ok-blocks.blocks) (tt {0}) refl
    (blocks_still g.V.Volumes.view c.next_id.new.self c.volume_blocks.new.self c.in-Some.id (Sized c.in_ok-blocks.blocks) c.in_ok-blocks.ensures.told) c.in_ok-blocks.ensures.told)
    (with_value g.V.Volumes.view c.volume_blocks.new.self c.mark_volume.new.pool c.in_ok-mapped.mapped _ c.in_ok-mapped.ensures.looked))

pub returns-clause-next : goal.returns-clause-next
returns-clause-next g c s shown =
    next_volume g.V.Volumes.view c.args.pool.now c.next_id.new.self c.volume_blocks.new.self s c.args.from c.new.result c.in-Some.id c.in_ok-blocks.blocks c.in_ok-mapped.mapped c.args.mine c.number.result c.in_ok-id.field-0
    c.args.owners.now c.mark_volume.new.owners c.new.ensures c.in-Some.is shown c.in_ok-id.ensures c.in_ok-blocks.ensures.told c.in_ok-mapped.ensures.marks c.number.ensures.value

pub returns-in_err-id-clause-refused : goal.returns-in_err-id-clause-refused
returns-in_err-id-clause-refused g c =
    let p = err_from_is_err_and c.from_residual.result c.from_residual.ensures.1 in
    refusal_on g.V.Volumes.view c.args.pool.now (λ (s : PlainPool) (x : Refusal). IsRefusalOfAll s x) c.in_err-id.field-0.0 p.0 c.from_residual.result p.1 p.2
    (next_refusal g.V.Volumes.view c.args.pool.now c.next_id.new.self c.new.result c.in_err-id.field-0.0 c.in_err-id.ensures)

pub returns-in_err-blocks-clause-refused : goal.returns-in_err-blocks-clause-refused
returns-in_err-blocks-clause-refused g c =
    let p = err_from_is_err_and c.from_residual-in_err-blocks.result c.from_residual-in_err-blocks.ensures.1 in
    refusal_on g.V.Volumes.view c.args.pool.now (λ (s : PlainPool) (x : Refusal). IsRefusalOfAll s x) c.in_err-blocks.field-0.0 p.0 c.from_residual-in_err-blocks.result p.1 p.2 (λ s shown.
    let shown_one = next_still g.V.Volumes.view c.args.pool.now c.next_id.new.self c.new.result (Found c.in_ok-id.field-0) c.in_ok-id.ensures s shown in
    there_refusal g.V.Volumes.view c.args.pool.now c.next_id.new.self s c.new.result c.in-Some.id c.in_err-blocks.field-0.0 c.in_ok-id.field-0 c.in-Some.is shown c.in_ok-id.ensures
    (blocks_refusal g.V.Volumes.view c.next_id.new.self c.volume_blocks.new.self c.in-Some.id c.in_err-blocks.field-0.0 c.in_err-blocks.ensures.told s shown_one))

pub returns-in_err-mapped-clause-refused : goal.returns-in_err-mapped-clause-refused
returns-in_err-mapped-clause-refused g c =
    let p = err_from_is_err_and c.from_residual-in_err-mapped.result c.from_residual-in_err-mapped.ensures.1 in
    refusal_on g.V.Volumes.view c.args.pool.now (λ (s : PlainPool) (x : Refusal). IsRefusalOfAll s x) c.in_err-mapped.field-0.0 p.0 c.from_residual-in_err-mapped.result p.1 p.2 (λ s shown.
    let shown_one = next_still g.V.Volumes.view c.args.pool.now c.next_id.new.self c.new.result (Found c.in_ok-id.field-0) c.in_ok-id.ensures s shown in
    let shown_two = blocks_still g.V.Volumes.view c.next_id.new.self c.volume_blocks.new.self c.in-Some.id (Sized c.in_ok-blocks.blocks) c.in_ok-blocks.ensures.told s shown_one in
    there_refusal g.V.Volumes.view c.args.pool.now c.next_id.new.self s c.new.result c.in-Some.id c.in_err-mapped.field-0.0 c.in_ok-id.field-0 c.in-Some.is shown c.in_ok-id.ensures (c.in_err-mapped.ensures.refused s shown_two))
