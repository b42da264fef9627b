use Rattle.std.proofs.Common.{◌∙◌, arith, inl}
use Rattle.tp_listings.proofs.Looked.{refusal_on}
use Rattle.std.proofs.lemmas.Result.{err_from_is_err_and}
use Rattle.tp_listings.specs.Refusing.{IsRefusal}
use Rattle.tp_model.specs.Pool.{PlainPool}
use Rattle.tp_model.specs.declared.refusal.Refusal.{Refusal}
use Rattle.tp_listings.proofs.Mapped.{map_ends, map_goes_on}
use Rattle.tp_listings.proofs.maps.list_next.Goals as goal

pub returns-in_default-clause-exact : goal.returns-in_default-clause-exact
returns-in_default-clause-exact g c s shown reads runs =
    map_ends s c.args.volume.now.id c.args.from c.in_ok-slot.field-0 c.first_from.new.self.slots.items c.first_from.new.self.at c.args.extents.now.items c.requires c.in_default.not-Some
    (c.in_ok-slot.ensures.first s c.args.from shown (omega arith) reads) runs

pub returns-clause-exact : goal.returns-clause-exact
returns-clause-exact g c s shown reads runs =
    map_goes_on s c.args.volume.now.id c.args.from c.number-block.result c.in_ok-slot.field-0 c.in-Some.slot c.first_from.new.self.slots.items c.first_from.new.self.at c.args.extents.now.items
    c.push_block.new.extents.items c.in-Some.is (c.number-block.ensures.value ∙ c.block.ensures.value) c.in_ok-push_block.ensures.pushed
    (c.in_ok-slot.ensures.first s c.args.from shown (omega arith) reads) runs

pub returns-in_err-push_block-clause-refused : goal.returns-in_err-push_block-clause-refused
returns-in_err-push_block-clause-refused g c =
    let r = c.from_residual-in_err-push_block in
    let p = err_from_is_err_and r.result r.ensures.1 in
    refusal_on g.V.Volumes.view c.args.pool.now (λ (s : PlainPool) (x : Refusal). IsRefusal s c.args.volume.now.id x) c.in_err-push_block.field-0.0 p.0 r.result p.1 p.2
    (λ s shown. inl c.in_err-push_block.ensures.refused)
