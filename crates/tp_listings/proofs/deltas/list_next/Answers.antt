use Rattle.std.proofs.Common.{◌≤◌, ◌∙◌, arith, inl, inr, ◌⊎◌}
use Rattle.std.specs.Prelude.{Ok}
use Rattle.std.proofs.lemmas.Result.{err_from_is_err_and}
use Rattle.tp_listings.specs.Refusing.{IsRefusal}
use Rattle.tp_listings.specs.Seeking.{block_of}
use Rattle.tp_model.specs.Pool.{PlainPool}
use Rattle.tp_model.specs.declared.refusal.Refusal.{Refusal}
use Rattle.tp_listings.proofs.Looked.{both, given_on, gives, lacks_as, refusal_on}
use Rattle.tp_listings.proofs.Differing.{delta_ends, delta_goes_on, no_earlier}
use Rattle.tp_listings.proofs.deltas.list_next.Goals as goal

pub returns-in_err-beside-clause-looks : goal.returns-in_err-beside-clause-looks
returns-in_err-beside-clause-looks g c =
    let p = err_from_is_err_and c.from_residual-in_err-beside.result c.from_residual-in_err-beside.ensures.1 in
    given_on g.V.Volumes.view c.args.pool.now c.first_from.new.pool c.first_from-2.new.pool c.in_ok-slot.slot c.in_err-beside.field-0.0 p.0 c.from_residual-in_err-beside.result p.1 p.2 c.in_ok-slot.ensures.looks
    c.in_err-beside.ensures.looks

pub returns-then-block-blocks-clause-looks : goal.returns-then-block-blocks-clause-looks
returns-then-block-blocks-clause-looks g c =
    gives g.V.Volumes.view c.args.pool.now c.first_from-2.new.pool c.in_ok-beside.beside _
    (both g.V.Volumes.view c.args.pool.now c.first_from.new.pool c.first_from-2.new.pool c.in_ok-slot.slot (Ok c.in_ok-beside.beside) c.in_ok-slot.ensures.looks c.in_ok-beside.ensures.looks)

pub returns-then-block-blocks-clause-exact : goal.returns-then-block-blocks-clause-exact
returns-then-block-blocks-clause-exact g c s shown mine yours runs =
    let block = c.min-block.result in
    let least = c.min-block.ensures in
    let here = c.block_of.ensures in
    let there = c.block_of-2.ensures in
    let l : block ≤ block_of c.in_ok-slot.slot = omega (arith, least, here) in
    let m : block ≤ block_of c.in_ok-beside.beside = omega (arith, least, there) in
    delta_ends s c.args.one.now.id c.args.other.now.id c.args.from c.args.blocks block c.in_ok-slot.slot c.in_ok-beside.beside c.first_from.new.self.slots.items c.first_from-2.new.self.slots.items
    c.first_from.new.self.at c.first_from-2.new.self.at c.args.extents.now.items c.requires.from (omega (arith, c.if-block-blocks.true)) l m
    (c.in_ok-slot.ensures.first s c.args.from shown (omega arith) mine) (c.in_ok-beside.ensures.first s c.args.from (c.first_from.ensures.still s shown) (omega arith) yours) runs

pub returns-in_err-push_wanted-clause-looks : goal.returns-in_err-push_wanted-clause-looks
returns-in_err-push_wanted-clause-looks g c =
    let p = err_from_is_err_and c.from_residual-in_err-push_wanted.result c.from_residual-in_err-push_wanted.ensures.1 in
    lacks_as g.V.Volumes.view c.args.pool.now c.first_from-2.new.pool c.in_ok-beside.beside p.0 c.from_residual-in_err-push_wanted.result p.1 (p.2 ∙ c.in_err-push_wanted.ensures.refused)
    (both g.V.Volumes.view c.args.pool.now c.first_from.new.pool c.first_from-2.new.pool c.in_ok-slot.slot (Ok c.in_ok-beside.beside) c.in_ok-slot.ensures.looks c.in_ok-beside.ensures.looks)

pub returns-clause-looks : goal.returns-clause-looks
returns-clause-looks g c =
    gives g.V.Volumes.view c.args.pool.now c.first_from-2.new.pool c.in_ok-beside.beside _
    (both g.V.Volumes.view c.args.pool.now c.first_from.new.pool c.first_from-2.new.pool c.in_ok-slot.slot (Ok c.in_ok-beside.beside) c.in_ok-slot.ensures.looks c.in_ok-beside.ensures.looks)

pub returns-clause-exact : goal.returns-clause-exact
returns-clause-exact g c s shown mine yours runs =
    let block = c.min-block.result in
    let least = c.min-block.ensures in
    let here = c.block_of.ensures in
    let there = c.block_of-2.ensures in
    let l : block ≤ block_of c.in_ok-slot.slot = omega (arith, least, here) in
    let m : block ≤ block_of c.in_ok-beside.beside = omega (arith, least, there) in
    let few = c.requires.from in
    let most = c.requires.most in
    let a : c.args.from ≤ block_of c.in_ok-slot.slot = no_earlier c.in_ok-slot.slot c.args.from (omega (arith, few, most)) c.in_ok-slot.ensures.later in
    let b : c.args.from ≤ block_of c.in_ok-beside.beside = no_earlier c.in_ok-beside.beside c.args.from (omega (arith, few, most)) c.in_ok-beside.ensures.later in
    delta_goes_on s c.args.one.now.id c.args.other.now.id c.args.from block c.in_ok-slot.slot c.in_ok-beside.beside c.first_from.new.self.slots.items c.first_from-2.new.self.slots.items
    c.first_from.new.self.at c.first_from-2.new.self.at c.args.extents.now.items c.push_wanted.new.extents.items c.differ.result c.place_at.result c.place_at-2.result
    (omega (arith, least, here, there, a, b)) l m c.place_at.ensures c.place_at-2.ensures c.differ.ensures.differ c.differ.ensures.same c.in_ok-push_wanted.ensures.wanted
    c.in_ok-push_wanted.ensures.others (c.in_ok-slot.ensures.first s c.args.from shown (omega arith) mine)
    (c.in_ok-beside.ensures.first s c.args.from (c.first_from.ensures.still s shown) (omega arith) yours) runs

pub returns-in_err-slot-clause-refused : goal.returns-in_err-slot-clause-refused
returns-in_err-slot-clause-refused g c =
    let r = c.from_residual in
    let p = err_from_is_err_and r.result r.ensures.1 in
    refusal_on g.V.Volumes.view c.args.pool.now (λ (s : PlainPool) (x : Refusal). IsRefusal s c.args.one.now.id x ⊎ IsRefusal s c.args.other.now.id x) c.in_err-slot.field-0.0 p.0 r.result p.1 p.2
    (λ s shown. inl (c.in_err-slot.ensures.refused s shown))

pub returns-in_err-beside-clause-refused : goal.returns-in_err-beside-clause-refused
returns-in_err-beside-clause-refused g c =
    let r = c.from_residual-in_err-beside in
    let p = err_from_is_err_and r.result r.ensures.1 in
    refusal_on g.V.Volumes.view c.args.pool.now (λ (s : PlainPool) (x : Refusal). IsRefusal s c.args.one.now.id x ⊎ IsRefusal s c.args.other.now.id x) c.in_err-beside.field-0.0 p.0 r.result p.1 p.2
    (λ s shown. inr (c.in_err-beside.ensures.refused s (c.first_from.ensures.still s shown)))

pub returns-in_err-push_wanted-clause-refused : goal.returns-in_err-push_wanted-clause-refused
returns-in_err-push_wanted-clause-refused g c =
    let r = c.from_residual-in_err-push_wanted in
    let p = err_from_is_err_and r.result r.ensures.1 in
    refusal_on g.V.Volumes.view c.args.pool.now (λ (s : PlainPool) (x : Refusal). IsRefusal s c.args.one.now.id x ⊎ IsRefusal s c.args.other.now.id x) c.in_err-push_wanted.field-0.0 p.0 r.result p.1 p.2
    (λ s shown. inl (inl c.in_err-push_wanted.ensures.refused))
