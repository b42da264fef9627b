use Rattle.std.proofs.Common.{[], ◌∷◌, ◌+◌, length, refl, arith}
use Rattle.tp_hub.specs.declared.answers.Mark.TheVariants.{Line}
use Rattle.tp_hub.proofs.Telling.{adds, has_bytes, has_places, one_line, still_fits}
use Rattle.tp_hub.proofs.answers.Answers.tell.Goals as goal

pub add-requires : goal.add-requires
add-requires c = let p = has_places c.args.self.now c.self.inside.marks.items c.self.inside.used c.self.inside.bytes.items _ _ 1 c.self.view_is (omega (arith, c.requires.marks)) in omega (arith, p, c.self.inside.marks.ok.0)

pub invariant_of-self : goal.invariant_of-self
invariant_of-self c =
    let b = has_bytes c.args.self.now c.self.inside.marks.items c.self.inside.used c.self.inside.bytes.items _ _ _ _ c.self.view_is c.self.invariant c.requires.bytes in
    still_fits c.self.inside.marks.items (Line (length c.args.line.now) ∷ []) _ c.self.inside.used (c.self.inside.used + length c.args.line.now) c.self.inside.bytes.items c.put_at.new.bytes.items _ _ _ c.self.invariant c.add.ensures.items
    (omega arith) c.put_at.ensures.fits (c.put_at.ensures.most c.self.inside.room c.self.invariant.2 b) (omega (arith, c.put_at.ensures.capacity, c.self.invariant.4))

pub returns : goal.returns
returns c =
    adds c.args.self.now c.self.inside.marks.items (Line (length c.args.line.now) ∷ []) c.add.new.marks.items c.self.inside.used (c.self.inside.used + length c.args.line.now) c.self.inside.bytes.items c.put_at.new.bytes.items c.args.line.now _ _ _ _ _
    c.self.view_is c.self.invariant c.add.ensures.items c.put_at.ensures.bytes c.add.ensures.capacity (one_line c.args.line.now (length c.args.line.now) refl)

pub put_at-requires-clause-room : goal.put_at-requires-clause-room
put_at-requires-clause-room c = let b = has_bytes c.args.self.now c.self.inside.marks.items c.self.inside.used c.self.inside.bytes.items _ _ _ (length c.args.line.now) c.self.view_is c.self.invariant c.requires.bytes in omega (arith, b, c.self.invariant.4)
