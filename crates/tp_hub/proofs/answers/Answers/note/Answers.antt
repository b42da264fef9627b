use Rattle.std.proofs.Common.{[], ◌∷◌, refl, arith}
use Rattle.tp_hub.proofs.Telling.{adds, has_places, no_bytes, still_fits}
use Rattle.tp_hub.proofs.answers.Answers.note.Goals as goal

pub add-requires : goal.add-requires
add-requires c = let p = has_places c.args.self.now c.self.inside.marks.items c.self.inside.used c.self.inside.bytes.items _ _ 1 c.self.view_is (omega (arith, c.requires.marks)) in omega (arith, p, c.self.inside.marks.ok.0)

pub invariant_of-self : goal.invariant_of-self
invariant_of-self c =
    still_fits c.self.inside.marks.items (c.args.mark ∷ []) _ c.self.inside.used c.self.inside.used c.self.inside.bytes.items c.self.inside.bytes.items _ _ _ c.self.invariant c.add.ensures.items (omega (arith, c.requires.plain)) c.self.invariant.1 c.self.invariant.2 c.self.invariant.4

pub returns : goal.returns
returns c =
    adds c.args.self.now c.self.inside.marks.items (c.args.mark ∷ []) c.add.new.marks.items c.self.inside.used c.self.inside.used c.self.inside.bytes.items c.self.inside.bytes.items [] _ _ _ _ _ c.self.view_is c.self.invariant c.add.ensures.items
    (no_bytes c.self.inside.used c.self.inside.bytes.items) c.add.ensures.capacity refl
