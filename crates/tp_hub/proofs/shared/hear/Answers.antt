use Rattle.std.proofs.Common.{false, sym, take, subst, arith, length-drop}
use Rattle.std.proofs.lemmas.List.{take_rest}
use Rattle.tp_hub.specs.Told.{Told}
use Rattle.tp_hub.specs.Places.{HearsAnywhere}
use Rattle.tp_hub.proofs.Hearing.{hears_more, hears_none, hears_wide, left_some}
use Rattle.tp_hub.proofs.shared.hear.Goals as goal

pub loop-look-init : goal.loop-look-init
loop-look-init g c = record { in_range = omega arith; hears = hears_none g.V.Volumes.view c.args.number c.args.session.now (g.S.SharedReads.of c.args.pool.now) c.args.piece.now c.args.out.now }

pub returns-then-is_err-clause-hears : goal.returns-then-is_err-clause-hears
returns-then-is_err-clause-hears g c =
    let s = c.args.session.now in
    let p = g.S.SharedReads.of c.args.pool.now in
    hears_wide g.V.Volumes.view c.args.number s s p p (take c.loop-look.at c.args.piece.now) c.args.out.now c.loop-look.out c.make_room.new.self c.loop-look.invariant.hears c.make_room.ensures.list c.make_room.ensures.room c.make_room.ensures.marks

pub returns-in-None-clause-hears : goal.returns-in-None-clause-hears
returns-in-None-clause-hears g c =
    let view = g.V.Volumes.view in
    let s = c.args.session.now in
    let p = g.S.SharedReads.of c.args.pool.now in
    let text = take c.loop-look.at c.args.piece.now in
    subst (λ (t : Told). HearsAnywhere view c.args.number s p text c.args.out.now t s p) (sym (c.read_shared.ensures.none c.in-None.is))
    (hears_wide view c.args.number s s p p text c.args.out.now c.loop-look.out c.make_room.new.self c.loop-look.invariant.hears c.make_room.ensures.list c.make_room.ensures.room c.make_room.ensures.marks)

pub loop-look-preserved : goal.loop-look-preserved
loop-look-preserved g c =
    let s = c.args.session.now in
    let p = g.S.SharedReads.of c.args.pool.now in
    let piece = c.args.piece.now in
    let e = c.in-Some.ensures.read in
    let rest_is = take_rest piece c.loop-look.at in
    let some = left_some c.loop-look.at piece _ c.if-at-piece.false rest_is in
    record {
      in_range = let l = length-drop c.loop-look.at piece in let m = rw rest_is at e.1.1.inside in let t = c.loop-look.invariant.in_range in omega (arith, l, m, t);
      hears = hears_more g.V.Volumes.view c.args.number s s s p p p piece _ e.0 c.loop-look.at c.in-Some.taken false c.args.out.now c.loop-look.out c.make_room.new.self c.read_shared.new.self
          c.loop-look.invariant.in_range some c.requires.idle rest_is c.requires.open c.loop-look.invariant.hears c.make_room.ensures.list c.make_room.ensures.room c.make_room.ensures.marks e.1.1 e.2;
    }
