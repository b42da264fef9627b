use Rattle.std.proofs.Common.{◌≡◌, ◌∷◌, ◌∙◌, [], Some, ap, arith, length, refl, subst, sym, true≢false}
use Rattle.tp_model.specs.declared.refusal.Refusal.TheVariants.{SessionInUse}
use Rattle.tp_hub.specs.Told.{Refuses}
use Rattle.tp_hub.specs.Places.{HearsAnywhere}
use Rattle.tp_hub.proofs.Hearing.{hears_part, hears_room, keeps_more, keeps_none}
use Rattle.tp_hub.proofs.Taking.{brings_all, brings_to_busy, no_bytes, no_text_is_free, some_bytes, work_is_busy}
use Rattle.tp_hub.proofs.Turning.{grows_behind}
use Rattle.tp_hub.proofs.slot.go_on.Goals as goal

pub returns-then-not-is_empty-clause-takes : goal.returns-then-not-is_empty-clause-takes
returns-then-not-is_empty-clause-takes g c =
    brings_to_busy g.V.Volumes.view c.args.number (Some c.args.session.now) c.args.session.now c.args.piece.now c.args.pool.now c.args.out.now c.note.new.self refl c.requires.open
    (work_is_busy c.args.session.now.phase c.args.piece.now c.requires.work (some_bytes c.args.piece.now (sym c.is_empty.ensures ∙ c.if-not-is_empty.true)))
    (grows_behind c.args.out.now c.make_room.new.self c.note.new.self (Refuses SessionInUse ∷ []) c.make_room.ensures.list c.make_room.ensures.room c.make_room.ensures.marks c.note.ensures)

pub returns-clause-takes : goal.returns-clause-takes
returns-clause-takes g c =
    let view = g.V.Volumes.view in
    let s = c.args.session.now in
    let none = no_bytes c.args.piece.now (sym c.is_empty.ensures ∙ c.if-not-is_empty.false) in
    let hears = hears_room view c.args.number s c.work_off.new.session c.args.pool.now c.work_off.new.pool [] c.args.out.now c.make_room.new.self c.work_off.new.out c.make_room.ensures.list c.make_room.ensures.room c.make_room.ensures.marks c.work_off.ensures.hears in
    brings_all view c.args.number (Some s) s c.work_off.new.session c.args.piece.now c.args.pool.now c.work_off.new.pool c.args.out.now c.work_off.new.out refl c.requires.open (no_text_is_free s.phase c.args.piece.now none)
    (subst (λ t. HearsAnywhere view c.args.number s c.args.pool.now t c.args.out.now c.work_off.new.out c.work_off.new.session c.work_off.new.pool) (sym none) hears) c.work_off.ensures.keeps

pub returns-then-is_parted-clause-takes : goal.returns-then-is_parted-clause-takes
returns-then-is_parted-clause-takes g c =
    let view = g.V.Volumes.view in
    let s = c.args.session.now in
    let new = c.hear.new.session in
    let e = c.hear.ensures in
    let none = no_bytes c.args.piece.now (sym c.is_empty.ensures ∙ c.if-not-is_empty.false) in
    let goes = e.1.goes_on c.requires.work in
    let hears = hears_room view c.args.number s new c.args.pool.now c.hear.new.pool [] c.args.out.now c.make_room.new.self c.hear.new.self c.make_room.ensures.list c.make_room.ensures.room c.make_room.ensures.marks
    (hears_part view c.args.number s new c.args.pool.now c.hear.new.pool c.args.piece.now e.0 c.hear.result.taken c.hear.result.ended c.make_room.new.self c.hear.new.self c.requires.work c.requires.open none e.1 e.2) in
    brings_all view c.args.number (Some s) s new c.args.piece.now c.args.pool.now c.hear.new.pool c.args.out.now c.hear.new.self refl c.requires.open (no_text_is_free s.phase c.args.piece.now none)
    (subst (λ t. HearsAnywhere view c.args.number s c.args.pool.now t c.args.out.now c.hear.new.self new c.hear.new.pool) (sym none) hears)
    (keeps_more view c.args.number s s new c.args.pool.now c.args.pool.now c.hear.new.pool c.args.piece.now e.0 c.hear.result.taken c.hear.result.ended (keeps_none view c.args.number (Some s) c.args.pool.now) e.1 goes)

pub returns-then-not-is_empty-clause-made : goal.returns-then-not-is_empty-clause-made
returns-then-not-is_empty-clause-made g c whole none = let some = some_bytes c.args.piece.now (sym c.is_empty.ensures ∙ c.if-not-is_empty.true) in let len : length c.args.piece.now ≡ 0 = ap length none in absurd (omega (arith, some, len))

pub returns-then-is_parted-clause-made : goal.returns-then-is_parted-clause-made
returns-then-is_parted-clause-made g c whole none is = absurd (true≢false (sym c.if-is_parted.true ∙ whole))

pub returns-clause-made : goal.returns-clause-made
returns-clause-made g c whole none is = c.work_off.ensures.idle
