use Rattle.std.proofs.Common.{sym, ◌∙◌, arith}
use Rattle.std.proofs.lemmas.Bool.{false≢true}
use Rattle.tp_pool.proofs.Rooms.{a_root, no_root}
use Rattle.tp_pool.proofs.room.lacks_for_removal.Goals as goal

pub returns-then-is_held : goal.returns-then-is_held
returns-then-is_held g c disk now kept st =
    let some = a_root now.held_root (sym (c.holds_root-is_held.ensures disk now kept st) ∙ c.if-is_held.true) in
    let room = c.lacks-is_short.ensures disk now kept st in
    (λ yes. (some, room.0 yes), λ lacks. room.1 lacks.1)

pub returns-else-is_held : goal.returns-else-is_held
returns-else-is_held g c disk now kept st =
    let none = no_root now.held_root (sym (c.holds_root-is_held.ensures disk now kept st) ∙ c.if-is_held.false) in
    (λ yes. absurd (false≢true (sym c.if-is_held.false ∙ yes)), λ lacks. absurd (omega (arith, none, lacks.0)))
