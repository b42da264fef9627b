use Rattle.std.proofs.Common.{◌∷◌, [], subst, sym}
use Rattle.std.specs.Prelude.{Result}
use Rattle.tp_model.specs.declared.refusal.Refusal.{Refusal}
use Rattle.tp_hub.specs.Told.{Grows}
use Rattle.tp_hub.specs.Flushes.{flush_told}
use Rattle.tp_hub.proofs.flushed.tell_answer.Goals as goal

pub returns-in-Ok : goal.returns-in-Ok
returns-in-Ok c = subst (λ (r : Result (Unit {0}) Refusal). Grows c.args.out.now c.note.new.self (flush_told r ∷ [])) (sym c.in-Ok.is) c.note.ensures

pub returns-in-Err : goal.returns-in-Err
returns-in-Err c = subst (λ (r : Result (Unit {0}) Refusal). Grows c.args.out.now c.note-in-Err.new.self (flush_told r ∷ [])) (sym c.in-Err.is) c.note-in-Err.ensures
