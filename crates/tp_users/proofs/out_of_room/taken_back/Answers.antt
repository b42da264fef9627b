use Rattle.std.proofs.Common.{◌∙◌, ap, sym}
use Rattle.std.proofs.lemmas.Bool.{true≢false}
use Rattle.tp_model.specs.Calls.{is_read_only}
use Rattle.tp_users.proofs.out_of_room.taken_back.Goals as goal

pub returns-then-not-is_read_only-clause-only : goal.returns-then-not-is_read_only-clause-only
returns-then-not-is_read_only-clause-only c =
    λ reads. true≢false (sym (c.is_read_only.ensures ∙ ap is_read_only (c.mode.ensures ∙ reads)) ∙ c.if-not-is_read_only.true)
