use Rattle.std.proofs.Common.{true≢false, sym, ◌∙◌, ap}
use Rattle.std.specs.Prelude.{is_ok, ◌%◌}
use Rattle.tp_model.specs.Disk.{seen}
use Rattle.tp_layout.specs.declared.superblock.Superblock.{Superblock}
use denote.Enum.Bare.{sameb}
use Rattle.tp_model.specs.contracts.refusal.Refusal.{the_type}
use Rattle.tp_model.specs.declared.refusal.Refusal.{Refusal}
use Rattle.tp_model.specs.declared.refusal.Refusal.TheVariants.{Fault}
use Rattle.tp_meta.proofs.Clearing.{err_is, no_refusal, same_superblock}
use Rattle.tp_meta.proofs.formatting.chosen_slot.Goals as goal

pub returns-in-Ok-clause-found : goal.returns-in-Ok-clause-found
returns-in-Ok-clause-found g c last honest was =
    c.slot.ensures ∙ ap (λ (s : Superblock). s.sequence % 2)
    (same_superblock (seen (g.D.Disk.state c.args.disk.now).cells) last c.in-Ok.superblock was (c.in-Ok.ensures.found (λ e. true≢false (ap is_ok e)) honest))

pub returns-else-eq-clause-found : goal.returns-else-eq-clause-found
returns-else-eq-clause-found g c last honest was =
    absurd (no_refusal (seen (g.D.Disk.state c.args.disk.now).cells) last c.in-Err.refusal was (c.in-Err.ensures.found (λ e. true≢false (sym (c.if-eq.ensures ∙ ap (λ (r : Refusal). sameb the_type r Fault) (err_is c.in-Err.refusal Fault e)))) honest))
