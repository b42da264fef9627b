use Rattle.std.proofs.Common.{◌≡◌, inl, inr, sym, ◌∙◌}
use Rattle.tp_model.specs.DiskStops.{moment}
use Rattle.tp_commands.proofs.Deeds.{done_on, none_so}
use Rattle.tp_commands.proofs.asking.look_into.Goals as goal

pub count_on-disk-requires : goal.count_on-disk-requires
count_on-disk-requires g c = let out = c.in-Ok.ensures in out.handed_out

pub returns-in-Ok-clause-looks : goal.returns-in-Ok-clause-looks
returns-in-Ok-clause-looks g c = inr (done_on (λ before after. moment after ≡ moment before) c.in-Ok.ensures c.close.ensures c.count_on-disk.ensures)

pub returns-in-Ok-clause-nothing : goal.returns-in-Ok-clause-nothing
returns-in-Ok-clause-nothing g c =
    none_so c.held_of.result (λ empty. inr (done_on _ c.in-Ok.ensures c.close.ensures (c.count_on-disk.ensures, sym c.sectors-sectors.ensures ∙ empty))) c.held_of.ensures

pub returns-in-Err-clause-looks : goal.returns-in-Err-clause-looks
returns-in-Err-clause-looks g c = inl c.in-Err.ensures

pub returns-in-Err-clause-nothing : goal.returns-in-Err-clause-nothing
returns-in-Err-clause-nothing g c = inl c.in-Err.ensures
