use Rattle.std.proofs.Common.{ap, ◌∙◌}
use Rattle.std.specs.List.{flat_map}
use Rattle.std.proofs.lemmas.List.{take-replicate}
use Rattle.tp_model.specs.Sectors.{Sector, sectors_of, zero_sector}
use Rattle.tp_disk.proofs.Blanks.{rows_are}
use Rattle.tp_disk.proofs.blank.zeros.Goals as goal

pub returns-clause-sectors : goal.returns-clause-sectors
unfolding zero_sector
returns-clause-sectors c = ap sectors_of (c.as_flattened.ensures.value ∙ ap (flat_map (λ (x : Sector). x)) (take-replicate c.args.count 2048 zero_sector c.requires)) ∙ rows_are c.args.count
