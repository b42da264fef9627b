use Rattle.std.proofs.Common.{ap}
use Rattle.tp_model.specs.Disk.{DiskState, seen}
use Rattle.tp_model.proofs.DiskStopLaws.{leaves_settled, weakens_outside}
use Rattle.tp_image.specs.Areas.{HoldsCounts}
use Rattle.tp_image.proofs.AreaLaws.{HoldsCounts-outside, counts_apart}
use Rattle.tp_image.proofs.laws.counts_survive_stops.Goals as goal

pub returns : goal.returns
returns c = record {
  flushed = λ old new g part area counts holds flush. leaves_settled (λ image. HoldsCounts image g part area counts) (seen old.cells) new.cells (ap (λ (d : DiskState). d.cells) flush) holds;
  other = λ old new g part changed area its counts differ outside was.
      weakens_outside (λ image. HoldsCounts image g part area counts) (λ image. HoldsCounts image g part area counts) outside was
      (λ before image holds out. HoldsCounts-outside g part area counts out (counts_apart g part changed area its differ) holds);
}
