use Rattle.tp_image.proofs.AreaLaws.{HoldsCounts-outside, counts_apart, counts_fixed}
use Rattle.tp_image.proofs.laws.counts_lie_apart.Goals as goal

pub returns : goal.returns
returns c = record {
  other = λ before image g part changed area its counts differ out was. HoldsCounts-outside g part area counts out (counts_apart g part changed area its differ) was;
  fixed = counts_fixed;
}
