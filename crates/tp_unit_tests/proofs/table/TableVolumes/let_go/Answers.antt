use Rattle.std.proofs.Common.{◌≡◌, ℕ, Option, ap, arith}
use Rattle.std.specs.Option.{unwrap_or}
use Rattle.std.specs.Ordering.{nat_cmp}
use Rattle.std.specs.FinMap.{FinMap, empty}
use Rattle.tp_model.specs.Pool.{hold_count}
use Rattle.tp_model.proofs.Maps.{get_empty}
use Rattle.tp_unit_tests.proofs.table.TableVolumes.let_go.Goals as goal

-- nothing is held
pub returns : goal.returns
returns c = let none : hold_count (empty {X = ℕ} {R = nat_cmp}) c.args._id ≡ 0 = ap (λ (o : Option ℕ). unwrap_or o 0) (get_empty {X = ℕ} c.args._id) in absurd (omega (arith, none, c.requires))
