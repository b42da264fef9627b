use Rattle.std.proofs.Common.{refl}
use Rattle.tp_model.specs.Calls.{Found}
use Rattle.tp_unit_tests.proofs.Untelling.{meets}
use Rattle.tp_unit_tests.proofs.table.TableVolumes.next_id.Goals as goal

pub returns : goal.returns
returns c = meets _ c.args.self.now _ (Found c.least.result) (refl) refl refl refl
