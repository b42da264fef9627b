use Rattle.std.proofs.Common.{refl}
use Rattle.tp_model.specs.Calls.{Done}
use Rattle.tp_unit_tests.proofs.Untelling.{meets}
use Rattle.tp_unit_tests.proofs.table.TableVolumes.flush.Goals as goal

pub returns : goal.returns
returns c = meets _ c.args.self.now _ (Done) (refl) refl refl refl
