use Rattle.std.proofs.Common.{refl}
use Rattle.tp_model.specs.Calls.{Sized}
use Rattle.tp_unit_tests.proofs.Untelling.{meets}
use Rattle.tp_unit_tests.proofs.table.TableVolumes.volume_blocks.Goals as goal

pub returns-in-Some-clause-told : goal.returns-in-Some-clause-told
returns-in-Some-clause-told c = meets _ c.args.self.now _ (Sized _) refl refl refl refl
