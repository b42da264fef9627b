use Rattle.std.proofs.Common.{inl, refl}
use Rattle.tp_model.specs.declared.refusal.Refusal.TheVariants.{ReadOnly}
use Rattle.tp_model.specs.Calls.{Refused}
use Rattle.tp_unit_tests.proofs.Untelling.{meets}
use Rattle.tp_unit_tests.proofs.table.TableCloned.create_snap.Goals as goal

pub returns : goal.returns
returns c = meets _ c.args.self.now _ (Refused ReadOnly) (inl refl) refl refl refl
