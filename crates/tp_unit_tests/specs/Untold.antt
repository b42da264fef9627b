-- Internal: a read-only pool of which nothing is told but its geometry: no stop of it is opened, and it shows no plain pool.
use Rattle.std.specs.Prelude.{false}
use Rattle.std.specs.FinMap.{empty}
use Rattle.tp_model.specs.declared.mode.Mode.TheVariants.{ReadOnly}
use Rattle.tp_model.specs.Geometry.{Geometry}
use Rattle.tp_model.specs.Clauses.{View, ViewLaws}

abbrev pub untold : {D : Type 0} → (D → Geometry) → View D
untold geometry = record {
  outline = λ d. record { geometry = geometry d; mode = ReadOnly; holds = empty };
  more = λ d id. 0;
  shows = λ d s. ⊥;
  has_use = λ s. ⊥;
  failures = λ d. 0;
  flushes = λ d. 0;
  changed = λ d. false;
  lacks = λ d call. ⊥;
  Image = Unit {0};
  may_leave = λ d image. ⊥;
  moment = λ d. 0;
  left_since = λ d since image. ⊥;
  stands_for = λ image s. ⊥;
}

-- So nothing has to hold of it.
pub nothing_holds : {D : Type 0} (geometry : D → Geometry) → ViewLaws (untold geometry)
nothing_holds geometry = record {
  shown = λ d s shown. absurd shown;
  used = λ d s shown. absurd shown;
  sized = λ d s id size shown works is. absurd shown;
  one_size = λ d s t id shown also works. absurd shown;
  consistent = λ d s shown works. absurd shown;
  at_now = λ d image left. absurd left;
  only_now = λ d image left. absurd left;
  wider = λ d t u image le left. absurd left;
  at_rest = λ image p stands. absurd stands;
}
