-- Internal: what is said of volumes in memory: their size, who holds them and how often they were flushed, and nothing of what they hold.
use Rattle.std.specs.Prelude.{ℕ, List, false}
use Rattle.tp_model.specs.declared.mode.Mode.TheVariants.{Writable}
use Rattle.tp_model.specs.Geometry.{Geometry}
use Rattle.tp_model.specs.Clauses.{View, ViewLaws}
use Rattle.tp_holders.specs.Holders.{Holding, holds_of}

abbrev pub shelved : {D : Type 0} → (D → Geometry) → (D → List Holding) → (D → ℕ) → View D
shelved geometry held flushed = record {
  outline = λ d. record { geometry = geometry d; mode = Writable; holds = holds_of (held d) };
  more = λ d id. 0;
  shows = λ d s. ⊥;
  has_use = λ s. ⊥;
  failures = λ d. 0;
  flushes = flushed;
  changed = λ d. false;
  lacks = λ d call. ⊥;
  Image = Unit {0};
  may_leave = λ d image. ⊥;
  moment = λ d. 0;
  left_since = λ d since image. ⊥;
  stands_for = λ image s. ⊥;
}

-- So nothing has to hold of it.
pub nothing_holds : {D : Type 0} (geometry : D → Geometry) (held : D → List Holding) (flushed : D → ℕ) → ViewLaws (shelved geometry held flushed)
nothing_holds geometry held flushed = record {
  shown = λ d s shown. absurd shown;
  used = λ d s shown. absurd shown;
  sized = λ d s id size shown works is. absurd shown;
  one_size = λ d s t id shown also works. absurd shown;
  consistent = λ d s shown works. absurd shown;
  at_now = λ d image left. absurd left;
  only_now = λ d image left. absurd left;
  wider = λ d t u image le left. absurd left;
  at_rest = λ image p stands. absurd stands;
}
