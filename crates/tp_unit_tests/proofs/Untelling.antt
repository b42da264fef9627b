-- What is said of a pool of which nothing is told.
use Rattle.std.proofs.Common.{◌≡◌, ◌<◌, ℕ, Option, [], inl, refl, sym, ap, arith}
use Rattle.std.specs.Option.{unwrap_or}
use Rattle.std.specs.Ordering.{nat_cmp}
use Rattle.std.specs.FinMap.{empty}
use Rattle.tp_model.specs.declared.mode.Mode.TheVariants.{ReadOnly, Writable}
use Rattle.tp_model.specs.Geometry.{Geometry}
use Rattle.tp_model.specs.Pool.{hold_count}
use Rattle.tp_model.specs.Calls.{Answer, Call, HasCause, MayAnswer, holds_after, mode_after}
use Rattle.tp_model.specs.Clauses.{Meets}
use Rattle.tp_model.proofs.Maps.{get_empty}
use Rattle.nbd_session.specs.Clauses.{HoldsBeside}
use Rattle.nbd_session.proofs.Counting.{none_beside}
use Rattle.tp_unit_tests.specs.Untold.{untold}

works_not : ReadOnly ≡ Writable → ⊥
works_not e = absurd cc

pub none_held : HoldsBeside [] (empty {X = ℕ} {R = nat_cmp})
none_held = none_beside (empty {X = ℕ} {R = nat_cmp}) refl

nobody_holds : (id : ℕ) → hold_count (empty {X = ℕ} {R = nat_cmp}) id ≡ 0
nobody_holds id = ap (λ (o : Option ℕ). unwrap_or o 0) (get_empty {X = ℕ} id)

module _ {D : Type 0} (geometry : D → Geometry) where
  -- a call that changes nothing
  pub meets : (d : D) (call : Call) (answer : Answer) → MayAnswer ReadOnly call answer → mode_after ReadOnly call answer ≡ ReadOnly → holds_after empty call answer ≡ empty → HasCause 0 answer 0
      → Meets (untold geometry) d d call answer
  meets d call answer may mode holds cause = record {
    geometry = refl;
    holds = sym holds;
    more = λ id before after. refl;
    told = λ id blocks is tells held. absurd (omega (arith, held, nobody_holds id));
    answered = record { may = may; mode = sym mode; silent = λ yes. record { failures = refl; flushes = refl; moment = refl }; reads = λ reading. refl };
    flushes = record {
      no_fewer = omega arith;
      most = omega arith;
      few = λ s shown why. absurd shown;
      exact = λ flushes works done. absurd (works_not works);
      committed = λ works done. absurd (works_not works);
      unchanged = λ same. refl;
    };
    called = record {
      time = record { later = omega arith; still = λ t image le left. left; earlier = λ t image le left. inl left };
      cause = cause;
      opens = λ s shown. absurd shown;
      meets = λ s shown. absurd shown;
    };
  }
