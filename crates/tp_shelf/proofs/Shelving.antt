-- What is said of volumes in memory, call after call.
use Rattle.std.proofs.Common.{◌≡◌, ℕ, ◌+◌, ◌*◌, List, inl, refl, sym, ap, arith}
use Rattle.std.specs.Prelude.{IsTrue}
use Rattle.tp_model.specs.declared.mode.Mode.TheVariants.{Writable}
use Rattle.tp_model.specs.Geometry.{Geometry, sectors_of_volume}
use Rattle.tp_model.specs.Calls.{Answer, Call, Done, Flush, HasCause, MayAnswer, Sized, VolumeBlocks, holds_after, is_flush, mode_after}
use Rattle.tp_model.specs.Clauses.{Meets, Unkept}
use Rattle.tp_holders.specs.Holders.{Holding, holds_of}
use Rattle.tp_shelf.specs.Shelves.{shelved}

module _ {D : Type 0} (geometry : D → Geometry) (held : D → List Holding) (flushed : D → ℕ) where
  -- a call that flushes nothing, and fails for nothing
  pub meets : (old new : D) (call : Call) (answer : Answer) → geometry new ≡ geometry old → flushed new ≡ flushed old → holds_of (held new) ≡ holds_after (holds_of (held old)) call answer → (IsTrue (is_flush call) → ⊥)
      → MayAnswer Writable call answer → mode_after Writable call answer ≡ Writable → HasCause 0 answer 0 → ((id blocks : ℕ) → call ≡ VolumeBlocks id → answer ≡ Sized blocks → blocks * (geometry old).block_sectors ≡ sectors_of_volume (geometry old)) → Meets (shelved geometry held flushed) old new call answer
  meets old new call answer size same holds plain may mode cause told = record {
    geometry = size;
    holds = holds;
    more = λ id before after. refl;
    told = λ id blocks is tells before. let own = told id blocks is tells in omega (arith, own);
    answered = record { may = may; mode = sym mode; reads = λ no. refl; silent = λ yes. record { failures = refl; flushes = same; moment = refl } };
    flushes = record {
      no_fewer = omega (arith, same);
      most = omega (arith, same);
      few = λ s shown why. absurd shown;
      exact = λ flushes works done. absurd (plain flushes);
      committed = λ works done. refl;
      unchanged = λ same. refl;
    };
    called = record {
      time = record { later = omega arith; still = λ t image le left. left; earlier = λ t image le left. inl left };
      cause = cause;
      opens = λ s shown. absurd shown;
      meets = λ s shown. absurd shown;
    };
  }

  -- a call that is made but for its commit
  pub unkept : (old new : D) (call : Call) → geometry new ≡ geometry old → flushed new ≡ flushed old → held new ≡ held old → Unkept (shelved geometry held flushed) old new call
  unkept old new call size same holders = record {
    works = refl;
    outline = (λ i. record { geometry = size i; mode = Writable; holds = holds_of (holders i) });
    more = λ id before. refl;
    failures = refl;
    no_fewer = omega (arith, same);
    most = omega (arith, same);
    few = λ s shown enough. absurd shown;
    time = record { later = omega arith; still = λ t image le left. left; earlier = λ t image le left. inl left };
    opens = λ s shown. absurd shown;
    meets = λ s shown. absurd shown;
  }

  -- a flush, which is one
  pub meets_flush : (old new : D) → geometry new ≡ geometry old → held new ≡ held old → flushed new ≡ flushed old + 1 → Meets (shelved geometry held flushed) old new Flush Done
  meets_flush old new size same more = record {
    geometry = size;
    holds = ap holds_of same;
    more = λ id before after. refl;
    told = λ id blocks is tells before. absurd cc;
    answered = record { may = refl; mode = refl; reads = λ no. refl; silent = λ yes. absurd cc };
    flushes = record {
      no_fewer = omega (arith, more);
      most = omega (arith, more);
      few = λ s shown why. absurd shown;
      exact = λ flushes works done. more;
      committed = λ works done. refl;
      unchanged = λ same. refl;
    };
    called = record {
      time = record { later = omega arith; still = λ t image le left. left; earlier = λ t image le left. inl left };
      cause = refl;
      opens = λ s shown. absurd shown;
      meets = λ s shown. absurd shown;
    };
  }
