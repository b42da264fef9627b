-- What is said of volumes of a pool that fails, call after call.
use Rattle.std.proofs.Common.{◌≡◌, ◌∙◌, ℕ, ◌*◌, Bool, true, false, List, [], ◌∷◌, inl, inr, refl, sym, ap, subst, arith}
use Rattle.std.specs.Prelude.{IsTrue, if◌then◌else◌}
use Rattle.tp_model.specs.declared.mode.Mode.{Mode}
use Rattle.tp_model.specs.declared.mode.Mode.TheVariants as mode
use Rattle.tp_model.specs.declared.refusal.Refusal.{Refusal}
use Rattle.tp_model.specs.declared.refusal.Refusal.TheVariants.{Damaged, Failed}
use Rattle.tp_model.specs.Geometry.{Geometry, sectors_of_volume}
use Rattle.tp_model.specs.Calls.{Answer, Call, Done, Flush, HasCause, IsOneOf, MayAnswer, Refused, Sized, VolumeBlocks, holds_after, is_flush, is_told_of_failed, mode_after, refusals_in_writable}
use Rattle.tp_model.specs.Clauses.{Meets, Unkept}
use Rattle.tp_holders.specs.Holders.{Holding, holds_of}
use Rattle.tp_shelf.specs.Failing.{fails}

abbrev mode_if : Bool → Mode
mode_if failed = if failed then mode.Failed else mode.Writable

module _ {D : Type 0} (geometry : D → Geometry) (held : D → List Holding) (failed : D → Bool) where
  -- a call that is no flush that is done, in a pool that has or has not failed before it and after it
  pub meets : (old new : D) (call : Call) (answer : Answer) (had has : Bool) → failed old ≡ had → failed new ≡ has → geometry new ≡ geometry old → holds_of (held new) ≡ holds_after (holds_of (held old)) call answer
      → MayAnswer (mode_if had) call answer → mode_if has ≡ mode_after (mode_if had) call answer → HasCause 0 answer 0 → (IsTrue (is_flush call) → answer ≡ Done → ⊥)
      → ((id blocks : ℕ) → call ≡ VolumeBlocks id → answer ≡ Sized blocks → blocks * (geometry old).block_sectors ≡ sectors_of_volume (geometry old)) → Meets (fails geometry held failed) old new call answer
  meets old new call answer had has was is size holds may mode cause undone told = record {
    geometry = size;
    holds = holds;
    more = λ id before after. refl;
    told = λ id blocks is tells before. let own = told id blocks is tells in omega (arith, own);
    answered = record {
      may = subst (λ b. MayAnswer (mode_if b) call answer) (sym was) may;
      mode = ap mode_if is ∙ (mode ∙ ap (λ b. mode_after (mode_if b) call answer) (sym was));
      reads = λ no. refl;
      silent = λ yes. record { failures = refl; flushes = refl; moment = refl };
    };
    flushes = record {
      no_fewer = omega arith;
      most = omega arith;
      few = λ s shown why. absurd shown;
      exact = λ flushes works done. absurd (undone flushes done);
      committed = λ works done. refl;
      unchanged = λ same. refl;
    };
    called = record {
      time = record { later = omega arith; still = λ t image le left. left; earlier = λ t image le left. inl left };
      cause = cause;
      opens = λ s shown. absurd shown;
      meets = λ s shown. absurd shown;
    };
  }

  refuses_so : (old new : D) (call : Call) (reason : Refusal) (has : Bool) → failed old ≡ has → failed new ≡ has → geometry new ≡ geometry old
      → holds_of (held new) ≡ holds_after (holds_of (held old)) call (Refused (if has then Failed else reason)) → IsOneOf reason (refusals_in_writable call) → is_told_of_failed call ≡ false
      → mode_after mode.Writable call (Refused reason) ≡ mode.Writable → HasCause 0 (Refused reason) 0 → Meets (fails geometry held failed) old new call (Refused (if has then Failed else reason))
  refuses_so old new call reason true was is size holds one untold mode cause =
      meets old new call (Refused Failed) true true was is size holds (subst (λ (told : Bool). IsOneOf Failed (if told then [] else Failed ∷ [])) (sym untold) (inl refl)) refl refl (λ flushes done. absurd cc) (λ id blocks is tells. absurd cc)
  refuses_so old new call reason false was is size holds one untold mode cause =
      meets old new call (Refused reason) false false was is size holds one (sym mode) cause (λ flushes done. absurd cc) (λ id blocks is tells. absurd cc)

  -- a call that is refused for this reason as long as the pool works, and does nothing
  pub refuses : (old new : D) (call : Call) (reason why : Refusal) → why ≡ (if failed old then Failed else reason) → failed new ≡ failed old → geometry new ≡ geometry old
      → ((r : Refusal) → holds_of (held new) ≡ holds_after (holds_of (held old)) call (Refused r)) → IsOneOf reason (refusals_in_writable call) → is_told_of_failed call ≡ false
      → mode_after mode.Writable call (Refused reason) ≡ mode.Writable → HasCause 0 (Refused reason) 0 → Meets (fails geometry held failed) old new call (Refused why)
  refuses old new call reason why because same size holds one untold mode cause =
      subst (λ r. Meets (fails geometry held failed) old new call (Refused r)) (sym because) (refuses_so old new call reason (failed old) refl same size (holds _) one untold mode cause)

  -- a call that is made but for its commit, in a pool that works
  pub unkept : (old new : D) (call : Call) → failed old ≡ false → failed new ≡ false → geometry new ≡ geometry old → held new ≡ held old → Unkept (fails geometry held failed) old new call
  unkept old new call was is size holders =
      let same : failed new ≡ failed old = is ∙ sym was in
      record {
        works = ap mode_if was;
        outline = (λ i. record { geometry = size i; mode = mode_if (same i); holds = holds_of (holders i) });
        more = λ id before. refl;
        failures = refl;
        no_fewer = omega arith;
        most = omega arith;
        few = λ s shown enough. absurd shown;
        time = record { later = omega arith; still = λ t image le left. left; earlier = λ t image le left. inl left };
        opens = λ s shown. absurd shown;
        meets = λ s shown. absurd shown;
      }

  breaks_so : (old new : D) (had : Bool) → failed old ≡ had → failed new ≡ true → geometry new ≡ geometry old → holds_of (held new) ≡ holds_of (held old) → Meets (fails geometry held failed) old new Flush (Refused (if had then Failed else Damaged))
  breaks_so old new true was is size holds = meets old new Flush (Refused Failed) true true was is size holds (inl refl) refl refl (λ flushes done. absurd cc) (λ id blocks is tells. absurd cc)
  breaks_so old new false was is size holds = meets old new Flush (Refused Damaged) false true was is size holds (inr (inl refl)) refl refl (λ flushes done. absurd cc) (λ id blocks is tells. absurd cc)

  -- a flush, by which it fails
  pub breaks : (old new : D) (why : Refusal) → why ≡ (if failed old then Failed else Damaged) → failed new ≡ true → geometry new ≡ geometry old → holds_of (held new) ≡ holds_of (held old)
      → Meets (fails geometry held failed) old new Flush (Refused why)
  breaks old new why because is size holds =
      subst (λ r. Meets (fails geometry held failed) old new Flush (Refused r)) (sym because) (breaks_so old new (failed old) refl is size holds)
