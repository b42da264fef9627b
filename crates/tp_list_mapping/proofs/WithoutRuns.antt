-- Slots of a run of virtual blocks are taken, one after another.
use Rattle.std.proofs.Common.{◌≡◌, ℕ, suc, ◌+◌, Result, Ok, Err, ap, ◌∙◌, arith}
use Rattle.std.specs.Prelude.{IfErr, OnOk}
use Rattle.tp_sharing.specs.Volumes.{Volumes, without_slot}
use Rattle.tp_mapping.specs.Runs.{without_run}

-- ---- one more

pub run_next : (id first n b : ℕ) (ds : Volumes) → b ≡ first + n → without_slot id b (without_run id first n ds) ≡ without_run id first (n + 1) ds
run_next id first n b ds e =
    let q : suc n ≡ n + 1 = omega arith in
    ap (λ x. without_slot id x (without_run id first n ds)) e ∙ ap (λ k. without_run id first k ds) q

-- ---- an answer that is no error

pub always_ok : {T E P : Type 0} (Q : E → Type 0) (r : Result T E) → OnOk r P → IfErr r Q → ((e : E) → Q e → ⊥) → P
always_ok Q (Ok x) p q never = p
always_ok Q (Err e) p q never = absurd (never e q)
