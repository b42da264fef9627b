-- What is known of a refusal is known of one that has its cause beside it.
use Rattle.std.proofs.Common.{◌≡◌, Result, Ok, Err, subst, sym}
use Rattle.std.specs.Prelude.{OnOk}
use Rattle.tp_model.specs.declared.refusal.Refusal.{Refusal}
use Rattle.tp_failures.specs.declared.failure.Failure.{Failure}
use Rattle.tp_failures.specs.Failures.{number_of}

ok_of : {A : Type 0} (P : Type 0) (r : Result A Failure) → OnOk (number_of r) P → OnOk r P
ok_of P (Ok x) p = p
ok_of P (Err failure) p = tt

-- what an accepted answer tells is told where its refusals have their causes
pub on_ok_numbered : {A : Type 0} (P : Type 0) (r : Result A Failure) (done : Result A Refusal) → number_of r ≡ done → OnOk done P → OnOk r P
on_ok_numbered {A} P r done same p = ok_of P r (subst (λ (d : Result A Refusal). OnOk d P) (sym same) p)
