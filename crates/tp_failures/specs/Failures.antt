-- Trusted reading: of a refusal that has its cause beside it, the refusal alone.
use Rattle.std.specs.Prelude.{Result, Ok, Err}
use Rattle.tp_model.specs.declared.refusal.Refusal.{Refusal}
use Rattle.tp_failures.specs.declared.failure.Failure.{Failure}

abbrev pub number_of : {A : Type 0} → Result A Failure → Result A Refusal
number_of (Ok x) = Ok x
number_of (Err failure) = Err failure.refusal
