-- The sizes of a new pool were printed, and what came of it.
use Rattle.std.proofs.Common.{◌≡◌, ℕ, Bool, true, false, List, Result, Ok, Err, refl, ap, subst}
use Rattle.std.specs.Prelude.{MatchBool}
use Rattle.tp_model.specs.declared.refusal.Refusal.{Refusal}
use Rattle.tp_model.specs.declared.refusal.Refusal.TheVariants.{Fault}
use Rattle.tp_model.specs.Geometry.{Geometry}
use Rattle.tp_hub.specs.Streams.{IsSent, Makes, StreamCall}
use Rattle.tp_images.specs.Deeds.{Deed}
use Rattle.tp_tasks.specs.declared.task.Sizes.{Sizes}
use Rattle.tp_texts.specs.Texts.{sizes_text}
use Rattle.tp_commands.specs.Asking.{FormatsAsked}
use Rattle.tp_commands.specs.Creating.{CreatesSized, sizes_of}
use Rattle.tp_commands.specs.Images.{IsFormatted}

pub unprinted : (asks : Bool) (name : List ℕ) (g : Geometry) (overwrites : Bool) (old : List Deed) (calls calls' : List StreamCall) (reason : Refusal)
    → Makes calls calls' (λ did. IsSent (sizes_text g) did false) → reason ≡ Fault → CreatesSized asks name g overwrites old old calls calls' (Err reason)
unprinted asks name g overwrites old calls calls' reason made is = (calls', Err Fault, (made.0, made.1, (refl, made.2)), (ap Err is, refl, refl))

pub then_made : (asks : Bool) (name : List ℕ) (g : Geometry) (sizes : Sizes) (overwrites : Bool) (old new : List Deed) (calls between calls' : List StreamCall) (result : Result (Unit {0}) Refusal)
    → Makes calls between (λ did. IsSent (sizes_text g) did true) → sizes ≡ sizes_of g
    → MatchBool asks (FormatsAsked name sizes overwrites old new between calls' result) (IsFormatted name sizes overwrites old new between calls' result)
    → CreatesSized asks name g overwrites old new calls calls' result
then_made asks name g sizes overwrites old new calls between calls' result made is done = (
  between,
  Ok tt,
  (made.0, made.1, made.2),
  subst (λ (s : Sizes). MatchBool asks (FormatsAsked name s overwrites old new between calls' result) (IsFormatted name s overwrites old new between calls' result)) is done,
)
