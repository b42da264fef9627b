-- A pool that is made by name, given one volume, and whose status is told.
use Rattle.std.proofs.Common.{◌≡◌, inl, inr, ℕ, Bool, ◌+◌, ◌≤◌, List, ◌++◌, Option, Result, Ok, Err, refl, sym, subst, ◌∙◌, arith}
use Rattle.std.specs.Prelude.{MatchResult, OnOk, codes}
use Rattle.tp_model.specs.declared.refusal.Refusal.{Refusal}
use Rattle.tp_model.specs.Geometry.{Geometry, fixed_part}
use Rattle.tp_model.specs.Pool.{PlainPool}
use Rattle.tp_model.specs.Calls.{CreateThin, Status}
use Rattle.tp_model.specs.PoolStops.{reopened}
use Rattle.tp_model.specs.Disk.{DiskState}
use Rattle.tp_image.specs.Fresh.{empty_pool}
use Rattle.tp_msg.specs.Messages.{reading}
use Rattle.tp_msg.specs.declared.message.Message.{Message}
use Rattle.tp_msg.specs.declared.message.Message.TheVariants as orders
use Rattle.tp_msg.specs.Asked.{call_of}
use Rattle.tp_hub.specs.Streams.{StreamCall}
use Rattle.tp_images.specs.Deeds.{AreHonest, Deed, OnImage}
use Rattle.tp_images.specs.declared.way.Way.{Way}
use Rattle.tp_tasks.specs.declared.task.Sizes.{Sizes}
use Rattle.tp_failures.specs.declared.failure.Failure.{Failure}
use Rattle.tp_failures.specs.Failures.{number_of}
use Rattle.tp_commands.specs.First.{first_pool}
use Rattle.tp_commands.specs.Images.{IsFormatted, IsMessageGiven, IsStatusTold, sizes_asked}
use Rattle.tp_commands.specs.Printing.{Prints, newline, status_call}
use Rattle.tp_headline.specs.Users.{IsAccepted, IsFirstMade, IsFirstTold, IsMadeHonest, KeepsPool}
use Rattle.tp_headline.proofs.Kept.{refused_ok}

-- whatever was handed out before was handed out
pub honest_before : {Does : DiskState → DiskState → Type 0} {way : Way} {name : List ℕ} {old new : List Deed} → OnImage way name old new Does → AreHonest new → AreHonest old
honest_before on all = let both = subst AreHonest on.deeds all in both.1.1

made_honest : (name : List ℕ) (old new : List Deed) → AreHonest new → IsMadeHonest name old new
made_honest name old new all way disk after e = let both = subst AreHonest e all in both.1.0

-- before a message that was accepted
honest_given : (name line : List ℕ) (old new : List Deed) (calls calls' : List StreamCall) → IsMessageGiven name line old new calls calls' (Ok (tt {0})) → AreHonest new → AreHonest old
honest_given name line old new calls calls' (inl (e, refused, same)) all = refused_ok tt _ refused
honest_given name line old new calls calls' (inr on) all = honest_before on all

-- and before a status that was told
pub honest_told : (name : List ℕ) (id : Option ℕ) (old new : List Deed) (calls calls' : List StreamCall) → IsStatusTold name id old new calls calls' (Ok (tt {0})) → AreHonest new → AreHonest old
honest_told name id old new calls calls' (inl (e, refused, same)) all = refused_ok tt _ refused
honest_told name id old new calls calls' (inr on) all = honest_before on all

abbrev MadeLaw : Type 0
MadeLaw = (name : List ℕ) (sizes : Sizes) (overwrites : Bool) (old new : List Deed) (calls calls' : List StreamCall) → IsMadeHonest name old new → IsFormatted name sizes overwrites old new calls calls' (Ok (tt {0}))
    → IsAccepted name new (empty_pool (sizes_asked sizes)) Status calls calls'

abbrev GivenLaw : Type 0
GivenLaw = (name line : List ℕ) (old new : List Deed) (calls calls' : List StreamCall) (s : PlainPool) → KeepsPool name old s → IsMessageGiven name line old new calls calls' (Ok (tt {0}))
    → (m : Message) × (reading line ≡ Ok m) × IsAccepted name new s (call_of m) calls calls'

-- the message that the line is
first_message : reading (codes "create_thin 0") ≡ Ok (orders.CreateThin 0)
first_message = refl

called_first : (name : List ℕ) (new : List Deed) (s : PlainPool) (calls calls' : List StreamCall) (m : Message) → reading (codes "create_thin 0") ≡ Ok m → IsAccepted name new s (call_of m) calls calls'
    → IsAccepted name new s (CreateThin 0) calls calls'
called_first name new s calls calls' m e is =
    subst (λ (r : Result Message Refusal). MatchResult r (λ m. IsAccepted name new s (call_of m) calls calls') (λ reason. Unit {0})) (sym e ∙ first_message) is

module _ (name : List ℕ) (g : Geometry) (mid new : List Deed) (calls between calls' : List StreamCall) where
  -- the image just made
  kept_empty : IsAccepted name mid (empty_pool g) Status calls between → KeepsPool name mid (empty_pool g)
  kept_empty is = subst (λ (p : PlainPool). KeepsPool name mid (reopened p)) is.makes is.keeps

  first_so : IsAccepted name mid (empty_pool g) Status calls between → IsAccepted name new (empty_pool g) (CreateThin 0) between calls'
      → (used : ℕ) × IsFirstMade g used calls calls' × KeepsPool name new (first_pool g used)
  first_so is then =
      let makes = then.makes in
      let used = then.made.meta_used in
      let few : used ≤ fixed_part g + 1 + 8 = makes.taken in (
        used,
        record {
          few = omega (arith, few);
          between = between;
          formatted = subst (λ (t : List ℕ). Prints calls between (t ++ newline) (Ok (tt {0}))) is.text_is is.prints;
          given = subst (λ (t : List ℕ). Prints between calls' (t ++ newline) (Ok (tt {0}))) then.text_is then.prints;
        },
        subst (λ (p : PlainPool). KeepsPool name new (reopened p)) makes.is then.keeps,
      )

pub first_made : MadeLaw → GivenLaw → (name : List ℕ) (sizes : Sizes) (overwrites : Bool) (old mid new : List Deed) (calls between calls' : List StreamCall) → IsFormatted name sizes overwrites old mid calls between (Ok (tt {0}))
    → (result : Result (Unit {0}) Failure) → IsMessageGiven name (codes "create_thin 0") mid new between calls' (number_of result)
    → OnOk result (AreHonest new → (used : ℕ) × IsFirstMade (sizes_asked sizes) used calls calls' × KeepsPool name new (first_pool (sizes_asked sizes) used))
first_made made given name sizes overwrites old mid new calls between calls' formatted (Ok done) gave = λ all.
    let g = sizes_asked sizes in
    let one = made name sizes overwrites old mid calls between (made_honest name old mid (honest_given name (codes "create_thin 0") mid new between calls' gave all)) formatted in
    let two = given name (codes "create_thin 0") mid new between calls' (empty_pool g) (kept_empty name g mid new calls between calls' one) gave in
    first_so name g mid new calls between calls' one (called_first name new (empty_pool g) between calls' two.0 two.1 two.2)
first_made made given name sizes overwrites old mid new calls between calls' formatted (Err why) gave = tt

abbrev ToldLaw : Type 0
ToldLaw = (name : List ℕ) (id : Option ℕ) (old new : List Deed) (calls calls' : List StreamCall) (s : PlainPool) → KeepsPool name old s → IsStatusTold name id old new calls calls' (Ok (tt {0}))
    → IsAccepted name new s (status_call id) calls calls'

-- and its status
first_status : ToldLaw → (name : List ℕ) (g : Geometry) (id : Option ℕ) (mid new : List Deed) (calls between calls' : List StreamCall)
    → (used : ℕ) × IsFirstMade g used calls between × KeepsPool name mid (first_pool g used) → IsStatusTold name id mid new between calls' (Ok (tt {0})) → IsFirstTold name new g id calls calls'
first_status told name g id mid new calls between calls' (used, made, kept) says = record { used = used; between = between; made = made; told = told name id mid new between calls' (first_pool g used) kept says }

pub first_told : ToldLaw → (name : List ℕ) (g : Geometry) (id : Option ℕ) (mid new : List Deed) (calls between calls' : List StreamCall)
    → (AreHonest mid → (used : ℕ) × IsFirstMade g used calls between × KeepsPool name mid (first_pool g used)) → (result : Result (Unit {0}) Failure) → IsStatusTold name id mid new between calls' (number_of result)
    → OnOk result (AreHonest new → IsFirstTold name new g id calls calls')
first_told told name g id mid new calls between calls' made (Ok done) says = λ all.
    first_status told name g id mid new calls between calls' (made (honest_told name id mid new between calls' says all)) says
first_told told name g id mid new calls between calls' made (Err why) says = tt

pub first_told_honest : ToldLaw → (name : List ℕ) (g : Geometry) (id : Option ℕ) (mid same new : List Deed) (calls between calls' : List StreamCall)
    → (AreHonest mid → (used : ℕ) × IsFirstMade g used calls between × KeepsPool name mid (first_pool g used)) → AreHonest mid → same ≡ mid → (result : Result (Unit {0}) Failure)
    → IsStatusTold name id same new between calls' (number_of result) → OnOk result (IsFirstTold name new g id calls calls')
first_told_honest told name g id mid same new calls between calls' made all e (Ok done) says =
    first_status told name g id mid new calls between calls' (made all) (subst (λ (d : List Deed). IsStatusTold name id d new between calls' (Ok (tt {0}))) e says)
first_told_honest told name g id mid same new calls between calls' made all e (Err why) says = tt
