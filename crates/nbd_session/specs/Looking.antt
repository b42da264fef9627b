-- Internal: what the calls that look for a volume told, or make a clone.
use Rattle.std.specs.Prelude.{◌≡◌, ℕ, ◌+◌, Bool, true, List, [], Option, Result, MatchResult}
use Rattle.std.specs.Option.{option_map_or}
use Rattle.tp_model.specs.declared.refusal.Refusal.{Refusal}
use Rattle.tp_model.specs.Geometry.{Geometry}
use Rattle.tp_model.specs.Pool.{Outline}
use Rattle.tp_model.specs.Calls.{Answer, Call, CreateSnap, Done, Found, NextId, Refused, Sized, VolumeBlocks}
use Rattle.nbd_session.specs.declared.clones.Made.{Made}
use Rattle.nbd_session.specs.declared.clones.Made.TheVariants.{Held, NotMade, GivenUp}
use Rattle.nbd_session.specs.declared.phase.Phase.{Phase}
use Rattle.nbd_session.specs.declared.phase.Phase.TheVariants.{Ended}
use Rattle.nbd_session.specs.Requests.{bytes_of_blocks}
use Rattle.nbd_session.specs.Session.{AsksFor, Clones, Holds, HoldsClone, IsOutcome, LooksFor, Outcome, SeeksFor, Sizes, SizesClone, Tells, VolumeOption, is_there, outcome, transmission_flags, uncloned}

-- what is done where a size was told, and where it was refused
abbrev pub AnswersSize : (ℕ → Outcome) → Result ℕ Refusal → List ℕ → Phase → Type 0
AnswersSize found result sent next = MatchResult result (λ size. IsOutcome (found size) sent next) (λ reason. IsOutcome (outcome [] Ended) sent next)

-- what is done where a clone was made and is held, where none was made, and where it was given up
abbrev pub IsEntered : VolumeOption → ℕ → ℕ → Made → List ℕ → Phase → Type 0
IsEntered o origin flags (Held id size) sent next = IsOutcome (o.cloned origin id size flags) sent next
IsEntered o origin flags (NotMade reason) sent next = IsOutcome (uncloned o reason) sent next
IsEntered o origin flags GivenUp sent next = IsOutcome (outcome [] Ended) sent next

module _ {S : Type 0} (outline : S → Outline) (Calls : S → Call → Answer → S → Type 0) where
  -- whether the volume is there
  abbrev pub LooksUp : ℕ → Result Bool Refusal → S → S → Type 0
  LooksUp id result p p' =
      MatchResult result
      (λ there. (least : Option ℕ) × (there ≡ is_there id least) × Calls p (NextId id) (Found least) p')
      (λ reason. Calls p (NextId id) (Refused reason) p')

  -- how many bytes the volume has, in a pool of this geometry
  abbrev pub IsTold : Geometry → ℕ → Result ℕ Refusal → S → S → Type 0
  IsTold g id result p p' =
      MatchResult result
      (λ size. (blocks : ℕ) × (size ≡ bytes_of_blocks g blocks) × Calls p (VolumeBlocks id) (Sized blocks) p')
      (λ reason. Calls p (VolumeBlocks id) (Refused reason) p')

  -- the same of one that is held, and let go where that is refused, as what an option does that holds it
  abbrev pub TakesOn : Geometry → ℕ → Result ℕ Refusal → S → S → Type 0
  TakesOn g id result p p' =
      (found : ℕ → Outcome) (sent : List ℕ) (next : Phase) → AnswersSize found result sent next
      → Sizes outline Calls true (λ blocks. found (bytes_of_blocks g blocks)) id p sent next p'

  -- the same of one that was found, and is held from now on
  abbrev pub TakesHold : Geometry → ℕ → Result ℕ Refusal → S → S → Type 0
  TakesHold g id result p p' =
      (found : ℕ → Outcome) (sent : List ℕ) (next : Phase) → AnswersSize found result sent next
      → Holds outline Calls (λ blocks. found (bytes_of_blocks g blocks)) id p sent next p'

  -- the same of a clone that is held, and given up where that is refused
  abbrev pub TakesClone : Geometry → ℕ → Result ℕ Refusal → S → S → Type 0
  TakesClone g id result p p' =
      (found : ℕ → Outcome) (sent : List ℕ) (next : Phase) → AnswersSize found result sent next
      → SizesClone outline Calls (λ blocks. found (bytes_of_blocks g blocks)) id p sent next p'

  -- the same of one that was made, and is held from now on
  abbrev pub TakesHoldOfClone : Geometry → ℕ → Result ℕ Refusal → S → S → Type 0
  TakesHoldOfClone g id result p p' =
      (found : ℕ → Outcome) (sent : List ℕ) (next : Phase) → AnswersSize found result sent next
      → HoldsClone outline Calls (λ blocks. found (bytes_of_blocks g blocks)) id p sent next p'

  -- A snapshot of a volume was asked for under the id that comes so many behind the first one of clones.
  abbrev pub Tries : ℕ → ℕ → Result ℕ Refusal → S → S → Type 0
  Tries origin passed result p p' =
      MatchResult result
      (λ id. (id ≡ 8388608 + passed) × Calls p (CreateSnap (8388608 + passed) origin) Done p')
      (λ reason. Calls p (CreateSnap (8388608 + passed) origin) (Refused reason) p')

  -- A clone of a volume was asked for, and this became of it, as what an option does that makes one.
  abbrev pub MakesClone : ℕ → Made → S → S → Type 0
  MakesClone origin made p p' =
      (o : VolumeOption) (sent : List ℕ) (next : Phase) → IsEntered o origin (transmission_flags (outline p)) made sent next
      → Clones outline Calls o origin p sent next p'

  -- Whether the volume is there, and its size, as what an option does that holds it, or that does not.
  abbrev pub Learns : Bool → ℕ → Result (Option ℕ) Refusal → S → S → Type 0
  Learns holds id result p p' =
      (o : VolumeOption) (sent : List ℕ) (next : Phase) → o.holds ≡ holds
      → MatchResult result
      (λ size. IsOutcome (option_map_or (λ n. o.found id n (transmission_flags (outline p))) size o.missing) sent next)
      (λ reason. IsOutcome (outcome [] Ended) sent next)
      → AsksFor outline Calls o id p sent next p'

  -- Whether the older volume that a query names is there: its id then, and else a number that is none, as what an option does that asks since it.
  abbrev pub Sought : ℕ → List ℕ → Result ℕ Refusal → S → S → Type 0
  Sought limit text result p p' =
      (o : ℕ → VolumeOption) (name sent : List ℕ) (next : Phase) (q : S) → (o 16777216).limit ≡ limit
      → MatchResult result (λ since. LooksFor outline Calls (o since) name p' sent next q) (λ reason. Tells outline Calls (outcome [] Ended) p' sent next q)
      → SeeksFor outline Calls o text name p sent next q
