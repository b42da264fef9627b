-- Trusted reading: what a pool is asked for a page of a listing, and what is told (own).
use Rattle.std.specs.Prelude.{◌≡◌, ℕ, ◌*◌, List, [], ◌∷◌, Result, Ok, Err}
use Rattle.tp_model.specs.declared.refusal.Refusal.{Refusal}
use Rattle.tp_model.specs.Geometry.{Geometry}
use Rattle.tp_model.specs.Calls.{Answer, Call, Done, Found, Gave, Line, Listed, Refused, Sized, VolumeBlocks, Walk}
use Rattle.tp_model.specs.Clauses.{Meets, View}
use Rattle.tp_listings.specs.declared.extent.Extent.{Extent}
use Rattle.tp_listings.specs.Pages.{AreOrdered, IsPage}
use Rattle.tp_pages.specs.Texts.{page_text, size_text}

-- the bytes of a block
abbrev pub unit_of : Geometry → ℕ
unit_of g = g.block_sectors * 512

-- a call with its answer
pub record Question : Type 0 where
  pub call : Call
  pub answer : Answer

-- calls one after another lead from one state of a pool to another
abbrev pub AreMade : {D : Type 0} → View D → D → List Question → D → Type 0
AreMade view old [] new = new ≡ old
AreMade {D} view old (q ∷ qs) new = (mid : D) × Meets view old mid q.call q.answer × AreMade view mid qs new

-- The text of a page of a delta, by what a walk over each of both volumes listed from a block on. most: the blocks of the new one. Where slots are in the order of their blocks, as
-- those of a pool are, it is that of the one page of them.
pub record IsPageText (unit from most : ℕ) (old new : List (ℕ × ℕ)) (text : List ℕ) : Type 0 where
  pub extents : List Extent
  pub end : ℕ
  pub is : text ≡ page_text unit most extents end
  pub page : AreOrdered old → AreOrdered new → IsPage old new from most extents end

-- Nothing more is asked, and what is told is the refusal.
abbrev pub IsRefused : Refusal → List Question → Result (List ℕ) Refusal → Type 0
IsRefused reason qs told = (qs ≡ []) × (told ≡ Err reason)

-- Nothing more is asked, and such a page is told.
abbrev pub IsPaged : ℕ → ℕ → ℕ → List (ℕ × ℕ) → List (ℕ × ℕ) → List Question → Result (List ℕ) Refusal → Type 0
IsPaged unit from most old new qs told = (text : List ℕ) × IsPageText unit from most old new text × (qs ≡ []) × (told ≡ Ok text)

-- what follows behind the answer of a walk: Then, where it lists slots
abbrev pub BehindWalk : (List (ℕ × ℕ) → List Question → Result (List ℕ) Refusal → Type 0) → Answer → List Question → Result (List ℕ) Refusal → Type 0
BehindWalk Then (Listed slots) qs told = Then slots qs told
BehindWalk Then (Refused reason) qs told = IsRefused reason qs told
BehindWalk Then Done qs told = ⊥
BehindWalk Then (Gave sectors) qs told = ⊥
BehindWalk Then (Line bytes) qs told = ⊥
BehindWalk Then (Found id) qs told = ⊥
BehindWalk Then (Sized blocks) qs told = ⊥

-- and behind that of a question for a size
abbrev pub BehindSize : (ℕ → List Question → Result (List ℕ) Refusal → Type 0) → Answer → List Question → Result (List ℕ) Refusal → Type 0
BehindSize Then (Sized blocks) qs told = Then blocks qs told
BehindSize Then (Refused reason) qs told = IsRefused reason qs told
BehindSize Then Done qs told = ⊥
BehindSize Then (Gave sectors) qs told = ⊥
BehindSize Then (Line bytes) qs told = ⊥
BehindSize Then (Found id) qs told = ⊥
BehindSize Then (Listed slots) qs told = ⊥

-- A walk over a volume is asked for, and what follows hangs on its answer.
abbrev pub Walks : ℕ → ℕ → (List (ℕ × ℕ) → List Question → Result (List ℕ) Refusal → Type 0) → List Question → Result (List ℕ) Refusal → Type 0
Walks id from Then [] told = ⊥
Walks id from Then (q ∷ qs) told = (q.call ≡ Walk id from) × BehindWalk Then q.answer qs told

abbrev pub Sizes : ℕ → (ℕ → List Question → Result (List ℕ) Refusal → Type 0) → List Question → Result (List ℕ) Refusal → Type 0
Sizes id Then [] told = ⊥
Sizes id Then (q ∷ qs) told = (q.call ≡ VolumeBlocks id) × BehindSize Then q.answer qs told

-- For a page of the mapped blocks of a volume one walk is asked for. unit: the bytes of a block.
abbrev pub AsksMap : ℕ → ℕ → ℕ → List Question → Result (List ℕ) Refusal → Type 0
AsksMap unit id from qs told = Walks id from (λ slots rest said. IsPaged unit from 16777216 [] slots rest said) qs told

-- both walks of a page of a delta: blocks are those of the new volume
abbrev pub AsksBoth : ℕ → ℕ → ℕ → ℕ → ℕ → List Question → Result (List ℕ) Refusal → Type 0
AsksBoth unit old new from blocks qs told = Walks old from (λ one behind said. Walks new from (λ other rest last. IsPaged unit from blocks one other rest last) behind said) qs told

-- For a page of the blocks in which a volume may differ from another, its size is asked for, and then a walk over each.
abbrev pub AsksDelta : ℕ → ℕ → ℕ → ℕ → List Question → Result (List ℕ) Refusal → Type 0
AsksDelta unit old new from qs told = Sizes new (λ blocks rest said. AsksBoth unit old new from blocks rest said) qs told

-- A volume's size is asked for, and told.
abbrev pub AsksSize : ℕ → ℕ → List Question → Result (List ℕ) Refusal → Type 0
AsksSize unit id qs told = Sizes id (λ blocks rest said. (rest ≡ []) × (said ≡ Ok (size_text unit blocks))) qs told

-- what is told where a call that was to write a text answered so
abbrev pub told_by : Result (Unit {0}) Refusal → List ℕ → Result (List ℕ) Refusal
told_by (Ok done) text = Ok text
told_by (Err reason) text = Err reason
