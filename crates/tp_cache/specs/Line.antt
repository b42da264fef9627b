-- Trusted reading: a cache's state beside that of the disk under it, at each of its moments (own).
use Rattle.std.specs.Prelude.{◌≡◌, ℕ, ◌+◌, ◌-◌, ◌≤◌, Bool, List, [], ◌∷◌, ◌++◌, length, take, drop, map, if◌then◌else◌}
use Rattle.std.specs.List.{AllByRecursion}
use Rattle.tp_model.specs.Sectors.{Sector, sectors_of}
use Rattle.tp_model.specs.Disk.{Cell, DiskState, IsSettled, IsWellFormed, after_flush, after_read, after_write}
use Rattle.tp_model.specs.DiskStops.{AfterStop, Leaves, moment, moments}
use Rattle.tp_cache.specs.declared.step.Step.{Step}
use Rattle.tp_cache.specs.declared.step.Step.TheVariants.{NoChange, Keep, Pass, Unwritten, Flush}

pub record Line : Type 0 where
  -- the disk as if each write had been done at once
  pub outer : DiskState
  -- the disk under it
  pub inner : DiskState
  -- for each moment of the outer disk, the newest first, what the inner one was while it lasted, the newest first
  pub under : List (List (List Cell))

-- a cache that holds nothing, over this disk
abbrev pub begun : DiskState → Line
begun disk = record { outer = disk; inner = disk; under = map (λ cells. cells ∷ []) (moments disk) }

-- what the inner disk was since then, the newest first
abbrev pub since : DiskState → DiskState → List (List Cell)
since old new = take (length (moments new) - length (moments old)) (moments new)

-- more at the present moment
unfoldable pub grown : List (List Cell) → List (List (List Cell)) → List (List (List Cell))
grown more [] = []
grown more (now ∷ before) = (more ++ now) ∷ before

-- the outer cells after a write to the inner disk failed: each gets the values that the inner one got
unfoldable pub followed : List Cell → List Cell → List Cell → List Cell
followed [] old new = []
followed (s ∷ ss) [] new = s ∷ ss
followed (s ∷ ss) (o ∷ os) [] = s ∷ ss
followed (s ∷ ss) (o ∷ os) (n ∷ ns) = record { kept = s.kept; later = s.later ++ drop (length o.later) n.later } ∷ followed ss os ns

-- after a write that went to the inner disk
abbrev pub after_pass : ℕ → List Sector → Bool → DiskState → DiskState → DiskState → DiskState
after_pass at values ok outer old new = record outer {
  cells = if ok then (after_write at values outer).cells else followed outer.cells old.cells new.cells;
  past = outer.cells ∷ outer.past;
  failures = if ok then outer.failures else outer.failures + 1;
}

-- after a write that failed and changed no sector
abbrev pub after_unwritten : DiskState → DiskState
after_unwritten outer = record outer { past = outer.cells ∷ outer.past; failures = outer.failures + 1 }

-- after a step that left the inner disk in this state
abbrev pub after_step : Step → List ℕ → Line → DiskState → Line
after_step (NoChange ok) bytes line inner = record { outer = after_read ok line.outer; inner = inner; under = grown (since line.inner inner) line.under }
after_step (Keep at) bytes line inner = record { outer = after_write at (sectors_of bytes) line.outer; inner = inner; under = since line.inner inner ∷ line.under }
after_step (Pass at ok) bytes line inner = record { outer = after_pass at (sectors_of bytes) ok line.outer line.inner inner; inner = inner; under = since line.inner inner ∷ line.under }
after_step Unwritten bytes line inner = record { outer = after_unwritten line.outer; inner = inner; under = since line.inner inner ∷ line.under }
after_step (Flush ok) bytes line inner = record {
  outer = after_flush ok line.outer;
  inner = inner;
  under = if ok then since line.inner inner ∷ line.under else grown (since line.inner inner) line.under;
}

-- ---- what a stop leaves

-- What a stop leaves of the one, a stop may leave of the other.
abbrev pub IsCovered : List Cell → List Cell → Type 0
IsCovered outer inner = Leaves (AfterStop outer) inner

-- at each moment
abbrev pub AreCovered : List (List (List Cell)) → List (List Cell) → Type 0
AreCovered [] [] = Unit {0}
AreCovered [] (s ∷ ss) = ⊥
AreCovered (g ∷ gs) [] = ⊥
AreCovered (g ∷ gs) (s ∷ ss) = AllByRecursion (IsCovered s) g × AreCovered gs ss

unfoldable pub all_of : List (List (List Cell)) → List (List Cell)
all_of [] = []
all_of (g ∷ gs) = g ++ all_of gs

-- The line has all moments of the inner disk, and at each a stop leaves of it what a stop may leave of the outer one.
pub record HasMoments (line : Line) : Type 0 where
  pub real : all_of line.under ≡ moments line.inner
  pub covered : AreCovered line.under (moments line.outer)
  pub now : IsCovered line.outer.cells line.inner.cells

-- what stays as it is from the one disk to the other
pub record IsTwin (outer inner : DiskState) : Type 0 where
  pub size : inner.size ≡ outer.size
  pub is_honest : inner.is_honest ≡ outer.is_honest
  pub failures : inner.failures ≡ outer.failures
  pub flushes : inner.flushes ≤ outer.flushes

-- what is known of every cache
pub record IsLine (line : Line) : Type 0 where
  pub twin : IsTwin line.outer line.inner
  pub well_formed : IsWellFormed line.outer.size line.outer.cells
  pub moments : HasMoments line
  -- where the outer disk is settled, the inner one has the same cells
  pub settled : IsSettled line.outer.cells → line.inner.cells ≡ line.outer.cells

-- What a stop leaves of the inner disk from `old` to `new`, it may leave of these cells.
pub record Moved (outer : List Cell) (old new : DiskState) : Type 0 where
  pub between : List (List Cell)
  pub joined : moments new ≡ between ++ moments old
  pub each : AllByRecursion (IsCovered outer) between

-- Time went on from the one to the other: moments were added, at the newest one of then and after it.
pub record WentOn (old new : List (List (List Cell))) : Type 0 where
  pub later : List (List (List Cell))
  pub more : List (List Cell)
  pub joined : new ≡ later ++ grown more old

-- the list without what was added to it, where it is one that went on from the other
unfoldable pub cut_head : List (List Cell) → List (List (List Cell)) → List (List (List Cell))
cut_head now [] = []
cut_head now (g ∷ gs) = drop (length g - length now) g ∷ gs

unfoldable pub cut : List (List (List Cell)) → List (List (List Cell)) → List (List (List Cell))
cut [] new = []
cut (now ∷ before) new = cut_head now (drop (length new - length (now ∷ before)) new)

-- The line went on from the other, as an equation.
abbrev pub IsSince : Line → Line → Type 0
IsSince old new = cut old.under new.under ≡ old.under

-- The inner disk was flushed as often as the outer one since then, but for flushes that failed before it was asked.
pub record FlushedAlike (old new : Line) : Type 0 where
  pub no_fewer : old.inner.flushes ≤ new.inner.flushes
  pub no_more : new.inner.flushes + old.outer.flushes ≤ new.outer.flushes + old.inner.flushes
  pub but_failed : new.outer.flushes + old.inner.flushes + old.outer.failures ≤ new.inner.flushes + old.outer.flushes + new.outer.failures

-- Time went on on the outer disk too. Where it did not, and no call flushed it, it did not on the inner one: so a call that only reads the one
-- writes nothing to the other, also where it fails.
pub record GoesAlong (old new : Line) : Type 0 where
  pub joined : drop (length (moments new.outer) - length (moments old.outer)) (moments new.outer) ≡ moments old.outer
  pub flushes : old.outer.flushes ≤ new.outer.flushes
  pub still : moment new.outer ≡ moment old.outer → new.outer.flushes ≡ old.outer.flushes → moment new.inner ≡ moment old.inner
