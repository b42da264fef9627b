-- Trusted reading: what BLOCK_STATUS is answered, by what walks over the volume and over an older one told (NBD's proto.md, "NBD_CMD_BLOCK_STATUS",
-- "Metadata querying": base:allocation; thinpool:since: and how far one answer goes are own).
use Rattle.std.specs.Prelude.{◌≡◌, ◌≢◌, ◌⊎◌, ℕ, ◌+◌, ◌-◌, ◌*◌, ◌/◌, ◌%◌, ◌==◌, ◌<◌, ◌≤◌, List, [], ◌∷◌, ◌++◌, length, take, min, max, nat_lt, if◌then◌else◌, Bool, true, false, Some, None, IsSome, IsTrue, MatchBool}
use Rattle.tp_model.specs.Geometry.{Geometry}
use Rattle.tp_model.specs.Sectors.{Sector, zero_sector}
use Rattle.tp_model.specs.Pool.{PlainPool, slot_at, volume_sector}
use Rattle.tp_listings.specs.declared.extent.Extent.{Extent}
use Rattle.tp_listings.specs.Pages.{AreOrdered, IsPage}
use Rattle.nbd_wire.specs.declared.Request.{Request}
use Rattle.nbd_wire.specs.declared.contexts.MetaContext.{MetaContext}
use Rattle.nbd_wire.specs.declared.contexts.MetaContext.TheVariants.{Allocation, Since}
use Rattle.nbd_wire.specs.Contexts.{status_chunk}

-- the bytes of a block
abbrev pub unit_of : Geometry → ℕ
unit_of g = 512 * g.block_sectors

-- the block in which a request begins, and the one behind that in which it ends, 2^24 at most
abbrev pub first_block : ℕ → Request → ℕ
first_block unit r = r.offset / unit

abbrev pub blocks_to : ℕ → Request → ℕ
blocks_to unit r = min 16777215 ((r.offset + (r.len - 1)) / unit) + 1

-- the place that is nearest to this one
abbrev pub between : ℕ → ℕ → ℕ → ℕ
between least most at = max least (min most at)

-- The flags of the blocks that a page lists: data (0) in base:allocation, and dirty (1), that is, they may differ, in thinpool:since:.
abbrev pub listed_flags : MetaContext → ℕ
listed_flags Allocation = 0
listed_flags Since = 1

-- And of those that it leaves out: a hole, and zeros (3); and clean (0).
abbrev pub other_flags : MetaContext → ℕ
other_flags Allocation = 3
other_flags Since = 0

-- so many bytes that are left out, if there are some
abbrev pub gap_to : MetaContext → ℕ → ℕ → List (ℕ × ℕ)
gap_to context at to = if nat_lt at to then (to - at, other_flags context) ∷ [] else []

-- From a byte of a volume up to another one, where a page lists these runs of blocks.
abbrev pub extents_in : MetaContext → ℕ → ℕ → ℕ → List Extent → List (ℕ × ℕ)
extents_in context unit at end [] = gap_to context at end
extents_in context unit at end (run ∷ runs) =
    let first = between at end (unit * run.first) in
    let last = between first end (unit * (run.first + run.blocks)) in
    gap_to context at first ++ ((last - first, listed_flags context) ∷ extents_in context unit last end runs)

-- a request with the flag REQ_ONE, the fourth, is answered one extent alone
abbrev pub wants_one : Request → Bool
wants_one r = r.flags / 8 % 2 == 1

abbrev pub cut_to_one : Bool → List (ℕ × ℕ) → List (ℕ × ℕ)
cut_to_one one extents = if one then take 1 extents else extents

-- One chunk, which is the last or not: extents from the beginning of the request on, up to its end, or as far as a page of the blocks in which the volume may differ from an
-- older one goes, by what walks over both from there on listed. With no slots of an older one it is a page of the blocks that are mapped.
pub record IsStatus (is_last : Bool) (context : MetaContext) (unit : ℕ) (r : Request) (old new : List (ℕ × ℕ)) (sent : List ℕ) : Type 0 where
  pub runs : List Extent
  pub blocks : ℕ
  pub page : AreOrdered old → AreOrdered new → IsPage old new (first_block unit r) (blocks_to unit r) runs blocks
  pub sent_is : sent ≡ status_chunk is_last context r.cookie (cut_to_one (wants_one r) (extents_in context unit r.offset (between r.offset (r.offset + r.len) (unit * blocks)) runs))

-- where there is data
abbrev pub IsAllocation : Bool → ℕ → Request → List (ℕ × ℕ) → List ℕ → Type 0
IsAllocation is_last unit r slots sent = IsStatus is_last Allocation unit r [] slots sent

-- where it may differ from the older one; no chunk is behind this one
abbrev pub IsSince : ℕ → Request → List (ℕ × ℕ) → List (ℕ × ℕ) → List ℕ → Type 0
IsSince unit r old new sent = IsStatus true Since unit r old new sent

-- both, in the order of their numbers
pub record AreBoth (unit : ℕ) (r : Request) (old new : List (ℕ × ℕ)) (sent : List ℕ) : Type 0 where
  pub first : List ℕ
  pub second : List ℕ
  pub allocation : IsAllocation false unit r new first
  pub since : IsSince unit r old new second
  pub sent_is : sent ≡ first ++ second

-- the second alone, or both, where base:allocation was asked for too
abbrev pub TellsSince : Bool → ℕ → Request → List (ℕ × ℕ) → List (ℕ × ℕ) → List ℕ → Type 0
TellsSince is_allocation_told unit r old new sent = MatchBool is_allocation_told (AreBoth unit r old new sent) (IsSince unit r old new sent)

-- ---- what extents tell of a plain volume

-- its block at this byte is mapped
abbrev pub IsMapped : PlainPool → ℕ → ℕ → Type 0
IsMapped s id k = IsSome (slot_at s id (k / unit_of s.geometry))

-- it is not
abbrev pub IsUnmapped : PlainPool → ℕ → ℕ → Type 0
IsUnmapped s id k = slot_at s id (k / unit_of s.geometry) ≡ None

-- it has the same data block as that of an older volume, or both have none
abbrev pub IsSame : PlainPool → ℕ → ℕ → ℕ → Type 0
IsSame s old id k = slot_at s id (k / unit_of s.geometry) ≡ slot_at s old (k / unit_of s.geometry)

-- it has not
abbrev pub IsOther : PlainPool → ℕ → ℕ → ℕ → Type 0
IsOther s old id k = slot_at s id (k / unit_of s.geometry) ≢ slot_at s old (k / unit_of s.geometry)

-- its sector at this byte is that of the older volume, where both have one
abbrev pub IsEqual : PlainPool → ℕ → ℕ → ℕ → Type 0
IsEqual s old id k = (here there : Sector) → volume_sector s id (k / 512) ≡ Some here → volume_sector s old (k / 512) ≡ Some there → here ≡ there

-- its sector at this byte, where it has one, is all zero
abbrev pub IsBlank : PlainPool → ℕ → ℕ → Type 0
IsBlank s id k = (x : Sector) → volume_sector s id (k / 512) ≡ Some x → x ≡ zero_sector

-- so many bytes from this one on are such
abbrev pub AllOf : (ℕ → Type 0) → ℕ → ℕ → Type 0
AllOf Such at n = (k : ℕ) → at ≤ k → k < at + n → Such k

-- Each of these extents, which lie one behind the other from this byte on, has a byte at least, and all its bytes are listed, or all are left out.
abbrev pub AreTold : MetaContext → (ℕ → Type 0) → (ℕ → Type 0) → ℕ → List (ℕ × ℕ) → Type 0
AreTold context Listed Other at [] = Unit {0}
AreTold context Listed Other at (x ∷ xs) =
    (0 < x.0) × (((x.1 ≡ listed_flags context) × AllOf Listed at x.0) ⊎ ((x.1 ≡ other_flags context) × AllOf Other at x.0)) × AreTold context Listed Other (at + x.0) xs

-- how many bytes they have
abbrev pub bytes_of : List (ℕ × ℕ) → ℕ
bytes_of [] = 0
bytes_of (x ∷ xs) = x.0 + bytes_of xs

-- What is sent is one chunk of extents from the first byte of the request on: they tell of each byte which of two things it is, there is one at least, none ends
-- behind the request, and with REQ_ONE there is one alone.
pub record TellsOf (is_last : Bool) (context : MetaContext) (Listed Other : ℕ → Type 0) (r : Request) (sent : List ℕ) : Type 0 where
  pub extents : List (ℕ × ℕ)
  pub sent_is : sent ≡ status_chunk is_last context r.cookie extents
  pub told : AreTold context Listed Other r.offset extents
  pub some : 0 < bytes_of extents
  pub inside : bytes_of extents ≤ r.len
  pub one : IsTrue (wants_one r) → length extents ≡ 1
