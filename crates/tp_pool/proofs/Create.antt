-- How the creation of a volume is refused.
use Rattle.std.proofs.Common.{◌≡◌, inl, inr, ℕ, ◌-◌, ◌≤◌, ◌<◌, ◌↔◌, Bool, true, false, not, Option, None, Some, List, refl, [], ◌∷◌, sym, ◌∙◌, ap, arith}
use Rattle.std.specs.Prelude.{IsTrue, nat_le}
use Rattle.std.proofs.lemmas.Bool.{cases_lt, le-leb, lt-leb, true≢false}
use Rattle.std.proofs.lemmas.Option.{none-some}
use Rattle.tp_model.specs.declared.refusal.Refusal.{Refusal}
use Rattle.tp_model.specs.declared.refusal.Refusal.TheVariants.{Exists, Failed, NoMetadataSpace, NoSuchDevice, ReadOnly, TooManyDevices}
use Rattle.tp_model.specs.Geometry.{Geometry}
use Rattle.tp_model.specs.Sectors.{Sector}
use Rattle.tp_model.specs.Pool.{PlainPool, device_count}
use Rattle.tp_model.specs.Calls.{exists, first_failed, has_metadata_room, is_failed, is_read_only, refusal_of}
use Rattle.tp_stored.specs.Contents.{Contents, HasContents}
use Rattle.tp_pool.specs.Messages.{create_call}
use Rattle.tp_pool.specs.Writing.{LacksBlocks, LacksMetadata}

-- a volume is to have an origin that is not there
abbrev pub lacks_origin : PlainPool → Option ℕ → Bool
lacks_origin s None = false
lacks_origin s (Some origin) = not (exists s origin)

-- the tests of the call, by their verdicts
abbrev pub create_verdict : Bool → Bool → Bool → Bool → Bool → Bool → Option Refusal
create_verdict failed read_only misses there many short = first_failed (
    (failed, Failed) ∷ (read_only, ReadOnly) ∷ (misses, NoSuchDevice) ∷ (there, Exists) ∷ (many, TooManyDevices) ∷ (short, NoMetadataSpace) ∷ [])

pub tests_are : (s : PlainPool) (id : ℕ) (origin : Option ℕ) (failed read_only misses there many short : Bool) → is_failed s.mode ≡ failed → is_read_only s.mode ≡ read_only
    → lacks_origin s origin ≡ misses → exists s id ≡ there → nat_le 65536 (device_count s) ≡ many → not (has_metadata_room s 512) ≡ short
    → refusal_of s (create_call id origin) ≡ create_verdict failed read_only misses there many short
tests_are s id None failed read_only misses there many short a b m c d e = (λ i. create_verdict (a i) (b i) (m i) (c i) (d i) (e i))
tests_are s id (Some origin) failed read_only misses there many short a b m c d e = (λ i. create_verdict (a i) (b i) (m i) (c i) (d i) (e i))

-- the verdict of three tests
abbrev verdict_of : Bool → Bool → Bool → Option Refusal
verdict_of misses there many = first_failed ((misses, NoSuchDevice) ∷ (there, Exists) ∷ (many, TooManyDevices) ∷ [])

pub three_pass : (misses there many : Bool) → verdict_of misses there many ≡ None → (misses ≡ false) × (there ≡ false) × (many ≡ false)
three_pass true there many e = absurd (none-some NoSuchDevice (sym e))
three_pass false true many e = absurd (none-some Exists (sym e))
three_pass false false true e = absurd (none-some TooManyDevices (sym e))
three_pass false false false e = (refl, refl, refl)

pub verdict_first : (misses there many short : Bool) (reason : Refusal) → verdict_of misses there many ≡ Some reason
    → create_verdict false false misses there many short ≡ Some reason
verdict_first true there many short reason e = e
verdict_first false true many short reason e = e
verdict_first false false true short reason e = e
verdict_first false false false short reason e = absurd (none-some reason e)

-- the room for metadata, as it is tested
pub enough_blocks_are : (least : ℕ) (s : PlainPool) (g : Geometry) (c : Contents) (image : List Sector) → HasContents g c image s → (LacksBlocks least g c → ⊥)
    → has_metadata_room s least ≡ true
enough_blocks_are least s g c image has enough =
    let room : s.geometry.metadata_blocks - s.meta_used ≡ g.metadata_blocks - c.meta_used =
    (λ i. (has.geometry i).metadata_blocks - has.meta_used i) in
    ap (λ n. nat_le least n) room ∙ le-leb least (g.metadata_blocks - c.meta_used) (at_least least (g.metadata_blocks - c.meta_used) enough)
  where
    at_least : (a b : ℕ) → (b < a → ⊥) → a ≤ b
    at_least a b h = elim (cases_lt b a) [ inl lt ↦ absurd (h lt) | inr ge ↦ omega (arith, ge) ]

pub lacking_blocks_are : (least : ℕ) (s : PlainPool) (g : Geometry) (c : Contents) (image : List Sector) → HasContents g c image s → LacksBlocks least g c
    → has_metadata_room s least ≡ false
lacking_blocks_are least s g c image has lacks =
    let room : s.geometry.metadata_blocks - s.meta_used ≡ g.metadata_blocks - c.meta_used =
    (λ i. (has.geometry i).metadata_blocks - has.meta_used i) in
    ap (λ n. nat_le least n) room ∙ lt-leb least (g.metadata_blocks - c.meta_used) lacks

pub room_is : (s : PlainPool) (g : Geometry) (c : Contents) (image : List Sector) → HasContents g c image s → (LacksMetadata g c → ⊥)
    → not (has_metadata_room s 512) ≡ false
room_is s g c image has enough = ap not (enough_blocks_are 512 s g c image has enough)

pub no_room_is : (s : PlainPool) (g : Geometry) (c : Contents) (image : List Sector) → HasContents g c image s → LacksMetadata g c
    → not (has_metadata_room s 512) ≡ true
no_room_is s g c image has lacks = ap not (lacking_blocks_are 512 s g c image has lacks)

-- what the test of the room tells
pub passes_blocks : (least : ℕ) (g : Geometry) (now : Contents) (lacks : Bool) → IsTrue lacks ↔ LacksBlocks least g now → lacks ≡ false → LacksBlocks least g now → ⊥
passes_blocks least g now lacks tested passes short = true≢false (sym (tested.1 short) ∙ passes)

pub passes_room : (g : Geometry) (now : Contents) (lacks : Bool) → IsTrue lacks ↔ LacksMetadata g now → lacks ≡ false → LacksMetadata g now → ⊥
passes_room g now lacks tested passes short = passes_blocks 512 g now lacks tested passes short
