-- A sector with the magic, the version and these fields is the spelling of the superblock, and the other way round.
use Rattle.std.proofs.Common.{◌≡◌, ℕ, zero, suc, eqb, ◌+◌, ◌^◌, ◌<◌, ◌≤◌, Bool, true, false, List, [], ◌++◌, length, take, drop, refl, sym, ap, subst, ◌∙◌, arith, append_assoc, length-append, inl, inr}
use Rattle.std.specs.Prelude.{codes}
use Rattle.std.proofs.lemmas.List.{take-append-drop, take_at, append-nil}
use Rattle.tp_layout.specs.declared.superblock.Superblock.{Superblock}
use Rattle.tp_layout.specs.declared.superblock.SlotId.{SlotId}
use Rattle.tp_layout.specs.declared.superblock.Slot.{Slot}
use Rattle.tp_layout.specs.declared.superblock.Slot.TheVariants.{Foreign, Other, Bad, Good}
use Rattle.tp_layout.specs.declared.superblock.Version.{Version}
use Rattle.tp_layout.specs.declared.superblock.Version.TheVariants.{OneSize, OwnSizes}
use Rattle.tp_layout.specs.Numbers.{le32, le64, number32, number64, zeros}
use Rattle.tp_layout.specs.Super.{flags_of, super_bytes, version_number, IsGoodSuper, HasMagic, HasVersion, StandsIn}
use Rattle.tp_layout.specs.SuperFields.{SuperFields}
use Rattle.tp_layout.proofs.NumberLaws.{IsBytes, length-le32, length-le64, number32-le32, number64-le64, number32-take, number64-take, le64-number64}
use Rattle.tp_layout.proofs.Pieces.{Puts, take_two, next, written_more}
use Rattle.tp_layout.proofs.EntryLaws.{at_place}
use Rattle.tp_layout.proofs.NodeLaws.{at_place32}

pub magic_bytes : le64 0x4c4f_4f50_4e49_4854 ≡ codes "THINPOOL"
unfolding le64
magic_bytes = refl

pub magic_from_number : (bytes : List ℕ) → IsBytes bytes → 8 ≤ length bytes → number64 bytes ≡ 0x4c4f_4f50_4e49_4854 → take 8 bytes ≡ codes "THINPOOL"
magic_from_number bytes h len e = sym (le64-number64 bytes h len) ∙ ap le64 e ∙ magic_bytes

pub number_from_magic : (bytes : List ℕ) → take 8 bytes ≡ codes "THINPOOL" → number64 bytes ≡ 0x4c4f_4f50_4e49_4854
number_from_magic bytes e =
    sym (number64-take bytes) ∙ ap number64 (e ∙ sym magic_bytes ∙ sym (append-nil (le64 0x4c4f_4f50_4e49_4854))) ∙ number64-le64 0x4c4f_4f50_4e49_4854 [] (omega arith)

pub version_from_number : (bytes : List ℕ) (version : Version) → IsBytes bytes → 12 ≤ length bytes → number32 (drop 8 bytes) ≡ version_number version → HasVersion bytes
version_from_number bytes version h len e = (version, sym (at_place32 bytes 8 h len) ∙ ap le32 e)

version_below : (version : Version) → version_number version < 2 ^ 32
version_below OneSize = omega arith
version_below OwnSizes = omega arith

pub number_from_version : (bytes : List ℕ) (version : Version) → take 4 (drop 8 bytes) ≡ le32 (version_number version) → number32 (drop 8 bytes) ≡ version_number version
number_from_version bytes version e =
    sym (number32-take (drop 8 bytes)) ∙ ap number32 (e ∙ sym (append-nil (le32 (version_number version)))) ∙ number32-le32 (version_number version) [] (version_below version)

pub version_same : (a b : Version) → version_number a ≡ version_number b → a ≡ b
version_same OneSize OneSize e = refl
version_same OneSize OwnSizes e = absurd (omega arith)
version_same OwnSizes OneSize e = absurd (omega arith)
version_same OwnSizes OwnSizes e = refl

at32 : (bytes : List ℕ) (n x : ℕ) → IsBytes bytes → n + 4 ≤ length bytes → number32 (drop n bytes) ≡ x → le32 x ≡ take 4 (drop n bytes)
at32 bytes n x h room e = ap le32 (sym e) ∙ at_place32 bytes n h room

at64 : (bytes : List ℕ) (n x : ℕ) → IsBytes bytes → n + 8 ≤ length bytes → number64 (drop n bytes) ≡ x → le64 x ≡ take 8 (drop n bytes)
at64 bytes n x h room e = ap le64 (sym e) ∙ at_place bytes n h room

pub super_spelled : (s : Superblock) (bytes : List ℕ) → IsBytes bytes → length bytes ≡ 512 → number64 bytes ≡ 0x4c4f_4f50_4e49_4854 → number32 (drop 8 bytes) ≡ version_number s.version → SuperFields s bytes → bytes ≡ super_bytes s
unfolding super_bytes
super_spelled s bytes h len m v f =
    let m0 : codes "THINPOOL" ≡ take 8 bytes = sym (magic_from_number bytes h (omega arith) m) in
    let t1 = take_two bytes _ _ 8 4 m0 (at32 bytes 8 (version_number s.version) h (omega arith) v) in
    let t2 = take_two bytes _ _ 12 4 t1 (at32 bytes 12 _ h (omega arith) f.flags) in
    let t3 = take_two bytes _ _ 16 8 t2 (at64 bytes 16 _ h (omega arith) f.sequence) in
    let t4 = take_two bytes _ _ 24 8 t3 (at64 bytes 24 _ h (omega arith) f.transaction_id) in
    let t5 = take_two bytes _ _ 32 4 t4 (at32 bytes 32 _ h (omega arith) f.block_sectors) in
    let t6 = take_two bytes _ _ 36 4 t5 (at32 bytes 36 _ h (omega arith) f.virtual_blocks) in
    let t7 = take_two bytes _ _ 40 4 t6 (at32 bytes 40 _ h (omega arith) f.metadata_blocks) in
    let t8 = take_two bytes _ _ 44 4 t7 (at32 bytes 44 _ h (omega arith) f.data_blocks) in
    let t9 = take_two bytes _ _ 48 8 t8 (at64 bytes 48 _ h (omega arith) f.root) in
    let t10 = take_two bytes _ _ 56 8 t9 (at64 bytes 56 _ h (omega arith) f.held) in
    let front : List ℕ = codes "THINPOOL" ++ le32 (version_number s.version) ++ le32 (flags_of s.needs_check) ++ le64 s.sequence ++ le64 s.transaction_id ++ le32 s.geometry.block_sectors ++ le32 s.geometry.virtual_blocks ++ le32 s.geometry.metadata_blocks ++ le32 s.geometry.data_blocks ++ le64 s.root ++ le64 s.held_root in
    sym (take-append-drop 64 bytes) ∙ ap (λ (x : List ℕ). x ++ drop 64 bytes) (sym t10) ∙ ap (λ (x : List ℕ). front ++ x) f.tail

flags_below : (b : Bool) → flags_of b < 2 ^ 32
flags_below true = omega arith
flags_below false = omega arith

-- the numbers at the places of a spelling
pub record SuperLaid (s : Superblock) (bytes : List ℕ) : Type 0 where
  pub has_magic : HasMagic bytes
  pub has_version : HasVersion bytes
  pub magic : number64 bytes ≡ 0x4c4f_4f50_4e49_4854
  pub version : number32 (drop 8 bytes) ≡ version_number s.version
  pub fields : SuperFields s bytes

read32 : (bytes rest : List ℕ) (n x : ℕ) → drop n bytes ≡ le32 x ++ rest → x < 2 ^ 32 → number32 (drop n bytes) ≡ x
read32 bytes rest n x e lt = ap number32 e ∙ number32-le32 x rest lt

read64 : (bytes rest : List ℕ) (n x : ℕ) → drop n bytes ≡ le64 x ++ rest → x < 2 ^ 64 → number64 (drop n bytes) ≡ x
read64 bytes rest n x e lt = ap number64 e ∙ number64-le64 x rest lt

held_below : {slot : SlotId} (s : Superblock) → IsGoodSuper slot s → s.held_root < 2 ^ 64
held_below s good = elim good.held [ inl e ↦ omega (arith, e) | inr t ↦ omega (arith, t.1, good.geometry.metadata_most) ]

laid_of : (slot : SlotId) (s : Superblock) → IsGoodSuper slot s → SuperLaid s (super_bytes s)
unfolding super_bytes
laid_of slot s good =
    let a = le64 0x4c4f_4f50_4e49_4854 in
    let b = le32 (version_number s.version) in
    let c = le32 (flags_of s.needs_check) in
    let d = le64 s.sequence in
    let e = le64 s.transaction_id in
    let f = le32 s.geometry.block_sectors in
    let g = le32 s.geometry.virtual_blocks in
    let h = le32 s.geometry.metadata_blocks in
    let i = le32 s.geometry.data_blocks in
    let j = le64 s.root in
    let k = le64 s.held_root in
    let z = zeros 448 in
    let bytes : List ℕ = codes "THINPOOL" ++ b ++ c ++ d ++ e ++ f ++ g ++ h ++ i ++ j ++ k ++ z in
    let d0 : bytes ≡ a ++ (b ++ (c ++ (d ++ (e ++ (f ++ (g ++ (h ++ (i ++ (j ++ (k ++ z)))))))))) = ap (λ (x : List ℕ). x ++ b ++ c ++ d ++ e ++ f ++ g ++ h ++ i ++ j ++ k ++ z) (sym magic_bytes) ∙ simp append_assoc refl in
    let d8 = next bytes a _ 0 8 d0 (length-le64 _) in
    let d12 = next bytes b _ 8 4 d8 (length-le32 _) in
    let d16 = next bytes c _ 12 4 d12 (length-le32 _) in
    let d24 = next bytes d _ 16 8 d16 (length-le64 _) in
    let d32 = next bytes e _ 24 8 d24 (length-le64 _) in
    let d36 = next bytes f _ 32 4 d32 (length-le32 _) in
    let d40 = next bytes g _ 36 4 d36 (length-le32 _) in
    let d44 = next bytes h _ 40 4 d40 (length-le32 _) in
    let d48 = next bytes i _ 44 4 d44 (length-le32 _) in
    let d56 = next bytes j _ 48 8 d48 (length-le64 _) in
    let d64 = next bytes k _ 56 8 d56 (length-le64 _) in
    record {
      has_magic = ap (take 8) d0 ∙ take_at a _ 8 (length-le64 _) ∙ magic_bytes;
      has_version = (s.version, ap (take 4) d8 ∙ take_at b _ 4 (length-le32 _));
      magic = ap number64 d0 ∙ number64-le64 _ _ (omega arith);
      version = read32 bytes _ 8 _ d8 (version_below s.version);
      fields = record {
        flags = read32 bytes _ 12 _ d12 (flags_below s.needs_check);
        sequence = read64 bytes _ 16 _ d16 good.sequence;
        transaction_id = read64 bytes _ 24 _ d24 good.transaction_id;
        block_sectors = read32 bytes _ 32 _ d32 (omega (arith, good.geometry.block_most));
        virtual_blocks = read32 bytes _ 36 _ d36 (omega (arith, good.geometry.virtual_most));
        metadata_blocks = read32 bytes _ 40 _ d40 (omega (arith, good.geometry.metadata_most));
        data_blocks = read32 bytes _ 44 _ d44 (omega (arith, good.geometry.data_most));
        root = read64 bytes _ 48 _ d48 (omega (arith, good.root.1, good.geometry.metadata_most));
        held = read64 bytes _ 56 _ d56 (held_below s good);
        tail = d64;
      };
    }

pub super_laid : (slot : SlotId) (s : Superblock) (bytes : List ℕ) → IsGoodSuper slot s → bytes ≡ super_bytes s → SuperLaid s bytes
super_laid slot s bytes good e = subst (SuperLaid s) (sym e) (laid_of slot s good)

flags_same : (a b : Bool) → flags_of a ≡ flags_of b → a ≡ b
flags_same true true e = refl
flags_same true false e = absurd (omega arith)
flags_same false true e = absurd (omega arith)
flags_same false false e = refl

made : Version → Bool → ℕ → ℕ → ℕ → ℕ → ℕ → ℕ → ℕ → ℕ → Superblock
made version flags sequence transaction b v m d root held = record { version = version; needs_check = flags; sequence = sequence; transaction_id = transaction; geometry = record { block_sectors = b; virtual_blocks = v; metadata_blocks = m; data_blocks = d }; root = root; held_root = held }

-- one sector has the fields of one superblock
pub super_same : (s t : Superblock) (bytes : List ℕ) → s.version ≡ t.version → SuperFields s bytes → SuperFields t bytes → s ≡ t
unfolding made
super_same s t bytes version p q =
    let flags = flags_same s.needs_check t.needs_check (sym p.flags ∙ q.flags) in
    let all : made s.version s.needs_check s.sequence s.transaction_id s.geometry.block_sectors s.geometry.virtual_blocks s.geometry.metadata_blocks s.geometry.data_blocks s.root s.held_root
    ≡ made t.version t.needs_check t.sequence t.transaction_id t.geometry.block_sectors t.geometry.virtual_blocks t.geometry.metadata_blocks t.geometry.data_blocks t.root t.held_root =
    rw (version, flags, sym p.sequence ∙ q.sequence, sym p.transaction_id ∙ q.transaction_id, sym p.block_sectors ∙ q.block_sectors, sym p.virtual_blocks ∙ q.virtual_blocks, sym p.metadata_blocks ∙ q.metadata_blocks, sym p.data_blocks ∙ q.data_blocks, sym p.root ∙ q.root, sym p.held ∙ q.held) refl in
    all

pub flags_from_number : (n : ℕ) → n ≤ 1 → n ≡ flags_of (eqb n 1)
flags_from_number zero h = refl
flags_from_number (suc zero) h = refl
flags_from_number (suc (suc n)) h = absurd (omega arith)

pub super_written : (s : Superblock) (b0 b1 b2 b3 b4 b5 b6 b7 b8 b9 b10 b11 : List ℕ) → b0 ≡ zeros 512
    → Puts 0 8 (le64 0x4c4f_4f50_4e49_4854) b0 b1 → Puts 8 4 (le32 (version_number s.version)) b1 b2 → Puts 12 4 (le32 (flags_of s.needs_check)) b2 b3
    → Puts 16 8 (le64 s.sequence) b3 b4 → Puts 24 8 (le64 s.transaction_id) b4 b5
    → Puts 32 4 (le32 s.geometry.block_sectors) b5 b6 → Puts 36 4 (le32 s.geometry.virtual_blocks) b6 b7 → Puts 40 4 (le32 s.geometry.metadata_blocks) b7 b8 → Puts 44 4 (le32 s.geometry.data_blocks) b8 b9
    → Puts 48 8 (le64 s.root) b9 b10 → Puts 56 8 (le64 s.held_root) b10 b11 → b11 ≡ super_bytes s
unfolding super_bytes
super_written s b0 b1 b2 b3 b4 b5 b6 b7 b8 b9 b10 b11 e0 p1 p2 p3 p4 p5 p6 p7 p8 p9 p10 p11 =
    let a = le64 0x4c4f_4f50_4e49_4854 in
    let b = le32 (version_number s.version) in
    let c = le32 (flags_of s.needs_check) in
    let d = le64 s.sequence in
    let e = le64 s.transaction_id in
    let f = le32 s.geometry.block_sectors in
    let g = le32 s.geometry.virtual_blocks in
    let h = le32 s.geometry.metadata_blocks in
    let i = le32 s.geometry.data_blocks in
    let j = le64 s.root in
    let k = le64 s.held_root in
    let len2 : length (a ++ b) ≡ 12 = simp (length-append, length-le32, length-le64) refl in
    let len3 : length (a ++ b ++ c) ≡ 16 = simp (length-append, length-le32, length-le64) refl in
    let len4 : length (a ++ b ++ c ++ d) ≡ 24 = simp (length-append, length-le32, length-le64) refl in
    let len5 : length (a ++ b ++ c ++ d ++ e) ≡ 32 = simp (length-append, length-le32, length-le64) refl in
    let len6 : length (a ++ b ++ c ++ d ++ e ++ f) ≡ 36 = simp (length-append, length-le32, length-le64) refl in
    let len7 : length (a ++ b ++ c ++ d ++ e ++ f ++ g) ≡ 40 = simp (length-append, length-le32, length-le64) refl in
    let len8 : length (a ++ b ++ c ++ d ++ e ++ f ++ g ++ h) ≡ 44 = simp (length-append, length-le32, length-le64) refl in
    let len9 : length (a ++ b ++ c ++ d ++ e ++ f ++ g ++ h ++ i) ≡ 48 = simp (length-append, length-le32, length-le64) refl in
    let len10 : length (a ++ b ++ c ++ d ++ e ++ f ++ g ++ h ++ i ++ j) ≡ 56 = simp (length-append, length-le32, length-le64) refl in
    let w1 : b1 ≡ a ++ zeros 504 = written_more b0 b1 [] a 512 0 8 refl (length-le64 _) e0 p1 in
    let w2 = written_more b1 b2 a b 512 8 4 (length-le64 _) (length-le32 _) w1 p2 in
    let w3 = written_more b2 b3 (a ++ b) c 512 12 4 len2 (length-le32 _) w2 p3 in
    let w4 = written_more b3 b4 (a ++ b ++ c) d 512 16 8 len3 (length-le64 _) w3 p4 in
    let w5 = written_more b4 b5 (a ++ b ++ c ++ d) e 512 24 8 len4 (length-le64 _) w4 p5 in
    let w6 = written_more b5 b6 (a ++ b ++ c ++ d ++ e) f 512 32 4 len5 (length-le32 _) w5 p6 in
    let w7 = written_more b6 b7 (a ++ b ++ c ++ d ++ e ++ f) g 512 36 4 len6 (length-le32 _) w6 p7 in
    let w8 = written_more b7 b8 (a ++ b ++ c ++ d ++ e ++ f ++ g) h 512 40 4 len7 (length-le32 _) w7 p8 in
    let w9 = written_more b8 b9 (a ++ b ++ c ++ d ++ e ++ f ++ g ++ h) i 512 44 4 len8 (length-le32 _) w8 p9 in
    let w10 = written_more b9 b10 (a ++ b ++ c ++ d ++ e ++ f ++ g ++ h ++ i) j 512 48 8 len9 (length-le64 _) w9 p10 in
    let w11 : b11 ≡ a ++ b ++ c ++ d ++ e ++ f ++ g ++ h ++ i ++ j ++ k ++ zeros 448 = written_more b10 b11 (a ++ b ++ c ++ d ++ e ++ f ++ g ++ h ++ i ++ j) k 512 56 8 len10 (length-le64 _) w10 p11 in
    w11 ∙ ap (λ (x : List ℕ). x ++ b ++ c ++ d ++ e ++ f ++ g ++ h ++ i ++ j ++ k ++ zeros 448) magic_bytes

-- a good superblock's spelling has the magic and the version
pub good_magic : (slot : SlotId) (s : Superblock) (sector : List ℕ) → IsGoodSuper slot s → sector ≡ super_bytes s → HasMagic sector
good_magic slot s sector good e = (super_laid slot s sector good e).has_magic

pub good_version : (slot : SlotId) (s : Superblock) (sector : List ℕ) → IsGoodSuper slot s → sector ≡ super_bytes s → HasVersion sector
good_version slot s sector good e = (super_laid slot s sector good e).has_version

good_same : (slot : SlotId) (s t : Superblock) (sector : List ℕ) → IsGoodSuper slot s → sector ≡ super_bytes s → IsGoodSuper slot t → sector ≡ super_bytes t → s ≡ t
good_same slot s t sector p e q f =
    let a = super_laid slot s sector p e in
    let b = super_laid slot t sector q f in
    super_same s t sector (version_same s.version t.version (sym a.version ∙ b.version)) a.fields b.fields

-- a sector is of one kind
pub one_kind : (slot : SlotId) (sector : List ℕ) (a b : Slot) → StandsIn slot sector a → StandsIn slot sector b → a ≡ b
one_kind slot sector Foreign Foreign p q = refl
one_kind slot sector Foreign Other p q = absurd (p q.0)
one_kind slot sector Foreign Bad p q = absurd (p q.0)
one_kind slot sector Foreign (Good t) p q = absurd (p (good_magic slot t sector q.0 q.1))
one_kind slot sector Other Foreign p q = absurd (q p.0)
one_kind slot sector Other Other p q = refl
one_kind slot sector Other Bad p q = absurd (p.1 q.1)
one_kind slot sector Other (Good t) p q = absurd (p.1 (good_version slot t sector q.0 q.1))
one_kind slot sector Bad Foreign p q = absurd (q p.0)
one_kind slot sector Bad Other p q = absurd (q.1 p.1)
one_kind slot sector Bad Bad p q = refl
one_kind slot sector Bad (Good t) p q = absurd (p.2 t q.0 q.1)
one_kind slot sector (Good s) Foreign p q = absurd (q (good_magic slot s sector p.0 p.1))
one_kind slot sector (Good s) Other p q = absurd (q.1 (good_version slot s sector p.0 p.1))
one_kind slot sector (Good s) Bad p q = absurd (q.2 s p.0 p.1)
one_kind slot sector (Good s) (Good t) p q = ap Good (good_same slot s t sector p.0 p.1 q.0 q.1)
