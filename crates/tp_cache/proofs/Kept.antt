-- Blocks that have slots, through each kind of call.
use Rattle.std.proofs.Common.{◌≡◌, ◌≢◌, inl, inr, ⊎_elim, ℕ, ◌+◌, ◌-◌, ◌*◌, ◌/◌, ◌<◌, ◌≤◌, List, [], length, replicate, sym, ◌∙◌, ap, arith}
use Rattle.std.specs.Prelude.{slice_index_or, slice_set}
use Rattle.std.proofs.lemmas.List.{get_or-set_same, get_or-set_other, length-map, length-set}
use Rattle.std.proofs.lemmas.Bool.{cases_eq, cases_lt}
use Rattle.tp_model.specs.Sectors.{Sector, bytes_at, sectors_of}
use Rattle.tp_model.specs.Disk.{Cell, IsWellFormed, Touched, cell_at, newest, seen, settled, written}
use Rattle.tp_model.proofs.DiskLaws.{Touched-written, length-sectors_of, seen-settled, sector_at-seen}
use Rattle.tp_model.proofs.DiskStopLaws.{bytes_at-same, bytes_at-written}
use Rattle.tp_cache.specs.Table.{IsApart, IsClean, IsKept, slot_of}
use Rattle.tp_cache.proofs.Caches.{no_slots}

pub Kept-begun : (index held owners : List ℕ) (slots : List (List ℕ)) (outer : List Cell) (blocks room : ℕ) → index ≡ replicate blocks 0 → held ≡ replicate blocks 0 → length owners ≡ room → length slots ≡ room
    → IsKept index held owners slots outer
Kept-begun index held owners slots outer blocks room ie he os ss =
    let none = no_slots held blocks he in
    let empty = no_slots index blocks ie in
    record {
      same_length = ap length (he ∙ sym ie);
      as_many = os ∙ sym ss;
      inside = λ b. let h = none b in omega (arith, h);
      agrees = λ b some. let h = empty b in absurd (omega (arith, some, h));
      owned = λ b some. let h = none b in absurd (omega (arith, some, h));
      value = λ b some. let h = none b in absurd (omega (arith, some, h));
    }

-- no block is dirty any more, and the disk reads the same
pub Kept-emptied : (index index' held owners : List ℕ) (slots : List (List ℕ)) (outer outer' : List Cell) → IsKept index held owners slots outer → seen outer' ≡ seen outer → length index' ≡ length index
    → ((block : ℕ) → slot_of index' block ≡ 0) → IsKept index' held owners slots outer'
Kept-emptied index index' held owners slots outer outer' k same long none = record {
  same_length = k.same_length ∙ sym long;
  as_many = k.as_many;
  inside = k.inside;
  agrees = λ b some. let h = none b in absurd (omega (arith, some, h));
  owned = k.owned;
  value = λ b some. k.value b some ∙ sym (ap (λ (l : List Sector). bytes_at l (8 * b) 8) same);
}

pub Kept-flushed : (index index' held owners : List ℕ) (slots : List (List ℕ)) (outer : List Cell) → IsKept index held owners slots outer → length index' ≡ length index
    → ((block : ℕ) → slot_of index' block ≡ 0) → IsKept index' held owners slots (settled (seen outer))
Kept-flushed index index' held owners slots outer k long none = Kept-emptied index index' held owners slots outer (settled (seen outer)) k (seen-settled (seen outer)) long none

-- a block whose sectors are as they were
same_block : (outer outer' : List Cell) (at n block : ℕ) (values : List Sector) → Touched at values outer outer' → length values ≡ n → IsApart at n block
    → bytes_at (seen outer') (8 * block) 8 ≡ bytes_at (seen outer) (8 * block) 8
same_block outer outer' at n block values touched many apart =
    bytes_at-same (8 * block) 8 (seen outer') (seen outer) (length-map outer' newest ∙ touched.same_length ∙ sym (length-map outer newest))
    (λ i low high.
    let cell : cell_at outer' i ≡ cell_at outer i
    = by i low high apart in
    sector_at-seen outer' i ∙ ap newest cell ∙ sym (sector_at-seen outer i))
  where
    by : (i : ℕ) → 8 * block ≤ i → i < 8 * block + 8 → IsApart at n block → cell_at outer' i ≡ cell_at outer i
    by i low high (inl a) = touched.below i (omega (arith, a, high))
    by i low high (inr (inl a)) = touched.above i (omega (arith, a, low, many))
    by i low high (inr (inr none)) = ⊎_elim {C = cell_at outer' i ≡ cell_at outer i} (λ lt. touched.below i lt) (λ ge. touched.above i (omega (arith, ge, many, none))) (cases_lt i at)

-- ---- a block is kept in memory

module _ {size : ℕ} (index held held' owners owners' : List ℕ) (slots : List (List ℕ)) (outer : List Cell) (block slot : ℕ) (bytes : List ℕ) (k : IsKept index held owners slots outer) (well : IsWellFormed size outer)
    (long : length bytes ≡ 4096) (inside : block < length index) (fits : 8 * block + 8 ≤ size) (some : 0 < slot) (room : slot ≤ length slots) (here : slot_of held' block ≡ slot)
    (there : (c : ℕ) → c ≢ block → 0 < slot_of held' c → (slot_of held' c ≡ slot_of held c) × (slot_of held' c ≢ slot)) where
  abbrev kept_slots : List (List ℕ)
  kept_slots = slice_set slots (slot - 1) bytes

  abbrev kept_outer : List Cell
  kept_outer = written (8 * block) (sectors_of bytes) outer

  many : length (sectors_of bytes) ≡ 8
  many = length-sectors_of bytes ∙ omega (arith, long)

  its : bytes_at (seen kept_outer) (8 * block) 8 ≡ bytes
  its =
      let n : length bytes / 512 ≡ 8 = omega (arith, long) in
      ap (λ m. bytes_at (seen kept_outer) (8 * block) m) (sym n) ∙ bytes_at-written (8 * block) bytes outer (omega (arith, long)) (omega (arith, n, fits, well.size_is))

  kept_value : (c : ℕ) → 0 < slot_of held' c → slice_index_or kept_slots (slot_of held' c - 1) [] ≡ bytes_at (seen kept_outer) (8 * c) 8
  kept_value c pos =
      ⊎_elim {C = slice_index_or kept_slots (slot_of held' c - 1) [] ≡ bytes_at (seen kept_outer) (8 * c) 8}
      (λ e. ap (λ b. slice_index_or kept_slots (slot_of held' b - 1) []) e ∙ ap (λ n. slice_index_or kept_slots (n - 1) []) here ∙ get_or-set_same slots (slot - 1) bytes [] (omega (arith, some, room))
      ∙ sym its ∙ ap (λ b. bytes_at (seen kept_outer) (8 * b) 8) (sym e))
      (λ ne.
      let t = there c ne pos in
      let e = t.0 in
      let pos' : 0 < slot_of held c = omega (arith, pos, e) in
      let apart : IsApart (8 * block) 8 c = ⊎_elim {C = IsApart (8 * block) 8 c} (λ lt. inl (omega (arith, lt))) (λ ge. inr (inl (omega (arith, ge, ne)))) (cases_lt c block) in
      ap (λ n. slice_index_or kept_slots (n - 1) []) e ∙ get_or-set_other slots (slot - 1) (slot_of held c - 1) bytes [] (λ q. t.1 (omega (arith, q, pos', some, e)))
      ∙ k.value c pos' ∙ sym (same_block outer kept_outer (8 * block) 8 c (sectors_of bytes) (Touched-written (8 * block) (sectors_of bytes) outer (omega (arith, many, fits, well.size_is))) many apart))
      (cases_eq c block)

  pub Kept-put : length held' ≡ length held → length owners' ≡ length owners → slice_index_or owners' (slot - 1) 0 ≡ block → ((s : ℕ) → s ≢ slot - 1 → slice_index_or owners' s 0 ≡ slice_index_or owners s 0)
      → ((c : ℕ) → c ≢ block → 0 < slot_of index c → slot_of held' c ≡ slot_of index c) → IsKept (slice_set index block slot) held' owners' kept_slots kept_outer
  Kept-put held_long owners_long its_owner others dirty =
      let n : length kept_slots ≡ length slots = length-set slots (slot - 1) bytes in
      record {
        same_length = held_long ∙ k.same_length ∙ sym (length-set index block slot);
        as_many = owners_long ∙ k.as_many ∙ sym n;
        inside = λ c. ⊎_elim {C = slot_of held' c ≤ length kept_slots} (λ e. let h = ap (slot_of held') e in omega (arith, h, here, room, n))
            (λ ne. ⊎_elim {C = slot_of held' c ≤ length kept_slots} (λ pos. let t = (there c ne pos).0 in let h = k.inside c in omega (arith, t, h, n)) (λ none. omega (arith, none)) (cases_lt 0 (slot_of held' c))) (cases_eq c block);
        agrees = λ c pos. ⊎_elim {C = slot_of held' c ≡ slot_of (slice_set index block slot) c}
            (λ e. ap (slot_of held') e ∙ here ∙ sym (get_or-set_same index block slot 0 inside) ∙ ap (slot_of (slice_set index block slot)) (sym e))
            (λ ne. let e = get_or-set_other index block c slot 0 ne in dirty c ne (omega (arith, pos, e)) ∙ sym e) (cases_eq c block);
        owned = λ c pos. ⊎_elim {C = slice_index_or owners' (slot_of held' c - 1) 0 ≡ c}
            (λ e. ap (λ b. slice_index_or owners' (slot_of held' b - 1) 0) e ∙ ap (λ m. slice_index_or owners' (m - 1) 0) here ∙ its_owner ∙ sym e)
            (λ ne.
            let t = there c ne pos in
            let e = t.0 in
            let pos' : 0 < slot_of held c = omega (arith, pos, e) in
            others (slot_of held' c - 1) (λ q. t.1 (omega (arith, q, pos, some))) ∙ ap (λ m. slice_index_or owners (m - 1) 0) e ∙ k.owned c pos') (cases_eq c block);
        value = kept_value;
      }

-- two blocks in one slot are one
pub one_owner : (index held owners : List ℕ) (slots : List (List ℕ)) (outer : List Cell) (one other : ℕ) → IsKept index held owners slots outer → 0 < slot_of held one → slot_of held one ≡ slot_of held other → one ≡ other
one_owner index held owners slots outer one other k some e =
    let pos : 0 < slot_of held other = omega (arith, some, e) in
    sym (k.owned one some) ∙ ap (λ m. slice_index_or owners (m - 1) 0) e ∙ k.owned other pos

-- a write below it that none of the blocks with slots has a sector of
pub Kept-touched : (index held held' owners : List ℕ) (slots : List (List ℕ)) (outer outer' : List Cell) (at n : ℕ) (values : List Sector) → IsKept index held owners slots outer → Touched at values outer outer' → length values ≡ n
    → length held' ≡ length held → ((c : ℕ) → 0 < slot_of held' c → (slot_of held' c ≡ slot_of held c) × IsApart at n c) → ((c : ℕ) → 0 < slot_of index c → slot_of held' c ≡ slot_of held c)
    → IsKept index held' owners slots outer'
Kept-touched index held held' owners slots outer outer' at n values k touched many long part dirty = record {
  same_length = long ∙ k.same_length;
  as_many = k.as_many;
  inside = λ c. ⊎_elim {C = slot_of held' c ≤ length slots} (λ pos. let t = (part c pos).0 in let h = k.inside c in omega (arith, t, h)) (λ none. omega (arith, none)) (cases_lt 0 (slot_of held' c));
  agrees = λ c pos. dirty c pos ∙ k.agrees c pos;
  owned = λ c pos. let e = (part c pos).0 in ap (λ m. slice_index_or owners (m - 1) 0) e ∙ k.owned c (omega (arith, pos, e));
  value = λ c pos.
      let p = part c pos in
      let e = p.0 in
      ap (λ m. slice_index_or slots (m - 1) []) e ∙ k.value c (omega (arith, pos, e)) ∙ sym (same_block outer outer' at n c values touched many p.1);
}

-- a dirty block is apart from a range that has none
pub apart_dirty : (index : List ℕ) (at n block : ℕ) → IsClean index at n → 0 < slot_of index block → IsApart at n block
apart_dirty index at n block clean some =
    let b = 8 * block in
    let hit : (i : ℕ) → i / 8 ≡ block → at ≤ i → i < at + n → IsApart at n block
    = λ i e low high. let none = clean i low high in let same = ap (slot_of index) e in absurd (omega (arith, some, none, same)) in
    ⊎_elim {C = IsApart at n block}
    (λ lt. ⊎_elim {C = IsApart at n block}
    (λ low. ⊎_elim {C = IsApart at n block} (λ over. ⊎_elim {C = IsApart at n block} (λ more. hit at (omega (arith, lt, over)) (omega arith) (omega (arith, more))) (λ none. inr (inr (omega (arith, none)))) (cases_lt 0 n))
    (λ under. hit b (omega arith) (omega (arith, under)) low) (cases_lt b at))
    (λ past. inr (inl (omega (arith, past)))) (cases_lt b (at + n)))
    (λ ge. inl (omega (arith, ge))) (cases_lt at (b + 8))
