-- What each step of the store of nodes does to the nodes that stand.
use Rattle.std.proofs.Common.{◌≡◌, ◌≢◌, ℕ, ◌+◌, ◌*◌, ◌<◌, ◌≤◌, List, ◌∷◌, ◌++◌, length, get_or, set, refl, sym, ap, subst, ◌∙◌, arith, inl, inr, Bool, true, false, get_or-set_other, get_or-set_same}
use Rattle.std.proofs.Math.ListN.{length-set}
use Rattle.std.proofs.lemmas.Bool.{cases_eq, cases_lt}
use Rattle.std.proofs.lemmas.List.{get_or_append_left, set-append_left, length-map}
use Rattle.tp_model.specs.Geometry.{Geometry, fixed_part, metadata_sector}
use Rattle.tp_model.specs.Sectors.{Sector, sectors_of}
use Rattle.tp_model.specs.Disk.{DiskState, IsWellFormed, Writes, after_write, seen}
use Rattle.tp_model.specs.DiskStops.{LeavesOutside, SameOutside}
use Rattle.tp_model.proofs.DiskLaws.{length-sectors_of}
use Rattle.tp_model.proofs.DiskStopLaws.{SameOutside-writes, bytes_at-after_write, bytes_at-outside, goes_on_outside, starts_outside}
use Rattle.tp_layout.specs.Node.{IsNode, NodeValue, node_bytes, is_long, most_entries}
use Rattle.tp_layout.specs.declared.counts.Part.{Part}
use Rattle.tp_layout.specs.declared.counts.Part.TheVariants.{Data, Metadata}
use Rattle.tp_layout.specs.declared.superblock.SlotId.{SlotId}
use Rattle.tp_layout.specs.declared.superblock.SlotId.TheVariants.{One, Zero}
use Rattle.tp_image.specs.Areas.{counts_sector, counts_sectors}
use Rattle.tp_image.specs.Nodes.{block_at}
use Rattle.tp_refs.specs.Store.{MayName, Node, Store, children, count_of, kept_of, node_at, node_from, moved_by, first_named, with_count, with_node, no_node}
use Rattle.tp_refs.specs.Balance.{occurrences}
use Rattle.tp_refs.proofs.Steps.{one_same, one_other, count_other, held_live, held_closed}
use Rattle.tp_refs.proofs.Moves.{taken, shared, written}
use Rattle.tp_tm.specs.Tm.{Tm, IsRecounted, counts_now, counts_kept}
use Rattle.tp_tm.specs.Holds.{Holds, IsSpelled, Stands}

-- Another count of one block: what is live and closed afterwards has to have been so before.
pub recounted : (t u : Tm) (image : List Sector) (opens then : List ℕ) (s : Store) (x n : ℕ) → Stands t image opens s → u.geometry ≡ t.geometry → counts_now u ≡ set (counts_now t) x n → counts_kept u ≡ counts_kept t
    → ((b : ℕ) → 0 < count_of (with_count s x n) b → occurrences b then ≡ 0 → (0 < count_of s b) × (occurrences b opens ≡ 0)) → Stands u image then (with_count s x n)
recounted t u image opens then s x n st geometry now kept before = record {
  counts = ap (λ l. set l x n) st.counts ∙ sym now;
  kept = st.kept ∙ sym kept;
  sized = st.sized ∙ sym (ap (λ g. g.metadata_blocks) geometry);
  nodes = λ b live closed ranked.
      let q = before b live closed in
      subst (λ m. IsSpelled m image b (node_at s b)) (sym (ap (λ g. g.metadata_blocks) geometry)) (st.nodes b q.0 q.1 ranked);
}

-- a live block that gets another count over 0
pub live_before : (s : Store) (x n : ℕ) → 0 < count_of s x → (b : ℕ) → 0 < count_of (with_count s x n) b → 0 < count_of s b
live_before s x n live b now =
    elim (cases_eq b x) [
      | inl e ↦ subst (λ c. 0 < count_of s c) (sym e) live
      | inr d ↦ subst (λ c. 0 < c) (count_other s x n b d) now
    ]

-- the counts of metadata blocks by reference
pub now_at : (t : Tm) (s : Store) (x : ℕ) → length t.metadata_now ≡ t.geometry.metadata_blocks → x < t.geometry.metadata_blocks → s.counts ≡ counts_now t → count_of s x ≡ get_or t.metadata_now x 0
now_at t s x long inside e = ap (λ l. get_or l x 0) e ∙ get_or_append_left t.metadata_now t.data_now 0 x (omega arith)

pub kept_at : (t : Tm) (s : Store) (x : ℕ) → length t.metadata_kept ≡ t.geometry.metadata_blocks → x < t.geometry.metadata_blocks → s.kept ≡ counts_kept t → kept_of s x ≡ get_or t.metadata_kept x 0
kept_at t s x long inside e = ap (λ l. get_or l x 0) e ∙ get_or_append_left t.metadata_kept t.data_kept 0 x (omega arith)

abbrev pub with_now : Tm → ℕ → ℕ → Tm
with_now t x n = record { geometry = t.geometry; metadata_now = set t.metadata_now x n; metadata_kept = t.metadata_kept; data_now = t.data_now; data_kept = t.data_kept; held_root = t.held_root }

pub now_set : (t : Tm) (x n : ℕ) → length t.metadata_now ≡ t.geometry.metadata_blocks → x < t.geometry.metadata_blocks → counts_now (with_now t x n) ≡ set (counts_now t) x n
now_set t x n long inside = sym (set-append_left t.metadata_now t.data_now x n (omega arith))

-- a free block is taken
pub taken_reference : (t u : Tm) (disk : DiskState) (opens held : List ℕ) (s : Store) (x : ℕ) → x < length s.counts → count_of s x ≡ 0 → kept_of s x ≡ 0 → IsRecounted t u x 1 → Holds t disk opens held s
    → Holds u disk (x ∷ opens) held (with_count s x 1)
taken_reference t u disk opens held s x below is is_kept r h = record {
  stands = recounted t u (seen disk.cells) opens (x ∷ opens) s x 1 h.stands r.geometry r.now r.kept
      (λ b live closed.
      let d : b ≢ x = λ e. let o = one_same x b (sym e) in let z : ⊥ = omega (arith, o) in z in
      (subst (λ c. 0 < c) (count_other s x 1 b d) live, omega arith));
  balanced = taken s opens held x h.balanced is is_kept below;
}

pub taken_holds : (t : Tm) (disk : DiskState) (opens held : List ℕ) (s : Store) (x : ℕ) → length t.metadata_now ≡ t.geometry.metadata_blocks → length t.metadata_kept ≡ t.geometry.metadata_blocks → x < t.geometry.metadata_blocks
    → get_or t.metadata_now x 0 ≡ 0 → get_or t.metadata_kept x 0 ≡ 0 → Holds t disk opens held s → Holds (with_now t x 1) disk (x ∷ opens) held (with_count s x 1)
taken_holds t disk opens held s x long kept_long inside now kept h =
    taken_reference t (with_now t x 1) disk opens held s x (omega (arith, h.stands.sized, h.balanced.sized)) (now_at t s x long inside h.stands.counts ∙ now) (kept_at t s x kept_long inside h.stands.kept ∙ kept)
    (record { geometry = refl; now = now_set t x 1 long inside; kept = refl; held_root = refl }) h

-- a live block that is not open gets one more reference, which is held
named_reference : (t u : Tm) (disk : DiskState) (opens held : List ℕ) (s : Store) (x : ℕ) → IsRecounted t u x (get_or (counts_now t) x 0 + 1) → Holds t disk opens held s
    → 0 < count_of s x → occurrences x opens ≡ 0 → Holds u disk opens (x ∷ held) (with_count s x (count_of s x + 1))
named_reference t u disk opens held s x r h live closed =
    let is : count_of s x ≡ get_or (counts_now t) x 0 = ap (λ l. get_or l x 0) h.stands.counts in
    record {
      stands = recounted t u (seen disk.cells) opens opens s x (count_of s x + 1) h.stands r.geometry
          (r.now ∙ ap (λ c. set (counts_now t) x (c + 1)) (sym is)) r.kept
          (λ b now closed. (live_before s x (count_of s x + 1) live b now, closed));
      balanced = shared s opens held x h.balanced live closed;
    }

-- a held block gets one more reference
pub shared_reference : (t u : Tm) (disk : DiskState) (opens held : List ℕ) (s : Store) (x : ℕ) → IsRecounted t u x (get_or (counts_now t) x 0 + 1) → Holds t disk opens (x ∷ held) s
    → Holds u disk opens (x ∷ x ∷ held) (with_count s x (count_of s x + 1))
shared_reference t u disk opens held s x r h =
    let here : 0 < occurrences x (x ∷ held) = omega (arith, one_same x x refl) in
    named_reference t u disk opens (x ∷ held) s x r h (held_live s opens (x ∷ held) x h.balanced here) (held_closed s opens (x ∷ held) x h.balanced here)

node_recounted : (t : Tm) (x : ℕ) → length t.metadata_now ≡ t.geometry.metadata_blocks → x < t.geometry.metadata_blocks → IsRecounted t (with_now t x (get_or t.metadata_now x 0 + 1)) x (get_or (counts_now t) x 0 + 1)
node_recounted t x long inside =
    let n = get_or t.metadata_now x 0 in
    let is : get_or (counts_now t) x 0 ≡ n = get_or_append_left t.metadata_now t.data_now 0 x (omega arith) in
    record { geometry = refl; now = now_set t x (n + 1) long inside ∙ ap (λ c. set (counts_now t) x (c + 1)) (sym is); kept = refl; held_root = refl }

pub shared_holds : (t : Tm) (disk : DiskState) (opens held : List ℕ) (s : Store) (x : ℕ) → length t.metadata_now ≡ t.geometry.metadata_blocks → x < t.geometry.metadata_blocks
    → Holds t disk opens (x ∷ held) s → Holds (with_now t x (get_or t.metadata_now x 0 + 1)) disk opens (x ∷ x ∷ held) (with_count s x (count_of s x + 1))
shared_holds t disk opens held s x long inside h = shared_reference t (with_now t x (get_or t.metadata_now x 0 + 1)) disk opens held s x (node_recounted t x long inside) h

pub named_holds : (t : Tm) (disk : DiskState) (opens held : List ℕ) (s : Store) (x : ℕ) → length t.metadata_now ≡ t.geometry.metadata_blocks → x < t.geometry.metadata_blocks
    → Holds t disk opens held s → 0 < count_of s x → occurrences x opens ≡ 0 → Holds (with_now t x (get_or t.metadata_now x 0 + 1)) disk opens (x ∷ held) (with_count s x (count_of s x + 1))
named_holds t disk opens held s x long inside h live closed = named_reference t (with_now t x (get_or t.metadata_now x 0 + 1)) disk opens held s x (node_recounted t x long inside) h live closed

-- a block that lies apart from the one that is written
pub spelled_outside : (m x b : ℕ) (old new : List Sector) (node : Node) → SameOutside (metadata_sector x) 8 old new → b ≢ x → IsSpelled m old b node → IsSpelled m new b node
spelled_outside m x b old new node same apart was = (
  was.0,
  (
    record {
      good = was.1.0.good;
      own = was.1.0.own;
      bytes = bytes_at-outside (8 * b) 8 same (elim (cases_lt b x) [ inl l ↦ inl (omega arith) | inr g ↦ inr (omega (arith, apart)) ]) ∙ was.1.0.bytes;
    },
    was.1.1,
  ),
)

-- the areas lie in the fixed part
area_below : (g : Geometry) (part : Part) (area : SlotId) → counts_sector g part area + counts_sectors g part ≤ metadata_sector (fixed_part g)
area_below g Metadata Zero = omega arith
area_below g Metadata One = omega arith
area_below g Data Zero = omega arith
area_below g Data One = omega arith

-- counts are written into an area
pub area_holds : (t : Tm) (old new : DiskState) (part : Part) (area : SlotId) (opens held : List ℕ) (s : Store) → SameOutside (counts_sector t.geometry part area) (counts_sectors t.geometry part) (seen old.cells) (seen new.cells)
    → Holds t old opens held s → ((b : ℕ) → b < fixed_part t.geometry → (node_at s b).rank ≡ 0) → Holds t new opens held s
area_holds t old new part area opens held s same h none = record {
  stands = record {
    counts = h.stands.counts;
    kept = h.stands.kept;
    sized = h.stands.sized;
    nodes = λ b live closed ranked.
        let was = h.stands.nodes b live closed ranked in
        let above : fixed_part t.geometry ≤ b = elim (cases_lt b (fixed_part t.geometry)) [ inl l ↦ absurd (omega (arith, none b l, ranked)) | inr g ↦ g ] in (
          was.0,
          (
            record {
              good = was.1.0.good;
              own = was.1.0.own;
              bytes = bytes_at-outside (8 * b) 8 same (inr (omega (arith, above, area_below t.geometry part area))) ∙ was.1.0.bytes;
            },
            was.1.1,
          ),
        );
  };
  balanced = h.balanced;
}

-- the block that is open may hold anything
pub open_holds : (t : Tm) (old new : DiskState) (opens held : List ℕ) (s : Store) (x : ℕ) → SameOutside (metadata_sector x) 8 (seen old.cells) (seen new.cells)
    → Holds t old (x ∷ opens) held s → Holds t new (x ∷ opens) held s
open_holds t old new opens held s x same h = record {
  stands = record {
    counts = h.stands.counts;
    kept = h.stands.kept;
    sized = h.stands.sized;
    nodes = λ b live closed ranked. spelled_outside t.geometry.metadata_blocks x b (seen old.cells) (seen new.cells) (node_at s b) same
        (λ e. let o = one_same x b (sym e) in let z : ⊥ = omega (arith, o) in z) (h.stands.nodes b live closed ranked);
  };
  balanced = h.balanced;
}

pub few_entries : (m : ℕ) (n : NodeValue) → IsNode n → length (node_from m n).entries ≤ 252
few_entries m n good =
    let most : most_entries (is_long n.kind n.level) ≤ 252 = each (is_long n.kind n.level) in
    omega (arith, length-map n.entries (moved_by (first_named m n.kind n.level)), good.form.room)
  where
    each : (long : Bool) → most_entries long ≤ 252
    each true = omega arith
    each false = omega arith

-- the open block is written, and closed
pub written_holds : (t : Tm) (old new : DiskState) (opens held : List ℕ) (s : Store) (n : NodeValue) (bytes : List ℕ) → IsNode n → bytes ≡ node_bytes n → length bytes ≡ 4096 → n.own < t.geometry.metadata_blocks
    → IsWellFormed old.size old.cells → metadata_sector t.geometry.metadata_blocks ≤ old.size → new ≡ after_write (metadata_sector n.own) (sectors_of bytes) old
    → SameOutside (metadata_sector n.own) 8 (seen old.cells) (seen new.cells)
    → Holds t old (n.own ∷ opens) (children (node_from t.geometry.metadata_blocks n) ++ held) s
    → ((c : ℕ) → 0 < occurrences c (children (node_from t.geometry.metadata_blocks n)) → MayName (node_from t.geometry.metadata_blocks n).rank (node_at s c).rank)
    → Holds t new opens (n.own ∷ held) (with_node s n.own (node_from t.geometry.metadata_blocks n))
written_holds t old new opens held s n bytes good is long inside formed room e same h ranks =
    let node = node_from t.geometry.metadata_blocks n in
    let below : n.own < length s.nodes = omega (arith, h.stands.sized) in
    let at : node_at (with_node s n.own node) n.own ≡ node = get_or-set_same s.nodes n.own node no_node below in
    record {
      stands = record {
        counts = h.stands.counts;
        kept = h.stands.kept;
        sized = length-set s.nodes n.own node ∙ h.stands.sized;
        nodes = λ b live closed ranked. elim (cases_eq b n.own) [
          | inl f ↦ (
            n,
            (
              record {
                good = good;
                own = sym f;
                bytes = ap (block_at (seen new.cells)) f ∙ bytes_at-after_write (8 * n.own) 8 bytes old new formed (omega (arith, long)) (omega (arith, room)) e ∙ is;
              },
              ap (node_at (with_node s n.own node)) f ∙ at,
            ),
          )
          | inr d ↦
              let stays : node_at (with_node s n.own node) b ≡ node_at s b = get_or-set_other s.nodes n.own b node no_node d in
              subst (λ (x : Node). IsSpelled t.geometry.metadata_blocks (seen new.cells) b x) (sym stays)
              (spelled_outside t.geometry.metadata_blocks n.own b (seen old.cells) (seen new.cells) (node_at s b) same d
              (h.stands.nodes b live (omega (arith, one_other n.own b (λ f. d (sym f)))) (subst (λ (x : Node). 0 < x.rank) stays ranked)))
        ];
      };
      balanced = written s opens held n.own node h.balanced below (few_entries t.geometry.metadata_blocks n good) ranks;
    }

-- a write of one block
pub block_outside : {old new : DiskState} (x : ℕ) (bytes : List ℕ) → length bytes ≡ 4096 → Writes (metadata_sector x) (sectors_of bytes) old new → SameOutside (metadata_sector x) 8 (seen old.cells) (seen new.cells)
block_outside x bytes long writes = SameOutside-writes (8 * x) 8 writes (omega arith) (omega (arith, length-sectors_of bytes, long))

pub block_moments : {old new : DiskState} (x : ℕ) (bytes : List ℕ) → length bytes ≡ 4096 → Writes (metadata_sector x) (sectors_of bytes) old new → LeavesOutside (metadata_sector x) 8 old new
block_moments {old} {new} x bytes long writes = goes_on_outside (starts_outside (8 * x) 8 old) writes (omega arith) (omega (arith, length-sectors_of bytes, long))
