-- References to the children of a node that is copied, one after another.
use Rattle.std.proofs.Common.{◌≡◌, ◌≢◌, ℕ, ◌+◌, ◌-◌, ◌<◌, ◌≤◌, List, ◌∷◌, ◌++◌, length, get_or, set, take, refl, sym, ap, subst, ◌∙◌, arith, inl, inr}
use Rattle.std.proofs.lemmas.Bool.{cases_eq}
use Rattle.std.specs.Prelude.{slice_get, Some, ◌^◌}
use Rattle.tp_model.specs.Geometry.{Geometry}
use Rattle.tp_model.specs.Disk.{DiskState, seen}
use Rattle.tp_layout.specs.declared.kind.TreeKind.{TreeKind}
use Rattle.tp_layout.specs.Node.{NodeValue}
use Rattle.tp_layout.specs.declared.entry.Entry.{Entry}
use Rattle.tp_refs.specs.Store.{Store, children, count_of, first_named, kept_of, node_at, node_from, with_count}
use Rattle.tp_refs.specs.Balance.{Balanced, HasRoomFor}
use Rattle.tp_refs.proofs.Steps.{count_other, count_same, live_below, occurrences-append}
use Rattle.tp_refs.proofs.Moves.{opened, reordered}
use Rattle.tp_refs.proofs.Names.{length-named_by, take_whole}
use Rattle.tp_refs.proofs.Children.{same_node, same_trans, sharing, sharing_below, sharing_live, sharing_room}
use Rattle.tp_tm.specs.Tm.{Tm, IsRaised, IsRecounted, NoneTaken, OnlyFewer, counts_now}
use Rattle.tp_tm.specs.Holds.{Holds, Released, Shadowed}
use Rattle.tp_tm.proofs.Standing.{live_before, recounted}
use Rattle.tp_tm.proofs.Releasing.{child_at, length-children, several}

module _ (old now : Tm) (disk : DiskState) (opens held : List ℕ) (s : Store) (b i m child : ℕ) (n : NodeValue) (e : Entry) (is : node_at s b ≡ node_from m n) (so_far : Released s now disk opens (take i (children (node_at s b)) ++ b ∷ held))
    (within : i < length n.entries) (at : slice_get n.entries i ≡ Some e) (place : child ≡ first_named m n.kind n.level + e.value) where
  abbrev ch : List ℕ
  ch = children (node_at s b)

  inside : i < length ch
  inside = omega (arith, ap (λ x. length (children x)) is, length-children m n)

  same_children : children (node_at so_far.after b) ≡ ch
  same_children = ap children (same_node s so_far.after so_far.same b)

  the_child : get_or ch i 0 ≡ child
  the_child = ap (λ x. get_or (children x) i 0) is ∙ child_at m n i e within at ∙ sym place

  count_is : count_of so_far.after child ≡ get_or (counts_now now) child 0
  count_is = ap (λ l. get_or l child 0) so_far.holds.stands.counts

  live : 0 < count_of so_far.after child
  live = subst (λ y. 0 < count_of so_far.after y) the_child (sharing_live so_far.after opens held b i ch so_far.holds.balanced same_children inside)

  pub raised_live : 0 < get_or (counts_now now) child 0
  raised_live = omega (arith, live, count_is)

  pub raised_below : child < length (counts_now now)
  raised_below =
      let below : child < length so_far.after.counts = subst (λ y. y < length so_far.after.counts) the_child (sharing_below so_far.after opens held b i ch so_far.holds.balanced same_children inside) in
      omega (arith, ap length so_far.holds.stands.counts)

  pub raised_room : HasRoomFor 300 opens held → get_or (counts_now now) child 0 + 1 < 2 ^ 32
  raised_room room =
      let small : length (node_at so_far.after b).entries ≤ 252 = so_far.holds.balanced.small b in
      let few : length ch ≤ 252 = omega (arith, length-named_by (node_at so_far.after b).rank (node_at so_far.after b).entries, ap length same_children) in
      let fits : count_of so_far.after child + 1 < 2 ^ 32 = subst (λ y. count_of so_far.after y + 1 < 2 ^ 32) the_child (sharing_room so_far.after opens held b i ch so_far.holds.balanced same_children inside room few) in
      subst (λ k. k + 1 < 2 ^ 32) count_is fits

  pub shared_more : (new : Tm) → IsRecounted now new child (get_or (counts_now now) child 0 + 1) → Released s new disk opens (take (i + 1) ch ++ b ∷ held)
  shared_more new r =
      let more = count_of so_far.after child + 1 in
      record {
        after = with_count so_far.after child more;
        holds = record {
          stands = recounted now new (seen disk.cells) opens opens so_far.after child more so_far.holds.stands r.geometry (r.now ∙ ap (λ k. set (counts_now now) child (k + 1)) (sym count_is)) r.kept
              (λ y there closed. (live_before so_far.after child more live y there, closed));
          balanced = subst (λ y. Balanced (with_count so_far.after y (count_of so_far.after y + 1)) opens (take (i + 1) ch ++ b ∷ held)) the_child
              (sharing so_far.after opens held b i ch so_far.holds.balanced same_children inside);
        };
        same = record { nodes = so_far.same.nodes; kept = so_far.same.kept };
      }

-- before the first child, and when all children are shared
pub none_shared : (t : Tm) (disk : DiskState) (opens held : List ℕ) (s : Store) (b : ℕ) → Holds t disk opens (b ∷ held) s → Released s t disk opens (b ∷ held)
none_shared t disk opens held s b h = record { after = s; holds = h; same = record { nodes = refl; kept = refl } }

pub all_shared : (s : Store) (new : Tm) (disk : DiskState) (opens held : List ℕ) (b i m : ℕ) (n : NodeValue) → node_at s b ≡ node_from m n → length n.entries ≤ i → Released s new disk opens (take i (children (node_at s b)) ++ b ∷ held)
    → Released s new disk opens (children (node_at s b) ++ b ∷ held)
all_shared s new disk opens held b i m n is past r =
    subst (λ l. Released s new disk opens (l ++ b ∷ held)) (take_whole i (children (node_at s b)) (omega (arith, ap (λ x. length (children x)) is, length-children m n))) r

-- the reference that goes stands first
pub own_first : (t : Tm) (disk : DiskState) (opens held : List ℕ) (s : Store) (b : ℕ) (ch : List ℕ) → Holds t disk opens (ch ++ b ∷ held) s → Holds t disk opens (b ∷ (ch ++ held)) s
own_first t disk opens held s b ch h = record {
  stands = h.stands;
  balanced = reordered s opens (ch ++ b ∷ held) (b ∷ (ch ++ held)) (λ x. omega (arith, occurrences-append x ch (b ∷ held), occurrences-append x ch held)) h.balanced;
}

-- ---- counts that rise

pub untaken_refl : (t : Tm) → NoneTaken t t
untaken_refl t = record { geometry = refl; metadata_kept = refl; data_kept = refl; held_root = refl; metadata = λ b h. h; others = λ b h. h }

pub untaken_trans : (t u v : Tm) → NoneTaken t u → NoneTaken u v → NoneTaken t v
untaken_trans t u v p q = record {
  geometry = q.geometry ∙ p.geometry;
  metadata_kept = q.metadata_kept ∙ p.metadata_kept;
  data_kept = q.data_kept ∙ p.data_kept;
  held_root = q.held_root ∙ p.held_root;
  metadata = λ b h. q.metadata b (p.metadata b h);
  others = λ b h. q.others b (p.others b h);
}

-- counts that only fall
pub fewer_untaken : (t u : Tm) → OnlyFewer t u → NoneTaken t u
fewer_untaken t u p = record {
  geometry = p.geometry;
  metadata_kept = p.metadata_kept;
  data_kept = p.data_kept;
  held_root = p.held_root;
  metadata = λ b h. omega (arith, h, p.metadata b);
  others = λ b h. omega (arith, h, p.others b);
}

pub raised_refl : (t : Tm) → IsRaised t t
raised_refl t = record { untaken = untaken_refl t; counts = λ b. omega arith }

pub raised_trans : (t u v : Tm) → IsRaised t u → IsRaised u v → IsRaised t v
raised_trans t u v p q = record { untaken = untaken_trans t u v p.untaken q.untaken; counts = λ b. omega (arith, p.counts b, q.counts b) }

-- what is shared when the first i children are
abbrev pub SharedSoFar : Tm → NodeValue → Tm → ℕ → Type 0
SharedSoFar old v now i = (disk : DiskState) (opens held : List ℕ) (s : Store) (b : ℕ) → Holds old disk opens (b ∷ held) s → node_at s b ≡ node_from old.geometry.metadata_blocks v
    → Released s now disk opens (take i (children (node_at s b)) ++ b ∷ held)

-- a private block is opened where it stands
pub opened_holds : (t : Tm) (disk : DiskState) (opens held : List ℕ) (s : Store) (x : ℕ) → Holds t disk opens (x ∷ held) s → count_of s x ≡ 1 → kept_of s x ≡ 0 → Shadowed s t disk x x opens held
opened_holds t disk opens held s x h one kept = record {
  after = s;
  holds = record {
    stands = record {
      counts = h.stands.counts;
      kept = h.stands.kept;
      sized = h.stands.sized;
      nodes = λ b live closed ranked. h.stands.nodes b live (omega (arith, closed)) ranked;
    };
    balanced = opened s opens held x h.balanced one kept;
  };
  same = record { nodes = refl; kept = refl };
  lower = record { nodes = λ b live closed low. refl; live = λ b live closed low. live };
}

-- the same value of an entry, in the words of two nodes that are the same
pub named_as : (m n : Geometry) (kind other : TreeKind) (level lvl value : ℕ) → n ≡ m → kind ≡ other → level ≡ lvl → first_named n.metadata_blocks kind level + value ≡ first_named m.metadata_blocks other lvl + value
named_as m n kind other level lvl value e f l = λ i. first_named (e i).metadata_blocks (f i) (l i) + value

-- a reference goes when the children are shared
pub passed_on : (s : Store) (now new : Tm) (disk : DiskState) (opens held : List ℕ) (x : ℕ) → Released s now disk opens (children (node_at s x) ++ x ∷ held) → IsRecounted now new x (get_or (counts_now now) x 0 - 1) → 1 < get_or (counts_now now) x 0
    → Released s new disk opens (children (node_at s x) ++ held)
passed_on s now new disk opens held x r recount more =
    let q = several now new disk opens (children (node_at s x) ++ held) r.after x (own_first now disk opens held r.after x (children (node_at s x)) r.holds) recount more in
    record { after = q.after; holds = q.holds; same = same_trans s r.after q.after r.same q.same }

-- A copy is opened: the fresh block `to` was taken before, and only the node's own count may fall.
pub copied : (s : Store) (now new : Tm) (disk : DiskState) (opens held : List ℕ) (x to : ℕ) → Holds now disk (to ∷ opens) (x ∷ held) (with_count s to 1)
    → Released (with_count s to 1) new disk (to ∷ opens) (children (node_at s x) ++ held) → ((b : ℕ) → b ≢ x → get_or (counts_now now) b 0 ≤ get_or (counts_now new) b 0) → Shadowed s new disk to x opens held
copied s now new disk opens held x to h r others = record {
  after = r.after;
  holds = r.holds;
  same = record { nodes = r.same.nodes; kept = r.same.kept };
  lower = record {
    nodes = λ b live closed low. same_node s r.after (record { nodes = r.same.nodes; kept = r.same.kept }) b;
    live = λ b live closed low.
        let apart : b ≢ x = λ e. let ranks : (node_at s b).rank ≡ (node_at s x).rank = ap (λ y. (node_at s y).rank) e in let z : ⊥ = omega arith in z in
        let before : 0 < count_of (with_count s to 1) b = live_after s to b live in
        let was : count_of (with_count s to 1) b ≡ get_or (counts_now now) b 0 = ap (λ l. get_or l b 0) h.stands.counts in
        let is : count_of r.after b ≡ get_or (counts_now new) b 0 = ap (λ l. get_or l b 0) r.holds.stands.counts in
        omega (arith, others b apart);
  };
}
  where
    live_after : (t : Store) (y b : ℕ) → 0 < count_of t b → 0 < count_of (with_count t y 1) b
    live_after t y b live =
        elim (cases_eq b y) [
          | inl e ↦
              let same : count_of (with_count t y 1) b ≡ 1 = ap (count_of (with_count t y 1)) e ∙ count_same t y 1 (subst (λ z. z < length t.counts) e (live_below t b live)) in
              omega arith
          | inr d ↦ omega (arith, live, count_other t y 1 b d)
        ]
