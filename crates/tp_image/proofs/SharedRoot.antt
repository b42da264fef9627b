-- A volume with one block and its snapshot.
use Rattle.std.proofs.Common.{lit<, true, false, ◌^◌, zero, suc, ◌≡◌, ℕ, ◌<◌, List, [], ◌∷◌, inl, inr, ◌⊎◌, refl, sym, subst, arith}
use Rattle.std.specs.Prelude.{Contains, nat_eq, slice_index_or}
use Rattle.std.specs.List.{IsDistinct}
use Rattle.std.specs.List.Sorted.{IsStrictlyIncreasing}
use Rattle.std.proofs.lemmas.List.Elements.{All-from_recursion}
use Rattle.std.proofs.lemmas.Bool.{true≢false}
use Rattle.tp_model.specs.Sectors.{Sector}
use Rattle.tp_layout.specs.Node.{NodeValue, IsNode, FitsEntry}
use Rattle.tp_layout.specs.declared.entry.Entry.{Entry}
use Rattle.tp_image.specs.Nodes.{IsNodeAt, ends, IsMapped}
use Rattle.tp_image.specs.Counts.{IsReachable, itself, through, AreReachable, metadata_names}
use Rattle.tp_image.specs.Examples.{HasOneBlock, device_leaf, mapping_leaf, two_nodes, one_record, snapshot_record}
use Rattle.tp_image.proofs.Uniqueness.{IsNodeAt-one}

ascending_two : (a b : ℕ) → a < b → IsStrictlyIncreasing (a ∷ b ∷ [])
ascending_two a b lt zero more = lt
ascending_two a b lt (suc k) more = absurd (omega (arith, more))

pub fits_long : (e : Entry) → e.key < 2 ^ 64 → e.value < 2 ^ 64 → e.mapped < 2 ^ 64 → e.size < 2 ^ 64 → FitsEntry true e
fits_long e k v m z = record { key = k; value = v; mapped = m; size = z; short = λ h. absurd (true≢false h); sizeless = λ h. absurd (true≢false h) }

pub devices_good : IsNode device_leaf
devices_good = record {
  form = record { level = omega arith; own = omega arith; room = omega arith; entries = All-from_recursion (FitsEntry true) (one_record ∷ snapshot_record ∷ []) (fits_long one_record (lit< tt) (lit< tt) (lit< tt) (lit< tt), (fits_long snapshot_record (lit< tt) (lit< tt) (lit< tt) (lit< tt), tt)) };
  ascending = ascending_two 0 7 (omega arith);
}

pub mappings_good : IsNode mapping_leaf
mappings_good = record {
  form = record { level = omega arith; own = omega arith; room = omega arith; entries = All-from_recursion (FitsEntry false) mapping_leaf.entries (record { key = lit< tt; value = lit< tt; mapped = lit< tt; size = lit< tt; short = λ _. refl; sizeless = λ _. refl }, tt) };
  ascending = λ k lt. absurd (omega (arith, lt));
}

-- the names in the device tree are those of block 9
named_nine : (b k : ℕ) → k < 2 → slice_index_or (9 ∷ 9 ∷ []) k b ≡ b → b ≡ 9
named_nine b zero lt e = sym e
named_nine b (suc zero) lt e = sym e
named_nine b (suc (suc k)) lt e = absurd (omega arith)

-- the one root
pub one_root : (x z k : ℕ) → k < 1 → slice_index_or (x ∷ []) k z ≡ z → x ≡ z
one_root x z zero lt e = e
one_root x z (suc k) lt e = absurd (omega arith)

-- one of two
pub one_of_two : {X : Type 0} (x y z : X) (k : ℕ) → k < 2 → slice_index_or (x ∷ y ∷ []) k z ≡ z → (x ≡ z) ⊎ (y ≡ z)
one_of_two x y z zero lt e = inl e
one_of_two x y z (suc zero) lt e = inr e
one_of_two x y z (suc (suc k)) lt e = absurd (omega arith)

eight_and_nine : IsDistinct nat_eq (8 ∷ 9 ∷ [])
unfolding IsDistinct
eight_and_nine = ((refl, tt), (tt, tt))

module _ (image : List Sector) (has : HasOneBlock image) where
  devices_at : IsNodeAt image 8 device_leaf
  devices_at = record { good = devices_good; own = refl; bytes = has.devices }

  mappings_at : IsNodeAt image 9 mapping_leaf
  mappings_at = record { good = mappings_good; own = refl; bytes = has.mappings }

  pub volume_mapped : IsMapped image 8 0 3 2
  volume_mapped = record {
    volume_root = 9;
    mapped = 1;
    size = 0;
    device = ends device_leaf devices_at refl refl (0, omega arith, refl);
    entry = ends mapping_leaf mappings_at refl refl (0, omega arith, refl);
  }

  pub snapshot_mapped : IsMapped image 8 7 3 2
  snapshot_mapped = record {
    volume_root = 9;
    mapped = 1;
    size = 0;
    device = ends device_leaf devices_at refl refl (1, omega arith, refl);
    entry = ends mapping_leaf mappings_at refl refl (0, omega arith, refl);
  }

  abbrev IsOneOfBoth : NodeValue → Type 0
  IsOneOfBoth n = (device_leaf ≡ n) ⊎ (mapping_leaf ≡ n)

  -- a node in a block that one of both names is the mapping leaf
  child_of : (parent n : NodeValue) → IsOneOfBoth parent → Contains (metadata_names parent) n.own → IsNodeAt image n.own n → IsOneOfBoth n
  child_of parent n (inl d) named at =
      let h = subst (λ (x : NodeValue). Contains (metadata_names x) n.own) (sym d) named in
      let nine : n.own ≡ 9 = named_nine n.own h.0 h.1 h.2 in
      inr (IsNodeAt-one image 9 mapping_leaf n mappings_at (subst (λ (b : ℕ). IsNodeAt image b n) nine at))
  child_of parent n (inr m) named at =
      let h = subst (λ (x : NodeValue). Contains (metadata_names x) n.own) (sym m) named in
      let none = h.1 in absurd (omega (arith, none))

  reached : (n : NodeValue) → IsReachable image (8 ∷ []) n → IsOneOfBoth n
  reached n (itself root m known at) = inl (IsNodeAt-one image 8 device_leaf n devices_at (subst (λ (b : ℕ). IsNodeAt image b n) (sym (one_root 8 root known.0 known.1 known.2)) at))
  reached n (through parent m from named at) = child_of parent n (reached parent from) named at

  listed : (n : NodeValue) → IsOneOfBoth n → Contains two_nodes n
  listed n (inl d) = (0, omega arith, d)
  listed n (inr m) = (1, omega arith, m)

  devices_reached : IsReachable image (8 ∷ []) device_leaf
  devices_reached = itself 8 device_leaf (0, omega arith, refl) devices_at

  mappings_reached : IsReachable image (8 ∷ []) mapping_leaf
  mappings_reached = through device_leaf mapping_leaf devices_reached (0, omega arith, refl) mappings_at

  is_reached : (n : NodeValue) → IsOneOfBoth n → IsReachable image (8 ∷ []) n
  is_reached n (inl d) = subst (λ (m : NodeValue). IsReachable image (8 ∷ []) m) d devices_reached
  is_reached n (inr m) = subst (λ (x : NodeValue). IsReachable image (8 ∷ []) x) m mappings_reached

  pub two_reached : AreReachable image (8 ∷ []) two_nodes
  two_reached = record {
    all = λ n h. listed n (reached n h);
    only = λ n h. is_reached n (one_of_two device_leaf mapping_leaf n h.0 h.1 h.2);
    once = eight_and_nine;
  }
