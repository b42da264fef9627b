-- The walk below a name, step by step: the entries of a node one after another, and then the node.
use Rattle.std.proofs.Common.{◌≡◌, ℕ, zero, suc, Bool, true, false, ◌+◌, ◌<◌, ◌≤◌, List, [], ◌∷◌, ◌⊎◌, ◌++◌, length, take, Some, None, inl, inr, refl, sym, ap, ◌∙◌, subst, arith}
use Rattle.std.specs.Prelude.{IsTrue, ◌^◌, if◌then◌else◌, Option, MatchOption, slice_get, slice_index_or, Contains}
use Rattle.std.proofs.lemmas.Bool.{cases_lt, true≢false}
use Rattle.std.proofs.lemmas.List.{length-append, length-take-le}
use Rattle.std.proofs.Math.Nat.{mul-le-mul}
use Rattle.std.proofs.lemmas.Option.{same_Some, slice_get-get_or, slice_get_within}
use Rattle.tp_model.specs.Disk.{DiskState, seen}
use Rattle.tp_model.specs.Geometry.{Geometry, IsTreeBlock}
use Rattle.tp_model.specs.Sectors.{Sector}
use Rattle.tp_layout.specs.Node.{NodeValue, IsNode, is_long, most_level}
use Rattle.tp_layout.specs.Super.{held_refs}
use Rattle.tp_layout.specs.declared.entry.Entry.{Entry}
use Rattle.tp_layout.specs.declared.kind.TreeKind.{TreeKind}
use Rattle.tp_layout.specs.declared.kind.TreeKind.TheVariants.{Device, Mapping}
use Rattle.tp_layout.specs.declared.superblock.Version.{Version}
use Rattle.tp_image.specs.Nodes.{IsNodeAt, LeadsTo, ends, block_at}
use Rattle.tp_image.specs.Counts.{IsReachable, is_naming_data, metadata_names, values}
use Rattle.tp_image.specs.Rules.{IsContent, IsInRange, Joined, KeepTheRules}
use Rattle.tp_image.specs.Faults.{HasOutOfPlace, IsNamed, IsGoodAs, child, devices, many, volume}
use Rattle.tp_image.proofs.Uniqueness.{contains_at}
use Rattle.tp_check.specs.declared.error.CheckError.{CheckError}
use Rattle.tp_check.specs.declared.summary.Demand.{Demand}
use Rattle.tp_check.specs.declared.summary.Summary.{Summary}
use Rattle.tp_check.specs.Named.{IsOfForm}
use Rattle.tp_check.specs.Walk.{AreRecorded, Closes, Comes, Fails, Grows, HasTreeFault, IsBegun, IsBelow, IsInside, IsKept, IsRooted, IsSame, IsTold, IsUnder, IsWalked, IsWhole, Knows, Passes, Progress, WalksOn, demand_under, depth, name_of, root_demand, summary_of, under_at}
use Rattle.tp_check.proofs.Closing.{all_reached, closed_walk, grown, grows_through, kept_now, rules_kept}
use Rattle.tp_check.proofs.Knowing.{node_known, volume_good}
use Rattle.tp_check.proofs.Telling.{good_as, inner_names, named_device, named_reached, named_value, node_at_name, test_told}
use Rattle.tp_check.proofs.Trees.{content_few, joined_few, joined_next, most_below, most_small, room_below}

-- ---- ranges and depths

pub inner_place : (g : Geometry) (n : NodeValue) (e : Entry) → IsInside g n → is_naming_data n.kind n.level ≡ false → Contains n.entries e → IsTreeBlock g e.value
inner_place g n e inside inner there = subst (λ (t : Bool). IsInRange g t e.value) inner (inside e there)

device_of_inner : (kind : TreeKind) → is_naming_data kind 0 ≡ false → kind ≡ Device
device_of_inner Device h = refl
device_of_inner Mapping h = absurd (true≢false h)

-- the depth of a node
abbrev node_depth : TreeKind → ℕ → ℕ
node_depth Mapping level = level
node_depth Device level = 4 + level

depth_within : (kind : TreeKind) (named : Option ℕ) (level : ℕ) → MatchOption named (Unit {0}) (λ x. level ≡ x) → level ≤ most_level kind → node_depth kind level ≤ depth kind named
depth_within Mapping None level is most = omega (arith, most)
depth_within Mapping (Some x) level is most = omega (arith, is)
depth_within Device None level is most = omega (arith, most)
depth_within Device (Some x) level is most = omega (arith, is)

depth_below : (level : ℕ) (g : Geometry) (d : Demand) (next : Option Entry) (e : Entry) → is_naming_data d.kind level ≡ false → depth (under_at level g d next e).kind (under_at level g d next e).level < node_depth d.kind level
depth_below zero g d next e inner = subst (λ (k : TreeKind). 3 < node_depth k 0) (sym (device_of_inner d.kind inner)) (omega arith)
depth_below (suc level) g d next e inner = deeper d.kind
  where
    deeper : (kind : TreeKind) → depth kind (Some level) < node_depth kind (suc level)
    deeper Mapping = omega arith
    deeper Device = omega arith

pub depth_falls : (g : Geometry) (d : Demand) (n : NodeValue) (i : ℕ) (e : Entry) → IsNode n → n.kind ≡ d.kind → MatchOption d.level (Unit {0}) (λ level. n.level ≡ level) → is_naming_data n.kind n.level ≡ false
    → depth (demand_under g d n i e).kind (demand_under g d n i e).level < depth d.kind d.level
depth_falls g d n i e good kind level inner =
    let most : n.level ≤ most_level d.kind = subst (λ (k : TreeKind). n.level ≤ most_level k) kind good.form.level in
    let here : is_naming_data d.kind n.level ≡ false = subst (λ (k : TreeKind). is_naming_data k n.level ≡ false) kind inner in
    omega (arith, depth_below n.level g d (slice_get n.entries (suc i)) e here, depth_within d.kind d.level n.level level most)

block_at_level : (level : ℕ) (g : Geometry) (d : Demand) (next : Option Entry) (e : Entry) → (under_at level g d next e).block ≡ e.value
block_at_level zero g d next e = refl
block_at_level (suc level) g d next e = refl

pub block_under : (g : Geometry) (d : Demand) (n : NodeValue) (i : ℕ) (e : Entry) → (demand_under g d n i e).block ≡ e.value
block_under g d n i e = block_at_level n.level g d (slice_get n.entries (suc i)) e

-- ---- what an entry names

module _ (image : List Sector) (g : Geometry) (roots : List ℕ) (d : Demand) (bytes : List ℕ) (n : NodeValue) (place : IsTreeBlock g d.block) (read : bytes ≡ block_at image d.block)
    (good : IsNode n) (form : IsOfForm d.kind d.level d.block bytes n) (named : IsNamed image g roots (name_of d)) where
  as_named : IsGoodAs image g (name_of d) n
  as_named = good_as image g d bytes n place read good form

  pub node_here : IsNodeAt image n.own n
  node_here = subst (λ (b : ℕ). IsNodeAt image b n) (sym form.own_is) (node_at_name image g (name_of d) n as_named)

  pub node_reached : IsReachable image roots n
  node_reached = named_reached image g roots (name_of d) named n (node_at_name image g (name_of d) n as_named)

  named_at : (level i : ℕ) (e : Entry) → n.level ≡ level → is_naming_data n.kind n.level ≡ false → slice_get n.entries i ≡ Some e → IsNamed image g roots (name_of (under_at level g d (slice_get n.entries (suc i)) e))
  named_at zero i e up inner at =
      let kind : n.kind ≡ Device = device_of_inner n.kind (subst (λ (x : ℕ). is_naming_data n.kind x ≡ false) up inner) in
      volume (name_of d) n e named as_named kind up (contains_at n.entries i e at)
  named_at (suc level) i e up inner at = child (name_of d) n level i e named as_named up at

  pub child_named : (i : ℕ) (e : Entry) → is_naming_data n.kind n.level ≡ false → slice_get n.entries i ≡ Some e → IsNamed image g roots (name_of (demand_under g d n i e))
  child_named i e inner at = named_at n.level i e refl inner at

  told_at : (level i : ℕ) (e : Entry) → n.level ≡ level → is_naming_data n.kind n.level ≡ false → slice_get n.entries i ≡ Some e → IsTold image roots (under_at level g d (slice_get n.entries (suc i)) e)
  told_at zero i e up inner at =
      let kind : n.kind ≡ Device = device_of_inner n.kind (subst (λ (x : ℕ). is_naming_data n.kind x ≡ false) up inner) in
      let path : LeadsTo image Device d.block e = ends n (node_at_name image g (name_of d) n as_named) kind up (contains_at n.entries i e at) in
      let below = named_device image g roots (name_of d) named (sym form.kind_is ∙ kind) e path in
      (below.0, below.1, e.key, e.size, below.2, refl)
  told_at (suc level) i e up inner at = tt

  pub child_told : (i : ℕ) (e : Entry) → is_naming_data n.kind n.level ≡ false → slice_get n.entries i ≡ Some e → IsTold image roots (demand_under g d n i e)
  child_told i e inner at = told_at n.level i e refl inner at

-- ---- one entry more

pub none_below : (image : List Sector) (g : Geometry) (roots : List ℕ) (d : Demand) (n : NodeValue) → IsBelow image g roots d n 0 0 0
none_below image g roots d n = record { each = λ k e lt at. absurd (omega (arith, lt)); content = λ level up. ([], refl, refl) }

module _ (image : List Sector) (g : Geometry) (roots : List ℕ) (d : Demand) (n : NodeValue) (i last below sum : ℕ) (e : Entry) (s : Summary)
    (good : IsNode n) (kind : n.kind ≡ d.kind) (at : slice_get n.entries i ≡ Some e) (all : IsBelow image g roots d n i last below)
    (knows : Knows image g roots (demand_under g d n i e).block s) (passes : Passes s (demand_under g d n i e)) (added : below + s.below < 2 ^ 64 → sum ≡ below + s.below) where
  each_next : (k : ℕ) (x : Entry) → k < i + 1 → slice_get n.entries k ≡ Some x → (u : IsUnder image g roots (demand_under g d n k x)) × (suc k ≡ i + 1 → u.summary.last ≡ s.last)
  each_next k x lt there =
      elim (cases_lt k i) [
        | inl before ↦ ((all.each k x before there).0, (λ same. absurd (omega (arith, same, before))))
        | inr after ↦
            let same : i ≡ k = omega (arith, after, lt) in
            let entry : e ≡ x = same_Some e x (sym at ∙ (ap (slice_get n.entries) same ∙ there)) in
            let u : IsUnder image g roots (demand_under g d n i e) = record { summary = s; knows = knows; passes = passes } in
            subst (λ (y : Entry). (v : IsUnder image g roots (demand_under g d n k y)) × (suc k ≡ i + 1 → v.summary.last ≡ s.last)) entry
            (subst (λ (j : ℕ). (v : IsUnder image g roots (demand_under g d n j e)) × (suc j ≡ i + 1 → v.summary.last ≡ s.last)) same (u, (λ whole. refl)))
      ]

  content_next : (level : ℕ) → n.level ≡ suc level → (xs : List Entry) × Joined (λ c entries. IsContent image n.kind level c entries) (take (i + 1) n.entries) xs × (length xs ≡ sum)
  content_next level up =
      let c = all.content level up in
      let same : demand_under g d n i e ≡ under_at (suc level) g d (slice_get n.entries (suc i)) e = ap (λ (x : ℕ). under_at x g d (slice_get n.entries (suc i)) e) up in
      let p = subst (λ (x : Demand). Passes s x) same passes in
      let k = subst (λ (x : Demand). Knows image g roots x.block s) same knows in
      let here : IsContent image n.kind level e.value k.content.0 =
      subst (λ (x : ℕ). IsContent image n.kind x e.value k.content.0) p.like.1 (subst (λ (x : TreeKind). IsContent image x s.level e.value k.content.0) (p.like.0 ∙ sym kind) k.content.1) in
      let joined = joined_next (λ c entries. IsContent image n.kind level c entries) n.entries c.0 i e k.content.0 at c.1 here in
      let long : length (c.0 ++ k.content.0) ≡ below + s.below = length-append c.0 k.content.0 ∙ (λ j. c.2 j + k.content.2 j) in
      let few = joined_few (λ c entries. IsContent image n.kind level c entries) (most_below level) (λ b xs h. content_few image n.kind level b xs h) (take (i + 1) n.entries) (c.0 ++ k.content.0) joined in
      let short : length (take (i + 1) n.entries) ≤ 252 = omega (arith, length-take-le (i + 1) n.entries, slice_get_within n.entries i e at, good.form.room, room_below (is_long n.kind n.level)) in
      let low : level ≤ 2 = omega (arith, up, good.form.level, top_level n.kind) in
      let most = mul-le-mul short (most_small level low) in
      (c.0 ++ k.content.0, joined, long ∙ sym (added (omega (arith, long, few, most))))
    where
      top_level : (k : TreeKind) → most_level k ≤ 3
      top_level Device = omega arith
      top_level Mapping = omega arith

  pub below_next : IsBelow image g roots d n (i + 1) s.last sum
  below_next = record { each = each_next; content = content_next }

pub walks_next : (image : List Sector) (old now new : Progress) (d : Demand) (n : NodeValue) (i last below sum : ℕ) (e : Entry) (s : Summary) → IsSame old now → IsNode n → n.kind ≡ d.kind → slice_get n.entries i ≡ Some e
    → WalksOn image old now d n i last below → Comes image now new (demand_under old.geometry d n i e) s → Passes s (demand_under old.geometry d n i e) → (below + s.below < 2 ^ 64 → sum ≡ below + s.below)
    → WalksOn image old new d n (i + 1) s.last sum
walks_next image old now new d n i last below sum e s same good kind at on comes passes added =
    let knows = subst (λ (x : Geometry). Knows image x old.roots (demand_under old.geometry d n i e).block s) same.geometry
    (subst (λ (x : List ℕ). Knows image now.geometry x (demand_under old.geometry d n i e).block s) same.roots comes.knows) in
    record {
      walked = comes.walked;
      grows = grows_through old.known now.known new.known on.grows comes.grows;
      kept = λ k x lt there. elim (cases_lt k i) [
        | inl before ↦ comes.grows x.value (on.kept k x before there)
        | inr after ↦
            let place : i ≡ k = omega (arith, after, lt) in
            let entry : e ≡ x = same_Some e x (sym at ∙ (ap (slice_get n.entries) place ∙ there)) in
            subst (λ (y : Entry). IsKept new.known y.value) entry (subst (λ (b : ℕ). IsKept new.known b) (block_under old.geometry d n i e) comes.kept)
      ];
      under = below_next image old.geometry old.roots d n i last below sum e s good kind at on.under knows passes added;
    }

-- ---- the node itself

pub node_comes : (image : List Sector) (old now new : Progress) (d : Demand) (bytes : List ℕ) (n : NodeValue) (i last below : ℕ) → IsTreeBlock old.geometry d.block → bytes ≡ block_at image d.block → IsNode n
    → IsOfForm d.kind d.level d.block bytes n → IsInside old.geometry n → AreRecorded old.version old.geometry n → IsNamed image old.geometry old.roots (name_of d) → IsSame old now → n.own < length now.known
    → i ≡ (if is_naming_data n.kind n.level then 0 else length n.entries) → WalksOn image old now d n i last below → Closes n (summary_of n last below) now new → Comes image old new d (summary_of n last below)
node_comes image old now new d bytes n i last below place read good form inside recorded named same room count on closes =
    let s = summary_of n last below in
    let here = node_here image old.geometry old.roots d bytes n place read good form named in
    let reached = node_reached image old.geometry old.roots d bytes n place read good form named in
    let knows : Knows image old.geometry old.roots n.own s = node_known image old.geometry old.roots d n i last below here form.kind_is inside count on.under in
    let before : Progress = record { version = old.version; geometry = old.geometry; roots = old.roots; known = now.known; metadata = now.metadata; others = now.others } in
    let path : now ≡ before = λ j. record { version = same.version j; geometry = same.geometry j; roots = same.roots j; known = now.known; metadata = now.metadata; others = now.others } in
    let walked : IsWalked image before = subst (λ (p : Progress). IsWalked image p) path on.walked in
    let closing : Closes n s before new = subst (λ (p : Progress). Closes n s p new) path closes in
    let below_kept : (v : ℕ) → Contains (metadata_names n) v → IsKept now.known v = λ v there. kept_name v there (is_naming_data n.kind n.level) refl in
    let volumes = λ (k : n.kind ≡ Device) (l : n.level ≡ 0) (e : Entry) (there : Contains n.entries e). volume_good image old.version old.geometry old.roots d n i last below recorded k l count on.under e there in
    let new_kept = kept_now image before new n s walked closing room here reached knows below_kept volumes in
    record {
      walked = closed_walk image before new n s walked closing room here reached knows below_kept volumes;
      knows = subst (λ (b : ℕ). Knows image old.geometry old.roots b s) form.own_is knows;
      kept = (s, subst (λ (b : ℕ). slice_index_or new.known b None ≡ Some s) form.own_is new_kept);
      grows = grows_through old.known now.known new.known on.grows (grown image before new n s walked closing room here reached knows below_kept volumes);
    }
  where
    kept_name : (v : ℕ) → Contains (metadata_names n) v → (t : Bool) → is_naming_data n.kind n.level ≡ t → IsKept now.known v
    kept_name v there true is = let none = subst (λ (t : Bool). Contains (if t then [] else values n) v) is there in absurd (omega (arith, none.1))
    kept_name v there false is =
        let e = named_value n.entries v (subst (λ (xs : List ℕ). Contains xs v) (inner_names n is) there) in
        let whole : i ≡ length n.entries = count ∙ ap (λ (t : Bool). if t then 0 else length n.entries) is in
        let at : slice_get n.entries e.1.0 ≡ Some e.0 = slice_get-get_or n.entries e.1.0 e.0 e.1.1 ∙ ap (λ (x : Entry). Some x) e.1.2 in
        subst (λ (b : ℕ). IsKept now.known b) e.2 (on.kept e.1.0 e.0 (omega (arith, e.1.1, whole)) at)

-- ---- a child

module _ (disk : DiskState) (old now : Progress) (d c : Demand) (bytes : List ℕ) (n : NodeValue) (i : ℕ) (e : Entry) (begun : IsBegun disk old d) (place : IsTreeBlock old.geometry d.block)
    (read : bytes ≡ block_at (seen disk.cells) d.block) (good : IsNode n) (form : IsOfForm d.kind d.level d.block bytes n) (inner : is_naming_data n.kind n.level ≡ false) (at : slice_get n.entries i ≡ Some e)
    (is : c ≡ demand_under old.geometry d n i e) (same : IsSame old now) where
  named_child : IsNamed (seen disk.cells) old.geometry old.roots (name_of c)
  named_child = subst (λ (x : Demand). IsNamed (seen disk.cells) old.geometry old.roots (name_of x)) (sym is) (child_named (seen disk.cells) old.geometry old.roots d bytes n place read good form begun.1 i e inner at)

  pub child_begun : IsWalked (seen disk.cells) now → IsBegun disk now c
  child_begun walked = (
    begun.0,
    subst (λ (x : Geometry). IsNamed (seen disk.cells) x now.roots (name_of c)) (sym same.geometry) (subst (λ (x : List ℕ). IsNamed (seen disk.cells) old.geometry x (name_of c)) (sym same.roots) named_child),
    walked,
  )

  pub child_fault : (new : Progress) (s : Summary) (err : CheckError) → IsTreeBlock old.geometry c.block → Comes (seen disk.cells) now new c s → Fails err s c → HasTreeFault (seen disk.cells) old.version old.geometry old.roots err
  child_fault new s err there comes fails =
      let knows = subst (λ (x : Geometry). Knows (seen disk.cells) x old.roots c.block s) same.geometry (subst (λ (x : List ℕ). Knows (seen disk.cells) now.geometry x c.block s) same.roots comes.knows) in
      let told = subst (λ (x : Demand). IsTold (seen disk.cells) old.roots x) (sym is) (child_told (seen disk.cells) old.geometry old.roots d bytes n place read good form begun.1 i e inner at) in
      test_told (seen disk.cells) old.geometry old.roots c s named_child there knows old.version err told fails

-- ---- a root

module _ (disk : DiskState) (p : Progress) (honest : IsTrue disk.is_honest) (root : ℕ) (there : Contains p.roots root) where
  pub root_begun : IsWalked (seen disk.cells) p → IsBegun disk p (root_demand root)
  root_begun walked = (honest, devices root there, walked)

module _ (image : List Sector) (p new : Progress) (root : ℕ) (there : Contains p.roots root) (s : Summary) (comes : Comes image p new (root_demand root) s) where
  pub root_fault : (e : CheckError) → IsTreeBlock p.geometry root → Fails e s (root_demand root) → HasTreeFault image p.version p.geometry p.roots e
  root_fault e place fails = test_told image p.geometry p.roots (root_demand root) s (devices root there) place comes.knows p.version e tt fails

  pub root_many : Passes s (root_demand root) → 65536 < s.below → HasOutOfPlace image p.geometry p.roots
  root_many passes more =
      many root there s.level comes.knows.content.0 (subst (λ (x : TreeKind). IsContent image x s.level root comes.knows.content.0) passes.like.0 comes.knows.content.1) (omega (arith, more, comes.knows.content.2))

  pub root_walked : IsSame p new → Passes s (root_demand root) → s.below ≤ 65536 → IsRooted image p new root
  root_walked same passes few =
      let w = comes.walked in
      let knows = subst (λ (x : List ℕ). Knows image new.geometry x root s) (sym same.roots)
      (subst (λ (x : Geometry). Knows image x p.roots root s) (sym same.geometry) comes.knows) in
      record {
        walked = w;
        grows = comes.grows;
        kept = comes.kept;
        rules = rules_kept image new w root comes.kept s knows passes.like.0 passes.suits few;
      }

-- ---- all roots

-- what is so of both roots is so of each
both_of : (P : ℕ → Type 0) (root held : ℕ) → P root → ((held ≡ 0 → ⊥) → P held) → (r : ℕ) → Contains (root ∷ held_refs held) r → P r
both_of P root held here there r (zero, lt, is) = subst P is here
both_of P root zero here there r (suc k, lt, is) = absurd (omega (arith, lt))
both_of P root (suc n) here there r (suc zero, lt, is) = subst P is (there (λ none. absurd (omega (arith, none))))
both_of P root (suc n) here there r (suc (suc k), lt, is) = absurd (omega (arith, lt))

pub places_of : (g : Geometry) (root held : ℕ) → IsTreeBlock g root → (held ≡ 0) ⊎ IsTreeBlock g held → (r : ℕ) → Contains (root ∷ held_refs held) r → IsTreeBlock g r
places_of g root held here there = both_of (IsTreeBlock g) root held here (λ some. elim there [ inl none ↦ absurd (some none) | inr inside ↦ inside ])

pub first_there : (root held : ℕ) → Contains (root ∷ held_refs held) root
first_there root held = (0, omega arith, refl)

pub held_there : (root held : ℕ) → (held ≡ 0 → ⊥) → Contains (root ∷ held_refs held) held
held_there root zero some = absurd (some refl)
held_there root (suc n) some = (1, omega arith, refl)

pub few_roots : (root held : ℕ) → length (root ∷ held_refs held) ≤ 2
few_roots root zero = omega arith
few_roots root (suc n) = omega arith

-- a walk below one root, and another behind it
pub rooted_still : (image : List Sector) (old now new : Progress) (root held : ℕ) → IsSame now new → IsRooted image old now root → IsRooted image now new held → IsRooted image old new root
rooted_still image old now new root held same first second = record {
  walked = second.walked;
  grows = grows_through old.known now.known new.known first.grows second.grows;
  kept = second.grows root first.kept;
  rules = subst (λ (v : Version). KeepTheRules image v new.geometry root) (sym same.version) (subst (λ (x : Geometry). KeepTheRules image now.version x root) (sym same.geometry) first.rules);
}

pub rooted_on : (image : List Sector) (old now new : Progress) (held : ℕ) → Grows old.known now.known → IsRooted image now new held → IsRooted image old new held
rooted_on image old now new held grows r = record { walked = r.walked; grows = grows_through old.known now.known new.known grows r.grows; kept = r.kept; rules = r.rules }

pub all_whole : (image : List Sector) (old new : Progress) (root held : ℕ) → new.roots ≡ root ∷ held_refs held → IsRooted image old new root → ((held ≡ 0 → ⊥) → IsRooted image old new held) → IsWhole image new
all_whole image old new root held are first second =
    let each : (r : ℕ) → Contains new.roots r → IsRooted image old new r =
    λ r there. both_of (IsRooted image old new) root held first second r (subst (λ (rs : List ℕ). Contains rs r) are there) in
    let w = first.walked in
    record {
      nodes = w.nodes;
      reachable = all_reached image new w (λ r there. (each r there).kept);
      rules = λ r there. (each r there).rules;
      metadata = w.metadata_named;
      others = w.others_named;
    }
