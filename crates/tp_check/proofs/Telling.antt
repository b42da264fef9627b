-- Each error of the walk tells a fault.
use Rattle.std.proofs.Common.{◌≡◌, ℕ, suc, ◌<◌, Bool, false, List, [], ◌∷◌, length, get_or, map, Some, None, inl, inr, ◌⊎◌, refl, sym, ap, ◌∙◌, subst, arith}
use Rattle.std.specs.Prelude.{if◌then◌else◌, Option, MatchOption, Contains}
use Rattle.std.proofs.lemmas.List.Elements.{Contains-get_or}
use Rattle.std.proofs.lemmas.List.{get_or-map, length-map}
use Rattle.std.specs.List.Sorted.{IsStrictlyIncreasing}
use Rattle.tp_model.specs.Geometry.{Geometry, IsTreeBlock}
use Rattle.tp_model.specs.Sectors.{Sector}
use Rattle.tp_layout.specs.Node.{NodeValue, IsNode, keys, kind_number}
use Rattle.tp_layout.specs.declared.entry.Entry.{Entry}
use Rattle.tp_layout.specs.declared.kind.TreeKind.{TreeKind}
use Rattle.tp_layout.specs.declared.kind.TreeKind.TheVariants.{Device, Mapping}
use Rattle.tp_layout.specs.declared.superblock.Version.{Version}
use Rattle.tp_image.specs.Nodes.{IsNodeAt, LeadsTo, IsDevice, ends, goes, block_at}
use Rattle.tp_image.specs.Counts.{IsReachable, itself, through, is_naming_data, metadata_names, values}
use Rattle.tp_image.specs.Rules.{BeginsAt, IsContent, IsInRange, least_of}
use Rattle.tp_image.specs.Faults.{Name, IsFormedAs, IsGoodAs, IsNamed, devices, child, volume, HasBadOrder, HasHalfEmpty, HasBadMapped, HasOutOfPlace, entry, is_root, nonzero, unformed}
use Rattle.tp_image.proofs.Uniqueness.{IsFormed-one, contains_at}
use Rattle.tp_check.specs.declared.error.CheckError.{CheckError}
use Rattle.tp_check.specs.declared.error.CheckError.TheVariants.{Fault, Memory, BadSuper, BadNode, BadOrder, BadCount, OutOfPlace, HalfEmpty, BadMapped, BadRecordSize}
use Rattle.tp_check.specs.declared.summary.Demand.{Demand}
use Rattle.tp_check.specs.declared.summary.Summary.{Summary}
use Rattle.tp_check.specs.Named.{IsOfForm}
use Rattle.tp_check.specs.Walk.{Fails, HasTreeFault, IsAstray, IsLike, IsMissized, IsTold, Knows, name_of}
use Rattle.tp_check.proofs.Trees.{begins_one}

-- ---- what stands in a block that is named

pub node_at_name : (image : List Sector) (g : Geometry) (x : Name) (n : NodeValue) → IsGoodAs image g x n → IsNodeAt image x.block n
node_at_name image g x n good = record { good = record { form = good.formed.form; ascending = good.ascending }; own = good.formed.own; bytes = good.formed.bytes }

pub formed_as : (image : List Sector) (g : Geometry) (d : Demand) (bytes : List ℕ) (n : NodeValue) → IsTreeBlock g d.block → bytes ≡ block_at image d.block → IsOfForm d.kind d.level d.block bytes n
    → IsFormedAs image g (name_of d) n
formed_as image g d bytes n place read form = record { place = place; form = form.form; own = form.own_is; bytes = sym read ∙ form.spelled; kind = form.kind_is; level = form.level_is }

pub good_as : (image : List Sector) (g : Geometry) (d : Demand) (bytes : List ℕ) (n : NodeValue) → IsTreeBlock g d.block → bytes ≡ block_at image d.block → IsNode n → IsOfForm d.kind d.level d.block bytes n
    → IsGoodAs image g (name_of d) n
good_as image g d bytes n place read good form = record { formed = formed_as image g d bytes n place read form; ascending = good.ascending }

-- a summary of the kind and level that are demanded is that of a node that stands as it is named
pub known_as : (image : List Sector) (g : Geometry) (roots : List ℕ) (d : Demand) (s : Summary) → IsTreeBlock g d.block → (k : Knows image g roots d.block s) → IsLike s d → IsFormedAs image g (name_of d) k.node
known_as image g roots d s place k like = record {
  place = place;
  form = k.here.good.form;
  own = k.here.own;
  bytes = k.here.bytes;
  kind = sym k.kind_is ∙ like.0;
  level = subst (λ (x : ℕ). MatchOption d.level (Unit {0}) (λ level. x ≡ level)) k.level_is like.1;
}

-- ---- names and paths

pub value_named : (es : List Entry) (e : Entry) → Contains es e → Contains (map (λ (x : Entry). x.value) es) e.value
value_named es e h = (h.0, omega (arith, h.1, length-map es (λ (x : Entry). x.value)), get_or-map (λ (x : Entry). x.value) es h.0 e e.value h.1 ∙ ap (λ (x : Entry). x.value) h.2)

blank : Entry
blank = record { key = 0; value = 0; mapped = 0; size = 0 }

pub named_value : (es : List Entry) (v : ℕ) → Contains (map (λ (x : Entry). x.value) es) v → (e : Entry) × Contains es e × (e.value ≡ v)
named_value es v h =
    let inside : h.0 < length es = omega (arith, h.1, length-map es (λ (x : Entry). x.value)) in
    (get_or es h.0 blank, Contains-get_or es h.0 blank inside, sym (get_or-map (λ (x : Entry). x.value) es h.0 blank v inside) ∙ h.2)

pub inner_names : (n : NodeValue) → is_naming_data n.kind n.level ≡ false → metadata_names n ≡ values n
inner_names n inner = ap (λ (t : Bool). if t then [] else values n) inner

pub no_data_above : (kind : TreeKind) (level above : ℕ) → level ≡ suc above → is_naming_data kind level ≡ false
no_data_above Mapping level above e = ap (is_naming_data Mapping) e
no_data_above Device level above e = refl

pub no_data_of_devices : (kind : TreeKind) (level : ℕ) → kind ≡ Device → is_naming_data kind level ≡ false
no_data_of_devices kind level e = ap (λ (k : TreeKind). is_naming_data k level) e

pub entry_named : (n : NodeValue) (e : Entry) → is_naming_data n.kind n.level ≡ false → Contains n.entries e → Contains (metadata_names n) e.value
entry_named n e inner here = subst (λ (xs : List ℕ). Contains xs e.value) (sym (inner_names n inner)) (value_named n.entries e here)

reached_below : (image : List Sector) (roots : List ℕ) (m n : NodeValue) (e : Entry) → is_naming_data m.kind m.level ≡ false → Contains m.entries e → IsReachable image roots m → IsNodeAt image e.value n → IsReachable image roots n
reached_below image roots m n e inner there from here =
    through m n from (subst (λ (b : ℕ). Contains (metadata_names m) b) (sym here.own) (entry_named m e inner there)) (subst (λ (b : ℕ). IsNodeAt image b n) (sym here.own) here)

-- what is named is reachable
pub named_reached : (image : List Sector) (g : Geometry) (roots : List ℕ) (x : Name) → IsNamed image g roots x → (n : NodeValue) → IsNodeAt image x.block n → IsReachable image roots n
named_reached image g roots _ (devices root there) n here = itself root n there here
named_reached image g roots _ (child x m level i e named good up at) n here =
    reached_below image roots m n e (no_data_above m.kind m.level level up) (contains_at m.entries i e at) (named_reached image g roots x named m (node_at_name image g x m good)) here
named_reached image g roots _ (volume x m e named good kind level there) n here =
    reached_below image roots m n e (no_data_of_devices m.kind m.level kind) there (named_reached image g roots x named m (node_at_name image g x m good)) here

pub no_device : Mapping ≡ Device → ⊥
no_device e = absurd (omega (arith, ap kind_number e))

-- an entry of a named leaf of a device tree is a device below one of the roots
pub named_device : (image : List Sector) (g : Geometry) (roots : List ℕ) (x : Name) → IsNamed image g roots x → x.kind ≡ Device → (e : Entry) → LeadsTo image Device x.block e
    → (root : ℕ) × Contains roots root × LeadsTo image Device root e
named_device image g roots _ (devices root there) kind e path = (root, there, path)
named_device image g roots _ (child x m level i c named good up at) kind e path =
    named_device image g roots x named kind e (goes m c (node_at_name image g x m good) (good.formed.kind ∙ kind) (omega (arith, up)) (contains_at m.entries i c at) path)
named_device image g roots _ (volume x m c named good k l there) kind e path = absurd (no_device kind)

-- ---- a block whose summary does not pass

first_of_all : (es : List Entry) (low : ℕ) → BeginsAt low es → (e : Entry) × Contains es e × (e.key ≡ low)
first_of_all [] low h = absurd h
first_of_all (e ∷ es) low h = (e, (0, omega arith, refl), h)

module _ (image : List Sector) (g : Geometry) (roots : List ℕ) (d : Demand) (s : Summary) (named : IsNamed image g roots (name_of d)) (place : IsTreeBlock g d.block) (k : Knows image g roots d.block s) where
  like_of : (n : NodeValue) → IsFormedAs image g (name_of d) n → IsLike s d
  like_of n at =
      let same : n ≡ k.node = IsFormed-one (block_at image d.block) n k.node at.form k.here.good.form at.bytes k.here.bytes in (
        k.kind_is ∙ (ap (λ (x : NodeValue). x.kind) (sym same) ∙ at.kind),
        subst (λ (x : ℕ). MatchOption d.level (Unit {0}) (λ level. x ≡ level)) (ap (λ (x : NodeValue). x.level) same ∙ sym k.level_is) at.level,
      )

  astray_told : IsLike s d → 0 < s.len → IsAstray s d → HasBadOrder image g roots
  astray_told like some (inl low) =
      let e = first_of_all k.node.entries s.first (k.begins some) in
      record { name = name_of d; node = k.node; named = named; formed = known_as image g roots d s place k like; broken = inr (inl (e.0, e.1, inl (omega (arith, low, e.2)))) }
  astray_told like some (inr (inl differs)) =
      record {
        name = name_of d;
        node = k.node;
        named = named;
        formed = known_as image g roots d s place k like;
        broken = inr (inr (omega (arith, differs.0, k.level_is), omega (arith, some, k.len_is), λ b. differs.1 (begins_one s.first d.low k.node.entries (k.begins some) b)));
      }
  astray_told like some (inr (inr past)) = k.late (name_of d) named (known_as image g roots d s place k like) some past

  few_told : IsLike s d → s.len < least_of (is_root d.level) s.kind s.level → HasHalfEmpty image g roots
  few_told like few =
      let kinds : s.len < least_of (is_root d.level) k.node.kind s.level = subst (λ (x : TreeKind). s.len < least_of (is_root d.level) x s.level) k.kind_is few in
      let levels : s.len < least_of (is_root d.level) k.node.kind k.node.level = subst (λ (x : ℕ). s.len < least_of (is_root d.level) k.node.kind x) k.level_is kinds in
      record {
        name = name_of d;
        node = k.node;
        named = named;
        good = record { formed = known_as image g roots d s place k like; ascending = k.here.good.ascending };
        few = subst (λ (x : ℕ). x < least_of (is_root d.level) k.node.kind k.node.level) k.len_is levels;
      }

  mapped_told : (mapped : Option ℕ) → IsLike s d → (MatchOption mapped (Unit {0}) (λ m. s.below ≡ m) → ⊥)
      → MatchOption mapped (Unit {0}) (λ m. (root : ℕ) × Contains roots root × (id : ℕ) × (size : ℕ) × IsDevice image root id d.block m size × (d.kind ≡ Mapping)) → HasBadMapped image g roots
  mapped_told None like wrong told = absurd (wrong tt)
  mapped_told (Some m) like wrong told = record {
    root = told.0;
    known = told.1;
    id = told.2;
    volume_root = d.block;
    mapped = m;
    size = told.3;
    level = s.level;
    entries = k.content.0;
    device = told.4;
    content = subst (λ (x : TreeKind). IsContent image x s.level d.block k.content.0) (like.0 ∙ told.5) k.content.1;
    differs = λ h. wrong (sym k.content.2 ∙ h);
  }

  pub test_told : (version : Version) (e : CheckError) → IsTold image roots d → Fails e s d → HasTreeFault image version g roots e
  test_told version Fault told fails = absurd fails
  test_told version Memory told fails = absurd fails
  test_told version BadSuper told fails = absurd fails
  test_told version BadNode told fails = unformed (name_of d) named place (λ n at. fails (like_of n at))
  test_told version BadOrder told fails = astray_told fails.0 fails.1 fails.2
  test_told version BadCount told fails = absurd fails
  test_told version OutOfPlace told fails = absurd fails
  test_told version HalfEmpty told fails = few_told fails.0 fails.1
  test_told version BadMapped told fails = mapped_told d.mapped fails.0 fails.1 told
  test_told version BadRecordSize told fails = absurd fails

-- ---- a block that spells no good node

pub spelling_told : (image : List Sector) (version : Version) (g : Geometry) (roots : List ℕ) (d : Demand) (bytes : List ℕ) (e : CheckError) → bytes ≡ block_at image d.block → IsTreeBlock g d.block → IsNamed image g roots (name_of d)
    → (e ≡ BadNode) ⊎ (e ≡ BadOrder) → (e ≡ BadNode → (n : NodeValue) → IsOfForm d.kind d.level d.block bytes n → ⊥)
    → (e ≡ BadOrder → (n : NodeValue) × (IsOfForm d.kind d.level d.block bytes n × (IsStrictlyIncreasing (keys n.entries) → ⊥))) → HasTreeFault image version g roots e
spelling_told image version g roots d bytes e read place named (inl is) none order =
    subst (HasTreeFault image version g roots) (sym is) (unformed (name_of d) named place (λ n at. none is n (record { form = at.form; kind_is = at.kind; level_is = at.level; own_is = at.own; spelled = read ∙ at.bytes })))
spelling_told image version g roots d bytes e read place named (inr is) none order =
    let n = order is in
    subst (HasTreeFault image version g roots) (sym is) (record { name = name_of d; node = n.0; named = named; formed = formed_as image g d bytes n.0 place read n.1.0; broken = inl n.1.1 })

pub range_told : (image : List Sector) (g : Geometry) (roots : List ℕ) (d : Demand) (bytes : List ℕ) (n : NodeValue) (e : Entry) → bytes ≡ block_at image d.block → IsTreeBlock g d.block → IsNamed image g roots (name_of d)
    → IsNode n → IsOfForm d.kind d.level d.block bytes n → Contains n.entries e → (IsInRange g (is_naming_data n.kind n.level) e.value → ⊥) → HasOutOfPlace image g roots
range_told image g roots d bytes n e read place named good form here out = entry (name_of d) n e named (good_as image g d bytes n place read good form) here out

-- a record of a leaf that tells a size which the image's version does not have
pub size_told : (image : List Sector) (version : Version) (g : Geometry) (roots : List ℕ) (d : Demand) (bytes : List ℕ) (n : NodeValue) (e : Entry) (err : CheckError) → bytes ≡ block_at image d.block → IsTreeBlock g d.block
    → IsNamed image g roots (name_of d) → IsNode n → IsOfForm d.kind d.level d.block bytes n → n.kind ≡ Device → n.level ≡ 0 → Contains n.entries e → IsMissized version g e.size err → HasTreeFault image version g roots err
size_told image version g roots d bytes n e err read place named good form kind leaf here bad = by bad where
  path : (root : ℕ) × Contains roots root × IsDevice image root e.key e.value e.mapped e.size
  path =
      named_device image g roots (name_of d) named (sym form.kind_is ∙ kind) e (ends n (node_at_name image g (name_of d) n (good_as image g d bytes n place read good form)) kind leaf here)

  by : IsMissized version g e.size err → HasTreeFault image version g roots err
  by (inl old) = subst (HasTreeFault image version g roots) (sym old.0) (nonzero path.0 path.1 e.key e.value e.mapped e.size old.1 path.2 old.2)
  by (inr new) = subst (HasTreeFault image version g roots) (sym new.0) (record { version_is = new.1; root = path.0; known = path.1; id = e.key; volume_root = e.value; mapped = e.mapped; size = e.size; device = path.2; bad = new.2 })
