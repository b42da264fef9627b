-- An image with the contents of a commit stands for the pools that are opened with them.
use Rattle.std.proofs.Common.{◌≡◌, ℕ, zero, suc, ◌+◌, ◌-◌, ◌<◌, ◌≤◌, List, [], ◌∷◌, refl, sym, ap, subst, ◌∙◌, arith, inl, inr, Option, Some, None, option_map}
use Rattle.std.specs.Prelude.{◌^◌, if◌then◌else◌}
use Rattle.tp_model.specs.declared.mode.Mode.TheVariants.{ReadOnly, Writable}
use Rattle.tp_model.specs.Geometry.{Geometry}
use Rattle.tp_model.specs.Told.{told_sectors}
use Rattle.tp_model.specs.Sectors.{Sector}
use Rattle.tp_model.specs.Pool.{PlainPool, slot_at, volume_size}
use Rattle.tp_layout.specs.Entries.{found}
use Rattle.tp_layout.specs.Super.{roots_of}
use Rattle.tp_layout.specs.declared.entry.Entry.{Entry}
use Rattle.tp_layout.specs.declared.kind.TreeKind.TheVariants.{Device, Mapping}
use Rattle.tp_layout.specs.declared.superblock.Superblock.{Superblock}
use Rattle.tp_layout.proofs.Ordered.{found_key}
use Rattle.tp_image.specs.Nodes.{IsDevice, IsDeviceOf, IsMapped, IsMappedOf, LeadsTo}
use Rattle.tp_image.specs.Counts.{AreReachable, metadata_use}
use Rattle.tp_image.specs.Stands.{HasSectors, StandsFor}
use Rattle.tp_super.proofs.Choice.{same_superblock}
use Rattle.tp_refs.specs.Store.{Store, count_of, moved_by, node_at}
use Rattle.tp_refs.specs.Balance.{occurrences}
use Rattle.tp_refs.proofs.Steps.{one_same}
use Rattle.tp_trees.proofs.Heights.{device_low}
use Rattle.tp_trees.proofs.Trees.{ascend_tree, tree_rank}
use Rattle.tp_sharing.specs.Forest.{content, held_refs, value_at}
use Rattle.tp_sharing.specs.Volumes.{Volumes, copy_id, place_or_none, size_of, slot_of, volumes_below, volumes_of}
use Rattle.tp_sharing.proofs.Copies.{Whose, WhoseSize, copies_are_listed, of_copy, of_now, size_low, size_of_copy, size_of_now, whose, whose_size}
use Rattle.tp_sharing.proofs.Later.{volumes_are_live}
use Rattle.tp_sharing.proofs.Lists.{entry_of}
use Rattle.tp_sharing.proofs.Slots.{listed_slot, lookups_are_listed}
use Rattle.tp_stored.specs.Commit.{IsCommit, IsRooted, IsSound, NodesStand, fixed_blocks, held_by}
use Rattle.tp_stored.specs.Contents.{Contents, IsOpened, contents_of}
use Rattle.tp_stored.specs.Laws.{StandsForOpened}
use Rattle.tp_stored.proofs.Members.{Among, among_found, found_among}
use Rattle.tp_stored.proofs.Standing.{among_leads, leads_among, leads_bare, leads_sizeless}
use Rattle.tp_stored.proofs.Counted.{reachable_nodes, use_is}
use Rattle.tp_stored.proofs.Reachable.{root_live, rooted}

-- ---- options of the same elements

same_option : (a b : Option ℕ) → ((x : ℕ) → a ≡ Some x → b ≡ Some x) → ((x : ℕ) → b ≡ Some x → a ≡ Some x) → a ≡ b
same_option None None f g = refl
same_option (Some x) b f g = sym (f x refl)
same_option None (Some y) f g = g y refl

pub moved_nothing : (e : Entry) → moved_by 0 e ≡ e
moved_nothing e = let v : 0 + e.value ≡ e.value = omega arith in ap (λ n. record { key = e.key; value = n; mapped = e.mapped; size = e.size }) v

-- ---- paths and look-ups

module _ (g : Geometry) (image : List Sector) (refs : List ℕ) (top : ℕ) (s : Store) (sound : IsRooted g refs top s) (stand : NodesStand g image s) where
  abbrev m : ℕ
  m = g.metadata_blocks

  abbrev volumes : Volumes
  volumes = volumes_below m s top

  abbrev listed : ℕ → ℕ → ℕ → ℕ → Entry
  listed id r mapped told = record { key = id; value = r; mapped = mapped; size = told }

  pub root_is : (node_at s top).rank ≡ 5 + ((node_at s top).rank - 5)
  root_is = tree_rank 5 _ s 0 _ top sound.forest.devices.tree

  pub devices_low : (node_at s top).rank - 5 ≤ 2
  devices_low = device_low ((node_at s top).rank - 5) s (2 ^ 24) top sound.forest.devices sound.few

  pub device_found_there : (id r mapped told : ℕ) → IsDevice image top id r mapped told → found id (content 5 s top) ≡ Some (listed id r mapped told)
  device_found_there id r mapped told path =
      let a = leads_among g image s refs sound.balanced stand Device ((node_at s top).rank - 5) top (listed id r mapped told) (root_live g image refs top s sound stand) root_is path in
      among_found 0 (2 ^ 24) (listed id r mapped told) (content 5 s top) (ascend_tree 5 _ s 0 (2 ^ 24) top sound.forest.devices.tree)
      (subst (λ (e : Entry). Among e (content 5 s top)) (moved_nothing (listed id r mapped told)) a)

  pub found_device : (id : ℕ) (e : Entry) → found id (content 5 s top) ≡ Some e → IsDevice image top id e.value e.mapped e.size
  found_device id e h =
      let l = among_leads g image s refs sound.balanced stand Device ((node_at s top).rank - 5) top e devices_low (root_live g image refs top s sound stand) root_is (found_among id e (content 5 s top) h) in
      let same : e ≡ l.entry = l.is ∙ moved_nothing l.entry in
      let key : e.key ≡ id = found_key id e (content 5 s top) h in
      subst (λ k. LeadsTo image Device top (listed k e.value e.mapped e.size)) key (subst (λ (x : Entry). LeadsTo image Device top x) (sym same) l.path)

  module _ (id : ℕ) (e : Entry) (here : found id (content 5 s top) ≡ Some e) where
    pub volume_there : (0 < count_of s e.value) × (occurrences e.value [] ≡ 0) × ((node_at s e.value).rank < 5)
    volume_there = volumes_are_live s [] refs top (fixed_blocks g) (2 ^ 24) sound.balanced sound.named sound.forest id e here

    pub volume_is : (node_at s e.value).rank ≡ 1 + ((node_at s e.value).rank - 1)
    volume_is = tree_rank 1 _ s 0 _ e.value (sound.forest.volumes id e here).tree.tree

    pub block_found_there : (x : Entry) → LeadsTo image Mapping e.value x → found x.key (content 1 s e.value) ≡ Some (moved_by m x)
    block_found_there x path =
        among_found 0 (2 ^ 24) (moved_by m x) (content 1 s e.value) (ascend_tree 1 _ s 0 _ e.value (sound.forest.volumes id e here).tree.tree)
        (leads_among g image s refs sound.balanced stand Mapping ((node_at s e.value).rank - 1) e.value x volume_there.0 volume_is path)

    pub found_block : (block place : ℕ) (x : Entry) → found block (content 1 s e.value) ≡ Some x → x.value ≡ m + place → LeadsTo image Mapping e.value (listed block place 0 0)
    found_block block place x h v =
        let l = among_leads g image s refs sound.balanced stand Mapping ((node_at s e.value).rank - 1) e.value x (omega (arith, volume_there.2)) volume_there.0 volume_is (found_among block x (content 1 s e.value) h) in
        let key : l.entry.key ≡ block = sym (ap (λ (y : Entry). y.key) l.is) ∙ found_key block x (content 1 s e.value) h in
        let moved : x.value ≡ m + l.entry.value = ap (λ (y : Entry). y.value) l.is in
        let value : l.entry.value ≡ place = omega (arith, moved, v) in
        let bare : l.entry.mapped ≡ 0 = leads_bare image e.value l.entry l.path in
        let sizeless : l.entry.size ≡ 0 = leads_sizeless image e.value l.entry l.path in
        subst (λ (y : Entry). LeadsTo image Mapping e.value y) (λ i. record { key = key i; value = value i; mapped = bare i; size = sizeless i }) l.path

  pub mapped_slot : (id block place : ℕ) → IsMapped image top id block place → slot_of id block volumes ≡ Some place
  mapped_slot id block place h =
      let d = device_found_there id h.volume_root h.mapped h.size h.device in
      let b = block_found_there id (listed id h.volume_root h.mapped h.size) d (listed block place 0 0) h.entry in
      let v : m + place - m ≡ place = omega arith in
      lookups_are_listed.slots m s top id block (listed id h.volume_root h.mapped h.size) d ∙ (ap (option_map (λ (x : Entry). x.value - m)) b ∙ ap Some v)

  pub slot_mapped : (id block place : ℕ) → slot_of id block volumes ≡ Some place → IsMapped image top id block place
  slot_mapped id block place h =
      let t = listed_slot m s top (fixed_blocks g) (2 ^ 24) sound.forest sound.sized id block place h in
      let e = entry_of id t.0 (content 5 s top) t.1 in
      let x = entry_of block (m + place) (content 1 s e.0.value) (subst (λ r. value_at block (content 1 s r) ≡ Some (m + place)) (sym e.2) t.2) in
      record {
        volume_root = e.0.value;
        mapped = e.0.mapped;
        size = e.0.size;
        device = found_device id e.0 e.1;
        entry = found_block id e.0 e.1 block place x.0 x.1 x.2;
      }

  -- a size for each device, and for no other id
  pub told_size : (id r mapped told : ℕ) → IsDevice image top id r mapped told → size_of id volumes ≡ Some told
  told_size id r mapped told path = lookups_are_listed.sizes m s top id ∙ ap (option_map (λ (e : Entry). e.size)) (device_found_there id r mapped told path)

  pub device_told : (id told : ℕ) → size_of id volumes ≡ Some told → (r : ℕ) × (mapped : ℕ) × IsDevice image top id r mapped told
  device_told id told h = go (found id (content 5 s top)) refl where
    go : (f : Option Entry) → found id (content 5 s top) ≡ f → (r : ℕ) × (mapped : ℕ) × IsDevice image top id r mapped told
    go (Some e) k =
        let z : size_of id volumes ≡ Some e.size = lookups_are_listed.sizes m s top id ∙ ap (option_map (λ (e : Entry). e.size)) k in
        let same : e.size ≡ told = cc in
        (e.value, e.mapped, subst (λ n. IsDevice image top id e.value e.mapped n) same (found_device id e k))
    go None k =
        let z : size_of id volumes ≡ None = lookups_are_listed.sizes m s top id ∙ ap (option_map (λ (e : Entry). e.size)) k in
        absurd (cc)

-- ---- both roots

module _ (g : Geometry) (image : List Sector) (root held : ℕ) (s : Store) (sound : IsSound g root held s) (stand : NodesStand g image s) where
  abbrev all : Volumes
  all = volumes_of g.metadata_blocks s root held

  abbrev every : List ℕ
  every = held_by g root held

  now : IsRooted g every root s
  now = rooted g image root held s sound stand root (omega (arith, one_same root root refl))

  copied : (n : ℕ) → held ≡ suc n → IsRooted g every (suc n) s
  copied n e = subst (λ h. IsRooted g every h s) e (rooted g image root held s sound stand held (subst (λ h. 0 < occurrences h (root ∷ held_refs held)) (sym e) (there held n e)))
    where
      there : (h n : ℕ) → h ≡ suc n → 0 < occurrences (suc n) (root ∷ held_refs h)
      there zero n e = absurd (omega (arith, e))
      there (suc k) n e = omega (arith, one_same (suc k) (suc n) e)

  some_held : 0 < held → (n : ℕ) × (held ≡ suc n)
  some_held some = go held refl where
    go : (h : ℕ) → held ≡ h → (n : ℕ) × (held ≡ suc n)
    go zero e = absurd (omega (arith, e, some))
    go (suc n) e = (n, e)

  -- ids have 24 bits
  device_below : (id r mapped told : ℕ) → IsDevice image root id r mapped told → id < 2 ^ 24
  device_below id r mapped told path = size_low g.metadata_blocks s root (fixed_blocks g) (2 ^ 24) id told sound.forest (told_size g image every root s now stand id r mapped told path)

  -- the size that a device or a copy tells
  told_there : (id r mapped told : ℕ) → IsDeviceOf image root held id r mapped told → size_of id all ≡ Some told
  told_there id r mapped told (inl path) =
      copies_are_listed.now_size g.metadata_blocks s root held id (device_below id r mapped told path) ∙ told_size g image every root s now stand id r mapped told path
  told_there id r mapped told (inr (device, some, is, path)) =
      let n = some_held some in
      ap (λ x. size_of x all) is
      ∙ (ap (λ h. size_of (copy_id device) (volumes_of g.metadata_blocks s root h)) n.1
      ∙ (copies_are_listed.copy_size g.metadata_blocks s root n.0 (fixed_blocks g) (2 ^ 24) device sound.forest
      ∙ told_size g image every (suc n.0) s (copied n.0 n.1) stand device r mapped told (subst (λ h. IsDevice image h device r mapped told) n.1 path)))

  there_told : (id told : ℕ) → size_of id all ≡ Some told → (r : ℕ) × (mapped : ℕ) × IsDeviceOf image root held id r mapped told
  there_told id told h = go (whose_size g.metadata_blocks s root held (fixed_blocks g) (2 ^ 24) id told sound.forest h) where
    go : WhoseSize g.metadata_blocks s root held id told → (r : ℕ) × (mapped : ℕ) × IsDeviceOf image root held id r mapped told
    go (size_of_now l k) = let d = device_told g image every root s now stand id told k in (d.0, d.1, inl d.2)
    go (size_of_copy n device e is k) =
        let d = device_told g image every (suc n) s (copied n e) stand device told k in
        (d.0, d.1, inr (device, omega (arith, e), is, subst (λ h. IsDevice image h device d.0 d.1 told) (sym e) d.2))

  pub mapped_slot_of : (id block place : ℕ) → IsMappedOf image root held id block place → slot_of id block all ≡ Some place
  mapped_slot_of id block place (inl m) =
      ap (place_or_none block) (copies_are_listed.now g.metadata_blocks s root held id (device_below id m.volume_root m.mapped m.size m.device)) ∙ mapped_slot g image every root s now stand id block place m
  mapped_slot_of id block place (inr (device, some, is, m)) =
      let n = some_held some in
      ap (λ x. slot_of x block all) is
      ∙ (ap (λ h. slot_of (copy_id device) block (volumes_of g.metadata_blocks s root h)) n.1
      ∙ (ap (place_or_none block) (copies_are_listed.copy g.metadata_blocks s root n.0 (fixed_blocks g) (2 ^ 24) device sound.forest)
      ∙ mapped_slot g image every (suc n.0) s (copied n.0 n.1) stand device block place (subst (λ h. IsMapped image h device block place) n.1 m)))

  pub slot_mapped_of : (id block place : ℕ) → slot_of id block all ≡ Some place → IsMappedOf image root held id block place
  slot_mapped_of id block place h = go (whose g.metadata_blocks s root held (fixed_blocks g) (2 ^ 24) id block place sound.forest h) where
    go : Whose g.metadata_blocks s root held id block place → IsMappedOf image root held id block place
    go (of_now l k) = inl (slot_mapped g image every root s now stand id block place k)
    go (of_copy n device e is k) =
        inr (device, omega (arith, e), is, subst (λ h. IsMapped image h device block place) (sym e) (slot_mapped g image every (suc n) s (copied n e) stand device block place k))

  -- a size for each device and each copy, and for no other id
  pub sizes_listed : (size : ℕ → ℕ) (id : ℕ) (o : Option ℕ) → ((r mapped told : ℕ) → IsDeviceOf image root held id r mapped told → o ≡ Some (size told))
      → ((n : ℕ) → o ≡ Some n → (r : ℕ) × (mapped : ℕ) × (told : ℕ) × IsDeviceOf image root held id r mapped told) → o ≡ option_map size (size_of id all)
  sizes_listed size id o each only = go (size_of id all) refl where
    go : (d : Option ℕ) → size_of id all ≡ d → o ≡ option_map size (size_of id all)
    go (Some told) h = let d = there_told id told h in each d.0 d.1 told d.2 ∙ sym (ap (option_map size) h)
    go None h = none o refl ∙ sym (ap (option_map size) h)
      where
        none : (p : Option ℕ) → o ≡ p → p ≡ None
        none None e = refl
        none (Some n) e =
            let d = only n e in
            let f : None ≡ Some d.2 = sym h ∙ told_there id d.0 d.1 d.2 d.3 in
            absurd (cc)

  pub listed_size : (size : ℕ → ℕ) (id r mapped told : ℕ) → IsDeviceOf image root held id r mapped told → option_map size (size_of id all) ≡ Some (size told)
  listed_size size id r mapped told path = ap (option_map size) (told_there id r mapped told path)

  pub size_listed : (size : ℕ → ℕ) (id n : ℕ) → option_map size (size_of id all) ≡ Some n → (r : ℕ) × (mapped : ℕ) × (told : ℕ) × IsDeviceOf image root held id r mapped told
  size_listed size id n h = go (size_of id all) refl where
    go : (d : Option ℕ) → size_of id all ≡ d → (r : ℕ) × (mapped : ℕ) × (told : ℕ) × IsDeviceOf image root held id r mapped told
    go (Some told) k = let d = there_told id told k in (d.0, d.1, told, d.2)
    go None k = let z : option_map size (size_of id all) ≡ None = ap (option_map size) k in absurd (cc)

-- ---- both ways, for the pool of one superblock

module _ (image : List Sector) (superblock : Superblock) (s : Store) (commit : IsCommit image superblock s) (p : PlainPool) where
  abbrev g : Geometry
  g = superblock.geometry

  stands_opened : (t : StandsFor image p) → t.superblock ≡ superblock → IsOpened g (contents_of superblock s) image p
  stands_opened t is =
      let geometry : p.geometry ≡ g = t.geometry ∙ ap (λ (b : Superblock). b.geometry) is in
      let mode : p.mode ≡ (if superblock.needs_check then ReadOnly else Writable) = t.mode ∙ ap (λ (b : Superblock). if b.needs_check then ReadOnly else Writable) is in
      let reachable : AreReachable image (roots_of superblock) t.nodes = subst (λ (b : Superblock). AreReachable image (roots_of b) t.nodes) is t.reachable in
      record {
        has = record {
          geometry = geometry;
          transaction_id = t.transaction_id ∙ ap (λ (b : Superblock). b.transaction_id) is;
          needs_check = t.needs_check ∙ ap (λ (b : Superblock). b.needs_check) is;
          held_root = t.held_root ∙ ap (λ (b : Superblock). b.held_root) is;
          meta_used = t.meta_used ∙ ((λ i. metadata_use (geometry i) (roots_of (is i)) t.nodes) ∙ sym (use_is g image superblock.root superblock.held_root s commit.sound commit.nodes t.nodes reachable));
          sizes = λ id. sizes_listed g image superblock.root superblock.held_root s commit.sound commit.nodes (told_sectors g) id (volume_size p id)
              (λ r mapped told path. t.volumes id r mapped told (subst (λ (b : Superblock). IsDeviceOf image b.root b.held_root id r mapped told) (sym is) path) ∙ ap (λ (x : Geometry). Some (told_sectors x told)) geometry)
              (λ n h. let d = t.no_others id n h in (d.0, d.1, d.2, subst (λ (b : Superblock). IsDeviceOf image b.root b.held_root id d.0 d.1 d.2) is d.3));
          slots = λ id block. same_option (slot_at p id block) (slot_of id block (volumes_of g.metadata_blocks s superblock.root superblock.held_root))
              (λ place h. mapped_slot_of g image superblock.root superblock.held_root s commit.sound commit.nodes id block place (subst (λ (b : Superblock). IsMappedOf image b.root b.held_root id block place) is ((t.slots id block place).0 h)))
              (λ place h. (t.slots id block place).1 (subst (λ (b : Superblock). IsMappedOf image b.root b.held_root id block place) (sym is) (slot_mapped_of g image superblock.root superblock.held_root s commit.sound commit.nodes id block place h)));
          sectors = subst (λ (x : Geometry). HasSectors image x p) geometry t.sectors;
        };
        mode = mode;
        holds = t.holds;
      }

  opened_stands : IsOpened g (contents_of superblock s) image p → StandsFor image p
  opened_stands o =
      let nodes = reachable_nodes g image superblock.root superblock.held_root s commit.sound commit.nodes in
      record {
        superblock = superblock;
        chosen = commit.chosen;
        whole = commit.whole;
        geometry = o.has.geometry;
        transaction_id = o.has.transaction_id;
        needs_check = o.has.needs_check;
        held_root = o.has.held_root;
        mode = o.mode;
        holds = o.holds;
        volumes = λ id r mapped told path.
            o.has.sizes id ∙ (listed_size g image superblock.root superblock.held_root s commit.sound commit.nodes (told_sectors g) id r mapped told path ∙ ap (λ (x : Geometry). Some (told_sectors x told)) (sym o.has.geometry));
        no_others = λ id n h. size_listed g image superblock.root superblock.held_root s commit.sound commit.nodes (told_sectors g) id n (sym (o.has.sizes id) ∙ h);
        slots = λ id block place. (
          λ h. slot_mapped_of g image superblock.root superblock.held_root s commit.sound commit.nodes id block place (sym (o.has.slots id block) ∙ h),
          λ h. o.has.slots id block ∙ mapped_slot_of g image superblock.root superblock.held_root s commit.sound commit.nodes id block place h,
        );
        sectors = subst (λ (x : Geometry). HasSectors image x p) (sym o.has.geometry) o.has.sectors;
        nodes = nodes.0;
        reachable = nodes.1;
        meta_used = o.has.meta_used ∙ (use_is g image superblock.root superblock.held_root s commit.sound commit.nodes nodes.0 nodes.1 ∙ ap (λ (x : Geometry). metadata_use x (roots_of superblock) nodes.0) (sym o.has.geometry));
      }

pub stands_for_opened : StandsForOpened
stands_for_opened g c image h p =
    let b = h.0 in
    let s = h.1 in
    let commit = h.2 in
    let to : StandsFor image p → IsOpened b.geometry (contents_of b s) image p = λ t. stands_opened image b s commit p t (same_superblock image b t.superblock commit.chosen t.chosen) in (
      λ t. subst (λ (x : Contents). IsOpened g x image p) (sym h.4) (subst (λ (y : Geometry). IsOpened y (contents_of b s) image p) h.3 (to t)),
      λ o. opened_stands image b s commit p (subst (λ (y : Geometry). IsOpened y (contents_of b s) image p) (sym h.3) (subst (λ (x : Contents). IsOpened g x image p) h.4 o)),
    )
