-- A node is closed: the walk comes one node further. And what the whole walk has shown.
use Rattle.std.proofs.Common.{◌≡◌, ℕ, zero, suc, Bool, true, false, ◌+◌, ◌<◌, ◌≤◌, List, [], ◌∷◌, length, get_or, set, map, Some, None, inl, inr, ◌⊎◌, refl, sym, ap, ◌∙◌, subst, arith}
use Rattle.std.specs.Prelude.{◌^◌, ◌==◌, if◌then◌else◌, nat_eq, nat_lt, Option, slice_index, slice_index_or, Contains, count_by}
use Rattle.std.specs.List.{AllByRecursion, IsDistinct, list_any}
use Rattle.std.proofs.lemmas.Bool.{cases_eq, eqb-true, ne_eqb}
use Rattle.std.proofs.lemmas.List.{get_or-map, get_or-set_other, get_or-set_same, length-map}
use Rattle.std.proofs.lemmas.List.Sums.{count_by-le-length, sum_by-cons, sum_by-le}
use Rattle.std.proofs.lemmas.List.Elements.{Contains-get_or}
use Rattle.std.proofs.lemmas.Map.Views.{Contains-from_any}
use Rattle.std.proofs.lemmas.Map.Steps.{length-le_from_distinct_below}
use Rattle.std.proofs.lemmas.Option.{none-some, same_Some}
use Rattle.tp_model.specs.Geometry.{Geometry, fixed_part}
use Rattle.tp_model.specs.Sectors.{Sector}
use Rattle.tp_layout.specs.Node.{NodeValue, is_long, most_level}
use Rattle.tp_layout.specs.declared.entry.Entry.{Entry}
use Rattle.tp_layout.specs.declared.kind.TreeKind.{TreeKind}
use Rattle.tp_layout.specs.declared.kind.TreeKind.TheVariants.{Device}
use Rattle.tp_layout.specs.declared.superblock.Version.{Version}
use Rattle.tp_image.specs.Nodes.{IsNodeAt, LeadsTo, ends, goes}
use Rattle.tp_image.specs.Counts.{AreReachable, IsReachable, itself, through, data_names, is_naming_data, metadata_count, metadata_names, times_named, values}
use Rattle.tp_image.specs.Rules.{IsContent, IsTree, KeepTheRules}
use Rattle.tp_image.proofs.Uniqueness.{IsNodeAt-one}
use Rattle.tp_check.specs.declared.summary.Summary.{Summary}
use Rattle.tp_check.specs.Walk.{Closes, Grows, IsClosed, IsFresh, IsGoodVolume, IsKept, IsWalked, Knows, Progress, Suits}
use Rattle.tp_check.proofs.Telling.{entry_named, no_data_of_devices}
use Rattle.tp_check.proofs.Trees.{room_below, same_content}

-- ---- how many names there can be

-- a node of a list
pub cons_cases : {X : Type 0} (x : X) (xs : List X) (y : X) → Contains (x ∷ xs) y → (x ≡ y) ⊎ Contains xs y
cons_cases x xs y (zero, lt, e) = inl e
cons_cases x xs y (suc k, lt, e) = inr (k, omega (arith, lt), e)

pub cons_more : {X : Type 0} (x : X) (xs : List X) (y : X) → Contains xs y → Contains (x ∷ xs) y
cons_more x xs y h = (suc h.0, omega (arith, h.1), h.2)

any_node : NodeValue
any_node = record { kind = Device; level = 0; own = 0; entries = [] }

own_below : (ns : List NodeValue) → ((n : NodeValue) → Contains ns n → n.own < 65536) → (q : ℕ) → list_any (nat_eq q) (map (λ (n : NodeValue). n.own) ns) ≡ true → q < 65536
own_below ns each q has =
    let h = Contains-from_any {eq = nat_eq} (λ x y e. eqb-true x y e) q (map (λ (n : NodeValue). n.own) ns) has in
    let inside : h.0 < length ns = omega (arith, h.1, length-map ns (λ (n : NodeValue). n.own)) in
    let own : (get_or ns h.0 any_node).own ≡ q = sym (get_or-map (λ (n : NodeValue). n.own) ns h.0 any_node q inside) ∙ h.2 in
    omega (arith, own, each (get_or ns h.0 any_node) (Contains-get_or ns h.0 any_node inside))

few_nodes : (ns : List NodeValue) → IsDistinct nat_eq (map (λ (n : NodeValue). n.own) ns) → ((n : NodeValue) → Contains ns n → n.own < 65536) → length ns ≤ 65536
few_nodes ns once each = omega (arith, length-le_from_distinct_below (map (λ (n : NodeValue). n.own) ns) 65536 once (own_below ns each), length-map ns (λ (n : NodeValue). n.own))

few_names : (names : NodeValue → List ℕ) (ns : List NodeValue) (b : ℕ) → ((n : NodeValue) → Contains ns n → length (names n) ≤ 252) → length ns ≤ 65536 → times_named names ns b ≤ 16515072
few_names names ns b each few =
    let f : NodeValue → ℕ = λ (n : NodeValue). count_by (λ x. x == b) (names n) in
    let most = sum_by-le f 252 ns (λ i d lt. let n = get_or ns i d in omega (arith, count_by-le-length (λ x. x == b) (names n), each n (Contains-get_or ns i d lt))) in
    omega (arith, most, few)

either_few : (t : Bool) (xs : List ℕ) → length xs ≤ 252 → (length (if t then [] else xs) ≤ 252) × (length (if t then xs else []) ≤ 252)
either_few true xs h = (omega arith, h)
either_few false xs h = (h, omega arith)

names_few : (image : List Sector) (n : NodeValue) → IsNodeAt image n.own n → (length (metadata_names n) ≤ 252) × (length (data_names n) ≤ 252)
names_few image n here =
    let room : length n.entries ≤ 252 = omega (arith, here.good.form.room, room_below (is_long n.kind n.level)) in
    either_few (is_naming_data n.kind n.level) (values n) (omega (arith, room, length-map n.entries (λ (e : Entry). e.value)))

entries_few : (image : List Sector) (n : NodeValue) → IsNodeAt image n.own n → length n.entries ≤ 252
entries_few image n here = omega (arith, here.good.form.room, room_below (is_long n.kind n.level))

one_at_most : (t : Bool) → (if t then 1 else 0) ≤ 1
one_at_most true = omega arith
one_at_most false = omega arith

-- ---- a block's summary in the table

kept_there : (known : List (Option Summary)) (b : ℕ) (s : Summary) → b < length known → slice_index_or (set known b (Some s)) b None ≡ Some s
kept_there known b s lt = get_or-set_same known b (Some s) None lt

kept_other : (known : List (Option Summary)) (b c : ℕ) (s : Summary) → (c ≡ b → ⊥) → slice_index_or (set known b (Some s)) c None ≡ slice_index_or known c None
kept_other known b c s apart = get_or-set_other known b c (Some s) None apart

pub grows_set : (known : List (Option Summary)) (b : ℕ) (s : Summary) → b < length known → Grows known (set known b (Some s))
grows_set known b s lt c kept =
    elim (cases_eq c b) [
      | inl e ↦ (s, subst (λ (x : ℕ). slice_index_or (set known b (Some s)) x None ≡ Some s) (sym e) (kept_there known b s lt))
      | inr d ↦ (kept.0, kept_other known b c s d ∙ kept.1)
    ]

pub grows_through : (a b c : List (Option Summary)) → Grows a b → Grows b c → Grows a c
grows_through a b c f h x kept = h x (f x kept)

closed_still : (image : List Sector) (version : Version) (g : Geometry) (roots : List ℕ) (old new : List (Option Summary)) (n : NodeValue) → Grows old new → IsClosed image version g roots old n → IsClosed image version g roots new n
closed_still image version g roots old new n grows c = record { here = c.here; reached = c.reached; kept = grows n.own c.kept; below = λ v named. grows v (c.below v named); volumes = c.volumes }

-- ---- one node more

module _ (image : List Sector) (old new : Progress) (n : NodeValue) (s : Summary) (w : IsWalked image old) (closes : Closes n s old new) (inside : n.own < length old.known)
    (here : IsNodeAt image n.own n) (reached : IsReachable image old.roots n) (knows : Knows image old.geometry old.roots n.own s)
    (below : (v : ℕ) → Contains (metadata_names n) v → IsKept old.known v) (volumes : n.kind ≡ Device → n.level ≡ 0 → (e : Entry) → Contains n.entries e → IsGoodVolume image old.version old.geometry e) where
  pub grown : Grows old.known new.known
  grown = subst (λ (known : List (Option Summary)). Grows old.known known) (sym closes.known) (grows_set old.known n.own s inside)

  pub kept_now : slice_index_or new.known n.own None ≡ Some s
  kept_now = ap (λ (known : List (Option Summary)). slice_index_or known n.own None) closes.known ∙ kept_there old.known n.own s inside

  closed_here : IsClosed image old.version old.geometry old.roots new.known n
  closed_here = record { here = here; reached = reached; kept = (s, kept_now); below = λ v named. grown v (below v named); volumes = volumes }

  knows_now : (b : ℕ) (t : Summary) → slice_index_or new.known b None ≡ Some t → Knows image old.geometry old.roots b t
  knows_now b t is =
      elim (cases_eq b n.own) [
        | inl e ↦
            let same : Some s ≡ Some t = sym kept_now ∙ (ap (λ (x : ℕ). slice_index_or new.known x None) (sym e) ∙ is) in
            subst (λ (x : ℕ). Knows image old.geometry old.roots x t) (sym e) (subst (λ (x : Summary). Knows image old.geometry old.roots n.own x) (same_Some s t same) knows)
        | inr d ↦ w.knows b t (sym (ap (λ (known : List (Option Summary)). slice_index_or known b None) closes.known ∙ kept_other old.known n.own b s d) ∙ is)
      ]

  -- what was kept before
  kept_before : (b : ℕ) → (b ≡ n.own → ⊥) → IsKept new.known b → IsKept old.known b
  kept_before b d kept = (kept.0, sym (ap (λ (known : List (Option Summary)). slice_index_or known b None) closes.known ∙ kept_other old.known n.own b s d) ∙ kept.1)

  few : length w.nodes ≤ 65536
  few = few_nodes w.nodes w.once (λ m there. (w.closed m there).here.good.form.own)

  small_metadata : (b : ℕ) → b < length old.metadata → slice_index old.metadata b + length n.entries < 2 ^ 32
  small_metadata b lt =
      let count = w.metadata_named b lt in
      let most = few_names metadata_names w.nodes b (λ m there. (names_few image m (w.closed m there).here).0) few in
      let long = entries_few image n here in
      omega (arith, count, most, long, count_by-le-length (λ root. b == root) old.roots, w.few_roots, one_at_most (nat_lt b (fixed_part old.geometry)))

  small_others : (b : ℕ) → b < length old.others → slice_index old.others b + length n.entries < 2 ^ 32
  small_others b lt =
      let count = w.others_named b lt in
      let most = few_names data_names w.nodes b (λ m there. (names_few image m (w.closed m there).here).1) few in
      let long = entries_few image n here in
      omega (arith, count, most, long)

  -- the state in the words of the old one
  abbrev now : Progress
  now = record { version = old.version; geometry = old.geometry; roots = old.roots; known = new.known; metadata = new.metadata; others = new.others }

  apart_from : (ns : List NodeValue) → ((m : NodeValue) → Contains ns m → m.own ≡ n.own → ⊥) → AllByRecursion (λ y. nat_eq n.own y ≡ false) (map (λ (m : NodeValue). m.own) ns)
  apart_from [] h = tt
  apart_from (m ∷ ms) h = (ne_eqb n.own m.own (λ e. h m (0, omega arith, refl) (sym e)), apart_from ms (λ k there. h k (cons_more m ms k there)))

  once_more : slice_index_or old.known n.own None ≡ None → IsDistinct nat_eq (map (λ (m : NodeValue). m.own) (n ∷ w.nodes))
  unfolding IsDistinct
  once_more none =
      (apart_from w.nodes (λ m there same. let k = (w.closed m there).kept in none-some k.0 (sym none ∙ (ap (λ (x : ℕ). slice_index_or old.known x None) (sym same) ∙ k.1))), w.once)

  listed_now : (b : ℕ) → IsKept new.known b → (m : NodeValue) × Contains (n ∷ w.nodes) m × (m.own ≡ b)
  listed_now b kept =
      elim (cases_eq b n.own) [
        | inl e ↦ (n, (0, omega arith, refl), sym e)
        | inr d ↦ let m = w.listed b (kept_before b d kept) in (m.0, cons_more n w.nodes m.0 m.1, m.2)
      ]

  first_time : slice_index_or old.known n.own None ≡ None → IsWalked image now
  first_time none = record {
    few_roots = w.few_roots;
    nodes = n ∷ w.nodes;
    closed = λ m there. elim (cons_cases n w.nodes m there) [
      | inl e ↦ subst (λ (x : NodeValue). IsClosed image old.version old.geometry old.roots new.known x) e closed_here
      | inr h ↦ closed_still image old.version old.geometry old.roots old.known new.known m grown (w.closed m h)
    ];
    once = once_more none;
    knows = knows_now;
    listed = listed_now;
    metadata_named = λ b lt.
        let inside_old : b < length old.metadata = omega (arith, lt, closes.same.metadata_long) in
        let more = (closes.first none).metadata b inside_old (small_metadata b inside_old) in
        let sum = sum_by-cons (λ (m : NodeValue). count_by (λ x. x == b) (metadata_names m)) n w.nodes in
        omega (arith, more, sum, w.metadata_named b inside_old);
    others_named = λ b lt.
        let inside_old : b < length old.others = omega (arith, lt, closes.same.others_long) in
        let more = (closes.first none).others b inside_old (small_others b inside_old) in
        let sum = sum_by-cons (λ (m : NodeValue). count_by (λ x. x == b) (data_names m)) n w.nodes in
        omega (arith, more, sum, w.others_named b inside_old);
  }

  another_time : IsKept old.known n.own → IsWalked image now
  another_time kept = record {
    few_roots = w.few_roots;
    nodes = w.nodes;
    closed = λ m there. closed_still image old.version old.geometry old.roots old.known new.known m grown (w.closed m there);
    once = w.once;
    knows = knows_now;
    listed = λ b now_kept. elim (cases_eq b n.own) [
      | inl e ↦ let m = w.listed n.own kept in (m.0, m.1, m.2 ∙ sym e)
      | inr d ↦ w.listed b (kept_before b d now_kept)
    ];
    metadata_named = λ b lt. ap (λ (xs : List ℕ). slice_index xs b) (closes.again kept).0 ∙ w.metadata_named b (omega (arith, lt, closes.same.metadata_long));
    others_named = λ b lt. ap (λ (xs : List ℕ). slice_index xs b) (closes.again kept).1 ∙ w.others_named b (omega (arith, lt, closes.same.others_long));
  }

  either_time : (o : Option Summary) → slice_index_or old.known n.own None ≡ o → IsWalked image now
  either_time None is = first_time is
  either_time (Some t) is = another_time (t, is)

  pub closed_walk : IsWalked image new
  closed_walk =
      let same : now ≡ new = λ i. record { version = sym closes.same.version i; geometry = sym closes.same.geometry i; roots = sym closes.same.roots i; known = new.known; metadata = new.metadata; others = new.others } in
      subst (λ (p : Progress). IsWalked image p) same (either_time (slice_index_or old.known n.own None) refl)

-- ---- nothing, and all

pub fresh_walk : (image : List Sector) (version : Version) (g : Geometry) (roots : List ℕ) (p : Progress) → IsFresh version g roots p → length p.roots ≤ 2 → IsWalked image p
unfolding IsDistinct
fresh_walk image version g roots p f few = record {
  few_roots = few;
  nodes = [];
  closed = λ n there. absurd (omega (arith, there.1));
  once = tt;
  knows = λ b s is. absurd (none-some s (sym (f.known b) ∙ is));
  listed = λ b kept. absurd (none-some kept.0 (sym (f.known b) ∙ kept.1));
  metadata_named = λ b lt. f.metadata b lt ∙ (λ i. metadata_count (sym f.geometry i) (sym f.roots_is i) [] b);
  others_named = λ b lt. f.others b;
}

module _ (image : List Sector) (p : Progress) (w : IsWalked image p) where
  -- the node in a block that was walked is one of those that are closed
  pub kept_closed : (b : ℕ) (n : NodeValue) → IsKept p.known b → IsNodeAt image b n → Contains w.nodes n
  kept_closed b n kept here =
      let m = w.listed b kept in
      let same : m.0 ≡ n = IsNodeAt-one image b m.0 n (subst (λ (x : ℕ). IsNodeAt image x m.0) m.2 (w.closed m.0 m.1).here) here in
      subst (λ (x : NodeValue). Contains w.nodes x) same m.1

  reached_closed : ((root : ℕ) → Contains p.roots root → IsKept p.known root) → (n : NodeValue) → IsReachable image p.roots n → Contains w.nodes n
  reached_closed tops n (itself root m there at) = kept_closed root n (tops root there) at
  reached_closed tops n (through parent m from named at) = kept_closed n.own n ((w.closed parent (reached_closed tops parent from)).below n.own named) at

  pub all_reached : ((root : ℕ) → Contains p.roots root → IsKept p.known root) → AreReachable image p.roots w.nodes
  all_reached tops = record { all = reached_closed tops; only = λ n there. (w.closed n there).reached; once = w.once }

  devices_good : (b : ℕ) (e : Entry) → IsKept p.known b → LeadsTo image Device b e → IsGoodVolume image p.version p.geometry e
  devices_good b e kept (ends n at kind leaf there) = (w.closed n (kept_closed b n kept at)).volumes kind leaf e there
  devices_good b e kept (goes n c at kind inner there path) =
      devices_good c.value e ((w.closed n (kept_closed b n kept at)).below c.value (entry_named n c (no_data_of_devices n.kind n.level kind) there)) path

  pub rules_kept : (root : ℕ) → IsKept p.known root → (s : Summary) → Knows image p.geometry p.roots root s → s.kind ≡ Device → Suits s true 0 (2 ^ 24) → s.below ≤ 65536 → KeepTheRules image p.version p.geometry root
  rules_kept root top s k kind suits few =
      let tree = subst (λ (x : TreeKind). IsTree image p.geometry x true s.level 0 (2 ^ 24) root) kind (k.tree true 0 (2 ^ 24) suits) in
      let content = subst (λ (x : TreeKind). IsContent image x s.level root k.content.0) kind k.content.1 in
      let low : k.node.level ≤ 2 = subst (λ (x : TreeKind). k.node.level ≤ most_level x) (sym k.kind_is ∙ kind) k.here.good.form.level in
      record {
        devices = record { level = s.level; low_enough = omega (arith, k.level_is, low); tree = tree };
        sizes = λ id volume_root mapped size path. (devices_good root (record { key = id; value = volume_root; mapped = mapped; size = size }) top path).size;
        volumes = λ id volume_root mapped size path. (devices_good root (record { key = id; value = volume_root; mapped = mapped; size = size }) top path).tree;
        few_devices = λ level records h.
            let same = same_content image Device level s.level root records k.content.0 h content in omega (arith, ap length same, k.content.2, few);
        mapped_is = λ id volume_root mapped size level entries path h. (devices_good root (record { key = id; value = volume_root; mapped = mapped; size = size }) top path).mapped level entries h;
      }
