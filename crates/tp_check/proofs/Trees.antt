-- The entries of a tree's leaves, and the children of a node, one after another.
use Rattle.std.proofs.Common.{◌≡◌, ℕ, zero, suc, Bool, true, false, ◌+◌, ◌*◌, ◌<◌, ◌≤◌, List, [], ◌∷◌, ◌++◌, length, take, Some, refl, sym, ap, ◌∙◌, subst, arith}
use Rattle.std.specs.Prelude.{slice_get, slice_index}
use Rattle.std.proofs.lemmas.List.{append-nil, append_assoc, length-append, get_or-map, take_more}
use Rattle.std.proofs.Math.Nat.{mul-le-mul_right}
use Rattle.std.proofs.lemmas.Option.{get_or_from_slice_get, slice_get_within}
use Rattle.tp_model.specs.Sectors.{Sector}
use Rattle.tp_layout.specs.Node.{NodeValue, is_long, keys, most_entries}
use Rattle.tp_layout.specs.declared.entry.Entry.{Entry}
use Rattle.tp_layout.specs.declared.kind.TreeKind.{TreeKind}
use Rattle.tp_image.specs.Rules.{BeginsAt, Children, IsContent, Joined}
use Rattle.tp_image.specs.Faults.{end_of}
use Rattle.tp_image.proofs.Uniqueness.{IsNodeAt-one}

-- ---- an element by its place

pub key_at : (es : List Entry) (k : ℕ) (e : Entry) → slice_get es k ≡ Some e → slice_index (keys es) k ≡ e.key
key_at es k e at = get_or-map (λ (x : Entry). x.key) es k e 0 (slice_get_within es k e at) ∙ ap (λ (x : Entry). x.key) (get_or_from_slice_get es k e e at)

pub begins_first : (es : List Entry) → 0 < length es → BeginsAt (slice_index (keys es) 0) es
begins_first [] some = absurd (omega (arith, some))
begins_first (e ∷ es) some = refl

pub begins_one : (low high : ℕ) (es : List Entry) → BeginsAt low es → BeginsAt high es → low ≡ high
begins_one low high [] a b = absurd a
begins_one low high (e ∷ es) a b = sym a ∙ b

-- ---- the children of a node

pub children_each : (Q : ℕ → ℕ → ℕ → Type 0) (high : ℕ) (es : List Entry) → ((k : ℕ) (e : Entry) → slice_get es k ≡ Some e → Q e.key (end_of (slice_get es (suc k)) high) e.value) → Children Q high es
children_each Q high [] h = tt
children_each Q high (e ∷ []) h = h 0 e refl
children_each Q high (e ∷ next ∷ es) h = (h 0 e refl, children_each Q high (next ∷ es) (λ k x at. h (suc k) x at))

-- ---- the entries of all leaves

pub joined_more : (P : ℕ → List Entry → Type 0) (es all : List Entry) (e : Entry) (more : List Entry) → Joined P es all → P e.value more → Joined P (es ++ e ∷ []) (all ++ more)
joined_more P [] all e more h p = (more, [], p, refl, ap (λ (xs : List Entry). xs ++ more) h ∙ sym (append-nil more))
joined_more P (x ∷ es) all e more h p =
    (h.0, h.1 ++ more, h.2, joined_more P es h.1 e more h.3 p, ap (λ (xs : List Entry). xs ++ more) h.4 ∙ append_assoc h.0 h.1 more)

-- with one entry more
pub joined_next : (P : ℕ → List Entry → Type 0) (es all : List Entry) (i : ℕ) (e : Entry) (more : List Entry) → slice_get es i ≡ Some e → Joined P (take i es) all → P e.value more
    → Joined P (take (i + 1) es) (all ++ more)
joined_next P es all i e more at h p =
    let inside = slice_get_within es i e at in
    let same : take (i + 1) es ≡ take i es ++ e ∷ [] = take_more es i e inside ∙ ap (λ (x : Entry). take i es ++ x ∷ []) (get_or_from_slice_get es i e e at) in
    subst (λ (xs : List Entry). Joined P xs (all ++ more)) (sym same) (joined_more P (take i es) all e more h p)

joined_same : (P Q : ℕ → List Entry → Type 0) → ((b : ℕ) (xs ys : List Entry) → P b xs → Q b ys → xs ≡ ys) → (es xs ys : List Entry) → Joined P es xs → Joined Q es ys → xs ≡ ys
joined_same P Q each [] xs ys h k = h ∙ sym k
joined_same P Q each (e ∷ es) xs ys h k =
    h.4 ∙ (λ i. each e.value h.0 k.0 h.2 k.2 i ++ joined_same P Q each es h.1 k.1 h.3 k.3 i) ∙ sym k.4

pub joined_few : (P : ℕ → List Entry → Type 0) (m : ℕ) → ((b : ℕ) (xs : List Entry) → P b xs → length xs ≤ m) → (es all : List Entry) → Joined P es all → length all ≤ length es * m
joined_few P m each [] all h = omega (arith, ap length h)
joined_few P m each (e ∷ es) all h =
    let long : length all ≡ length h.0 + length h.1 = ap length h.4 ∙ length-append h.0 h.1 in
    let first = each e.value h.0 h.2 in
    let rest = joined_few P m each es h.1 h.3 in
    omega (arith, long, first, rest)

-- a tree has one content, whatever its level is said to be
pub same_content : (image : List Sector) (kind : TreeKind) (k l b : ℕ) (xs ys : List Entry) → IsContent image kind k b xs → IsContent image kind l b ys → xs ≡ ys
unfolding IsContent
same_content image kind zero zero b xs ys h g = h.4 ∙ ap (λ (n : NodeValue). n.entries) (IsNodeAt-one image b h.0 g.0 h.1 g.1) ∙ sym g.4
same_content image kind zero (suc l) b xs ys h g = let e : h.0.level ≡ g.0.level = ap (λ (n : NodeValue). n.level) (IsNodeAt-one image b h.0 g.0 h.1 g.1) in absurd (omega (arith, e, h.3, g.3))
same_content image kind (suc k) zero b xs ys h g = let e : h.0.level ≡ g.0.level = ap (λ (n : NodeValue). n.level) (IsNodeAt-one image b h.0 g.0 h.1 g.1) in absurd (omega (arith, e, h.3, g.3))
same_content image kind (suc k) (suc l) b xs ys h g =
    joined_same (λ child entries. IsContent image kind k child entries) (λ child entries. IsContent image kind l child entries) (λ c us vs u v. same_content image kind k l c us vs u v) g.0.entries xs ys
    (subst (λ (n : NodeValue). Joined (λ child entries. IsContent image kind k child entries) n.entries xs) (IsNodeAt-one image b h.0 g.0 h.1 g.1) h.4) g.4

-- the most entries of the leaves below a node of this level
unfoldable pub most_below : ℕ → ℕ
most_below zero = 252
most_below (suc level) = 252 * most_below level

pub room_below : (long : Bool) → most_entries long ≤ 252
room_below true = omega arith
room_below false = omega arith

pub content_few : (image : List Sector) (kind : TreeKind) (k b : ℕ) (all : List Entry) → IsContent image kind k b all → length all ≤ most_below k
unfolding IsContent most_below
content_few image kind zero b all h = omega (arith, ap length h.4, h.1.good.form.room, room_below (is_long h.0.kind h.0.level))
content_few image kind (suc k) b all h =
    let few = joined_few (λ child entries. IsContent image kind k child entries) (most_below k) (λ c xs x. content_few image kind k c xs x) h.0.entries all h.4 in
    let room : length h.0.entries ≤ 252 = omega (arith, h.1.good.form.room, room_below (is_long h.0.kind h.0.level)) in
    let more = mul-le-mul_right (most_below k) room in
    omega (arith, few, more)

pub most_small : (level : ℕ) → level ≤ 2 → most_below level ≤ 16003008
unfolding most_below
most_small zero le = omega arith
most_small (suc zero) le = omega arith
most_small (suc (suc zero)) le = omega arith
most_small (suc (suc (suc level))) le = absurd (omega (arith, le))
