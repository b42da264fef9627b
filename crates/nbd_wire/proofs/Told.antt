-- What is sent says one thing: no reply begins another.
use Rattle.std.proofs.Common.{◌≡◌, ℕ, ◌^◌, ◌<◌, Bool, List, ◌++◌, length, take, drop, refl, sym, ap, ◌∙◌, append_assoc, arith}
use Rattle.std.specs.Prelude.{if◌then◌else◌, ◌==◌}
use Rattle.std.proofs.lemmas.List.{take_at, drop_at}
use Rattle.nbd_wire.specs.declared.writing.ReplyType.{ReplyType}
use Rattle.nbd_wire.specs.declared.writing.ReplyType.TheVariants.{Acknowledged, Server, Information, Context, Unsupported, Policy, Invalid, Unknown}
use Rattle.nbd_wire.specs.declared.TheConstants.{REPLY_MAGIC, SIMPLE_REPLY_MAGIC, INFO_EXPORT, INFO_BLOCK_SIZE}
use Rattle.nbd_wire.specs.Numbers.{bytes, number}
use Rattle.nbd_wire.specs.Contexts.{context_data}
use Rattle.nbd_wire.specs.Replies.{reply_code, option_reply_head, option_reply, export_info, block_size_info, server_data, padding, export_reply, simple_reply_head}
use Rattle.nbd_wire.proofs.Fields.{IsWidth, width2, width4, width8, field_drops}

pub same_field : (n : ℕ) (w : IsWidth n) (x y : ℕ) (a b : List ℕ) → x < 256 ^ n → y < 256 ^ n → bytes n x ++ a ≡ bytes n y ++ b → (x ≡ y) × (a ≡ b)
same_field n w x y a b hx hy e =
    (sym (w.again x a hx) ∙ ap (number n) e ∙ w.again y b hy, sym (field_drops n w x a) ∙ ap (drop n) e ∙ field_drops n w y b)

pub same_front : (a b x y : List ℕ) → length a ≡ length b → a ++ x ≡ b ++ y → (a ≡ b) × (x ≡ y)
same_front a b x y len e =
    (sym (take_at a x (length a) refl) ∙ ap (take (length a)) e ∙ take_at b y (length a) (sym len), sym (drop_at a x (length a) refl) ∙ ap (drop (length a)) e ∙ drop_at b y (length a) (sym len))

abbrev of_code : ℕ → ReplyType
of_code code =
    if code == 1 then Acknowledged else if code == 2 then Server else if code == 3 then Information else if code == 4 then Context
    else if code == 0x80000001 then Unsupported else if code == 0x80000002 then Policy else if code == 0x80000003 then Invalid else Unknown

code_again : (r : ReplyType) → of_code (reply_code r) ≡ r
code_again Acknowledged = refl
code_again Server = refl
code_again Information = refl
code_again Context = refl
code_again Unsupported = refl
code_again Policy = refl
code_again Invalid = refl
code_again Unknown = refl

pub code_fits : (r : ReplyType) → reply_code r < 2 ^ 32
code_fits Acknowledged = omega arith
code_fits Server = omega arith
code_fits Information = omega arith
code_fits Context = omega arith
code_fits Unsupported = omega arith
code_fits Policy = omega arith
code_fits Invalid = omega arith
code_fits Unknown = omega arith

pub option_reply_is : (o : ℕ) (r : ReplyType) (a x : List ℕ)
    → option_reply o r a ++ x ≡ bytes 8 REPLY_MAGIC ++ (bytes 4 o ++ (bytes 4 (reply_code r) ++ (bytes 4 (length a) ++ (a ++ x))))
unfolding option_reply_head
option_reply_is o r a x = simp append_assoc

pub one_option_reply : (o p : ℕ) (r q : ReplyType) (a b x y : List ℕ) → o < 2 ^ 32 → p < 2 ^ 32 → length a < 2 ^ 32 → length b < 2 ^ 32
    → option_reply o r a ++ x ≡ option_reply p q b ++ y → (o ≡ p) × (r ≡ q) × (a ≡ b) × (x ≡ y)
one_option_reply o p r q a b x y ho hp ha hb e =
    let m = same_field 8 width8 REPLY_MAGIC REPLY_MAGIC _ _ (omega arith) (omega arith) (sym (option_reply_is o r a x) ∙ e ∙ option_reply_is p q b y) in
    let f = same_field 4 width4 o p _ _ ho hp m.1 in
    let g = same_field 4 width4 (reply_code r) (reply_code q) _ _ (code_fits r) (code_fits q) f.1 in
    let h = same_field 4 width4 (length a) (length b) _ _ ha hb g.1 in
    let i = same_front a b x y h.0 h.1 in
    (f.0, sym (code_again r) ∙ ap of_code g.0 ∙ code_again q, i.0, i.1)

pub server_data_is : (a x : List ℕ) → server_data a ++ x ≡ bytes 4 (length a) ++ (a ++ x)
unfolding server_data
server_data_is a x = simp append_assoc

pub one_name_listed : (a b x y : List ℕ) → length a < 2 ^ 32 → length b < 2 ^ 32 → server_data a ++ x ≡ server_data b ++ y → (a ≡ b) × (x ≡ y)
one_name_listed a b x y ha hb e =
    let h = same_field 4 width4 (length a) (length b) _ _ ha hb (sym (server_data_is a x) ∙ e ∙ server_data_is b y) in
    same_front a b x y h.0 h.1

pub one_context : (i j : ℕ) (a b : List ℕ) → i < 2 ^ 32 → j < 2 ^ 32 → context_data i a ≡ context_data j b → (i ≡ j) × (a ≡ b)
unfolding context_data
one_context i j a b hi hj e = same_field 4 width4 i j a b hi hj e

pub export_info_is : (s f : ℕ) (x : List ℕ) → export_info s f ++ x ≡ bytes 2 INFO_EXPORT ++ (bytes 8 s ++ (bytes 2 f ++ x))
unfolding export_info
export_info_is s f x = simp append_assoc

pub one_export_info : (s t f g : ℕ) (x y : List ℕ) → s < 2 ^ 64 → t < 2 ^ 64 → f < 2 ^ 16 → g < 2 ^ 16 → export_info s f ++ x ≡ export_info t g ++ y → (s ≡ t) × (f ≡ g) × (x ≡ y)
one_export_info s t f g x y hs ht hf hg e =
    let m = same_field 2 width2 INFO_EXPORT INFO_EXPORT _ _ (omega arith) (omega arith) (sym (export_info_is s f x) ∙ e ∙ export_info_is t g y) in
    let a = same_field 8 width8 s t _ _ hs ht m.1 in
    let b = same_field 2 width2 f g _ _ hf hg a.1 in
    (a.0, b.0, b.1)

pub block_size_info_is : (l p m : ℕ) (x : List ℕ) → block_size_info l p m ++ x ≡ bytes 2 INFO_BLOCK_SIZE ++ (bytes 4 l ++ (bytes 4 p ++ (bytes 4 m ++ x)))
unfolding block_size_info
block_size_info_is l p m x = simp append_assoc

pub one_block_size_info : (l p m a b c : ℕ) (x y : List ℕ) → l < 2 ^ 32 → p < 2 ^ 32 → m < 2 ^ 32 → a < 2 ^ 32 → b < 2 ^ 32 → c < 2 ^ 32
    → block_size_info l p m ++ x ≡ block_size_info a b c ++ y → (l ≡ a) × (p ≡ b) × (m ≡ c) × (x ≡ y)
one_block_size_info l p m a b c x y hl hp hm ha hb hc e =
    let t = same_field 2 width2 INFO_BLOCK_SIZE INFO_BLOCK_SIZE _ _ (omega arith) (omega arith) (sym (block_size_info_is l p m x) ∙ e ∙ block_size_info_is a b c y) in
    let u = same_field 4 width4 l a _ _ hl ha t.1 in
    let v = same_field 4 width4 p b _ _ hp hb u.1 in
    let w = same_field 4 width4 m c _ _ hm hc v.1 in
    (u.0, v.0, w.0, w.1)

pub export_reply_is : (s f : ℕ) (z : Bool) (x : List ℕ) → export_reply s f z ++ x ≡ bytes 8 s ++ (bytes 2 f ++ (padding z ++ x))
unfolding export_reply
export_reply_is s f z x = simp append_assoc

-- to one client, who wants zeroes or does not
pub one_export_reply : (s t f g : ℕ) (z : Bool) (x y : List ℕ) → s < 2 ^ 64 → t < 2 ^ 64 → f < 2 ^ 16 → g < 2 ^ 16 → export_reply s f z ++ x ≡ export_reply t g z ++ y → (s ≡ t) × (f ≡ g) × (x ≡ y)
one_export_reply s t f g z x y hs ht hf hg e =
    let a = same_field 8 width8 s t _ _ hs ht (sym (export_reply_is s f z x) ∙ e ∙ export_reply_is t g z y) in
    let b = same_field 2 width2 f g _ _ hf hg a.1 in
    (a.0, b.0, (same_front (padding z) (padding z) x y refl b.1).1)

pub simple_head_is : (e c : ℕ) (x : List ℕ) → simple_reply_head e c ++ x ≡ bytes 4 SIMPLE_REPLY_MAGIC ++ (bytes 4 e ++ (bytes 8 c ++ x))
unfolding simple_reply_head
simple_head_is e c x = simp append_assoc

pub one_simple_reply : (e f c d : ℕ) (x y : List ℕ) → e < 2 ^ 32 → f < 2 ^ 32 → c < 2 ^ 64 → d < 2 ^ 64 → simple_reply_head e c ++ x ≡ simple_reply_head f d ++ y → (e ≡ f) × (c ≡ d) × (x ≡ y)
one_simple_reply e f c d x y he hf hc hd is =
    let m = same_field 4 width4 SIMPLE_REPLY_MAGIC SIMPLE_REPLY_MAGIC _ _ (omega arith) (omega arith) (sym (simple_head_is e c x) ∙ is ∙ simple_head_is f d y) in
    let a = same_field 4 width4 e f _ _ he hf m.1 in
    let b = same_field 8 width8 c d _ _ hc hd a.1 in
    (a.0, b.0, b.1)
