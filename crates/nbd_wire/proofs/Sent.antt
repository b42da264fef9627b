-- What a client sends, as it is written.
use Rattle.std.proofs.Common.{◌≡◌, ℕ, ◌+◌, ◌*◌, ◌^◌, ◌<◌, ◌≤◌, List, [], ◌∷◌, ◌++◌, length, map, take, drop, get_or, refl, sym, ap, ap₂, subst, ◌∙◌, append_assoc, arith}
use Rattle.std.specs.List.{flat_map}
use Rattle.std.specs.Borrow.{Bor}
use Rattle.std.specs.Prelude.{All}
use Rattle.std.proofs.lemmas.Grind.{flat_map-append}
use Rattle.std.proofs.lemmas.List.{append-nil, drop_at, get_or-map, length-append, length-map, length-take-le, take-append-drop, take_all, take_more}
use Rattle.std.proofs.lemmas.List.Folds.{length-flat_map-take}
use Rattle.std.proofs.lemmas.List.Elements.{All-cons, All-nil}
use Rattle.nbd_wire.specs.declared.Kind.{Kind}
use Rattle.nbd_wire.specs.declared.Request.{Request}
use Rattle.nbd_wire.specs.Numbers.{bytes}
use Rattle.nbd_wire.specs.Grammar.{Message, IsFrame, option_text, request_text}
use Rattle.nbd_wire.specs.Reading.{wanted, whole_len}
use Rattle.nbd_wire.specs.Contexts.{IsQuery, query_text}
use Rattle.nbd_wire.specs.Replies.{Puts, info_text, server_data}
use Rattle.nbd_wire.proofs.Fields.{width2, width4}
use Rattle.nbd_wire.proofs.Frames.{frame_again, one_frame, option_append, request_append, wanted_whole}
use Rattle.nbd_wire.proofs.Names.{length-types}
use Rattle.nbd_wire.proofs.Puts.{length-server_data, puts_then}

-- a request's fixed part, as its fields are written
request_head_is : (m : ℕ) (r : Request)
    → ((((bytes 4 m ++ bytes 2 r.flags) ++ bytes 2 r.kind) ++ bytes 8 r.cookie) ++ bytes 8 r.offset) ++ bytes 4 r.len ≡ request_text m r []
unfolding request_text
request_head_is m r = simp (append_assoc, append-nil)

pub puts_request_head : (old new : List ℕ) (at end m : ℕ) (r : Request)
    → Puts old at (((((bytes 4 m ++ bytes 2 r.flags) ++ bytes 2 r.kind) ++ bytes 8 r.cookie) ++ bytes 8 r.offset) ++ bytes 4 r.len) new end → Puts old at (request_text m r []) new end
puts_request_head old new at end m r p = subst (λ (x : List ℕ). Puts old at x new end) (request_head_is m r) p

-- and with what follows it
pub puts_request : (old a new : List ℕ) (at i end m : ℕ) (r : Request) (x : List ℕ) → Puts old at (request_text m r []) a i → Puts a i x new end → Puts old at (request_text m r x) new end
puts_request old a new at i end m r x p q =
    subst (λ (y : List ℕ). Puts old at y new end) (request_append m r [] x) (puts_then old a new (request_text m r []) x at i end p q)

-- an option's fixed part, as its fields are written
option_head_is : (m o l : ℕ) → (bytes 8 m ++ bytes 4 o) ++ bytes 4 l ≡ option_text m o l []
unfolding option_text
option_head_is m o l = simp (append_assoc, append-nil)

pub puts_option_head : (old new : List ℕ) (at end m o l : ℕ) → Puts old at ((bytes 8 m ++ bytes 4 o) ++ bytes 4 l) new end → Puts old at (option_text m o l []) new end
puts_option_head old new at end m o l p = subst (λ (x : List ℕ). Puts old at x new end) (option_head_is m o l) p

-- and with its data
pub puts_option : (old a new : List ℕ) (at i end m o l : ℕ) (x : List ℕ) → Puts old at (option_text m o l []) a i → Puts a i x new end → Puts old at (option_text m o l x) new end
puts_option old a new at i end m o l x p q =
    subst (λ (y : List ℕ). Puts old at y new end) (option_append m o l [] x) (puts_then old a new (option_text m o l []) x at i end p q)

-- ---- the data of INFO and GO

pub puts_none : (old : List ℕ) (at : ℕ) → Puts old at [] old at
puts_none old at = record { front = sym (append-nil (take at old)); rest = refl; ends = omega arith; len = refl }

-- one type more
pub puts_type : (old now new : List ℕ) (at i end k : ℕ) (types : List ℕ) → k < length types → Puts old at (flat_map (bytes 2) (take k types)) now i
    → Puts now i (bytes 2 (get_or types k 0)) new end → Puts old at (flat_map (bytes 2) (take (k + 1) types)) new end
puts_type old now new at i end k types lt p q =
    let one : flat_map (bytes 2) (get_or types k 0 ∷ []) ≡ bytes 2 (get_or types k 0) = append-nil (bytes 2 (get_or types k 0)) in
    let more : flat_map (bytes 2) (take (k + 1) types) ≡ flat_map (bytes 2) (take k types) ++ bytes 2 (get_or types k 0) =
    ap (flat_map (bytes 2)) (take_more types k 0 lt) ∙ flat_map-append (bytes 2) (take k types) (get_or types k 0 ∷ [])
    ∙ ap (λ (x : List ℕ). flat_map (bytes 2) (take k types) ++ x) one in
    subst (λ (x : List ℕ). Puts old at x new end) (sym more) (puts_then old now new _ _ at i end p q)

-- all of them
pub puts_types : (old new : List ℕ) (at end k : ℕ) (types : List ℕ) → length types ≤ k → Puts old at (flat_map (bytes 2) (take k types)) new end → Puts old at (flat_map (bytes 2) types) new end
puts_types old new at end k types le p = subst (λ (x : List ℕ). Puts old at (flat_map (bytes 2) x) new end) (take_all k types le) p

pub length-info_text : (name types : List ℕ) → length (info_text name types) ≡ 6 + length name + 2 * length types
unfolding info_text
length-info_text name types =
    let tail : List ℕ = bytes 2 (length types) ++ flat_map (bytes 2) types in
    omega (
      arith,
      length-append (bytes 4 (length name)) (name ++ tail),
      length-append name tail,
      length-append (bytes 2 (length types)) (flat_map (bytes 2) types),
      width4.len (length name),
      width2.len (length types),
      length-types types,
    )

-- the whole option
pub puts_info : (old a b c d new : List ℕ) (at i j k l end m o n : ℕ) (name types : List ℕ) → n ≡ 6 + length name + 2 * length types
    → Puts old at (option_text m o n []) a i → Puts a i (bytes 4 (length name)) b j → Puts b j name c k → Puts c k (bytes 2 (length types)) d l
    → Puts d l (flat_map (bytes 2) types) new end → Puts old at (option_text m o (length (info_text name types)) (info_text name types)) new end
unfolding info_text
puts_info old a b c d new at i j k l end m o n name types len p q r s t =
    let tail : List ℕ = bytes 2 (length types) ++ flat_map (bytes 2) types in
    let told : List ℕ = bytes 4 (length name) ++ (name ++ tail) in
    let is : n ≡ length told = len ∙ sym (length-info_text name types) in
    puts_option old a new at i end m o (length told) told (subst (λ (x : ℕ). Puts old at (option_text m o x []) a i) is p)
    (puts_then a b new (bytes 4 (length name)) (name ++ tail) i j end q (puts_then b c new name tail j k end r (puts_then c d new _ _ k l end s t)))

-- ---- the data of LIST_META_CONTEXT and SET_META_CONTEXT

texts_more : (texts : List (List ℕ)) (k : ℕ) → k < length texts
    → flat_map server_data (take (k + 1) texts) ≡ flat_map server_data (take k texts) ++ server_data (get_or texts k [])
texts_more texts k lt =
    ap (flat_map server_data) (take_more texts k [] lt) ∙ flat_map-append server_data (take k texts) (get_or texts k [] ∷ [])
    ∙ ap (λ (x : List ℕ). flat_map server_data (take k texts) ++ x) (append-nil (server_data (get_or texts k [])))

-- there is room for one text more
text_within : (texts : List (List ℕ)) (k : ℕ) → k < length texts
    → length (flat_map server_data (take k texts)) + (4 + length (get_or texts k [])) ≤ length (flat_map server_data texts)
text_within texts k lt = omega (arith, length-flat_map-take server_data texts k [] lt, length-server_data (get_or texts k []))

abbrev Lent : Type 0
Lent = Bor (List ℕ)

abbrev pub texts_of : List (Bor (List ℕ)) → List (List ℕ)
texts_of queries = map (λ query. query.now) queries

pub length-texts_of : (queries : List (Bor (List ℕ))) → length (texts_of queries) ≡ length queries
length-texts_of queries = length-map queries (λ (query : Lent). query.now)

text_at : (queries : List (Bor (List ℕ))) (k : ℕ) (d : Bor (List ℕ)) → k < length queries → (get_or queries k d).now ≡ get_or (texts_of queries) k []
text_at queries k d lt = sym (get_or-map (λ (query : Lent). query.now) queries k d [] lt)

pub text_room : (queries : List (Bor (List ℕ))) (k : ℕ) (d : Bor (List ℕ)) → k < length queries
    → length (flat_map server_data (take k (texts_of queries))) + (4 + length (get_or queries k d).now) ≤ length (flat_map server_data (texts_of queries))
text_room queries k d lt =
    omega (arith, text_within (texts_of queries) k (omega (arith, lt, length-texts_of queries)), ap length (text_at queries k d lt))

pub puts_text : (old now new : List ℕ) (at i end k : ℕ) (queries : List (Bor (List ℕ))) (d : Bor (List ℕ)) → k < length queries → Puts old at (flat_map server_data (take k (texts_of queries))) now i
    → Puts now i (server_data (get_or queries k d).now) new end → Puts old at (flat_map server_data (take (k + 1) (texts_of queries))) new end
puts_text old now new at i end k queries d lt p q =
    let texts = texts_of queries in
    let more = ap (λ (x : List ℕ). flat_map server_data (take k texts) ++ server_data x) (text_at queries k d lt)
    ∙ sym (texts_more texts k (omega (arith, lt, length-texts_of queries))) in
    subst (λ (x : List ℕ). Puts old at x new end) more (puts_then old now new _ _ at i end p q)

pub puts_texts : (old new : List ℕ) (at end k : ℕ) (texts : List (List ℕ)) → length texts ≤ k → Puts old at (flat_map server_data (take k texts)) new end → Puts old at (flat_map server_data texts) new end
puts_texts old new at end k texts le p = subst (λ (x : List (List ℕ)). Puts old at (flat_map server_data x) new end) (take_all k texts le) p

pub length-query_text : (name : List ℕ) (texts : List (List ℕ)) → length (query_text name texts) ≡ 8 + length name + length (flat_map server_data texts)
unfolding query_text
length-query_text name texts =
    let tail : List ℕ = bytes 4 (length texts) ++ flat_map server_data texts in
    omega (
      arith,
      length-append (server_data name) tail,
      length-server_data name,
      length-append (bytes 4 (length texts)) (flat_map server_data texts),
      width4.len (length texts),
    )

-- each text has four bytes more than its own
pub texts_long : (texts : List (List ℕ)) → 4 * length texts ≤ length (flat_map server_data texts)
texts_long [] = omega arith
texts_long (text ∷ texts) = omega (arith, texts_long texts, length-append (server_data text) (flat_map server_data texts), length-server_data text)

pub texts_short : (texts : List (List ℕ)) (n : ℕ) → length (flat_map server_data texts) < n → All (λ (text : List ℕ). length text < n) texts
texts_short [] n lt = All-nil (λ (text : List ℕ). length text < n)
texts_short (text ∷ texts) n lt =
    All-cons (λ (text : List ℕ). length text < n) text texts (omega (arith, lt, length-append (server_data text) (flat_map server_data texts), length-server_data text))
    (texts_short texts n (omega (arith, lt, length-append (server_data text) (flat_map server_data texts), length-server_data text)))

pub puts_query : (old a b new : List ℕ) (at i j end : ℕ) (name : List ℕ) (texts : List (List ℕ)) → Puts old at (server_data name) a i → Puts a i (bytes 4 (length texts)) b j
    → Puts b j (flat_map server_data texts) new end → Puts old at (query_text name texts) new end
unfolding query_text
puts_query old a b new at i j end name texts p q r = puts_then old a new (server_data name) _ at i end p (puts_then a b new _ _ i j end q r)

pub is_query : (name : List ℕ) (texts : List (List ℕ)) → length (query_text name texts) ≤ 8192 → IsQuery (query_text name texts) name texts
is_query name texts short =
    let len = length-query_text name texts in record {
      name_fits = omega (arith, short, len);
      count_fits = omega (arith, short, len, texts_long texts);
      each_fits = texts_short texts (2 ^ 32) (omega (arith, short, len));
      text_is = refl;
    }

-- ---- what is written is read

pub stands : (old added new : List ℕ) (place end : ℕ) → place ≤ length old → Puts old place added new end → drop place new ≡ added ++ drop end old
stands old added new place end le p =
    let front : length (take place old) ≡ place = length-take-le place old le in
    let whole : new ≡ take place old ++ (added ++ drop end old) =
    sym (take-append-drop end new) ∙ ap₂ (λ (x y : List ℕ). x ++ y) p.front p.rest ∙ append_assoc (take place old) added (drop end old) in
    ap (drop place) whole ∙ drop_at (take place old) (added ++ drop end old) place front

pub said_again : (kind : Kind) (m n : Message) (frame rest : List ℕ) → IsFrame kind m frame → IsFrame kind n (take (whole_len kind (frame ++ rest)) (frame ++ rest)) → n ≡ m
said_again kind m n frame rest h k =
    let t = frame ++ rest in
    (one_frame kind n m (take (whole_len kind t) t) frame (drop (whole_len kind t) t) rest k h (take-append-drop (whole_len kind t) t)).1

pub whole_again : (kind : Kind) (m : Message) (frame rest : List ℕ) → IsFrame kind m frame → whole_len kind (frame ++ rest) ≡ length frame
whole_again kind m frame rest h = (frame_again kind m frame rest h).whole

pub wanted_again : (kind : Kind) (m : Message) (frame rest : List ℕ) → IsFrame kind m frame → wanted kind (frame ++ rest) ≡ length frame
wanted_again kind m frame rest h =
    let p = frame_again kind m frame rest h in
    wanted_whole kind (frame ++ rest) (omega (arith, p.fixed, length-append frame rest)) ∙ p.whole
