-- What the writers leave.
use Rattle.std.proofs.Common.{◌≡◌, ℕ, ◌+◌, ◌-◌, ◌*◌, ◌≤◌, Bool, true, false, List, [], ◌++◌, length, refl, ap, subst, ◌∙◌, arith, length-append}
use Rattle.std.specs.List.{flat_map}
use Rattle.tp_layout.specs.declared.entry.Entry.{Entry}
use Rattle.tp_layout.specs.Numbers.{le32, le64, zeros}
use Rattle.tp_layout.specs.Node.{NodeValue, IsNode, kind_number, is_long, entry_len, entry_bytes, node_bytes}
use Rattle.tp_layout.proofs.NumberLaws.{length-le32, length-le64, length-zeros}
use Rattle.tp_layout.proofs.Pieces.{Puts, put_two, written_more, written_zeros}
use Rattle.tp_layout.proofs.EntryLaws.{length-flat_map-entry_bytes}
use Rattle.tp_layout.proofs.NodeLaws.{fill}

pub short_entry_put : (long : Bool) (e : Entry) (old b1 b2 : List ℕ) (at : ℕ) → long ≡ false → at + entry_len long ≤ length old
    → Puts at 8 (le64 e.key) old b1 → Puts (at + 8) 8 (le64 e.value) b1 b2 → Puts at (entry_len long) (entry_bytes long e) old b2
unfolding entry_bytes
short_entry_put true e old b1 b2 at l room p q = absurd cc
short_entry_put false e old b1 b2 at l room p q = put_two old b1 b2 (le64 e.key) (le64 e.value) at 8 8 (at + 8) refl (length-le64 e.key) (omega arith) p q

pub long_entry_put : (long : Bool) (e : Entry) (old b1 b2 b3 b4 : List ℕ) (at : ℕ) → long ≡ true → at + entry_len long ≤ length old
    → Puts at 8 (le64 e.key) old b1 → Puts (at + 8) 8 (le64 e.value) b1 b2 → Puts (at + 16) 8 (le64 e.mapped) b2 b3 → Puts (at + 24) 8 (le64 e.size) b3 b4
    → Puts at (entry_len long) (entry_bytes long e) old b4
unfolding entry_bytes
long_entry_put false e old b1 b2 b3 b4 at l room p q r s = absurd cc
long_entry_put true e old b1 b2 b3 b4 at l room p q r s =
    let two = put_two old b1 b2 (le64 e.key) (le64 e.value) at 8 8 (at + 8) refl (length-le64 e.key) (omega arith) p q in
    let l2 : length (le64 e.key ++ le64 e.value) ≡ 16 = simp (length-append, length-le64) refl in
    let three = put_two old b2 b3 (le64 e.key ++ le64 e.value) (le64 e.mapped) at 16 8 (at + 16) refl l2 (omega arith) two r in
    let l3 : length (le64 e.key ++ le64 e.value ++ le64 e.mapped) ≡ 24 = simp (length-append, length-le64) refl in
    put_two old b3 b4 (le64 e.key ++ le64 e.value ++ le64 e.mapped) (le64 e.size) at 24 8 (at + 24) refl l3 (omega arith) three s

pub node_written : (n : NodeValue) (b0 b1 b2 b3 b4 b5 : List ℕ) → IsNode n → b0 ≡ zeros 4096
    → Puts 0 4 (le32 (kind_number n.kind)) b0 b1 → Puts 4 4 (le32 n.level) b1 b2 → Puts 8 8 (le64 n.own) b2 b3 → Puts 16 4 (le32 (length n.entries)) b3 b4
    → Puts 64 (entry_len (is_long n.kind n.level) * length n.entries) (flat_map (entry_bytes (is_long n.kind n.level)) n.entries) b4 b5
    → b5 ≡ node_bytes n
unfolding node_bytes
node_written n b0 b1 b2 b3 b4 b5 good e0 p1 p2 p3 p4 p5 =
    let long = is_long n.kind n.level in
    let a = le32 (kind_number n.kind) in
    let b = le32 n.level in
    let c = le64 n.own in
    let d = le32 (length n.entries) in
    let es = flat_map (entry_bytes long) n.entries in
    let used : ℕ = entry_len long * length n.entries in
    let filled = fill long (length n.entries) good.form.room in
    let la = length-le32 (kind_number n.kind) in
    let lb : length (a ++ b) ≡ 8 = simp (length-append, length-le32) refl in
    let lc : length (a ++ b ++ c) ≡ 16 = simp (length-append, length-le32, length-le64) refl in
    let ld : length (a ++ b ++ c ++ d) ≡ 20 = simp (length-append, length-le32, length-le64) refl in
    let lz : length (a ++ b ++ c ++ d ++ zeros 44) ≡ 64 = length-append (a ++ b ++ c ++ d) (zeros 44) ∙ omega (arith, ld, length-zeros 44) in
    let w1 : b1 ≡ a ++ zeros 4092 = written_more b0 b1 [] a 4096 0 4 refl la e0 p1 in
    let w2 : b2 ≡ (a ++ b) ++ zeros 4088 = written_more b1 b2 a b 4096 4 4 la (length-le32 n.level) w1 p2 in
    let w3 : b3 ≡ (a ++ b ++ c) ++ zeros 4080 = written_more b2 b3 (a ++ b) c 4096 8 8 lb (length-le64 n.own) w2 p3 in
    let w4 : b4 ≡ (a ++ b ++ c ++ d) ++ zeros 4076 = written_more b3 b4 (a ++ b ++ c) d 4096 16 4 lc (length-le32 (length n.entries)) w3 p4 in
    let wz : b4 ≡ (a ++ b ++ c ++ d ++ zeros 44) ++ zeros 4032 = written_zeros b4 (a ++ b ++ c ++ d) 4096 20 44 (omega arith) w4 in
    let w5 = written_more b4 b5 (a ++ b ++ c ++ d ++ zeros 44) es 4096 64 used lz (length-flat_map-entry_bytes long n.entries) wz p5 in
    let left : 4096 - (64 + used) ≡ 4032 - used = omega arith in
    w5 ∙ ap (λ (k : ℕ). (a ++ b ++ c ++ d ++ zeros 44 ++ es) ++ zeros k) left

pub node_written_by : (n : NodeValue) (k own : ℕ) (long : Bool) (es : List Entry) (b0 b1 b2 b3 b4 b5 : List ℕ) → k ≡ kind_number n.kind → own ≡ n.own → long ≡ is_long n.kind n.level → es ≡ n.entries → IsNode n → b0 ≡ zeros 4096
    → Puts 0 4 (le32 k) b0 b1 → Puts 4 4 (le32 n.level) b1 b2 → Puts 8 8 (le64 own) b2 b3 → Puts 16 4 (le32 (length es)) b3 b4
    → Puts 64 (entry_len long * length es) (flat_map (entry_bytes long) es) b4 b5 → b5 ≡ node_bytes n
node_written_by n k own long es b0 b1 b2 b3 b4 b5 ek eo el ee good e0 p1 p2 p3 p4 p5 =
    let K : ℕ → Type 0 = λ x. Puts 0 4 (le32 x) b0 b1 in
    let O : ℕ → Type 0 = λ x. Puts 8 8 (le64 x) b2 b3 in
    let C : List Entry → Type 0 = λ xs. Puts 16 4 (le32 (length xs)) b3 b4 in
    let E : List Entry → Type 0 = λ xs. Puts 64 (entry_len long * length xs) (flat_map (entry_bytes long) xs) b4 b5 in
    let L : Bool → Type 0 = λ g. Puts 64 (entry_len g * length n.entries) (flat_map (entry_bytes g) n.entries) b4 b5 in
    node_written n b0 b1 b2 b3 b4 b5 good e0 (subst K ek p1) p2 (subst O eo p3) (subst C ee p4) (subst L el (subst E ee p5))
