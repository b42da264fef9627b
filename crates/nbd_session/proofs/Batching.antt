-- Where the frames of a text end, one behind the other, and which of them are taken alone.
use Rattle.std.proofs.Common.{◌≡◌, ℕ, zero, suc, ◌+◌, ◌-◌, ◌<◌, ◌≤◌, false, List, [], ◌∷◌, ◌++◌, length, drop, true≢false, inl, inr, refl, ap, sym, subst, ◌∙◌, arith}
use Rattle.std.proofs.lemmas.Bool.{cases_lt}
use Rattle.nbd_wire.specs.declared.Kind.{Kind}
use Rattle.nbd_wire.specs.Grammar.{Message, IsFrame}
use Rattle.nbd_wire.proofs.Frames.{one_frame}
use Rattle.nbd_session.specs.Batches.{BeginsAlone, IsBatch, frames_end, front_len, is_alone}

pub end_none : (kind : Kind) (text : List ℕ) → 0 ≡ frames_end kind 0 text
unfolding frames_end
end_none kind text = refl

pub end_next : (kind : Kind) (text rest : List ℕ) (n at len : ℕ) → at ≡ frames_end kind n text → rest ≡ drop at text → len ≡ front_len kind rest → at + len ≡ frames_end kind (n + 1) text
unfolding frames_end
end_next kind text rest n at len is rest_is len_is =
    let step : frames_end kind (suc n) text ≡ frames_end kind n text + front_len kind (drop (frames_end kind n text) text) = refl in
    let one : suc n ≡ n + 1 = omega arith in
    let l : len ≡ front_len kind (drop (frames_end kind n text) text) = len_is ∙ (ap (front_len kind) rest_is ∙ ap (λ k. front_len kind (drop k text)) is) in
    ap (λ k. k + len) is ∙ (ap (λ k. frames_end kind n text + k) l ∙ (sym step ∙ ap (λ k. frames_end kind k text) one))

pub some_on : (at rest total count : ℕ) → (0 < rest → 0 < count) → rest ≡ total - at → at ≤ total → 0 < total → 0 < at + count
some_on zero rest total count some is most any = let more = some (omega (arith, is, any)) in omega (arith, more)
some_on (suc at) rest total count some is most any = omega arith

pub front_joins : (kind : Kind) (m : Message) (text frame rest : List ℕ) → IsFrame kind m frame → text ≡ frame ++ rest → is_alone m ≡ false → BeginsAlone kind text → ⊥
front_joins kind m text frame rest h e not b =
    let same : m ≡ b.message = (one_frame kind m b.message frame b.frame rest b.rest h b.is_frame (sym e ∙ b.text_is)).1 in
    true≢false (sym b.alone ∙ (ap is_alone (sym same) ∙ not))

-- none of so many frames is taken alone
abbrev pub AreJoined : Kind → List ℕ → ℕ → Type 0
AreJoined kind text count = (n : ℕ) → n < count → BeginsAlone kind (drop (frames_end kind n text) text) → ⊥

pub none_joined : (kind : Kind) (text : List ℕ) → AreJoined kind text 0
none_joined kind text n less b = omega (arith, less)

pub one_joins : (kind : Kind) (text rest : List ℕ) (count at : ℕ) → at ≡ frames_end kind count text → rest ≡ drop at text → (BeginsAlone kind rest → ⊥) → AreJoined kind text count → AreJoined kind text (count + 1)
one_joins kind text rest count at is rest_is joined all n less b =
    elim (cases_lt n count) [
      | inl before ↦ all n before b
      | inr last ↦
          let same : n ≡ count = omega (arith, less, last) in
          joined (subst (BeginsAlone kind) (ap (λ k. drop (frames_end kind k text) text) same ∙ (ap (λ k. drop k text) (sym is) ∙ sym rest_is)) b)
    ]

pub joined_batch : (kind : Kind) (text : List ℕ) (count at : ℕ) → count ≤ 16 → at ≡ frames_end kind count text → AreJoined kind text count → IsBatch kind text at
joined_batch kind text count at few is joined = record { frames = count; few = few; len_is = is; alone = λ n less b. absurd (joined n less b) }

first_end : (kind : Kind) (text : List ℕ) (len : ℕ) → len ≡ front_len kind text → len ≡ frames_end kind 1 text
unfolding frames_end
first_end kind text len is =
    let step : frames_end kind (suc zero) text ≡ frames_end kind zero text + front_len kind (drop (frames_end kind zero text) text) = refl in
    let none : frames_end kind zero text ≡ 0 = refl in
    let here : front_len kind (drop (frames_end kind zero text) text) ≡ front_len kind text = refl in
    omega (arith, step, none, here, is)

-- one frame of a text
pub lone_batch : (kind : Kind) (text rest : List ℕ) (at len : ℕ) → at ≡ 0 → rest ≡ drop at text → len ≡ front_len kind rest → IsBatch kind text len
lone_batch kind text rest at len none rest_is len_is = record {
  frames = 1;
  few = omega arith;
  len_is = first_end kind text len (len_is ∙ ap (front_len kind) (rest_is ∙ ap (λ k. drop k text) none));
  alone = λ n less b. refl;
}
