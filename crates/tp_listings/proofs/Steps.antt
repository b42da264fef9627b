-- Calls that look, one behind the other, behind which is shown what was shown.
use Rattle.std.proofs.Common.{◌≡◌, false, sym, subst, ◌∙◌}
use Rattle.std.specs.Prelude.{Result, Ok, Err}
use Rattle.tp_model.specs.declared.refusal.Refusal.{Refusal}
use Rattle.tp_model.specs.declared.refusal.Refusal.TheVariants.{Memory}
use Rattle.tp_model.specs.Calls.{Answer, Call, Refused, is_writing}
use Rattle.tp_model.specs.Clauses.{Meets, View}
use Rattle.tp_listings.specs.Looks.{LooksOver, ShowsStill}
use Rattle.tp_listings.specs.Owned.{IsLooked}
use Rattle.tp_listings.proofs.Looked.{both, gives, lacks, none, refuses, still_both, told, was_refused}

pub begun : {D A : Type 0} (view : View D) (old : D) (a : A) → IsLooked view old old {A = A} (Ok a)
begun view old a = record { looks = none view old a; still = λ s h. h }

pub joined : {D A B : Type 0} (view : View D) (old mid new : D) (a : A) (r : Result B Refusal) → IsLooked view old mid {A = A} (Ok a) → IsLooked view mid new r → IsLooked view old new r
joined view old mid new a r one two = record { looks = both view old mid new a r one.looks two.looks; still = still_both view old mid new one.still two.still }

pub with_value : {D A B : Type 0} (view : View D) (old new : D) (a : A) (b : B) → IsLooked view old new {A = A} (Ok a) → IsLooked view old new {A = B} (Ok b)
with_value view old new a b h = record { looks = gives view old new a b h.looks; still = h.still }

-- a refusal is handed on
pub handed_on : {D A B : Type 0} (view : View D) (old new : D) (reason given : Refusal) (r : Result B Refusal) → r ≡ Err given → given ≡ reason → IsLooked view old new {A = A} (Err reason) → IsLooked view old new r
handed_on {A = A} view old new reason given r is same h =
    subst (λ (x : Result _ Refusal). IsLooked view old new x) (sym is)
    (record { looks = refuses view old new given (subst (λ (x : Refusal). LooksOver view old new {A = A} (Err x)) (sym same) h.looks); still = h.still })

-- there was no memory behind it
pub no_memory : {D A B : Type 0} (view : View D) (old new : D) (a : A) (reason given : Refusal) (r : Result B Refusal) → r ≡ Err given → given ≡ reason → reason ≡ Memory
    → IsLooked view old new {A = A} (Ok a) → IsLooked view old new r
no_memory view old new a reason given r is same memory h =
    subst (λ (x : Result _ Refusal). IsLooked view old new x) (sym is) (record { looks = lacks view old new a given (same ∙ memory) h.looks; still = h.still })

pub call_told : {D A : Type 0} (view : View D) (old new : D) (call : Call) (answer : Answer) (a : A) → is_writing call ≡ false → ShowsStill view old new → Meets view old new call answer → IsLooked view old new {A = A} (Ok a)
call_told view old new call answer a w still met = record { looks = told view old new call answer a w met; still = still }

pub call_refused : {D A : Type 0} (view : View D) (old new : D) (call : Call) (reason given : Refusal) (r : Result A Refusal) → r ≡ Err given → given ≡ reason → is_writing call ≡ false → ShowsStill view old new
    → Meets view old new call (Refused reason) → IsLooked view old new r
call_refused view old new call reason given r is same w still met =
    subst (λ (x : Result _ Refusal). IsLooked view old new x) (sym is)
    (record { looks = was_refused view old new call given w (subst (λ (x : Refusal). Meets view old new call (Refused x)) (sym same) met); still = still })
