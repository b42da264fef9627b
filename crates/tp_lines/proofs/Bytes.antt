-- What is read and written, one after another.
use Rattle.std.proofs.Common.{◌++◌, ℕ, List, [], Option, Some, None, refl, sym, ap, ◌∙◌, append_assoc}
use Rattle.std.proofs.lemmas.List.{append-nil}
use Rattle.std.specs.Io.KnownBytes.{Keeps, Appends, Consumes}

pub appends_then : (a b c : Option (List ℕ)) (x y : List ℕ) → Appends a b x → Appends b c y → Appends a c (x ++ y)
appends_then None b c x y p q = tt
appends_then (Some xs) None c x y p q = absurd p
appends_then (Some xs) (Some ys) None x y p q = absurd q
appends_then (Some xs) (Some ys) (Some zs) x y p q = q ∙ (ap (λ (l : List ℕ). l ++ y) p ∙ append_assoc xs x y)

pub keeps_same : (a : Option (List ℕ)) → Keeps a a
keeps_same None = tt
keeps_same (Some xs) = refl

pub appends_none : (a b : Option (List ℕ)) → Keeps a b → Appends a b []
appends_none None b p = tt
appends_none (Some xs) None p = p
appends_none (Some xs) (Some ys) p = p ∙ sym (append-nil xs)

pub appends_kept : (a b c : Option (List ℕ)) (x : List ℕ) → Appends a b x → Keeps b c → Appends a c x
appends_kept a b c x p q = rw (append-nil x) at (appends_then a b c x [] p (appends_none b c q))

pub consumes_none : (a b : Option (List ℕ)) → Keeps a b → Consumes a b []
consumes_none None b p = tt
consumes_none (Some xs) None p = p
consumes_none (Some xs) (Some ys) p = sym p

pub consumes_then : (a b c : Option (List ℕ)) (x y : List ℕ) → Consumes a b x → Consumes b c y → Consumes a c (x ++ y)
consumes_then None b c x y p q = tt
consumes_then (Some xs) None c x y p q = absurd p
consumes_then (Some xs) (Some ys) None x y p q = absurd q
consumes_then (Some xs) (Some ys) (Some zs) x y p q = p ∙ (ap (λ (l : List ℕ). x ++ l) q ∙ sym (append_assoc x y zs))
