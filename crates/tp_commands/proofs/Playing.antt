-- What is told of a script, and of either end of it.
use Rattle.std.proofs.Common.{◌≡◌, Bool, true, false}
use Rattle.std.specs.Prelude.{MatchBool}

pub map_bool : (b : Bool) (P Q P' Q' : Type 0) → (P → P') → (Q → Q') → MatchBool b P Q → MatchBool b P' Q'
map_bool true P Q P' Q' f g h = f h
map_bool false P Q P' Q' f g h = g h

pub match_yes : (b : Bool) (P Q : Type 0) → b ≡ true → P → MatchBool b P Q
match_yes true P Q is h = h
match_yes false P Q is h = absurd cc

pub match_no : (b : Bool) (P Q : Type 0) → b ≡ false → Q → MatchBool b P Q
match_no true P Q is h = absurd cc
match_no false P Q is h = h
