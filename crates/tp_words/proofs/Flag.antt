-- `clap` passes over the first word, so the flag may stand in the place of the program's name.
use Rattle.std.proofs.Common.{◌≡◌, Bool, List, drop, false, sym, ap, subst, if◌then◌else◌}
use Rattle.clap.specs.Faults.{built_fault}
use Rattle.clap.specs.Simple.{argument_words, built, entered, names_of}
use Rattle.clap.specs.Walk.{nothing_held, stop_after}
use Rattle.clap.specs.Words.{App, Text, fault_of, subcommand_of}

-- two lists of words that differ in the first alone
pub same_arguments : (a : App) (x y : List Text) → a.top.no_binary_name ≡ false → drop 1 x ≡ drop 1 y → argument_words a x ≡ argument_words a y
same_arguments a x y named e = subst (λ (b : Bool). (if b then x else drop 1 x) ≡ (if b then y else drop 1 y)) (sym named) e

pub same_fault : (a : App) (x y : List Text) → a.top.no_binary_name ≡ false → drop 1 x ≡ drop 1 y → fault_of a x ≡ fault_of a y
same_fault a x y named e = ap (built_fault (built a) nothing_held) (same_arguments a x y named e)

pub same_subcommand : (a : App) (x y : List Text) → a.top.no_binary_name ≡ false → drop 1 x ≡ drop 1 y → subcommand_of a x ≡ subcommand_of a y
same_subcommand a x y named e =
    ap (λ (words : List Text). entered (built a) (stop_after (built a).top.rules (names_of (built a)) words)) (same_arguments a x y named e)
