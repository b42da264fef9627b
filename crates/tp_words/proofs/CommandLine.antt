-- The command line is one of which `clap` says what it makes of the words.
use Rattle.std.proofs.Common.{◌≡◌, true, refl}
use Rattle.clap.specs.Words.{is_simple, is_simple_and_free}
use Rattle.clap.proofs.OnLiterals.{clap_on_literals}
use Rattle.tp_tasks.specs.CommandLine.{thinpool_app}

pub is_plain : is_simple thinpool_app ≡ true
unfolding clap_on_literals
is_plain = refl

pub is_free : is_simple_and_free thinpool_app ≡ true
unfolding clap_on_literals
is_free = refl
