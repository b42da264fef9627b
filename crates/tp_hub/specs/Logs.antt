-- Internal: the call of a stream that is noted (own).
use Rattle.std.specs.Prelude.{ℕ, List, [], ◌∷◌, ◌++◌}
use Rattle.tp_hub.specs.declared.log.Made.{Made}
use Rattle.tp_hub.specs.declared.log.Made.TheVariants.{Read, Written, Flushed}
use Rattle.tp_hub.specs.Streams.{Flushes, StreamCall, read_call, write_call}

abbrev pub made_call : Made → List ℕ → StreamCall
made_call (Read received) bytes = read_call received bytes
made_call (Written put) bytes = write_call put bytes
made_call (Flushed done) bytes = Flushes done

-- the calls, and one more
abbrev pub noted : Made → List ℕ → List StreamCall → List StreamCall
noted made bytes calls = calls ++ made_call made bytes ∷ []
