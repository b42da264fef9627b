-- Internal: extents as pairs of their bytes and flags.
use Rattle.std.specs.Prelude.{ℕ, List, map}
use Rattle.nbd_session.specs.declared.spans.Span.{Span}

abbrev pub as_pairs : List Span → List (ℕ × ℕ)
as_pairs spans = map (λ (s : Span). (s.len, s.flags)) spans
