use Rattle.std.proofs.Common.{List, ap, ◌∙◌}
use Rattle.nbd_session.specs.declared.spans.Span.{Span}
use Rattle.nbd_session.specs.Spans.{as_pairs}
use Rattle.nbd_session.specs.Status.{bytes_of}
use Rattle.nbd_session.proofs.holes.put_by_page.Goals as goal

pub put_text-requires-clause-all : goal.put_text-requires-clause-all
put_text-requires-clause-all c = ap (λ (l : List Span). bytes_of (as_pairs l)) c.deref.ensures.0 ∙ c.read_spans-spans.ensures.all
