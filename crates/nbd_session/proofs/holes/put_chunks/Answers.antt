use Rattle.std.proofs.Common.{◌-◌, length, ap, ◌∙◌, arith}
use Rattle.nbd_session.specs.Holes.{contents_text}
use Rattle.nbd_session.specs.Spans.{as_pairs}
use Rattle.nbd_session.proofs.Holing.{moved}
use Rattle.nbd_session.proofs.holes.put_chunks.Goals as goal

pub returns-clause-text : goal.returns-clause-text
returns-clause-text c =
    let r = c.args.request.now in
    c.put_contents.ensures.text
    ∙ ap (contents_text r.cookie r.offset (as_pairs c.args.spans.now))
    (moved c.args.out.now c.copy_within.new.self r.len (length c.args.out.now - r.len) (omega (arith, c.requires.most, c.requires.room)) (omega (arith, c.requires.most, c.requires.room)) c.copy_within.ensures.after)
