use Rattle.std.proofs.Common.{ap, drop, refl, sym, take, ◌∙◌}
use Rattle.std.proofs.lemmas.List.{drop-take}
use Rattle.nbd_session.specs.Holes.{has_blank}
use Rattle.nbd_session.proofs.Serving.{matched, unmatched}
use Rattle.nbd_session.proofs.holes.tell_given.Goals as goal

pub returns-then-has_blank-clause-told : goal.returns-then-has_blank-clause-told
returns-then-has_blank-clause-told g c =
    let r = c.args.request.now in
    matched _ _ (has_blank r (take r.len (drop 28 c.args.out.now))) (sym (c.has_blank.ensures ∙ ap (has_blank r) (drop-take 28 r.len c.args.out.now)) ∙ c.if-has_blank.true) c.seek_from.ensures.sought

pub returns-else-has_blank-clause-told : goal.returns-else-has_blank-clause-told
returns-else-has_blank-clause-told g c =
    let r = c.args.request.now in
    unmatched _ _ (has_blank r (take r.len (drop 28 c.args.out.now))) (sym (c.has_blank.ensures ∙ ap (has_blank r) (drop-take 28 r.len c.args.out.now)) ∙ c.if-has_blank.false)
    (c.put_read_chunk_head.ensures.reply, refl)
