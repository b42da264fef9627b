use Rattle.std.proofs.Common.{◌+◌, ◌∷◌, ◌++◌, [], List, ℕ, arith, drop, get_or, refl, subst, take}
use Rattle.std.proofs.lemmas.List.{take_all, take_more}
use Rattle.std.specs.Prelude.{Err, Ok}
use Rattle.tp_lines.specs.ReadLines.{Leads}
use Rattle.tp_lines.proofs.Doing.{leads_join, leads_none, left_join, piece_at}
use Rattle.tp_lines.proofs.Controlling.{DoneSo, join_so, none_so, stops_so}
use Rattle.tp_lines.proofs.control.answer_bytes.Goals as goal

pub loop-byte-init : goal.loop-byte-init
loop-byte-init g c = record { empty = c.requires.empty; fits = c.requires.fits; left = refl; so_far = leads_none g.D.Desk.asks (DoneSo c.args.line.now [] (Ok (tt {0}))) c.args.desk.now (g.S.Stream.calls c.args.stream.now) (none_so c.args.line.now) }

pub loop-byte-preserved : goal.loop-byte-preserved
loop-byte-preserved g c = record {
  empty = c.answer_byte.ensures.empty;
  fits = c.answer_byte.ensures.fits;
  left = rw (take_more c.args.piece.now c.loop-byte.byte-index 0 c.loop-byte-test.true) (left_join c.args.line.now (take c.loop-byte.byte-index c.args.piece.now) (get_or c.args.piece.now c.loop-byte.byte-index 0 ∷ []) c.loop-byte.line c.answer_byte.new.line c.loop-byte.invariant.left c.in-Ok.ensures.left);
  so_far = rw (take_more c.args.piece.now c.loop-byte.byte-index 0 c.loop-byte-test.true)
      (leads_join g.D.Desk.asks (DoneSo c.args.line.now (take c.loop-byte.byte-index c.args.piece.now) (Ok (tt {0}))) (DoneSo c.loop-byte.line (get_or c.args.piece.now c.loop-byte.byte-index 0 ∷ []) (Ok (tt {0}))) (DoneSo c.args.line.now (take c.loop-byte.byte-index c.args.piece.now ++ (get_or c.args.piece.now c.loop-byte.byte-index 0 ∷ [])) (Ok (tt {0}))) c.args.desk.now c.loop-byte.desk c.answer_byte.new.desk (g.S.Stream.calls c.args.stream.now) (g.S.Stream.calls c.loop-byte.stream) (g.S.Stream.calls c.answer_byte.new.stream) c.loop-byte.invariant.so_far c.in-Ok.ensures.answered
      (join_so c.args.line.now (take c.loop-byte.byte-index c.args.piece.now) (get_or c.args.piece.now c.loop-byte.byte-index 0 ∷ []) c.loop-byte.line (Ok (tt {0})) c.loop-byte.invariant.left));
}

pub returns-in-Err-clause-answered : goal.returns-in-Err-clause-answered
returns-in-Err-clause-answered g c =
    subst (λ (l : List ℕ). Leads g.D.Desk.asks (DoneSo c.args.line.now l (Err c.in-Err.why)) c.args.desk.now c.answer_byte.new.desk (g.S.Stream.calls c.args.stream.now) (g.S.Stream.calls c.answer_byte.new.stream)) (piece_at c.args.piece.now c.loop-byte.byte-index c.loop-byte-test.true)
    (leads_join g.D.Desk.asks (DoneSo c.args.line.now (take c.loop-byte.byte-index c.args.piece.now) (Ok (tt {0}))) (DoneSo c.loop-byte.line (get_or c.args.piece.now c.loop-byte.byte-index 0 ∷ []) (Err c.in-Err.why)) (DoneSo c.args.line.now ((take c.loop-byte.byte-index c.args.piece.now ++ (get_or c.args.piece.now c.loop-byte.byte-index 0 ∷ [])) ++ drop (c.loop-byte.byte-index + 1) c.args.piece.now) (Err c.in-Err.why)) c.args.desk.now c.loop-byte.desk c.answer_byte.new.desk (g.S.Stream.calls c.args.stream.now) (g.S.Stream.calls c.loop-byte.stream) (g.S.Stream.calls c.answer_byte.new.stream) c.loop-byte.invariant.so_far c.in-Err.ensures.answered
    (λ xs ys ds es p q. stops_so c.args.line.now (take c.loop-byte.byte-index c.args.piece.now ++ (get_or c.args.piece.now c.loop-byte.byte-index 0 ∷ [])) (drop (c.loop-byte.byte-index + 1) c.args.piece.now) c.in-Err.why (xs ++ ys) (ds ++ es)
    (join_so c.args.line.now (take c.loop-byte.byte-index c.args.piece.now) (get_or c.args.piece.now c.loop-byte.byte-index 0 ∷ []) c.loop-byte.line (Err c.in-Err.why) c.loop-byte.invariant.left xs ys ds es p q)))

pub returns-clause-answered : goal.returns-clause-answered
returns-clause-answered g c =
    subst (λ (l : List ℕ). Leads g.D.Desk.asks (DoneSo c.args.line.now l (Ok (tt {0}))) c.args.desk.now c.loop-byte.desk (g.S.Stream.calls c.args.stream.now) (g.S.Stream.calls c.loop-byte.stream)) (take_all c.loop-byte.byte-index c.args.piece.now (omega (arith, c.loop-byte-test.false))) c.loop-byte.invariant.so_far
