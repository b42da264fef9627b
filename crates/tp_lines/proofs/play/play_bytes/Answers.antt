use Rattle.std.proofs.Common.{◌+◌, ◌∷◌, ◌++◌, [], List, ℕ, drop, get_or, refl, subst, take}
use Rattle.std.proofs.lemmas.List.{take_more}
use Rattle.std.specs.Prelude.{Err, Ok}
use Rattle.tp_lines.specs.Plays.{PlaysLine}
use Rattle.tp_lines.specs.ReadLines.{AreDone, Leads, lines_from}
use Rattle.tp_lines.proofs.Doing.{leads_join, leads_none, left_join, piece_at, text_join, text_none, text_stops}
use Rattle.tp_lines.proofs.play.play_bytes.Goals as goal

pub loop-byte-init : goal.loop-byte-init
loop-byte-init g c = record {
  room = c.requires.room;
  empty = c.requires.empty;
  fits = c.requires.fits;
  left = refl;
  so_far = leads_none g.D.Desk.asks (λ asks did. AreDone (PlaysLine c.args.profile.now) (lines_from c.args.place.now.line []) c.args.place.now.played asks did c.args.place.now.played (Ok (tt {0}))) c.args.desk.now (g.S.Stream.calls c.args.stream.now) (text_none (PlaysLine c.args.profile.now) c.args.place.now.line c.args.place.now.played);
}

pub loop-byte-preserved : goal.loop-byte-preserved
loop-byte-preserved g c = record {
  room = c.play_byte.ensures.room;
  empty = c.play_byte.ensures.empty;
  fits = c.play_byte.ensures.fits;
  left = rw (take_more c.args.piece.now c.loop-byte.byte-index 0 c.loop-byte-test.true) (left_join c.args.place.now.line (take c.loop-byte.byte-index c.args.piece.now) (get_or c.args.piece.now c.loop-byte.byte-index 0 ∷ []) c.loop-byte.place.line c.play_byte.new.place.line c.loop-byte.invariant.left c.in-Ok.ensures.left);
  so_far = rw (take_more c.args.piece.now c.loop-byte.byte-index 0 c.loop-byte-test.true)
      (leads_join g.D.Desk.asks (λ asks did. AreDone (PlaysLine c.args.profile.now) (lines_from c.args.place.now.line (take c.loop-byte.byte-index c.args.piece.now)) c.args.place.now.played asks did c.loop-byte.place.played (Ok (tt {0}))) (λ asks did. AreDone (PlaysLine c.args.profile.now) (lines_from c.loop-byte.place.line (get_or c.args.piece.now c.loop-byte.byte-index 0 ∷ [])) c.loop-byte.place.played asks did c.play_byte.new.place.played (Ok (tt {0}))) (λ asks did. AreDone (PlaysLine c.args.profile.now) (lines_from c.args.place.now.line (take c.loop-byte.byte-index c.args.piece.now ++ (get_or c.args.piece.now c.loop-byte.byte-index 0 ∷ []))) c.args.place.now.played asks did c.play_byte.new.place.played (Ok (tt {0}))) c.args.desk.now c.loop-byte.desk c.play_byte.new.desk (g.S.Stream.calls c.args.stream.now) (g.S.Stream.calls c.loop-byte.stream) (g.S.Stream.calls c.play_byte.new.stream) c.loop-byte.invariant.so_far c.in-Ok.ensures.played
      (λ xs ys ds es p q. text_join (PlaysLine c.args.profile.now) c.args.place.now.line (take c.loop-byte.byte-index c.args.piece.now) (get_or c.args.piece.now c.loop-byte.byte-index 0 ∷ []) c.loop-byte.place.line c.args.place.now.played c.loop-byte.place.played c.play_byte.new.place.played xs ys ds es (Ok (tt {0})) c.loop-byte.invariant.left p q));
}

pub returns-in-Err-clause-played : goal.returns-in-Err-clause-played
returns-in-Err-clause-played g c =
    subst (λ (l : List ℕ). Leads g.D.Desk.asks (λ asks did. AreDone (PlaysLine c.args.profile.now) (lines_from c.args.place.now.line l) c.args.place.now.played asks did c.play_byte.new.place.played (Err c.in-Err.why)) c.args.desk.now c.play_byte.new.desk (g.S.Stream.calls c.args.stream.now) (g.S.Stream.calls c.play_byte.new.stream)) (piece_at c.args.piece.now c.loop-byte.byte-index c.loop-byte-test.true)
    (leads_join g.D.Desk.asks (λ asks did. AreDone (PlaysLine c.args.profile.now) (lines_from c.args.place.now.line (take c.loop-byte.byte-index c.args.piece.now)) c.args.place.now.played asks did c.loop-byte.place.played (Ok (tt {0}))) (λ asks did. AreDone (PlaysLine c.args.profile.now) (lines_from c.loop-byte.place.line (get_or c.args.piece.now c.loop-byte.byte-index 0 ∷ [])) c.loop-byte.place.played asks did c.play_byte.new.place.played (Err c.in-Err.why)) (λ asks did. AreDone (PlaysLine c.args.profile.now) (lines_from c.args.place.now.line ((take c.loop-byte.byte-index c.args.piece.now ++ (get_or c.args.piece.now c.loop-byte.byte-index 0 ∷ [])) ++ drop (c.loop-byte.byte-index + 1) c.args.piece.now)) c.args.place.now.played asks did c.play_byte.new.place.played (Err c.in-Err.why)) c.args.desk.now c.loop-byte.desk c.play_byte.new.desk (g.S.Stream.calls c.args.stream.now) (g.S.Stream.calls c.loop-byte.stream) (g.S.Stream.calls c.play_byte.new.stream) c.loop-byte.invariant.so_far c.in-Err.ensures.played
    (λ xs ys ds es p q. text_stops (PlaysLine c.args.profile.now) c.args.place.now.line (take c.loop-byte.byte-index c.args.piece.now ++ (get_or c.args.piece.now c.loop-byte.byte-index 0 ∷ [])) (drop (c.loop-byte.byte-index + 1) c.args.piece.now) c.args.place.now.played c.play_byte.new.place.played (xs ++ ys) (ds ++ es) c.in-Err.why (text_join (PlaysLine c.args.profile.now) c.args.place.now.line (take c.loop-byte.byte-index c.args.piece.now) (get_or c.args.piece.now c.loop-byte.byte-index 0 ∷ []) c.loop-byte.place.line c.args.place.now.played c.loop-byte.place.played c.play_byte.new.place.played xs ys ds es (Err c.in-Err.why) c.loop-byte.invariant.left p q)))
