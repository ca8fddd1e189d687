use Rattle.std.proofs.Common.{◌≡◌, ◌∙◌, ap, sym, refl, subst, ℕ, List, [], ◌++◌, length, take, drop, arith, Option, append_assoc}
use Rattle.std.proofs.lemmas.Bool.Decides.{nat_tests}
use Rattle.std.proofs.lemmas.List.{take_at}
use Rattle.std.specs.Io.KnownBytes.{Consumes}
use Rattle.std.proofs.KnownBytes.{Consumes-nil, Consumes-trans, Consumes-kept}
use Rattle.std.specs.Str.Lines.{lines}
use Rattle.desk_edge.specs.Sink.{appended}
use Rattle.desk_edge.proofs.SinkLemmas.{appended-nil}
use Rattle.tool_live.specs.Answers.{Hears, PutsFront}
use Rattle.tool_live.specs.Hearing.{IsOpen}
use Rattle.tool_live.proofs.Fronts.{put_none, put_both}
use Rattle.tool_live.proofs.Heard.{heard_none}
use Rattle.tool_live.proofs.FeedEnded.{ok_then, err_then, err_with, open_none, heard_all, called_all, at_end, begun_with, stops_at, stops_end, heard_piece, stops_putting}
use Rattle.tool_live.proofs.answering.answer_all.Goals as goal

pub loop-init : goal.loop-init
loop-init g c = record {
  kept = refl;
  can = c.requires.can;
  none = c.new-answers.ensures.items;
  sent = c.requires.sent;
  heard = ([], [], Consumes-nil _, open_none c.new-line.result.items c.new-line.ensures.items, heard_none _ _ [] _);
  grows = ([], sym (appended-nil _));
  room = c.in_ok-room.ensures.len;
  faults = (refl, refl);
}

pub returns-in_err-count-clause-front : goal.returns-in_err-count-clause-front
returns-in_err-count-clause-front g c =
    let before = c.loop.invariant in
    let told = g.A.Answerer.told c.args.answerer.now in
    err_with c.from_residual-in_err-count.result (begun_with (g.F.Feed.content c.args.feed.now) (g.F.Feed.content c.loop.feed) before.heard.0
    (λ (l : List ℕ). PutsFront (told (lines l)) (g.K.Sink.bytes c.args.out.now) (g.K.Sink.bytes c.loop.out)) before.heard.2 (λ rest.
    stops_at told _ _ _ before.heard.0 before.heard.1 _ _ before.heard.4 before.grows _ rest (put_none _ _)))

pub returns-in_err-count-clause-prompt : goal.returns-in_err-count-clause-prompt
returns-in_err-count-clause-prompt g c = λ read.
    let before = c.loop.invariant in record {
      heard = before.heard.0;
      part = before.heard.1;
      consumed = Consumes-kept (g.F.Feed.content c.args.feed.now) (g.F.Feed.content c.loop.feed) (g.F.Feed.content c.next_piece.new.feed) before.heard.0 before.heard.2 c.in_err-count.ensures.bytes;
      unended = before.heard.3.unended;
      hears = before.heard.4;
      sent = before.sent;
    }

pub returns-then-count-eq0-clause-written : goal.returns-then-count-eq0-clause-written
returns-then-count-eq0-clause-written g c =
    let before = c.loop.invariant in
    let told = g.A.Answerer.told c.args.answerer.now in
    let zero : c.in_ok-count.count ≡ 0 = grind (arith, nat_tests, c.if-count-eq0.true) in
    let begun = subst (IsOpen before.heard.1) (sym c.deref.ensures.value) before.heard.3 in
    ok_then c.finish.result c.finish.ensures.ok (λ ok.
    at_end (g.F.Feed.content c.args.feed.now) (g.F.Feed.content c.loop.feed) (g.F.Feed.content c.next_piece.new.feed) before.heard.0 _
    (λ (l : List ℕ). g.K.Sink.bytes c.finish.new.out ≡ appended (told (lines l)) (g.K.Sink.bytes c.args.out.now)) before.heard.2 c.in_ok-count.ensures.bytes.0
    (ap (λ (n : ℕ). take n c.next_piece.new.room) zero) (c.in_ok-count.ensures.bytes.1 zero (omega (arith, c.next_piece.auto.room, c.as_mut_slice.ensures.len, before.room)))
    (heard_all told _ _ _ before.heard.0 before.heard.1 c.loop.answers.items _ _ _ before.heard.4 before.none (ok before.heard.1 begun).0))

pub returns-then-count-eq0-clause-calls : goal.returns-then-count-eq0-clause-calls
returns-then-count-eq0-clause-calls g c =
    let before = c.loop.invariant in
    let called = g.A.Answerer.called c.args.answerer.now in
    let zero : c.in_ok-count.count ≡ 0 = grind (arith, nat_tests, c.if-count-eq0.true) in
    let begun = subst (IsOpen before.heard.1) (sym c.deref.ensures.value) before.heard.3 in
    ok_then c.finish.result c.finish.ensures.ok (λ ok.
    at_end (g.F.Feed.content c.args.feed.now) (g.F.Feed.content c.loop.feed) (g.F.Feed.content c.next_piece.new.feed) before.heard.0 _
    (λ (l : List ℕ). g.A.Answerer.called c.finish.new.answerer [] ≡ called (lines l)) before.heard.2 c.in_ok-count.ensures.bytes.0
    (ap (λ (n : ℕ). take n c.next_piece.new.room) zero) (c.in_ok-count.ensures.bytes.1 zero (omega (arith, c.next_piece.auto.room, c.as_mut_slice.ensures.len, before.room)))
    ((ok before.heard.1 begun).1 ∙ called_all _ _ called _ before.heard.0 before.heard.1 _ _ before.heard.4))

pub returns-then-count-eq0-clause-front : goal.returns-then-count-eq0-clause-front
returns-then-count-eq0-clause-front g c =
    let before = c.loop.invariant in
    let told = g.A.Answerer.told c.args.answerer.now in
    let zero : c.in_ok-count.count ≡ 0 = grind (arith, nat_tests, c.if-count-eq0.true) in
    let begun = subst (IsOpen before.heard.1) (sym c.deref.ensures.value) before.heard.3 in
    err_then c.finish.result c.finish.ensures.err (λ err.
    at_end (g.F.Feed.content c.args.feed.now) (g.F.Feed.content c.loop.feed) (g.F.Feed.content c.next_piece.new.feed) before.heard.0 _
    (λ (l : List ℕ). PutsFront (told (lines l)) (g.K.Sink.bytes c.args.out.now) (g.K.Sink.bytes c.finish.new.out)) before.heard.2 c.in_ok-count.ensures.bytes.0
    (ap (λ (n : ℕ). take n c.next_piece.new.room) zero) (c.in_ok-count.ensures.bytes.1 zero (omega (arith, c.next_piece.auto.room, c.as_mut_slice.ensures.len, before.room)))
    (stops_end told _ _ _ before.heard.0 before.heard.1 _ _ before.heard.4 before.grows _ c.loop.answers.items before.none (err before.heard.1 begun)))

pub returns-then-count-eq0-clause-clean : goal.returns-then-count-eq0-clause-clean
returns-then-count-eq0-clause-clean g c =
    ok_then c.finish.result c.finish.ensures.clean (λ clean. (c.in_ok-count.ensures.quiet ∙ c.loop.invariant.faults.1, clean ∙ c.loop.invariant.faults.0))

pub returns-in_err-hear-clause-front : goal.returns-in_err-hear-clause-front
returns-in_err-hear-clause-front g c =
    let before = c.loop.invariant in
    let told = g.A.Answerer.told c.args.answerer.now in
    let full : length c.next_piece.new.room ≡ c.loop.room.len = omega (arith, c.next_piece.auto.room, c.as_mut_slice.ensures.len) in
    let piece = take c.in_ok-count.count c.as_slice.result.now in
    let is : take c.in_ok-count.count c.next_piece.new.room ≡ piece =
    ap (λ (l : List ℕ). take c.in_ok-count.count l) (sym (c.as_slice.ensures.value ∙ take_at c.next_piece.new.room (drop (length c.next_piece.new.room) c.loop.room.items) c.loop.room.len full)) in
    let consumed = subst (Consumes (g.F.Feed.content c.loop.feed) (g.F.Feed.content c.next_piece.new.feed)) is c.in_ok-count.ensures.bytes.0 in
    err_with c.from_residual-in_err-hear.result (begun_with (g.F.Feed.content c.args.feed.now) (g.F.Feed.content c.next_piece.new.feed) (before.heard.0 ++ piece)
    (λ (l : List ℕ). PutsFront (told (lines l)) (g.K.Sink.bytes c.args.out.now) (g.K.Sink.bytes c.hear.new.out))
    (Consumes-trans (g.F.Feed.content c.args.feed.now) (g.F.Feed.content c.loop.feed) (g.F.Feed.content c.next_piece.new.feed) before.heard.0 piece before.heard.2 consumed)
    (λ rest. subst (λ (l : List ℕ). PutsFront (told (lines l)) (g.K.Sink.bytes c.args.out.now) (g.K.Sink.bytes c.hear.new.out))
    (sym (append_assoc before.heard.0 piece rest))
    (stops_at told (g.A.Answerer.told c.loop.answerer) _ _ before.heard.0 before.heard.1 _ _ before.heard.4 before.grows _ (piece ++ rest)
    (subst (λ (l : List ℕ). PutsFront (l ++ g.A.Answerer.told c.loop.answerer (lines (before.heard.1 ++ (piece ++ rest)))) (g.K.Sink.bytes c.loop.out) (g.K.Sink.bytes c.hear.new.out))
    before.none (c.in_err-hear.ensures.err before.heard.1 before.heard.3 rest)))))

pub returns-in_err-send-clause-front : goal.returns-in_err-send-clause-front
returns-in_err-send-clause-front g c =
    let before = c.loop.invariant in
    let told = g.A.Answerer.told in
    let called = g.A.Answerer.called in
    let full : length c.next_piece.new.room ≡ c.loop.room.len = omega (arith, c.next_piece.auto.room, c.as_mut_slice.ensures.len) in
    let piece = take c.in_ok-count.count c.as_slice.result.now in
    let is : take c.in_ok-count.count c.next_piece.new.room ≡ piece =
    ap (λ (l : List ℕ). take c.in_ok-count.count l) (sym (c.as_slice.ensures.value ∙ take_at c.next_piece.new.room (drop (length c.next_piece.new.room) c.loop.room.items) c.loop.room.len full)) in
    let consumed = subst (Consumes (g.F.Feed.content c.loop.feed) (g.F.Feed.content c.next_piece.new.feed)) is c.in_ok-count.ensures.bytes.0 in
    let then = c.in_ok-hear.ensures.ok before.heard.1 before.heard.3 in
    let hears = heard_piece (told c.args.answerer.now) (told c.loop.answerer) (told c.hear.new.answerer) (called c.args.answerer.now) (called c.loop.answerer)
    (called c.hear.new.answerer) before.heard.0 before.heard.1 piece then.0 c.loop.answers.items (g.K.Sink.bytes c.args.out.now) (g.K.Sink.bytes c.loop.out)
    (appended c.hear.new.answers.items (g.K.Sink.bytes c.hear.new.out)) before.heard.4 before.none then.2 in
    err_with c.from_residual-in_err-send.result (begun_with (g.F.Feed.content c.args.feed.now) (g.F.Feed.content c.next_piece.new.feed) (before.heard.0 ++ piece)
    (λ (l : List ℕ). PutsFront (told c.args.answerer.now (lines l)) (g.K.Sink.bytes c.args.out.now) (g.K.Sink.bytes c.send.new.out))
    (Consumes-trans (g.F.Feed.content c.args.feed.now) (g.F.Feed.content c.loop.feed) (g.F.Feed.content c.next_piece.new.feed) before.heard.0 piece before.heard.2 consumed)
    (stops_putting (told c.args.answerer.now) (told c.hear.new.answerer) _ _ (before.heard.0 ++ piece) then.0 c.hear.new.answers.items _ _ _ hears
    (before.grows.0 ++ c.hear.ensures.grows.0, put_both before.grows.0 c.hear.ensures.grows.0 _ _ _ before.grows.1 c.hear.ensures.grows.1) c.in_err-send.ensures.err))

pub loop-preserved : goal.loop-preserved
loop-preserved g c =
    let before = c.loop.invariant in
    let told = g.A.Answerer.told in
    let called = g.A.Answerer.called in
    let full : length c.next_piece.new.room ≡ c.loop.room.len = omega (arith, c.next_piece.auto.room, c.as_mut_slice.ensures.len) in
    let piece = take c.in_ok-count.count c.as_slice.result.now in
    let is : take c.in_ok-count.count c.next_piece.new.room ≡ piece =
    ap (λ (l : List ℕ). take c.in_ok-count.count l) (sym (c.as_slice.ensures.value ∙ take_at c.next_piece.new.room (drop (length c.next_piece.new.room) c.loop.room.items) c.loop.room.len full)) in
    let consumed = subst (Consumes (g.F.Feed.content c.loop.feed) (g.F.Feed.content c.next_piece.new.feed)) is c.in_ok-count.ensures.bytes.0 in
    let then = c.in_ok-hear.ensures.ok before.heard.1 before.heard.3 in
    let hears = heard_piece (told c.args.answerer.now) (told c.loop.answerer) (told c.hear.new.answerer) (called c.args.answerer.now) (called c.loop.answerer)
    (called c.hear.new.answerer) before.heard.0 before.heard.1 piece then.0 c.loop.answers.items (g.K.Sink.bytes c.args.out.now) (g.K.Sink.bytes c.loop.out)
    (appended c.hear.new.answers.items (g.K.Sink.bytes c.hear.new.out)) before.heard.4 before.none then.2 in
    let said = before.grows.0 ++ c.hear.ensures.grows.0 in
    let put = c.in_ok-send.ensures.ok in
    record {
      kept = c.hear.ensures.kept ∙ before.kept;
      can = c.in_ok-hear.ensures.can;
      none = put.0;
      sent = c.in_ok-send.ensures.sent;
      heard = (
        before.heard.0 ++ piece,
        then.0,
        Consumes-trans (g.F.Feed.content c.args.feed.now) (g.F.Feed.content c.loop.feed) (g.F.Feed.content c.next_piece.new.feed) before.heard.0 piece before.heard.2 consumed,
        then.1,
        subst (λ (o : Option (List ℕ)). Hears [] (before.heard.0 ++ piece) then.0 (told c.args.answerer.now) (told c.hear.new.answerer)
            (called c.args.answerer.now) (called c.hear.new.answerer) (g.K.Sink.bytes c.args.out.now) o) (sym {A = Option (List ℕ)} put.1) hears,
      );
      grows = (
        said ++ c.hear.new.answers.items,
        put_both said c.hear.new.answers.items _ _ _ (put_both before.grows.0 c.hear.ensures.grows.0 _ _ _ before.grows.1 c.hear.ensures.grows.1) put.1,
      );
      room = before.room;
      faults = (c.in_ok-send.ensures.clean ∙ c.in_ok-hear.ensures.clean ∙ before.faults.0, c.in_ok-count.ensures.quiet ∙ before.faults.1);
    }

pub returns-clause-front : goal.returns-clause-front
returns-clause-front g c =
    let before = c.loop.invariant in
    let told = g.A.Answerer.told c.args.answerer.now in
    begun_with (g.F.Feed.content c.args.feed.now) (g.F.Feed.content c.loop.feed) before.heard.0
    (λ (l : List ℕ). PutsFront (told (lines l)) (g.K.Sink.bytes c.args.out.now) (g.K.Sink.bytes c.loop.out)) before.heard.2 (λ rest.
    stops_at told _ _ _ before.heard.0 before.heard.1 _ _ before.heard.4 before.grows _ rest (put_none _ _))
