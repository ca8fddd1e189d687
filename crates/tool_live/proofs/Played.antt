-- How far the commands of a script are done.
use Rattle.std.proofs.Common.{◌≡◌, ◌∙◌, ap, sym, subst, refl, ℕ, ◌+◌, ◌<◌, ◌≤◌, Bool, List, [], ◌∷◌, ◌++◌, length, get_or, drop, append-nil, append_assoc, Option}
use Rattle.std.specs.Prelude.{All}
use Rattle.std.proofs.lemmas.List.{drop_more, drop_all, length-append}
use Rattle.std.proofs.lemmas.List.Elements.{All-head, All-tail}
use Rattle.desk_edge.specs.Sink.{appended}
use Rattle.desk_edge.proofs.SinkLemmas.{appended-nil}
use Rattle.desk_terms.specs.Bench.{counted, logged}
use Rattle.session_commands.specs.declared.command.Command.{Command}
use Rattle.session_commands.specs.Whole.{IsCommand}
use Rattle.session_model.specs.Standing.{Standing, IsKnown}
use Rattle.session_model.specs.Course.{Running, Meaning, round_of}
use Rattle.session_model.specs.Rounds.{rounds, lines_of, calls_in, transcript, calls_of}
use Rattle.session_rounds.proofs.Going.{counted_more, logged_more, logged_none}
use Rattle.tool_live.specs.Answers.{PutsFront}
use Rattle.tool_live.proofs.Fronts.{put_both}
use Rattle.live_model.specs.Log.{done}
use Rattle.tool_live.specs.Ends.{Outside}

module _ {P : Type 0} (m : Meaning P) (start : Running P) (commands : List Command) (old : Outside) where
  -- these commands are left; what was written and computed for those before them, and the session behind them
  pub record Progress (rest : List Command) (s : Running P) (now : Outside) : Type 0 where
    pub lines : List ℕ
    pub calls : List (ℕ × Bool)
    pub told : transcript m start commands ≡ lines ++ transcript m s rest
    pub called : calls_of m start commands ≡ calls ++ calls_of m s rest
    pub behind : done m start commands ≡ done m s rest
    pub bytes : now.bytes ≡ appended lines old.bytes
    pub count : now.count ≡ counted old.count (length calls)
    pub log : now.log ≡ logged old.log calls

  pub none_done : Progress commands start old
  none_done = record {
    lines = [];
    calls = [];
    told = refl;
    called = refl;
    behind = refl;
    bytes = sym (appended-nil old.bytes);
    count = refl;
    log = logged_none old.log;
  }

  -- one more
  pub one_done : (c : Command) (rest : List Command) (s next : Running P) (now new : Outside) → Progress (c ∷ rest) s now
      → next ≡ (round_of m s c).next → new.bytes ≡ appended (round_of m s c).lines now.bytes
      → new.count ≡ counted now.count (length (round_of m s c).calls) → new.log ≡ logged now.log (round_of m s c).calls
      → Progress rest next new
  unfolding rounds lines_of calls_in done
  one_done c rest s next now new p is bytes count log =
      let round = round_of m s c in
      record {
        lines = p.lines ++ round.lines;
        calls = p.calls ++ round.calls;
        told = p.told ∙ sym (append_assoc p.lines round.lines (transcript m round.next rest))
            ∙ ap (λ (n : Running P). (p.lines ++ round.lines) ++ transcript m n rest) (sym is);
        called = p.called ∙ sym (append_assoc p.calls round.calls (calls_of m round.next rest))
            ∙ ap (λ (n : Running P). (p.calls ++ round.calls) ++ calls_of m n rest) (sym is);
        behind = p.behind ∙ ap (λ (n : Running P). done m n rest) (sym is);
        bytes = put_both p.lines round.lines old.bytes now.bytes new.bytes p.bytes bytes;
        count = count ∙ ap (λ (n : ℕ). counted n (length round.calls)) p.count ∙ counted_more old.count (length p.calls) (length round.calls)
            ∙ ap (counted old.count) (sym (length-append p.calls round.calls));
        log = log ∙ ap (λ (l : Option (List (ℕ × Bool))). logged l round.calls) p.log ∙ logged_more old.log p.calls round.calls;
      }

  -- the next one
  pub next_one : (at : ℕ) (c : Command) (s : Running P) (now : Outside) → at < length commands → c ≡ get_or commands at c
      → Progress (drop at commands) s now → Progress (c ∷ drop (at + 1) commands) s now
  next_one at c s now within is p =
      subst (λ (l : List Command). Progress l s now)
      (drop_more commands at c within ∙ ap (λ (k : Command). k ∷ drop (at + 1) commands) (sym is)) p

  pub all_done : (at : ℕ) (s : Running P) (now : Outside) → length commands ≤ at → Progress (drop at commands) s now → Progress [] s now
  all_done at s now past p = subst (λ (l : List Command). Progress l s now) (drop_all at commands past) p

  module _ (s : Running P) (now : Outside) (p : Progress [] s now) where
    pub told_all : now.bytes ≡ appended (transcript m start commands) old.bytes
    unfolding rounds lines_of
    told_all = p.bytes ∙ ap (λ (l : List ℕ). appended l old.bytes) (sym (p.told ∙ append-nil p.lines))

    pub counted_all : now.count ≡ counted old.count (length (calls_of m start commands))
    unfolding rounds calls_in
    counted_all = p.count ∙ ap (λ (l : List (ℕ × Bool)). counted old.count (length l)) (sym (p.called ∙ append-nil p.calls))

    pub logged_all : now.log ≡ logged old.log (calls_of m start commands)
    unfolding rounds calls_in
    logged_all = p.log ∙ ap (logged old.log) (sym (p.called ∙ append-nil p.calls))

    pub played_all : s ≡ done m start commands
    unfolding done
    played_all = sym p.behind

  -- a front of the lines of the next one was put
  pub cut_in : (c : Command) (rest : List Command) (s : Running P) (now new : Outside) → Progress (c ∷ rest) s now
      → PutsFront (round_of m s c).lines now.bytes new.bytes → PutsFront (transcript m start commands) old.bytes new.bytes
  unfolding rounds lines_of
  cut_in c rest s now new p front =
      let round = round_of m s c in
      let more = transcript m round.next rest in (
        p.lines ++ front.0,
        (
          front.1.0 ++ more,
          p.told ∙ ap (λ (l : List ℕ). p.lines ++ (l ++ more)) front.1.1 ∙ ap (λ (l : List ℕ). p.lines ++ l) (append_assoc front.0 front.1.0 more)
              ∙ sym (append_assoc p.lines front.0 (front.1.0 ++ more)),
        ),
        put_both p.lines front.0 old.bytes now.bytes new.bytes p.bytes front.2,
      )

-- a session of the same names and actions knows the same commands
pub known_on : (p q : Standing) (commands : List Command) → q.names ≡ p.names → q.actions ≡ p.actions → All (IsKnown p) commands → All (IsKnown q) commands
known_on p q commands names actions known =
    subst (λ (n : List (List ℕ)). All (λ c. IsCommand (length n) (length q.actions) c) commands) (sym names)
    (subst (λ (a : List (List Command)). All (λ c. IsCommand (length p.names) (length a) c) commands) (sym actions) known)

-- the next command is known, and so are those behind it
pub known_next : (p : Standing) (commands : List Command) (at : ℕ) (c : Command) → at < length commands → c ≡ get_or commands at c
    → All (IsKnown p) (drop at commands) → IsKnown p c × All (IsKnown p) (drop (at + 1) commands)
known_next p commands at c within is known =
    let both = subst (All (IsKnown p)) (drop_more commands at c within ∙ ap (λ (k : Command). k ∷ drop (at + 1) commands) (sym is)) known in
    (All-head (IsKnown p) c (drop (at + 1) commands) both, All-tail (IsKnown p) c (drop (at + 1) commands) both)
