-- What a session told before memory ran out in it.
use Rattle.std.proofs.Common.{◌≡◌, ◌⊎◌, inl, inr, ℕ, ◌+◌, ◌<◌, Bool, List, [], ◌∷◌, ◌++◌, length, get_or, drop, Result, Ok, Err, refl, sym, ◌∙◌, ap, subst, append_assoc}
use Rattle.std.proofs.lemmas.List.{append-nil, drop_more}
use Rattle.desk_edge.specs.Sink.{appended}
use Rattle.desk_edge.proofs.SinkLemmas.{appended-appended, appended-nil}
use Rattle.desk_terms.specs.Bench.{counted, logged}
use Rattle.desk_terms.specs.Reading.{Calc}
use Rattle.session_commands.specs.declared.command.Command.{Command}
use Rattle.session_model.specs.Course.{Running, Meaning, Course, round_of}
use Rattle.session_model.specs.Rounds.{rounds, lines_of, calls_in}
use Rattle.session_model.specs.Moments.{Moment, moments_of_round, moments, lines_at, calls_at}
use Rattle.session_model.proofs.Moments.{transcript_of}
use Rattle.session_rounds.specs.Goes.{Output, with_more}
use Rattle.session_rounds.specs.Stopped.{turn_at, done_at, HaltsIn}
use Rattle.session_rounds.proofs.Stopping.{Leads, halts_before, halts_after}
use Rattle.tool_script.specs.declared.status.Status.{Status}
use Rattle.tool_script.specs.Verdict.{Plan, Run, Load, Check}
use Rattle.desk_top.specs.Early.{Outside, IsToldSoFar}
use Rattle.desk_top.specs.Output.{IsToldOf}
use Rattle.desk_top.specs.Round.{IsPlayed}

-- with these lines before
abbrev shifted : List ℕ → Output → Output
shifted lines out = record { lines = lines ++ out.lines; count = out.count; log = out.log }

shift_more : (lines more : List ℕ) (calls : List (ℕ × Bool)) (out : Output)
    → shifted lines (with_more more calls out) ≡ with_more more calls (shifted lines out)
shift_more lines more calls out = λ i. record {
  lines = sym (append_assoc lines out.lines more) i;
  count = counted out.count (length calls);
  log = logged out.log calls;
}

halts_shifted : (calc : Calc) (ms : List Moment) (lines : List ℕ) (out_old out_new : Output) → HaltsIn calc ms out_old out_new
    → HaltsIn calc ms (shifted lines out_old) (shifted lines out_new)
unfolding HaltsIn
halts_shifted calc [] lines out_old out_new halts = absurd halts
halts_shifted calc (x ∷ ms) lines out_old out_new (inl (inl stops)) = inl (inl (record {
  begun = stops.begun;
  ended = stops.ended;
  most = stops.most;
  last = stops.last;
  out = ap (shifted lines) stops.out;
}))
halts_shifted calc (x ∷ ms) lines out_old out_new (inl (inr stops)) = inl (inr (record {
  front = stops.front;
  rest = stops.rest;
  over = stops.over;
  out = ap (shifted lines) stops.out ∙ shift_more lines ((turn_at calc x).lines ++ stops.front) (turn_at calc x).calls out_old;
}))
halts_shifted calc (x ∷ ms) lines out_old out_new (inr rest) =
    inr (subst (λ (o : Output). HaltsIn calc ms o (shifted lines out_new))
    (shift_more lines ((turn_at calc x).lines ++ x.over) (turn_at calc x).calls out_old)
    (halts_shifted calc ms lines (done_at calc x out_old) out_new rest))

-- the lines of a round are those of its moments, and so are its computations
round_lines : {P : Type 0} (m : Meaning P) (r : Running P) (c : Command) → (round_of m r c).lines ≡ lines_at m.calc (moments_of_round m r c)
unfolding rounds lines_of moments
round_lines m r c = sym (append-nil (round_of m r c).lines) ∙ (transcript_of m r (c ∷ [])).lines
    ∙ ap (lines_at m.calc) (append-nil (moments_of_round m r c))

round_calls : {P : Type 0} (m : Meaning P) (r : Running P) (c : Command) → (round_of m r c).calls ≡ calls_at m.calc (moments_of_round m r c)
unfolding rounds calls_in moments
round_calls m r c = sym (append-nil (round_of m r c).calls) ∙ (transcript_of m r (c ∷ [])).calls
    ∙ ap (calls_at m.calc) (append-nil (moments_of_round m r c))

-- where a session stands: what it told was written, and what runs out in the moments that are left ran out in all
pub record Ahead (calc : Calc) (total left : List Moment) (start now : Outside) : Type 0 where
  pub told : List ℕ
  pub bytes : now.bytes ≡ appended told start.bytes
  pub leads : Leads calc total left (record { lines = []; count = start.count; log = start.log })
      (record { lines = told; count = now.count; log = now.log })

pub ahead_none : (calc : Calc) (ms : List Moment) (start : Outside) → Ahead calc ms ms start start
ahead_none calc ms start = record {
  told = [];
  bytes = sym (appended-nil start.bytes);
  leads = λ out_new halts. halts;
}

module _ {P : Type 0} (m : Meaning P) (total : List Moment) (start now later : Outside) (state : Running P) (command : Command)
    (rest : List Command) where
  -- a round is done
  pub ahead_more : (next : Running P) → Ahead m.calc total (moments m state (command ∷ rest)) start now
      → IsPlayed (round_of m state command) now later → next ≡ (round_of m state command).next
      → Ahead m.calc total (moments m next rest) start later
  unfolding moments
  ahead_more next ahead played is =
      let t : Course P = round_of m state command in record {
        told = ahead.told ++ t.lines;
        bytes = played.bytes ∙ ap (appended t.lines) ahead.bytes ∙ appended-appended ahead.told t.lines start.bytes;
        leads = λ out_new halts. ahead.leads out_new (halts_after m.calc (moments_of_round m state command)
            (moments m t.next rest)
            (record { lines = ahead.told; count = now.count; log = now.log })
            (record { lines = ahead.told ++ t.lines; count = later.count; log = later.log }) out_new
            (λ i. record {
              lines = ahead.told ++ round_lines m state command i;
              count = (played.count ∙ ap (λ (l : List (ℕ × Bool)). counted now.count (length l)) (round_calls m state command)) i;
              log = (played.log ∙ ap (logged now.log) (round_calls m state command)) i;
            })
            (subst (λ (r : Running P). HaltsIn m.calc (moments m r rest)
            (record { lines = ahead.told ++ t.lines; count = later.count; log = later.log }) out_new) is halts));
      }

  -- memory ran out in a round
  pub ahead_halts : Ahead m.calc total (moments m state (command ∷ rest)) start now
      → IsToldSoFar m.calc (moments_of_round m state command) now later → IsToldSoFar m.calc total start later
  unfolding moments
  ahead_halts ahead so_far = record {
    told = ahead.told ++ so_far.told;
    halts = ahead.leads (record { lines = ahead.told ++ so_far.told; count = later.count; log = later.log })
        (halts_before m.calc (moments_of_round m state command) (moments m (round_of m state command).next rest)
        (record { lines = ahead.told; count = now.count; log = now.log })
        (record { lines = ahead.told ++ so_far.told; count = later.count; log = later.log })
        (subst (λ (l : List ℕ). HaltsIn m.calc (moments_of_round m state command) (record { lines = l; count = now.count; log = now.log })
        (record { lines = ahead.told ++ so_far.told; count = later.count; log = later.log })) (append-nil ahead.told)
        (halts_shifted m.calc (moments_of_round m state command) ahead.told (record { lines = []; count = now.count; log = now.log })
        (record { lines = so_far.told; count = later.count; log = later.log }) so_far.halts)));
    bytes = so_far.bytes ∙ ap (appended so_far.told) ahead.bytes ∙ appended-appended ahead.told so_far.told start.bytes;
  }

  -- unless a put failed
  pub ahead_ends : (faults raised_by : ℕ) → Ahead m.calc total (moments m state (command ∷ rest)) start now
      → IsToldSoFar m.calc (moments_of_round m state command) now later ⊎ (faults ≡ raised_by)
      → IsToldSoFar m.calc total start later ⊎ (faults ≡ raised_by)
  ahead_ends faults raised_by ahead (inl so_far) = inl (ahead_halts ahead so_far)
  ahead_ends faults raised_by ahead (inr failed) = inr failed

-- at the place of a loop over the commands
pub ahead_next : {P : Type 0} (m : Meaning P) (commands : List Command) (total : List Moment) (start now : Outside) (i : ℕ)
    (command : Command) (state : Running P) → i < length commands → command ≡ get_or commands i command
    → Ahead m.calc total (moments m state (drop i commands)) start now
    → Ahead m.calc total (moments m state (command ∷ drop (i + 1) commands)) start now
ahead_next {P} m commands total start now i command state within is ahead =
    subst (λ (rest : List Command). Ahead m.calc total (moments m state rest) start now)
    (drop_more commands i command within ∙ ap (λ (c : Command). c ∷ drop (i + 1) commands) (sym is)) ahead

-- nothing had begun
pub told_before : (calc : Calc) (found : Result Plan Status) (now : Outside) → IsToldOf calc found now now
told_before calc (Ok (Run run order)) now = inl refl
told_before calc (Ok (Load size run)) now = tt
told_before calc (Ok (Check objects fixings)) now = tt
told_before calc (Err status) now = refl
