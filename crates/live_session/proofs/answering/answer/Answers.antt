use Rattle.std.proofs.Common.{rules, ◌≡◌, ℕ, List, drop, inl, is_some, length, Result, Ok, Err, sym, subst}
use Rattle.std.proofs.lemmas.Result.{on_ok_weaker, on_err_weaker}
use Rattle.session_commands.specs.declared.script_kind.ScriptKind.{ScriptKind}
use Rattle.session_lang.specs.declared.statement.Statement.{Statement}
use Rattle.session_lang.specs.Statement.{Known}
use Rattle.session_lang.specs.Reading.{after_line}
use Rattle.session_model.specs.Course.{Running, Meaning}
use Rattle.session_rounds.proofs.Going.{halts_at_once}
use Rattle.live_model.specs.Live.{Live, known_of, meaning, said}
use Rattle.session_lang.proofs.AddedNames.{any_err}
use Rattle.live_session.proofs.Learnt.{none_learnt, still_learnt, still_sound, still_running, still_fits}
use Rattle.live_session.proofs.Said.{fault_said, statement_said, statement_halts, unwritten_halts}
use Rattle.live_session.specs.Saying.{HasLearnt, new_in}
use Rattle.live_session.proofs.answering.answer.Goals as goal

pub returns-in_err-learn-in-Ok-clause-err : goal.returns-in_err-learn-in-Ok-clause-err
returns-in_err-learn-in-Ok-clause-err g c = any_err _ (halts_at_once _ _)

pub returns-in_err-learn-in-Ok-clause-stands : goal.returns-in_err-learn-in-Ok-clause-stands
returns-in_err-learn-in-Ok-clause-stands g c = record {
  copied = c.learn.ensures.kept;
  begun = c.read.ensures.begun;
  block = still_fits g.row.P.Denot _ c.args.session.now c.learn.new.session c.learn.ensures.some c.args.blocks.now.block
      (length c.args.blocks.now.begun) c.requires.stands.block;
}

pub returns-in_err-learn-in-Ok-clause-sound : goal.returns-in_err-learn-in-Ok-clause-sound
returns-in_err-learn-in-Ok-clause-sound g c =
    still_sound g.row.P.Denot _ c.args.session.now c.learn.new.session c.learn.ensures.some (g.B.Bench.calc c.args.bench.now) c.requires.sound

pub state-requires-clause-running : goal.state-requires-clause-running
state-requires-clause-running g c = still_running g.row.P.Denot _ c.args.session.now c.learn.new.session c.learn.ensures.some c.requires.running

pub state-requires-clause-sound : goal.state-requires-clause-sound
state-requires-clause-sound g c =
    still_sound g.row.P.Denot _ c.args.session.now c.learn.new.session c.learn.ensures.some (g.B.Bench.calc c.args.bench.now) c.requires.sound

pub state-requires-clause-block : goal.state-requires-clause-block
state-requires-clause-block g c =
    still_fits g.row.P.Denot _ c.args.session.now c.learn.new.session c.learn.ensures.some c.args.blocks.now.block
    (length c.args.blocks.now.begun) c.requires.stands.block

pub returns-in_ok-learn-in-Ok-clause-ok : goal.returns-in_ok-learn-in-Ok-clause-ok
returns-in_ok-learn-in-Ok-clause-ok g c =
    let m : Meaning g.row.P.Denot = record { calc = g.B.Bench.calc c.args.bench.now; at = g.P.Picker.at; after = g.P.Picker.after } in
    let s : Live g.row.P.Denot = record {
      running = c.args.session.now;
      begun = c.args.blocks.now.begun;
      block = c.args.blocks.now.block;
      line = c.args.before;
    } in
    let next : Known = record { names = c.read.new.copy; begun = c.read.new.copy_begun } in
    let is : meaning (known_of s) (is_some s.block) c.args.line.now ≡ Ok (c.in-Ok.statement, next) = search rules in
    on_ok_weaker c.state.result (statement_said m s c.args.line.now c.in-Ok.statement next is c.learn.new.session c.in_ok-learn-in-Ok.ensures.learnt _ _ _)
    c.state.ensures.ok

pub returns-in_ok-learn-in-Ok-clause-err : goal.returns-in_ok-learn-in-Ok-clause-err
returns-in_ok-learn-in-Ok-clause-err g c =
    let m : Meaning g.row.P.Denot = record { calc = g.B.Bench.calc c.args.bench.now; at = g.P.Picker.at; after = g.P.Picker.after } in
    let s : Live g.row.P.Denot = record {
      running = c.args.session.now;
      begun = c.args.blocks.now.begun;
      block = c.args.blocks.now.block;
      line = c.args.before;
    } in
    let next : Known = record { names = c.read.new.copy; begun = c.read.new.copy_begun } in
    let is : meaning (known_of s) (is_some s.block) c.args.line.now ≡ Ok (c.in-Ok.statement, next) = search rules in
    on_err_weaker c.state.result (statement_halts m s c.args.line.now c.in-Ok.statement next is c.learn.new.session c.in_ok-learn-in-Ok.ensures.learnt _ _)
    c.state.ensures.err

pub returns-in-Err-Kind-clause-ok : goal.returns-in-Err-Kind-clause-ok
returns-in-Err-Kind-clause-ok g c =
    let m : Meaning g.row.P.Denot = record { calc = g.B.Bench.calc c.args.bench.now; at = g.P.Picker.at; after = g.P.Picker.after } in
    let s : Live g.row.P.Denot = record {
      running = c.args.session.now;
      begun = c.args.blocks.now.begun;
      block = c.args.blocks.now.block;
      line = c.args.before;
    } in
    let is : meaning (known_of s) (is_some s.block) c.args.line.now ≡ Err c.in-Err-Kind.kind = search rules in
    on_ok_weaker c.fault_line.result (fault_said m s c.args.line.now c.in-Err-Kind.kind c.args.out.now.items c.fault_line.new.out.items _ _ is)
    c.fault_line.ensures.ok

pub returns-in-Err-Kind-clause-err : goal.returns-in-Err-Kind-clause-err
returns-in-Err-Kind-clause-err g c =
    let m : Meaning g.row.P.Denot = record { calc = g.B.Bench.calc c.args.bench.now; at = g.P.Picker.at; after = g.P.Picker.after } in
    let s : Live g.row.P.Denot = record {
      running = c.args.session.now;
      begun = c.args.blocks.now.begun;
      block = c.args.blocks.now.block;
      line = c.args.before;
    } in
    on_err_weaker c.fault_line.result (unwritten_halts (said m s c.args.line.now) c.args.out.now.items c.fault_line.new.out.items _ _)
    c.fault_line.ensures.err

pub returns-in-Err-Kind-clause-halted : goal.returns-in-Err-Kind-clause-halted
returns-in-Err-Kind-clause-halted g c = any_err _ (inl (none_learnt g.row.P.Denot _ c.args.session.now))

pub returns-in-Err-NoMemory-clause-err : goal.returns-in-Err-NoMemory-clause-err
returns-in-Err-NoMemory-clause-err g c = halts_at_once _ _

pub returns-in-Err-NoMemory-clause-halted : goal.returns-in-Err-NoMemory-clause-halted
returns-in-Err-NoMemory-clause-halted g c = inl (none_learnt g.row.P.Denot _ c.args.session.now)

-- what is learnt of a line that was read
learnt_so : {P : Type 0} → (s : Live P) (line : List ℕ) (st : Statement) (next : Known) (new : Running P)
    → meaning (known_of s) (is_some s.block) line ≡ Ok (st, next)
    → HasLearnt P (drop (length s.running.standing.names) next.names) s.running new → HasLearnt P (new_in s line) s.running new
learnt_so {P} s line st next new is has =
    subst (λ (r : Result (Statement × Known) ScriptKind). HasLearnt P (drop (length s.running.standing.names)
    (after_line s.running.standing.names (λ read. read.1.names) r)) s.running new) (sym is) has

pub returns-in_err-learn-in-Ok-clause-halted : goal.returns-in_err-learn-in-Ok-clause-halted
returns-in_err-learn-in-Ok-clause-halted g c =
    let s : Live g.row.P.Denot = record {
      running = c.args.session.now;
      begun = c.args.blocks.now.begun;
      block = c.args.blocks.now.block;
      line = c.args.before;
    } in
    let next : Known = record { names = c.read.new.copy; begun = c.read.new.copy_begun } in
    let is : meaning (known_of s) (is_some s.block) c.args.line.now ≡ Ok (c.in-Ok.statement, next) = search rules in
    any_err _ (inl (learnt_so s c.args.line.now c.in-Ok.statement next c.learn.new.session is c.learn.ensures.some))

pub returns-in_ok-learn-in-Ok-clause-halted : goal.returns-in_ok-learn-in-Ok-clause-halted
returns-in_ok-learn-in-Ok-clause-halted g c =
    let s : Live g.row.P.Denot = record {
      running = c.args.session.now;
      begun = c.args.blocks.now.begun;
      block = c.args.blocks.now.block;
      line = c.args.before;
    } in
    let next : Known = record { names = c.read.new.copy; begun = c.read.new.copy_begun } in
    let is : meaning (known_of s) (is_some s.block) c.args.line.now ≡ Ok (c.in-Ok.statement, next) = search rules in
    on_err_weaker c.state.result (still_learnt g.row.P.Denot _ c.args.session.now c.learn.new.session c.state.new.session
    (learnt_so s c.args.line.now c.in-Ok.statement next c.learn.new.session is c.learn.ensures.some)) c.state.ensures.halted
