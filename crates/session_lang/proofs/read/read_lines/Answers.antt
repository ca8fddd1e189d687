use Rattle.std.proofs.Common.{◌≡◌, ◌+◌, false, arith, sym, subst, ◌∙◌, ap, rules, is_some, length, length-append, ◌∷◌}
use Rattle.std.proofs.lemmas.List.{nil_from_length}
use Rattle.std.specs.Str.Lines.{lines}
use Rattle.script_words.proofs.Interning.{grows_on}
use Rattle.session_lang.specs.Statement.{Known}
use Rattle.session_lang.specs.Reading.{lines_meaning}
use Rattle.session_lang.specs.Gathered.{gathered_behind}
use Rattle.session_lang.proofs.FirstLines.{took_first, left_first}
use Rattle.session_lang.proofs.Walk.{lines_end}
use Rattle.session_lang.proofs.LeftNames.{left_end}
use Rattle.session_lang.proofs.AddedLines.{taken_here, taken_more, taken_some, taken_first, Taken}
use Rattle.session_lang.proofs.read.read_lines.Goals as goal

pub returns-clause-gives : goal.returns-clause-gives
returns-clause-gives c =
    sym c.loop-rest.invariant.whole
    ∙ lines_end c.loop-rest.steps.items c.loop-rest.commands (record { names = c.loop-rest.names; begun = c.loop-rest.begun }) c.loop-rest.open_at c.loop-rest.number (is_some c.loop-rest.open_at) (lines c.loop-rest.rest.now) (ap lines (nil_from_length c.loop-rest.rest.now (search rules)))

pub returns-clause-left : goal.returns-clause-left
returns-clause-left c =
    sym (left_end (record { names = c.loop-rest.names; begun = c.loop-rest.begun }) c.loop-rest.open_at c.loop-rest.number (lines c.loop-rest.rest.now) (ap lines (nil_from_length c.loop-rest.rest.now (search rules))))
    ∙ c.loop-rest.invariant.left

pub loop-rest-preserved-in-Some : goal.loop-rest-preserved-in-Some
loop-rest-preserved-in-Some c =
    let known : Known = record { names = c.loop-rest.names; begun = c.loop-rest.begun } in
    let closed : is_some c.loop-rest.open_at ≡ false = sym c.is_open.ensures ∙ c.in-Some.ensures.outside in
    let first = c.in-Some.ensures.first in
    record {
      whole = ap (λ commands. gathered_behind c.loop-rest.steps.items commands (is_some c.loop-rest.open_at)
          (lines_meaning known c.loop-rest.open_at (c.loop-rest.number + 1) (lines c.in-Some.after.now))) c.in_ok-push-in-Some.ensures.ok
          ∙ sym (took_first c.loop-rest.names c.loop-rest.begun c.loop-rest.number _ _ _ c.loop-rest.open_at closed first
          c.loop-rest.steps.items c.loop-rest.commands)
          ∙ c.loop-rest.invariant.whole;
      left = sym (left_first c.loop-rest.names c.loop-rest.begun c.loop-rest.number _ _ _ c.loop-rest.open_at closed first)
          ∙ c.loop-rest.invariant.left;
      count = omega (arith, ap length first.whole, length-append first.line (10 ∷ c.in-Some.after.now), c.loop-rest.invariant.count);
      grows = c.loop-rest.invariant.grows;
      taken = λ sound kept. taken_first c.args.names.now (lines c.args.text.now) c.loop-rest.names c.loop-rest.begun c.loop-rest.rest.now
          c.in-Some.command c.in-Some.after.now first (c.loop-rest.invariant.taken sound kept);
    }

pub returns-clause-added : goal.returns-clause-added
returns-clause-added c = λ sound kept.
    taken_here c.args.names.now (lines c.args.text.now) c.loop-rest.names c.loop-rest.begun (lines c.loop-rest.rest.now)
    (c.loop-rest.invariant.taken sound kept)

pub returns-in_err-open_at-in-None-clause-added : goal.returns-in_err-open_at-in-None-clause-added
returns-in_err-open_at-in-None-clause-added c = λ sound kept.
    let taken : Taken c.args.names.now (lines c.args.text.now) c.loop-rest.names c.loop-rest.begun
    (c.next_line.result.0.now ∷ lines c.next_line.result.1.now) =
    subst (Taken c.args.names.now (lines c.args.text.now) c.loop-rest.names c.loop-rest.begun) c.next_line.ensures.line
    (c.loop-rest.invariant.taken sound kept) in
    taken_some c.args.names.now (lines c.args.text.now) c.loop-rest.names c.loop-rest.begun c.next_line.result.0.now
    (lines c.next_line.result.1.now) taken c.take_line.new.names (c.in_err-open_at-in-None.ensures.added taken.names_kept taken.begun_kept)

pub loop-rest-preserved : goal.loop-rest-preserved
loop-rest-preserved c = record {
  whole = search rules;
  left = search rules;
  count = search rules;
  grows = grows_on c.args.names.now c.loop-rest.names c.take_line.new.names c.loop-rest.invariant.grows c.take_line.ensures.grows;
  taken = λ sound kept.
      let taken : Taken c.args.names.now (lines c.args.text.now) c.loop-rest.names c.loop-rest.begun
      (c.next_line.result.0.now ∷ lines c.next_line.result.1.now) =
      subst (Taken c.args.names.now (lines c.args.text.now) c.loop-rest.names c.loop-rest.begun) c.next_line.ensures.line
      (c.loop-rest.invariant.taken sound kept) in
      taken_more c.args.names.now (lines c.args.text.now) c.loop-rest.names c.loop-rest.begun c.next_line.result.0.now
      (lines c.next_line.result.1.now) taken c.take_line.new.names c.take_line.new.begun
      (c.in_ok-open_at-in-None.ensures.read taken.names_kept taken.begun_kept);
}
