use Rattle.std.proofs.Common.{◌≡◌, ◌⊎◌, inl, inr, refl, sym, ap, subst, ℕ, List, [], Option, Some, None, Result, pos, true}
use Rattle.std.proofs.lemmas.List.{append-nil}
use Rattle.curve_drawing.specs.declared.lines.Plot.TheVariants.{Factors}
use Rattle.desk_edge.specs.Shelf.{files_of}
use Rattle.desk_edge.specs.Sink.{appended}
use Rattle.market_loader.proofs.Steps.{told_map}
use Rattle.bump_model.specs.Asking.{Made, MadeFront}
use Rattle.bump_model.proofs.Calls.{front_none}
use Rattle.tool_frame.specs.Market.{wanted_in}
use Rattle.tool_frame.specs.Stage as stage
use Rattle.desk_terms.specs.Reading.{Calc}
use Rattle.tool_frame.specs.declared.status.MarketStatus.{MarketStatus}
use Rattle.tool_frame.specs.Run.{given_for}
use Rattle.tool_frame.specs.Stage.{Stage, Done, Missing, Failed, Cut, Halted, IsEarly, IsBefore, Writes, Computes, Log, puts_then}
use Rattle.tool_frame.proofs.Early.{early_or_none}
use Rattle.curve_run.specs.declared.status.CurveStatus.TheVariants.{Of, Refused}
use Rattle.curve_run.specs.Status.{stage_of, Notes}
use Rattle.curve_run.specs.Verdict.{Wanted, text_of, lines_of, output_in, notes_in, computed_in}
use Rattle.curve_run.specs.Words.{request_in}
use Rattle.curve_run.proofs.running.run_curve.Goals as goal

-- some wanted thing: memory ran out before anything was known of it
any_wanted : Wanted
any_wanted = record {
  market = record { today = pos 0; made = []; names = [] };
  request = record { as_table = true; plot = Factors; market = []; curves = [] };
}

-- the same of a run that notes nothing
early : (calc : Calc) (bytes notes : Option (List ℕ)) (faults count : ℕ) (log : Log) (s : MarketStatus) → IsBefore (stage_of (Of s))
    → IsEarly (stage_of (Of s)) ⊎ ((asked : Wanted) × Writes bytes bytes (output_in calc asked) (stage_of (Of s))
    × Notes notes notes faults faults (notes_in calc asked) (Of s)
    × Computes Made MadeFront (computed_in calc asked) (stage_of (Of s)) count count log log)
early calc bytes notes faults count log s before =
    noted (early_or_none (output_in calc) any_wanted bytes Made MadeFront (computed_in calc) count log (front_none _ _ _) (stage_of (Of s)) before)
  where
    noted : IsEarly (stage_of (Of s)) ⊎ ((asked : Wanted) × Writes bytes bytes (output_in calc asked) (stage_of (Of s))
        × Computes Made MadeFront (computed_in calc asked) (stage_of (Of s)) count count log log)
        → IsEarly (stage_of (Of s)) ⊎ ((asked : Wanted) × Writes bytes bytes (output_in calc asked) (stage_of (Of s))
        × Notes notes notes faults faults (notes_in calc asked) (Of s)
        × Computes Made MadeFront (computed_in calc asked) (stage_of (Of s)) count count log log)
    noted (inl is) = inl is
    noted (inr (asked, writes, computes)) = inr (asked, writes, refl, computes)

pub returns-in-Err-clause-carried : goal.returns-in-Err-clause-carried
returns-in-Err-clause-carried g c =
    early (g.B.Bench.calc c.args.bench.now) (g.K.Sink.bytes c.args.out.now) (g.N.Sink.bytes c.args.notes.now) (g.N.Sink.faults c.args.notes.now)
    (g.B.Bench.count c.args.bench.now) (g.B.Bench.log c.args.bench.now) c.in-Err.status c.in-Err.ensures.before

pub returns-in-Ok-write_whole-clause-carried : goal.returns-in-Ok-write_whole-clause-carried
returns-in-Ok-write_whole-clause-carried g c =
    let shown = rw c.in-Ok-Ok.field-0-is at c.in-Ok-Ok.ensures.shown in
    let text = sym (ap text_of shown) in
    inr (
      wanted_in request_in c.in-Ok.found,
      rw (c.deref.ensures.value, text) at c.in-Ok-write_whole.ensures.written,
      refl,
      c.in-Ok-Ok.ensures.calls,
    )

pub returns-in-Ok-Ok-clause-carried : goal.returns-in-Ok-Ok-clause-carried
returns-in-Ok-Ok-clause-carried g c =
    let shown = rw c.in-Ok-Ok.field-0-is at c.in-Ok-Ok.ensures.shown in
    let text = sym (ap text_of shown) in
    inr (
      wanted_in request_in c.in-Ok.found,
      rw (c.deref.ensures.value, text) at c.in-Err-write_whole.ensures.front,
      refl,
      c.in-Ok-Ok.ensures.calls,
    )

-- nothing is appended
none_appended : (told : Option (List ℕ)) (text : List ℕ) → text ≡ [] → told ≡ appended text told
none_appended told text is = subst (λ (l : List ℕ). told ≡ appended l told) (sym is) (of told)
  where
    of : (told : Option (List ℕ)) → told ≡ appended [] told
    of None = refl
    of (Some bytes) = ap (λ (l : List ℕ). Some l) (sym (append-nil bytes))

pub returns-in-Ok-Err-clause-noted : goal.returns-in-Ok-Err-clause-noted
returns-in-Ok-Err-clause-noted g c =
    let calc = g.B.Bench.calc c.args.bench.now in
    let shown = rw c.in-Ok-Err.field-0-is at c.in-Ok-Err.ensures.shown in
    let lines = sym (ap lines_of shown) in
    told_map (files_of (g.H.Shelf.contents c.args.shelf.now))
    (λ files is. subst (λ (v : Result Wanted MarketStatus). Notes (g.N.Sink.bytes c.args.notes.now) (g.N.Sink.bytes c.note.new.notes)
    (g.N.Sink.faults c.args.notes.now) (g.N.Sink.faults c.note.new.notes) (given_for (notes_in calc) v) Refused) (sym is)
    (rw (c.deref-in-Ok-Err.ensures.value, lines) at c.note.ensures))
    c.in-Ok.ensures.tells

pub returns-in-Ok-Err-clause-carried : goal.returns-in-Ok-Err-clause-carried
returns-in-Ok-Err-clause-carried g c =
    let shown = rw c.in-Ok-Err.field-0-is at c.in-Ok-Err.ensures.shown in
    let lines = sym (ap lines_of shown) in
    inr (
      wanted_in request_in c.in-Ok.found,
      none_appended _ _ (ap text_of shown),
      rw (c.deref-in-Ok-Err.ensures.value, lines) at c.note.ensures,
      c.in-Ok-Err.ensures.calls,
    )

pub returns-clause-carried : goal.returns-clause-carried
returns-clause-carried g c = inr (wanted_in request_in c.in-Ok.found, refl, refl, c.in-Err-shown_of.ensures.calls)

pub returns-clause-there : goal.returns-clause-there
returns-clause-there g c =
    told_map (files_of (g.H.Shelf.contents c.args.shelf.now)) (λ files h halted. h tt) c.in-Ok.ensures.there

-- nothing was put
put_none : (n : Stage) → IsBefore n → (faults : ℕ) → faults ≡ puts_then n faults
put_none stage.Refused before faults = refl
put_none Missing before faults = refl
put_none Failed before faults = refl
put_none Halted before faults = refl
put_none Done before faults = absurd before
put_none Cut before faults = absurd before

pub returns-in-Err-clause-put : goal.returns-in-Err-clause-put
returns-in-Err-clause-put g c = put_none (stage_of (Of c.in-Err.status)) c.in-Err.ensures.before (g.K.Sink.faults c.args.out.now)
