use Rattle.std.proofs.Common.{ℕ, ◌++◌, List, refl, sym, ◌∙◌, ap, subst}
use Rattle.std.specs.Prelude.{map}
use Rattle.std.specs.String.{string_bytes}
use Rattle.std.proofs.Math.ListN.{drop_of_length-le}
use Rattle.std.proofs.lemmas.Result.{err_from_is_err_and}
use Rattle.desk_terms.specs.Reading.{Calc}
use Rattle.desk_model.specs.Sound.{IsSound}
use Rattle.bump_model.proofs.Each.{far_none, far_more, far_front, far_ended}
use Rattle.bump_ladder.proofs.Answered.{front_asks}
use Rattle.bump_ladder.proofs.Climbing.{next_item}
use Rattle.tool_risk.specs.Asking.{name_asking}
use Rattle.tool_risk.specs.Lines.{name_text}
use Rattle.tool_risk.proofs.Naming.{text_step, text_ended}
use Rattle.tool_risk.proofs.names.names_rows.Goals as goal

pub loop-text-init : goal.loop-text-init
loop-text-init g c = record {
  same = refl;
  progress = far_none (λ (h : Calc). name_asking h c.args.size c.args.namer.now.names.now) (g.B.Bench.calc
      c.args.bench.now) (map string_bytes c.args.texts.now) c.args.desk.now
      (g.B.Bench.count c.args.bench.now) (g.B.Bench.log c.args.bench.now);
  lines = refl;
  market = refl;
  sound = c.requires.sound;
  unheld = c.requires.unheld;
}

pub name_rows-requires : goal.name_rows-requires
name_rows-requires g c = record {
  sound = subst (λ (k : Calc). IsSound k c.loop-text.desk) (sym c.loop-text.invariant.same) c.loop-text.invariant.sound;
  unheld = c.loop-text.invariant.unheld;
}

pub loop-text-preserved : goal.loop-text-preserved
loop-text-preserved g c =
    let calc : Calc = g.B.Bench.calc c.args.bench.now in
    let k : Calc = g.B.Bench.calc c.loop-text.bench in
    let names = c.args.namer.now.names.now in
    let texts = c.args.texts.now in
    let i = c.loop-text.text-index in
    let s = c.loop-text.desk in
    let t = c.name_rows.new.desk in
    let name = string_bytes c.text-item.result in
    let steps = ap (map string_bytes) (next_item texts i c.text-item.result c.loop-text-test.true c.text-item.is) in
    record {
      same = c.name_rows.ensures.same ∙ c.loop-text.invariant.same;
      progress = far_more (λ (h : Calc). name_asking h c.args.size c.args.namer.now.names.now) calc _ _ k
          c.loop-text.invariant.same _ _ name steps s _ _ _ _ _ _
          c.loop-text.invariant.progress t (rw c.as_bytes.ensures.value at c.in_ok-name_rows.ensures.asks);
      lines = text_step calc c.args.size names k c.args.desk.now.market s.market c.args.namer.now.of_object.now _ _ name c.loop-text.lines.items c.name_rows.new.lines.items
          c.loop-text.invariant.same c.loop-text.invariant.market steps
          (c.in_ok-name_rows.ensures.lines ∙ ap (λ (b : List ℕ). c.loop-text.lines.items ++ name_text k c.args.size s.market names c.args.namer.now.of_object.now b) c.as_bytes.ensures.value)
          ∙ c.loop-text.invariant.lines;
      market = c.name_rows.ensures.market ∙ c.loop-text.invariant.market;
      sound = subst (λ (h : Calc). IsSound h t) c.loop-text.invariant.same c.name_rows.ensures.sound;
      unheld = c.name_rows.ensures.unheld;
    }

pub returns-in_err-name_rows-clause-asks : goal.returns-in_err-name_rows-clause-asks
returns-in_err-name_rows-clause-asks g c =
    let p = err_from_is_err_and c.from_residual.result c.from_residual.ensures.1 in
    let steps = ap (map string_bytes) (next_item c.args.texts.now c.loop-text.text-index c.text-item.result
    c.loop-text-test.true c.text-item.is) in
    front_asks _ _ _ _ _ _ _ _ p.1
    (far_front (λ (h : Calc). name_asking h c.args.size c.args.namer.now.names.now) (g.B.Bench.calc c.args.bench.now)
    _ _ (g.B.Bench.calc c.loop-text.bench) c.loop-text.invariant.same
    _ _ (string_bytes c.text-item.result) steps c.loop-text.desk _ _ _ _ _ _ c.loop-text.invariant.progress
    (rw c.as_bytes.ensures.value at c.in_err-name_rows.ensures.asks))

pub returns-in_err-name_rows-clause-same : goal.returns-in_err-name_rows-clause-same
returns-in_err-name_rows-clause-same g c = c.name_rows.ensures.same ∙ c.loop-text.invariant.same

pub returns-in_err-name_rows-clause-market : goal.returns-in_err-name_rows-clause-market
returns-in_err-name_rows-clause-market g c = c.name_rows.ensures.market ∙ c.loop-text.invariant.market

pub returns-clause-lines : goal.returns-clause-lines
returns-clause-lines g c =
    text_ended (g.B.Bench.calc c.args.bench.now) c.args.size c.args.namer.now.names.now c.args.desk.now.market c.args.namer.now.of_object.now _ c.loop-text.lines.items
    (ap (map string_bytes) (drop_of_length-le c.args.texts.now c.loop-text-test.false))
    ∙ c.loop-text.invariant.lines

pub returns-clause-asks : goal.returns-clause-asks
returns-clause-asks g c =
    far_ended (λ (h : Calc). name_asking h c.args.size c.args.namer.now.names.now) (g.B.Bench.calc c.args.bench.now) _
    _ _ c.loop-text.desk _ _ _ _
    (ap (map string_bytes) (drop_of_length-le c.args.texts.now c.loop-text-test.false)) c.loop-text.invariant.progress
