use Rattle.std.proofs.Common.{arith, ◌∙◌, ap, length}
use Rattle.std.proofs.lemmas.Grind.{common_steps}
use Rattle.desk_edge.proofs.SinkLemmas.{appended-take}
use Rattle.desk_edge.proofs.writing.write_whole.Goals as goal

pub loop-at-preserved : goal.loop-at-preserved
loop-at-preserved g c =
    let before = c.loop-at.invariant in
    let piece = c.in_ok-at.ensures in
    record {
      within = grind (arith, common_steps, piece.within);
      put = appended-take c.loop-at.at c.in_ok-at.field-0 c.args.bytes.now _ _ _ before.put piece.taken;
      faults = piece.quiet ∙ before.faults;
      nothing = λ none. absurd (omega (arith, ap length none, c.loop-at-test.true));
    }
