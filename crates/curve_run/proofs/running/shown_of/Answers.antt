use Rattle.curve_run.proofs.running.shown_of.Goals as goal

pub curve_lines-requires-clause-sound : goal.curve_lines-requires-clause-sound
curve_lines-requires-clause-sound g c = c.in_ok-named.ensures.sound (g.B.Bench.calc c.args.bench.now)

pub returns-clause-shown : goal.returns-clause-shown
returns-clause-shown g c = rw (c.in_ok-named.ensures.names, c.in_ok-named.ensures.desk) at c.curve_lines.ensures.shown
