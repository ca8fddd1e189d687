use Rattle.std.proofs.Common.{◌≡◌, ◌∙◌, ◌==◌, true, length, sym, ap, subst}
use Rattle.std.proofs.lemmas.Bool.{eqb-true}
use Rattle.session_model.specs.Standing.{Standing}
use Rattle.live_session.specs.Lines.{Lines, StandBy}
use Rattle.live_session.proofs.Beside.{interned_beside}
use Rattle.live_session.proofs.lines.Lines.intern.Goals as goal

pub returns-clause-stands : goal.returns-clause-stands
returns-clause-stands g c =
    interned_beside g.row.P.Denot c.args.session.now c.intern.new.self c.args.text.now c.in_ok-name.ensures.kept
    lines c.follow.new.copy (c.len.result == c.len-2.result) as_long (c.follow.ensures c.args.session.now.standing.names)
    (subst (StandBy g.row.P.Denot c.args.session.now) (sym c.self.view_is) c.requires.stands)
  where
    lines : Lines
    lines = record {
      begun = c.self.inside.blocks.begun;
      block = c.self.inside.blocks.block;
      line = c.self.inside.line;
      names = c.self.inside.reader.names;
      actions = c.self.inside.reader.begun;
    }

    as_long : (c.len.result == c.len-2.result) ≡ true → length c.self.inside.reader.names ≡ length c.args.session.now.standing.names
    as_long same =
        sym c.len.ensures.len ∙ eqb-true c.len.result c.len-2.result same
        ∙ (c.len-2.ensures.len ∙ ap length (c.names.ensures ∙ ap (λ (p : Standing). p.names) c.session.ensures))
