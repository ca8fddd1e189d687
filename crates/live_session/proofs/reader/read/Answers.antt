use Rattle.std.proofs.Common.{◌≡◌, sym, ap, ◌∙◌}
use Rattle.session_lang.specs.Statement.{Known, line_meaning}
use Rattle.live_session.proofs.LinesRead.{is_read}
use Rattle.live_session.proofs.reader.read.Goals as goal

pub returns-clause-read : goal.returns-clause-read
returns-clause-read c =
    let known : Known = record { names = c.args.names.now; begun = c.args.begun.now } in
    let next : Known = record { names = c.read_line.new.names; begun = c.read_line.new.begun } in
    let same : (let k : Known = record { names = c.copy_of.new.copy; begun = c.copy_of-2.new.copy } in k) ≡ known =
    (λ i. record { names = c.in_ok-copy_of.ensures.ok i; begun = c.in_ok-copy_of-2.ensures.ok i }) in
    is_read c.args.inside known next c.args.line.now c.in_ok-statement.field-0 c.copy_of.ensures.named c.copy_of-2.ensures.named
    (ap (λ (k : Known). line_meaning k c.args.inside c.args.line.now) (sym same) ∙ c.in_ok-statement.ensures.gives)
    (sym c.lacks.ensures ∙ c.if-lacks.false)
