use Rattle.market_session.proofs.Taking.{not_refused}
use Rattle.market_session.proofs.making.make_next.Goals as goal

pub unreachable-requires : goal.unreachable-requires
unreachable-requires c =
    not_refused c.args.session.now c.args.name c.args.terms c.make.result c.in-Err-Refused.field-0
    c.in-Err-Refused.field-0-0 c.requires.free c.requires.room c.make.ensures.answer c.in-Err-Refused.is
    c.in-Err-Refused.field-0-is
