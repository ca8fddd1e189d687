use Rattle.std.proofs.Common.{sym, subst, ap, Err, arith}
use Rattle.script_words.specs.Given.{Grows}
use Rattle.script_words.proofs.Interning.{numbered_ok, grows_with}
use Rattle.script_words.proofs.NamedWords.{too_many}
use Rattle.script_words.proofs.word.number_of.Goals as goal

pub returns-in-Ok-clause-gives : goal.returns-in-Ok-clause-gives
returns-in-Ok-clause-gives c = numbered_ok _ _ _ _ c.in-Ok.ensures.place c.in-Ok.ensures.kept c.in-Ok.ensures.named c.in-Ok.ensures.names

pub returns-in-Ok-clause-grows : goal.returns-in-Ok-clause-grows
returns-in-Ok-clause-grows c = let e = sym c.in-Ok.ensures.kept in subst (Grows c.args.names.now) e (grows_with _ _)

pub returns-in-Err-Full-clause-room : goal.returns-in-Err-Full-clause-room
returns-in-Err-Full-clause-room c = λ named few.
    let full = c.in-Err-Full.ensures.full.0 (ap (λ f. Err f) c.in-Err-Full.field-0-is) in
    let many = too_many c.args.names.now c.args.word.now full.1 full.2 in
    absurd (omega (arith, few, many))
