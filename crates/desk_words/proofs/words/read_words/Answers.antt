use Rattle.std.proofs.Common.{arith}
use Rattle.std.specs.String.{string_bytes}
use Rattle.desk_words.proofs.Counts.{too_few, too_many}
use Rattle.desk_words.proofs.words.read_words.Goals as goal

pub returns-in-empty-clause-answers : goal.returns-in-empty-clause-answers
returns-in-empty-clause-answers c = rw (too_few string_bytes c.args.words.now (omega (arith, c.in-empty.len_below))) tt

pub returns-in-len6-up-clause-answers : goal.returns-in-len6-up-clause-answers
returns-in-len6-up-clause-answers c =
    rw (too_many string_bytes c.args.words.now (omega (arith, c.in-len6-up.len_at_least))) tt
