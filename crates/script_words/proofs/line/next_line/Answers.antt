use Rattle.std.proofs.Common.{rules}
use Rattle.script_words.proofs.Lines.{first_line, only_line}
use Rattle.script_words.proofs.line.next_line.Goals as goal

pub returns-then-is_empty-clause-line : goal.returns-then-is_empty-clause-line
returns-then-is_empty-clause-line c = only_line c.args.text.now c.split_at.result.0.now c.split_at.result.1.now c.bytes_in_line.result c.bytes_in_line.ensures.value c.split_at.ensures.front c.split_at.ensures.back (search rules) c.requires

pub returns-clause-line : goal.returns-clause-line
returns-clause-line c = first_line c.args.text.now c.split_at.result.0.now c.split_at.result.1.now c.split_at-2.result.1.now c.without_return.result.now c.bytes_in_line.result c.bytes_in_line.ensures.value c.split_at.ensures.front c.split_at.ensures.back (search rules) c.split_at-2.ensures.back c.without_return.ensures
