use Rattle.std.proofs.Common.{rules, ◌≡◌, sym, ap, true, cond}
use Rattle.desk_names.specs.Names.{with_text}
use Rattle.script_words.specs.Word.{names_one, with_name}
use Rattle.script_words.proofs.NamedWords.{is_named}
use Rattle.script_words.proofs.Sorts.{plain_sorted}
use Rattle.script_words.proofs.word.field_of.Goals as goal

pub returns-then-not-names_one-clause-sorted : goal.returns-then-not-names_one-clause-sorted
returns-then-not-names_one-clause-sorted c = plain_sorted c.args.kind c.args.word.now c.args.plain c.requires.good c.requires.plain (search rules)

pub returns-in_err-name-clause-room : goal.returns-in_err-name-clause-room
returns-in_err-name-clause-room c =
    let one : names_one c.args.kind c.args.word.now ≡ true = search rules in
    let named = is_named c.args.kind c.args.word.now c.requires.good one in
    let whole : with_name c.args.kind c.args.word.now c.args.names.now ≡ with_text c.args.names.now c.args.word.now = ap (λ b. cond b (with_text c.args.names.now c.args.word.now) c.args.names.now) one in
    λ few. let memory = c.in_err-name.ensures.room named (rw (sym whole) few) in search rules
