use Rattle.std.proofs.Common.{rules, sym, ◌∙◌}
use Rattle.script_words.proofs.LineWords.{cut_blank, cut_end, cut_last, cut_done}
use Rattle.script_words.proofs.line.good_words_of.Goals as goal

pub returns-in-empty-clause-good : goal.returns-in-empty-clause-good
returns-in-empty-clause-good c = (cut_end _ _ _ _ _ _ _ c.word_len.ensures.value c.split_at.ensures.front c.split_at.ensures.back c.in_ok-keep_word.ensures c.loop-rest.invariant c.in-empty.len_below).0

pub returns-in-empty-clause-words : goal.returns-in-empty-clause-words
returns-in-empty-clause-words c = λ _. (cut_end _ _ _ _ _ _ _ c.word_len.ensures.value c.split_at.ensures.front c.split_at.ensures.back c.in_ok-keep_word.ensures c.loop-rest.invariant c.in-empty.len_below).1

pub returns-then-not-is_blank-clause-good : goal.returns-then-not-is_blank-clause-good
returns-then-not-is_blank-clause-good c = c.begins_comment.ensures ∙ (cut_last _ _ _ _ _ _ _ c.word_len.ensures.value c.split_at.ensures.front c.split_at.ensures.back c.in_ok-keep_word.ensures c.loop-rest.invariant c.in-len1-up.len_at_least (search rules)).0

pub returns-then-not-is_blank-clause-words : goal.returns-then-not-is_blank-clause-words
returns-then-not-is_blank-clause-words c = λ good. (cut_last _ _ _ _ _ _ _ c.word_len.ensures.value c.split_at.ensures.front c.split_at.ensures.back c.in_ok-keep_word.ensures c.loop-rest.invariant c.in-len1-up.len_at_least (search rules)).1 (sym c.begins_comment.ensures ∙ good)

pub loop-rest-preserved : goal.loop-rest-preserved
loop-rest-preserved c = cut_blank _ _ _ _ _ _ _ c.word_len.ensures.value c.split_at.ensures.front c.split_at.ensures.back c.in_ok-keep_word.ensures c.loop-rest.invariant c.in-len1-up.len_at_least (search rules)

pub returns-clause-words : goal.returns-clause-words
returns-clause-words c = λ _. (cut_done _ _ _ (search rules) c.loop-rest.invariant).1
