use Rattle.std.proofs.Common.{rules, ℕ, List, map, Bor}
use Rattle.session_commands.specs.Table.{row_of}
use Rattle.script_words.specs.Word.{fault_of}
use Rattle.session_lang.specs.Statement.{word}
use Rattle.session_lang.proofs.PlainWords.{good_word, bad_word, first_bad, second_bad, third_bad, told_bad}
use Rattle.session_lang.proofs.statement.words_said.Goals as goal

pub returns-in_err-first : goal.returns-in_err-first
returns-in_err-first c =
    let r = row_of c.args.verb in
    let ws : List (List ℕ) = map (λ (w : Bor (List ℕ)). w.now) c.args.words.now in
    let one = bad_word r.first c.row-kind1.result.1 (word ws 0) c.word_at.result.now c.word_said.result c.in_err-first.field-0.0 c.row-kind1.ensures.kinds.0 c.word_at.ensures c.word_said.ensures c.in_err-first.was in
    told_bad c.args.verb ws c.in_err-first.field-0.0 c.from_residual.result (first_bad (fault_of r.first (word ws 0)) (fault_of r.second (word ws 1)) (fault_of r.third (word ws 2)) c.in_err-first.field-0.0 one) (search rules)

pub returns-in_err-second : goal.returns-in_err-second
returns-in_err-second c =
    let r = row_of c.args.verb in
    let ws : List (List ℕ) = map (λ (w : Bor (List ℕ)). w.now) c.args.words.now in
    let one = good_word r.first c.row-kind1.result.1 (word ws 0) c.word_at.result.now c.word_said.result c.in_ok-first.first c.row-kind1.ensures.kinds.0 c.word_at.ensures c.word_said.ensures c.in_ok-first.was in
    let two = bad_word r.second c.row-kind1.result.2 (word ws 1) c.word_at-2.result.now c.word_said-2.result c.in_err-second.field-0.0 c.row-kind1.ensures.kinds.1 c.word_at-2.ensures c.word_said-2.ensures c.in_err-second.was in
    told_bad c.args.verb ws c.in_err-second.field-0.0 c.from_residual-in_err-second.result (second_bad (fault_of r.first (word ws 0)) (fault_of r.second (word ws 1)) (fault_of r.third (word ws 2)) c.in_err-second.field-0.0 one.0 two) (search rules)

pub returns-in_err-third : goal.returns-in_err-third
returns-in_err-third c =
    let r = row_of c.args.verb in
    let ws : List (List ℕ) = map (λ (w : Bor (List ℕ)). w.now) c.args.words.now in
    let one = good_word r.first c.row-kind1.result.1 (word ws 0) c.word_at.result.now c.word_said.result c.in_ok-first.first c.row-kind1.ensures.kinds.0 c.word_at.ensures c.word_said.ensures c.in_ok-first.was in
    let two = good_word r.second c.row-kind1.result.2 (word ws 1) c.word_at-2.result.now c.word_said-2.result c.in_ok-second.second c.row-kind1.ensures.kinds.1 c.word_at-2.ensures c.word_said-2.ensures c.in_ok-second.was in
    let three = bad_word r.third c.row-kind1.result.3 (word ws 2) c.word_at-3.result.now c.word_said-3.result c.in_err-third.field-0.0 c.row-kind1.ensures.kinds.2 c.word_at-3.ensures c.word_said-3.ensures c.in_err-third.was in
    told_bad c.args.verb ws c.in_err-third.field-0.0 c.from_residual-in_err-third.result (third_bad (fault_of r.first (word ws 0)) (fault_of r.second (word ws 1)) (fault_of r.third (word ws 2)) c.in_err-third.field-0.0 one.0 two.0 three) (search rules)

pub returns : goal.returns
returns c =
    let r = row_of c.args.verb in
    let ws : List (List ℕ) = map (λ (w : Bor (List ℕ)). w.now) c.args.words.now in
    let one = good_word r.first c.row-kind1.result.1 (word ws 0) c.word_at.result.now c.word_said.result c.in_ok-first.first c.row-kind1.ensures.kinds.0 c.word_at.ensures c.word_said.ensures c.in_ok-first.was in
    let two = good_word r.second c.row-kind1.result.2 (word ws 1) c.word_at-2.result.now c.word_said-2.result c.in_ok-second.second c.row-kind1.ensures.kinds.1 c.word_at-2.ensures c.word_said-2.ensures c.in_ok-second.was in
    let three = good_word r.third c.row-kind1.result.3 (word ws 2) c.word_at-3.result.now c.word_said-3.result c.in_ok-third.third c.row-kind1.ensures.kinds.2 c.word_at-3.ensures c.word_said-3.ensures c.in_ok-third.was in
    record { first_good = one.0; second_good = two.0; third_good = three.0; first = one.1; second = two.1; third = three.1 }
