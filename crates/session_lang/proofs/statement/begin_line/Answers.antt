use Rattle.std.proofs.Common.{rules, ◌≡◌, ◌∙◌, ◌<◌, ℕ, List, map, Bor, length, false, true, sym, ap}
use Rattle.std.proofs.lemmas.List.{length-map}
use Rattle.desk_names.specs.Name.{is_name}
use Rattle.desk_names.specs.Names.{has_text, with_text, most_names}
use Rattle.session_lang.specs.Statement.{Known}
use Rattle.session_lang.proofs.NewNames.{memory_keeps}
use Rattle.session_lang.proofs.AddedNames.{adds_all, new_fits, begin_full, begin_fails, gives_fault, any_err}
use Rattle.session_lang.proofs.statement.begin_line.Goals as goal

pub returns-then-len-eq-MOST_NAMES-clause-gives : goal.returns-then-len-eq-MOST_NAMES-clause-gives
returns-then-len-eq-MOST_NAMES-clause-gives c =
    let ws : List (List ℕ) = map (λ (w : Bor (List ℕ)). w.now) c.args.words.now in
    let known : Known = record { names = c.args.names.now; begun = c.args.begun.now } in
    let one : length c.args.words.now ≡ 1 = search rules in
    let named : is_name c.word_at-word.result.now ≡ true = search rules in
    let new : has_text c.args.begun.now c.word_at-word.result.now ≡ false = search rules in
    begin_full known c.args.inside ws c.word_at-word.result.now (length-map _ _ ∙ one) c.if-inside.false (sym c.word_at-word.ensures) named new
    (sym c.len.ensures.len ∙ c.if-len-eq-MOST_NAMES.true)

pub returns-in_err-name-clause-gives : goal.returns-in_err-name-clause-gives
returns-in_err-name-clause-gives c =
    let ws : List (List ℕ) = map (λ (w : Bor (List ℕ)). w.now) c.args.words.now in
    let known : Known = record { names = c.args.names.now; begun = c.args.begun.now } in
    let one : length c.args.words.now ≡ 1 = search rules in
    let named : is_name c.word_at-word.result.now ≡ true = search rules in
    let new : has_text c.args.begun.now c.word_at-word.result.now ≡ false = search rules in
    let room : length c.args.begun.now < most_names = search rules in
    gives_fault _ _ c.in_err-name.field-0.0 _ (search rules)
    (begin_fails known c.args.inside ws c.word_at-word.result.now (length-map _ _ ∙ one) c.if-inside.false (sym c.word_at-word.ensures) named new
    c.in_err-name.field-0.0 room c.in_err-name.ensures.gives)

pub returns-in_err-number_of-clause-kept : goal.returns-in_err-number_of-clause-kept
returns-in_err-number_of-clause-kept c =
    let named : is_name c.word_at-word.result.now ≡ true = search rules in
    let new : has_text c.args.begun.now c.word_at-word.result.now ≡ false = search rules in
    let room : length c.args.begun.now < most_names = search rules in
    memory_keeps c.in_err-number_of.field-0.0 _ _ _ (search rules)
    (c.in_err-number_of.ensures.room named (new_fits c.args.begun.now c.word_at-word.result.now new room))

pub returns-in_err-number_of-clause-added : goal.returns-in_err-number_of-clause-added
returns-in_err-number_of-clause-added c =
    any_err c.from_residual-in_err-number_of.result
    (adds_all c.args.names.now _ _ (c.in_ok-name.ensures.names ∙ ap (with_text c.args.names.now) c.word_at-word.ensures))
