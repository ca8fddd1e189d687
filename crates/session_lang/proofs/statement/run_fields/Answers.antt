use Rattle.std.proofs.Common.{rules, ◌≡◌, ◌∙◌, ◌≤◌, ℕ, List, map, Bor, length, sym, ap, subst}
use Rattle.desk_names.specs.Names.{most_names}
use Rattle.session_commands.specs.Table.{row_of}
use Rattle.script_words.specs.Word.{with_name}
use Rattle.session_lang.specs.Statement.{word}
use Rattle.session_lang.specs.FirstFault.{AddsFront}
use Rattle.session_lang.proofs.NewNames.{rooms, memory_keeps}
use Rattle.session_lang.proofs.AddedNames.{adds_one, adds_two, any_err}
use Rattle.session_lang.proofs.statement.run_fields.Goals as goal

pub returns-in_err-second-clause-kept : goal.returns-in_err-second-clause-kept
returns-in_err-second-clause-kept c =
    let r = row_of c.args.verb in
    let ws : List (List ℕ) = map (λ (w : Bor (List ℕ)). w.now) c.args.words.now in
    let names : c.field_of.new.names ≡ with_name r.first (word ws 0) c.args.names.now =
    c.in_ok-first.ensures.names ∙ ap (λ k. with_name k c.word_at.result.now c.args.names.now) c.row-kind1.ensures.kinds.0 ∙ ap (λ w. with_name r.first w c.args.names.now) c.word_at.ensures in
    let whole : with_name c.row-kind1.result.2 c.word_at-2.result.now c.field_of.new.names ≡ with_name r.second (word ws 1) (with_name r.first (word ws 0) c.args.names.now) =
    ap (λ k. with_name k c.word_at-2.result.now c.field_of.new.names) c.row-kind1.ensures.kinds.1 ∙ ap (λ w. with_name r.second w c.field_of.new.names) c.word_at-2.ensures ∙ ap (with_name r.second (word ws 1)) names in
    let few = subst (λ (l : List (List ℕ)). length l ≤ most_names) (sym whole) (rooms r ws c.args.names.now c.requires.room).1 in
    memory_keeps c.in_err-second.field-0.0 _ _ _ (search rules) (c.in_err-second.ensures.room few)

pub returns-in_err-third-clause-added : goal.returns-in_err-third-clause-added
returns-in_err-third-clause-added c =
    let r = row_of c.args.verb in
    let ws : List (List ℕ) = map (λ (w : Bor (List ℕ)). w.now) c.args.words.now in
    let names : c.field_of.new.names ≡ with_name r.first (word ws 0) c.args.names.now =
    c.in_ok-first.ensures.names ∙ ap (λ k. with_name k c.word_at.result.now c.args.names.now) c.row-kind1.ensures.kinds.0 ∙ ap (λ w. with_name r.first w c.args.names.now) c.word_at.ensures in
    let both : c.field_of-2.new.names ≡ with_name r.second (word ws 1) (with_name r.first (word ws 0) c.args.names.now) =
    c.in_ok-second.ensures.names ∙ ap (λ k. with_name k c.word_at-2.result.now c.field_of.new.names) c.row-kind1.ensures.kinds.1 ∙ ap (λ w. with_name r.second w c.field_of.new.names) c.word_at-2.ensures ∙ ap (with_name r.second (word ws 1)) names in
    any_err c.from_residual-in_err-third.result
    (subst (AddsFront c.args.names.now _) (sym (c.in_err-third.ensures.kept ∙ both)) (adds_two c.args.names.now ws c.args.verb))

pub returns-in_err-second-clause-added : goal.returns-in_err-second-clause-added
returns-in_err-second-clause-added c =
    let r = row_of c.args.verb in
    let ws : List (List ℕ) = map (λ (w : Bor (List ℕ)). w.now) c.args.words.now in
    let names : c.field_of.new.names ≡ with_name r.first (word ws 0) c.args.names.now =
    c.in_ok-first.ensures.names ∙ ap (λ k. with_name k c.word_at.result.now c.args.names.now) c.row-kind1.ensures.kinds.0 ∙ ap (λ w. with_name r.first w c.args.names.now) c.word_at.ensures in
    any_err c.from_residual-in_err-second.result
    (subst (AddsFront c.args.names.now _) (sym (c.in_err-second.ensures.kept ∙ names)) (adds_one c.args.names.now ws c.args.verb))
