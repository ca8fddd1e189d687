use Rattle.std.proofs.Common.{◌≡◌, sym, ◌∙◌, false, ap, slice_index_or, []}
use Rattle.desk_names.specs.Names.{place_of, has_text}
use Rattle.script_words.proofs.Interning.{place_absent}
use Rattle.session_lang.proofs.steps.linked_action.Goals as goal

pub returns-in-None : goal.returns-in-None
returns-in-None c =
    let gone : has_text c.args.begun.now c.text_at.result.now ≡ false = sym c.in-None.ensures.found in
    c.len.ensures.len ∙ sym (place_absent c.args.begun.now c.text_at.result.now gone) ∙ ap (place_of c.args.begun.now) c.text_at.ensures ∙ ap (λ a. place_of c.args.begun.now (slice_index_or c.args.names.now a [])) c.action.view_is
