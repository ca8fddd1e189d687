use Rattle.std.proofs.Common.{◌++◌, ◌∙◌, ℕ, List, sym, ap}
use Rattle.std.proofs.lemmas.List.{append-nil}
use Rattle.desk_model.specs.Market.{kind_at}
use Rattle.desk_model.specs.State.{State}
use Rattle.session_why.proofs.Plain.{no_lines, watcher_lines}
use Rattle.session_why.proofs.objects.push_plain.Goals as goal

pub returns-in-None : goal.returns-in-None
returns-in-None c = λ calc.
    let old = c.args.out.now.items in
    sym (append-nil old)
    ∙ ap (λ (l : List ℕ). old ++ l) (sym (no_lines calc c.args.session.now c.args.object
    (sym ((rw c.deref.ensures at c.in-None.ensures) ∙ ap (λ (t : State). kind_at t.market c.args.object) c.desk.ensures))))

pub returns-in-Some-Watcher : goal.returns-in-Some-Watcher
returns-in-Some-Watcher c = λ calc.
    let old = c.args.out.now.items in
    let given = rw c.deref.ensures at (rw c.in-Some-Watcher.field-0-is at c.in-Some-Watcher.ensures) in
    sym (append-nil old)
    ∙ ap (λ (l : List ℕ). old ++ l) (sym (watcher_lines calc c.args.session.now c.args.object
    (sym (given ∙ ap (λ (t : State). kind_at t.market c.args.object) c.desk.ensures))))
