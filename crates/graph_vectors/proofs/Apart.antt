-- What the test of the due watchers says.
use Rattle.std.proofs.Common.{◌≡◌, ℕ, true, false, List, [], ◌∷◌}
use Rattle.std.specs.Prelude.{◌==◌, not}
use Rattle.std.specs.List.{list_all}
use Rattle.std.proofs.lemmas.Bool.{and_parts, cond_both, not-true, eqb-true, eqb-false}
use Rattle.watch_rounds.specs.declared.rounds.DueWatcher.{DueWatcher}
use Rattle.watch_rounds.specs.Due.{IsOnly}
use Rattle.graph_vectors.specs.Watched.{is_apart}

apart : (watcher name : ℕ) (one : DueWatcher) → is_apart watcher name one ≡ true
    → (one.watcher ≡ watcher → one.name ≡ name) × (one.name ≡ name → one.watcher ≡ watcher)
apart watcher name one = cond_both (one.watcher == watcher) (one.name == name) (not (one.name == name))
    (λ b. b ≡ true → (one.watcher ≡ watcher → one.name ≡ name) × (one.name ≡ name → one.watcher ≡ watcher))
    (λ e named. (λ same. eqb-true one.name name named, λ same. eqb-true one.watcher watcher e))
    (λ e unlike. (
      λ same. absurd (eqb-false one.watcher watcher e same),
      λ same. absurd (eqb-false one.name name (not-true (one.name == name) unlike) same),
    ))

pub only : (watcher name : ℕ) (due : List DueWatcher) → list_all (is_apart watcher name) due ≡ true
    → IsOnly watcher name due
only watcher name [] all = tt
only watcher name (one ∷ due) all =
    let both = and_parts (is_apart watcher name one) (list_all (is_apart watcher name) due) all in
    (apart watcher name one both.0, only watcher name due both.1)
