-- Each visit goes on from the calls before it.
use Rattle.std.proofs.Common.{◌≡◌, ℕ, zero, suc, Bool, true, false, List, [], ◌∷◌, ◌++◌, length, Option, Some, None, Ok, Err, refl, sym, ◌∙◌, ap}
use Rattle.std.specs.Prelude.{if◌then◌else◌}
use Rattle.std.proofs.lemmas.List.{append-nil, append_assoc}
use Rattle.desk_terms.specs.declared.cause.Cause.{Cause}
use Rattle.desk_terms.specs.Reading.{Outcome, Calc}
use Rattle.desk_model.specs.declared.entry.Entry.{Entry}
use Rattle.desk_model.specs.declared.entry.Entry.TheVariants.{Gives, Needs, Refuses}
use Rattle.desk_model.specs.Uses.{uses}
use Rattle.desk_model.specs.State.{State, seen_outcome, now}
use Rattle.desk_model.specs.Visit.{Visit, Walk, after_visit, settle_all, settle_walk, is_idle, visit_by}
use Rattle.desk_model.proofs.Steps.{finish, then_on}

-- the later calls begin with these
abbrev pub Extends : List (ℕ × Outcome) → List (ℕ × Outcome) → Type 0
Extends calls later = (more : List (ℕ × Outcome)) × (later ≡ calls ++ more)

itself : (calls : List (ℕ × Outcome)) → Extends calls calls
itself calls = ([], sym (append-nil calls))

pub further : (a b c : List (ℕ × Outcome)) → Extends a b → Extends b c → Extends a c
further a b c p q = (p.0 ++ q.0, q.1 ∙ ap (λ (l : List (ℕ × Outcome)). l ++ q.0) p.1 ∙ append_assoc a p.0 q.0)

pub settle_extends : (visit : List (ℕ × Outcome) → ℕ → Visit) → ((calls : List (ℕ × Outcome)) (x : ℕ) → Extends calls (visit calls x).calls) → (calls : List (ℕ × Outcome)) (entries : List Entry) → Extends calls (settle_all visit calls entries).calls
settle_extends visit each calls [] = itself calls
settle_extends visit each calls (Gives i ∷ entries) = settle_extends visit each calls entries
settle_extends visit each calls (Refuses cause ∷ entries) = itself calls
settle_extends visit each calls (Needs x ∷ entries) = by_outcome (visit calls x).outcome (settle_extends visit each (visit calls x).calls entries)
  where
    by_outcome : (r : Outcome) → Extends (visit calls x).calls (settle_all visit (visit calls x).calls entries).calls → Extends calls (after_visit (visit calls x).calls r (λ later. settle_all visit later entries)).calls
    by_outcome (Ok value) rest = further calls (visit calls x).calls _ (each calls x) rest
    by_outcome (Err cause) rest = each calls x

pub walk_extends : (price : Outcome) (o : ℕ) (calls : List (ℕ × Outcome)) (walk : Walk) → Extends calls walk.calls → Extends calls (settle_walk price o walk).calls
walk_extends price o calls walk on = by_refusal walk.refusal
  where
    by_refusal : (refusal : Option Cause) → Extends calls (settle_walk price o (record { calls = walk.calls; refusal = refusal })).calls
    by_refusal (Some cause) = on
    by_refusal None = further calls walk.calls (walk.calls ++ (o, price) ∷ []) on ((o, price) ∷ [], refl)

pub visit_extends : (calc : Calc) (s : State) (n : ℕ) (calls : List (ℕ × Outcome)) (o : ℕ) → Extends calls (visit_by calc s n calls o).calls
unfolding visit_by
visit_extends calc s zero calls o = itself calls
visit_extends calc s (suc n) calls o = by_idle (is_idle s calls o) (visit_extends calc s n)
  where
    by_idle : (b : Bool) → ((calls : List (ℕ × Outcome)) (x : ℕ) → Extends calls (visit_by calc s n calls x).calls) → Extends calls (if b then record { calls = calls; outcome = seen_outcome calc s o } else settle_walk (now calc s o) o (settle_all (visit_by calc s n) calls (uses s.market o))).calls
    by_idle true each = itself calls
    by_idle false each = walk_extends (now calc s o) o calls (settle_all (visit_by calc s n) calls (uses s.market o)) (settle_extends (visit_by calc s n) each calls (uses s.market o))

pub finish_extends : (calc : Calc) (s : State) (o : ℕ) (xs : List ℕ) (calls : List (ℕ × Outcome)) → Extends calls (finish calc s o xs calls).calls
unfolding finish
finish_extends calc s o [] calls = itself calls
finish_extends calc s o (x ∷ xs) calls = by_outcome (visit_by calc s (suc (length s.market.objects)) calls x).outcome (finish_extends calc s o xs (visit_by calc s (suc (length s.market.objects)) calls x).calls)
  where
    by_outcome : (r : Outcome) → Extends (visit_by calc s (suc (length s.market.objects)) calls x).calls (finish calc s o xs (visit_by calc s (suc (length s.market.objects)) calls x).calls).calls → Extends calls (then_on (visit_by calc s (suc (length s.market.objects)) calls x).calls r (finish calc s o xs)).calls
    by_outcome (Ok value) rest = further calls (visit_by calc s (suc (length s.market.objects)) calls x).calls _ (visit_extends calc s (suc (length s.market.objects)) calls x) rest
    by_outcome (Err cause) rest = visit_extends calc s (suc (length s.market.objects)) calls x
