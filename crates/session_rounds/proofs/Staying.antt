-- A watcher that has a registration keeps one, unless a command unregisters or drops.
use Rattle.std.proofs.Common.{◌≡◌, ℕ, Bool, true, false, ℤ, List, [], ◌∷◌, Option, None, Some, Result, Ok, Err, refl, sym, ap, ◌∙◌, true≢false}
use Rattle.std.specs.Prelude.{if◌then◌else◌, ◌==◌, ◌&&◌, ◌||◌, nat_lt, is_some}
use Rattle.std.specs.List.{list_any}
use Rattle.std.specs.Ordering.{int_eq}
use Rattle.std.proofs.lemmas.Bool.{false≢true}
use Rattle.desk_terms.specs.declared.terms.Terms.{Terms}
use Rattle.desk_terms.specs.declared.terms.Terms.TheVariants as terms
use Rattle.desk_terms.specs.Reading.{Calc}
use Rattle.desk_model.specs.Market.{terms_at}
use Rattle.desk_model.specs.State.{State, least_source, is_frozen, each_kept}
use Rattle.desk_model.specs.Told.{registered, is_watching, is_registered, tell}
use Rattle.desk_model.specs.Changeable.{Changeable, changeable}
use Rattle.desk_model.specs.Changeable.Changeable.{HasValue, HasTarget, HasFixings, HasParts, HasEngine, HasNone}
use Rattle.desk_model.specs.Visit.{stored, asked}
use Rattle.desk_model.specs.Recalc.{recalced, recalced_bare, inputs_walk}
use Rattle.desk_model.specs.Effect.{notified, notified_as, with_terms, revised, revised_unless, value_set, target_set, priced_by_engine, weight_set, fixing_stored, quote_set, relinked, engine_set, today_set, with_today, frozen_set, thawed, unfrozen, forward_set, deferred, resumed, all_told, member_set, fixing_added, registered_with, with_pair, made, watching}
use Rattle.session_commands.specs.declared.command.Command.{Command}
use Rattle.session_commands.specs.declared.command.Command.TheVariants as command
use Rattle.session_commands.specs.declared.refusal.Refusal.{Refusal}
use Rattle.session_commands.specs.declared.refusal.Refusal.TheVariants.{Cycle, Taken, TooMany, AlreadyRegistered}
use Rattle.session_model.specs.declared.act.Act.{Act}
use Rattle.session_model.specs.declared.act.Act.TheVariants as act
use Rattle.session_model.specs.declared.act.Change.{Change}
use Rattle.session_model.specs.declared.act.Change.TheVariants as change
use Rattle.session_model.specs.declared.act.Growth.{Growth}
use Rattle.session_model.specs.declared.act.Growth.TheVariants as growth
use Rattle.session_model.specs.declared.act.How.{How}
use Rattle.session_model.specs.declared.act.How.TheVariants as how
use Rattle.session_model.specs.declared.place.Place.TheVariants as place
use Rattle.session_model.specs.Change.{changed, grown}
use Rattle.session_model.specs.Pricing.{pricing_of}
use Rattle.session_model.specs.Standing.{Standing, is_full, object_named}
use Rattle.session_model.specs.Resolve.{find, with_found, unless, unless_kept, unless_late, unless_taken, rate_at, joins, closes, making, quote_input, member, curve, index, engine, target_of, handle_kind, engaging, combining, pairing, resolve}
use Rattle.session_model.specs.Resolve as resolved
use Rattle.session_model.specs.Turn.{step, effect_of, done_as, turn}
use Rattle.watch_rounds.specs.declared.rounds.DueWatcher.{DueWatcher}
use Rattle.watch_rounds.proofs.Places.{all_map}
use Rattle.session_rounds.specs.Fits.{AreWatching, may_idle}

-- both have the same registrations
abbrev Same : State → State → Type 0
Same s t = t.registrations ≡ s.registrations

-- whether a watcher is registered with anything
abbrev watched : List (ℕ × ℕ) → ℕ → Bool
watched pairs w = list_any (λ x. true) (registered pairs w)

same_watched : (s t : State) (w : ℕ) → Same s t → is_watching s w ≡ true → is_watching t w ≡ true
same_watched s t w same has = ap (λ (pairs : List (ℕ × ℕ)). watched pairs w) same ∙ has

pick : (b : Bool) (s t u : State) → Same s t → Same s u → Same s (if b then t else u)
pick true s t u first second = first
pick false s t u first second = second

notified_same : (x : ℕ) (s : State) → Same s (notified x s)
unfolding notified tell
notified_same x s = by s.deferring
  where
    by : (b : Bool) → Same s (notified_as b x s)
    by true = refl
    by false = refl

revised_same : (x : ℕ) (terms : Terms) (s : State) → Same s (revised x terms s)
unfolding revised
revised_same x terms s = notified_same x (with_terms x terms s)

unless_same : (b : Bool) (x : ℕ) (terms : Terms) (s : State) → Same s (revised_unless b x terms s)
unless_same true x terms s = refl
unless_same false x terms s = revised_same x terms s

value_same : (x : ℕ) (value : Option ℤ) (s : State) (c : Changeable) → Same s (value_set c x value s)
value_same x value s (HasValue held) = unless_same _ x _ s
value_same x value s (HasTarget kind held) = refl
value_same x value s (HasFixings terms fixings) = refl
value_same x value s (HasParts parts) = refl
value_same x value s (HasEngine flows held) = refl
value_same x value s HasNone = refl

target_same : (x : ℕ) (target : Option ℕ) (s : State) (c : Changeable) → Same s (target_set c x target s)
target_same x target s (HasValue held) = refl
target_same x target s (HasTarget kind held) = unless_same _ x _ s
target_same x target s (HasFixings terms fixings) = refl
target_same x target s (HasParts parts) = refl
target_same x target s (HasEngine flows held) = refl
target_same x target s HasNone = refl

engine_same : (x : ℕ) (by : Option ℕ) (s : State) (c : Changeable) → Same s (priced_by_engine c x by s)
engine_same x by s (HasValue held) = refl
engine_same x by s (HasTarget kind held) = refl
engine_same x by s (HasFixings terms fixings) = refl
engine_same x by s (HasParts parts) = refl
engine_same x by s (HasEngine flows held) = revised_same x _ s
engine_same x by s HasNone = refl

weight_same : (x i : ℕ) (weight : ℤ) (s : State) (c : Changeable) → Same s (weight_set c x i weight s)
weight_same x i weight s (HasValue held) = refl
weight_same x i weight s (HasTarget kind held) = refl
weight_same x i weight s (HasFixings terms fixings) = refl
weight_same x i weight s (HasParts parts) = unless_same _ x _ s
weight_same x i weight s (HasEngine flows held) = refl
weight_same x i weight s HasNone = refl

fixing_same : (x : ℕ) (day rate : ℤ) (s : State) (c : Changeable) → Same s (fixing_stored c x day rate s)
fixing_same x day rate s (HasValue held) = refl
fixing_same x day rate s (HasTarget kind held) = refl
fixing_same x day rate s (HasFixings terms fixings) = revised_same x _ s
fixing_same x day rate s (HasParts parts) = refl
fixing_same x day rate s (HasEngine flows held) = refl
fixing_same x day rate s HasNone = refl

-- a registration more takes none away
or_true : (b : Bool) → (b || true) ≡ true
or_true true = refl
or_true false = refl

watched_first : (pair : ℕ × ℕ) (pairs : List (ℕ × ℕ)) (w : ℕ) → watched (pair ∷ pairs) w ≡ ((pair.0 == w) || watched pairs w)
watched_first pair pairs w = by (pair.0 == w)
  where
    by : (b : Bool) → list_any (λ x. true) (if b then pair.1 ∷ registered pairs w else registered pairs w) ≡ (b || watched pairs w)
    by true = refl
    by false = refl

watched_more : (v o w : ℕ) (pairs : List (ℕ × ℕ)) → watched pairs w ≡ true → watched (with_pair v o pairs) w ≡ true
watched_more v o w [] has = absurd (false≢true has)
watched_more v o w (pair ∷ pairs) has =
    by (λ left. watched_more v o w pairs left) ((pair.0 == v) && (pair.1 == o)) (nat_lt v pair.0 || ((pair.0 == v) && nat_lt o pair.1))
  where
    rest : (watched pairs w ≡ true → watched (with_pair v o pairs) w ≡ true) → (b : Bool) → (pair.0 == w) ≡ b
        → (b || watched (with_pair v o pairs) w) ≡ true
    rest more true e = refl
    rest more false e = more (sym (ap (λ (b : Bool). b || watched pairs w) e) ∙ sym (watched_first pair pairs w) ∙ has)

    by : (watched pairs w ≡ true → watched (with_pair v o pairs) w ≡ true) → (a b : Bool)
        → watched (if a then pair ∷ pairs else if b then (v, o) ∷ pair ∷ pairs else pair ∷ with_pair v o pairs) w ≡ true
    by more true b = has
    by more false true = watched_first (v, o) (pair ∷ pairs) w ∙ ap (λ (b : Bool). (v == w) || b) has ∙ or_true (v == w)
    by more false false = watched_first pair (with_pair v o pairs) w ∙ rest more (pair.0 == w) refl

-- what takes registrations away
abbrev takes_change : Change → Bool
takes_change (change.Set q value) = false
takes_change (change.Link h target) = false
takes_change (change.Engine i by) = false
takes_change (change.Today day) = false
takes_change (change.Freeze x) = false
takes_change (change.Thaw x) = false
takes_change (change.Forward x is_on) = false
takes_change change.Defer = false
takes_change change.Resume = false
takes_change (change.Unregister v o) = true
takes_change (change.Drop x) = true

abbrev takes : Act → Bool
takes (act.Make name terms) = false
takes (act.Watch name action) = false
takes (act.Quiet c) = takes_change c
takes (act.Grow g) = false
takes (act.Price name object how) = false

changed_watched : (c : Change) (s : State) (w : ℕ) → takes_change c ≡ false → is_watching s w ≡ true → is_watching (changed c s) w ≡ true
unfolding changed quote_set relinked engine_set today_set frozen_set thawed forward_set deferred resumed tell
changed_watched (change.Set q value) s w e has =
    same_watched s (value_set (changeable (terms_at s.market q)) q value s) w (value_same q value s (changeable (terms_at s.market q))) has
changed_watched (change.Link h target) s w e has =
    same_watched s (target_set (changeable (terms_at s.market h)) h target s) w (target_same h target s (changeable (terms_at s.market h))) has
changed_watched (change.Engine i by) s w e has =
    same_watched s (priced_by_engine (changeable (terms_at s.market i)) i by s) w
    (engine_same i by s (changeable (terms_at s.market i))) has
changed_watched (change.Today day) s w e has =
    same_watched s (if int_eq s.market.today day then s else notified 0 (with_today day s)) w
    (pick (int_eq s.market.today day) s s (notified 0 (with_today day s)) refl (notified_same 0 (with_today day s))) has
changed_watched (change.Freeze x) s w e has = has
changed_watched (change.Thaw x) s w e has =
    same_watched s (if is_frozen s x then notified x (unfrozen x s) else s) w
    (pick (is_frozen s x) s (notified x (unfrozen x s)) s (notified_same x (unfrozen x s)) refl) has
changed_watched (change.Forward x is_on) s w e has = has
changed_watched change.Defer s w e has = has
changed_watched change.Resume s w e has =
    let free : State = record (all_told s) {
      deferring = false;
      kept = each_kept (λ o kept. record kept { source = false }) 0 (all_told s).kept;
    } in
    same_watched s (if s.deferring then free else s) w (pick s.deferring s free s refl refl) has
changed_watched (change.Unregister v o) s w e has = absurd (true≢false e)
changed_watched (change.Drop x) s w e has = absurd (true≢false e)

grown_watched : (g : Growth) (s : State) (w : ℕ) → is_watching s w ≡ true → is_watching (grown g s) w ≡ true
unfolding grown member_set fixing_added registered_with
grown_watched (growth.Member k i weight) s w has =
    same_watched s (weight_set (changeable (terms_at s.market k)) k i weight s) w (weight_same k i weight s (changeable (terms_at s.market k))) has
grown_watched (growth.Fixing x day rate) s w has =
    same_watched s (fixing_stored (changeable (terms_at s.market x)) x day rate s) w
    (fixing_same x day rate s (changeable (terms_at s.market x))) has
grown_watched (growth.Register v o) s w has = watched_more v o w s.registrations has

priced_watched : (calc : Calc) (o : ℕ) (s : State) (h : How) (w : ℕ) → is_watching s w ≡ true → is_watching (pricing_of calc o s h).next w ≡ true
unfolding asked stored recalced
priced_watched calc o s how.Ask w has = has
priced_watched calc o s (how.Df day) w has = has
priced_watched calc o s how.Recalc w has =
    same_watched s (notified o (recalced_bare calc o s (stored s (inputs_walk calc s o).calls))) w
    (notified_same o (recalced_bare calc o s (stored s (inputs_walk calc s o).calls))) has

step_watched : (calc : Calc) (s : State) (a : Act) (w : ℕ) → takes a ≡ false → is_watching s w ≡ true → is_watching (step calc s a) w ≡ true
unfolding step made watching
step_watched calc s (act.Make name terms) w e has = has
step_watched calc s (act.Watch name action) w e has = has
step_watched calc s (act.Quiet c) w e has = changed_watched c s w e has
step_watched calc s (act.Grow g) w e has = grown_watched g s w has
step_watched calc s (act.Price name o h) w e has = priced_watched calc o s h w has

-- what a command resolves to takes none away, or it is refused
abbrev Keeps : Result Act Refusal → Type 0
Keeps (Ok a) = takes a ≡ false
Keeps (Err refusal) = Unit {0}

keeps_found : (found : Result ℕ Refusal) (rest : ℕ → Result Act Refusal) → ((x : ℕ) → Keeps (rest x)) → Keeps (with_found found rest)
unfolding with_found
keeps_found (Ok x) rest keeps = keeps x
keeps_found (Err refusal) rest keeps = tt

keeps_unless : (b : Bool) (refusal : Refusal) (a : Act) → takes a ≡ false → Keeps (unless b refusal a)
unfolding unless
keeps_unless true refusal a e = tt
keeps_unless false refusal a e = e

keeps_kept : (rate : Option ℤ) (a : Act) → takes a ≡ false → Keeps (unless_kept rate a)
unfolding unless_kept
keeps_kept (Some rate) a e = tt
keeps_kept None a e = e

keeps_late : (source : Option ℕ) (a : Act) → takes a ≡ false → Keeps (unless_late source a)
unfolding unless_late
keeps_late (Some source) a e = tt
keeps_late None a e = e

keeps_taken : (p : Standing) (name : ℕ) (rest : Result Act Refusal) → Keeps rest → Keeps (unless_taken p name rest)
unfolding unless_taken
keeps_taken p name rest keeps = by (is_some (object_named p name))
  where
    by : (b : Bool) → Keeps (if b then Err (Taken name) else rest)
    by true = tt
    by false = keeps

keeps_making : (p : Standing) (name : ℕ) (t : Terms) → Keeps (making p name t)
keeps_making p name t = keeps_unless (is_full p.state.market) TooMany (act.Make name t) refl

keeps_combining : (p : Standing) (name : ℕ) (minus : Bool) (a b : ℕ) → Keeps (combining p name minus a b)
keeps_combining p name minus a b =
    keeps_found (find quote_input p a) (λ x. with_found (find quote_input p b) (λ y. making p name (terms.Derived minus x y)))
    (λ x. keeps_found (find quote_input p b) (λ y. making p name (terms.Derived minus x y))
    (λ y. keeps_making p name (terms.Derived minus x y)))

keeps_engaging : (p : Standing) (x : ℕ) (e : Option ℕ) → Keeps (engaging p x e)
keeps_engaging p x None = refl
keeps_engaging p x (Some e) = keeps_found (find engine p e) (λ y. Ok (act.Quiet (change.Engine x (Some y)))) (λ y. refl)

resolve_keeps : (p : Standing) (c : Command) → may_idle c ≡ false → Keeps (resolve p c)
unfolding resolve
resolve_keeps p (command.Quote name value) e =
    keeps_taken p name (making p name (terms.Quote value)) (keeps_making p name (terms.Quote value))
resolve_keeps p (command.Sum name a b) e = keeps_taken p name (combining p name false a b) (keeps_combining p name false a b)
resolve_keeps p (command.Difference name a b) e = keeps_taken p name (combining p name true a b) (keeps_combining p name true a b)
resolve_keeps p (command.Handle name is_curve) e =
    keeps_taken p name (making p name (terms.Handle (handle_kind is_curve) None)) (keeps_making p name (terms.Handle (handle_kind is_curve) None))
resolve_keeps p (command.Stock name q) e =
    keeps_taken p name (with_found (find quote_input p q) (λ x. making p name (terms.Stock x)))
    (keeps_found (find quote_input p q) (λ x. making p name (terms.Stock x)) (λ x. keeps_making p name (terms.Stock x)))
resolve_keeps p (command.Composite name) e =
    keeps_taken p name (making p name (terms.Composite [])) (keeps_making p name (terms.Composite []))
resolve_keeps p (command.Member k i weight) e =
    keeps_found (find place.Composite p k)
    (λ x. with_found (find member p i) (λ y. unless (joins weight p.state.market x y) Cycle (act.Grow (growth.Member x y weight))))
    (λ x. keeps_found (find member p i) (λ y. unless (joins weight p.state.market x y) Cycle (act.Grow (growth.Member x y weight)))
    (λ y. keeps_unless (joins weight p.state.market x y) Cycle (act.Grow (growth.Member x y weight)) refl))
resolve_keeps p (command.Set q value) e = keeps_found (find place.Quote p q) (λ x. Ok (act.Quiet (change.Set x (Some value)))) (λ x. refl)
resolve_keeps p (command.Unset q) e = keeps_found (find place.Quote p q) (λ x. Ok (act.Quiet (change.Set x None))) (λ x. refl)
resolve_keeps p (command.Link h t) e =
    keeps_found (find place.Handle p h)
    (λ x. with_found (find (target_of p.state.market x) p t)
    (λ y. unless (closes p.state.market x y) Cycle (act.Quiet (change.Link x (Some y)))))
    (λ x. keeps_found (find (target_of p.state.market x) p t)
    (λ y. unless (closes p.state.market x y) Cycle (act.Quiet (change.Link x (Some y))))
    (λ y. keeps_unless (closes p.state.market x y) Cycle (act.Quiet (change.Link x (Some y))) refl))
resolve_keeps p (command.Unlink h) e = keeps_found (find place.Handle p h) (λ x. Ok (act.Quiet (change.Link x None))) (λ x. refl)
resolve_keeps p (command.Engine i n) e = keeps_found (find place.Flows p i) (λ x. engaging p x n) (λ x. keeps_engaging p x n)
resolve_keeps p (command.Today day) e = refl
resolve_keeps p (command.Fixing x day rate) e =
    keeps_found (find index p x) (λ y. unless_kept (rate_at p.state.market y day) (act.Grow (growth.Fixing y day rate)))
    (λ y. keeps_kept (rate_at p.state.market y day) (act.Grow (growth.Fixing y day rate)) refl)
resolve_keeps p (command.Freeze o) e = keeps_found (find place.Priced p o) (λ x. Ok (act.Quiet (change.Freeze x))) (λ x. refl)
resolve_keeps p (command.Thaw o) e = keeps_found (find place.Priced p o) (λ x. Ok (act.Quiet (change.Thaw x))) (λ x. refl)
resolve_keeps p (command.Recalc o) e =
    keeps_found (find place.Priced p o) (λ x. unless_late (least_source p.state x) (act.Price o x how.Recalc))
    (λ x. keeps_late (least_source p.state x) (act.Price o x how.Recalc) refl)
resolve_keeps p (command.Forward o is_on) e =
    keeps_found (find place.Priced p o) (λ x. Ok (act.Quiet (change.Forward x is_on))) (λ x. refl)
resolve_keeps p command.Defer e = refl
resolve_keeps p command.Resume e = refl
resolve_keeps p (command.Watch w action) e =
    keeps_taken p w (resolved.watching p w action) (keeps_unless (is_full p.state.market) TooMany (act.Watch w action) refl)
resolve_keeps p (command.Register w o) e =
    keeps_found (find place.Watcher p w)
    (λ x. with_found (find place.Observable p o)
    (λ y. unless (is_registered p.state x y) AlreadyRegistered (act.Grow (growth.Register x y))))
    (λ x. keeps_found (find place.Observable p o)
    (λ y. unless (is_registered p.state x y) AlreadyRegistered (act.Grow (growth.Register x y)))
    (λ y. keeps_unless (is_registered p.state x y) AlreadyRegistered (act.Grow (growth.Register x y)) refl))
resolve_keeps p (command.Unregister w o) e = absurd (true≢false e)
resolve_keeps p (command.Drop o) e = absurd (true≢false e)
resolve_keeps p (command.Ask o) e = keeps_found (find place.Priced p o) (λ x. Ok (act.Price o x how.Ask)) (λ x. refl)
resolve_keeps p (command.Df k day) e = keeps_found (find curve p k) (λ x. Ok (act.Price k x (how.Df day))) (λ x. refl)

-- A WATCHER THAT HAS A REGISTRATION keeps one through a command that takes none away
acted_watched : (calc : Calc) (p : Standing) (c : Command) (w : ℕ) → may_idle c ≡ false → is_watching p.state w ≡ true
    → is_watching (turn calc p c).next.state w ≡ true
unfolding turn effect_of
acted_watched calc p c w e has = by (resolve p c) (resolve_keeps p c e)
  where
    by : (found : Result Act Refusal) → Keeps found → is_watching (done_as calc p c found).next.state w ≡ true
    by (Err refusal) keeps = has
    by (Ok a) keeps = step_watched calc p.state a w keeps has

pub due_watched : (calc : Calc) (p : Standing) (c : Command) (due : List DueWatcher) → may_idle c ≡ false → AreWatching p.state due
    → AreWatching (turn calc p c).next.state due
due_watched calc p c due e all =
    all_map (λ one. is_watching p.state one.watcher ≡ true) (λ one. is_watching (turn calc p c).next.state one.watcher ≡ true)
    (λ one has. acted_watched calc p c one.watcher e has) due all
