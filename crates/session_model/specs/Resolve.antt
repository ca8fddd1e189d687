-- What a command is once its names are looked up, or why it is refused (this project's profile). The first reason in
-- this order: its new name is taken; another name, in the order in which they are written, is unknown or of another
-- kind; it closes a cycle, the object is in use, a rate is stored already, the watcher is registered already or is not,
-- or the object is late; there is no room.
use Rattle.std.specs.Prelude.{ℕ, Bool, true, false, not, ◌&&◌, ◌||◌, ◌==◌, if◌then◌else◌, [], Option, Some, None, is_some, Result, Ok, Err, ℤ, pos}
use Rattle.std.specs.Ordering.{int_eq}
use Rattle.desk_terms.specs.declared.terms.Terms.{Terms}
use Rattle.desk_terms.specs.declared.terms.Terms.TheVariants as terms
use Rattle.desk_terms.specs.declared.terms.HandleKind as handle
use Rattle.desk_terms.specs.declared.kind.Wanted.TheVariants as wanted
use Rattle.flow_terms.specs.Fixings.{fixing_on}
use Rattle.desk_model.specs.Market.{Market, kind_at, least_user}
use Rattle.desk_model.specs.Uses.{index_at, fixings_in}
use Rattle.desk_model.specs.Links.{reaches}
use Rattle.desk_model.specs.State.{least_source}
use Rattle.desk_model.specs.Told.{is_registered}
use Rattle.session_commands.specs.declared.command.Command.{Command}
use Rattle.session_commands.specs.declared.command.Command.TheVariants as command
use Rattle.session_commands.specs.declared.refusal.Refusal.{Refusal}
use Rattle.session_commands.specs.declared.refusal.Refusal.TheVariants.{Unknown, Taken, Kind, Cycle, InUse, FixingExists, TooMany, AlreadyRegistered, NotRegistered, Deferred}
use Rattle.session_model.specs.declared.act.Act.{Act}
use Rattle.session_model.specs.declared.act.Act.TheVariants as act
use Rattle.session_model.specs.declared.act.Change.TheVariants as change
use Rattle.session_model.specs.declared.act.Growth.TheVariants as growth
use Rattle.session_model.specs.declared.act.How.TheVariants as how
use Rattle.session_model.specs.declared.place.Place.{Place}
use Rattle.session_model.specs.declared.place.Place.TheVariants as place
use Rattle.session_model.specs.Place.{takes_found}
use Rattle.session_model.specs.Standing.{Standing, object_named, is_full}

-- a name is found, or refused
abbrev pub object_or_refusal : Place → Market → ℕ → Option ℕ → Result ℕ Refusal
object_or_refusal p market name None = Err (Unknown name)
object_or_refusal p market name (Some o) = if takes_found p (kind_at market o) then Ok o else Err (Kind name)

unfoldable pub find : Place → Standing → ℕ → Result ℕ Refusal
find p standing name = object_or_refusal p standing.state.market name (object_named standing name)

unfoldable pub with_found : Result ℕ Refusal → (ℕ → Result Act Refusal) → Result Act Refusal
with_found (Ok o) rest = rest o
with_found (Err refusal) rest = Err refusal

-- what refuses after the names
unfoldable pub unless : Bool → Refusal → Act → Result Act Refusal
unless is_refused refusal a = if is_refused then Err refusal else Ok a

unfoldable pub unless_used : Option ℕ → Act → Result Act Refusal
unless_used (Some user) a = Err (InUse user)
unless_used None a = Ok a

unfoldable pub unless_kept : Option ℤ → Act → Result Act Refusal
unless_kept (Some rate) a = Err (FixingExists rate)
unless_kept None a = Ok a

unfoldable pub unless_late : Option ℕ → Act → Result Act Refusal
unless_late (Some source) a = Err (Deferred source)
unless_late None a = Ok a

-- whether an edge from the holder to the target would close a cycle
abbrev pub closes : Market → ℕ → ℕ → Bool
closes market holder target = (target == holder) || reaches market target holder

-- a weight of 0 brings no member
abbrev pub joins : ℤ → Market → ℕ → ℕ → Bool
joins weight market holder target = not (int_eq weight (pos 0)) && closes market holder target

-- the rate that an index has stored for a day
abbrev pub rate_at : Market → ℕ → ℤ → Option ℤ
rate_at market index day = fixing_on (fixings_in (index_at market (Some index))) day

-- a new object needs room, and a name that no live object has
abbrev pub making : Standing → ℕ → Terms → Result Act Refusal
making p name t = unless (is_full p.state.market) TooMany (act.Make name t)

unfoldable pub unless_taken : Standing → ℕ → Result Act Refusal → Result Act Refusal
unless_taken p name rest = if is_some (object_named p name) then Err (Taken name) else rest

abbrev pub quote_input : Place
quote_input = place.Input wanted.QuoteInput

abbrev pub member : Place
member = place.Input wanted.Member

-- a curve or an implied curve
abbrev pub curve : Place
curve = place.Input wanted.CurveTarget

abbrev pub index : Place
index = place.Input wanted.Index

abbrev pub engine : Place
engine = place.Input wanted.Engine

-- what a handle may be linked to: a handle that stands for curves to a curve or an implied curve, one that stands for
-- quotes to a quote, a sum or a difference
abbrev pub target_of : Market → ℕ → Place
target_of market handle =
    if takes_found (place.Input wanted.CurveInput) (kind_at market handle)
    then place.Input wanted.CurveTarget
    else place.Input wanted.QuoteTarget

abbrev pub handle_kind : Bool → handle.HandleKind
handle_kind true = handle.TheVariants.Curve
handle_kind false = handle.TheVariants.Quote

-- an instrument with an engine, or with none
abbrev pub engaging : Standing → ℕ → Option ℕ → Result Act Refusal
engaging p x None = Ok (act.Quiet (change.Engine x None))
engaging p x (Some e) = with_found (find engine p e) (λ y. Ok (act.Quiet (change.Engine x (Some y))))

-- two inputs that give rates
abbrev pub combining : Standing → ℕ → Bool → ℕ → ℕ → Result Act Refusal
combining p name minus a b =
    with_found (find quote_input p a)
    (λ x. with_found (find quote_input p b) (λ y. making p name (terms.Derived minus x y)))

-- a new watcher needs room
abbrev pub watching : Standing → ℕ → ℕ → Result Act Refusal
watching p name action = unless (is_full p.state.market) TooMany (act.Watch name action)

-- a watcher and an object that it may watch
abbrev pub pairing : Standing → ℕ → ℕ → (ℕ → ℕ → Result Act Refusal) → Result Act Refusal
pairing p w o rest = with_found (find place.Watcher p w) (λ x. with_found (find place.Observable p o) (λ y. rest x y))

unfoldable pub resolve : Standing → Command → Result Act Refusal
resolve p (command.Quote name value) = unless_taken p name (making p name (terms.Quote value))
resolve p (command.Sum name a b) = unless_taken p name (combining p name false a b)
resolve p (command.Difference name a b) = unless_taken p name (combining p name true a b)
resolve p (command.Handle name is_curve) = unless_taken p name (making p name (terms.Handle (handle_kind is_curve) None))
resolve p (command.Stock name q) =
    unless_taken p name (with_found (find quote_input p q) (λ x. making p name (terms.Stock x)))
resolve p (command.Composite name) = unless_taken p name (making p name (terms.Composite []))
resolve p (command.Member k i weight) =
    with_found (find place.Composite p k)
    (λ x. with_found (find member p i) (λ y. unless (joins weight p.state.market x y) Cycle (act.Grow (growth.Member x y weight))))
resolve p (command.Set q value) = with_found (find place.Quote p q) (λ x. Ok (act.Quiet (change.Set x (Some value))))
resolve p (command.Unset q) = with_found (find place.Quote p q) (λ x. Ok (act.Quiet (change.Set x None)))
resolve p (command.Link h t) =
    with_found (find place.Handle p h)
    (λ x. with_found (find (target_of p.state.market x) p t)
    (λ y. unless (closes p.state.market x y) Cycle (act.Quiet (change.Link x (Some y)))))
resolve p (command.Unlink h) = with_found (find place.Handle p h) (λ x. Ok (act.Quiet (change.Link x None)))
resolve p (command.Engine i e) = with_found (find place.Flows p i) (λ x. engaging p x e)
resolve p (command.Today day) = Ok (act.Quiet (change.Today day))
resolve p (command.Fixing x day rate) =
    with_found (find index p x) (λ y. unless_kept (rate_at p.state.market y day) (act.Grow (growth.Fixing y day rate)))
resolve p (command.Freeze o) = with_found (find place.Priced p o) (λ x. Ok (act.Quiet (change.Freeze x)))
resolve p (command.Thaw o) = with_found (find place.Priced p o) (λ x. Ok (act.Quiet (change.Thaw x)))
resolve p (command.Recalc o) =
    with_found (find place.Priced p o) (λ x. unless_late (least_source p.state x) (act.Price o x how.Recalc))
resolve p (command.Forward o is_on) = with_found (find place.Priced p o) (λ x. Ok (act.Quiet (change.Forward x is_on)))
resolve p command.Defer = Ok (act.Quiet change.Defer)
resolve p command.Resume = Ok (act.Quiet change.Resume)
resolve p (command.Watch w action) = unless_taken p w (watching p w action)
resolve p (command.Register w o) =
    pairing p w o (λ x y. unless (is_registered p.state x y) AlreadyRegistered (act.Grow (growth.Register x y)))
resolve p (command.Unregister w o) =
    pairing p w o (λ x y. unless (not (is_registered p.state x y)) NotRegistered (act.Quiet (change.Unregister x y)))
resolve p (command.Drop o) =
    with_found (find place.Droppable p o) (λ x. unless_used (least_user p.state.market x) (act.Quiet (change.Drop x)))
resolve p (command.Ask o) = with_found (find place.Priced p o) (λ x. Ok (act.Price o x how.Ask))
resolve p (command.Df c day) = with_found (find curve p c) (λ x. Ok (act.Price c x (how.Df day)))
