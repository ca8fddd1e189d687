-- What holds of a session with watchers stays where it grows.
use Rattle.std.proofs.Common.{◌≡◌, inl, inr, ℕ, ◌+◌, ◌<◌, ◌≤◌, true, List, [], ◌∷◌, length, Option, Some, None, sym, ◌∙◌, ap, subst, arith}
use Rattle.std.specs.Prelude.{All, Result, Ok, Err, OnOk, OnErr}
use Rattle.std.proofs.lemmas.Bool.{cases_lt, false≢true}
use Rattle.std.proofs.lemmas.List.{length-append, get_or_append_left, get_or_past}
use Rattle.std.proofs.lemmas.List.Elements.{All-weaker, All-push}
use Rattle.desk_terms.specs.declared.terms.Terms.{Terms}
use Rattle.desk_model.specs.declared.slot.Slot.TheVariants.{Free, Live}
use Rattle.desk_model.specs.Market.{Market, slot_at, is_watcher}
use Rattle.desk_model.specs.Effect.{made}
use Rattle.session_commands.specs.declared.command.Command.{Command}
use Rattle.session_commands.specs.declared.field.Field.{Field}
use Rattle.session_commands.specs.declared.field.Field.TheVariants.{Nothing, Name, Value, Number, Day, Weight, Engine, Flag, Action}
use Rattle.session_commands.specs.declared.table.Kind.{Kind}
use Rattle.session_commands.specs.Table.{row_of}
use Rattle.session_commands.specs.Parts.{parts_of}
use Rattle.session_commands.specs.Whole as whole
use Rattle.watch_rounds.specs.Round.{blank}
use Rattle.watch_rounds.proofs.Places.{all_map}
use Rattle.session_model.specs.Standing.{Standing, IsKnown}
use Rattle.session_model.specs.Course.{Running}
use Rattle.session_model.specs.Growing.{learn, with_action}
use Rattle.session_model.specs.Grown.{learn_in}
use Rattle.session_core.specs.Steps.{with_object}
use Rattle.session_core.specs.Watchers.{AreWatchers}
use Rattle.session_rounds.specs.Fits.{Fits, IsDueOf}

engine_more : (n m : ℕ) → n ≤ m → (engine : Option ℕ) → whole.IsEngine n engine → whole.IsEngine m engine
engine_more n m le None known = tt
engine_more n m le (Some name) known = omega (arith, le, known)

-- what a field holds is among more names and actions too
field_more : (n m a b : ℕ) → n ≤ m → a ≤ b → (k : Kind) (field : Field) → whole.Fits n a k field → whole.Fits m b k field
field_more n m a b names actions k Nothing fits = tt
field_more n m a b names actions k (Name name) fits = omega (arith, names, fits)
field_more n m a b names actions k (Value value) fits = fits
field_more n m a b names actions k (Number units) fits = fits
field_more n m a b names actions k (Day day) fits = fits
field_more n m a b names actions k (Weight weight) fits = fits
field_more n m a b names actions k (Engine engine) fits = engine_more n m names engine fits
field_more n m a b names actions k (Flag flag) fits = tt
field_more n m a b names actions k (Action action) fits = omega (arith, actions, fits)

command_more : (n m a b : ℕ) → n ≤ m → a ≤ b → (c : Command) → whole.IsCommand n a c → whole.IsCommand m b c
unfolding whole.IsCommand
command_more n m a b names actions c known = record {
  first = field_more n m a b names actions (row_of (parts_of c).verb).first (parts_of c).first known.first;
  second = field_more n m a b names actions (row_of (parts_of c).verb).second (parts_of c).second known.second;
  third = field_more n m a b names actions (row_of (parts_of c).verb).third (parts_of c).third known.third;
}

-- blocks are known to a session that has more names and actions
blocks_more : (p q : Standing) → length p.names ≤ length q.names → length p.actions ≤ length q.actions → (blocks : List (List Command))
    → All (λ commands. All (IsKnown p) commands) blocks → All (λ commands. All (IsKnown q) commands) blocks
blocks_more p q names actions blocks known = All-weaker (λ commands. All (IsKnown p) commands) (λ commands. All (IsKnown q) commands)
    (λ commands all. All-weaker (IsKnown p) (IsKnown q)
    (λ c one. command_more (length p.names) (length q.names) (length p.actions) (length q.actions) names actions c one) commands all)
    blocks known

-- a name more
pub fits_learnt : {P : Type 0} → (r : Running P) (nodes : ℕ) (text : List ℕ) → Fits P r nodes → Fits P (learn_in text r) nodes
fits_learnt r nodes text fits =
    let names = length-append r.standing.names (text ∷ []) in
    record {
      counted = let same = fits.counted in omega (arith, same, names, length-append r.round.tallies (blank ∷ []));
      room = fits.room;
      spare = fits.spare;
      due = fits.due;
      known = blocks_more r.standing (learn text r.standing) (omega (arith, names)) (omega arith) r.standing.actions fits.known;
    }

-- an action more, whose commands may name it
pub fits_acting : {P : Type 0} → (r : Running P) (nodes : ℕ) (block : List Command) → Fits P r nodes
    → All (IsKnown (with_action block r.standing)) block
    → Fits P (record r { standing = with_action block r.standing }) nodes
fits_acting r nodes block fits known = record {
  counted = fits.counted;
  room = fits.room;
  spare = fits.spare;
  due = fits.due;
  known = All-push (λ commands. All (IsKnown (with_action block r.standing)) commands) r.standing.actions block
      (blocks_more r.standing (with_action block r.standing) (omega arith)
      (omega (arith, length-append r.standing.actions (block ∷ []))) r.standing.actions fits.known)
      known;
}

watcher_within : (m : Market) (w : ℕ) → is_watcher (slot_at m w) ≡ true → w < length m.objects
watcher_within m w is = elim (cases_lt w (length m.objects)) [
  | inl within ↦ within
  | inr past ↦ absurd (false≢true (sym (ap is_watcher (get_or_past m.objects w Free past)) ∙ is))
]

-- an object more, for which there is room
pub fits_made : {P : Type 0} → (r : Running P) (nodes more name : ℕ) (terms : Terms) → Fits P r nodes → AreWatchers r.standing
    → length r.standing.of_object + 2 ≤ more → Fits P (record r { standing = with_object name terms r.standing }) more
unfolding made
fits_made r nodes more name terms fits are room =
    let long = length-append r.standing.of_object (name ∷ []) in
    record {
      counted = fits.counted;
      room = omega (arith, long, room);
      spare = λ running. omega (arith, long, room);
      due = all_map (IsDueOf r.standing) (IsDueOf (with_object name terms r.standing))
          (λ one is. (
            ap is_watcher (get_or_append_left r.standing.state.market.objects (Live terms ∷ []) Free one.watcher
                (watcher_within r.standing.state.market one.watcher is.0)) ∙ is.0,
            is.1 ∙ sym (get_or_append_left r.standing.of_object (name ∷ []) 0 one.watcher (are one.watcher is.0).listed),
          )) r.round.due fits.due;
      known = fits.known;
    }

module _ {P A E : Type 0} (r : Running P) (nodes : ℕ) (new : Standing) (result : Result A E) (fits : Fits P r nodes) where
  -- an action is added, or none
  pub fits_added : (block : List Command) → All (IsKnown (with_action block r.standing)) block
      → OnOk result (new ≡ with_action block r.standing) → OnErr result (new ≡ r.standing)
      → Fits P (record r { standing = new }) nodes
  fits_added block known added same = by result added same
    where
      by : (any : Result A E) → OnOk any (new ≡ with_action block r.standing) → OnErr any (new ≡ r.standing)
          → Fits P (record r { standing = new }) nodes
      by (Ok action) added same =
          subst (λ (p : Standing). Fits P (record r { standing = p }) nodes) (sym added) (fits_acting r nodes block fits known)
      by (Err fault) added same = subst (λ (p : Standing). Fits P (record r { standing = p }) nodes) (sym same) fits

  -- an object is made, or none; there is room for the one behind it
  pub fits_making : (more name : ℕ) (terms : Terms) → AreWatchers r.standing → nodes ≤ more → length r.standing.of_object + 2 ≤ more
      → OnOk result (new ≡ with_object name terms r.standing) → OnErr result (new ≡ r.standing)
      → Fits P (record r { standing = new }) more
  fits_making more name terms are le room made same = by result made same
    where
      roomier : Fits P r more
      roomier = record {
        counted = fits.counted;
        room = let low = fits.room in omega (arith, low, le);
        spare = λ running. let low = fits.spare running in omega (arith, low, le);
        due = fits.due;
        known = fits.known;
      }

      by : (any : Result A E) → OnOk any (new ≡ with_object name terms r.standing) → OnErr any (new ≡ r.standing)
          → Fits P (record r { standing = new }) more
      by (Ok object) made same = subst (λ (p : Standing). Fits P (record r { standing = p }) more) (sym made)
          (fits_made r nodes more name terms fits are room)
      by (Err fault) made same = subst (λ (p : Standing). Fits P (record r { standing = p }) more) (sym same) roomier
