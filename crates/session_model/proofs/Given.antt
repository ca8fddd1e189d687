-- Each live watcher of a session has a name that its script gives to watchers, and that no other live watcher has.
use Rattle.std.proofs.Common.{◌≡◌, inl, inr, ℕ, zero, suc, ◌+◌, ◌<◌, Bool, true, false, ℤ, List, [], ◌∷◌, ◌++◌, length, get_or, Option, Some, None, Result, Ok, Err, refl, sym, ◌∙◌, ap, subst, arith}
use Rattle.std.specs.Prelude.{◌⊎◌, ◌&&◌, ◌==◌, if◌then◌else◌, is_some, IfOk}
use Rattle.std.proofs.lemmas.Bool.{cases_lt, eq-eqb, false≢true}
use Rattle.std.proofs.lemmas.List.{get_or_past, length-append}
use Rattle.walks.specs.Walk.{Among}
use Rattle.desk_terms.specs.declared.terms.Terms.{Terms}
use Rattle.desk_terms.specs.declared.terms.Terms.TheVariants as terms
use Rattle.desk_terms.specs.Reading.{Calc}
use Rattle.desk_model.specs.declared.slot.Slot.{Slot}
use Rattle.desk_model.specs.declared.slot.Slot.TheVariants.{Free, Today, Watcher, Live}
use Rattle.desk_model.specs.Market.{Market, slot_at, is_watcher, is_given}
use Rattle.desk_model.specs.State.{State}
use Rattle.desk_model.specs.Effect.{added, made, watching}
use Rattle.session_commands.specs.declared.command.Command.{Command}
use Rattle.session_commands.specs.declared.command.Command.TheVariants as command
use Rattle.session_commands.specs.declared.refusal.Refusal.{Refusal}
use Rattle.session_commands.specs.declared.refusal.Refusal.TheVariants as refusal
use Rattle.session_commands.specs.Parts.{parts_of}
use Rattle.session_commands.specs.Table.{row_of}
use Rattle.session_commands.specs.Whole.{IsCommand}
use Rattle.session_model.specs.declared.act.Act.{Act}
use Rattle.session_model.specs.declared.act.Act.TheVariants as act
use Rattle.session_model.specs.declared.act.Change.TheVariants as change
use Rattle.session_model.specs.declared.act.Growth.TheVariants as growth
use Rattle.session_model.specs.declared.act.How.TheVariants as how
use Rattle.session_model.specs.Standing.{Standing, name_of, named_from, object_named, is_full}
use Rattle.session_model.specs.Resolve.{with_found, unless, unless_used, unless_kept, unless_late, unless_taken, engaging, making, combining, handle_kind, resolve}
use Rattle.session_model.specs.Turn.{step, effect_of, done_as, turn}
use Rattle.session_model.specs.Ends.{watcher_names}
use Rattle.session_model.proofs.Live.{IsShaped, changed_shaped, grown_shaped, priced_shaped, named_more}

-- each object has a name; of the live watchers these names are among n and among those that are given, each with one of its own
pub record AreGiven (given : List ℕ) (n : ℕ) (p : Standing) : Type 0 where
  pub size : length p.of_object ≡ length p.state.market.objects
  pub named : (w : ℕ) → is_watcher (slot_at p.state.market w) ≡ true → (name_of p w < n) × Among (name_of p w) given
  pub alone : (v w : ℕ) → is_watcher (slot_at p.state.market v) ≡ true → is_watcher (slot_at p.state.market w) ≡ true
      → name_of p v ≡ name_of p w → v ≡ w

-- a command of so many names and actions that gives such names alone
pub record IsOf (given : List ℕ) (n a : ℕ) (c : Command) : Type 0 where
  pub known : IsCommand n a c
  pub gives : (name : ℕ) → Among name (watcher_names c) → Among name given

-- a watcher has a number
pub watcher_low : (m : Market) (w : ℕ) → is_watcher (slot_at m w) ≡ true → w < length m.objects
watcher_low m w is = elim (cases_lt w (length m.objects)) [
  | inl low ↦ low
  | inr past ↦ absurd (false≢true (sym (ap is_watcher (get_or_past m.objects w Free past)) ∙ is))
]

watcher_given : (slot : Slot) → is_watcher slot ≡ true → is_given slot ≡ true
watcher_given Free e = absurd (false≢true e)
watcher_given Today e = absurd (false≢true e)
watcher_given Watcher e = refl
watcher_given (Live terms) e = absurd (false≢true e)

-- where no object is found under a name, no live one has it
unnamed : (m : Market) (name o : ℕ) (others : List ℕ) → named_from m name o others ≡ None → (k : ℕ) → k < length others
    → get_or others k 0 ≡ name → is_given (slot_at m (o + k)) ≡ true → ⊥
unfolding named_from
unnamed m name o [] none k low named given = omega (arith, low)
unnamed m name o (other ∷ others) none k low named given =
    by ((other == name) && is_given (slot_at m o)) refl (λ later. unnamed m name (o + 1) others later) none k low named given
  where
    at : (x y : ℕ) → y ≡ x → is_given (slot_at m x) ≡ true → is_given (slot_at m y) ≡ true
    at x y same is = subst (λ (z : ℕ). is_given (slot_at m z) ≡ true) (sym same) is

    by : (b : Bool) → ((other == name) && is_given (slot_at m o)) ≡ b
        → (named_from m name (o + 1) others ≡ None → (k : ℕ) → k < length others → get_or others k 0 ≡ name
        → is_given (slot_at m ((o + 1) + k)) ≡ true → ⊥)
        → (if b then Some o else named_from m name (o + 1) others) ≡ None → (k : ℕ) → k < length (other ∷ others)
        → get_or (other ∷ others) k 0 ≡ name → is_given (slot_at m (o + k)) ≡ true → ⊥
    by true both later none k low named given = absurd (cc)
    by false both later none zero low named given =
        let here : is_given (slot_at m o) ≡ true = at (o + 0) o (omega arith) given in
        let is : ((other == name) && is_given (slot_at m o)) ≡ true = rw (eq-eqb other name named, here) refl in
        false≢true (sym both ∙ is)
    by false both later none (suc k) low named given =
        later none k (omega (arith, low)) named (at (o + suc k) ((o + 1) + k) (omega arith) given)

none_at : (w : ℕ) → is_watcher (get_or [] w Free) ≡ true → ⊥
none_at zero e = false≢true e
none_at (suc w) e = false≢true e

-- what stands behind one more
pub added_was : (slots : List Slot) (slot : Slot) (w : ℕ) → is_watcher (get_or (slots ++ slot ∷ []) w Free) ≡ true
    → (is_watcher (get_or slots w Free) ≡ true) ⊎ ((w ≡ length slots) × (is_watcher slot ≡ true))
added_was [] slot zero is = inr (refl, is)
added_was [] slot (suc w) is = absurd (none_at w is)
added_was (first ∷ slots) slot zero is = inl is
added_was (first ∷ slots) slot (suc w) is = elim (added_was slots slot w is) [
  | inl was ↦ inl was
  | inr new ↦ inr (ap suc new.0, new.1)
]

named_last : (names : List ℕ) (name : ℕ) → get_or (names ++ name ∷ []) (length names) 0 ≡ name
named_last [] name = refl
named_last (first ∷ names) name = named_last names name

module _ (given : List ℕ) (n a : ℕ) (p : Standing) where
  -- what a watcher that is made needs
  abbrev IsFree : Act → Type 0
  IsFree (act.Make name terms) = Unit {0}
  IsFree (act.Watch name action) = (name < n) × Among name given × (object_named p name ≡ None)
  IsFree (act.Quiet c) = Unit {0}
  IsFree (act.Grow g) = Unit {0}
  IsFree (act.Price name o h) = Unit {0}

  abbrev AllFree : Result Act Refusal → Type 0
  AllFree r = IfOk r IsFree

  found : (r : Result ℕ Refusal) (rest : ℕ → Result Act Refusal) → ((o : ℕ) → AllFree (rest o)) → AllFree (with_found r rest)
  unfolding with_found
  found (Ok o) rest all = all o
  found (Err why) rest all = tt

  untaken : (name : ℕ) (rest : Result Act Refusal) → (object_named p name ≡ None → AllFree rest) → AllFree (unless_taken p name rest)
  unfolding unless_taken
  untaken name rest all = by (object_named p name) refl
    where
      by : (r : Option ℕ) → object_named p name ≡ r → AllFree (if is_some r then Err (refusal.Taken name) else rest)
      by None e = all e
      by (Some o) e = tt

  unless_free : (b : Bool) (why : Refusal) (x : Act) → IsFree x → AllFree (unless b why x)
  unfolding unless
  unless_free true why x is = tt
  unless_free false why x is = is

  kept_free : (rate : Option ℤ) (x : Act) → IsFree x → AllFree (unless_kept rate x)
  unfolding unless_kept
  kept_free None x is = is
  kept_free (Some rate) x is = tt

  used_free : (user : Option ℕ) (x : Act) → IsFree x → AllFree (unless_used user x)
  unfolding unless_used
  used_free None x is = is
  used_free (Some user) x is = tt

  late_free : (source : Option ℕ) (x : Act) → IsFree x → AllFree (unless_late source x)
  unfolding unless_late
  late_free None x is = is
  late_free (Some source) x is = tt

  makes : (name : ℕ) (t : Terms) → AllFree (making p name t)
  makes name t = unless_free (is_full p.state.market) refusal.TooMany (act.Make name t) tt

  combines : (name : ℕ) (minus : Bool) (x y : ℕ) → AllFree (combining p name minus x y)
  combines name minus x y = found _ _ (λ v. found _ _ (λ w. makes name (terms.Derived minus v w)))

  engages : (x : ℕ) (e : Option ℕ) → AllFree (engaging p x e)
  engages x None = tt
  engages x (Some e) = found _ _ (λ y. tt)

  -- a watcher is made under a name that is given, and that no live object has
  all_free : (c : Command) → IsOf given n a c → AllFree (resolve p c)
  unfolding resolve IsCommand parts_of row_of
  all_free (command.Quote name value) is = untaken name _ (λ free. makes name (terms.Quote value))
  all_free (command.Sum name x y) is = untaken name _ (λ free. combines name false x y)
  all_free (command.Difference name x y) is = untaken name _ (λ free. combines name true x y)
  all_free (command.Handle name is_curve) is = untaken name _ (λ free. makes name (terms.Handle (handle_kind is_curve) None))
  all_free (command.Stock name q) is = untaken name _ (λ free. found _ _ (λ x. makes name (terms.Stock x)))
  all_free (command.Composite name) is = untaken name _ (λ free. makes name (terms.Composite []))
  all_free (command.Member k i weight) is =
      found _ _ (λ x. found _ _ (λ y. unless_free _ refusal.Cycle (act.Grow (growth.Member x y weight)) tt))
  all_free (command.Set q value) is = found _ _ (λ x. tt)
  all_free (command.Unset q) is = found _ _ (λ x. tt)
  all_free (command.Link h t) is =
      found _ _ (λ x. found _ _ (λ y. unless_free _ refusal.Cycle (act.Quiet (change.Link x (Some y))) tt))
  all_free (command.Unlink h) is = found _ _ (λ x. tt)
  all_free (command.Engine i e) is = found _ _ (λ x. engages x e)
  all_free (command.Today day) is = tt
  all_free (command.Fixing x day rate) is = found _ _ (λ y. kept_free _ (act.Grow (growth.Fixing y day rate)) tt)
  all_free (command.Freeze o) is = found _ _ (λ x. tt)
  all_free (command.Thaw o) is = found _ _ (λ x. tt)
  all_free (command.Recalc o) is = found _ _ (λ x. late_free _ (act.Price o x how.Recalc) tt)
  all_free (command.Forward o is_on) is = found _ _ (λ x. tt)
  all_free command.Defer is = tt
  all_free command.Resume is = tt
  all_free (command.Watch w action) is = untaken w _ (λ free.
      unless_free (is_full p.state.market) refusal.TooMany (act.Watch w action) (is.known.first, is.gives w (inl refl), free))
  all_free (command.Register w o) is =
      found _ _ (λ x. found _ _ (λ y. unless_free _ refusal.AlreadyRegistered (act.Grow (growth.Register x y)) tt))
  all_free (command.Unregister w o) is =
      found _ _ (λ x. found _ _ (λ y. unless_free _ refusal.NotRegistered (act.Quiet (change.Unregister x y)) tt))
  all_free (command.Drop o) is = found _ _ (λ x. used_free _ (act.Quiet (change.Drop x)) tt)
  all_free (command.Ask o) is = found _ _ (λ x. tt)
  all_free (command.Df c day) is = found _ _ (λ x. tt)

  module _ (are : AreGiven given n p) where
    given_shaped : (t : State) → IsShaped p.state t → AreGiven given n (record p { state = t })
    given_shaped t shaped = record {
      size = are.size ∙ sym shaped.size;
      named = λ w is. are.named w (shaped.fewer w is);
      alone = λ v w one other same. are.alone v w (shaped.fewer v one) (shaped.fewer w other) same;
    }

    -- one object more
    given_added : (name : ℕ) (slot : Slot) (actions : List (Option ℕ))
        → (is_watcher slot ≡ true → (name < n) × Among name given × (object_named p name ≡ None))
        → AreGiven given n (record p { state = added slot p.state; of_object = p.of_object ++ name ∷ []; watching = actions })
    given_added name slot actions free = record {
      size = let first = length-append p.of_object (name ∷ []) in let second = length-append p.state.market.objects (slot ∷ []) in
          let size = are.size in omega arith;
      named = λ w is. elim (added_was p.state.market.objects slot w is) [
        | inl was ↦ subst (λ (x : ℕ). (x < n) × Among x given) (sym (old w was)) (are.named w was)
        | inr new ↦ let is = free new.1 in subst (λ (x : ℕ). (x < n) × Among x given) (sym (last w new.0)) (is.0, is.1)
      ];
      alone = λ v w one other same. elim (added_was p.state.market.objects slot v one) [
        | inl was ↦ elim (added_was p.state.market.objects slot w other) [
          | inl too ↦ are.alone v w was too (sym (old v was) ∙ same ∙ old w too)
          | inr new ↦ absurd (apart v was (free new.1).2 (sym (old v was) ∙ same ∙ last w new.0))
        ]
        | inr first ↦ elim (added_was p.state.market.objects slot w other) [
          | inl too ↦ absurd (apart w too (free first.1).2 (sym (old w too) ∙ sym same ∙ last v first.0))
          | inr new ↦ first.0 ∙ sym new.0
        ]
      ];
    }
      where
        low : (w : ℕ) → is_watcher (slot_at p.state.market w) ≡ true → w < length p.of_object
        low w is = let size = are.size in let within = watcher_low p.state.market w is in omega arith

        old : (w : ℕ) → is_watcher (slot_at p.state.market w) ≡ true → get_or (p.of_object ++ name ∷ []) w 0 ≡ name_of p w
        old w is = named_more p.of_object name w (low w is)

        last : (w : ℕ) → w ≡ length p.state.market.objects → get_or (p.of_object ++ name ∷ []) w 0 ≡ name
        last w is = ap (λ (i : ℕ). get_or (p.of_object ++ name ∷ []) i 0) (is ∙ sym are.size) ∙ named_last p.of_object name

        apart : (v : ℕ) → is_watcher (slot_at p.state.market v) ≡ true → object_named p name ≡ None → name_of p v ≡ name → ⊥
        apart v is none same = unnamed p.state.market name 0 p.of_object none v (low v is) same
            (subst (λ (i : ℕ). is_given (slot_at p.state.market i) ≡ true) (let e : v ≡ 0 + v = omega arith in e)
            (watcher_given (slot_at p.state.market v) is))

    -- A COMMAND leaves it so
    pub given_turn : (calc : Calc) (c : Command) → IsOf given n a c → AreGiven given n (turn calc p c).next
    unfolding turn effect_of step made watching
    given_turn calc c is = by (resolve p c) (all_free c is)
      where
        by : (r : Result Act Refusal) → AllFree r → AreGiven given n (done_as calc p c r).next
        by (Err why) free = are
        by (Ok (act.Make name t)) free = given_added name (Live t) _ (λ e. absurd (false≢true e))
        by (Ok (act.Watch name action)) free = given_added name Watcher _ (λ e. free)
        by (Ok (act.Quiet x)) free = given_shaped _ (changed_shaped x p.state)
        by (Ok (act.Grow g)) free = given_shaped _ (grown_shaped g p.state)
        by (Ok (act.Price name o h)) free = given_shaped _ (priced_shaped calc o p.state h)

-- whom a command tells is a watcher then
pub told_turn : (calc : Calc) (p : Standing) (c : Command) → p.state.noticed ≡ [] → (w : ℕ)
    → Among w (turn calc p c).next.state.noticed → is_watcher (slot_at (turn calc p c).next.state.market w) ≡ true
unfolding turn effect_of step made watching
told_turn calc p c none w = by (resolve p c)
  where
    nobody : Among w p.state.noticed → ⊥
    nobody among = subst (λ (ws : List ℕ). Among w ws) none among

    by : (r : Result Act Refusal) → Among w (done_as calc p c r).next.state.noticed
        → is_watcher (slot_at (done_as calc p c r).next.state.market w) ≡ true
    by (Err why) among = absurd (nobody among)
    by (Ok (act.Make name t)) among = absurd (nobody among)
    by (Ok (act.Watch name action)) among = absurd (nobody among)
    by (Ok (act.Quiet x)) among = (changed_shaped x p.state).told none w among
    by (Ok (act.Grow g)) among = (grown_shaped g p.state).told none w among
    by (Ok (act.Price name o h)) among = (priced_shaped calc o p.state h).told none w among

-- names and actions stay
pub names_turn : (calc : Calc) (p : Standing) (c : Command) → (turn calc p c).next.names ≡ p.names
unfolding turn effect_of
names_turn calc p c = by (resolve p c)
  where
    by : (r : Result Act Refusal) → (done_as calc p c r).next.names ≡ p.names
    by (Err why) = refl
    by (Ok x) = refl

pub actions_turn : (calc : Calc) (p : Standing) (c : Command) → (turn calc p c).next.actions ≡ p.actions
unfolding turn effect_of
actions_turn calc p c = by (resolve p c)
  where
    by : (r : Result Act Refusal) → (done_as calc p c r).next.actions ≡ p.actions
    by (Err why) = refl
    by (Ok x) = refl
