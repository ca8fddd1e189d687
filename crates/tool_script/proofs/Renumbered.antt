-- A turn does not depend on how a session numbers its names.
use Rattle.std.proofs.Common.{◌≡◌, inl, inr, ℕ, zero, suc, ◌+◌, ◌<◌, Bool, true, false, ℤ, List, [], ◌∷◌, ◌++◌, length, map, Option, Some, None, Result, Ok, Err, refl, sym, ◌∙◌, ap, subst}
use Rattle.std.specs.Prelude.{◌==◌, if◌then◌else◌, is_some, slice_set, option_map, All}
use Rattle.std.proofs.lemmas.Bool.{cases_Bool, eq-eqb, eqb-true, true≢false}
use Rattle.std.proofs.lemmas.List.{map-append}
use Rattle.std.proofs.lemmas.List.Elements.{All-head, All-tail, All-push}
use Rattle.desk_terms.specs.declared.terms.Terms.{Terms}
use Rattle.desk_terms.specs.declared.terms.Terms.TheVariants as terms
use Rattle.desk_terms.specs.declared.asked.Mark.{Mark}
use Rattle.desk_terms.specs.Cause.{object_of}
use Rattle.desk_terms.specs.declared.cause.Cause.{Cause}
use Rattle.desk_terms.specs.Reading.{Outcome, Calc}
use Rattle.desk_model.specs.Market.{Market, kind_at}
use Rattle.price_report.specs.Namer.{name_text, object_text}
use Rattle.price_report.specs.Line.{cause_text, answer_text, found_text, asked_line, df_line, refusal_line}
use Rattle.session_commands.specs.declared.command.Command.{Command}
use Rattle.session_commands.specs.declared.command.Command.TheVariants as command
use Rattle.session_commands.specs.declared.refusal.Refusal.{Refusal}
use Rattle.session_commands.specs.declared.refusal.Refusal.TheVariants as refusal
use Rattle.session_commands.specs.Parts.{parts_of, command_of, command_word}
use Rattle.session_commands.specs.Table.{row_of}
use Rattle.session_commands.specs.Whole.{IsCommand}
use Rattle.session_model.specs.declared.act.Act.{Act}
use Rattle.session_model.specs.declared.act.Act.TheVariants as act
use Rattle.session_model.specs.declared.act.Change.TheVariants as change
use Rattle.session_model.specs.declared.act.Growth.TheVariants as growth
use Rattle.session_model.specs.declared.act.How.{How}
use Rattle.session_model.specs.declared.act.How.TheVariants as how
use Rattle.session_model.specs.declared.place.Place.{Place}
use Rattle.session_model.specs.Place.{takes_found}
use Rattle.session_model.specs.Standing.{Standing, named_from, object_named, is_full}
use Rattle.session_model.specs.Resolve.{object_or_refusal, find, with_found, unless, unless_used, unless_kept, unless_late, unless_taken, making, combining, handle_kind, resolve}
use Rattle.session_model.specs.Pricing.{discount_in, priced_line, pricing_of}
use Rattle.session_model.specs.Turn.{Turn, effect_of, step, done_as, turn}
use Rattle.session_model.proofs.Wider.{IsBelow, Are, are_spoken}
use Rattle.tool_script.specs.Kinds.{asked_name}
use Rattle.tool_script.specs.Renumbered.{renumbered}

-- other numbers of the same texts, no two names by one
pub record Renumbers (names others : List (List ℕ)) (number : ℕ → ℕ) : Type 0 where
  pub text : (x : ℕ) → x < length names → name_text others (number x) ≡ name_text names x
  pub apart : (x y : ℕ) → x < length names → y < length names → number x ≡ number y → x ≡ y

module _ (names others : List (List ℕ)) (number : ℕ → ℕ) (is : Renumbers names others number) where
  abbrev pub AreBelow : List ℕ → Type 0
  AreBelow of_object = All (λ name. name < length names) of_object

  -- THE LINES
  object_same : (of_object : List ℕ) → AreBelow of_object → (o : ℕ) → object_text others (map number of_object) o ≡ object_text names of_object o
  object_same [] below o = refl
  object_same (x ∷ of_object) below zero = is.text x (All-head (λ name. name < length names) x of_object below)
  object_same (x ∷ of_object) below (suc o) = object_same of_object (All-tail (λ name. name < length names) x of_object below) o

  module _ (of_object : List ℕ) (below : AreBelow of_object) where
    cause_same : (cause : Cause) → cause_text others (map number of_object) cause ≡ cause_text names of_object cause
    cause_same cause = rw (object_same of_object below (object_of cause)) refl

    answer_same : (outcome : Outcome) (mark : Mark) → answer_text others (map number of_object) outcome mark ≡ answer_text names of_object outcome mark
    answer_same (Ok value) mark = refl
    answer_same (Err cause) mark = rw (cause_same cause) refl

    found_same : (day : ℤ) (found : Result ℤ Cause) (mark : Mark) → found_text others (map number of_object) day found mark ≡ found_text names of_object day found mark
    found_same day (Ok factor) mark = refl
    found_same day (Err cause) mark = rw (cause_same cause) refl

    priced_same : (name o : ℕ) (h : How) (outcome : Outcome) (mark : Mark) (count : ℕ) → name < length names
        → priced_line others (map number of_object) (number name) o h outcome mark count ≡ priced_line names of_object name o h outcome mark count
    unfolding asked_line df_line
    priced_same name o how.Ask outcome mark count low = rw (is.text name low, answer_same outcome mark) refl
    priced_same name o (how.Df day) outcome mark count low = rw (is.text name low, found_same day (discount_in o day outcome) mark) refl
    priced_same name o how.Recalc outcome mark count low = rw (is.text name low, answer_same outcome mark) refl

  -- WHAT A COMMAND RESOLVES TO, by the other numbers
  abbrev pub refused_as : Refusal → Refusal
  refused_as (refusal.Unknown name) = refusal.Unknown (number name)
  refused_as (refusal.Taken name) = refusal.Taken (number name)
  refused_as (refusal.Kind name) = refusal.Kind (number name)
  refused_as refusal.Cycle = refusal.Cycle
  refused_as (refusal.InUse user) = refusal.InUse user
  refused_as (refusal.FixingExists rate) = refusal.FixingExists rate
  refused_as refusal.TooMany = refusal.TooMany
  refused_as refusal.AlreadyRegistered = refusal.AlreadyRegistered
  refused_as refusal.NotRegistered = refusal.NotRegistered
  refused_as (refusal.Deferred source) = refusal.Deferred source

  abbrev pub act_as : Act → Act
  act_as (act.Make name terms) = act.Make (number name) terms
  act_as (act.Watch name action) = act.Watch (number name) action
  act_as (act.Quiet c) = act.Quiet c
  act_as (act.Grow g) = act.Grow g
  act_as (act.Price name o h) = act.Price (number name) o h

  abbrev pub result_as : Result Act Refusal → Result Act Refusal
  result_as (Ok a) = Ok (act_as a)
  result_as (Err why) = Err (refused_as why)

  abbrev pub found_as : Result ℕ Refusal → Result ℕ Refusal
  found_as (Ok o) = Ok o
  found_as (Err why) = Err (refused_as why)

  same_number : (x y : ℕ) → x < length names → y < length names → (number x == number y) ≡ (x == y)
  same_number x y low other = elim (cases_Bool (x == y)) [
    | inl same ↦ eq-eqb (number x) (number y) (ap number (eqb-true x y same)) ∙ sym same
    | inr unlike ↦ elim (cases_Bool (number x == number y)) [
      | inl same ↦ absurd (true≢false (sym (eq-eqb x y (is.apart x y low other (eqb-true (number x) (number y) same))) ∙ unlike))
      | inr neither ↦ neither ∙ sym unlike
    ]
  ]

  named_same : (m : Market) (name : ℕ) → name < length names → (o : ℕ) (of_object : List ℕ) → AreBelow of_object
      → named_from m (number name) o (map number of_object) ≡ named_from m name o of_object
  unfolding named_from
  named_same m name low o [] below = refl
  named_same m name low o (x ∷ of_object) below =
      rw (
        same_number x name (All-head (λ name. name < length names) x of_object below) low,
        named_same m name low (o + 1) of_object (All-tail (λ name. name < length names) x of_object below),
      ) refl

  -- the session by the other numbers
  abbrev pub standing_as : List (Option ℕ) → Standing → Standing
  standing_as watching p = record p { names = others; of_object = map number p.of_object; watching = watching }

  refused_same : (of_object : List ℕ) → AreBelow of_object → (actions : ℕ) (word : List ℕ) (why : Refusal) → Are (length names) actions (Err why)
      → refusal_line others (map number of_object) word (refused_as why) ≡ refusal_line names of_object word why
  unfolding refusal_line
  refused_same of_object below actions word (refusal.Unknown name) low = rw (is.text name low) refl
  refused_same of_object below actions word (refusal.Taken name) low = rw (is.text name low) refl
  refused_same of_object below actions word (refusal.Kind name) low = rw (is.text name low) refl
  refused_same of_object below actions word refusal.Cycle low = refl
  refused_same of_object below actions word (refusal.InUse user) low = rw (object_same of_object below user) refl
  refused_same of_object below actions word (refusal.FixingExists rate) low = refl
  refused_same of_object below actions word refusal.TooMany low = refl
  refused_same of_object below actions word refusal.AlreadyRegistered low = refl
  refused_same of_object below actions word refusal.NotRegistered low = refl
  refused_same of_object below actions word (refusal.Deferred source) low = rw (object_same of_object below source) refl

  module _ (p : Standing) (watching : List (Option ℕ)) (below : AreBelow p.of_object) where
    pub found_same_name : (place : Place) (name : ℕ) → name < length names → find place (standing_as watching p) (number name) ≡ found_as (find place p name)
    unfolding find
    found_same_name place name low =
        ap (object_or_refusal place p.state.market (number name)) (named_same p.state.market name low 0 p.of_object below)
        ∙ by (object_named p name)
      where
        chosen : (b : Bool) (o : ℕ) → (if b then Ok o else Err (refusal.Kind (number name))) ≡ found_as (if b then Ok o else Err (refusal.Kind name))
        chosen true o = refl
        chosen false o = refl

        by : (found : Option ℕ) → object_or_refusal place p.state.market (number name) found ≡ found_as (object_or_refusal place p.state.market name found)
        by None = refl
        by (Some o) = chosen (takes_found place (kind_at p.state.market o)) o

    on : (place : Place) (name : ℕ) (rest other : ℕ → Result Act Refusal) → name < length names → ((o : ℕ) → other o ≡ result_as (rest o))
        → with_found (find place (standing_as watching p) (number name)) other ≡ result_as (with_found (find place p name) rest)
    unfolding with_found
    on place name rest other low all =
        ap (λ (found : Result ℕ Refusal). with_found found other) (found_same_name place name low) ∙ by (find place p name)
      where
        by : (found : Result ℕ Refusal) → with_found (found_as found) other ≡ result_as (with_found found rest)
        by (Ok o) = all o
        by (Err why) = refl

    untaken : (name : ℕ) (rest other : Result Act Refusal) → name < length names → other ≡ result_as rest
        → unless_taken (standing_as watching p) (number name) other ≡ result_as (unless_taken p name rest)
    unfolding unless_taken
    untaken name rest other low same =
        ap (λ (found : Option ℕ). if is_some found then Err (refusal.Taken (number name)) else other) (named_same p.state.market name low 0 p.of_object below)
        ∙ by (is_some (object_named p name))
      where
        by : (b : Bool) → (if b then Err (refusal.Taken (number name)) else other) ≡ result_as (if b then Err (refusal.Taken name) else rest)
        by true = refl
        by false = same

    unrefused : (b : Bool) (why : Refusal) (x : Act) → unless b (refused_as why) (act_as x) ≡ result_as (unless b why x)
    unfolding unless
    unrefused true why x = refl
    unrefused false why x = refl

    kept : (rate : Option ℤ) (x : Act) → unless_kept rate (act_as x) ≡ result_as (unless_kept rate x)
    unfolding unless_kept
    kept None x = refl
    kept (Some rate) x = refl

    used : (user : Option ℕ) (x : Act) → unless_used user (act_as x) ≡ result_as (unless_used user x)
    unfolding unless_used
    used None x = refl
    used (Some user) x = refl

    early : (source : Option ℕ) (x : Act) → unless_late source (act_as x) ≡ result_as (unless_late source x)
    unfolding unless_late
    early None x = refl
    early (Some source) x = refl

    makes : (name : ℕ) (t : Terms) → making (standing_as watching p) (number name) t ≡ result_as (making p name t)
    makes name t = unrefused (is_full p.state.market) refusal.TooMany (act.Make name t)

    combines : (name : ℕ) (minus : Bool) (x y : ℕ) → x < length names → y < length names
        → combining (standing_as watching p) (number name) minus (number x) (number y) ≡ result_as (combining p name minus x y)
    combines name minus x y first second = on _ x _ _ first (λ v. on _ y _ _ second (λ w. makes name (terms.Derived minus v w)))

    -- what a command is by the other numbers: what it resolves to, its word, and the name that it asks for
    abbrev pub IsSaid : Command → Type 0
    IsSaid c = (resolve (standing_as watching p) (renumbered number c) ≡ result_as (resolve p c))
        × (command_word (renumbered number c) ≡ command_word c)
        × (asked_name (renumbered number c) ≡ option_map number (asked_name c))
        × IsBelow (length names) (asked_name c)

    pub said : (a : ℕ) (c : Command) → IsCommand (length names) a c → IsSaid c
    unfolding resolve IsCommand parts_of command_of row_of
    said a (command.Quote name value) is = (untaken name _ _ is.first (makes name (terms.Quote value)), refl, refl, tt)
    said a (command.Sum name x y) is = (untaken name _ _ is.first (combines name false x y is.second is.third), refl, refl, tt)
    said a (command.Difference name x y) is = (untaken name _ _ is.first (combines name true x y is.second is.third), refl, refl, tt)
    said a (command.Handle name is_curve) is = (untaken name _ _ is.first (makes name (terms.Handle (handle_kind is_curve) None)), refl, refl, tt)
    said a (command.Stock name q) is = (untaken name _ _ is.first (on _ q _ _ is.second (λ x. makes name (terms.Stock x))), refl, refl, tt)
    said a (command.Composite name) is = (untaken name _ _ is.first (makes name (terms.Composite [])), refl, refl, tt)
    said a (command.Member k i weight) is = (on _ k _ _ is.first (λ x. on _ i _ _ is.second (λ y. unrefused _ refusal.Cycle (act.Grow (growth.Member x y weight)))), refl, refl, tt)
    said a (command.Set q value) is = (on _ q _ _ is.first (λ x. refl), refl, refl, tt)
    said a (command.Unset q) is = (on _ q _ _ is.first (λ x. refl), refl, refl, tt)
    said a (command.Link h t) is = (on _ h _ _ is.first (λ x. on _ t _ _ is.second (λ y. unrefused _ refusal.Cycle (act.Quiet (change.Link x (Some y))))), refl, refl, tt)
    said a (command.Unlink h) is = (on _ h _ _ is.first (λ x. refl), refl, refl, tt)
    said a (command.Engine i None) is = (on _ i _ _ is.first (λ x. refl), refl, refl, tt)
    said a (command.Engine i (Some e)) is = (on _ i _ _ is.first (λ x. on _ e _ _ is.second (λ y. refl)), refl, refl, tt)
    said a (command.Today day) is = (refl, refl, refl, tt)
    said a (command.Fixing x day rate) is = (on _ x _ _ is.first (λ y. kept _ (act.Grow (growth.Fixing y day rate))), refl, refl, tt)
    said a (command.Freeze o) is = (on _ o _ _ is.first (λ x. refl), refl, refl, tt)
    said a (command.Thaw o) is = (on _ o _ _ is.first (λ x. refl), refl, refl, tt)
    said a (command.Recalc o) is = (on _ o _ _ is.first (λ x. early _ (act.Price o x how.Recalc)), refl, refl, tt)
    said a (command.Forward o is_on) is = (on _ o _ _ is.first (λ x. refl), refl, refl, tt)
    said a command.Defer is = (refl, refl, refl, tt)
    said a command.Resume is = (refl, refl, refl, tt)
    said a (command.Watch w action) is = (untaken w _ _ is.first (unrefused _ refusal.TooMany (act.Watch w action)), refl, refl, tt)
    said a (command.Register w o) is = (on _ w _ _ is.first (λ x. on _ o _ _ is.second (λ y. unrefused _ refusal.AlreadyRegistered (act.Grow (growth.Register x y)))), refl, refl, tt)
    said a (command.Unregister w o) is = (on _ w _ _ is.first (λ x. on _ o _ _ is.second (λ y. unrefused _ refusal.NotRegistered (act.Quiet (change.Unregister x y)))), refl, refl, tt)
    said a (command.Drop o) is = (on _ o _ _ is.first (λ x. used _ (act.Quiet (change.Drop x))), refl, refl, tt)
    said a (command.Ask o) is = (on _ o _ _ is.first (λ x. refl), refl, refl, is.first)
    said a (command.Df c day) is = (on _ c _ _ is.first (λ x. refl), refl, refl, tt)

    -- a turn writes and computes the same, and leaves the session by the other numbers
    pub record IsTurn (t other : Turn) : Type 0 where
      pub lines : other.lines ≡ t.lines
      pub calls : other.calls ≡ t.calls
      pub watching_then : List (Option ℕ)
      pub next : other.next ≡ standing_as watching_then t.next
      pub below_then : AreBelow t.next.of_object
      pub named : p.names ≡ names → t.next.names ≡ names

    done_same : p.names ≡ names → (a : ℕ) (calc : Calc) (c other : Command) (r : Result Act Refusal) → command_word other ≡ command_word c
        → Are (length names) a r → IsTurn (done_as calc p c r) (done_as calc (standing_as watching p) other (result_as r))
    unfolding effect_of step
    done_same named a calc c other (Err why) word are = record {
      lines = ap (λ (w : List ℕ). refusal_line others (map number p.of_object) w (refused_as why)) word
          ∙ refused_same p.of_object below a (command_word c) why are
          ∙ ap (λ (texts : List (List ℕ)). refusal_line texts p.of_object (command_word c) why) (sym named);
      calls = refl;
      watching_then = watching;
      next = refl;
      below_then = below;
      named = λ e. e;
    }
    done_same named a calc c other (Ok (act.Make name t)) word are = record {
      lines = refl;
      calls = refl;
      watching_then = watching;
      next = rw (map-append number p.of_object (name ∷ [])) refl;
      below_then = All-push (λ x. x < length names) p.of_object name below are;
      named = λ e. e;
    }
    done_same named a calc c other (Ok (act.Watch name action)) word are = record {
      lines = refl;
      calls = refl;
      watching_then = slice_set watching (number name) (Some action);
      next = rw (map-append number p.of_object (name ∷ [])) refl;
      below_then = All-push (λ x. x < length names) p.of_object name below are.0;
      named = λ e. e;
    }
    done_same named a calc c other (Ok (act.Quiet x)) word are =
        record { lines = refl; calls = refl; watching_then = watching; next = refl; below_then = below; named = λ e. e }
    done_same named a calc c other (Ok (act.Grow g)) word are =
        record { lines = refl; calls = refl; watching_then = watching; next = refl; below_then = below; named = λ e. e }
    done_same named a calc c other (Ok (act.Price name o h)) word are =
        let w = pricing_of calc o p.state h in
        record {
          lines = priced_same p.of_object below name o h w.outcome w.mark (length w.calls) are
              ∙ ap (λ (texts : List (List ℕ)). priced_line texts p.of_object name o h w.outcome w.mark (length w.calls)) (sym named);
          calls = refl;
          watching_then = watching;
          next = refl;
          below_then = below;
          named = λ e. e;
        }

    -- THE TURN OF A COMMAND
    pub turn_same : p.names ≡ names → (a : ℕ) (calc : Calc) (c : Command) → IsCommand (length names) a c
        → IsTurn (turn calc p c) (turn calc (standing_as watching p) (renumbered number c))
    unfolding turn
    turn_same named a calc c known =
        let both = said a c known in
        subst (λ (r : Result Act Refusal). IsTurn (done_as calc p c (resolve p c)) (done_as calc (standing_as watching p) (renumbered number c) r))
        (sym both.0) (done_same named a calc c (renumbered number c) (resolve p c) both.1 (are_spoken (length names) a p c known))
