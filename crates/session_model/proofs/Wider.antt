-- A turn does not depend on names and actions that come later.
use Rattle.std.proofs.Common.{◌≡◌, ℕ, zero, suc, ◌<◌, Bool, true, false, ℤ, List, [], ◌∷◌, ◌++◌, length, get_or, replicate, Option, Some, None, Result, Ok, Err, refl, sym, ◌∙◌, ap, subst, arith}
use Rattle.std.specs.Prelude.{if◌then◌else◌, is_some, slice_get, slice_set}
use Rattle.std.proofs.lemmas.List.{get_or_append_left, set-append_left, length-set}
use Rattle.desk_terms.specs.declared.terms.Terms.{Terms}
use Rattle.desk_terms.specs.declared.terms.Terms.TheVariants as terms
use Rattle.desk_terms.specs.declared.asked.Mark.{Mark}
use Rattle.desk_terms.specs.Cause.{object_of}
use Rattle.desk_terms.specs.declared.cause.Cause.{Cause}
use Rattle.desk_terms.specs.Reading.{Outcome, Calc}
use Rattle.desk_model.specs.Market.{kind_at}
use Rattle.price_report.specs.Namer.{name_text, some_text, object_text}
use Rattle.price_report.specs.Line.{cause_text, answer_text, found_text, asked_line, df_line, refusal_line, over_line}
use Rattle.session_commands.specs.declared.command.Command.{Command}
use Rattle.session_commands.specs.declared.command.Command.TheVariants as command
use Rattle.session_commands.specs.declared.refusal.Refusal.{Refusal}
use Rattle.session_commands.specs.declared.refusal.Refusal.TheVariants as refusal
use Rattle.session_commands.specs.Parts.{parts_of, command_word}
use Rattle.session_commands.specs.Table.{row_of}
use Rattle.session_commands.specs.Whole.{IsCommand}
use Rattle.session_model.specs.declared.act.Act.{Act}
use Rattle.session_model.specs.declared.act.Act.TheVariants as act
use Rattle.session_model.specs.declared.act.Change.TheVariants as change
use Rattle.session_model.specs.declared.act.Growth.TheVariants as growth
use Rattle.session_model.specs.declared.act.How.{How}
use Rattle.session_model.specs.declared.act.How.TheVariants as how
use Rattle.session_model.specs.declared.place.Place.{Place}
use Rattle.session_model.specs.Place.{takes_found}
use Rattle.session_model.specs.Standing.{Standing, name_of, object_named, is_full}
use Rattle.session_model.specs.Resolve.{object_or_refusal, find, with_found, unless, unless_used, unless_kept, unless_late, unless_taken, making, combining, handle_kind, resolve}
use Rattle.session_model.specs.Pricing.{discount_in, priced_line, pricing_of}
use Rattle.session_model.specs.Turn.{Turn, effect_of, done_as, turn}
use Rattle.session_model.specs.Wider.{Later, wider}

-- among these names
abbrev pub IsBelow : ℕ → Option ℕ → Type 0
IsBelow n None = Unit {0}
IsBelow n (Some x) = x < n

-- each object has a name among n, each watcher an action among a, and there is a name
pub record IsNamed (n a : ℕ) (p : Standing) : Type 0 where
  pub some : 0 < n
  pub names : length p.names ≡ n
  pub watching : length p.watching ≡ n
  pub actions : length p.actions ≡ a
  pub objects : (o : ℕ) → IsBelow n (slice_get p.of_object o)
  pub linked : (w : ℕ) → IsBelow a (get_or p.watching w None)

-- what stands behind the end of a list is what stands in it nowhere
pub past_end : {A : Type 0} → (xs : List A) (k i : ℕ) (d : A) → get_or (xs ++ replicate k d) i d ≡ get_or xs i d
past_end [] zero zero d = refl
past_end [] zero (suc i) d = refl
past_end [] (suc k) zero d = refl
past_end [] (suc k) (suc i) d = past_end [] k i d
past_end (x ∷ xs) k zero d = refl
past_end (x ∷ xs) k (suc i) d = past_end xs k i d

name_below : (n : ℕ) (names : List ℕ) (o : ℕ) → 0 < n → IsBelow n (slice_get names o) → get_or names o 0 < n
name_below n [] zero some is = some
name_below n [] (suc o) some is = some
name_below n (x ∷ names) zero some is = is
name_below n (x ∷ names) (suc o) some is = name_below n names o some is

pub named_below : (n a : ℕ) (p : Standing) → IsNamed n a p → (o : ℕ) → name_of p o < n
named_below n a p named o = name_below n p.of_object o named.some (named.objects o)

-- THE LINES of names that are there
module _ (names later : List (List ℕ)) where
  text_wider : (name : ℕ) → name < length names → name_text (names ++ later) name ≡ name_text names name
  text_wider name low = get_or_append_left names later [] name low

  pub over_wider : (name : ℕ) → name < length names → over_line (names ++ later) name ≡ over_line names name
  unfolding over_line
  over_wider name low = rw (text_wider name low) refl

  module _ (of_object : List ℕ) (objects : (o : ℕ) → IsBelow (length names) (slice_get of_object o)) where
    object_wider : (o : ℕ) → object_text (names ++ later) of_object o ≡ object_text names of_object o
    object_wider o = by (slice_get of_object o) (objects o)
      where
        by : (name : Option ℕ) → IsBelow (length names) name → some_text (names ++ later) name ≡ some_text names name
        by None low = refl
        by (Some name) low = text_wider name low

    cause_wider : (cause : Cause) → cause_text (names ++ later) of_object cause ≡ cause_text names of_object cause
    cause_wider cause = rw (object_wider (object_of cause)) refl

    answer_wider : (outcome : Outcome) (mark : Mark) → answer_text (names ++ later) of_object outcome mark ≡ answer_text names of_object outcome mark
    answer_wider (Ok value) mark = refl
    answer_wider (Err cause) mark = rw (cause_wider cause) refl

    found_wider : (day : ℤ) (found : Result ℤ Cause) (mark : Mark) → found_text (names ++ later) of_object day found mark ≡ found_text names of_object day found mark
    found_wider day (Ok factor) mark = refl
    found_wider day (Err cause) mark = rw (cause_wider cause) refl

    priced_wider : (name o : ℕ) (h : How) (outcome : Outcome) (mark : Mark) (number : ℕ) → name < length names
        → priced_line (names ++ later) of_object name o h outcome mark number ≡ priced_line names of_object name o h outcome mark number
    unfolding asked_line df_line
    priced_wider name o how.Ask outcome mark number low = rw (text_wider name low, answer_wider outcome mark) refl
    priced_wider name o (how.Df day) outcome mark number low = rw (text_wider name low, found_wider day (discount_in o day outcome) mark) refl
    priced_wider name o how.Recalc outcome mark number low = rw (text_wider name low, answer_wider outcome mark) refl

    -- a refusal of a name that is there
    abbrev pub IsOfNames : Refusal → Type 0
    IsOfNames (refusal.Unknown name) = name < length names
    IsOfNames (refusal.Taken name) = name < length names
    IsOfNames (refusal.Kind name) = name < length names
    IsOfNames refusal.Cycle = Unit {0}
    IsOfNames (refusal.InUse user) = Unit {0}
    IsOfNames (refusal.FixingExists rate) = Unit {0}
    IsOfNames refusal.TooMany = Unit {0}
    IsOfNames refusal.AlreadyRegistered = Unit {0}
    IsOfNames refusal.NotRegistered = Unit {0}
    IsOfNames (refusal.Deferred source) = Unit {0}

    refusal_wider : (word : List ℕ) (why : Refusal) → IsOfNames why → refusal_line (names ++ later) of_object word why ≡ refusal_line names of_object word why
    unfolding refusal_line
    refusal_wider word (refusal.Unknown name) low = rw (text_wider name low) refl
    refusal_wider word (refusal.Taken name) low = rw (text_wider name low) refl
    refusal_wider word (refusal.Kind name) low = rw (text_wider name low) refl
    refusal_wider word refusal.Cycle low = refl
    refusal_wider word (refusal.InUse user) low = rw (object_wider user) refl
    refusal_wider word (refusal.FixingExists rate) low = refl
    refusal_wider word refusal.TooMany low = refl
    refusal_wider word refusal.AlreadyRegistered low = refl
    refusal_wider word refusal.NotRegistered low = refl
    refusal_wider word (refusal.Deferred source) low = rw (object_wider source) refl

-- WHAT A COMMAND RESOLVES TO speaks of objects alone
module _ (later : Later) (p : Standing) where
  pub resolve_wider : (c : Command) → resolve (wider later p) c ≡ resolve p c
  unfolding resolve find unless_taken
  resolve_wider (command.Quote name value) = refl
  resolve_wider (command.Sum name x y) = refl
  resolve_wider (command.Difference name x y) = refl
  resolve_wider (command.Handle name is_curve) = refl
  resolve_wider (command.Stock name q) = refl
  resolve_wider (command.Composite name) = refl
  resolve_wider (command.Member k i weight) = refl
  resolve_wider (command.Set q value) = refl
  resolve_wider (command.Unset q) = refl
  resolve_wider (command.Link h t) = refl
  resolve_wider (command.Unlink h) = refl
  resolve_wider (command.Engine i None) = refl
  resolve_wider (command.Engine i (Some e)) = refl
  resolve_wider (command.Today day) = refl
  resolve_wider (command.Fixing x day rate) = refl
  resolve_wider (command.Freeze o) = refl
  resolve_wider (command.Thaw o) = refl
  resolve_wider (command.Recalc o) = refl
  resolve_wider (command.Forward o is_on) = refl
  resolve_wider command.Defer = refl
  resolve_wider command.Resume = refl
  resolve_wider (command.Watch w action) = refl
  resolve_wider (command.Register w o) = refl
  resolve_wider (command.Unregister w o) = refl
  resolve_wider (command.Drop o) = refl
  resolve_wider (command.Ask o) = refl
  resolve_wider (command.Df c day) = refl

-- the names and the action in what a command resolves to
module _ (n a : ℕ) where
  abbrev pub Spoken : Act → Type 0
  Spoken (act.Make name terms) = name < n
  Spoken (act.Watch name action) = (name < n) × (action < a)
  Spoken (act.Quiet c) = Unit {0}
  Spoken (act.Grow g) = Unit {0}
  Spoken (act.Price name o h) = name < n

  abbrev pub Refused : Refusal → Type 0
  Refused (refusal.Unknown name) = name < n
  Refused (refusal.Taken name) = name < n
  Refused (refusal.Kind name) = name < n
  Refused refusal.Cycle = Unit {0}
  Refused (refusal.InUse user) = Unit {0}
  Refused (refusal.FixingExists rate) = Unit {0}
  Refused refusal.TooMany = Unit {0}
  Refused refusal.AlreadyRegistered = Unit {0}
  Refused refusal.NotRegistered = Unit {0}
  Refused (refusal.Deferred source) = Unit {0}

  abbrev pub Are : Result Act Refusal → Type 0
  Are (Ok x) = Spoken x
  Are (Err why) = Refused why

  module _ (p : Standing) where
    abbrev pub IsFound : Result ℕ Refusal → Type 0
    IsFound (Ok o) = Unit {0}
    IsFound (Err why) = Refused why

    named_found : (place : Place) (name : ℕ) (o : Option ℕ) → name < n → IsFound (object_or_refusal place p.state.market name o)
    named_found place name None low = low
    named_found place name (Some o) low = by (takes_found place (kind_at p.state.market o))
      where
        by : (b : Bool) → IsFound (if b then Ok o else Err (refusal.Kind name))
        by true = tt
        by false = low

    found : (place : Place) (name : ℕ) (rest : ℕ → Result Act Refusal) → name < n → ((o : ℕ) → Are (rest o)) → Are (with_found (find place p name) rest)
    unfolding find with_found
    found place name rest low all = by (object_or_refusal place p.state.market name (object_named p name)) (named_found place name (object_named p name) low)
      where
        by : (r : Result ℕ Refusal) → IsFound r → Are (with_found r rest)
        by (Ok o) is = all o
        by (Err why) is = is

    untaken : (name : ℕ) (rest : Result Act Refusal) → name < n → Are rest → Are (unless_taken p name rest)
    unfolding unless_taken
    untaken name rest low all = by (is_some (object_named p name))
      where
        by : (b : Bool) → Are (if b then Err (refusal.Taken name) else rest)
        by true = low
        by false = all

    unrefused : (b : Bool) (why : Refusal) (x : Act) → Refused why → Spoken x → Are (unless b why x)
    unfolding unless
    unrefused true why x low is = low
    unrefused false why x low is = is

    kept : (rate : Option ℤ) (x : Act) → Spoken x → Are (unless_kept rate x)
    unfolding unless_kept
    kept None x is = is
    kept (Some rate) x is = tt

    used : (user : Option ℕ) (x : Act) → Spoken x → Are (unless_used user x)
    unfolding unless_used
    used None x is = is
    used (Some user) x is = tt

    early : (source : Option ℕ) (x : Act) → Spoken x → Are (unless_late source x)
    unfolding unless_late
    early None x is = is
    early (Some source) x is = tt

    makes : (name : ℕ) (t : Terms) → name < n → Are (making p name t)
    makes name t low = unrefused (is_full p.state.market) refusal.TooMany (act.Make name t) tt low

    combines : (name : ℕ) (minus : Bool) (x y : ℕ) → name < n → x < n → y < n → Are (combining p name minus x y)
    combines name minus x y low first second = found _ x _ first (λ v. found _ y _ second (λ w. makes name (terms.Derived minus v w) low))

    pub are_spoken : (c : Command) → IsCommand n a c → Are (resolve p c)
    unfolding resolve IsCommand parts_of row_of
    are_spoken (command.Quote name value) is = untaken name _ is.first (makes name (terms.Quote value) is.first)
    are_spoken (command.Sum name x y) is = untaken name _ is.first (combines name false x y is.first is.second is.third)
    are_spoken (command.Difference name x y) is = untaken name _ is.first (combines name true x y is.first is.second is.third)
    are_spoken (command.Handle name is_curve) is = untaken name _ is.first (makes name (terms.Handle (handle_kind is_curve) None) is.first)
    are_spoken (command.Stock name q) is = untaken name _ is.first (found _ q _ is.second (λ x. makes name (terms.Stock x) is.first))
    are_spoken (command.Composite name) is = untaken name _ is.first (makes name (terms.Composite []) is.first)
    are_spoken (command.Member k i weight) is =
        found _ k _ is.first (λ x. found _ i _ is.second (λ y. unrefused _ refusal.Cycle (act.Grow (growth.Member x y weight)) tt tt))
    are_spoken (command.Set q value) is = found _ q _ is.first (λ x. tt)
    are_spoken (command.Unset q) is = found _ q _ is.first (λ x. tt)
    are_spoken (command.Link h t) is =
        found _ h _ is.first (λ x. found _ t _ is.second (λ y. unrefused _ refusal.Cycle (act.Quiet (change.Link x (Some y))) tt tt))
    are_spoken (command.Unlink h) is = found _ h _ is.first (λ x. tt)
    are_spoken (command.Engine i None) is = found _ i _ is.first (λ x. tt)
    are_spoken (command.Engine i (Some e)) is = found _ i _ is.first (λ x. found _ e _ is.second (λ y. tt))
    are_spoken (command.Today day) is = tt
    are_spoken (command.Fixing x day rate) is = found _ x _ is.first (λ y. kept _ (act.Grow (growth.Fixing y day rate)) tt)
    are_spoken (command.Freeze o) is = found _ o _ is.first (λ x. tt)
    are_spoken (command.Thaw o) is = found _ o _ is.first (λ x. tt)
    are_spoken (command.Recalc o) is = found _ o _ is.first (λ x. early _ (act.Price o x how.Recalc) is.first)
    are_spoken (command.Forward o is_on) is = found _ o _ is.first (λ x. tt)
    are_spoken command.Defer is = tt
    are_spoken command.Resume is = tt
    are_spoken (command.Watch w action) is = untaken w _ is.first
        (unrefused (is_full p.state.market) refusal.TooMany (act.Watch w action) tt (is.first, is.second))
    are_spoken (command.Register w o) is =
        found _ w _ is.first (λ x. found _ o _ is.second (λ y. unrefused _ refusal.AlreadyRegistered (act.Grow (growth.Register x y)) tt tt))
    are_spoken (command.Unregister w o) is =
        found _ w _ is.first (λ x. found _ o _ is.second (λ y. unrefused _ refusal.NotRegistered (act.Quiet (change.Unregister x y)) tt tt))
    are_spoken (command.Drop o) is = found _ o _ is.first (λ x. used _ (act.Quiet (change.Drop x)) tt)
    are_spoken (command.Ask o) is = found _ o _ is.first (λ x. is.first)
    are_spoken (command.Df c day) is = found _ c _ is.first (λ x. is.first)

-- what stands behind one more
pub object_more : (n name : ℕ) (names : List ℕ) (o : ℕ) → name < n → ((i : ℕ) → IsBelow n (slice_get names i)) → IsBelow n (slice_get (names ++ name ∷ []) o)
object_more n name [] zero low all = low
object_more n name [] (suc o) low all = all o
object_more n name (x ∷ names) zero low all = all 0
object_more n name (x ∷ names) (suc o) low all = object_more n name names o low (λ i. all (suc i))

action_set : (a name action : ℕ) (xs : List (Option ℕ)) (w : ℕ) → action < a → ((i : ℕ) → IsBelow a (get_or xs i None))
    → IsBelow a (get_or (slice_set xs name (Some action)) w None)
action_set a name action [] w low all = all w
action_set a zero action (x ∷ xs) zero low all = low
action_set a zero action (x ∷ xs) (suc w) low all = all (suc w)
action_set a (suc name) action (x ∷ xs) zero low all = all 0
action_set a (suc name) action (x ∷ xs) (suc w) low all = action_set a name action xs w low (λ i. all (suc i))

-- the turn of a wider session
abbrev pub wider_turn : Later → Turn → Turn
wider_turn later t = record t { next = wider later t.next }

module _ (later : Later) (n a : ℕ) (calc : Calc) (p : Standing) (named : IsNamed n a p) where
  below : (k : ℕ) → k < n → k < length p.names
  below k low = let long = named.names in omega arith

  objects_below : (o : ℕ) → IsBelow (length p.names) (slice_get p.of_object o)
  objects_below o = subst (λ (k : ℕ). IsBelow k (slice_get p.of_object o)) (sym named.names) (named.objects o)

  names_of : (why : Refusal) → Refused n a why → IsOfNames p.names later.names p.of_object objects_below why
  names_of (refusal.Unknown name) low = below name low
  names_of (refusal.Taken name) low = below name low
  names_of (refusal.Kind name) low = below name low
  names_of refusal.Cycle low = tt
  names_of (refusal.InUse user) low = tt
  names_of (refusal.FixingExists rate) low = tt
  names_of refusal.TooMany low = tt
  names_of refusal.AlreadyRegistered low = tt
  names_of refusal.NotRegistered low = tt
  names_of (refusal.Deferred source) low = tt

  done_wider : (c : Command) (r : Result Act Refusal) → Are n a r → done_as calc (wider later p) c r ≡ wider_turn later (done_as calc p c r)
  unfolding effect_of
  done_wider c (Err why) are =
      rw (refusal_wider p.names later.names p.of_object objects_below (command_word c) why (names_of why are)) refl
  done_wider c (Ok (act.Make name t)) are = refl
  done_wider c (Ok (act.Watch name action)) are =
      rw (set-append_left p.watching (replicate (length later.names) None) name (Some action) (let long = named.watching in let low = are.0 in omega arith)) refl
  done_wider c (Ok (act.Quiet x)) are = refl
  done_wider c (Ok (act.Grow g)) are = refl
  done_wider c (Ok (act.Price name o h)) are =
      let w = pricing_of calc o p.state h in
      rw (priced_wider p.names later.names p.of_object objects_below name o h w.outcome w.mark (length w.calls) (below name are)) refl

  -- A TURN does not depend on what comes later
  pub turn_wider : (c : Command) → IsCommand n a c → turn calc (wider later p) c ≡ wider_turn later (turn calc p c)
  unfolding turn
  turn_wider c is =
      ap (λ (r : Result Act Refusal). done_as calc (wider later p) c r) (resolve_wider later p c)
      ∙ done_wider c (resolve p c) (are_spoken n a p c is)

  -- and leaves such a session
  pub named_turn : (c : Command) → IsCommand n a c → IsNamed n a (turn calc p c).next
  unfolding turn effect_of
  named_turn c is = by (resolve p c) (are_spoken n a p c is)
    where
      by : (r : Result Act Refusal) → Are n a r → IsNamed n a (done_as calc p c r).next
      by (Err why) are = named
      by (Ok (act.Make name t)) are = record {
        some = named.some;
        names = named.names;
        watching = named.watching;
        actions = named.actions;
        objects = λ o. object_more n name p.of_object o are named.objects;
        linked = named.linked;
      }
      by (Ok (act.Watch name action)) are = record {
        some = named.some;
        names = named.names;
        watching = length-set p.watching name (Some action) ∙ named.watching;
        actions = named.actions;
        objects = λ o. object_more n name p.of_object o are.0 named.objects;
        linked = λ w. action_set a name action p.watching w are.1 named.linked;
      }
      by (Ok (act.Quiet x)) are = record { some = named.some; names = named.names; watching = named.watching; actions = named.actions; objects = named.objects; linked = named.linked }
      by (Ok (act.Grow g)) are = record { some = named.some; names = named.names; watching = named.watching; actions = named.actions; objects = named.objects; linked = named.linked }
      by (Ok (act.Price name o h)) are = record { some = named.some; names = named.names; watching = named.watching; actions = named.actions; objects = named.objects; linked = named.linked }
