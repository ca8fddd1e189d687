-- Each field of an object's table is what its place wants, so that each object rests on those before it.
use Rattle.std.proofs.Common.{◌≡◌, ◌≤◌, ℕ, zero, suc, ◌+◌, arith, Bool, true, false, ◌||◌, ◌&&◌, ◌==◌, List, [], ◌∷◌, length, Option, Some, None, Result, Ok, Err, refl, ◌∙◌, ap, All, ℤ, pos, negsuc, int_le, nat_lt, unsigned_abs}
use Rattle.std.specs.Prelude.{if◌then◌else◌, slice_get}
use Rattle.std.specs.Int.{IsInRange as IsFrom}
use Rattle.std.proofs.lemmas.Bool.Decides.{nat_tests}
use Rattle.std.proofs.lemmas.Int.{ints}
use Rattle.std.proofs.lemmas.List.Elements.{All-nil, All-cons}
use Rattle.toml.specs.Data.{Data, Items, no_items, item, Members, as_integer}
use Rattle.day_number.specs.Text.{tenor_of_text}
use Rattle.day_number.specs.Tenor.{IsTenor}
use Rattle.day_number.specs.declared.tenors.Tenor.{Tenor}
use Rattle.day_number.specs.declared.tenors.Unit.{Unit as TimeUnit}
use Rattle.day_number.specs.declared.tenors.Unit.TheVariants.{Days, Weeks, Months, Years}
use Rattle.day_number.proofs.TenorLemmas.{reads_tenors}
use Rattle.curve_terms.specs.declared.terms.Helper.{Helper}
use Rattle.curve_terms.specs.Terms.{IsOfMonths, AreTenors, IsHelper, IsStart}
use Rattle.desk_names.specs.Names.{has_text, place_of}
use Rattle.desk_terms.specs.declared.kind.Kind.{Kind}
use Rattle.desk_terms.specs.declared.kind.Wanted.{Wanted}
use Rattle.desk_terms.specs.declared.kind.Wanted.TheVariants.{QuoteInput, CurveInput, Member, Engine, Index}
use Rattle.desk_terms.specs.declared.terms.HandleKind.{HandleKind}
use Rattle.desk_terms.specs.declared.terms.HandleKind.TheVariants as handle
use Rattle.desk_terms.specs.declared.terms.Part.{Part}
use Rattle.desk_terms.specs.declared.terms.Terms.{Terms}
use Rattle.desk_terms.specs.declared.terms.Terms.TheVariants as terms
use Rattle.desk_terms.specs.Kind.{serves}
use Rattle.desk_terms.specs.Terms.{inputs_of, part_references, helper_references}
use Rattle.flow_terms.specs.declared.flows.FlowTerm.{FlowTerm}
use Rattle.flow_terms.specs.declared.limits.TheConstants.{MOST_FLOWS}
use Rattle.instrument_terms.specs.Parts.{first_fault, unless, composite_or_fault}
use Rattle.instrument_terms.specs.declared.faults.LimitFault.{LimitFault}
use Rattle.instrument_terms.specs.declared.faults.LimitFault.TheVariants.{NoFlow, TooManyFlows}
use Rattle.market_tables.specs.declared.fault.MarketKind.{MarketKind}
use Rattle.market_tables.specs.declared.fault.MarketKind.TheVariants as fault
use Rattle.market_tables.specs.declared.presence.Presence.{Presence}
use Rattle.market_tables.specs.Given.{◌>>=◌}
use Rattle.market_tables.specs.Presence.{must_stand}
use Rattle.market_tables.specs.Values.{or_fault, text_in, name_of, table_in, tables_in}
use Rattle.market_tables.specs.Arrays.{each}
use Rattle.market_tables.specs.Table.{Key, Required, are_listed, fields_of, row_of, entry_of, kind_in}
use Rattle.market_tables.specs.Fields.{field_in, without}
use Rattle.market_tables.proofs.Sorted.{IsOf, AreOf, fields_fit}
use Rattle.market_fields.specs.declared.earlier.Named.{Named}
use Rattle.market_fields.specs.declared.field.Field.{Field}
use Rattle.market_fields.specs.declared.field.Field.TheVariants as field
use Rattle.market_fields.specs.declared.keys.ObjectKind.{ObjectKind}
use Rattle.market_fields.specs.declared.keys.ObjectKind.TheVariants as kind
use Rattle.market_fields.specs.declared.keys.HelperKind.{HelperKind}
use Rattle.market_fields.specs.declared.keys.HelperKind.TheVariants as helper
use Rattle.market_fields.specs.declared.keys.ObjectPlace.{ObjectPlace}
use Rattle.market_fields.specs.declared.keys.ObjectPlace.TheVariants as place
use Rattle.market_fields.specs.Earlier.{Earlier, object_at, known_object, named_object, untaken, new_name, served}
use Rattle.market_fields.specs.Presence.{required}
use Rattle.market_fields.specs.Version.{in_version}
use Rattle.market_fields.specs.Keys.{kind_of, keys_of, part_keys, helper_kind_of, helper_keys_of}
use Rattle.market_fields.specs.Field.{must, name_in, object_in, named_in, target_in, day_in, count_in, tenor_in, weight_in, parts_in, helpers_in, convention_in, flag_in, counter_in, calendar_in, notional_in}
use Rattle.market_fields.specs.Places.{name_field, named_at, object_field, any_object_field, count_of, count_field, tenor_in as tenor_of, months_of, tenor_field, months_field, plain_field}
use Rattle.market_fields.specs.Parts.{part_made, part_in, parts_field}
use Rattle.market_fields.specs.Helpers.{helper_of, helper_made, helper_in, counted, helpers_field, place_field}
use Rattle.market_instruments.specs.Limits.{limited, instrument_of}
use Rattle.market_instruments.specs.Schedules.{span_of, rules_of, dates_of}
use Rattle.market_instruments.specs.Appended.{lag_in, redeemed}
use Rattle.market_instruments.specs.Bonds.{coupons_of, bond_of}
use Rattle.market_instruments.specs.Swaps.{fixed_side, float_side, swap_of}
use Rattle.market_instruments.specs.Forwards.{settlement_of, forward_of}
use Rattle.market_objects.specs.Board.{HasFlowsInRange}
use Rattle.market_objects.specs.Making.{derived_of, target_wanted, linked, handle_of, start_of, curve_of, implied_of, index_of, engine_of, stock_of, composite_of, or_no_parts, parts_of, terms_of, entry_made}
use Rattle.market_objects.specs.Reader.{entry_in}
use Rattle.market_file.specs.Standing.{is_served, AreServed, AreLimited}
use Rattle.market_file.proofs.Composed.{are_within}
use Rattle.market_file.proofs.Given.{Given, bound, always, past, from_sorted, to_sorted}
use Rattle.market_file.proofs.Fields.{IfThere, must_so, name_so, object_so, named_so, count_so, tenor_so, parts_so, helpers_so}

-- a helper's quote is served, and its tenors are within their limits
abbrev IsHelperServed : Earlier → Helper → Type 0
IsHelperServed e h = (is_served (slice_get e.kinds h.quote) QuoteInput ≡ true) × IsHelper h

abbrev AreHelpersServed : Earlier → List Helper → Type 0
AreHelpersServed e hs = AreServed e.kinds (helper_references hs) × All IsHelper hs

abbrev AreFewServed : Earlier → List Helper → Type 0
AreFewServed e hs = IsFrom 1 64 (length hs) × AreHelpersServed e hs

-- what a place's field says of the objects before, and the limits that it keeps
abbrev pub Fits : Earlier → ObjectPlace → Field → Type 0
Fits e place.NewName (field.Name name) = has_text e.names name ≡ false
Fits e (place.Object wanted) (field.Object o) = is_served (slice_get e.kinds o) wanted ≡ true
Fits e place.AnyObject (field.Named n) = slice_get e.kinds n.object ≡ Some n.kind
Fits e place.Parts (field.Parts parts) = AreServed e.kinds (part_references parts)
Fits e place.Helpers (field.Helpers helpers) = AreFewServed e helpers
Fits e place.Count (field.Count count) = count ≤ 30
Fits e place.Tenor (field.Tenor tenor) = IsTenor tenor
Fits e place.Months (field.Tenor tenor) = IsOfMonths tenor
Fits e p f = Unit {0}

abbrev IsFree : Earlier → List ℕ → Type 0
IsFree e name = has_text e.names name ≡ false

abbrev IsKnown : Earlier → Named → Type 0
IsKnown e n = slice_get e.kinds n.object ≡ Some n.kind

abbrev IsServed : Earlier → Wanted → ℕ → Type 0
IsServed e wanted o = is_served (slice_get e.kinds o) wanted ≡ true

abbrev ArePartsServed : Earlier → List Part → Type 0
ArePartsServed e parts = AreServed e.kinds (part_references parts)

-- ---- places

known : (e : Earlier) (name : List ℕ) → Given (IsKnown e) (known_object e name)
known e name = by_test (has_text e.names name)
  where
    by_kind : (k : Option Kind) → slice_get e.kinds (place_of e.names name) ≡ k → Given (IsKnown e) (object_at (place_of e.names name) k)
    by_kind None is = tt
    by_kind (Some kind) is = is

    by_test : (b : Bool) → Given (IsKnown e) (if b then object_at (place_of e.names name) (slice_get e.kinds (place_of e.names name)) else Err fault.Unknown)
    by_test false = tt
    by_test true = by_kind (slice_get e.kinds (place_of e.names name)) refl

named_known : (e : Earlier) (d : Data) → Given (IsKnown e) (named_at e d)
named_known e d = past (IsKnown e) (text_in d) (named_object e) (λ text. past (IsKnown e) (name_of text) (known_object e) (known e))

served_so : (e : Earlier) (wanted : Wanted) (n : Named) → IsKnown e n → Given (IsServed e wanted) (served wanted n)
served_so e wanted n is_known = by_test (serves n.kind wanted) refl
  where
    by_test : (b : Bool) → serves n.kind wanted ≡ b → Given (IsServed e wanted) (if b then Ok n.object else Err fault.Kind)
    by_test false is = tt
    by_test true is = ap (λ (k : Option Kind). is_served k wanted) is_known ∙ is

untaken_free : (e : Earlier) (name : List ℕ) → Given (IsFree e) (untaken e name)
untaken_free e name = by_test (has_text e.names name) refl
  where
    by_test : (b : Bool) → has_text e.names name ≡ b → Given (IsFree e) (if b then Err fault.Taken else Ok name)
    by_test true is = tt
    by_test false is = is

-- a new name is free
pub new_name_free : (e : Earlier) (text : List ℕ) → Given (IsFree e) (new_name e text)
new_name_free e text = past (IsFree e) (name_of text) (untaken e) (untaken_free e)

name_fits : (e : Earlier) (d : Data) → Given (Fits e place.NewName) (name_field e d)
name_fits e d =
    past (Fits e place.NewName) (text_in d) (λ text. new_name e text >>= (λ name. Ok (field.Name name)))
    (λ text. bound (IsFree e) (Fits e place.NewName) (new_name e text) (λ name. Ok (field.Name name))
    (new_name_free e text) (λ name h. h))

object_fits : (e : Earlier) (wanted : Wanted) (d : Data) → Given (Fits e (place.Object wanted)) (object_field e wanted d)
object_fits e wanted d =
    bound (IsKnown e) (Fits e (place.Object wanted)) (named_at e d) (λ n. served wanted n >>= (λ o. Ok (field.Object o))) (named_known e d)
    (λ n is_known. bound (IsServed e wanted) (Fits e (place.Object wanted)) (served wanted n) (λ o. Ok (field.Object o)) (served_so e wanted n is_known) (λ o h. h))

any_fits : (e : Earlier) (d : Data) → Given (Fits e place.AnyObject) (any_object_field e d)
any_fits e d = bound (IsKnown e) (Fits e place.AnyObject) (named_at e d) (λ n. Ok (field.Named n)) (named_known e d) (λ n h. h)

count_so_far : (n : ℤ) → Given (λ count. count ≤ 30) (count_of n)
count_so_far n = by_test (int_le (pos 0) n && int_le n (pos 30)) refl
  where
    few : (z : ℤ) → (int_le (pos 0) z && int_le z (pos 30)) ≡ true → unsigned_abs z ≤ 30
    few (pos n) is = grind (arith, ints)
    few (negsuc n) is = absurd cc

    by_test : (b : Bool) → (int_le (pos 0) n && int_le n (pos 30)) ≡ b → Given (λ count. count ≤ 30) (if b then Ok (unsigned_abs n) else Err fault.Number)
    by_test false is = tt
    by_test true is = few n is

count_fits : (e : Earlier) (d : Data) → Given (Fits e place.Count) (count_field d)
count_fits e d =
    past (Fits e place.Count) (or_fault fault.Key (as_integer d)) (λ n. count_of n >>= (λ count. Ok (field.Count count)))
    (λ n. bound (λ count. count ≤ 30) (Fits e place.Count) (count_of n) (λ count. Ok (field.Count count)) (count_so_far n) (λ count h. h))

tenor_so_far : (d : Data) → Given IsTenor (tenor_of d)
tenor_so_far d = past IsTenor (text_in d) (λ text. or_fault fault.Number (tenor_of_text text)) one
  where
    one : (text : List ℕ) → Given IsTenor (or_fault fault.Number (tenor_of_text text))
    one text = by_tenor (tenor_of_text text) refl
      where
        by_tenor : (found : Option Tenor) → tenor_of_text text ≡ found → Given IsTenor (or_fault fault.Number found)
        by_tenor None is = tt
        by_tenor (Some tenor) is = ((reads_tenors text tenor).0 is).0

tenor_fits : (e : Earlier) (d : Data) → Given (Fits e place.Tenor) (tenor_field d)
tenor_fits e d = bound IsTenor (Fits e place.Tenor) (tenor_of d) (λ tenor. Ok (field.Tenor tenor)) (tenor_so_far d) (λ tenor h. h)

months_so : (unit : TimeUnit) (count : ℤ) → IsTenor (record { count = count; unit = unit }) → Given IsOfMonths (months_of (record { count = count; unit = unit }))
months_so Days count h = tt
months_so Weeks count h = tt
months_so Months count h = (h, tt)
months_so Years count h = (h, tt)

months_fits : (e : Earlier) (d : Data) → Given (Fits e place.Months) (months_field d)
months_fits e d =
    bound IsTenor (Fits e place.Months) (tenor_of d) (λ tenor. months_of tenor >>= (λ months. Ok (field.Tenor months))) (tenor_so_far d)
    (λ tenor h. bound IsOfMonths (Fits e place.Months) (months_of tenor) (λ months. Ok (field.Tenor months)) (months_so tenor.unit tenor.count h) (λ months hm. hm))

plain_fits : (e : Earlier) (p : ObjectPlace) (d : Data) → Given (Fits e p) (plain_field e p d)
plain_fits e place.NewName d = name_fits e d
plain_fits e (place.Object wanted) d = object_fits e wanted d
plain_fits e place.AnyObject d = any_fits e d
plain_fits e place.Count d = count_fits e d
plain_fits e place.Tenor d = tenor_fits e d
plain_fits e place.Months d = months_fits e d
plain_fits e place.Parts d = tt
plain_fits e place.Helpers d = tt
plain_fits e place.Target d = always (Fits e place.Target) (plain_field e place.Target d) (λ f. tt)
plain_fits e place.Day d = always (Fits e place.Day) (plain_field e place.Day d) (λ f. tt)
plain_fits e place.Weight d = always (Fits e place.Weight) (plain_field e place.Weight d) (λ f. tt)
plain_fits e place.Calendar d = always (Fits e place.Calendar) (plain_field e place.Calendar d) (λ f. tt)
plain_fits e place.Rule d = always (Fits e place.Rule) (plain_field e place.Rule d) (λ f. tt)
plain_fits e place.Convention d = always (Fits e place.Convention) (plain_field e place.Convention d) (λ f. tt)
plain_fits e place.Flag d = always (Fits e place.Flag) (plain_field e place.Flag d) (λ f. tt)
plain_fits e place.Counter d = always (Fits e place.Counter) (plain_field e place.Counter d) (λ f. tt)
plain_fits e place.Notional d = always (Fits e place.Notional) (plain_field e place.Notional d) (λ f. tt)
plain_fits e place.Rate d = always (Fits e place.Rate) (plain_field e place.Rate d) (λ f. tt)
plain_fits e place.Leg d = always (Fits e place.Leg) (plain_field e place.Leg d) (λ f. tt)
plain_fits e place.Position d = always (Fits e place.Position) (plain_field e place.Position d) (λ f. tt)

-- ---- fields by their places

abbrev place_at : {W P : Type 0} → List (Key W P) → ℕ → Option P
place_at [] i = None
place_at (k ∷ ks) zero = Some k.place
place_at (k ∷ ks) (suc i) = place_at ks i

abbrev IsAt : {P F : Type 0} → (P → F → Type 0) → Option P → Option F → Type 0
IsAt Of None f = Unit {0}
IsAt Of (Some p) f = IsOf Of p f

at : {W P F : Type 0} (Of : P → F → Type 0) (ks : List (Key W P)) (fs : List (Option F)) → AreOf Of ks fs → (i : ℕ) → IsAt Of (place_at ks i) (field_in fs i)
at Of [] [] h i = tt
at Of [] (f ∷ fs) h i = absurd h
at Of (k ∷ ks) [] h i = absurd h
at Of (k ∷ ks) (f ∷ fs) h zero = h.0
at Of (k ∷ ks) (f ∷ fs) h (suc i) = at Of ks fs h.1 i

fewer : {W P F : Type 0} (Of : P → F → Type 0) (ks : List (Key W P)) (fs : List (Option F)) (i : ℕ) → AreOf Of ks fs → AreOf Of ks (without fs i)
fewer Of [] [] i h = tt
fewer Of [] (f ∷ fs) i h = absurd h
fewer Of (k ∷ ks) [] i h = absurd h
fewer Of (k ∷ ks) (f ∷ fs) zero h = (tt, h.1)
fewer Of (k ∷ ks) (f ∷ fs) (suc i) h = (h.0, fewer Of ks fs i h.1)

-- ---- tables within tables

abbrev row_required : Required Presence
row_required presence table = Ok (must_stand presence)

row_fits : (e : Earlier) (ks : List (Key Presence ObjectPlace)) (table : Members) → Given (AreOf (Fits e) ks) (fields_of row_required (plain_field e) ks table)
row_fits e ks table = from_sorted (AreOf (Fits e) ks) (fields_of row_required (plain_field e) ks table) (fields_fit (Fits e) row_required (plain_field e) (λ p d. to_sorted (Fits e p) (plain_field e p d) (plain_fits e p d)) ks table)

listed_fits : (e : Earlier) (ks : List (Key Presence ObjectPlace)) (table : Members) → Given (AreOf (Fits e) ks) (row_of row_required (plain_field e) ks table)
listed_fits e ks table = by_test (are_listed false ks table)
  where
    by_test : (b : Bool) → Given (AreOf (Fits e) ks) (if b then fields_of row_required (plain_field e) ks table else Err fault.Key)
    by_test false = tt
    by_test true = row_fits e ks table

-- the object of a field that is wanted there, where it must be there, and where it may be
module _ (e : Earlier) (wanted : Wanted) (f : Option Field) (h : IsOf (Fits e) (place.Object wanted) f) where
  found : Given (IfThere (IsServed e wanted)) (object_in f)
  found = object_so (Fits e) (place.Object wanted) f h

  there : Given (IsServed e wanted) (must (object_in f))
  there = must_so (IsServed e wanted) (object_in f) found

abbrev IsPartServed : Earlier → Part → Type 0
IsPartServed e part = IsServed e Member part.member

part_made_fits : (e : Earlier) (fs : List (Option Field)) → AreOf (Fits e) part_keys fs → Given (IsPartServed e) (part_made fs)
part_made_fits e fs h =
    bound (IsServed e Member) (IsPartServed e) (must (object_in (field_in fs 0))) _ (there e Member (field_in fs 0) (at (Fits e) part_keys fs h 0))
    (λ member is. past (IsPartServed e) (must (weight_in (field_in fs 1))) _ (λ weight. is))

part_fits : (e : Earlier) (d : Data) → Given (IsPartServed e) (part_in e d)
part_fits e d =
    past (IsPartServed e) (table_in d) _
    (λ table. bound (AreOf (Fits e) part_keys) (IsPartServed e) (row_of row_required (plain_field e) part_keys table) part_made (listed_fits e part_keys table) (part_made_fits e))

each_fits : (e : Earlier) (ds : Items) → Given (ArePartsServed e) (each (part_in e) ds)
each_fits e no_items = tt
each_fits e (item d ds) =
    bound (IsPartServed e) (ArePartsServed e) (part_in e d) (λ x. each (part_in e) ds >>= (λ xs. Ok (x ∷ xs))) (part_fits e d)
    (λ x hx. bound (ArePartsServed e) (ArePartsServed e) (each (part_in e) ds) (λ xs. Ok (x ∷ xs)) (each_fits e ds) (λ xs hs. (hx, hs)))

parts_fits : (e : Earlier) (d : Data) → Given (Fits e place.Parts) (parts_field e d)
parts_fits e d =
    past (Fits e place.Parts) (tables_in d) (λ ds. each (part_in e) ds >>= (λ parts. Ok (field.Parts parts)))
    (λ ds. bound (ArePartsServed e) (Fits e place.Parts) (each (part_in e) ds) (λ parts. Ok (field.Parts parts)) (each_fits e ds) (λ parts h. h))

-- ---- helpers

-- a helper whose quote is served, of a tenor that may stand beside its frequency
helper_of_fits : (e : Earlier) (fs : List (Option Field)) (every : Option Tenor) (position : ℕ) (Q : Tenor → Type 0) → IsOf (Fits e) (place.Object QuoteInput) (field_in fs 0)
    → Given (IfThere Q) (tenor_in (field_in fs 1)) → ((tenor : Tenor) → Q tenor → AreTenors tenor every) → Given (IsHelperServed e) (helper_of fs every position)
helper_of_fits e fs every position Q hq ht tells =
    bound (IsServed e QuoteInput) (IsHelperServed e) (must (object_in (field_in fs 0))) _ (there e QuoteInput (field_in fs 0) hq)
    (λ quote is. bound Q (IsHelperServed e) (must (tenor_in (field_in fs 1))) _ (must_so Q (tenor_in (field_in fs 1)) ht)
    (λ tenor h. past (IsHelperServed e) (must (convention_in (field_in fs position))) _ (λ conv. past (IsHelperServed e) (flag_in (field_in fs (position + 1))) _
    (λ eom. past (IsHelperServed e) (must (counter_in (field_in fs (position + 2)))) _ (λ counter. (is, tells tenor h))))))

helper_made_fits : (e : Earlier) (k : HelperKind) (fs : List (Option Field)) → AreOf (Fits e) (helper_keys_of k) fs → Given (IsHelperServed e) (helper_made k fs)
helper_made_fits e helper.Deposit fs h =
    helper_of_fits e fs None 2 IsTenor (at (Fits e) (helper_keys_of helper.Deposit) fs h 0) (tenor_so (Fits e) place.Tenor (field_in fs 1) (at (Fits e) (helper_keys_of helper.Deposit) fs h 1)) (λ tenor ht. ht)
helper_made_fits e helper.Swap fs h =
    bound IsOfMonths (IsHelperServed e) (must (tenor_in (field_in fs 2))) _
    (must_so IsOfMonths (tenor_in (field_in fs 2)) (tenor_so (Fits e) place.Months (field_in fs 2) (at (Fits e) (helper_keys_of helper.Swap) fs h 2)))
    (λ every he. helper_of_fits e fs (Some every) 3 IsOfMonths (at (Fits e) (helper_keys_of helper.Swap) fs h 0)
    (tenor_so (Fits e) place.Months (field_in fs 1) (at (Fits e) (helper_keys_of helper.Swap) fs h 1)) (λ tenor ht. (ht, he)))

abbrev AreHelperFields : Earlier → HelperKind × List (Option Field) → Type 0
AreHelperFields e entry = AreOf (Fits e) (helper_keys_of entry.0) entry.1

helper_fields_fit : (e : Earlier) (table : Members) (k : HelperKind)
    → Given (AreHelperFields e) (if are_listed true (helper_keys_of k) table then fields_of row_required (plain_field e) (helper_keys_of k) table >>= (λ fs. Ok (k, fs)) else Err fault.Key)
helper_fields_fit e table k = by_test (are_listed true (helper_keys_of k) table)
  where
    by_test : (b : Bool) → Given (AreHelperFields e) (if b then fields_of row_required (plain_field e) (helper_keys_of k) table >>= (λ fs. Ok (k, fs)) else Err fault.Key)
    by_test false = tt
    by_test true =
        bound (AreOf (Fits e) (helper_keys_of k)) (AreHelperFields e) (fields_of row_required (plain_field e) (helper_keys_of k) table) (λ fs. Ok (k, fs)) (row_fits e (helper_keys_of k) table) (λ fs h. h)

helper_fits : (e : Earlier) (d : Data) → Given (IsHelperServed e) (helper_in e d)
helper_fits e d =
    past (IsHelperServed e) (table_in d) _
    (λ table. bound (AreHelperFields e) (IsHelperServed e) (entry_of helper_kind_of helper_keys_of row_required (plain_field e) table) (λ entry. helper_made entry.0 entry.1)
    (past (AreHelperFields e) (kind_in helper_kind_of table) _ (helper_fields_fit e table))
    (λ entry h. helper_made_fits e entry.0 entry.1 h))

each_helper_fits : (e : Earlier) (ds : Items) → Given (AreHelpersServed e) (each (helper_in e) ds)
each_helper_fits e no_items = (tt, All-nil IsHelper)
each_helper_fits e (item d ds) =
    bound (IsHelperServed e) (AreHelpersServed e) (helper_in e d) (λ x. each (helper_in e) ds >>= (λ xs. Ok (x ∷ xs))) (helper_fits e d)
    (λ x hx. bound (AreHelpersServed e) (AreHelpersServed e) (each (helper_in e) ds) (λ xs. Ok (x ∷ xs)) (each_helper_fits e ds) (λ xs hs. ((hx.0, hs.0), All-cons IsHelper x xs hx.1 hs.1)))

counted_fits : (e : Earlier) (hs : List Helper) → AreHelpersServed e hs → Given (AreFewServed e) (counted hs)
counted_fits e hs h = by_test ((length hs == 0) || nat_lt 64 (length hs)) refl
  where
    by_test : (b : Bool) → ((length hs == 0) || nat_lt 64 (length hs)) ≡ b → Given (AreFewServed e) (if b then Err fault.Parts else Ok hs)
    by_test true is = tt
    by_test false is = (few (length hs) is, h)
      where
        few : (n : ℕ) → ((n == 0) || nat_lt 64 n) ≡ false → IsFrom 1 64 n
        few zero is = absurd cc
        few (suc n) is = (omega arith, grind (arith, nat_tests))

helpers_fits : (e : Earlier) (d : Data) → Given (Fits e place.Helpers) (helpers_field e d)
helpers_fits e d =
    past (Fits e place.Helpers) (tables_in d) _
    (λ ds. bound (AreHelpersServed e) (Fits e place.Helpers) (each (helper_in e) ds) _ (each_helper_fits e ds)
    (λ hs h. bound (AreFewServed e) (Fits e place.Helpers) (counted hs) (λ few. Ok (field.Helpers few)) (counted_fits e hs h) (λ few hf. hf)))

place_fits : (e : Earlier) (p : ObjectPlace) (d : Data) → Given (Fits e p) (place_field e p d)
place_fits e place.Parts d = parts_fits e d
place_fits e place.Helpers d = helpers_fits e d
place_fits e place.NewName d = plain_fits e place.NewName d
place_fits e (place.Object wanted) d = plain_fits e (place.Object wanted) d
place_fits e place.AnyObject d = plain_fits e place.AnyObject d
place_fits e place.Target d = plain_fits e place.Target d
place_fits e place.Day d = plain_fits e place.Day d
place_fits e place.Weight d = plain_fits e place.Weight d
place_fits e place.Calendar d = plain_fits e place.Calendar d
place_fits e place.Count d = plain_fits e place.Count d
place_fits e place.Tenor d = plain_fits e place.Tenor d
place_fits e place.Months d = plain_fits e place.Months d
place_fits e place.Rule d = plain_fits e place.Rule d
place_fits e place.Convention d = plain_fits e place.Convention d
place_fits e place.Flag d = plain_fits e place.Flag d
place_fits e place.Counter d = plain_fits e place.Counter d
place_fits e place.Notional d = plain_fits e place.Notional d
place_fits e place.Rate d = plain_fits e place.Rate d
place_fits e place.Leg d = plain_fits e place.Leg d
place_fits e place.Position d = plain_fits e place.Position d

-- ---- terms

-- the terms are within their limits if their flows are
abbrev pub IsRanged : Terms → Type 0
IsRanged t = HasFlowsInRange t → AreLimited t

-- the terms are within their limits if their flows are, and the inputs are of their kinds
abbrev pub MayBeMade : Earlier → Terms → Type 0
MayBeMade e t = IsRanged t × AreServed e.kinds (inputs_of t)

abbrev pub IsEntry : Earlier → List ℕ × Terms → Type 0
IsEntry e entry = IsFree e entry.0 × MayBeMade e entry.1

module _ (e : Earlier) (fs : List (Option Field)) where
  derived_fits : (minus : Bool) → IsOf (Fits e) (place.Object QuoteInput) (field_in fs 1) → IsOf (Fits e) (place.Object QuoteInput) (field_in fs 2) → Given (MayBeMade e) (derived_of minus fs)
  derived_fits minus hf hg =
      bound (IsServed e QuoteInput) (MayBeMade e) (must (object_in (field_in fs 1))) _ (there e QuoteInput (field_in fs 1) hf)
      (λ a ha. bound (IsServed e QuoteInput) (MayBeMade e) (must (object_in (field_in fs 2))) _ (there e QuoteInput (field_in fs 2) hg) (λ b hb. ((λ _. tt), (ha, (hb, tt)))))

  linked_fits : (k : HandleKind) (n : Option Named) → IfThere (IsKnown e) n → Given (MayBeMade e) (linked k n)
  linked_fits handle.Quote None h = ((λ _. tt), tt)
  linked_fits handle.Curve None h = ((λ _. tt), tt)
  linked_fits handle.Quote (Some n) h =
      bound (IsServed e (target_wanted handle.Quote)) (MayBeMade e) (served (target_wanted handle.Quote) n) (λ o. Ok (terms.Handle handle.Quote (Some o)))
      (served_so e (target_wanted handle.Quote) n h) (λ o ho. ((λ _. tt), (ho, tt)))
  linked_fits handle.Curve (Some n) h =
      bound (IsServed e (target_wanted handle.Curve)) (MayBeMade e) (served (target_wanted handle.Curve) n) (λ o. Ok (terms.Handle handle.Curve (Some o)))
      (served_so e (target_wanted handle.Curve) n h) (λ o ho. ((λ _. tt), (ho, tt)))

  handle_fits : IsOf (Fits e) place.AnyObject (field_in fs 2) → Given (MayBeMade e) (handle_of fs)
  handle_fits h =
      past (MayBeMade e) (must (target_in (field_in fs 1))) _
      (λ k. bound (IfThere (IsKnown e)) (MayBeMade e) (named_in (field_in fs 2)) (linked k) (named_so (Fits e) place.AnyObject (field_in fs 2) h) (linked_fits k))

  start_fits : (settlement : Option ℕ) (reference : Option ℤ) → IfThere (λ n. n ≤ 30) settlement → Given IsStart (start_of settlement reference)
  start_fits (Some settlement) None few = few
  start_fits None (Some reference) few = tt
  start_fits (Some settlement) (Some reference) few = tt
  start_fits None None few = tt

  curve_fits : IsOf (Fits e) place.Count (field_in fs 2) → IsOf (Fits e) place.Helpers (field_in fs 4) → Given (MayBeMade e) (curve_of fs)
  curve_fits hc hh =
      bound (IfThere (λ n. n ≤ 30)) (MayBeMade e) (count_in (field_in fs 2)) _ (count_so (Fits e) place.Count (field_in fs 2) hc)
      (λ settlement few. past (MayBeMade e) (day_in (field_in fs 3)) _
      (λ reference. bound IsStart (MayBeMade e) (start_of settlement reference) _ (start_fits settlement reference few)
      (λ start begins. past (MayBeMade e) (must (calendar_in (field_in fs 1))) _
      (λ cal. bound (AreFewServed e) (MayBeMade e) (must (helpers_in (field_in fs 4))) _ (must_so (AreFewServed e) (helpers_in (field_in fs 4)) (helpers_so (Fits e) place.Helpers (field_in fs 4) hh))
      (λ helpers h. ((λ _. record { start = begins; count = h.0; helpers = h.1.1 }), h.1.0))))))

  implied_fits : IsOf (Fits e) (place.Object CurveInput) (field_in fs 1) → Given (MayBeMade e) (implied_of fs)
  implied_fits h =
      bound (IsServed e CurveInput) (MayBeMade e) (must (object_in (field_in fs 1))) _ (there e CurveInput (field_in fs 1) h)
      (λ c hc. past (MayBeMade e) (must (day_in (field_in fs 2))) _ (λ day. ((λ _. tt), (hc, tt))))

  index_fits : IsOf (Fits e) place.Count (field_in fs 2) → IsOf (Fits e) place.Tenor (field_in fs 3) → IsOf (Fits e) (place.Object CurveInput) (field_in fs 7) → Given (MayBeMade e) (index_of fs)
  index_fits hn ht hc =
      bound (λ n. n ≤ 30) (MayBeMade e) (must (count_in (field_in fs 2))) _ (must_so (λ n. n ≤ 30) (count_in (field_in fs 2)) (count_so (Fits e) place.Count (field_in fs 2) hn))
      (λ days few. bound IsTenor (MayBeMade e) (must (tenor_in (field_in fs 3))) _ (must_so IsTenor (tenor_in (field_in fs 3)) (tenor_so (Fits e) place.Tenor (field_in fs 3) ht))
      (λ tenor h. past (MayBeMade e) (must (convention_in (field_in fs 4))) _ (λ conv. past (MayBeMade e) (flag_in (field_in fs 5)) _ (λ eom. past (MayBeMade e) (must (counter_in (field_in fs 6))) _
      (λ counter. bound (IsServed e CurveInput) (MayBeMade e) (must (object_in (field_in fs 7))) _ (there e CurveInput (field_in fs 7) hc)
      (λ curve is. past (MayBeMade e) (must (calendar_in (field_in fs 1))) _ (λ cal. ((λ _. record { fixing_days = few; tenor = h }), (is, tt)))))))))

  engine_fits : IsOf (Fits e) (place.Object CurveInput) (field_in fs 1) → Given (MayBeMade e) (engine_of fs)
  engine_fits h = bound (IsServed e CurveInput) (MayBeMade e) (must (object_in (field_in fs 1))) _ (there e CurveInput (field_in fs 1) h) (λ c hc. ((λ _. tt), (hc, tt)))

  stock_fits : IsOf (Fits e) (place.Object QuoteInput) (field_in fs 1) → Given (MayBeMade e) (stock_of fs)
  stock_fits h = bound (IsServed e QuoteInput) (MayBeMade e) (must (object_in (field_in fs 1))) _ (there e QuoteInput (field_in fs 1) h) (λ q hq. ((λ _. tt), (hq, tt)))

  composite_fits : (parts : List Part) → ArePartsServed e parts → Given (MayBeMade e) (composite_of parts)
  composite_fits parts h = by_test (nat_lt 4095 (length parts)) refl
    where
      by_fault : length parts ≤ 4095 → (found : Option LimitFault) → first_fault [] parts ≡ found → Given (MayBeMade e) (limited (unless found parts))
      by_fault few None is = ((λ _. record { few = few; within = are_within parts is }), h)
      by_fault few (Some f) is = tt

      by_test : (b : Bool) → nat_lt 4095 (length parts) ≡ b → Given (MayBeMade e) (if b then Err fault.Parts else limited (composite_or_fault parts))
      by_test true is = tt
      by_test false is = by_fault (grind (arith, nat_tests)) (first_fault [] parts) refl

  or_no_parts_fits : (parts : Option (List Part)) → IfThere (ArePartsServed e) parts → Given (MayBeMade e) (or_no_parts parts)
  or_no_parts_fits None h = composite_fits [] tt
  or_no_parts_fits (Some parts) h = composite_fits parts h

  parts_of_fits : (f : Option Field) → IsOf (Fits e) place.Parts f → Given (MayBeMade e) (parts_of f)
  parts_of_fits f h = bound (IfThere (ArePartsServed e)) (MayBeMade e) (parts_in f) or_no_parts (parts_so (Fits e) place.Parts f h) or_no_parts_fits

-- ---- instruments

flows_served : (e : Earlier) (flows : List FlowTerm) (index engine : Option ℕ) → IfThere (IsServed e Index) index → IfThere (IsServed e Engine) engine
    → AreServed e.kinds (inputs_of (terms.Flows (record { flows = flows; index = index }) engine))
flows_served e flows None None hi he = tt
flows_served e flows (Some index) None hi he = (hi, tt)
flows_served e flows None (Some engine) hi he = (he, tt)
flows_served e flows (Some index) (Some engine) hi he = (he, (hi, tt))

instrument_fits : (e : Earlier) (flows : List FlowTerm) (index engine : Option ℕ) → IfThere (IsServed e Index) index → IfThere (IsServed e Engine) engine
    → Given (MayBeMade e) (instrument_of flows index engine)
instrument_fits e flows index engine hi he = by_none (length flows == 0)
  where
    by_many : (b : Bool) → Given (MayBeMade e) (limited (if b then Err TooManyFlows else Ok (terms.Flows (record { flows = flows; index = index }) engine)))
    by_many true = tt
    by_many false = ((λ within. within), flows_served e flows index engine hi he)

    by_none : (b : Bool) → Given (MayBeMade e) (limited (if b then Err NoFlow else (if nat_lt MOST_FLOWS (length flows) then Err TooManyFlows else Ok (terms.Flows (record { flows = flows; index = index }) engine))))
    by_none true = tt
    by_none false = by_many (nat_lt MOST_FLOWS (length flows))

module _ (e : Earlier) (fs : List (Option Field)) where
  bond_fits : IsOf (Fits e) (place.Object Engine) (field_in fs 5) → IsOf (Fits e) (place.Object Index) (field_in fs 8) → Given (MayBeMade e) (bond_of e fs)
  bond_fits he hi =
      past (MayBeMade e) (must (notional_in (field_in fs 1))) _ (λ n. past (MayBeMade e) (span_of fs 2) _
      (λ span. bound (IfThere (IsServed e Engine)) (MayBeMade e) (object_in (field_in fs 5)) _ (found e Engine (field_in fs 5) he)
      (λ engine engine_is. past (MayBeMade e) (lag_in (field_in fs 6)) _
      (λ lag. bound (IfThere (IsServed e Index)) (MayBeMade e) (object_in (field_in fs 8)) _ (found e Index (field_in fs 8) hi)
      (λ index index_is. past (MayBeMade e) (coupons_of e fs span lag n index []) _ (λ coupons. past (MayBeMade e) (redeemed coupons span.cal lag span.end n) _ (λ flows. instrument_fits e flows index engine index_is engine_is)))))))

  swap_fits : IsOf (Fits e) (place.Object Engine) (field_in fs 6) → IsOf (Fits e) (place.Object Index) (field_in fs 15) → Given (MayBeMade e) (swap_of e fs)
  swap_fits he hi =
      past (MayBeMade e) (span_of fs 3) _
      (λ span. bound (IfThere (IsServed e Engine)) (MayBeMade e) (object_in (field_in fs 6)) _ (found e Engine (field_in fs 6) he)
      (λ engine engine_is. past (MayBeMade e) (lag_in (field_in fs 7)) _ (λ lag. past (MayBeMade e) (rules_of fs 8) _ (λ rules. past (MayBeMade e) (must (tenor_in (field_in fs 13))) _
      (λ fixed_every. bound (IfThere (IsServed e Index)) (MayBeMade e) (object_in (field_in fs 15)) _ (found e Index (field_in fs 15) hi)
      (λ index index_is. past (MayBeMade e) (must (tenor_in (field_in fs 17))) _ (λ float_every. past (MayBeMade e) (dates_of span rules fixed_every None None) _
      (λ fixed_days. past (MayBeMade e) (dates_of span rules float_every None None) _ (λ float_days. past (MayBeMade e) (fixed_side fs span.cal lag fixed_days []) _
      (λ fixed. past (MayBeMade e) (float_side e fs span.cal lag float_days index fixed) _ (λ flows. instrument_fits e flows index engine index_is engine_is)))))))))))

  forward_fits : IsOf (Fits e) (place.Object Index) (field_in fs 3) → IsOf (Fits e) (place.Object Engine) (field_in fs 6) → Given (MayBeMade e) (forward_of e fs)
  forward_fits hi he =
      bound (IsServed e Index) (MayBeMade e) (must (object_in (field_in fs 3))) _ (there e Index (field_in fs 3) hi)
      (λ index index_is. bound (IfThere (IsServed e Engine)) (MayBeMade e) (object_in (field_in fs 6)) _ (found e Engine (field_in fs 6) he)
      (λ engine engine_is. past (MayBeMade e) (settlement_of e fs index []) _ (λ flows. instrument_fits e flows (Some index) engine index_is engine_is)))

-- ---- entries

terms_fit : (e : Earlier) (k : ObjectKind) (fs : List (Option Field)) → AreOf (Fits e) (keys_of k) fs → Given (MayBeMade e) (terms_of e k fs)
terms_fit e kind.Sum fs h = derived_fits e fs false (at (Fits e) (keys_of kind.Sum) fs h 1) (at (Fits e) (keys_of kind.Sum) fs h 2)
terms_fit e kind.Difference fs h = derived_fits e fs true (at (Fits e) (keys_of kind.Difference) fs h 1) (at (Fits e) (keys_of kind.Difference) fs h 2)
terms_fit e kind.Handle fs h = handle_fits e fs (at (Fits e) (keys_of kind.Handle) fs h 2)
terms_fit e kind.Curve fs h = curve_fits e fs (at (Fits e) (keys_of kind.Curve) fs h 2) (at (Fits e) (keys_of kind.Curve) fs h 4)
terms_fit e kind.Implied fs h = implied_fits e fs (at (Fits e) (keys_of kind.Implied) fs h 1)
terms_fit e kind.Index fs h = index_fits e fs (at (Fits e) (keys_of kind.Index) fs h 2) (at (Fits e) (keys_of kind.Index) fs h 3) (at (Fits e) (keys_of kind.Index) fs h 7)
terms_fit e kind.Engine fs h = engine_fits e fs (at (Fits e) (keys_of kind.Engine) fs h 1)
terms_fit e kind.Stock fs h = stock_fits e fs (at (Fits e) (keys_of kind.Stock) fs h 1)
terms_fit e kind.Composite fs h = parts_of_fits e fs (field_in fs 1) (at (Fits e) (keys_of kind.Composite) fs h 1)
terms_fit e kind.Bond fs h = bond_fits e fs (at (Fits e) (keys_of kind.Bond) fs h 5) (at (Fits e) (keys_of kind.Bond) fs h 8)
terms_fit e kind.Swap fs h = swap_fits e fs (at (Fits e) (keys_of kind.Swap) fs h 6) (at (Fits e) (keys_of kind.Swap) fs h 15)
terms_fit e kind.Fra fs h = forward_fits e fs (at (Fits e) (keys_of kind.Fra) fs h 3) (at (Fits e) (keys_of kind.Fra) fs h 6)

made_fits : (e : Earlier) (fs : List (Option Field)) (r : Result Terms MarketKind) → IsOf (Fits e) place.NewName (field_in fs 0) → Given (MayBeMade e) r
    → Given (IsEntry e) (must (name_in (field_in fs 0)) >>= (λ name. r >>= (λ t. Ok (name, t))))
made_fits e fs r hf hr =
    bound (IsFree e) (IsEntry e) (must (name_in (field_in fs 0))) _ (must_so (IsFree e) (name_in (field_in fs 0)) (name_so (Fits e) place.NewName (field_in fs 0) hf))
    (λ name hn. bound (MayBeMade e) (IsEntry e) r (λ t. Ok (name, t)) hr (λ t ht. (hn, ht)))

-- the first key of each kind is that of its name
name_at : (e : Earlier) (k : ObjectKind) (fs : List (Option Field)) → AreOf (Fits e) (keys_of k) fs → IsOf (Fits e) place.NewName (field_in fs 0)
name_at e kind.Sum fs h = at (Fits e) (keys_of kind.Sum) fs h 0
name_at e kind.Difference fs h = at (Fits e) (keys_of kind.Difference) fs h 0
name_at e kind.Handle fs h = at (Fits e) (keys_of kind.Handle) fs h 0
name_at e kind.Curve fs h = at (Fits e) (keys_of kind.Curve) fs h 0
name_at e kind.Implied fs h = at (Fits e) (keys_of kind.Implied) fs h 0
name_at e kind.Index fs h = at (Fits e) (keys_of kind.Index) fs h 0
name_at e kind.Engine fs h = at (Fits e) (keys_of kind.Engine) fs h 0
name_at e kind.Stock fs h = at (Fits e) (keys_of kind.Stock) fs h 0
name_at e kind.Composite fs h = at (Fits e) (keys_of kind.Composite) fs h 0
name_at e kind.Bond fs h = at (Fits e) (keys_of kind.Bond) fs h 0
name_at e kind.Swap fs h = at (Fits e) (keys_of kind.Swap) fs h 0
name_at e kind.Fra fs h = at (Fits e) (keys_of kind.Fra) fs h 0

entry_fits : (e : Earlier) (k : ObjectKind) (fs : List (Option Field)) → AreOf (Fits e) (keys_of k) fs → Given (IsEntry e) (entry_made e k fs)
entry_fits e k fs h = made_fits e fs (terms_of e k (without fs 0)) (name_at e k fs h) (terms_fit e k (without fs 0) (fewer (Fits e) (keys_of k) fs 0 h))

abbrev AreFields : Earlier → ObjectKind × List (Option Field) → Type 0
AreFields e entry = AreOf (Fits e) (keys_of entry.0) entry.1

fields_fit_in : (e : Earlier) (table : Members) (k : ObjectKind) → Given (AreFields e) (if are_listed true (keys_of k) table then fields_of required (place_field e) (keys_of k) table >>= (λ fs. Ok (k, fs)) else Err fault.Key)
fields_fit_in e table k = by_test (are_listed true (keys_of k) table)
  where
    by_test : (b : Bool) → Given (AreFields e) (if b then fields_of required (place_field e) (keys_of k) table >>= (λ fs. Ok (k, fs)) else Err fault.Key)
    by_test false = tt
    by_test true =
        bound (AreOf (Fits e) (keys_of k)) (AreFields e) (fields_of required (place_field e) (keys_of k) table) (λ fs. Ok (k, fs))
        (from_sorted (AreOf (Fits e) (keys_of k)) (fields_of required (place_field e) (keys_of k) table) (fields_fit (Fits e) required (place_field e) (λ p d. to_sorted (Fits e p) (place_field e p d) (place_fits e p d)) (keys_of k) table))
        (λ fs h. h)

-- what a table makes has a name that is free, keeps its limits, and rests on what stands before
pub entry_in_fits : (e : Earlier) (d : Data) → Given (IsEntry e) (entry_in e d)
entry_in_fits e d =
    past (IsEntry e) (table_in d) _ (λ table. past (IsEntry e) (in_version e.version table) _
    (λ table. bound (AreFields e) (IsEntry e) (entry_of kind_of keys_of required (place_field e) table) (λ entry. entry_made e entry.0 entry.1)
    (past (AreFields e) (kind_in kind_of table) _ (fields_fit_in e table))
    (λ entry h. entry_fits e entry.0 entry.1 h)))
