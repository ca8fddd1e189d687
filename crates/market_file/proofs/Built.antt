-- The objects of a market as they are read: each rests on those before it.
use Rattle.std.proofs.Common.{◌≡◌, ◌≤◌, ℕ, zero, suc, ◌+◌, Bool, true, false, List, [], ◌∷◌, ◌++◌, length, Option, Some, None, Result, Ok, Err, refl, sym, ◌∙◌, ap, subst, arith, append_assoc, length-append}
use Rattle.std.specs.Prelude.{if◌then◌else◌, ◌==◌, slice_get, slice_set, ◌-◌, nat_le, codes, is_some, ℤ}
use Rattle.std.specs.List.{All}
use Rattle.std.specs.Str.{bytes_eq}
use Rattle.std.proofs.lemmas.Bool.Decides.{nat_tests}
use Rattle.std.proofs.lemmas.List.{append-nil}
use Rattle.std.proofs.lemmas.List.Elements.{All-nil, All-cons, All-head, All-tail, All-pop}
use Rattle.csv.specs.Reading.{default_config, strip_bom, records}
use Rattle.toml.specs.Data.{Data, Items, no_items, item, Members}
use Rattle.desk_names.specs.Names.{has_text, with_text, place_of}
use Rattle.desk_terms.specs.declared.kind.Kind.{Kind}
use Rattle.desk_terms.specs.declared.kind.Kind.TheVariants.{Today}
use Rattle.desk_terms.specs.declared.kind.Wanted.TheVariants.{Index}
use Rattle.desk_terms.specs.declared.reference.Reference.{Reference}
use Rattle.desk_terms.specs.declared.terms.Terms.{Terms}
use Rattle.desk_terms.specs.declared.terms.Terms.TheVariants as terms
use Rattle.desk_terms.specs.Reading.{AreInRange}
use Rattle.desk_terms.specs.Terms.{kind_of, inputs_of}
use Rattle.flow_terms.specs.Fixings.{fixing_on}
use Rattle.market_tables.specs.declared.fault.MarketKind.{MarketKind}
use Rattle.market_tables.specs.declared.fault.MarketKind.TheVariants as fault
use Rattle.market_tables.specs.Given.{◌>>=◌}
use Rattle.market_tables.specs.Values.{day_of}
use Rattle.market_tables.specs.Entries.{at_entry, next_entry, entries_from}
use Rattle.market_records.specs.Row.{field}
use Rattle.market_records.specs.Records.{record_step, behind_records}
use Rattle.market_calendars.specs.Reader.{calendars_in}
use Rattle.market_calendars.specs.Calendars.{Calendars}
use Rattle.market_fields.specs.Earlier.{Earlier, named_object, served, new_name}
use Rattle.market_fields.specs.Limited.{rate_of}
use Rattle.market_fields.specs.declared.version.Version.{Version}
use Rattle.market_objects.specs.Board.{started, added, HasFlowsInRange, HaveFlowsInRange}
use Rattle.market_objects.specs.Reader as object
use Rattle.market_objects.specs.Quotes as quote
use Rattle.market_objects.specs.Fixings as fixing
use Rattle.market_file.specs.declared.fault.Section.{Section}
use Rattle.market_file.specs.declared.fault.Section.TheVariants as section
use Rattle.market_file.specs.declared.top.TopTable.{TopTable}
use Rattle.market_file.specs.Fault.{at_entry as at_number, in_section}
use Rattle.market_file.specs.Document.{document_of}
use Rattle.market_file.specs.Top.{top_of}
use Rattle.market_file.specs.Market.{tables_at, sized, table_sized, quotes_onto, objects_onto, fixings_onto, objects_of, board_of}
use Rattle.market_file.specs.Standing.{AreServed, AreLimited, IsNext, AreInOrder, IsReady}
use Rattle.instrument_terms.proofs.RangeLemmas.{each_in_range}
use Rattle.market_file.proofs.Given.{Given, bound, past, holds, at_given}
use Rattle.market_file.proofs.Served.{IsEntry, new_name_free, entry_in_fits}

abbrev kinds_of : List (ℕ × Terms) → List Kind
kinds_of [] = []
kinds_of (entry ∷ made) = kind_of entry.1 ∷ kinds_of made

pub record IsBuilt (b : Earlier) : Type 0 where
  pub kinds : b.kinds ≡ Today ∷ kinds_of b.made
  pub names : length b.names ≡ length b.kinds
  pub first : slice_get b.names 0 ≡ Some (codes "today")
  pub room : length b.kinds ≤ 4096
  pub order : HaveFlowsInRange b.made → AreInOrder (Today ∷ []) b.made

abbrev HasFlows : ℕ × Terms → Type 0
HasFlows entry = HasFlowsInRange entry.1

-- ---- one object more

kinds_more : (made : List (ℕ × Terms)) (entry : ℕ × Terms) → kinds_of (made ++ entry ∷ []) ≡ kinds_of made ++ kind_of entry.1 ∷ []
kinds_more [] entry = refl
kinds_more (e ∷ made) entry = ap (λ (ks : List Kind). kind_of e.1 ∷ ks) (kinds_more made entry)

kinds_count : (made : List (ℕ × Terms)) → length (kinds_of made) ≡ length made
kinds_count [] = refl
kinds_count (e ∷ made) = ap suc (kinds_count made)

order_more : (kinds : List Kind) (made : List (ℕ × Terms)) (entry : ℕ × Terms) → AreInOrder kinds made → IsNext (kinds ++ kinds_of made) entry
    → AreInOrder kinds (made ++ entry ∷ [])
order_more kinds [] entry order next = (subst (λ (ks : List Kind). IsNext ks entry) (append-nil kinds) next, tt)
order_more kinds (e ∷ made) entry order next =
    (order.0, order_more (kinds ++ kind_of e.1 ∷ []) made entry order.1 (subst (λ (ks : List Kind). IsNext ks entry) (sym (append_assoc kinds (kind_of e.1 ∷ []) (kinds_of made))) next))

new_text : (names : List (List ℕ)) (name : List ℕ) → has_text names name ≡ false → with_text names name ≡ names ++ name ∷ []
unfolding with_text
new_text names name free = rw free refl

new_place : (names : List (List ℕ)) (name : List ℕ) → has_text names name ≡ false → place_of names name ≡ length names
unfolding has_text place_of
new_place [] name free = refl
new_place (other ∷ names) name free = by_test (new_place names name) (bytes_eq name other) refl
  where
    by_test : (has_text names name ≡ false → place_of names name ≡ length names) → (b : Bool) → bytes_eq name other ≡ b → place_of (other ∷ names) name ≡ suc (length names)
    by_test more true is = let bad : has_text (other ∷ names) name ≡ true = rw is refl in absurd (cc)
    by_test more false is =
        let rest : has_text names name ≡ false = let here : has_text (other ∷ names) name ≡ has_text names name = rw is refl in sym here ∙ free in
        let one : place_of (other ∷ names) name ≡ 1 + place_of names name = rw is refl in
        let last : 1 + length names ≡ suc (length names) = omega arith in
        one ∙ ap (λ (n : ℕ). 1 + n) (more rest) ∙ last

first_kept : (names more : List (List ℕ)) (name : List ℕ) → slice_get names 0 ≡ Some name → slice_get (names ++ more) 0 ≡ Some name
first_kept [] more name is = absurd (cc)
first_kept (n ∷ names) more name is = is

-- what is within the limits of a market is in range
limited_ranged : (t : Terms) → AreLimited t → AreInRange t
limited_ranged (terms.Quote value) h = tt
limited_ranged (terms.Derived minus first second) h = tt
limited_ranged (terms.Handle kind target) h = tt
limited_ranged (terms.Curve curve) h = h
limited_ranged (terms.Implied curve reference) h = tt
limited_ranged (terms.Index index fixings) h = h
limited_ranged (terms.Engine curve) h = tt
limited_ranged (terms.Stock quote) h = tt
limited_ranged (terms.Composite parts) h = let few = h.few in record { count = omega (arith, few); each = each_in_range parts h.within }
limited_ranged (terms.Flows flows engine) h = h

added_built : (b : Earlier) (name : List ℕ) (t : Terms) → IsBuilt b → IsEntry b (name, t) → Given IsBuilt (added b name t)
added_built b name t built entry = by_test (nat_le 4096 (length b.kinds)) refl
  where
    next : HasFlowsInRange t → IsNext (Today ∷ kinds_of b.made) (place_of b.names name, t)
    next flows = record {
      number = new_place b.names name entry.0 ∙ built.names ∙ ap length built.kinds;
      ranged = limited_ranged t (entry.1.0 flows);
      limited = entry.1.0 flows;
      inputs = subst (λ (ks : List Kind). AreServed ks (inputs_of t)) built.kinds entry.1.1;
    }

    by_test : (is_full : Bool) → nat_le 4096 (length b.kinds) ≡ is_full → Given IsBuilt (if is_full then Err fault.Limit else Ok (record { names = with_text b.names name; kinds = b.kinds ++ kind_of t ∷ []; made = b.made ++ (place_of b.names name, t) ∷ []; calendars = b.calendars; version = b.version }))
    by_test true is = tt
    by_test false is = record {
      kinds = ap (λ (ks : List Kind). ks ++ kind_of t ∷ []) built.kinds ∙ ap (λ (ks : List Kind). Today ∷ ks) (sym (kinds_more b.made (place_of b.names name, t)));
      names = ap length (new_text b.names name entry.0) ∙ length-append b.names (name ∷ []) ∙ ap (λ (n : ℕ). n + 1) built.names ∙ sym (length-append b.kinds (kind_of t ∷ []));
      first = subst (λ (names : List (List ℕ)). slice_get names 0 ≡ Some (codes "today")) (sym (new_text b.names name entry.0)) (first_kept b.names (name ∷ []) (codes "today") built.first);
      room = let one : length (b.kinds ++ kind_of t ∷ []) ≡ length b.kinds + 1 = length-append b.kinds (kind_of t ∷ []) in grind (arith, nat_tests);
      order = λ flows.
          let more : ℕ × Terms = (place_of b.names name, t) in
          let each = All-pop HasFlows (b.made ++ more ∷ []) b.made (Some more) refl flows in
          order_more (Today ∷ []) b.made (place_of b.names name, t) (built.order each.0) (next each.1);
    }

-- ---- sections

object_built : (b : Earlier) (d : Data) → IsBuilt b → Given IsBuilt (object.behind b d)
object_built b d built =
    bound (IsEntry b) IsBuilt (object.entry_in b d) (λ entry. added b entry.0 entry.1) (entry_in_fits b d) (λ entry h. added_built b entry.0 entry.1 built h)

quote_built : (b : Earlier) (row : List (List ℕ)) → IsBuilt b → Given IsBuilt (quote.behind b row)
quote_built b row built = by_test (length row == 2)
  where
    by_test : (is : Bool) → Given IsBuilt (if is then (new_name b (field row 0) >>= (λ name. quote.value_of (field row 1) >>= (λ value. added b name (terms.Quote value)))) else Err fault.Record)
    by_test false = tt
    by_test true =
        bound (λ (n : List ℕ). has_text b.names n ≡ false) IsBuilt (new_name b (field row 0)) (λ name. quote.value_of (field row 1) >>= (λ value. added b name (terms.Quote value))) (new_name_free b (field row 0))
        (λ name free. past IsBuilt (quote.value_of (field row 1)) (λ value. added b name (terms.Quote value))
        (λ value. added_built b name (terms.Quote value) built (free, ((λ _. tt), tt))))

-- ---- one stored rate more

-- other terms of the same kind and the same inputs, in range where the old ones are, and of the same flows
pub record IsAsBefore (old new : ℕ × Terms) : Type 0 where
  pub number : new.0 ≡ old.0
  pub kind : kind_of new.1 ≡ kind_of old.1
  pub inputs : inputs_of new.1 ≡ inputs_of old.1
  pub ranged : AreInRange old.1 → AreInRange new.1
  pub limited : AreLimited old.1 → AreLimited new.1
  pub flows : HasFlows new → HasFlows old

kinds_kept : (made : List (ℕ × Terms)) (at : ℕ) (old new : ℕ × Terms) → slice_get made at ≡ Some old → IsAsBefore old new → kinds_of (slice_set made at new) ≡ kinds_of made
kinds_kept [] at old new is same = absurd cc
kinds_kept (e ∷ made) zero old new is same = let here : e ≡ old = cc in ap (λ (k : Kind). k ∷ kinds_of made) (same.kind ∙ ap (λ (x : ℕ × Terms). kind_of x.1) (sym here))
kinds_kept (e ∷ made) (suc at) old new is same = ap (λ (ks : List Kind). kind_of e.1 ∷ ks) (kinds_kept made at old new is same)

next_kept : (kinds : List Kind) (old new : ℕ × Terms) → IsAsBefore old new → IsNext kinds old → IsNext kinds new
next_kept kinds old new same next = record {
  number = same.number ∙ next.number;
  ranged = same.ranged next.ranged;
  limited = same.limited next.limited;
  inputs = subst (λ (rs : List Reference). AreServed kinds rs) (sym same.inputs) next.inputs;
}

order_kept : (kinds : List Kind) (made : List (ℕ × Terms)) (at : ℕ) (old new : ℕ × Terms) → slice_get made at ≡ Some old → IsAsBefore old new → AreInOrder kinds made
    → AreInOrder kinds (slice_set made at new)
order_kept kinds [] at old new is same order = absurd cc
order_kept kinds (e ∷ made) zero old new is same order =
    let here : old ≡ e = cc in (
      next_kept kinds old new same (subst (λ (x : ℕ × Terms). IsNext kinds x) (sym here) order.0),
      subst (λ (k : Kind). AreInOrder (kinds ++ k ∷ []) made) (ap (λ (x : ℕ × Terms). kind_of x.1) (sym here) ∙ sym same.kind) order.1,
    )
order_kept kinds (e ∷ made) (suc at) old new is same order = (order.0, order_kept (kinds ++ kind_of e.1 ∷ []) made at old new is same order.1)

flows_kept : (made : List (ℕ × Terms)) (at : ℕ) (old new : ℕ × Terms) → slice_get made at ≡ Some old → IsAsBefore old new
    → HaveFlowsInRange (slice_set made at new) → HaveFlowsInRange made
flows_kept [] at old new is same flows = absurd cc
flows_kept (e ∷ made) zero old new is same flows =
    let here : old ≡ e = cc in
    let first : HasFlows old = same.flows (All-head HasFlows new made flows) in
    All-cons HasFlows e made (subst HasFlows here first) (All-tail HasFlows new made flows)
flows_kept (e ∷ made) (suc at) old new is same flows =
    let first : HasFlows e = All-head HasFlows e (slice_set made at new) flows in
    All-cons HasFlows e made first (flows_kept made at old new is same (All-tail HasFlows e (slice_set made at new) flows))

kept_built : (b : Earlier) (at : ℕ) (old new : ℕ × Terms) → slice_get b.made at ≡ Some old → IsAsBefore old new → IsBuilt b → IsBuilt (record b { made = slice_set b.made at new })
kept_built b at old new is same built = record {
  kinds = built.kinds ∙ ap (λ (ks : List Kind). Today ∷ ks) (sym (kinds_kept b.made at old new is same));
  names = built.names;
  first = built.first;
  room = built.room;
  order = λ flows. order_kept (Today ∷ []) b.made at old new is same (built.order (flows_kept b.made at old new is same flows));
}

abbrev HasSame : Terms → Terms → Type 0
HasSame old new = (n : ℕ) → IsAsBefore (n, old) (n, new)

fixed_same : (t : Terms) (day rate : ℤ) → Given (HasSame t) (fixing.fixed t day rate)
fixed_same (terms.Index index fixings) day rate =
    past (HasSame (terms.Index index fixings)) (fixing.stored fixings day rate (fixing_on fixings day)) (λ more. Ok (terms.Index index more))
    (λ more n. record { number = refl; kind = refl; inputs = refl; ranged = λ h. h; limited = λ h. h; flows = λ h. h })
fixed_same (terms.Quote value) day rate = tt
fixed_same (terms.Derived minus first second) day rate = tt
fixed_same (terms.Handle target_kind target) day rate = tt
fixed_same (terms.Curve curve) day rate = tt
fixed_same (terms.Implied curve reference) day rate = tt
fixed_same (terms.Engine curve) day rate = tt
fixed_same (terms.Stock quote) day rate = tt
fixed_same (terms.Composite parts) day rate = tt
fixed_same (terms.Flows flows engine) day rate = tt

fixed_built : (b : Earlier) (index : ℕ) (day rate : ℤ) → IsBuilt b → Given IsBuilt (fixing.with_fixing_of b index day rate)
fixed_built b index day rate built = by_entry (slice_get b.made (index - 1)) refl
  where
    by_entry : (found : Option (ℕ × Terms)) → slice_get b.made (index - 1) ≡ found → Given IsBuilt (fixing.fixed_in b.made (index - 1) day rate found >>= (λ made. Ok (record b { made = made })))
    by_entry None is = tt
    by_entry (Some entry) is = by_terms (fixing.fixed entry.1 day rate) (fixed_same entry.1 day rate)
      where
        by_terms : (found : Result Terms MarketKind) → Given (HasSame entry.1) found
            → Given IsBuilt ((found >>= (λ t. Ok (slice_set b.made (index - 1) (entry.0, t)))) >>= (λ made. Ok (record b { made = made })))
        by_terms (Err k) h = tt
        by_terms (Ok t) h = kept_built b (index - 1) entry (entry.0, t) is (h entry.0) built

fixing_built : (b : Earlier) (row : List (List ℕ)) → IsBuilt b → Given IsBuilt (fixing.behind b row)
fixing_built b row built = by_test (length row == 3)
  where
    by_test : (is : Bool) → Given IsBuilt (if is then (named_object b (field row 0) >>= (λ named. served Index named >>= (λ index. day_of (field row 1) >>= (λ day. rate_of (field row 2) >>= (λ rate. fixing.with_fixing_of b index day rate))))) else Err fault.Record)
    by_test false = tt
    by_test true =
        past IsBuilt (named_object b (field row 0)) _ (λ named. past IsBuilt (served Index named) _
        (λ index. past IsBuilt (day_of (field row 1)) _ (λ day. past IsBuilt (rate_of (field row 2)) _ (λ rate. fixed_built b index day rate built))))

entries_built : (n : ℕ) (ds : Items) (b : Earlier) → IsBuilt b → Given IsBuilt (entries_from object.behind b n ds)
entries_built n no_items b built = built
entries_built n (item d ds) b built =
    bound IsBuilt IsBuilt (at_entry n (object.behind b d)) (λ t. entries_from object.behind t (next_entry n) ds) (at_given IsBuilt n (object.behind b d) (object_built b d built))
    (entries_built (next_entry n) ds)

module _ (header : List (List ℕ) → Bool) (behind : Earlier → List (List ℕ) → Result Earlier MarketKind) (keeps : (b : Earlier) (row : List (List ℕ)) → IsBuilt b → Given IsBuilt (behind b row)) where
  step_built : (n : ℕ) (row : List (List ℕ)) (b : Earlier) → IsBuilt b → Given IsBuilt (record_step header behind b n row)
  step_built zero row b built = by_test (header row)
    where
      by_test : (is : Bool) → Given {E = ℕ × MarketKind} IsBuilt (if is then Ok b else Err (0, fault.Header))
      by_test true = built
      by_test false = tt
  step_built (suc n) row b built = at_given IsBuilt (suc n) (behind b row) (keeps b row built)

  records_built : (n : ℕ) (rows : List (List (List ℕ))) (b : Earlier) → IsBuilt b → Given IsBuilt (behind_records header behind b n rows)
  records_built zero [] b built = tt
  records_built (suc n) [] b built = built
  records_built n (row ∷ rows) b built =
      bound IsBuilt IsBuilt (record_step header behind b n row) (λ t. behind_records header behind t (next_entry n) rows) (step_built n row b built) (records_built (next_entry n) rows)

in_given : {X : Type 0} (Q : X → Type 0) (s : Section) (r : Result X (ℕ × MarketKind)) → Given Q r → Given Q (in_section s r)
in_given Q s (Ok x) h = h
in_given Q s (Err e) h = tt

quotes_built : (named : Bool) (text : List ℕ) (b : Earlier) → IsBuilt b → Given IsBuilt (quotes_onto named text b)
quotes_built false text b built = built
quotes_built true text b built =
    in_given IsBuilt section.Quotes (behind_records quote.is_header quote.behind b 0 (records default_config (strip_bom text)))
    (records_built quote.is_header quote.behind quote_built 0 (records default_config (strip_bom text)) b built)

fixings_built : (named : Bool) (text : List ℕ) (b : Earlier) → IsBuilt b → Given IsBuilt (fixings_onto named text b)
fixings_built false text b built = built
fixings_built true text b built =
    in_given IsBuilt section.Fixings (behind_records fixing.is_header fixing.behind b 0 (records default_config (strip_bom text)))
    (records_built fixing.is_header fixing.behind fixing_built 0 (records default_config (strip_bom text)) b built)

objects_built : (document : Members) (b : Earlier) → IsBuilt b → Given IsBuilt (objects_onto document b)
objects_built document b built =
    in_given IsBuilt section.Objects (entries_from object.behind b 1 (tables_at (codes "object") document)) (entries_built 1 (tables_at (codes "object") document) b built)

started_built : (version : Version) (calendars : Calendars) → IsBuilt (started version calendars)
started_built version calendars = record { kinds = refl; names = refl; first = refl; room = omega arith; order = λ _. tt }

all_built : (document : Members) (top : TopTable) (quotes fixings : List ℕ) → Given IsBuilt (objects_of document top quotes fixings)
all_built document top quotes fixings =
    past IsBuilt (table_sized section.Quotes (is_some top.quotes) quotes) _
    (λ _. past IsBuilt (table_sized section.Fixings (is_some top.fixings) fixings) _
    (λ _. past IsBuilt (in_section section.Calendars (calendars_in (tables_at (codes "calendar") document))) _
    (λ calendars. bound IsBuilt IsBuilt (quotes_onto (is_some top.quotes) quotes (started top.version calendars)) _ (quotes_built (is_some top.quotes) quotes (started top.version calendars) (started_built top.version calendars))
    (λ b built. bound IsBuilt IsBuilt (objects_onto document b) _ (objects_built document b built)
    (λ c more. fixings_built (is_some top.fixings) fixings c more)))))

abbrev IsBoard : ℤ × Earlier → Type 0
IsBoard m = IsBuilt m.1

board_built : (text quotes fixings : List ℕ) → Given IsBoard (board_of text quotes fixings)
board_built text quotes fixings =
    past IsBoard (sized section.Top text) _
    (λ _. past IsBoard (at_number section.Top 0 (document_of text)) _
    (λ document. past IsBoard (at_number section.Top 0 (top_of document)) _
    (λ top. bound IsBuilt IsBoard (objects_of document top quotes fixings) (λ board. Ok (top.today, board)) (all_built document top quotes fixings) (λ b built. built))))

-- the objects of a market that is read are ready for a session
pub ready : (text quotes fixings : List ℕ) (today : ℤ) (b : Earlier) → board_of text quotes fixings ≡ Ok (today, b)
    → HaveFlowsInRange b.made → IsReady b.names b.made
ready text quotes fixings today b is flows =
    let built : IsBuilt b = holds IsBoard (board_of text quotes fixings) (today, b) is (board_built text quotes fixings) in
    let count : length b.kinds ≡ suc (length b.made) = ap length built.kinds ∙ ap suc (kinds_count b.made) in
    record {
      first = built.first;
      named = omega (arith, built.names, count);
      room = omega (arith, built.room, count);
      order = built.order flows;
    }

abbrev AreRanged : ℕ × Terms → Type 0
AreRanged entry = AreInRange entry.1

-- the terms of objects in order are in range
pub ranged : (kinds : List Kind) (made : List (ℕ × Terms)) → AreInOrder kinds made → All AreRanged made
ranged kinds [] order = All-nil AreRanged
ranged kinds (e ∷ made) order =
    All-cons AreRanged e made order.0.ranged (ranged (kinds ++ kind_of e.1 ∷ []) made order.1)

abbrev AreAllLimited : ℕ × Terms → Type 0
AreAllLimited entry = AreLimited entry.1

-- and within the limits of a market
pub limited : (kinds : List Kind) (made : List (ℕ × Terms)) → AreInOrder kinds made → All AreAllLimited made
limited kinds [] order = All-nil AreAllLimited
limited kinds (e ∷ made) order =
    All-cons AreAllLimited e made order.0.limited (limited (kinds ++ kind_of e.1 ∷ []) made order.1)
