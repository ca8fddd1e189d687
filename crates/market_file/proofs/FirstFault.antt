-- The first fault of a market by its stages: what the reader gives is the fault of the first stage that has one.
use Rattle.std.proofs.Common.{◌≡◌, ◌⊎◌, inl, inr, ℕ, ℤ, Bool, true, false, ◌&&◌, List, [], Result, Ok, Err, refl, sym, ap, ◌∙◌}
use Rattle.std.specs.Prelude.{codes, is_some, if◌then◌else◌}
use Rattle.toml.specs.Data.{Members}
use Rattle.market_tables.specs.declared.fault.MarketKind.{MarketKind}
use Rattle.market_tables.specs.declared.fault.MarketKind.TheVariants.{TooLong}
use Rattle.market_tables.specs.Given.{◌>>=◌}
use Rattle.market_calendars.specs.Calendars.{Calendars}
use Rattle.market_calendars.specs.Reader as calendar
use Rattle.market_fields.specs.Earlier.{Earlier}
use Rattle.market_objects.specs.Board.{started}
use Rattle.market_objects.specs.Reader as object
use Rattle.market_objects.specs.Quotes as quote
use Rattle.market_objects.specs.Fixings as fixing
use Rattle.market_file.specs.declared.fault.Section.{Section}
use Rattle.market_file.specs.declared.fault.Section.TheVariants as section
use Rattle.market_file.specs.declared.top.TopTable.{TopTable}
use Rattle.market_file.specs.Fault.{Fault, FailsWith, at_entry, in_section}
use Rattle.market_file.specs.declared.fault.MarketFault.{MarketFault}
use Rattle.market_file.specs.declared.fault.MarketFault.TheVariants as market
use Rattle.market_file.specs.Document.{document_of}
use Rattle.market_file.specs.Top.{top_of}
use Rattle.market_file.specs.Market.{tables_at, table_sized, quotes_onto, objects_onto, fixings_onto, objects_of, board_of, read_market}
use Rattle.market_file.specs.FirstFault.{is_long, rows_of, IsTableTaken, IsTopTaken, AreShort, AreCalendarsTaken, AreQuotesTaken, AreObjectsTaken, IsFirstFault, long_text, in_text, in_top, long_quotes, long_fixings, in_calendars, in_quotes, in_objects, in_fixings, ToldFirst}
use Rattle.market_tables.proofs.FirstEntry.{tables_taken, taken_tables, tables_faulty, faulty_tables}
use Rattle.market_records.proofs.FirstRecord.{records_taken, taken_records, records_faulty, faulty_records}

-- a step with a fault, or the fault of what follows its value
by_step : {X Y E : Type 0} (r : Result X E) (f : X → Result Y E) (e : E) → (r >>= f) ≡ Err e → (r ≡ Err e) ⊎ ((x : X) × (r ≡ Ok x) × (f x ≡ Err e))
by_step (Ok x) f e h = inr (x, refl, h)
by_step (Err d) f e h = inl (cc h)

past : {X Y E : Type 0} (r : Result X E) (f : X → Result Y E) (x : X) (y : Result Y E) → r ≡ Ok x → f x ≡ y → (r >>= f) ≡ y
past r f x y e h = rw e h

stopped : {X Y E : Type 0} (r : Result X E) (f : X → Result Y E) (e : E) → r ≡ Err e → (r >>= f) ≡ Err e
stopped r f e h = rw h refl

-- the fault that is answered
abbrev fault_of : {Y : Type 0} → Fault → Result Y Fault → Fault
fault_of e (Ok y) = e
fault_of e (Err f) = f

-- a fault in parts
abbrev refused : {Y : Type 0} → Section → ℕ → MarketKind → Result Y Fault
refused s n k = Err (s, n, k)

parts : {Y : Type 0} (t s : Section) (m n : ℕ) (j k : MarketKind) → refused {Y = Y} t m j ≡ refused s n k → (s ≡ t) × (n ≡ m) × (k ≡ j)
parts t s m n j k h =
    let same = ap (fault_of (t, m, j)) h in
    (sym (ap (λ (f : Fault). f.0) same), sym (ap (λ (f : Fault). f.1) same), sym (ap (λ (f : Fault). f.2) same))

entry_err : {Y : Type 0} (t s : Section) (m n : ℕ) (k : MarketKind) (r : Result Y MarketKind) → at_entry t m r ≡ Err (s, n, k) → (s ≡ t) × (n ≡ m) × (r ≡ Err k)
entry_err t s m n k (Ok y) h = cc h
entry_err t s m n k (Err j) h =
    let f = parts t s m n j k h in (f.0, f.1, ap Err (sym f.2))

entry_ok : {Y : Type 0} (t : Section) (m : ℕ) (r : Result Y MarketKind) (y : Y) → at_entry t m r ≡ Ok y → r ≡ Ok y
entry_ok t m (Ok x) y h = cc h
entry_ok t m (Err j) y h = cc h

section_err : {Y : Type 0} (t s : Section) (n : ℕ) (k : MarketKind) (r : Result Y (ℕ × MarketKind)) → in_section t r ≡ Err (s, n, k) → (s ≡ t) × (r ≡ Err (n, k))
section_err t s n k (Ok y) h = cc h
section_err t s n k (Err e) h = let f = parts t s e.0 n e.1 k h in (f.0, rw (f.1, f.2) refl)

section_ok : {Y : Type 0} (t : Section) (r : Result Y (ℕ × MarketKind)) (y : Y) → in_section t r ≡ Ok y → r ≡ Ok y
section_ok t (Ok x) y h = cc h
section_ok t (Err e) y h = cc h

-- a file of a section by whether it is too long
abbrev sized_by : Bool → Section → List ℕ → Result (List ℕ) Fault
sized_by long t file = if long then refused t 0 TooLong else Ok file

record IsTooLong (t s : Section) (named : Bool) (file : List ℕ) (n : ℕ) (k : MarketKind) : Type 0 where
  pub long : (named && is_long file) ≡ true
  pub stage : s ≡ t
  pub number : n ≡ 0
  pub kind : k ≡ TooLong

long_err : (t s : Section) (named : Bool) (file : List ℕ) (n : ℕ) (k : MarketKind) → table_sized t named file ≡ Err (s, n, k) → IsTooLong t s named file n k
long_err t s false file n k h = cc h
long_err t s true file n k h = by (is_long file) refl h
  where
    by : (b : Bool) → is_long file ≡ b → sized_by b t file ≡ refused s n k → IsTooLong t s true file n k
    by true is h = let f = parts t s 0 n TooLong k h in record { long = is; stage = f.0; number = f.1; kind = f.2 }
    by false is h = cc h

short_ok : (t : Section) (named : Bool) (file x : List ℕ) → table_sized t named file ≡ Ok x → (named && is_long file) ≡ false
short_ok t false file x h = refl
short_ok t true file x h = by (is_long file) refl h
  where
    by : (b : Bool) → is_long file ≡ b → sized_by b t file ≡ Ok x → is_long file ≡ false
    by true is h = cc h
    by false is h = is

err_long : (t : Section) (named : Bool) (file : List ℕ) → (named && is_long file) ≡ true → table_sized t named file ≡ Err (t, 0, TooLong)
err_long t false file h = cc h
err_long t true file h = rw h refl

ok_short : (t : Section) (named : Bool) (file : List ℕ) → (named && is_long file) ≡ false → table_sized t named file ≡ Ok file
ok_short t false file h = refl
ok_short t true file h = rw h refl

quotes_ok : (named : Bool) (text : List ℕ) (s t : Earlier) → quotes_onto named text s ≡ Ok t → IsTableTaken named quote.is_header quote.behind text s t
quotes_ok false text s t h = cc h
quotes_ok true text s t h = records_taken quote.is_header quote.behind s (rows_of text) t (section_ok section.Quotes _ t h)

ok_quotes : (named : Bool) (text : List ℕ) (s t : Earlier) → IsTableTaken named quote.is_header quote.behind text s t → quotes_onto named text s ≡ Ok t
ok_quotes false text s t h = ap Ok h
ok_quotes true text s t h = ap (in_section section.Quotes) (taken_records quote.is_header quote.behind s (rows_of text) t h)

-- from what the reader gives to the first fault
module _ (text quotes fixings : List ℕ) (s : Section) (n : ℕ) (k : MarketKind) where
  abbrev Due : Type 0
  Due = IsFirstFault text quotes fixings s n k

  fixings_stage : (document : Members) (top : TopTable) (board : Earlier) → AreObjectsTaken text quotes fixings document top board
      → fixings_onto (is_some top.fixings) fixings board ≡ Err (s, n, k) → Due
  fixings_stage document top board before h = by (is_some top.fixings) refl h
    where
      by : (b : Bool) → is_some top.fixings ≡ b → fixings_onto b fixings board ≡ Err (s, n, k) → Due
      by false is h = cc h
      by true is h =
          let e = section_err section.Fixings s n k _ h in
          in_fixings document top board before is (records_faulty fixing.is_header fixing.behind board (rows_of fixings) n k e.1) e.0

  objects_stage : (document : Members) (top : TopTable) (board : Earlier) → AreQuotesTaken text quotes fixings document top board
      → (objects_onto document board >>= (λ more. fixings_onto (is_some top.fixings) fixings more)) ≡ Err (s, n, k) → Due
  objects_stage document top board before h = elim (by_step _ _ _ h) [
    | inl e ↦
        let f = section_err section.Objects s n k _ e in
        in_objects document top board before (tables_faulty object.behind board (tables_at (codes "object") document) n k f.1) f.0
    | inr (more, ok, e) ↦
        fixings_stage document top more (record {
          quoted = board;
          before = before;
          taken = tables_taken object.behind board (tables_at (codes "object") document) more (section_ok section.Objects _ more ok);
        }) e
  ]

  quotes_stage : (document : Members) (top : TopTable) (calendars : Calendars) → AreCalendarsTaken text quotes fixings document top calendars
      → (quotes_onto (is_some top.quotes) quotes (started top.version calendars) >>= (λ board. objects_onto document board >>= (λ more. fixings_onto (is_some top.fixings) fixings more))) ≡ Err (s, n, k)
      → Due
  quotes_stage document top calendars before h = elim (by_step _ _ _ h) [
    | inl e ↦ by (is_some top.quotes) refl e
    | inr (board, ok, e) ↦
        objects_stage document top board (record {
          calendars = calendars;
          before = before;
          taken = quotes_ok (is_some top.quotes) quotes (started top.version calendars) board ok;
        }) e
  ]
    where
      by : (b : Bool) → is_some top.quotes ≡ b → quotes_onto b quotes (started top.version calendars) ≡ Err (s, n, k) → Due
      by false is h = cc h
      by true is h =
          let e = section_err section.Quotes s n k _ h in
          in_quotes document top calendars before is (records_faulty quote.is_header quote.behind (started top.version calendars) (rows_of quotes) n k e.1) e.0

  calendars_stage : (document : Members) (top : TopTable) → AreShort text quotes fixings document top
      → (in_section section.Calendars (calendar.calendars_in (tables_at (codes "calendar") document)) >>= (λ calendars.
      quotes_onto (is_some top.quotes) quotes (started top.version calendars) >>= (λ board. objects_onto document board >>= (λ more.
      fixings_onto (is_some top.fixings) fixings more)))) ≡ Err (s, n, k) → Due
  calendars_stage document top before h = elim (by_step _ _ _ h) [
    | inl e ↦
        let f = section_err section.Calendars s n k _ e in
        in_calendars document top before (tables_faulty calendar.behind [] (tables_at (codes "calendar") document) n k f.1) f.0
    | inr (calendars, ok, e) ↦
        quotes_stage document top calendars (record {
          before = before;
          taken = tables_taken calendar.behind [] (tables_at (codes "calendar") document) calendars (section_ok section.Calendars _ calendars ok);
        }) e
  ]

  sizes_stage : (document : Members) (top : TopTable) → IsTopTaken text document top → objects_of document top quotes fixings ≡ Err (s, n, k) → Due
  sizes_stage document top before h = elim (by_step _ _ _ h) [
    | inl e ↦
        let f = long_err section.Quotes s (is_some top.quotes) quotes n k e in
        long_quotes document top before f.long f.stage f.number f.kind
    | inr (x, ok, e) ↦ fixings_size (short_ok section.Quotes (is_some top.quotes) quotes x ok) (by_step _ _ _ e)
  ]
    where
      fixings_size : (is_some top.quotes && is_long quotes) ≡ false
          → (table_sized section.Fixings (is_some top.fixings) fixings ≡ Err (s, n, k))
          ⊎ ((x : List ℕ) × (table_sized section.Fixings (is_some top.fixings) fixings ≡ Ok x)
          × ((in_section section.Calendars (calendar.calendars_in (tables_at (codes "calendar") document)) >>= (λ calendars.
          quotes_onto (is_some top.quotes) quotes (started top.version calendars) >>= (λ board. objects_onto document board >>= (λ more.
          fixings_onto (is_some top.fixings) fixings more)))) ≡ Err (s, n, k))) → Due
      fixings_size short (inl e) =
          let f = long_err section.Fixings s (is_some top.fixings) fixings n k e in
          long_fixings document top before short f.long f.stage f.number f.kind
      fixings_size short (inr (x, ok, e)) =
          calendars_stage document top (record { before = before; short_quotes = short; short_fixings = short_ok section.Fixings (is_some top.fixings) fixings x ok }) e

  abbrev whole : Members → TopTable → Result (ℤ × Earlier) Fault
  whole document top = objects_of document top quotes fixings >>= (λ board. Ok (top.today, board))

  top_stage : is_long text ≡ false → (document : Members) → document_of text ≡ Ok document
      → (at_entry section.Top 0 (top_of document) >>= whole document) ≡ Err (s, n, k) → Due
  top_stage short document read h = elim (by_step _ _ _ h) [
    | inl e ↦ let f = entry_err section.Top s 0 n k _ e in in_top document short read f.2 f.0 f.1
    | inr (top, ok, e) ↦ elim (by_step _ _ _ e) [
      | inl e2 ↦ sizes_stage document top (record { short = short; read = read; says = entry_ok section.Top 0 _ top ok }) e2
      | inr (board, made, clash) ↦ cc clash
    ]
  ]

  document_stage : is_long text ≡ false
      → (at_entry section.Top 0 (document_of text) >>= (λ document. at_entry section.Top 0 (top_of document) >>= whole document)) ≡ Err (s, n, k) → Due
  document_stage short h = elim (by_step _ _ _ h) [
    | inl e ↦ let f = entry_err section.Top s 0 n k _ e in in_text short f.2 f.0 f.1
    | inr (document, ok, e) ↦ top_stage short document (entry_ok section.Top 0 _ document ok) e
  ]

  board_stage : board_of text quotes fixings ≡ Err (s, n, k) → Due
  board_stage h = by (is_long text) refl h
    where
      by : (b : Bool) → is_long text ≡ b
          → (sized_by b section.Top text >>= (λ _. at_entry section.Top 0 (document_of text) >>= (λ document.
          at_entry section.Top 0 (top_of document) >>= whole document))) ≡ Err (s, n, k) → Due
      by true is h = let f = parts section.Top s 0 n TooLong k h in long_text is f.0 f.1 f.2
      by false is h = document_stage is h

  pub to_first_fault : read_market text quotes fixings ≡ Err (s, n, k) → Due
  to_first_fault h = elim (by_step _ _ _ h) [
    | inl e ↦ board_stage e
    | inr (m, made, clash) ↦ cc clash
  ]

  -- and back
  of_objects : (document : Members) (top : TopTable) → IsTopTaken text document top → objects_of document top quotes fixings ≡ Err (s, n, k)
      → read_market text quotes fixings ≡ Err (s, n, k)
  of_objects document top t h = rw (t.short, t.read, t.says, h) refl

  of_calendars : (document : Members) (top : TopTable) → AreShort text quotes fixings document top
      → (in_section section.Calendars (calendar.calendars_in (tables_at (codes "calendar") document)) >>= (λ calendars.
      quotes_onto (is_some top.quotes) quotes (started top.version calendars) >>= (λ board. objects_onto document board >>= (λ more.
      fixings_onto (is_some top.fixings) fixings more)))) ≡ Err (s, n, k)
      → read_market text quotes fixings ≡ Err (s, n, k)
  of_calendars document top t h =
      of_objects document top t.before (past _ _ quotes _ (ok_short section.Quotes (is_some top.quotes) quotes t.short_quotes)
      (past _ _ fixings _ (ok_short section.Fixings (is_some top.fixings) fixings t.short_fixings) h))

  of_quotes : (document : Members) (top : TopTable) (calendars : Calendars) → AreCalendarsTaken text quotes fixings document top calendars
      → (quotes_onto (is_some top.quotes) quotes (started top.version calendars) >>= (λ board. objects_onto document board >>= (λ more. fixings_onto (is_some top.fixings) fixings more))) ≡ Err (s, n, k)
      → read_market text quotes fixings ≡ Err (s, n, k)
  of_quotes document top calendars t h =
      of_calendars document top t.before
      (past _ _ calendars _ (ap (in_section section.Calendars) (taken_tables calendar.behind [] (tables_at (codes "calendar") document) calendars t.taken)) h)

  of_board : (document : Members) (top : TopTable) (board : Earlier) → AreQuotesTaken text quotes fixings document top board
      → (objects_onto document board >>= (λ more. fixings_onto (is_some top.fixings) fixings more)) ≡ Err (s, n, k)
      → read_market text quotes fixings ≡ Err (s, n, k)
  of_board document top board t h =
      of_quotes document top t.calendars t.before
      (past _ _ board _ (ok_quotes (is_some top.quotes) quotes (started top.version t.calendars) board t.taken) h)

  pub of_first_fault : Due → read_market text quotes fixings ≡ Err (s, n, k)
  of_first_fault (long_text is stage number kind) = rw (is, stage, number, kind) refl
  of_first_fault (in_text short faulty stage number) = rw (short, faulty, stage, number) refl
  of_first_fault (in_top document short read faulty stage number) = rw (short, read, faulty, stage, number) refl
  of_first_fault (long_quotes document top t long stage number kind) =
      of_objects document top t (stopped _ _ _ (err_long section.Quotes (is_some top.quotes) quotes long ∙ rw (stage, number, kind) refl))
  of_first_fault (long_fixings document top t short long stage number kind) =
      of_objects document top t (past _ _ quotes _ (ok_short section.Quotes (is_some top.quotes) quotes short)
      (stopped _ _ _ (err_long section.Fixings (is_some top.fixings) fixings long ∙ rw (stage, number, kind) refl)))
  of_first_fault (in_calendars document top t first stage) =
      of_calendars document top t
      (stopped _ _ _ (ap (in_section section.Calendars) (faulty_tables calendar.behind [] (tables_at (codes "calendar") document) n k first) ∙ rw stage refl))
  of_first_fault (in_quotes document top calendars t named first stage) =
      of_quotes document top calendars t (stopped (quotes_onto (is_some top.quotes) quotes (started top.version calendars)) _ (s, n, k) (rw (named, faulty_records quote.is_header quote.behind (started top.version calendars) (rows_of quotes) n k first, stage) refl))
  of_first_fault (in_objects document top board t first stage) =
      of_board document top board t
      (stopped _ _ _ (ap (in_section section.Objects) (faulty_tables object.behind board (tables_at (codes "object") document) n k first) ∙ rw stage refl))
  of_first_fault (in_fixings document top board t named first stage) =
      of_board document top t.quoted t.before
      (past _ _ board _ (ap (in_section section.Objects) (taken_tables object.behind t.quoted (tables_at (codes "object") document) board t.taken))
      (rw (named, faulty_records fixing.is_header fixing.behind board (rows_of fixings) n k first, stage) refl))

-- the same of an answer of the reader
pub told_first : {X : Type 0} (text quotes fixings : List ℕ) (r : Result X MarketFault) (f : MarketFault) → r ≡ Err f
    → FailsWith f (board_of text quotes fixings) → ToldFirst text quotes fixings r
told_first text quotes fixings r market.NoMemory is h = rw is tt
told_first text quotes fixings r (market.At s n k) is h =
    rw is (to_first_fault text quotes fixings s n k (stopped (board_of text quotes fixings) _ (s, n, k) h))
