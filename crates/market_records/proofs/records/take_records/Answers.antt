use Rattle.std.proofs.Common.{Bor, List, ℕ, ◌∙◌, refl, inl, inr, Some, []}
use Rattle.csv.specs.Reading.{Reached, default_config, strip_bom, records}
use Rattle.csv.specs.Records.{fields_of}
use Rattle.csv.proofs.ReadFacts.{rows-end, rows-more}
use Rattle.market_records.proofs.AllRecords.{are_records, one_more, none_left, goes_on, stops, ends, headed, headless}
use Rattle.market_records.proofs.records.take_records.Goals as goal

pub loop-row-init : goal.loop-row-init
loop-row-init g c =
    let fr = c.from_reader-rdr.ensures in
    let e = c.flexible.ensures in
    let h = c.has_headers.ensures in
    let start = c.into_iter-row-iterator.ensures.into_iter_gives ∙ refl in
    let rdr = c.into_byte_records-row-items.ensures.rdr in
    let left = c.into_byte_records-row-items.ensures.left in
    rw (start, rdr) (
      rw (e, h) at fr.trim ∙ c.new.ensures.trim,
      inr (inr (rw (e, h) at fr.has_headers, fr.headers)),
      left,
      rw (e, h) at fr.config ∙ c.new.ensures.config,
      strip_bom c.args.text.now,
      fr.source,
      records default_config (strip_bom c.args.text.now),
      rw fr.state (are_records default_config (strip_bom c.args.text.now)),
      refl,
    )

pub loop-row-preserved : goal.loop-row-preserved
unfolding Reached
loop-row-preserved g c =
    let inv = c.loop-row.invariant in
    let a = c.loop-row.row-iterator.rdr in
    let b = c.next.new.self.rdr in
    let row = fields_of c.in-Ok.row in
    let s = rw (c.in-Some.is, c.in-Ok.is) at ((c.next.ensures.steps inv.2 inv.0).0 inv.1) in
    let m = rows-more (λ (s : Bor (List ℕ)). Some s.now) a b row default_config a.state inv.4 inv.4 [] inv.3 inv.5 (refl, refl) s.0 in
    let more = one_more default_config a.state b.state inv.4 m.0 row inv.6 inv.7 m.2 in (
      s.0.3 ∙ inv.0,
      inl s.1,
      s.2,
      s.0.2 ∙ inv.3,
      m.0,
      m.1,
      more.rest,
      more.all,
      rw c.next_entry-number.ensures (goes_on g.T.TakesRecords.header g.T.TakesRecords.behind c.loop-row.taker c.take_record.new.taker c.loop-row.number row inv.6 more.rest _ more.first c.in-Ok-take_record.ensures.made inv.8),
    )

pub returns-in-Err-take_record : goal.returns-in-Err-take_record
unfolding Reached
returns-in-Err-take_record g c =
    let inv = c.loop-row.invariant in
    let a = c.loop-row.row-iterator.rdr in
    let b = c.next.new.self.rdr in
    let row = fields_of c.in-Ok.row in
    let s = rw (c.in-Some.is, c.in-Ok.is) at ((c.next.ensures.steps inv.2 inv.0).0 inv.1) in
    let m = rows-more (λ (s : Bor (List ℕ)). Some s.now) a b row default_config a.state inv.4 inv.4 [] inv.3 inv.5 (refl, refl) s.0 in
    let more = one_more default_config a.state b.state inv.4 m.0 row inv.6 inv.7 m.2 in
    stops g.T.TakesRecords.header g.T.TakesRecords.behind c.loop-row.taker c.loop-row.number row inv.6 more.rest _ c.in-Err-take_record.fault more.first c.in-Err-take_record.ensures.made inv.8

pub returns-then-number-eq0 : goal.returns-then-number-eq0
returns-then-number-eq0 g c =
    let inv = c.loop-row.invariant in
    let a = c.loop-row.row-iterator.rdr in
    let s = rw c.in-None.is at ((c.next.ensures.steps inv.2 inv.0).0 inv.1) in
    let none = rows-end (λ (s : Bor (List ℕ)). Some s.now) a c.next.new.self.rdr [] default_config inv.4 inv.3 inv.5 s in
    ends g.T.TakesRecords.header g.T.TakesRecords.behind c.loop-row.taker c.loop-row.number inv.6 _ (none_left default_config a.state inv.4 inv.6 inv.7 none) inv.8
    ∙ headless c.loop-row.taker c.loop-row.number c.if-number-eq0.true

pub returns : goal.returns
returns g c =
    let inv = c.loop-row.invariant in
    let a = c.loop-row.row-iterator.rdr in
    let s = rw c.in-None.is at ((c.next.ensures.steps inv.2 inv.0).0 inv.1) in
    let none = rows-end (λ (s : Bor (List ℕ)). Some s.now) a c.next.new.self.rdr [] default_config inv.4 inv.3 inv.5 s in
    ends g.T.TakesRecords.header g.T.TakesRecords.behind c.loop-row.taker c.loop-row.number inv.6 _ (none_left default_config a.state inv.4 inv.6 inv.7 none) inv.8
    ∙ headed c.loop-row.taker c.loop-row.number c.if-number-eq0.false
