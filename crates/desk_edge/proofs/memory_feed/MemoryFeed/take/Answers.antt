use Rattle.std.proofs.Common.{◌≡◌, ◌∙◌, ap, sym, refl, ◌+◌, false, drop, length, min}
use Rattle.std.specs.Bool.{◌==◌}
use Rattle.std.specs.List.{list_any}
use Rattle.std.proofs.lemmas.List.{drop-drop}
use Rattle.desk_edge.specs.CallList.{fails_next}
use Rattle.desk_edge.specs.MemoryFeed.{most_of}
use Rattle.desk_edge.proofs.memory_feed.MemoryFeed.take.Goals as goal

pub returns-then-not-is_empty-clause-state : goal.returns-then-not-is_empty-clause-state
returns-then-not-is_empty-clause-state c =
    let s = c.self.inside in
    let room = length c.args.buf.now in
    let turn : drop 1 (drop s.turn s.sizes) ≡ drop (s.turn + 1) s.sizes = drop-drop 1 s.turn s.sizes in
    let place : drop c.min-count.result (drop s.place s.bytes.items) ≡ drop (s.place + c.min-count.result) s.bytes.items = drop-drop c.min-count.result s.place s.bytes.items in
    let goes : fails_next s.fails s.calls ≡ false =
    ap (λ n. list_any (λ number. number == n) s.fails) (sym c.one_more-self-inside.ensures)
    ∙ ap (list_any (λ number. number == c.one_more-self-inside.result)) (sym c.items.ensures)
    ∙ sym c.contains.ensures.value ∙ c.if-contains.false in
    let sizes : c.split_at.result.1.now ≡ drop s.turn s.sizes = c.split_at.ensures.back ∙ ap (drop s.turn) c.items-2.ensures in
    let rest : c.split_at-2.result.1.now ≡ drop s.place s.bytes.items = c.split_at-2.ensures.back ∙ ap (drop s.place) c.as_slice.ensures.value in
    let count : c.min-count.result ≡ min (most_of (drop s.turn s.sizes) room) (length (drop s.place s.bytes.items)) =
    c.min-count.ensures ∙ ap (λ n. min n (length c.split_at-2.result.1.now)) (c.most_of.ensures ∙ ap (λ l. most_of l room) sizes) ∙ ap (λ l. min (most_of (drop s.turn s.sizes) room) (length l)) rest in
    rw (← c.self.view_is, goes, ← turn, ← place, count, c.one_more-self-inside.ensures) refl
