-- Worked rows of the definitions, each by computation.
use Rattle.std.proofs.Common.{◌≡◌, ℕ, List, [], ◌∷◌, true, false, None, Some, Ok, Err, refl}
use Rattle.std.specs.Prelude.{codes}
use Rattle.desk_edge.specs.Count.{last_count, raised}
use Rattle.desk_edge.specs.Shelf.{file_at}
use Rattle.desk_edge.specs.MemoryShelf.{ShelfState, find_answer, after_find, take_answer, after_take}
use Rattle.desk_edge.specs.MemoryFeed.{FeedState, take_answer as feed_answer, after_take as fed}
use Rattle.desk_edge.specs.MemorySink.{SinkState, put_answer, after_put, flush_answer, after_flush}

-- a market file of nine bytes, an empty script, and a second file with the market's path
abbrev files : List (List ℕ × List ℕ)
files = (codes "m", codes "[quotes]a") ∷ (codes "s", []) ∷ (codes "m", codes "hidden") ∷ []

pub first_file_counts : file_at files (codes "m") ≡ Some (codes "[quotes]a")
first_file_counts = refl

pub empty_file_is_there : file_at files (codes "s") ≡ Some []
empty_file_is_there = refl

pub other_path_is_absent : file_at files (codes "ms") ≡ None
other_path_is_absent = refl

pub count_rises : raised 6 ≡ 7
count_rises = refl

pub count_stands_still : raised last_count ≡ 18446744073709551615
count_stands_still = refl

-- at most 8 bytes a call; call 3, the second take, fails
abbrev shelf : ShelfState
shelf = record { contents = record { files = files; rest = [] }; most = 8; fails = 3 ∷ []; calls = 0; faults = 0; misses = 0 }

abbrev found : ShelfState
found = after_find shelf (codes "m")

pub file_is_found : find_answer shelf (codes "m") ≡ Ok true
file_is_found = refl

pub file_is_missed : (find_answer shelf (codes "x") ≡ Ok false) × ((after_find shelf (codes "x")).misses ≡ 1)
file_is_missed = (refl, refl)

pub first_take_gives_8 : (take_answer found 4096 ≡ Ok 8) × ((after_take found 4096).contents.rest ≡ codes "a")
first_take_gives_8 = (refl, refl)

pub second_take_fails : (take_answer (after_take found 4096) 4096 ≡ Err (record {})) × ((after_take (after_take found 4096) 4096).faults ≡ 1)
second_take_fails = (refl, refl)

pub third_take_gives_the_rest : take_answer (after_take (after_take found 4096) 4096) 4096 ≡ Ok 1
third_take_gives_the_rest = refl

-- room for 9 bytes, at most 8 a call; call 3 fails
abbrev sink : SinkState
sink = record { bytes = []; sent = []; room = 9; most = 8; fails = 3 ∷ []; calls = 0; faults = 0 }

abbrev full : SinkState
full = after_put (after_put sink (codes "[quotes]ab")) (codes "ab")

pub first_put_takes_8 : put_answer sink (codes "[quotes]ab") ≡ Ok 8
first_put_takes_8 = refl

pub second_put_takes_what_has_room : put_answer (after_put sink (codes "[quotes]ab")) (codes "ab") ≡ Ok 1
second_put_takes_what_has_room = refl

pub bytes_stand_in_order : full.bytes ≡ codes "[quotes]a"
bytes_stand_in_order = refl

pub listed_put_fails : (put_answer full [] ≡ Err (record {})) × ((after_put full []).faults ≡ 1)
listed_put_fails = (refl, refl)

pub full_sink_fails_bytes_alone : (put_answer (after_put full []) [] ≡ Ok 0) × (put_answer (after_put full []) (codes "b") ≡ Err (record {}))
full_sink_fails_bytes_alone = (refl, refl)

-- a flush sends on what was taken, until one that is listed
pub flush_sends_what_was_taken : (flush_answer (after_put sink (codes "ab")) ≡ Ok tt) × ((after_flush (after_put sink (codes "ab"))).sent ≡ codes "ab")
flush_sends_what_was_taken = (refl, refl)

pub put_sends_nothing : (after_put (after_flush (after_put sink (codes "ab"))) (codes "c")).sent ≡ codes "ab"
put_sends_nothing = refl

pub listed_flush_fails : (flush_answer full ≡ Err (record {})) × ((after_flush full).sent ≡ []) × ((after_flush full).faults ≡ 1)
listed_flush_fails = (refl, refl, refl)

-- six bytes in a piece of two, one of a size that counts as 1, and what is left; call 2 fails
abbrev feed : FeedState
feed = record { rest = codes "abcdef"; sizes = 2 ∷ 0 ∷ []; fails = 2 ∷ []; calls = 0; faults = 0 }

abbrev after_two : FeedState
after_two = fed (fed feed 64) 64

pub first_piece_has_2 : (feed_answer feed 64 ≡ Ok 2) × ((fed feed 64).rest ≡ codes "cdef")
first_piece_has_2 = (refl, refl)

pub room_cuts_a_piece : (feed_answer feed 1 ≡ Ok 1) × ((fed feed 1).rest ≡ codes "bcdef")
room_cuts_a_piece = (refl, refl)

pub listed_take_fails : (feed_answer (fed feed 64) 64 ≡ Err (record {})) × (after_two.rest ≡ codes "cdef") × (after_two.faults ≡ 1)
listed_take_fails = (refl, refl, refl)

pub later_pieces_come : (feed_answer after_two 64 ≡ Ok 1) × (feed_answer (fed after_two 64) 64 ≡ Ok 3) × (feed_answer (fed (fed after_two 64) 64) 64 ≡ Ok 0)
later_pieces_come = (refl, refl, refl)
