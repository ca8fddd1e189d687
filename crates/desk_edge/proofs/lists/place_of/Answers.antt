use Rattle.std.proofs.Common.{◌≡◌, ◌∙◌, ap, sym, List, [], ℕ, ◌<◌, length, Some, true, arith}
use Rattle.std.proofs.lemmas.Bool.Decides.{nat_tests}
use Rattle.std.proofs.lemmas.List.{get_or_read}
use Rattle.std.specs.Str.{bytes_eq}
use Rattle.desk_edge.specs.FileList.{bytes_of}
use Rattle.desk_edge.specs.Shelf.{file_at}
use Rattle.desk_edge.proofs.FileListLemmas.{file_here}
use Rattle.desk_edge.proofs.lists.place_of.Goals as goal
use Rattle.desk_edge.proofs.lists.place_of.Goals.{Then-eq}

-- the slice has the list's files
files : (c : Then-eq) → c.items-items.result.now ≡ c.args.files.now
files c = c.items-items.ensures

-- the file at this place is the first with the path
here : (c : Then-eq) → file_at c.args.files.now c.args.path.now ≡ Some c.index-items-at.result.1
here c =
    let path = c.args.path.now in
    let same : bytes_eq c.index-items-at.result.0 path ≡ true = ap (λ (l : List ℕ). bytes_eq l path) (sym c.path.ensures) ∙ sym c.eq.ensures ∙ c.if-eq.true in
    ap (λ (l : List (List ℕ × List ℕ)). file_at l path) (sym (files c))
    ∙ sym c.loop-at.invariant
    ∙ file_here c.items-items.result.now c.loop-at.at path c.index-items-at.result c.loop-at-test.true c.index-items-at.is same

pub returns-then-eq-clause-found : goal.returns-then-eq-clause-found
returns-then-eq-clause-found c =
    let within : c.loop-at.at < length c.args.files.now = rw (← files c) c.loop-at-test.true in
    rw (here c) (grind (arith, nat_tests))

pub returns-then-eq-clause-bytes : goal.returns-then-eq-clause-bytes
returns-then-eq-clause-bytes c =
    let file : c.index-items-at.result ≡ _ = get_or_read c.items-items.result.now c.loop-at.at c.index-items-at.result c.loop-at-test.true c.index-items-at.is ([], []) in
    rw (here c) (ap (λ (l : List (List ℕ × List ℕ)). bytes_of l c.loop-at.at) (sym (files c)) ∙ ap (λ (f : List ℕ × List ℕ). f.1) (sym file))
