-- A market stays ready when names come behind its own.
use Rattle.std.proofs.Common.{◌≡◌, ℕ, List, [], ◌∷◌, ◌++◌, Some, None, slice_get, sym, subst, arith}
use Rattle.std.proofs.lemmas.List.{length-append}
use Rattle.desk_terms.specs.declared.terms.Terms.{Terms}
use Rattle.script_words.specs.Given.{Grows}
use Rattle.market_file.specs.Standing.{IsReady}

-- the first of a list is the first of a longer one
first_stays : (names more : List (List ℕ)) (text : List ℕ) → slice_get names 0 ≡ Some text
    → slice_get (names ++ more) 0 ≡ Some text
first_stays [] more text e = absurd (let none : None ≡ Some text = e in cc)
first_stays (name ∷ names) more text e = e

pub ready_more : (names more : List (List ℕ)) (made : List (ℕ × Terms)) → IsReady names made → Grows names more
    → IsReady more made
ready_more names more made h grows = subst (λ (all : List (List ℕ)). IsReady all made) (sym grows.whole) (record {
  first = first_stays names grows.more _ h.first;
  named = omega (arith, h.named, length-append names grows.more);
  room = h.room;
  order = h.order;
})
