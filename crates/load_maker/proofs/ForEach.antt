-- One number more.
use Rattle.std.proofs.Common.{◌≡◌, ◌∙◌, ℕ, suc, ◌+◌, ◌-◌, List, [], ◌++◌, refl, sym, ap, subst, arith}
use Rattle.watch_rounds.specs.Order.{order_at, order_after}
use Rattle.watch_rounds.specs.declared.picker.Order.{Order}
use Rattle.watch_rounds.specs.declared.picker.Order.TheVariants.{Seed}
use Rattle.load_maker.specs.Texts.{for_each, generator, move_text, picked_quote}

pub for_none : (f : ℕ → List ℕ) → for_each f 0 ≡ []
unfolding for_each
for_none f = refl

for_next : (f : ℕ → List ℕ) (n : ℕ) → for_each f (suc n) ≡ for_each f n ++ f (suc n)
unfolding for_each
for_next f n = refl

pub for_more : (f : ℕ → List ℕ) (n : ℕ) → for_each f (n + 1) ≡ for_each f n ++ f (n + 1)
for_more f n =
    let one : suc n ≡ n + 1 = omega arith in
    subst (λ (m : ℕ). for_each f m ≡ for_each f n ++ f m) one (for_next f n)

pub generator_none : (n : ℕ) → generator n 0 ≡ Seed n
unfolding generator
generator_none n = refl

generator_next : (n picks : ℕ) → generator n (suc picks) ≡ order_after (generator n picks) n
unfolding generator
generator_next n picks = refl

pub generator_more : (n picks : ℕ) → generator n (picks + 1) ≡ order_after (generator n picks) n
generator_more n picks =
    let one : suc picks ≡ picks + 1 = omega arith in
    subst (λ (m : ℕ). generator n m ≡ order_after (generator n picks) n) one (generator_next n picks)

-- the lines behind the first moves
pub script_more : (n at : ℕ)
    → for_each (λ j. move_text (picked_quote n (j - 1)) j n) (at + 1)
    ≡ for_each (λ j. move_text (picked_quote n (j - 1)) j n) at ++ move_text (order_at (generator n at) n + 1) (at + 1) n
script_more n at =
    let e : at + 1 - 1 ≡ at = omega arith in
    for_more (λ j. move_text (picked_quote n (j - 1)) j n) at
    ∙ ap (λ (picks : ℕ). for_each (λ j. move_text (picked_quote n (j - 1)) j n) at ++ move_text (picked_quote n picks) (at + 1) n) e

abbrev moves : ℕ → ℕ → List ℕ
moves n at = for_each (λ j. move_text (picked_quote n (j - 1)) j n) at

-- one move more, of the quote that was picked
pub moves_step : (n at quote : ℕ) (order : Order) (old new : List ℕ) → order ≡ generator n at → old ≡ moves n at
    → quote ≡ order_at order n → new ≡ old ++ move_text (quote + 1) (at + 1) n → new ≡ moves n (at + 1)
moves_step n at quote order old new is text picked put =
    put ∙ ap (λ (l : List ℕ). l ++ move_text (quote + 1) (at + 1) n) text
    ∙ ap (λ (q : ℕ). moves n at ++ move_text (q + 1) (at + 1) n) (picked ∙ ap (λ (o : Order). order_at o n) is)
    ∙ sym (script_more n at)

pub picks_step : (n at : ℕ) (order next : Order) → order ≡ generator n at → next ≡ order_after order n
    → next ≡ generator n (at + 1)
picks_step n at order next is goes = goes ∙ ap (λ (o : Order). order_after o n) is ∙ sym (generator_more n at)
