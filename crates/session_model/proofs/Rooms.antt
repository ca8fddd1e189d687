-- Whether a market with so many of one slot is full.
use Rattle.std.proofs.Common.{◌≡◌, ◌∙◌, ap, refl, ℕ, zero, suc, length}
use Rattle.std.specs.Prelude.{◌||◌, nat_le, replicate}
use Rattle.std.proofs.lemmas.List.{length-replicate}
use Rattle.desk_model.specs.declared.slot.Slot.TheVariants.{Free}
use Rattle.desk_model.specs.Market.{count_live}
use Rattle.desk_model.specs.Effect.{dropped}
use Rattle.session_model.specs.Standing.{is_full}
use Rattle.session_model.specs.RoomRows.{market_of, empty_composite, after_a_drop}

live_all : (n : ℕ) → count_live (replicate n empty_composite) ≡ n
live_all zero = refl
live_all (suc n) = ap suc (live_all n)

free_all : (n : ℕ) → count_live (replicate n Free) ≡ 0
free_all zero = refl
free_all (suc n) = free_all n

pub full_live : (n : ℕ) → is_full (market_of empty_composite n) ≡ (nat_le 4096 (suc n) || nat_le 65536 (suc n))
unfolding is_full
full_live n =
    ap (λ (live : ℕ). nat_le 4096 (suc live) || nat_le 65536 (suc (length (replicate n empty_composite)))) (live_all n)
    ∙ ap (λ (given : ℕ). nat_le 4096 (suc n) || nat_le 65536 (suc given)) (length-replicate n empty_composite)

pub full_free : (n : ℕ) → is_full (market_of Free n) ≡ nat_le 65536 (suc n)
unfolding is_full
full_free n =
    ap (λ (live : ℕ). nat_le 4096 (suc live) || nat_le 65536 (suc (length (replicate n Free)))) (free_all n)
    ∙ ap (λ (given : ℕ). nat_le 65536 (suc given)) (length-replicate n Free)

pub full_dropped : (n : ℕ) → is_full (after_a_drop (suc n)) ≡ (nat_le 4096 (suc n) || nat_le 65536 (suc (suc n)))
unfolding is_full dropped
full_dropped n =
    ap (λ (live : ℕ). nat_le 4096 (suc live) || nat_le 65536 (suc (suc (length (replicate n empty_composite))))) (live_all n)
    ∙ ap (λ (given : ℕ). nat_le 4096 (suc n) || nat_le 65536 (suc (suc given))) (length-replicate n empty_composite)
