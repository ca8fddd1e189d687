use Rattle.std.proofs.Common.{◌≡◌, ◌∙◌, ◌+◌, ◌<◌, ◌++◌, ◌∷◌, [], ℕ, ℤ, List, length, get_or, drop, sym, ap, append_assoc}
use Rattle.std.specs.List.{All}
use Rattle.std.proofs.lemmas.List.Elements.{All-rest}
use Rattle.desk_model.specs.declared.entry.Entry.{Entry}
use Rattle.desk_model.specs.declared.entry.Entry.TheVariants.{Gives}
use Rattle.desk_model.specs.State.{State}
use Rattle.desk_model.specs.Uses.{input_at}
use Rattle.session_why.specs.Lasts.{and_rates, rates_by}
use Rattle.session_why.proofs.Pieces.{next_at}
use Rattle.session_why.proofs.workings.rates_of.Goals as goal

-- the rate of the quote at hand is there, and those behind it are left
rates_more : (n : ℕ) (read : ℕ → Entry) (quotes : List ℕ) (at quote : ℕ) (rate : ℤ) (old new whole : List ℤ) → at < length quotes
    → quote ≡ get_or quotes at quote → Gives rate ≡ read quote → new ≡ old ++ rate ∷ []
    → old ++ rates_by read (drop at quotes) ≡ whole → All (λ x. x < n) (drop at quotes)
    → (new ++ rates_by read (drop (at + 1) quotes) ≡ whole) × All (λ x. x < n) (drop (at + 1) quotes)
rates_more n read quotes at quote rate old new whole within is gives grown so_far low =
    let rest = drop (at + 1) quotes in
    let here : drop at quotes ≡ quote ∷ rest = next_at quotes at quote within is in (
      ap (λ (l : List ℤ). l ++ rates_by read rest) grown ∙ append_assoc old (rate ∷ []) (rates_by read rest)
          ∙ ap (λ (e : Entry). old ++ and_rates e (rates_by read rest)) gives
          ∙ ap (λ (l : List ℕ). old ++ rates_by read l) (sym here) ∙ so_far,
      All-rest (λ x. x < n) quote rest (drop at quotes) here low,
    )

pub loop-quote-preserved : goal.loop-quote-preserved
loop-quote-preserved c =
    let m = c.args.desk.now.market in
    let quote = c.quote-item.result in
    let r = rates_more (length m.objects) (input_at m) c.args.quotes.now c.loop-quote.quote-index quote c.in-Gives.rate
    c.loop-quote.rates.items c.push.new.self.items _ c.loop-quote-test.true c.quote-item.is
    (sym c.in-Gives.is ∙ c.in_ok-rate.ensures.entry
    ∙ ap (λ (t : State). input_at t.market quote) c.loop-quote.invariant.same)
    c.in_ok-push-in-Gives.ensures.items c.loop-quote.invariant.rates c.loop-quote.invariant.within in
    record { same = c.given.ensures.same ∙ c.loop-quote.invariant.same; rates = r.0; within = r.1 }
