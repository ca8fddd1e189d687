-- Lemmas on what is kept of helpers.
use Rattle.std.proofs.Common.{◌≡◌, ◌∙◌, ap, ℕ, Bool, Option}
use Rattle.day_number.specs.declared.conventions.Convention.{Convention}
use Rattle.day_number.specs.declared.tenors.Tenor.{Tenor}
use Rattle.year_parts.specs.declared.counters.Counter.{Counter}
use Rattle.curve_terms.specs.declared.terms.Helper.{Helper}

-- helpers of the same parts are the same
pub helper_same : (a b : Helper) → a.quote ≡ b.quote → a.tenor ≡ b.tenor → a.every ≡ b.every → a.conv ≡ b.conv → a.eom ≡ b.eom → a.counter ≡ b.counter → a ≡ b
helper_same a b quote tenor every conv eom counter =
    ap (λ (x : ℕ). record a { quote = x }) quote
    ∙ (ap (λ (x : Tenor). record a { quote = b.quote; tenor = x }) tenor
    ∙ (ap (λ (x : Option Tenor). record a { quote = b.quote; tenor = b.tenor; every = x }) every
    ∙ (ap (λ (x : Convention). record a { quote = b.quote; tenor = b.tenor; every = b.every; conv = x }) conv
    ∙ (ap (λ (x : Bool). record a { quote = b.quote; tenor = b.tenor; every = b.every; conv = b.conv; eom = x }) eom
    ∙ ap (λ (x : Counter). record b { counter = x }) counter))))
