-- A new session is whole, and sound for every bench.
use Rattle.std.proofs.Common.{◌≡◌, ℕ, zero, suc, Bool, true, false, Option, Some, None, ℤ, refl, sym, ◌∙◌, ap, subst}
use Rattle.std.proofs.lemmas.Bool.{false≢true}
use Rattle.walks.specs.Walk.{Among}
use Rattle.desk_terms.specs.declared.terms.Terms.{Terms}
use Rattle.desk_terms.specs.Reading.{Calc}
use Rattle.desk_terms.specs.declared.value.Value.{Value}
use Rattle.desk_model.specs.declared.kept.Kept.{Kept}
use Rattle.desk_model.specs.Market.{terms_at, edges_of, edges}
use Rattle.desk_model.specs.State.{kept_at, unpriced, is_source}
use Rattle.desk_model.specs.Links.{IsWhole, AreOfKind, IsKinded}
use Rattle.desk_model.specs.Sound.{IsSound}
use Rattle.desk_model.specs.Effect.{start}

start_terms : (today : ℤ) (o : ℕ) → terms_at (start today).market o ≡ None
start_terms today zero = refl
start_terms today (suc o) = refl

start_kept : (today : ℤ) (o : ℕ) → kept_at (start today) o ≡ unpriced
start_kept today zero = refl
start_kept today (suc o) = refl

no_edges : (today : ℤ) (o x : ℕ) → Among x (edges (start today).market o) → ⊥
no_edges today o x among = subst (λ (t : Option Terms). Among x (edges_of t)) (start_terms today o) among

flag_off : {P : Type 0} (flag : Kept → Bool) (today : ℤ) (o : ℕ) → flag unpriced ≡ false
    → flag (kept_at (start today) o) ≡ true → P
flag_off flag today o off is = absurd (false≢true (sym off ∙ (ap flag (sym (start_kept today o)) ∙ is)))

no_last : {P : Type 0} (today : ℤ) (o : ℕ) (value : Value) → (kept_at (start today) o).last ≡ Some value → P
no_last today o value is = absurd (none_some (sym (ap (λ (k : Kept). k.last) (start_kept today o)) ∙ is))
  where
    none_some : None ≡ Some value → ⊥
    none_some e = cc

pub whole_start : (today : ℤ) → IsWhole (start today)
whole_start today = record {
  length = refl;
  today = refl;
  links = record {
    within = λ o x among. absurd (no_edges today o x among);
    observed = λ o x among. absurd (no_edges today o x among);
    acyclic = ((λ o. 0), (λ o x among. absurd (no_edges today o x among)));
  };
  lazy = λ o is. flag_off (λ k. k.current) today o refl is;
  frozen = λ o is. flag_off (λ k. k.frozen) today o refl is;
  forward = λ o is. flag_off (λ k. k.forward) today o refl is;
  valued = λ o value is. no_last today o value is;
  registered = λ w o among. absurd among;
  noticed = λ w among. absurd among;
}

pub kinded_start : (today : ℤ) → IsKinded (start today).market
kinded_start today o = subst (AreOfKind (start today).market) (sym (start_terms today o)) tt

pub sound_start : (calc : Calc) (today : ℤ) → IsSound calc (start today)
unfolding is_source
sound_start calc today = record {
  sources = λ off x. ap (λ (k : Kept). k.source) (start_kept today x);
  current = λ o is. flag_off (λ k. k.current) today o refl is;
}
