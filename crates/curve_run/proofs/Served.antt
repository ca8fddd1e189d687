-- What names stand for, one behind another.
use Rattle.std.proofs.Common.{◌≡◌, ℕ, suc, ◌+◌, Bool, true, false, ◌||◌, List, [], ◌∷◌, ◌++◌, length, Option, Some, None, Result, Ok, Err, codes, refl, sym, ◌∙◌, ap, subst, arith}
use Rattle.std.specs.Prelude.{if◌then◌else◌}
use Rattle.std.proofs.lemmas.List.Elements.{All-nil, All-cons}
use Rattle.desk_terms.specs.declared.kind.Kind as kind
use Rattle.desk_terms.specs.declared.kind.Wanted.TheVariants.{CurveTarget}
use Rattle.desk_terms.specs.Kind.{serves, role}
use Rattle.desk_terms.specs.Terms.{kind_of}
use Rattle.desk_model.specs.declared.slot.Slot.{Slot}
use Rattle.desk_model.specs.declared.slot.Slot.TheVariants.{Free, Today, Watcher, Live}
use Rattle.desk_model.specs.Links.{serves_as, is_lazy_at}
use Rattle.desk_model.specs.Market.{Market, slot_at, kind_in, kind_at, terms_in, is_lazy, role_of}
use Rattle.market_desk.specs.declared.named.Unnamed.{Unnamed}
use Rattle.market_desk.specs.declared.named.Unnamed.TheVariants.{Kind as NoCurve}
use Rattle.market_desk.specs.Standing.{number_of, by_kind, by_number, object_named}
use Rattle.curve_run.specs.Named.{is_curve, curve_below, object_in, objects_named, lines_named, unless, named_of, AreCurves}

-- one object more
pub curve_next : (market : Market) (o : ℕ) → curve_below market (o + 1) ≡ (is_curve (kind_at market o) || curve_below market o)
unfolding curve_below
curve_next market o = ap (curve_below market) (let e : o + 1 ≡ suc o = omega arith in e)

pub curve_first : (market : Market) → curve_below market 0 ≡ false
unfolding curve_below
curve_first market = refl

module _ (market : Market) where
  kind_served : (o : ℕ) (found : Option kind.Kind) → kind_at market o ≡ found → (curve : ℕ) → by_kind CurveTarget o found ≡ Ok curve
      → serves_as (kind_at market curve) CurveTarget ≡ true
  kind_served o None is curve e = absurd (cc)
  kind_served o (Some k) is curve e = chosen (serves k CurveTarget) refl e
    where
      chosen : (b : Bool) → serves k CurveTarget ≡ b → (if b then Ok o else Err NoCurve) ≡ Ok curve
          → serves_as (kind_at market curve) CurveTarget ≡ true
      chosen true serve ok = let same : o ≡ curve = cc in
          ap (λ (x : ℕ). serves_as (kind_at market x) CurveTarget) (sym same) ∙ ap (λ f. serves_as f CurveTarget) is ∙ serve
      chosen false serve ok = absurd (cc)

  number_served : (number : Option ℕ) (curve : ℕ) → by_number CurveTarget market number ≡ Ok curve → serves_as (kind_at market curve) CurveTarget ≡ true
  number_served None curve e = absurd (cc)
  number_served (Some o) curve e = kind_served o (kind_at market o) refl curve e

  one_served : (found : Result ℕ Unnamed) (others : List ℕ) → ((curve : ℕ) → found ≡ Ok curve → serves_as (kind_at market curve) CurveTarget ≡ true)
      → AreCurves market others → AreCurves market (object_in found ++ others)
  one_served (Ok o) others serve are = All-cons (λ o. serves_as (kind_at market o) CurveTarget ≡ true) o others (serve o refl) are
  one_served (Err why) others serve are = are

  -- the objects that are found are curves
  pub all_served : (names texts : List (List ℕ)) → AreCurves market (objects_named market names texts)
  unfolding objects_named
  all_served names [] = All-nil (λ o. serves_as (kind_at market o) CurveTarget ≡ true)
  all_served names (text ∷ texts) =
      one_served (object_named CurveTarget market names text) (objects_named market names texts) (λ curve e. number_served (number_of names text) curve e)
      (all_served names texts)

pub are_served : (market : Market) (names texts : List (List ℕ)) (curves : List ℕ) → curves ≡ objects_named market names texts
    → AreCurves market curves
are_served market names texts curves is = subst (λ (l : List ℕ). AreCurves market l) (sym is) (all_served market names texts)

-- ---- what all names stand for

module _ (market : Market) (names texts : List (List ℕ)) where
  pub named_some : curve_below market (length market.objects) ≡ true
      → named_of market names texts ≡ unless (lines_named market names texts) (objects_named market names texts)
  unfolding named_of
  named_some some =
      ap (λ (b : Bool). if b then unless (lines_named market names texts) (objects_named market names texts) else Err (codes "refused curve none\n")) some

  pub named_none : curve_below market (length market.objects) ≡ false → named_of market names texts ≡ Err (codes "refused curve none\n")
  unfolding named_of
  named_none none =
      ap (λ (b : Bool). if b then unless (lines_named market names texts) (objects_named market names texts) else Err (codes "refused curve none\n")) none

-- ---- a curve is priced

kind_lazy : (k : kind.Kind) → serves k CurveTarget ≡ true → is_lazy (role k) ≡ true
kind_lazy kind.TheVariants.Today e = absurd (let none : false ≡ true = e in cc)
kind_lazy kind.TheVariants.Quote e = absurd (let none : false ≡ true = e in cc)
kind_lazy kind.TheVariants.Derived e = absurd (let none : false ≡ true = e in cc)
kind_lazy kind.TheVariants.QuoteHandle e = absurd (let none : false ≡ true = e in cc)
kind_lazy kind.TheVariants.CurveHandle e = absurd (let none : false ≡ true = e in cc)
kind_lazy kind.TheVariants.Index e = absurd (let none : false ≡ true = e in cc)
kind_lazy kind.TheVariants.Engine e = absurd (let none : false ≡ true = e in cc)
kind_lazy kind.TheVariants.Curve e = refl
kind_lazy kind.TheVariants.Implied e = refl
kind_lazy kind.TheVariants.Stock e = absurd (let none : false ≡ true = e in cc)
kind_lazy kind.TheVariants.Composite e = absurd (let none : false ≡ true = e in cc)
kind_lazy kind.TheVariants.Flows e = absurd (let none : false ≡ true = e in cc)
kind_lazy kind.TheVariants.Watcher e = absurd (let none : false ≡ true = e in cc)

slot_lazy : (slot : Slot) → serves_as (kind_in slot) CurveTarget ≡ true → is_lazy (role_of (terms_in slot)) ≡ true
slot_lazy Free e = absurd (let none : false ≡ true = e in cc)
slot_lazy Today e = absurd (let none : false ≡ true = e in cc)
slot_lazy Watcher e = absurd (let none : false ≡ true = e in cc)
slot_lazy (Live terms) e = kind_lazy (kind_of terms) e

pub curve_lazy : (m : Market) (o : ℕ) → serves_as (kind_at m o) CurveTarget ≡ true → is_lazy_at m o ≡ true
curve_lazy m o is = slot_lazy (slot_at m o) is
