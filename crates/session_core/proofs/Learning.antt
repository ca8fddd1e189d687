-- What holds of a session's names stays where it learns one.
use Rattle.std.proofs.Common.{◌≡◌, ℕ, zero, suc, List, [], ◌∷◌, ◌++◌, Option, None, refl, sym, ◌∙◌, arith}
use Rattle.std.specs.Prelude.{slice_index_or}
use Rattle.std.proofs.lemmas.List.{length-append}
use Rattle.session_model.specs.Standing.{Standing}
use Rattle.session_core.specs.HasNames.{HasNames}

-- the name behind the last stands for no object
with_none : (of_name : List (Option ℕ)) (name : ℕ)
    → slice_index_or (of_name ++ None ∷ []) name None ≡ slice_index_or of_name name None
with_none [] zero = refl
with_none [] (suc name) = refl
with_none (entry ∷ of_name) zero = refl
with_none (entry ∷ of_name) (suc name) = with_none of_name name

-- a name more, in all tables
pub names_learnt : (p : Standing) (of_name table watching : List (Option ℕ)) (live : ℕ) (text : List ℕ) (names : List (List ℕ))
    → HasNames p of_name live → names ≡ p.names ++ text ∷ [] → watching ≡ p.watching ++ None ∷ []
    → table ≡ of_name ++ None ∷ []
    → HasNames (record p { names = names; watching = watching }) table live
names_learnt p of_name table watching live text names h named acting found = rw (named, acting, found) (record {
  table = let long = h.table in omega (arith, long, length-append of_name (None ∷ []), length-append p.names (text ∷ []));
  watching = let long = h.watching in
      omega (arith, long, length-append p.watching (None ∷ []), length-append p.names (text ∷ []));
  objects = h.objects;
  today = h.today;
  living = h.living;
  few = h.few;
  there = λ name o is. h.there name o (sym (with_none of_name name) ∙ is);
  all = λ name o is. with_none of_name name ∙ h.all name o is;
})
