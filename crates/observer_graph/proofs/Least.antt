-- The least node of a list, or of a walk.
use Rattle.std.proofs.Common.{◌≡◌, ◌⊎◌, inl, inr, ℕ, ◌≤◌, Bool, true, false, List, ◌∷◌, refl, subst, arith, Option, Some, None}
use Rattle.std.specs.Prelude.{IfSome, ltb, if◌then◌else◌}
use Rattle.std.proofs.lemmas.Bool.{ltb-true, ltb-false, false≢true}
use Rattle.walks.specs.Walk.{Among}
use Rattle.observer_graph.specs.Notice.{IsLeast, lesser}

-- the least of the same nodes
pub least_as : (P Q : ℕ → Type 0) (least : Option ℕ) → ((o : ℕ) → P o → Q o) → ((o : ℕ) → Q o → P o) → IsLeast P least → IsLeast Q least
least_as P Q None there back none = λ o q. none o (back o q)
least_as P Q (Some x) there back is = (there x is.0, λ o q. is.1 o (back o q))

-- whether a number is the least found or more
abbrev pub IsAtLeast : Option ℕ → ℕ → Type 0
IsAtLeast None o = ⊥
IsAtLeast (Some x) o = x ≤ o

-- the least of those of which P holds, but for those that are ahead
pub record IsLeastYet (P : ℕ → Type 0) (ahead : List ℕ) (least : Option ℕ) : Type 0 where
  pub found : IfSome least P
  pub passed : (o : ℕ) → P o → Among o ahead ⊎ IsAtLeast least o

module _ (P : ℕ → Type 0) where
  -- none was passed
  pub yet_first : (ahead : List ℕ) → ((o : ℕ) → P o → Among o ahead) → IsLeastYet P ahead None
  yet_first ahead all = record { found = tt; passed = λ o p. inl (all o p) }

  -- one was passed of which P holds
  pub yet_more : (i : ℕ) (ahead rest : List ℕ) (least : Option ℕ) → ahead ≡ i ∷ rest → P i → IsLeastYet P ahead least
      → IsLeastYet P rest (Some (lesser least i))
  yet_more i ahead rest None step here yet = record {
    found = here;
    passed = λ o p. elim (yet.passed o p) [
      | inl a ↦ elim (subst (Among o) step a) [ inl same ↦ inr (omega arith) | inr later ↦ inl later ]
      | inr none ↦ absurd none
    ];
  }
  yet_more i ahead rest (Some x) step here yet = by_less (ltb i x) refl
    where
      by_less : (b : Bool) → ltb i x ≡ b → IsLeastYet P rest (Some (if b then i else x))
      by_less true less = let l = ltb-true i x less in record {
        found = here;
        passed = λ o p. elim (yet.passed o p) [
          | inl a ↦ elim (subst (Among o) step a) [ inl same ↦ inr (omega arith) | inr later ↦ inl later ]
          | inr more ↦ let m : x ≤ o = more in inr (omega arith)
        ];
      }
      by_less false more = let l = ltb-false i x more in record {
        found = yet.found;
        passed = λ o p. elim (yet.passed o p) [
          | inl a ↦ elim (subst (Among o) step a) [ inl same ↦ inr (omega arith) | inr later ↦ inl later ]
          | inr more ↦ inr more
        ];
      }

  -- one was passed of which P does not hold
  pub yet_past : (i : ℕ) (ahead rest : List ℕ) (least : Option ℕ) → ahead ≡ i ∷ rest → (P i → ⊥)
      → IsLeastYet P ahead least → IsLeastYet P rest least
  yet_past i ahead rest least step off yet = record {
    found = yet.found;
    passed = λ o p. elim (yet.passed o p) [
      | inl a ↦ elim (subst (Among o) step a) [ inl same ↦ absurd (off (subst P same p)) | inr later ↦ inl later ]
      | inr more ↦ inr more
    ];
  }

  -- none is ahead
  pub yet_all : (ahead : List ℕ) (least : Option ℕ) → ((o : ℕ) → Among o ahead → ⊥) → IsLeastYet P ahead least
      → IsLeast P least
  yet_all ahead None none yet = λ o p. elim (yet.passed o p) [ inl a ↦ none o a | inr never ↦ never ]
  yet_all ahead (Some x) none yet = (
    yet.found,
    λ o p. elim (yet.passed o p) [ inl a ↦ absurd (none o a) | inr more ↦ more ],
  )

  -- one was passed, if it is one of which P holds
  pub yet_step : (i : ℕ) (ahead rest : List ℕ) (least : Option ℕ) (b : Bool) → ahead ≡ i ∷ rest → (b ≡ true → P i)
      → (P i → b ≡ true) → IsLeastYet P ahead least → IsLeastYet P rest (if b then Some (lesser least i) else least)
  yet_step i ahead rest least true step holds is yet = yet_more i ahead rest least step (holds refl) yet
  yet_step i ahead rest least false step holds is yet = yet_past i ahead rest least step (λ p. false≢true (is p)) yet

-- more are ahead, and among them all of which Q holds and P does not
pub yet_wider : (P Q : ℕ → Type 0) (ahead ahead2 : List ℕ) (least : Option ℕ) → ((o : ℕ) → P o → Q o)
    → ((o : ℕ) → Q o → P o ⊎ Among o ahead2) → ((o : ℕ) → Among o ahead → Among o ahead2) → IsLeastYet P ahead least
    → IsLeastYet Q ahead2 least
yet_wider P Q ahead ahead2 least there back more yet = record {
  found = found least yet.found;
  passed = λ o q. elim (back o q) [
    | inl p ↦ elim (yet.passed o p) [ inl a ↦ inl (more o a) | inr past ↦ inr past ]
    | inr a ↦ inl a
  ];
}
  where
    found : (least : Option ℕ) → IfSome least P → IfSome least Q
    found None p = tt
    found (Some x) p = there x p
