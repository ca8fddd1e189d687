-- Lists of slots stay lists where a slot is linked in or out.
use Rattle.std.proofs.Common.{◌≡◌, ◌≢◌, ◌⊎◌, inl, inr, ℕ, zero, suc, ◌<◌, Bool, refl, sym, ap, ◌∙◌, arith, Option, Some, None, cond}
use Rattle.std.specs.Prelude.{◌==◌}
use Rattle.std.proofs.lemmas.Bool.{cases_eq, eq-eqb, ne_eqb}
use Rattle.edge_lists.specs.Chains.{Chains, AreChained, SameChains, LinksIn, LinksOut}

-- a slot or none
pub known : (found : Option ℕ) → (found ≡ None) ⊎ ((k : ℕ) × (found ≡ Some k))
known None = inl refl
known (Some k) = inr (k, refl)

-- whether it is this slot
pub is_slot : (found : Option ℕ) (k : ℕ) → (found ≡ Some k) ⊎ (found ≡ Some k → ⊥)
is_slot None k = inr (λ e. absurd (cc))
is_slot (Some j) k = elim (cases_eq j k) [
  | inl same ↦ inl (ap Some same)
  | inr other ↦ inr (λ e. other (cc))
]

-- a slot to which another leads is not vacant
pub no_vacant_after : (c : Chains) → AreChained c → (k edge : ℕ) → c.node edge ≡ None → c.after k ≡ Some edge → ⊥
no_vacant_after c chained k edge vacant leads =
    let at = chained.after k edge leads in
    let none = chained.vacant k (sym at.0 ∙ vacant) in
    let e : Some edge ≡ None = sym leads ∙ none.1 in cc

pub no_vacant_before : (c : Chains) → AreChained c → (k edge : ℕ) → c.node edge ≡ None → c.before k ≡ Some edge → ⊥
no_vacant_before c chained k edge vacant leads =
    let at = chained.before k edge leads in
    let none = chained.vacant k (sym at.0 ∙ vacant) in
    let e : Some edge ≡ None = sym leads ∙ none.0 in cc

-- the rank above that of a slot, if there is one
above : (ℕ → ℕ) → Option ℕ → ℕ
above rank None = zero
above rank (Some k) = suc (rank k)

unfoldable raised : (ℕ → ℕ) → ℕ → Option ℕ → ℕ → ℕ
raised rank edge first k = cond (k == edge) (above rank first) (rank k)

raised_at : (rank : ℕ → ℕ) (edge : ℕ) (first : Option ℕ) → raised rank edge first edge ≡ above rank first
unfolding raised
raised_at rank edge first = ap (λ (b : Bool). cond b (above rank first) (rank edge)) (eq-eqb edge edge refl)

raised_other : (rank : ℕ → ℕ) (edge : ℕ) (first : Option ℕ) (k : ℕ) → k ≢ edge → raised rank edge first k ≡ rank k
unfolding raised
raised_other rank edge first k other = ap (λ (b : Bool). cond b (above rank first) (rank k)) (ne_eqb k edge other)

-- a slot is linked in as the first of a node
pub linked_in : (edge x : ℕ) (c d : Chains) → AreChained c → c.node edge ≡ None → LinksIn edge x c d → AreChained d
unfolding above
linked_in edge x c d chained vacant by = record {
  rank = raised chained.rank edge (c.first x);
  starts = starts;
  leads = leads;
  after = after;
  before = before;
  vacant = none;
  falls = falls;
}
  where
    apart : (y k : ℕ) → c.node k ≡ Some y → k ≢ edge
    apart y k node same = let e : c.node k ≡ c.node edge = ap c.node same in cc

    starts : (y k : ℕ) → d.first y ≡ Some k → (d.node k ≡ Some y) × (d.before k ≡ None)
    starts y k first = elim (cases_eq y x) [
      | inl same ↦
          let e : d.first y ≡ d.first x = ap d.first same in
          let f = by.first in
          let at : k ≡ edge = cc in
          let n : d.node k ≡ d.node edge = ap d.node at in
          let b : d.before k ≡ d.before edge = ap d.before at in
          (n ∙ by.node ∙ ap Some (sym same), b ∙ by.before)
      | inr other ↦
          let was = chained.starts y k (sym (by.firsts y other) ∙ first) in
          let new = apart y k was.0 in
          let past : c.first x ≡ Some k → ⊥ = λ e. other (some_same (sym was.0 ∙ (chained.starts x k e).0)) in
          (by.nodes k new ∙ was.0, by.befores k new past ∙ was.1)
    ]
      where
        some_same : {x y : ℕ} → Some x ≡ Some y → x ≡ y
        some_same e = cc

    leads : (y k : ℕ) → d.node k ≡ Some y → d.before k ≡ None → d.first y ≡ Some k
    leads y k node none = elim (cases_eq k edge) [
      | inl same ↦
          let n : d.node k ≡ d.node edge = ap d.node same in
          let e = by.node in
          let at : y ≡ x = cc in
          ap d.first at ∙ by.first ∙ ap Some (sym same)
      | inr new ↦
          elim (is_slot (c.first x) k) [
            | inl first ↦ let e = by.pushed k first in absurd (cc)
            | inr past ↦
                let was = chained.leads y k (sym (by.nodes k new) ∙ node) (sym (by.befores k new past) ∙ none) in
                elim (cases_eq y x) [
                  | inl same ↦ absurd (past (ap c.first (sym same) ∙ was))
                  | inr other ↦ by.firsts y other ∙ was
                ]
          ]
    ]

    after : (k j : ℕ) → d.after k ≡ Some j → (d.node j ≡ d.node k) × (d.before j ≡ Some k)
    after k j next = elim (cases_eq k edge) [
      | inl same ↦
          let first = sym by.after ∙ ap d.after (sym same) ∙ next in
          let was = chained.starts x j first in (
            by.nodes j (apart x j was.0) ∙ was.0 ∙ sym by.node ∙ ap d.node (sym same),
            by.pushed j first
                ∙ ap Some (sym same),
          )
      | inr new ↦
          let next2 = sym (by.afters k new) ∙ next in
          let was = chained.after k j next2 in
          let new2 : j ≢ edge = λ e. no_vacant_after c chained k edge vacant (next2 ∙ ap Some e) in
          let past : c.first x ≡ Some j → ⊥ = λ e. let n = (chained.starts x j e).1 in let b = was.1 in absurd (cc) in
          (by.nodes j new2 ∙ was.0 ∙ sym (by.nodes k new), by.befores j new2 past ∙ was.1)
    ]

    before : (k j : ℕ) → d.before k ≡ Some j → (d.node j ≡ d.node k) × (d.after j ≡ Some k)
    before k j last = elim (cases_eq k edge) [
      | inl same ↦ let e = by.before in let f : d.before k ≡ d.before edge = ap d.before same in absurd (cc)
      | inr new ↦
          elim (is_slot (c.first x) k) [
            | inl first ↦
                let e = by.pushed k first in
                let at : j ≡ edge = cc in (
                  ap d.node at ∙ by.node ∙ sym (chained.starts x k first).0 ∙ sym (by.nodes k new),
                  ap d.after at ∙ by.after ∙ first,
                )
            | inr past ↦
                let last2 = sym (by.befores k new past) ∙ last in
                let was = chained.before k j last2 in
                let new2 : j ≢ edge = λ e. no_vacant_before c chained k edge vacant (last2 ∙ ap Some e) in
                (by.nodes j new2 ∙ was.0 ∙ sym (by.nodes k new), by.afters j new2 ∙ was.1)
          ]
    ]

    none : (k : ℕ) → d.node k ≡ None → (d.before k ≡ None) × (d.after k ≡ None)
    none k node = elim (cases_eq k edge) [
      | inl same ↦ let e = by.node in let f : d.node k ≡ d.node edge = ap d.node same in absurd (cc)
      | inr new ↦
          let node2 = sym (by.nodes k new) ∙ node in
          let was = chained.vacant k node2 in
          let past : c.first x ≡ Some k → ⊥ = λ e. let n = (chained.starts x k e).0 in absurd (cc) in
          (by.befores k new past ∙ was.0, by.afters k new ∙ was.1)
    ]

    falls : (k j : ℕ) → d.after k ≡ Some j → raised chained.rank edge (c.first x) j < raised chained.rank edge
        (c.first x) k
    falls k j next = elim (cases_eq k edge) [
      | inl same ↦
          let first = sym by.after ∙ ap d.after (sym same) ∙ next in
          let new = apart x j (chained.starts x j first).0 in
          let low = raised_other chained.rank edge (c.first x) j new in
          let high : raised chained.rank edge (c.first x) k ≡ suc (chained.rank j) =
          ap (raised chained.rank edge (c.first x)) same ∙ raised_at chained.rank edge (c.first x)
          ∙ ap (above chained.rank) first in
          omega arith
      | inr new ↦
          let next2 = sym (by.afters k new) ∙ next in
          let new2 : j ≢ edge = λ e. no_vacant_after c chained k edge vacant (next2 ∙ ap Some e) in
          let low = raised_other chained.rank edge (c.first x) j new2 in
          let high = raised_other chained.rank edge (c.first x) k new in
          let falls = chained.falls k j next2 in
          omega arith
    ]

-- a slot of a node is taken out of its list
pub linked_out : (edge x : ℕ) (c d : Chains) → AreChained c → c.node edge ≡ Some x → LinksOut edge x c d → AreChained d
linked_out edge x c d chained here by = record {
  rank = chained.rank;
  starts = starts;
  leads = leads;
  after = after;
  before = before;
  vacant = none;
  falls = falls;
}
  where
    next_apart : (j : ℕ) → c.after edge ≡ Some j → j ≢ edge
    next_apart j next same = let low = chained.falls edge j next in let e = ap chained.rank same in omega arith

    last_apart : (j : ℕ) → c.before edge ≡ Some j → j ≢ edge
    last_apart j last same =
        let low = chained.falls j edge (chained.before edge j last).1 in let e = ap chained.rank same in omega arith

    held : (k y : ℕ) → d.node k ≡ Some y → k ≢ edge
    held k y node same = let e : d.node k ≡ d.node edge = ap d.node same in let n = by.node in cc

    starts : (y k : ℕ) → d.first y ≡ Some k → (d.node k ≡ Some y) × (d.before k ≡ None)
    starts y k first = elim (cases_eq y x) [
      | inl same ↦
          let e : d.first y ≡ d.first x = ap d.first same in
          elim (known (c.before edge)) [
            | inl none ↦
                let next : c.after edge ≡ Some k = sym (by.moved none) ∙ sym e ∙ first in
                let was = chained.after edge k next in
                (by.nodes k (next_apart k next) ∙ was.0 ∙ here ∙ ap Some (sym same), by.joined_before k next ∙ none)
            | inr last ↦
                let first2 : c.first x ≡ Some k = sym (by.kept last.0 last.1) ∙ sym e ∙ first in
                let was = chained.starts x k first2 in
                let other : k ≢ edge = λ s. let f : c.before k ≡ c.before edge = ap c.before s in let b = was.1 in
                let l = last.1 in absurd (cc) in
                let past : c.after edge ≡ Some k → ⊥ = λ n. let b = (chained.after edge k n).1 in let b2 = was.1 in
                absurd (cc) in
                (by.nodes k other ∙ was.0 ∙ ap Some (sym same), by.befores k other past ∙ was.1)
          ]
      | inr apart ↦
          let was = chained.starts y k (sym (by.firsts y apart) ∙ first) in
          let other : k ≢ edge = λ s. apart (some_same (sym was.0 ∙ ap c.node s ∙ here)) in
          let past : c.after edge ≡ Some k
          → ⊥ = λ n. apart (some_same (sym was.0 ∙ (chained.after edge k n).0 ∙ here)) in
          (by.nodes k other ∙ was.0, by.befores k other past ∙ was.1)
    ]
      where
        some_same : {x y : ℕ} → Some x ≡ Some y → x ≡ y
        some_same e = cc

    leads : (y k : ℕ) → d.node k ≡ Some y → d.before k ≡ None → d.first y ≡ Some k
    leads y k node none =
        let other = held k y node in
        let node2 = sym (by.nodes k other) ∙ node in
        elim (is_slot (c.after edge) k) [
          | inl next ↦
              let was = (chained.after edge k next).0 in
              let same : y ≡ x = cc in
              ap d.first same ∙ by.moved (sym (by.joined_before k next) ∙ none) ∙ next
          | inr past ↦
              let first = chained.leads y k node2 (sym (by.befores k other past) ∙ none) in
              elim (cases_eq y x) [
                | inl same ↦
                    elim (known (c.before edge)) [
                      | inl begins ↦
                          let f = chained.leads x edge here begins in
                          let e : c.first y ≡ c.first x = ap c.first same in
                          absurd (other (cc))
                      | inr last ↦ ap d.first same ∙ by.kept last.0 last.1 ∙ ap c.first (sym same) ∙ first
                    ]
                | inr apart ↦ by.firsts y apart ∙ first
              ]
        ]

    moves : (k j : ℕ) → d.after k ≡ Some j → k ≢ edge
    moves k j next same = let e : d.after k ≡ d.after edge = ap d.after same in let n = by.after in cc

    after : (k j : ℕ) → d.after k ≡ Some j → (d.node j ≡ d.node k) × (d.before j ≡ Some k)
    after k j next =
        let other = moves k j next in
        elim (is_slot (c.before edge) k) [
          | inl last ↦
              let next2 = sym (by.joined_after k last) ∙ next in
              let was = chained.after edge j next2 in (
                by.nodes j (next_apart j next2) ∙ was.0 ∙ sym (chained.before edge k last).0 ∙ sym (by.nodes k other),
                by.joined_before j next2 ∙ last,
              )
          | inr past ↦
              let next2 = sym (by.afters k other past) ∙ next in
              let was = chained.after k j next2 in
              let other2 : j ≢ edge = λ s. past (ap c.before (sym s) ∙ was.1) in
              let past2 : c.after edge ≡ Some j → ⊥ = λ n. let b = (chained.after edge j n).1 in let b2 = was.1 in
              other (cc) in
              (by.nodes j other2 ∙ was.0 ∙ sym (by.nodes k other), by.befores j other2 past2 ∙ was.1)
        ]

    before : (k j : ℕ) → d.before k ≡ Some j → (d.node j ≡ d.node k) × (d.after j ≡ Some k)
    before k j last =
        let other : k ≢ edge = λ same. let e : d.before k ≡ d.before edge = ap d.before same in let n = by.before in
        absurd (cc) in
        elim (is_slot (c.after edge) k) [
          | inl next ↦
              let last2 = sym (by.joined_before k next) ∙ last in
              let was = chained.before edge j last2 in (
                by.nodes j (last_apart j last2) ∙ was.0 ∙ sym (chained.after edge k next).0 ∙ sym (by.nodes k other),
                by.joined_after j last2 ∙ next,
              )
          | inr past ↦
              let last2 = sym (by.befores k other past) ∙ last in
              let was = chained.before k j last2 in
              let other2 : j ≢ edge = λ s. past (ap c.after (sym s) ∙ was.1) in
              let past2 : c.before edge ≡ Some j → ⊥ = λ n. let b = (chained.before edge j n).1 in let b2 = was.1 in
              other (cc) in
              (by.nodes j other2 ∙ was.0 ∙ sym (by.nodes k other), by.afters j other2 past2 ∙ was.1)
        ]

    none : (k : ℕ) → d.node k ≡ None → (d.before k ≡ None) × (d.after k ≡ None)
    none k node = elim (cases_eq k edge) [
      | inl same ↦ (ap d.before same ∙ by.before, ap d.after same ∙ by.after)
      | inr other ↦
          let node2 = sym (by.nodes k other) ∙ node in
          let was = chained.vacant k node2 in
          let past : c.after edge ≡ Some k → ⊥ = λ n. let e = (chained.after edge k n).0 in absurd (cc) in
          let past2 : c.before edge ≡ Some k → ⊥ = λ n. let e = (chained.before edge k n).0 in absurd (cc) in
          (by.befores k other past ∙ was.0, by.afters k other past2 ∙ was.1)
    ]

    falls : (k j : ℕ) → d.after k ≡ Some j → chained.rank j < chained.rank k
    falls k j next =
        let other = moves k j next in
        elim (is_slot (c.before edge) k) [
          | inl last ↦
              let low = chained.falls edge j (sym (by.joined_after k last) ∙ next) in
              let high = chained.falls k edge (chained.before edge k last).1 in
              omega arith
          | inr past ↦ chained.falls k j (sym (by.afters k other past) ∙ next)
        ]

-- chains that say the same
pub chained_same : (c d : Chains) → SameChains c d → AreChained c → AreChained d
chained_same c d same chained = record {
  rank = chained.rank;
  starts = λ x k first. let was = chained.starts x k (sym (same.first x) ∙ first) in
      (same.node k ∙ was.0, same.before k ∙ was.1);
  leads = λ x k node none. same.first x ∙ chained.leads x k (sym (same.node k) ∙ node) (sym (same.before k) ∙ none);
  after = λ k j next. let was = chained.after k j (sym (same.after k) ∙ next) in
      (same.node j ∙ was.0 ∙ sym (same.node k), same.before j ∙ was.1);
  before = λ k j last. let was = chained.before k j (sym (same.before k) ∙ last) in
      (same.node j ∙ was.0 ∙ sym (same.node k), same.after j ∙ was.1);
  vacant = λ k node. let was = chained.vacant k (sym (same.node k) ∙ node) in
      (same.before k ∙ was.0, same.after k ∙ was.1);
  falls = λ k j next. chained.falls k j (sym (same.after k) ∙ next);
}
