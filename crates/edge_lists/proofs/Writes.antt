-- What a write to one slot or one node changes.
use Rattle.std.proofs.Common.{◌≡◌, inl, inr, ℕ, zero, suc, List, [], ◌∷◌, refl, sym, ap, ◌∙◌, subst, Option, Some, None}
use Rattle.std.proofs.lemmas.Bool.{cases_eq}
use Rattle.std.proofs.lemmas.List.{get_or-set_other}
use Rattle.edge_lists.specs.declared.edge.Edge.{Edge}
use Rattle.edge_lists.specs.declared.edge.Heads.{Heads}
use Rattle.edge_lists.specs.declared.edge.Side.{Side}
use Rattle.edge_lists.specs.declared.edge.Side.TheVariants.{Subject, Observer}
use Rattle.edge_lists.specs.Ends.{node_of, before_of, after_of, slot_at, heads_at, other_side, with_before, with_after, changed, with_changed, moved, with_moved, before_written, after_written}

pub slot_changed : (f : Edge → Edge) (slots : List (Option Edge)) (k : ℕ)
    → slot_at (with_changed f k slots) k ≡ changed f (slot_at slots k)
slot_changed f [] zero = refl
slot_changed f [] (suc k) = refl
slot_changed f (slot ∷ slots) zero = refl
slot_changed f (slot ∷ slots) (suc k) = slot_changed f slots k

pub heads_moved : (f : Heads → Heads) (nodes : List (Option Heads)) (x : ℕ)
    → heads_at (with_moved f x nodes) x ≡ moved f (heads_at nodes x)
heads_moved f [] zero = refl
heads_moved f [] (suc x) = refl
heads_moved f (heads ∷ nodes) zero = refl
heads_moved f (heads ∷ nodes) (suc x) = heads_moved f nodes x

-- a word that a change does not touch
pub untouched : {A : Type 0} (word : Option Edge → A) (f : Edge → Edge)
    → ((slot : Option Edge) → word (changed f slot) ≡ word slot)
    → (slots : List (Option Edge)) (j k : ℕ) → word (slot_at (with_changed f j slots) k) ≡ word (slot_at slots k)
untouched word f same slots j k = elim (cases_eq k j) [
  | inl here ↦ subst (λ (z : ℕ). word (slot_at (with_changed f j slots) z) ≡ word (slot_at slots z)) (sym here)
      (ap word (slot_changed f slots j) ∙ same (slot_at slots j))
  | inr other ↦ ap word (get_or-set_other slots j k (changed f (slot_at slots j)) None other)
]

node_before : (s side : Side) (b : Option ℕ) (slot : Option Edge)
    → node_of s (changed (with_before side b) slot) ≡ node_of s slot
node_before s side b None = refl
node_before Subject Subject b (Some edge) = refl
node_before Subject Observer b (Some edge) = refl
node_before Observer Subject b (Some edge) = refl
node_before Observer Observer b (Some edge) = refl

node_after : (s side : Side) (a : Option ℕ) (slot : Option Edge)
    → node_of s (changed (with_after side a) slot) ≡ node_of s slot
node_after s side a None = refl
node_after Subject Subject a (Some edge) = refl
node_after Subject Observer a (Some edge) = refl
node_after Observer Subject a (Some edge) = refl
node_after Observer Observer a (Some edge) = refl

after_before : (s side : Side) (b : Option ℕ) (slot : Option Edge)
    → after_of s (changed (with_before side b) slot) ≡ after_of s slot
after_before s side b None = refl
after_before Subject Subject b (Some edge) = refl
after_before Subject Observer b (Some edge) = refl
after_before Observer Subject b (Some edge) = refl
after_before Observer Observer b (Some edge) = refl

before_after : (s side : Side) (a : Option ℕ) (slot : Option Edge)
    → before_of s (changed (with_after side a) slot) ≡ before_of s slot
before_after s side a None = refl
before_after Subject Subject a (Some edge) = refl
before_after Subject Observer a (Some edge) = refl
before_after Observer Subject a (Some edge) = refl
before_after Observer Observer a (Some edge) = refl

before_aside : (side : Side) (b : Option ℕ) (slot : Option Edge) → before_of (other_side side)
    (changed (with_before side b) slot) ≡ before_of (other_side side) slot
before_aside side b None = refl
before_aside Subject b (Some edge) = refl
before_aside Observer b (Some edge) = refl

after_aside : (side : Side) (a : Option ℕ) (slot : Option Edge) → after_of (other_side side)
    (changed (with_after side a) slot) ≡ after_of (other_side side) slot
after_aside side a None = refl
after_aside Subject a (Some edge) = refl
after_aside Observer a (Some edge) = refl

before_there : (side : Side) (b : Option ℕ) (slot : Option Edge) (x : ℕ) → node_of side slot ≡ Some x
    → before_of side (changed (with_before side b) slot) ≡ b
before_there side b None x held = absurd (cc)
before_there Subject b (Some edge) x held = refl
before_there Observer b (Some edge) x held = refl

after_there : (side : Side) (a : Option ℕ) (slot : Option Edge) (x : ℕ) → node_of side slot ≡ Some x
    → after_of side (changed (with_after side a) slot) ≡ a
after_there side a None x held = absurd (cc)
after_there Subject a (Some edge) x held = refl
after_there Observer a (Some edge) x held = refl

-- writes of what stands before
module _ (side : Side) (b : Option ℕ) (slots : List (Option Edge)) where
  pub bw_node : (found : Option ℕ) (s : Side) (k : ℕ)
      → node_of s (slot_at (before_written side found b slots) k) ≡ node_of s (slot_at slots k)
  bw_node None s k = refl
  bw_node (Some j) s k = untouched (node_of s) (with_before side b) (node_before s side b) slots j k

  pub bw_after : (found : Option ℕ) (s : Side) (k : ℕ)
      → after_of s (slot_at (before_written side found b slots) k) ≡ after_of s (slot_at slots k)
  bw_after None s k = refl
  bw_after (Some j) s k = untouched (after_of s) (with_before side b) (after_before s side b) slots j k

  pub bw_aside : (found : Option ℕ) (k : ℕ) → before_of (other_side side)
      (slot_at (before_written side found b slots) k) ≡ before_of (other_side side) (slot_at slots k)
  bw_aside None k = refl
  bw_aside (Some j) k = untouched (before_of (other_side side)) (with_before side b) (before_aside side b) slots j k

  pub bw_other : (found : Option ℕ) (k : ℕ) → (found ≡ Some k → ⊥)
      → before_of side (slot_at (before_written side found b slots) k) ≡ before_of side (slot_at slots k)
  bw_other None k other = refl
  bw_other (Some j) k other = ap (before_of side)
      (get_or-set_other slots j k (changed (with_before side b) (slot_at slots j)) None
      (λ same. other (ap Some (sym same))))

  pub bw_here : (j x : ℕ) → node_of side (slot_at slots j) ≡ Some x
      → before_of side (slot_at (before_written side (Some j) b slots) j) ≡ b
  bw_here j x held = ap (before_of side) (slot_changed (with_before side b) slots j) ∙ before_there side b
      (slot_at slots j) x held

-- writes of what stands after
module _ (side : Side) (a : Option ℕ) (slots : List (Option Edge)) where
  pub aw_node : (found : Option ℕ) (s : Side) (k : ℕ)
      → node_of s (slot_at (after_written side found a slots) k) ≡ node_of s (slot_at slots k)
  aw_node None s k = refl
  aw_node (Some j) s k = untouched (node_of s) (with_after side a) (node_after s side a) slots j k

  pub aw_before : (found : Option ℕ) (s : Side) (k : ℕ)
      → before_of s (slot_at (after_written side found a slots) k) ≡ before_of s (slot_at slots k)
  aw_before None s k = refl
  aw_before (Some j) s k = untouched (before_of s) (with_after side a) (before_after s side a) slots j k

  pub aw_aside : (found : Option ℕ) (k : ℕ) → after_of (other_side side)
      (slot_at (after_written side found a slots) k) ≡ after_of (other_side side) (slot_at slots k)
  aw_aside None k = refl
  aw_aside (Some j) k = untouched (after_of (other_side side)) (with_after side a) (after_aside side a) slots j k

  pub aw_other : (found : Option ℕ) (k : ℕ) → (found ≡ Some k → ⊥)
      → after_of side (slot_at (after_written side found a slots) k) ≡ after_of side (slot_at slots k)
  aw_other None k other = refl
  aw_other (Some j) k other = ap (after_of side)
      (get_or-set_other slots j k (changed (with_after side a) (slot_at slots j)) None
      (λ same. other (ap Some (sym same))))

  pub aw_here : (j x : ℕ) → node_of side (slot_at slots j) ≡ Some x
      → after_of side (slot_at (after_written side (Some j) a slots) j) ≡ a
  aw_here j x held = ap (after_of side) (slot_changed (with_after side a) slots j) ∙ after_there side a
      (slot_at slots j) x held
