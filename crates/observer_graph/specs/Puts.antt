-- Nodes put into a worklist.
use Rattle.std.specs.Prelude.{◌≡◌, ◌⊎◌, ◌+◌, ◌++◌, ℕ, true, Option, Some, None, [], ◌∷◌, length}
use Rattle.walks.specs.Walk.{Among}
use Rattle.wave_queue.specs.Thread.{WaveView, is_marked, open_count}

-- nodes of which P holds were put last, each that was not marked
pub record Puts (old new : WaveView) (P : ℕ → Type 0) : Type 0 where
  pub kept_marks : (o : ℕ) → is_marked old.marks o ≡ true → is_marked new.marks o ≡ true
  pub from : (o : ℕ) → is_marked new.marks o ≡ true → (is_marked old.marks o ≡ true) ⊎ P o
  pub waits : (o : ℕ) → is_marked new.marks o ≡ true → (is_marked old.marks o ≡ true) ⊎ Among o new.waiting
  pub kept : (o : ℕ) → Among o old.waiting → Among o new.waiting
  pub came : (o : ℕ) → Among o new.waiting → Among o old.waiting ⊎ (is_marked old.marks o ≡ true → ⊥)
  pub len : length new.marks ≡ length old.marks
  pub load : open_count new.marks + length new.waiting ≡ open_count old.marks + length old.waiting

-- a worklist with a node that a walk goes on from at once, if there is one, as if it waited last
abbrev pub carrying : Option ℕ → WaveView → WaveView
carrying None wave = wave
carrying (Some node) wave = record wave { waiting = wave.waiting ++ node ∷ [] }
