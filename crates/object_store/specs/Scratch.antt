-- What one ask remembers.
use Rattle.std.specs.Prelude.{◌≡◌, ◌≢◌, ◌<◌, ℕ, List, [], length, Option, None, slice_index_or}
use Rattle.walks.specs.Walk.{Among}
use Rattle.desk_model.specs.declared.entry.Entry.{Entry}

-- By object number: what it gives, as far as that was worked out; the objects of which that was remembered since the last
-- clearing; and for how many objects more there is room.
pub record ScratchView : Type 0 where
  pub entries : List (Option Entry)
  pub touched : List ℕ
  pub spare : ℕ

-- Objects of which something is remembered are among those that were touched, and these are objects.
pub record AreTouched (entries : List (Option Entry)) (touched : List ℕ) : Type 0 where
  pub entry : (x : ℕ) → slice_index_or entries x None ≢ None → Among x touched
  pub within : (x : ℕ) → Among x touched → x < length entries

-- nothing is remembered, of as many objects, and none is touched
pub record AreClear (old new : ScratchView) : Type 0 where
  pub entries : (x : ℕ) → slice_index_or new.entries x None ≡ None
  pub long : length new.entries ≡ length old.entries
  pub touched : new.touched ≡ []

-- nothing is remembered of any of n objects, and none is touched
pub record IsEmpty (n : ℕ) (scratch : ScratchView) : Type 0 where
  pub entries : (x : ℕ) → slice_index_or scratch.entries x None ≡ None
  pub long : length scratch.entries ≡ n
  pub touched : scratch.touched ≡ []
