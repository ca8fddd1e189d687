-- How a count of faults or of misses goes: it rises at each of them, and stands still at its last value.
use Rattle.std.specs.Prelude.{◌⊎◌, ℕ, ◌+◌, ◌-◌, ◌^◌, ◌<◌, ◌≤◌, min}

-- the last value of a count, the last of a u64 (this project's profile)
abbrev pub last_count : ℕ
last_count = 2 ^ 64 - 1

-- the count after one more (this project's profile)
abbrev pub raised : ℕ → ℕ
raised count = min (count + 1) last_count

-- the count rose from one moment to a later one, or stands at its last value (this project's profile)
abbrev pub Rose : ℕ → ℕ → Type 0
Rose before now = (before < now) ⊎ (last_count ≤ now)
