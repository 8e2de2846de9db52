-- Versions looked up, stored, and gone back to. A buffer d has a used part, its first `used` bytes. Assumes nothing: these
-- are definitions.
use Rattle.refusal.specs.declared.Refusal.{Refusal}
use Rattle.std.specs.Prelude.{ℕ, ◌+◌, ◌-◌, ◌*◌, Bool, cond, not, ◌&&◌, List, ◌++◌, length, take, drop, ltb, leb, None, Option, Some, Err, Ok, Result}
use Rattle.settings.specs.declared.allowed.Setting.{Setting}
use Rattle.settings.specs.Allowed.{refusal_of}
use Rattle.settings.specs.Layout.{setting_at, versions_in, are_whole, version_bytes}

-- the setting of version k
abbrev pub version_in : List ℕ → ℕ → Setting
version_in s k = setting_at (drop (44 * (k - 1)) s)

-- 30: the used part is not at most 64 whole, allowed versions 1, 2, 3 on; 23: no such version
abbrev pub look_up : List ℕ → ℕ → Result Setting Refusal
look_up s k =
    cond (not (are_whole s)) (Err Refusal.NoSettings)
    (cond (leb 1 k && leb k (versions_in (length s))) (Ok (version_in s k)) (Err Refusal.NoVersion))

-- 24: already 64; 15: the buffer is too short; else the next version, and the place behind it
abbrev pub next_of : List ℕ → ℕ → Result (ℕ × ℕ) Refusal
next_of d used =
    cond (leb 64 (versions_in used)) (Err Refusal.NoVersionLeft)
    (cond (ltb (length d) (used + 44)) (Err Refusal.NoRoom) (Ok ((versions_in used + 1), (used + 44))))

-- the used part lies in the buffer, and is what it must be
abbrev pub is_used : List ℕ → ℕ → Bool
is_used d used = leb used (length d) && are_whole (take used d)

-- t, unless there is a refusal
abbrev pub unless_refused : Option Refusal → Result (ℕ × ℕ) Refusal → Result (ℕ × ℕ) Refusal
unless_refused (Some n) t = Err n
unless_refused None t = t

-- 30; what refuses the setting: 1, 2, 22, 14; then 24 and 15
abbrev pub stored_of : List ℕ → ℕ → Setting → Result (ℕ × ℕ) Refusal
stored_of d used x =
    cond (not (is_used d used)) (Err Refusal.NoSettings)
    (unless_refused (refusal_of x) (next_of d used))

-- a copy of version k: 30, 23, 24, 15
unfoldable pub copied_by : Result Setting Refusal → List ℕ → ℕ → Result (ℕ × ℕ) Refusal
copied_by (Ok x) d used = next_of d used
copied_by (Err n) d used = Err n

abbrev pub back_of : List ℕ → ℕ → ℕ → Result (ℕ × ℕ) Refusal
back_of d used k = cond (ltb (length d) used) (Err Refusal.NoSettings) (copied_by (look_up (take used d) k) d used)

-- the buffer afterwards: as it was where the answer is a refusal, else with the version behind the used part
unfoldable pub buffer_after : Result (ℕ × ℕ) Refusal → List ℕ → ℕ → Setting → List ℕ
buffer_after (Err n) d used x = d
buffer_after (Ok (k, r)) d used x = take used d ++ (version_bytes k x ++ drop r d)
