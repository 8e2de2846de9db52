-- The place behind a version that was stored lies within the buffer. Assumes nothing: these are definitions.
use Rattle.refusal.specs.declared.Refusal.{Refusal}
use Rattle.std.specs.Prelude.{ℕ, ◌≤◌, List, length, Err, Ok, Result}

abbrev pub Within : Result (ℕ × ℕ) Refusal → List ℕ → Type 0
Within (Ok (k, r)) d = r ≤ length d
Within (Err n) d = Unit {0}
