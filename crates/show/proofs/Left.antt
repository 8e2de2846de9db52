-- How much of the session is left. Assumes nothing.
use Rattle.std.proofs.Common.{ℕ, ◌+◌, ◌-◌, ◌<◌, ◌≤◌, ◌≡◌, List, length, Option, Some, None, arith, refl}
use Rattle.session.specs.declared.Place.{Place}

abbrev pub left : List ℕ → Option Place → ℕ
left s (Some p) = length s - p.at + 1
left s None = 0

pub less : (s : List ℕ) (p : Place) (next : Option Place) → ((q : Place) → next ≡ Some q → (p.at < q.at) × (q.at ≤ length s)) → left s next < left s (Some p)
less s p (Some q) h = let f = h q refl in omega (arith, f.0, f.1)
less s p None h = omega arith
