-- `root::joined` meets its contract. Assumes nothing.
use Rattle.std.proofs.Common.{◌≡◌, ℕ, ◌+◌, ◌-◌, ◌*◌, ◌/◌, ◌%◌, ◌^◌, ◌<◌, ◌≤◌, sym, subst, lt_of_le_of_lt, mod-eq_of_lt, arith, lit<}
use Rattle.root.specs.Root.{whole_root}
use Rattle.root.proofs.Roots.{scaled-range}
use Rattle.root.proofs.Answers.{whole-root-lt}
use Rattle.root.proofs.joined.Goals as goal

-- the significand, doubled where p is odd, does not wrap
whole : (sig p : ℕ) → 4503599627370496 ≤ sig → sig < 9007199254740992 → sig * 2 ^ (p % 2) % 18446744073709551616 ≡ sig * 2 ^ (p % 2)
whole sig p lo hi = mod-eq_of_lt (lt_of_le_of_lt (scaled-range sig p lo hi).1 (lit< tt))

half : (r n : ℕ) → r ≡ (whole_root 54 n + 1) / 2 → r ≤ 9007199254740992
half r n e = go (whole_root 54 n) (whole-root-lt 54 n) e
  where
    go : (s : ℕ) → s < 18014398509481984 → r ≡ (s + 1) / 2 → r ≤ 9007199254740992
    go s h e = omega arith

pub nearest_root-requires : goal.nearest_root-requires
nearest_root-requires c =
    subst (λ (x : ℕ). x < 18014398509481984) (sym (whole c.args.sig c.args.p c.requires.0 c.requires.1)) (lt_of_le_of_lt (scaled-range c.args.sig c.args.p c.requires.0 c.requires.1).1 (lit< tt))

pub overflow_add-result : goal.overflow_add-result
overflow_add-result c = omega (arith, half _ _ c.nearest_root.ensures)
