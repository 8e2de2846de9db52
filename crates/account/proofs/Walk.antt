-- The walk through a session ends, and the vehicles at its end are those of the plain machine over the records that were read. Assumes nothing.
use Prim.Native.Nat.{ℕ, zero, suc, ◌+◌, ◌-◌, ◌≤◌, ◌<◌}
use native.Mathlib.Omega.{arith}
use mathlib.Core.Path.{◌≡◌, refl, sym, ap, ◌∙◌}
use mathlib.Core.List.{List, [], ◌++◌}
use mathlib.Core.Bool.{false, true≢false}
use lib.ListN.{length}
use Rattle.text.specs.Pieces.{concat}
use Rattle.session.specs.declared.record.Record.{Record}
use Rattle.session.specs.declared.Reading.{Reading}
use Rattle.session.specs.declared.Reading.TheVariants as A
use Rattle.session.specs.declared.Place.{Place}
use Rattle.session.specs.Read.{start, read_at}
use Rattle.session.proofs.Progress.{progress, by-record, by-offset}
use Rattle.flight.specs.declared.Mu.{Mu}
use Rattle.replay.specs.declared.Replay.{Replay}
use Rattle.replay.specs.Replay as S
use Rattle.replay.specs.Machine.{after_of}
use Rattle.account.specs.declared.Next.{Next}
use Rattle.account.specs.declared.Next.TheVariants.{Heading, At, First, Second, Done}
use Rattle.account.specs.Account.{is_done, step_for, step_of, text_in, account_of, last_in, record_then, records_in}

-- ---- no more steps than this are left, and each leaves fewer

abbrev pub need : List ℕ → Next → ℕ
need s Heading = length s + 4
need s (At p) = length s - p.at + 3
need s First = 2
need s Second = 1
need s Done = 0

fewer-for : (mu : Mu) (p : Replay) (a : Reading) (s : List ℕ) (q : Place) → a ≡ read_at s q → need s (step_for mu p a).next < length s - q.at + 3
unfolding step_for
fewer-for mu p (A.Record r t) s q e = let f = progress s q t (rw (sym e) by-record) in omega (arith, f.further, f.inside)
fewer-for mu p (A.Offset t) s q e = let f = progress s q t (rw (sym e) by-offset) in omega (arith, f.further, f.inside)
fewer-for mu p A.End s q e = omega arith
fewer-for mu p (A.Refused n t) s q e = omega arith

pub fewer : (mu : Mu) (s : List ℕ) (next : Next) (p : Replay) → is_done next ≡ false → need s (step_of mu s next p).next < need s next
unfolding step_of
fewer mu s Heading p h = omega arith
fewer mu s (At q) p h = fewer-for mu p (read_at s q) s q refl
fewer mu s First p h = omega arith
fewer mu s Second p h = omega arith
fewer mu s Done p h = absurd (true≢false h)

-- ---- nothing changes the vehicles behind the records

last-first : (f : ℕ) (mu : Mu) (s : List ℕ) (p : Replay) → last_in f mu s Done p ≡ p
unfolding last_in step_of
last-first zero mu s p = refl
last-first (suc f) mu s p = last-first f mu s p

last-second : (f : ℕ) (mu : Mu) (s : List ℕ) (p : Replay) → last_in f mu s Second p ≡ p
unfolding last_in step_of
last-second zero mu s p = refl
last-second (suc f) mu s p = last-first f mu s p

last-vehicles : (f : ℕ) (mu : Mu) (s : List ℕ) (p : Replay) → last_in f mu s First p ≡ p
unfolding last_in step_of
last-vehicles zero mu s p = refl
last-vehicles (suc f) mu s p = last-second f mu s p

-- ---- the walk is the machine's, however far it goes

by-reading : (f : ℕ) (mu : Mu) (s : List ℕ) (p : Replay) (a : Reading)
    → ((q : Place) (p : Replay) → last_in f mu s (At q) p ≡ after_of mu p (records_in f s q))
    → last_in f mu s (step_for mu p a).next (step_for mu p a).replay ≡ after_of mu p (record_then a (records_in f s))
unfolding step_for record_then after_of
by-reading f mu s p (A.Record r q) k = k q (S.step_of mu p r).replay
by-reading f mu s p (A.Offset q) k = k q p
by-reading f mu s p A.End k = last-vehicles f mu s p
by-reading f mu s p (A.Refused n q) k = last-vehicles f mu s p

pub walk-is-machine : (f : ℕ) (mu : Mu) (s : List ℕ) (q : Place) (p : Replay) → last_in f mu s (At q) p ≡ after_of mu p (records_in f s q)
unfolding last_in records_in step_of after_of
walk-is-machine zero mu s q p = refl
walk-is-machine (suc f) mu s q p = by-reading f mu s p (read_at s q) (λ t o. walk-is-machine f mu s t o)

-- from the heading on: the vehicles of the last two lines
pub session-is-machine : (f : ℕ) (mu : Mu) (s : List ℕ) → last_in (suc f) mu s Heading S.nobody ≡ after_of mu S.nobody (records_in f s start)
unfolding last_in step_of
session-is-machine f mu s = walk-is-machine f mu s start S.nobody

-- ---- a line and those after it, and more steps than are left change nothing

done-text : (f : ℕ) (mu : Mu) (s : List ℕ) (p : Replay) → text_in f mu s Done p ≡ []
unfolding text_in step_of concat
done-text zero mu s p = refl
done-text (suc f) mu s p = done-text f mu s p

pub more-steps : (f : ℕ) (mu : Mu) (s : List ℕ) (next : Next) (p : Replay) → need s next ≤ f → text_in (suc f) mu s next p ≡ text_in f mu s next p
unfolding text_in
more-steps zero mu s Heading p h = let z : ⊥ = omega arith in absurd z
more-steps zero mu s (At q) p h = let z : ⊥ = omega arith in absurd z
more-steps zero mu s First p h = let z : ⊥ = omega arith in absurd z
more-steps zero mu s Second p h = let z : ⊥ = omega arith in absurd z
more-steps zero mu s Done p h = done-text 1 mu s p
more-steps (suc f) mu s Heading p h =
    let t = step_of mu s Heading p in
    ap (λ (l : List ℕ). t.line ++ l) (more-steps f mu s t.next t.replay (omega (arith, fewer mu s Heading p refl)))
more-steps (suc f) mu s (At q) p h =
    let t = step_of mu s (At q) p in
    ap (λ (l : List ℕ). t.line ++ l) (more-steps f mu s t.next t.replay (omega (arith, fewer mu s (At q) p refl)))
more-steps (suc f) mu s First p h =
    let t = step_of mu s First p in
    ap (λ (l : List ℕ). t.line ++ l) (more-steps f mu s t.next t.replay (omega (arith, fewer mu s First p refl)))
more-steps (suc f) mu s Second p h =
    let t = step_of mu s Second p in
    ap (λ (l : List ℕ). t.line ++ l) (more-steps f mu s t.next t.replay (omega (arith, fewer mu s Second p refl)))
more-steps (suc f) mu s Done p h = done-text (suc (suc f)) mu s p ∙ sym (done-text (suc f) mu s p)

-- ---- told from the heading on, one line after another until nothing is left, the lines are the account

settled : (d : ℕ) (mu : Mu) (s : List ℕ) (next : Next) (p : Replay) → text_in (d + need s next) mu s next p ≡ text_in (need s next) mu s next p
settled zero mu s next p = ap (λ (k : ℕ). text_in k mu s next p) (none (need s next))
  where
    none : (n : ℕ) → 0 + n ≡ n
    none n = omega arith
settled (suc d) mu s next p =
    ap (λ (k : ℕ). text_in k mu s next p) (one (need s next))
    ∙ more-steps (d + need s next) mu s next p (omega arith)
    ∙ settled d mu s next p
  where
    one : (n : ℕ) → suc d + n ≡ suc (d + n)
    one n = omega arith

pub line-by-line : (mu : Mu) (s : List ℕ) (next : Next) (p : Replay) → is_done next ≡ false
    → text_in (need s next) mu s next p
    ≡ (step_of mu s next p).line ++ text_in (need s (step_of mu s next p).next) mu s (step_of mu s next p).next (step_of mu s next p).replay
unfolding text_in
line-by-line mu s next p h =
    let t = step_of mu s next p in
    let d = need s next - suc (need s t.next) in
    ap (λ (k : ℕ). text_in k mu s next p) (split (need s next) (need s t.next) (fewer mu s next p h))
    ∙ first (d + need s t.next)
    ∙ ap (λ (l : List ℕ). t.line ++ l) (settled d mu s t.next t.replay)
  where
    split : (m n : ℕ) → n < m → m ≡ suc (m - suc n + n)
    split m n h = omega arith

    first : (f : ℕ) → text_in (suc f) mu s next p ≡ (step_of mu s next p).line ++ text_in f mu s (step_of mu s next p).next (step_of mu s next p).replay
    first f = refl

pub nothing_left : (mu : Mu) (s : List ℕ) (p : Replay) → text_in (need s Done) mu s Done p ≡ []
nothing_left mu s p = done-text 0 mu s p

pub account-is : (mu : Mu) (s : List ℕ) → account_of mu s ≡ text_in (need s Heading) mu s Heading S.nobody
account-is mu s = refl
