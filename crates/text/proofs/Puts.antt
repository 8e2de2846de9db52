-- Laws of text put into a buffer, whether it fits or not. Assumes nothing.
use Prim.Native.Nat.{ℕ, ◌+◌, ◌-◌, ◌^◌, ◌≤◌, ◌<◌}
use native.Mathlib.Omega.{arith}
use mathlib.Core.Path.{◌≡◌, refl, sym, ap, ◌∙◌}
use mathlib.Core.List.{List, [], ◌∷◌, ◌++◌}
use mathlib.Core.Bool.{Bool, true, false}
use mathlib.Core.Logic.{◌⊎◌, inl, inr, ⊎_elim}
use lib.ListN.{length, take, drop, take-append-drop, length-append}
use lib.Dec.{leb}
use borrow.Author.Tests.{leb-true, leb-false, le-leb, lt-leb}
use Rattle.text.specs.Text.{nowhere, Stands, IfFits, Put}
use Rattle.text.proofs.Stand.{then, same_size}

-- a text fits or it does not
room : (m n : ℕ) (b : Bool) → leb m n ≡ b → (m ≤ n) ⊎ (n < m)
room m n true e = inl (leb-true m n e)
room m n false e = inr (leb-false m n e)

either : (m n : ℕ) → (m ≤ n) ⊎ (n < m)
either m n = room m n (leb m n) refl

-- the test of what is left, and of the place behind
left-test : (at k size : ℕ) (b : Bool) → at ≤ size → leb k (size - at) ≡ b → b ≡ leb (at + k) size
left-test at k size true h e = let l = leb-true k (size - at) e in sym (le-leb (at + k) size (omega arith))
left-test at k size false h e = let l = leb-false k (size - at) e in sym (lt-leb (at + k) size (omega arith))

pub room-left : (at k size : ℕ) → at ≤ size → leb k (size - at) ≡ leb (at + k) size
room-left at k size h = left-test at k size (leb k (size - at)) h refl

-- what is shown of a text that fits, and of one that does not
pub put : {d x e : List ℕ} {a r : ℕ} → Stands d a x e r → Put d a x e r
put p = record { fits = λ h. p; lacks = λ h. let z : ⊥ = omega (arith, p.next, p.within) in absurd z }

pub kept : {d x : List ℕ} {a : ℕ} → length d < a + length x → Put d a x d nowhere
kept l = record { fits = λ h. let z : ⊥ = omega arith in absurd z; lacks = λ h. (refl, refl) }

-- a put leaves the size as it was
pub put-size : {d x e : List ℕ} {a r : ℕ} → Put d a x e r → length e ≡ length d
put-size {d} {x} {e} {a} {r} p = ⊎_elim (λ h. same_size (p.fits h)) (λ h. ap length (p.lacks h).0) (either (a + length x) (length d))

-- two answers of one put are the same
pub one_answer : {d x e f : List ℕ} {a r t : ℕ} → Put d a x e r → Put d a x f t → (e ≡ f) × (r ≡ t)
one_answer {d} {x} {e} {f} {a} {r} {t} p q =
    ⊎_elim
    (λ h.
    let n : r ≡ t = (p.fits h).next ∙ sym (q.fits h).next in
    ((p.fits h).whole ∙ ap (λ (k : ℕ). take a d ++ (x ++ drop k d)) n ∙ sym (q.fits h).whole, n))
    (λ h. ((p.lacks h).0 ∙ sym (q.lacks h).0, (p.lacks h).1 ∙ sym (q.lacks h).1))
    (either (a + length x) (length d))

-- only the empty text fits there, and only in the longest buffer
stays : (d x : List ℕ) (r : ℕ) → nowhere + length x ≤ length d → length d < 2 ^ 64 → r ≡ nowhere + length x → take nowhere d ++ (x ++ drop r d) ≡ d
stays d [] r h l n = ap (λ (k : ℕ). take nowhere d ++ drop k d) n ∙ take-append-drop nowhere d
stays d (y ∷ x) r h l n = let z : ⊥ = omega arith in absurd z

-- behind a text that did not fit nothing fits: a buffer has less than 2^64 bytes
pub nowhere-stays : {d x e : List ℕ} {r : ℕ} → length d < 2 ^ 64 → Put d nowhere x e r → (e ≡ d) × (r ≡ nowhere)
nowhere-stays {d} {x} {e} {r} l p =
    ⊎_elim
    (λ h. let n = (p.fits h).next in ((p.fits h).whole ∙ stays d x r h l n, omega arith))
    p.lacks
    (either (nowhere + length x) (length d))

-- a text put behind another makes one text, if both fit
pub and_then : {d e f x y : List ℕ} {a r t : ℕ} → IfFits d a x e r → Put e r y f t → IfFits d a (x ++ y) f t
and_then {d} {e} {f} {x} {y} {a} {r} {t} p q h =
    let s = p (omega (arith, length-append x y)) in
    then s (q.fits (omega (arith, length-append x y, s.next, same_size s)))
