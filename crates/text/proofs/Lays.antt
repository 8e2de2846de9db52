-- Laws of pieces laid one behind the other. Assumes nothing.
use Prim.Native.Nat.{ℕ}
use native.Mathlib.Omega.{arith}
use mathlib.Core.Path.{◌≡◌, refl, sym, ap, ◌∙◌, subst}
use mathlib.Core.List.{List, [], ◌∷◌, ◌++◌, append_assoc}
use lib.ListN.{length, length-append}
use Rattle.text.specs.Text.{Put, IfFits}
use Rattle.text.specs.Pieces.{concat, Laid, end, then}
use Rattle.text.proofs.Stand as Stand
use Rattle.text.proofs.Stand.{none, same_size}
use Rattle.text.proofs.Puts.{put-size, one_answer}

-- one piece
pub one : {d x e : List ℕ} {at r : ℕ} → Put d at x e r → Laid d at (x ∷ []) e r
one p = then p end

-- pieces behind pieces
pub and_then : {d : List ℕ} {at : ℕ} {xs : List (List ℕ)} {m : List ℕ} {t : ℕ} {ys : List (List ℕ)} {e : List ℕ} {r : ℕ} → Laid d at xs m t → Laid m t ys e r
    → Laid d at (xs ++ ys) e r
and_then end q = q
and_then (then p l) q = then p (and_then l q)

pub laid_as : {d : List ℕ} {at : ℕ} {xs ys : List (List ℕ)} {e : List ℕ} {r : ℕ} → xs ≡ ys → Laid d at xs e r → Laid d at ys e r
laid_as {d} {at} {xs} {ys} {e} {r} p l = subst (λ (zs : List (List ℕ)). Laid d at zs e r) p l

pub laid-size : {d : List ℕ} {at : ℕ} {xs : List (List ℕ)} {e : List ℕ} {r : ℕ} → Laid d at xs e r → length e ≡ length d
laid-size end = refl
laid-size (then p l) = laid-size l ∙ put-size p

-- pieces that all fit stand as one text
pub all_fit : {d : List ℕ} {at : ℕ} {xs : List (List ℕ)} {e : List ℕ} {r : ℕ} → Laid d at xs e r → IfFits d at (concat xs) e r
unfolding concat
all_fit {d} {at} end h = none d at (omega arith)
all_fit {xs = x ∷ xs} (then p l) h =
    let s = p.fits (omega (arith, length-append x (concat xs))) in
    Stand.then s (all_fit l (omega (arith, length-append x (concat xs), s.next, same_size s)))

-- two answers are the same
pub one-laid : {d : List ℕ} {at : ℕ} {xs : List (List ℕ)} {e f : List ℕ} {r t : ℕ} → Laid d at xs e r → Laid d at xs f t → (e ≡ f) × (r ≡ t)
one-laid end end = (refl, refl)
one-laid {f = f} {t = t} (then {xs = xs} {t = u} p l) (then {m = n} {t = v} q k) =
    let s = one_answer q p in
    one-laid l (subst (λ (n : List ℕ). Laid n u xs f t) s.0 (subst (λ (i : ℕ). Laid n i xs f t) s.1 k))

-- the length of pieces
abbrev pub size : List (List ℕ) → ℕ
size xs = length (concat xs)

pub concat-append : (xs ys : List (List ℕ)) → concat (xs ++ ys) ≡ concat xs ++ concat ys
unfolding concat
concat-append [] ys = refl
concat-append (x ∷ xs) ys = ap (λ (l : List ℕ). x ++ l) (concat-append xs ys) ∙ sym (append_assoc x (concat xs) (concat ys))
