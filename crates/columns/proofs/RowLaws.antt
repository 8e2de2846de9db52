-- Laws of numbers in a row: one number more, and how long a row can be. Assumes nothing.
use Prim.Native.Nat.{ℕ, suc, ◌+◌, ◌*◌, ◌≤◌, ◌<◌, zero-le}
use native.Mathlib.Nat.{mul-suc}
use native.Mathlib.Numerals.{add-one}
use native.Mathlib.Omega.{arith}
use mathlib.Core.Path.{◌≡◌, refl, ap, ◌∙◌}
use mathlib.Core.List.{List, [], ◌∷◌, ◌++◌}
use lib.ListN.{length, get_or, take, length-append}
use lib.Seq.{take-suc, take_all}
use lib.Ieee.{Float}
use Rattle.text.specs.Text.{ascii, Put}
use Rattle.text.proofs.Decimals.{at_most}
use Rattle.text.specs.Pieces.{concat, Laid, end, then}
use Rattle.text.proofs.Lays.{and_then, concat-append}
use Rattle.figures.proofs.Lengths.{fixed-short, bits-short}
use Rattle.columns.specs.declared.Style.{Style}
use Rattle.columns.specs.declared.Style.TheVariants.{Places, Bits}
use Rattle.columns.specs.Rows.{figure_text, row_pieces, end_pieces, labelled_pieces, counted_pieces, refused_pieces, unread_pieces}

row-append : (style : Style) (xs ys : List Float) → row_pieces style (xs ++ ys) ≡ row_pieces style xs ++ row_pieces style ys
unfolding row_pieces
row-append style [] ys = refl
row-append style (x ∷ xs) ys = ap (λ (l : List (List ℕ)). ascii " " ∷ figure_text style x ∷ l) (row-append style xs ys)

one-row : (style : Style) (x : Float) → row_pieces style (x ∷ []) ≡ ascii " " ∷ figure_text style x ∷ []
unfolding row_pieces
one-row style x = refl

-- i numbers are laid
pub record Row (style : Style) (d : List ℕ) (at : ℕ) (xs : List Float) (b : List ℕ) (e i : ℕ) : Type 0 where
  pub within : i ≤ length xs
  pub laid : Laid d at (row_pieces style (take i xs)) b e

pub row-start : (style : Style) (d : List ℕ) (at : ℕ) (xs : List Float) → Row style d at xs d at 0
unfolding row_pieces
row-start style d at xs = record { within = zero-le; laid = end }

pub row_more : (style : Style) {d : List ℕ} {at : ℕ} {xs : List Float} {b : List ℕ} {e i : ℕ} (z : Float) → Row style d at xs b e i → i < length xs
    → {m n : List ℕ} {t r : ℕ} → Put b e (ascii " ") m t → Put m t (figure_text style (get_or xs i z)) n r → Row style d at xs n r (i + 1)
row_more style {d} {at} {xs} {b} {e} {i} z w h {m} {n} {t} {r} p q =
    let g : row_pieces style (take (i + 1) xs) ≡ row_pieces style (take i xs) ++ (ascii " " ∷ figure_text style (get_or xs i z) ∷ []) =
    ap (λ (n : ℕ). row_pieces style (take n xs)) (add-one i) ∙ ap (row_pieces style) (take-suc xs i z h)
    ∙ row-append style (take i xs) (get_or xs i z ∷ []) ∙ ap (λ (l : List (List ℕ)). row_pieces style (take i xs) ++ l) (one-row style (get_or xs i z)) in
    record { within = omega arith; laid = rw g (and_then w.laid (then p (then q end))) }

pub row-whole : (style : Style) {d : List ℕ} {at : ℕ} {xs : List Float} {b : List ℕ} {e i : ℕ} → Row style d at xs b e i → length xs ≤ i → Laid d at (row_pieces style xs) b e
row-whole style {d} {at} {xs} {b} {e} {i} r h = rw (take_all i xs h) at r.laid

-- ---- how long

figure-short : (style : Style) (x : Float) → length (figure_text style x) ≤ 21
unfolding figure_text
figure-short Places x = fixed-short x
figure-short Bits x = omega (arith, bits-short x)

bits-row : (x : Float) → length (figure_text Bits x) ≤ 17
unfolding figure_text
bits-row x = bits-short x

pub row-short : (xs : List Float) → length (concat (row_pieces Places xs)) ≤ 22 * length xs
unfolding concat row_pieces
row-short [] = zero-le
row-short (x ∷ xs) =
    let n : 22 * suc (length xs) ≡ 22 * length xs + 22 = mul-suc 22 (length xs) in
    simp length-append (omega (arith, n, figure-short Places x, row-short xs))

bits-short-row : (xs : List Float) → length (concat (row_pieces Bits xs)) ≤ 18 * length xs
unfolding concat row_pieces
bits-short-row [] = zero-le
bits-short-row (x ∷ xs) =
    let n : 18 * suc (length xs) ≡ 18 * length xs + 18 = mul-suc 18 (length xs) in
    simp length-append (omega (arith, n, bits-row x, bits-short-row xs))

pub end_short : (xs : List Float) → length (concat (end_pieces xs)) ≤ 18 * length xs + 6
unfolding concat
end_short xs =
    let e = ap length (concat-append (row_pieces Bits xs) (ascii "\n" ∷ [])) ∙ length-append (concat (row_pieces Bits xs)) (ascii "\n") in
    omega (arith, e, bits-short-row xs)

pub labelled-short : (label : List ℕ) (xs : List Float) → length (concat (labelled_pieces label xs)) ≤ length label + 22 * length xs
unfolding concat
labelled-short label xs = simp length-append (omega (arith, row-short xs))

counted-short : (word : List ℕ) (n : ℕ) → length (concat (counted_pieces word n)) ≤ length word + 21
unfolding concat counted_pieces
counted-short word n = simp length-append (omega (arith, at_most 20 n))

pub refused-fits : (n : ℕ) → length (concat (refused_pieces n)) ≤ 512
refused-fits n = omega (arith, counted-short (ascii "refused ") n)

pub unread-fits : (w : ℕ) → length (concat (unread_pieces w)) ≤ 512
unread-fits w = omega (arith, counted-short (ascii "unread ") w)
