-- Wherever an input is cut, its lines are the whole's. Assumes nothing.
use Prim.Native.Nat.{ℕ, zero, suc}
use mathlib.Core.Path.{◌≡◌, refl, sym, ap, ◌∙◌}
use mathlib.Core.List.{List, [], ◌∷◌, ◌++◌, append_assoc, append-nil}
use mathlib.Core.Bool.{Bool, true, false, cond}
use lib.ListN.{take}
use lib.Dec.{eqb}
use borrow.Author.Tests.{eqb-true}
use Rattle.text.specs.Pieces.{concat}
use Rattle.split.specs.Split.{Rows, line_ended, grown, rows_from, joined, parts_from, lines_from, each_cut, cut, unlines}

ended-joined : (b : Bool) (kept : List ℕ) (ls : List (List ℕ)) (x : Rows) → line_ended b kept (joined ls x) ≡ joined (line_ended b kept (record { lines = ls; kept = [] })).lines x
ended-joined true kept ls x = refl
ended-joined false kept ls x = refl

lines_of : (b : Bool) (kept : List ℕ) (x y : Rows) → x.lines ≡ y.lines → (line_ended b kept x).lines ≡ (line_ended b kept y).lines
lines_of true kept x y e = ap (λ (l : List (List ℕ)). kept ∷ l) e
lines_of false kept x y e = e

kept_of : (b : Bool) (kept : List ℕ) (x : Rows) → (line_ended b kept x).kept ≡ x.kept
kept_of true kept x = refl
kept_of false kept x = refl

-- one cut
pub one-cut : (cap : ℕ) (kept s t : List ℕ) → rows_from cap kept (s ++ t) ≡ joined (rows_from cap kept s).lines (rows_from cap (rows_from cap kept s).kept t)
unfolding rows_from
one-cut cap kept [] t = refl
one-cut cap kept (b ∷ s) t =
    let e = eqb b 10 in
    let x = rows_from cap (grown e cap kept b) s in
    ap (line_ended e kept) (one-cut cap (grown e cap kept b) s t)
    ∙ ended-joined e kept x.lines (rows_from cap x.kept t)
    ∙ ap (λ (l : List (List ℕ)). joined l (rows_from cap x.kept t)) (lines_of e kept (record { lines = x.lines; kept = [] }) x refl)
    ∙ ap (λ (k : List ℕ). joined (line_ended e kept x).lines (rows_from cap k t)) (sym (kept_of e kept x))

-- any parts
pub any-parts : (cap : ℕ) (ps : List (List ℕ)) (kept : List ℕ) → parts_from cap kept ps ≡ rows_from cap kept (concat ps)
unfolding parts_from concat rows_from
any-parts cap [] kept = refl
any-parts cap (p ∷ ps) kept =
    ap (joined (rows_from cap kept p).lines) (any-parts cap ps (rows_from cap kept p).kept)
    ∙ sym (one-cut cap kept p (concat ps))

pub take-front : (n : ℕ) (l r : List ℕ) → take n (take n l ++ r) ≡ take n (l ++ r)
take-front zero l r = refl
take-front (suc n) [] r = refl
take-front (suc n) (x ∷ l) r = ap (λ (z : List ℕ). x ∷ z) (take-front n l r)

cut-ended : (b : Bool) (cap : ℕ) (kept : List ℕ) (x : Rows) → line_ended b (take cap kept) (cut cap x) ≡ cut cap (line_ended b kept x)
unfolding each_cut
cut-ended true cap kept x = refl
cut-ended false cap kept x = refl

pub take_none : (n : ℕ) → take {A = ℕ} n [] ≡ []
take_none zero = refl
take_none (suc n) = refl

cut-grown : (b : Bool) (cap : ℕ) (kept : List ℕ) (n : ℕ) → grown b cap (take cap kept) n ≡ take cap (cond b [] (kept ++ (n ∷ [])))
cut-grown true cap kept n = sym (take_none cap)
cut-grown false cap kept n = take-front cap kept (n ∷ [])

-- a line is the input's own line, of which no more than `cap` bytes are kept
pub cut-lines : (cap : ℕ) (s kept : List ℕ) → rows_from cap (take cap kept) s ≡ cut cap (lines_from kept s)
unfolding rows_from lines_from each_cut
cut-lines cap [] kept = refl
cut-lines cap (b ∷ s) kept =
    let e = eqb b 10 in
    ap (λ (k : List ℕ). line_ended e (take cap kept) (rows_from cap k s)) (cut-grown e cap kept b)
    ∙ ap (line_ended e (take cap kept)) (cut-lines cap s (cond e [] (kept ++ (b ∷ []))))
    ∙ cut-ended e cap kept (lines_from (cond e [] (kept ++ (b ∷ []))) s)

-- the lines put together again are the input
back_by : (e : Bool) (b : ℕ) (s kept : List ℕ) → eqb b 10 ≡ e
    → ((k : List ℕ) → unlines (lines_from k s).lines (lines_from k s).kept ≡ k ++ s)
    → unlines (line_ended e kept (lines_from (cond e [] (kept ++ (b ∷ []))) s)).lines (line_ended e kept (lines_from (cond e [] (kept ++ (b ∷ []))) s)).kept ≡ kept ++ (b ∷ s)
unfolding unlines
back_by true b s kept q h = ap (λ (l : List ℕ). kept ++ (10 ∷ l)) (h []) ∙ ap (λ (n : ℕ). kept ++ (n ∷ s)) (sym (eqb-true b 10 q))
back_by false b s kept q h = h (kept ++ (b ∷ [])) ∙ append_assoc kept (b ∷ []) s

pub lines-back : (s kept : List ℕ) → unlines (lines_from kept s).lines (lines_from kept s).kept ≡ kept ++ s
unfolding lines_from unlines
lines-back [] kept = sym (append-nil kept)
lines-back (b ∷ s) kept = back_by (eqb b 10) b s kept refl (lines-back s)
