-- The words of a line that is made of words with a blank between them. Assumes nothing.
use Prim.Native.Nat.{ℕ, zero, suc, ◌+◌}
use native.Mathlib.Omega.{arith}
use mathlib.Core.Path.{◌≡◌, refl, sym, ap, ◌∙◌}
use mathlib.Core.List.{List, [], ◌∷◌, ◌++◌}
use mathlib.Core.Bool.{Bool, true, false, cond, not, ◌&&◌, true≢false}
use lib.ListN.{drop}
use lib.Seq.{drop-drop}
use borrow.Author.Tests.{not-true}
use Rattle.facts.proofs.Truth.{each}
use Rattle.words.specs.declared.Byte.TheVariants.{Blank, NotBlank}
use Rattle.words.specs.Words.{blank, is_of, up_to, from, from_word, word_at}

-- no byte is a blank
abbrev pub clean : List ℕ → Bool
clean [] = true
clean (b ∷ w) = not (blank b) && clean w

-- the words, a blank before each; and the words, a blank between them
abbrev pub behind : List (List ℕ) → List ℕ
behind [] = []
behind (w ∷ ws) = 32 ∷ (w ++ behind ws)

abbrev pub line : List (List ℕ) → List ℕ
line [] = []
line (w ∷ ws) = w ++ behind ws

-- words: not empty, and clean
abbrev pub some : List ℕ → Bool
some [] = false
some (b ∷ w) = true

abbrev pub Words : List (List ℕ) → Type 0
Words [] = Unit {0}
Words (w ∷ ws) = (some w ≡ true) × (clean w ≡ true) × Words ws

abbrev pub first : List (List ℕ) → List ℕ
first [] = []
first (w ∷ ws) = w

not-blank : (b : ℕ) → not (blank b) ≡ true → blank b ≡ false
not-blank b h = not-true (blank b) h

from-blank : (w : List ℕ) (ws : List (List ℕ)) → clean w ≡ true → from Blank (w ++ behind ws) ≡ behind ws
unfolding from is_of
from-blank [] [] h = refl
from-blank [] (v ∷ ws) h = refl
from-blank (b ∷ w) ws h =
    let x = each (not (blank b)) (clean w) h in
    ap (λ (c : Bool). cond c (b ∷ (w ++ behind ws)) (from Blank (w ++ behind ws))) (not-blank b x.0) ∙ from-blank w ws x.1

upto-blank : (w : List ℕ) (ws : List (List ℕ)) → clean w ≡ true → up_to Blank (w ++ behind ws) ≡ w
unfolding up_to is_of
upto-blank [] [] h = refl
upto-blank [] (v ∷ ws) h = refl
upto-blank (b ∷ w) ws h =
    let x = each (not (blank b)) (clean w) h in
    ap (λ (c : Bool). cond c [] (b ∷ up_to Blank (w ++ behind ws))) (not-blank b x.0) ∙ ap (λ (l : List ℕ). b ∷ l) (upto-blank w ws x.1)

from_word_lem : (w r : List ℕ) → some w ≡ true → clean w ≡ true → from NotBlank (w ++ r) ≡ w ++ r
unfolding from is_of
from_word_lem [] r s h = absurd (true≢false (sym s))
from_word_lem (b ∷ w) r s h =
    let x = each (not (blank b)) (clean w) h in
    ap (λ (c : Bool). cond c (b ∷ (w ++ r)) (from NotBlank (w ++ r))) x.0

from-line : (ws : List (List ℕ)) → Words ws → from NotBlank (line ws) ≡ line ws
unfolding from
from-line [] h = refl
from-line (w ∷ ws) h = from_word_lem w (behind ws) h.0 h.1

from-behind : (ws : List (List ℕ)) → Words ws → from NotBlank (behind ws) ≡ line ws
unfolding from is_of
from-behind [] h = refl
from-behind (w ∷ ws) h = from_word_lem w (behind ws) h.0 h.1

-- one word on
on : (ws : List (List ℕ)) → Words ws → from NotBlank (from Blank (line ws)) ≡ line (drop 1 ws)
unfolding from
on [] h = refl
on (w ∷ ws) h = ap (from NotBlank) (from-blank w ws h.1) ∙ from-behind ws h.2

words-drop : (k : ℕ) (ws : List (List ℕ)) → Words ws → Words (drop k ws)
words-drop zero ws h = h
words-drop (suc k) [] h = h
words-drop (suc k) (w ∷ ws) h = words-drop k ws h.2

from_at : (k : ℕ) (ws : List (List ℕ)) → Words ws → from_word k (line ws) ≡ line (drop k ws)
unfolding from_word
from_at zero ws h = from-line ws h
from_at (suc k) ws h =
    let e : k + 1 ≡ suc k = omega arith in
    ap (λ (l : List ℕ). from NotBlank (from Blank l)) (from_at k ws h) ∙ on (drop k ws) (words-drop k ws h)
    ∙ ap line (drop-drop 1 k ws ∙ ap (λ (n : ℕ). drop n ws) e)

upto-line : (ws : List (List ℕ)) → Words ws → up_to Blank (line ws) ≡ first ws
unfolding up_to
upto-line [] h = refl
upto-line (w ∷ ws) h = upto-blank w ws h.1

-- word k
pub word-at : (k : ℕ) (ws : List (List ℕ)) → Words ws → word_at k (line ws) ≡ first (drop k ws)
unfolding word_at
word-at k ws h = ap (up_to Blank) (from_at k ws h) ∙ upto-line (drop k ws) (words-drop k ws h)
