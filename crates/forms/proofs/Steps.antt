-- One word of a form, by what was read of it. Assumes nothing.
use Rattle.std.specs.Prelude.{Err, Ok, Option}
use Prim.Native.Nat.{ℕ, ◌+◌}
use mathlib.Core.Path.{◌≡◌, refl, sym, ap, ◌∙◌}
use mathlib.Core.List.{List}
use mathlib.Core.Bool.{Bool, cond}
use lib.IntN.{ℤ}
use lib.Ieee.{Float}
use Rattle.iterator.specs.declared.Judgement.{Judgement}
use Rattle.words.specs.Words.{word_at, is_word, is_end}
use Rattle.numerals.specs.Numbers.{word_number, word_signed, word_whole}
use Rattle.forms.specs.declared.Request.{Request}
use Rattle.forms.specs.Judgements.{word_judgement}
use Rattle.forms.specs.Forms.{Form, end, number, signed, whole, judgement, word, none, by_number, by_signed, by_whole, by_judged, read_by}

module _ (k : ℕ) (line : List ℕ) where
  pub by_number_lem : (go : Float → Form) {n m : Option Float} → n ≡ word_number (word_at k line) → n ≡ m
      → read_by (number go) k line ≡ by_number m (λ (x : Float). read_by (go x) (k + 1) line) (Err (k + 1))
  unfolding read_by
  by_number_lem go e g = ap (λ (n : Option Float). by_number n (λ (x : Float). read_by (go x) (k + 1) line) (Err (k + 1))) (sym e ∙ g)

  pub by_signed_lem : (go : ℤ → Form) {n m : Option ℤ} → n ≡ word_signed (word_at k line) → n ≡ m
      → read_by (signed go) k line ≡ by_signed m (λ (z : ℤ). read_by (go z) (k + 1) line) (Err (k + 1))
  unfolding read_by
  by_signed_lem go e g = ap (λ (n : Option ℤ). by_signed n (λ (z : ℤ). read_by (go z) (k + 1) line) (Err (k + 1))) (sym e ∙ g)

  pub by_whole_lem : (go : ℕ → Form) {n m : Option ℕ} → n ≡ word_whole (word_at k line) → n ≡ m
      → read_by (whole go) k line ≡ by_whole m (λ (n : ℕ). read_by (go n) (k + 1) line) (Err (k + 1))
  unfolding read_by
  by_whole_lem go e g = ap (λ (n : Option ℕ). by_whole n (λ (n : ℕ). read_by (go n) (k + 1) line) (Err (k + 1))) (sym e ∙ g)

  pub by_judged_lem : (go : Judgement → Form) {n m : Option Judgement} → n ≡ word_judgement (word_at k line) → n ≡ m
      → read_by (judgement go) k line ≡ by_judged m (λ (j : Judgement). read_by (go j) (k + 1) line) (Err (k + 1))
  unfolding read_by
  by_judged_lem go e g = ap (λ (n : Option Judgement). by_judged n (λ (j : Judgement). read_by (go j) (k + 1) line) (Err (k + 1))) (sym e ∙ g)

  pub by_word : (w : List ℕ) (next other : Form) {name : List ℕ} {r b : Bool} → name ≡ word_at k line → r ≡ is_word name w → r ≡ b
      → read_by (word w next other) k line ≡ cond b (read_by next (k + 1) line) (read_by other k line)
  unfolding read_by
  by_word w next other p e g =
      ap (λ (b : Bool). cond b (read_by next (k + 1) line) (read_by other k line)) (ap (λ (n : List ℕ). is_word n w) (sym p) ∙ sym e ∙ g)

  pub by-none : read_by none k line ≡ Err (k + 1)
  unfolding read_by
  by-none = refl

pub by_end : (x : Request) (k : ℕ) (line : List ℕ) {r b : Bool} → r ≡ is_end k line → r ≡ b → read_by (end x) k line ≡ cond b (Ok x) (Err (k + 1))
unfolding read_by
by_end x k line e g = ap (λ (b : Bool). cond b (Ok x) (Err (k + 1))) (sym e ∙ g)
