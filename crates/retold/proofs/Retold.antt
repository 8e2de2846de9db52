-- The line that is shown of a record says that record: to the bit, for every record that memory holds and the writer
-- allows. Assumes nothing.
use Rattle.std.specs.Prelude.{Ok, Some}
use Prim.Native.Nat.{ℕ, ◌^◌, ◌≤◌, ◌<◌}
use native.Mathlib.Omega.{arith}
use mathlib.Core.Path.{◌≡◌, refl, sym, ap, ◌∙◌}
use mathlib.Core.List.{List, [], ◌∷◌, ◌++◌, append-nil, append_assoc}
use mathlib.Core.Bool.{true, false, not, ◌&&◌}
use lib.ListN.{length, drop, length-append}
use lib.Dec.{T, leb, eqb, lit≤}
use lib.IntN.{ℤ}
use lib.Signed.{mag}
use lib.Ieee.{Float, binary64, fits, is_nan}
use borrow.Author.Tests.{le-ltb, leb-true}
use Rattle.facts.proofs.Truth.{each}
use Rattle.writer.proofs.Laws.{allowed-finite}
use Rattle.text.proofs.Signs.{signed-short}
use Rattle.real.proofs.Patterns.{finite-not-nan}
use Rattle.real.specs.F64.{finite}
use Rattle.text.specs.Text.{ascii, decimal, signed_text}
use Rattle.text.specs.Pieces.{concat}
use Rattle.figures.specs.Figures.{bits_text}
use Rattle.columns.specs.declared.Style.TheVariants.{Bits}
use Rattle.columns.specs.Rows.{figure_text, row_pieces}
use Rattle.words.specs.Words.{word_at, starts_with, is_word, is_end}
use Rattle.numerals.specs.Numbers.{word_number, word_whole, word_signed}
use Rattle.figures.proofs.Lengths.{bits-short}
use Rattle.text.proofs.Decimals.{at_most}
use Rattle.session.specs.declared.record.Kind.{Kind}
use Rattle.session.specs.Kinds.{name_of, top_of}
use Rattle.session.specs.Limits.{time_allowed}
use Rattle.session.specs.Layout.{kind_in, vehicle_in, byte_in, time_in, numbers_in, all_finite}
use Rattle.session.specs.Decode.{AllFit, Held, allowed_in}
use Rattle.script.specs.Script.{head_pieces, body_pieces, middle}
use Rattle.retold.specs.Said.{line_text, offset_text, said_of}
use mir.Syntax.{w16}
use mir.Val.{SFits}
use Rattle.session.specs.declared.record.Record.{Record}
use Rattle.session.specs.declared.record.Record.TheVariants as R
use Rattle.entry.specs.declared.line.Entry.TheVariants.{Offset, State, Burn, Mark}
use Rattle.entry.specs.Entries.{ended, offset_entry, state_entry, burn_entry, mark_entry, entry_of, named_of}
use Rattle.retold.proofs.Joined.{behind, line, Words, first, word-at}
use Rattle.retold.proofs.Read.{whole_back, decimal-clean, some-decimal, signed-some, signed-clean, signed_back, bits-some, bits-clean, bits_back}

-- the words of numbers as bits
abbrev pub patterns : List Float → List (List ℕ)
patterns [] = []
patterns (x ∷ xs) = bits_text x ∷ patterns xs

abbrev pub Numbers : List Float → Type 0
Numbers [] = Unit {0}
Numbers (x ∷ xs) = T (fits binary64 x) × T (not (is_nan x)) × Numbers xs

-- a row of bits, as words behind a line
pub row-behind : (xs : List Float) → concat (row_pieces Bits xs) ≡ behind (patterns xs)
unfolding concat row_pieces figure_text
row-behind [] = refl
row-behind (x ∷ xs) = ap (λ (l : List ℕ). 32 ∷ (bits_text x ++ l)) (row-behind xs)

pub patterns-words : (xs : List Float) → Numbers xs → Words (patterns xs)
patterns-words [] h = h
patterns-words (x ∷ xs) h = (bits-some x h.0 h.1, bits-clean x h.0 h.1, patterns-words xs h.2)

-- numbers as memory holds them, all finite
numbers_from_lem : (xs : List Float) → AllFit xs → all_finite xs ≡ true → Numbers xs
unfolding all_finite
numbers_from_lem [] h g = h
numbers_from_lem (x ∷ xs) h g =
    let b = each (finite x) (all_finite xs) g in
    (h.0, finite-not-nan x b.0, numbers_from_lem xs h.1 b.1)

-- ---- a line by its name

entry_named : (l name : List ℕ) → starts_with l (ascii "#") ≡ false → length l ≤ 1000 → word_at 0 l ≡ name → eqb (length name) 0 ≡ false → entry_of l ≡ named_of name l
unfolding entry_of
entry_named l name s h w e = rw (s, le-ltb 1000 (length l) h, w, e) refl

named-offset : (l : List ℕ) → named_of (ascii "offset") l ≡ offset_entry l
unfolding is_word starts_with
named-offset l = refl

named-state : (l : List ℕ) → named_of (ascii "state") l ≡ state_entry l
unfolding is_word starts_with
named-state l = refl

named-burn : (l : List ℕ) → named_of (ascii "burn") l ≡ burn_entry l
unfolding is_word starts_with
named-burn l = refl

named-mark : (l : List ℕ) → named_of (ascii "mark") l ≡ mark_entry l
unfolding is_word starts_with
named-mark l = refl

-- ---- what the words of a line say

module _ (l : List ℕ) {t : ℤ} (a : word_signed (word_at 1 l) ≡ Some t) where
  offset_by_lem : is_end 2 l ≡ true → offset_entry l ≡ Ok (Offset t)
  unfolding ended
  offset_by_lem e = rw (a, e) refl

  module _ {v : ℕ} (b : word_whole (word_at 2 l) ≡ Some v) where
    mark_by_lem : {x y : Float} → word_number (word_at 3 l) ≡ Some x → word_number (word_at 4 l) ≡ Some y → is_end 5 l ≡ true → mark_entry l ≡ Ok (Mark t v x y)
    unfolding ended
    mark_by_lem p q e = rw (a, b, p, q, e) refl

    burn_by_lem : {x y z : Float} → word_number (word_at 3 l) ≡ Some x → word_number (word_at 4 l) ≡ Some y → word_number (word_at 5 l) ≡ Some z → is_end 6 l ≡ true
        → burn_entry l ≡ Ok (Burn t v (record { x = x; y = y; z = z }))
    unfolding ended
    burn_by_lem p q r e = rw (a, b, p, q, r, e) refl

    state_by_lem : {n : ℕ} {x y z u v' w : Float} → word_whole (word_at 3 l) ≡ Some n → word_number (word_at 4 l) ≡ Some x → word_number (word_at 5 l) ≡ Some y
        → word_number (word_at 6 l) ≡ Some z → word_number (word_at 7 l) ≡ Some u → word_number (word_at 8 l) ≡ Some v' → word_number (word_at 9 l) ≡ Some w → is_end 10 l ≡ true
        → state_entry l ≡ Ok (State t v n (record { rx = x; ry = y; rz = z; vx = u; vy = v'; vz = w }))
    unfolding ended
    state_by_lem d p q r i j k e = rw (a, b, d, p, q, r, i, j, k, e) refl

-- ---- the words of a line

no_more : (k : ℕ) (ws : List (List ℕ)) → Words ws → first (drop k ws) ≡ [] → is_end k (line ws) ≡ true
no_more k ws h e = ap (λ (w : List ℕ). eqb (length w) 0) (word-at k ws h ∙ e)

signed_word : (k : ℕ) (ws : List (List ℕ)) → Words ws → (z : ℤ) → mag z < 2 ^ 63 → first (drop k ws) ≡ signed_text z → word_signed (word_at k (line ws)) ≡ Some z
signed_word k ws h z m e = ap word_signed (word-at k ws h ∙ e) ∙ signed_back z m

whole_word : (k : ℕ) (ws : List (List ℕ)) → Words ws → (n : ℕ) → n < 2 ^ 64 → first (drop k ws) ≡ decimal n → word_whole (word_at k (line ws)) ≡ Some n
whole_word k ws h n m e = ap word_whole (word-at k ws h ∙ e) ∙ whole_back n m

number_word : (k : ℕ) (ws : List (List ℕ)) → Words ws → (x : Float) → T (fits binary64 x) → T (not (is_nan x)) → first (drop k ws) ≡ bits_text x → word_number (word_at k (line ws)) ≡ Some x
number_word k ws h x f d e = ap word_number (word-at k ws h ∙ e) ∙ bits_back x f d

-- ---- each line

offset-line : (t : ℤ) → mag t < 2 ^ 63 → entry_of (line (ascii "offset" ∷ signed_text t ∷ [])) ≡ Ok (Offset t)
unfolding starts_with
offset-line t m =
    let ws = ascii "offset" ∷ signed_text t ∷ [] in
    let h : Words ws = (refl, refl, (signed-some t, signed-clean t m, tt)) in
    let z : length (line ws) ≤ 1000 = simp length-append (omega (arith, signed-short t)) in
    entry_named (line ws) (ascii "offset") refl z (word-at 0 ws h) refl ∙ named-offset (line ws)
    ∙ offset_by_lem (line ws) (signed_word 1 ws h t m refl) (no_more 2 ws h refl)

module _ (t : ℤ) (m : mag t < 2 ^ 63) (v : ℕ) (o : v < 2 ^ 64) where
  mark-line : (x y : Float) → Numbers (x ∷ y ∷ []) → entry_of (line (ascii "mark" ∷ signed_text t ∷ decimal v ∷ patterns (x ∷ y ∷ []))) ≡ Ok (Mark t v x y)
  unfolding starts_with
  mark-line x y n =
      let ws = ascii "mark" ∷ signed_text t ∷ decimal v ∷ patterns (x ∷ y ∷ []) in
      let h : Words ws = (refl, refl, (signed-some t, signed-clean t m, (some-decimal v, decimal-clean v o, patterns-words (x ∷ y ∷ []) n))) in
      let z : length (line ws) ≤ 1000 = simp length-append (omega (arith, signed-short t, at_most 20 v, bits-short x, bits-short y)) in
      entry_named (line ws) (ascii "mark") refl z (word-at 0 ws h) refl ∙ named-mark (line ws)
      ∙ mark_by_lem (line ws) (signed_word 1 ws h t m refl) (whole_word 2 ws h v o refl)
      (number_word 3 ws h x n.0 n.1 refl) (number_word 4 ws h y n.2.0 n.2.1 refl) (no_more 5 ws h refl)

  burn-line : (x y z : Float) → Numbers (x ∷ y ∷ z ∷ []) → entry_of (line (ascii "burn" ∷ signed_text t ∷ decimal v ∷ patterns (x ∷ y ∷ z ∷ []))) ≡ Ok (Burn t v (record { x = x; y = y; z = z }))
  unfolding starts_with
  burn-line x y z n =
      let ws = ascii "burn" ∷ signed_text t ∷ decimal v ∷ patterns (x ∷ y ∷ z ∷ []) in
      let h : Words ws = (refl, refl, (signed-some t, signed-clean t m, (some-decimal v, decimal-clean v o, patterns-words (x ∷ y ∷ z ∷ []) n))) in
      let s : length (line ws) ≤ 1000 = simp length-append (omega (arith, signed-short t, at_most 20 v, bits-short x, bits-short y, bits-short z)) in
      entry_named (line ws) (ascii "burn") refl s (word-at 0 ws h) refl ∙ named-burn (line ws)
      ∙ burn_by_lem (line ws) (signed_word 1 ws h t m refl) (whole_word 2 ws h v o refl)
      (number_word 3 ws h x n.0 n.1 refl) (number_word 4 ws h y n.2.0 n.2.1 refl) (number_word 5 ws h z n.2.2.0 n.2.2.1 refl) (no_more 6 ws h refl)

  state-line : (b : ℕ) → b < 2 ^ 64 → (x y z p q r : Float) → Numbers (x ∷ y ∷ z ∷ p ∷ q ∷ r ∷ [])
      → entry_of (line (ascii "state" ∷ signed_text t ∷ decimal v ∷ decimal b ∷ patterns (x ∷ y ∷ z ∷ p ∷ q ∷ r ∷ [])))
      ≡ Ok (State t v b (record { rx = x; ry = y; rz = z; vx = p; vy = q; vz = r }))
  unfolding starts_with
  state-line b i x y z p q r n =
      let xs = x ∷ y ∷ z ∷ p ∷ q ∷ r ∷ [] in
      let ws = ascii "state" ∷ signed_text t ∷ decimal v ∷ decimal b ∷ patterns xs in
      let h : Words ws = (refl, refl, (signed-some t, signed-clean t m, (some-decimal v, decimal-clean v o, (some-decimal b, decimal-clean b i, patterns-words xs n)))) in
      let s : length (line ws) ≤ 1000 = simp length-append (omega (arith, signed-short t, at_most 20 v, at_most 20 b, bits-short x, bits-short y, bits-short z, bits-short p, bits-short q, bits-short r)) in
      entry_named (line ws) (ascii "state") refl s (word-at 0 ws h) refl ∙ named-state (line ws)
      ∙ state_by_lem (line ws) (signed_word 1 ws h t m refl) (whole_word 2 ws h v o refl) (whole_word 3 ws h b i refl)
      (number_word 4 ws h x n.0 n.1 refl) (number_word 5 ws h y n.2.0 n.2.1 refl) (number_word 6 ws h z n.2.2.0 n.2.2.1 refl)
      (number_word 7 ws h p n.2.2.2.0 n.2.2.2.1 refl) (number_word 8 ws h q n.2.2.2.2.0 n.2.2.2.2.1 refl)
      (number_word 9 ws h r n.2.2.2.2.2.0 n.2.2.2.2.2.1 refl) (no_more 10 ws h refl)

-- ---- the lines that are shown

head-line : (k : Kind) (t : ℤ) (v : ℕ) (r : List ℕ) → concat (head_pieces k t v) ++ r ≡ name_of k ++ (32 ∷ (signed_text t ++ (32 ∷ (decimal v ++ r))))
unfolding concat head_pieces
head-line k t v r = simp (append_assoc, append-nil)

body-line : (b : ℕ) (r : List ℕ) → concat (body_pieces b) ++ r ≡ 32 ∷ (decimal b ++ r)
unfolding concat body_pieces
body-line b r = simp (append_assoc, append-nil)

-- what is allowed is small
vehicle-small : (r : Record) → allowed_in r ≡ true → vehicle_in r < 2 ^ 64
vehicle-small r h =
    let a = (each (leb (vehicle_in r) 1 && leb (byte_in r) (top_of (kind_in r)) && time_allowed (time_in r)) (all_finite (numbers_in r)) h).0 in
    let b = (each (leb (vehicle_in r) 1 && leb (byte_in r) (top_of (kind_in r))) (time_allowed (time_in r)) a).0 in
    let c = leb-true (vehicle_in r) 1 (each (leb (vehicle_in r) 1) (leb (byte_in r) (top_of (kind_in r))) b).0 in
    omega (arith, c)

byte_small : (r : Record) → top_of (kind_in r) ≤ 1 → allowed_in r ≡ true → byte_in r < 2 ^ 64
byte_small r t h =
    let a = (each (leb (vehicle_in r) 1 && leb (byte_in r) (top_of (kind_in r)) && time_allowed (time_in r)) (all_finite (numbers_in r)) h).0 in
    let b = (each (leb (vehicle_in r) 1 && leb (byte_in r) (top_of (kind_in r))) (time_allowed (time_in r)) a).0 in
    let c = leb-true (byte_in r) (top_of (kind_in r)) (each (leb (vehicle_in r) 1) (leb (byte_in r) (top_of (kind_in r))) b).1 in
    omega (arith, c, t)

-- a record's line says the record
pub retold : (r : Record) → Held r → allowed_in r ≡ true → entry_of (line_text r) ≡ Ok (said_of r)
unfolding concat
retold (R.State r) h a =
    let s = r.state in
    let xs = numbers_in (R.State r) in
    let n = numbers_from_lem xs h.numbers (allowed-finite (R.State r) a) in
    let e = head-line (kind_in (R.State r)) r.time r.vehicle (concat (middle (R.State r)) ++ concat (row_pieces Bits xs))
    ∙ ap (λ (l : List ℕ). ascii "state" ++ (32 ∷ (signed_text r.time ++ (32 ∷ (decimal r.vehicle ++ l))))) (body-line r.body (concat (row_pieces Bits xs)) ∙ ap (λ (l : List ℕ). 32 ∷ (decimal r.body ++ l)) (row-behind xs)) in
    ap entry_of e
    ∙ state-line r.time h.time.sfits r.vehicle (vehicle-small (R.State r) a) r.body (byte_small (R.State r) (lit≤ tt) a) s.rx s.ry s.rz s.vx s.vy s.vz n
retold (R.Burn r) h a =
    let d = r.change in
    let xs = numbers_in (R.Burn r) in
    let n = numbers_from_lem xs h.numbers (allowed-finite (R.Burn r) a) in
    let e = head-line (kind_in (R.Burn r)) r.time r.vehicle (concat (row_pieces Bits xs))
    ∙ ap (λ (l : List ℕ). ascii "burn" ++ (32 ∷ (signed_text r.time ++ (32 ∷ (decimal r.vehicle ++ l))))) (row-behind xs) in
    ap entry_of e ∙ burn-line r.time h.time.sfits r.vehicle (vehicle-small (R.Burn r) a) d.x d.y d.z n
retold (R.Mark r) h a =
    let xs = numbers_in (R.Mark r) in
    let n = numbers_from_lem xs h.numbers (allowed-finite (R.Mark r) a) in
    let e = head-line (kind_in (R.Mark r)) r.time r.vehicle (concat (row_pieces Bits xs))
    ∙ ap (λ (l : List ℕ). ascii "mark" ++ (32 ∷ (signed_text r.time ++ (32 ∷ (decimal r.vehicle ++ l))))) (row-behind xs) in
    ap entry_of e ∙ mark-line r.time h.time.sfits r.vehicle (vehicle-small (R.Mark r) a) r.range r.rate n

-- and the offset's line the offset
pub offset-retold : (z : ℤ) → SFits w16 z → entry_of (offset_text z) ≡ Ok (Offset z)
offset-retold z f = ap (λ (l : List ℕ). entry_of (ascii "offset " ++ l)) (sym (append-nil (signed_text z))) ∙ offset-line z (omega (arith, f.sfits))
