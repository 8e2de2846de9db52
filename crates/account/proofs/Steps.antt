-- A line of pieces at the front of a buffer of 512 bytes, as a step. Assumes nothing.
use Rattle.std.specs.Prelude.{Err, Ok}
use Rattle.refusal.specs.declared.Refusal.TheVariants as Refusal
use Prim.Native.Nat.{ℕ, ◌+◌, ◌≤◌}
use native.Mathlib.Omega.{arith}
use mathlib.Core.Path.{◌≡◌, refl, sym, ap, ◌∙◌}
use mathlib.Core.List.{List, [], ◌++◌}
use mathlib.Core.Bool.{Bool, true, false, cond}
use lib.ListN.{length, drop, length-append}
use lib.Dec.{ltb}
use Rattle.facts.proofs.Wholes.{zero_one}
use Rattle.flight.specs.declared.Mu.{Mu}
use Rattle.text.specs.Pieces.{concat, Laid}
use Rattle.text.proofs.Lays.{all_fit}
use Rattle.replay.specs.declared.Replay.{Replay}
use Rattle.account.specs.declared.Next.{Next}
use Rattle.account.specs.declared.Told.{Told}
use Rattle.account.specs.Account.{line_then, step_of, Stepped, Telling}

pub made : {d e : List ℕ} {r : ℕ} (xs : List (List ℕ)) (next : Next) (p : Replay) → 512 ≤ length d → length (concat xs) ≤ 512 → Laid d 0 xs e r
    → Stepped (line_then xs next p) d e (record { length = r; next = next; replay = p })
made {d} {e} {r} xs next p h k l =
    let n = length (concat xs) in
    let f = all_fit l (room n (length d) k h) in
    let q = f.next ∙ nought n in
    record { count = q; after = refl; replay = refl; buffer = f.whole ∙ ap (λ (n : ℕ). concat xs ++ drop n d) q }
  where
    nought : (n : ℕ) → 0 + n ≡ n
    nought n = omega arith

    room : (n m : ℕ) → n ≤ 512 → 512 ≤ m → 0 + n ≤ m
    room n m k h = omega arith

pub nothing : (d : List ℕ) (next : Next) (p : Replay) → Stepped (line_then [] next p) d d (record { length = 0; next = next; replay = p })
unfolding concat
nothing d next p = record { count = refl; after = refl; replay = refl; buffer = refl }

-- ---- the answer whole

abbrev told : ℕ → Next → Replay → Told
told n next p = record { length = n; next = next; replay = p }

pub tell-short : (mu : Mu) (s : List ℕ) (next : Next) (p : Replay) (d : List ℕ) → ltb (length d) 512 ≡ true → Telling mu s next p d d (Err Refusal.NoRoom)
tell-short mu s next p d h =
    let t = step_of mu s next p in
    record {
      answer = sym (ap (λ (b : Bool). cond b (Err Refusal.NoRoom) (Ok (record { length = length t.line; next = t.next; replay = t.replay }))) h);
      buffer = sym (ap (λ (b : Bool). cond b d (t.line ++ drop (length t.line) d)) h);
    }

pub tell-long : (mu : Mu) (s : List ℕ) (next : Next) (p : Replay) {d e : List ℕ} {r : Told} → ltb (length d) 512 ≡ false → Stepped (step_of mu s next p) d e r
    → Telling mu s next p d e (Ok r)
tell-long mu s next p {d} {e} {r} h f =
    let t = step_of mu s next p in
    let q : ◌≡◌ {A = Told} r (record { length = length t.line; next = t.next; replay = t.replay }) = same r (length t.line) t.next t.replay f.count f.after f.replay in
    record {
      answer = ap Ok q ∙ sym (ap (λ (b : Bool). cond b (Err Refusal.NoRoom) (Ok (record { length = length t.line; next = t.next; replay = t.replay }))) h);
      buffer = f.buffer ∙ sym (ap (λ (b : Bool). cond b d (t.line ++ drop (length t.line) d)) h);
    }
  where
    same : (r : Told) (n : ℕ) (x : Next) (p : Replay) → r.length ≡ n → r.next ≡ x → r.replay ≡ p → r ≡ record { length = n; next = x; replay = p }
    same r n x p a b c = ap (λ (m : ℕ). told m r.next r.replay) a ∙ ap (λ (y : Next). told n y r.replay) b ∙ ap (told n x) c

-- a line that was made lies within the buffer, and what comes next is the step's
pub record Inside (mu : Mu) (s : List ℕ) (next : Next) (p : Replay) (e : List ℕ) (t : Told) : Type 0 where
  pub within : t.length ≤ length e
  pub after : t.next ≡ (step_of mu s next p).next

pub line-inside : {mu : Mu} {s : List ℕ} {next : Next} {p : Replay} {d e : List ℕ} {t : Told} → Telling mu s next p d e (Ok t) → Inside mu s next p e t
line-inside {mu} {s} {next} {p} {d} {e} {t} f = go (ltb (length d) 512) f.answer f.buffer
  where
    go : (b : Bool) → Ok t ≡ cond b (Err Refusal.NoRoom) (Ok (told (length (step_of mu s next p).line) (step_of mu s next p).next (step_of mu s next p).replay))
        → e ≡ cond b d ((step_of mu s next p).line ++ drop (length (step_of mu s next p).line) d) → Inside mu s next p e t
    go true a b = let z : ◌≡◌ {A = ℕ} 0 1 = cc in absurd (zero_one z)
    go false a b =
        let x = (step_of mu s next p).line in
        let q : t ≡ told (length x) (step_of mu s next p).next (step_of mu s next p).replay = cc in
        record {
          within = omega (arith, ap (λ (y : Told). y.length) q, ap length b, length-append x (drop (length x) d));
          after = ap (λ (y : Told). y.next) q;
        }
