-- The desk's line: where 0 is returned there is an answer, the length of its line, and nothing else. Assumes nothing.
use Rattle.std.specs.Prelude.{Err, Ok}
use Rattle.refusal.specs.declared.Refusal.TheVariants as Refusal
use Prim.Native.Nat.{ℕ}
use native.Mathlib.Omega.{arith}
use mathlib.Core.Path.{◌≡◌, refl}
use mathlib.Core.Bool.{Bool, true, false, cond}
use mathlib.Core.List.{List, [], ◌∷◌}
use lib.Dec.{leb, ltb}
use lib.ListN.{length}
use Rattle.reply.specs.Replies.{reply_room, reply_text}
use Rattle.lent.specs.Given.{answer, told_number, room_for}
use Rattle.library_lines.specs.Listing.{made_told}
use Rattle.library_desk.specs.Asked.{ask_in}

no_zero : ◌≡◌ {A = ℕ} 15 0 → ⊥
no_zero e = omega arith

-- 15 for the one array or the other
of-line : (b c : Bool) (n : ℕ) → told_number (room_for b (made_told (cond c (Err Refusal.NoRoom) (Ok n)))) ≡ 0
    → room_for b (made_told (cond c (Err Refusal.NoRoom) (Ok n))) ≡ answer [] (n ∷ [])
unfolding told_number room_for made_told
of-line true true n e = absurd (no_zero e)
of-line true false n e = refl
of-line false c n e = absurd (no_zero e)

pub ask-answers : (used asked d w : List ℕ) → told_number (ask_in used asked d w) ≡ 0 → ask_in used asked d w ≡ answer [] (length (reply_text used asked) ∷ [])
ask-answers used asked d w = of-line (leb 1 (length w)) (ltb (length d) reply_room) (length (reply_text used asked))
