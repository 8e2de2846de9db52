-- In a session a record of kind 5 is refused with 13. Assumes nothing.
use Rattle.std.specs.Prelude.{Err}
use Rattle.refusal.specs.declared.Refusal.TheVariants as Refusal
use Prim.Native.Nat.{ℕ, ◌≤◌}
use native.Mathlib.Omega.{arith}
use mathlib.Core.Path.{◌≡◌, refl, ap, ◌∙◌}
use mathlib.Core.Bool.{Bool, true, false, cond, ◌&&◌}
use mathlib.Core.List.{List, ◌++◌}
use lib.ListN.{length, length-append}
use lib.Dec.{ltb, leb, eqb}
use borrow.Author.Tests.{le-ltb}
use Rattle.field.specs.Bytes.{field, bytes_le}
use Rattle.text.specs.Pieces.{concat}
use Rattle.session.specs.declared.record.Decoded.{Decoded}
use Rattle.session.specs.declared.record.Decoded.TheVariants.{Refused}
use Rattle.session.specs.Kinds.{kind_of}
use Rattle.session.specs.Decode.{judged, decoded, decode_of}
use Rattle.session.specs.Offset.{offset_of, decode_at}
use Rattle.settings.specs.declared.allowed.Setting.{Setting}
use Rattle.settings.specs.Layout.{version_bytes}
use Rattle.settings.proofs.Versions.{version-length}

neither : (b : Bool) (x y : Decoded) → cond (b && eqb 5 4) x y ≡ y
neither b x y = go b
  where
    go : (b : Bool) → cond (b && eqb 5 4) x y ≡ y
    go true = refl
    go false = refl

pub kind-5 : (first : Bool) (s : List ℕ) → 4 ≤ length s → 4 ≤ field 0 2 s → field 2 2 s ≡ 5 → decode_at first s ≡ Refused Refusal.UnknownKind
kind-5 first s h l k =
    ap (λ (n : ℕ). cond (leb 4 (length s) && eqb n 4) (offset_of first s) (decode_of s)) k
    ∙ neither (leb 4 (length s)) (offset_of first s) (decode_of s)
    ∙ ap (λ (b : Bool). decoded (cond b (Err Refusal.CutShort) (cond (ltb (field 0 2 s) 4) (Err Refusal.WrongLength) (judged (kind_of (field 2 2 s)) s))) s) (le-ltb (length s) 4 h)
    ∙ ap (λ (b : Bool). decoded (cond b (Err Refusal.WrongLength) (judged (kind_of (field 2 2 s)) s)) s) (le-ltb (field 0 2 s) 4 l)
    ∙ ap (λ (n : ℕ). decoded (judged (kind_of n) s) s) k

-- a version among a session's records
pub version-in-session : (first : Bool) (k : ℕ) (x : Setting) (rest : List ℕ) → decode_at first (version_bytes k x ++ rest) ≡ Refused Refusal.UnknownKind
unfolding concat bytes_le
version-in-session first k x rest =
    let s = version_bytes k x ++ rest in
    kind-5 first s (omega (arith, length-append (version_bytes k x) rest, version-length k x)) (omega arith) refl
