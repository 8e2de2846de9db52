-- Laws of versions one behind the other, and of a version's bytes. Assumes nothing.
use Prim.Native.Nat.{ℕ, suc, ◌+◌, ◌-◌, ◌*◌, ◌<◌}
use native.Mathlib.Omega.{arith}
use mathlib.Core.Path.{◌≡◌, refl, ap, ◌∙◌}
use mathlib.Core.Bool.{◌&&◌}
use mathlib.Core.List.{List}
use lib.ListN.{length, drop}
use lib.Seq.{drop-drop}
use Rattle.field.specs.Bytes.{bytes_le}
use Rattle.text.specs.Pieces.{concat}
use Rattle.settings.specs.declared.allowed.Setting.{Setting}
use Rattle.settings.specs.Layout.{is_version, versions_from, version_bytes}

-- the place of a version behind others
pub further : (i : ℕ) (s : List ℕ) → drop 44 (drop (44 * i) s) ≡ drop (44 * (i + 1)) s
further i s =
    let e : 44 * i + 44 ≡ 44 * (i + 1) = omega arith in
    drop-drop 44 (44 * i) s ∙ ap (λ (k : ℕ). drop k s) e

-- the first of the versions that are left, and those behind it
pub versions-first : (i n : ℕ) (s : List ℕ) → i < n
    → versions_from (n - i) (i + 1) (drop (44 * i) s) ≡ is_version (i + 1) (drop (44 * i) s) && versions_from (n - (i + 1)) (i + 1 + 1) (drop (44 * (i + 1)) s)
unfolding versions_from
versions-first i n s h =
    let e : n - i ≡ suc (n - (i + 1)) = omega arith in
    let k : suc (i + 1) ≡ i + 1 + 1 = omega arith in
    ap (λ (m : ℕ). versions_from m (i + 1) (drop (44 * i) s)) e
    ∙ ap (λ (m : ℕ). is_version (i + 1) (drop (44 * i) s) && versions_from (n - (i + 1)) m (drop 44 (drop (44 * i) s))) k
    ∙ ap (λ (l : List ℕ). is_version (i + 1) (drop (44 * i) s) && versions_from (n - (i + 1)) (i + 1 + 1) l) (further i s)

-- a version is 44 bytes
pub version-length : (k : ℕ) (x : Setting) → length (version_bytes k x) ≡ 44
unfolding concat bytes_le
version-length k x = refl
