-- A version in its bytes: a record in the session layout, of kind 5 and length 44; and the used part, which is versions 1, 2,
-- 3 on, one behind the other. Assumes nothing: these are definitions.
--
--   0 length (2)   2 kind (2)   4 version number (4)   8 body (1)   9 zero (3)
--   12 mu   20 surface radius   28 closed   36 fair (8 each)
use Rattle.std.specs.Prelude.{ℕ, zero, suc, ◌/◌, ◌%◌, Bool, true, ◌&&◌, List, [], ◌∷◌, ◌++◌, length, drop, leb, eqb, is_none, Float}
use Rattle.std.specs.Float.{binary64}
use Rattle.std.specs.Float.Ieee.{to_bits}
use Rattle.real.specs.F64.{bits}
use Rattle.field.specs.Bytes.{field, bytes_le}
use Rattle.session.specs.Decode.{AllFit}
use Rattle.text.specs.Pieces.{concat}
use Rattle.settings.specs.declared.allowed.Setting.{Setting}
use Rattle.settings.specs.Allowed.{refusal_of}

-- the setting in the bytes of a version
abbrev pub constant_at : ℕ → List ℕ → Float
constant_at o s = bits (field o 8 s)

abbrev pub setting_at : List ℕ → Setting
setting_at s =
    record {
      body = field 8 1 s;
      mu = constant_at 12 s;
      radius = constant_at 20 s;
      closed = constant_at 28 s;
      fair = constant_at 36 s;
    }

-- an allowed version k stands at the front of s
abbrev pub is_version : ℕ → List ℕ → Bool
is_version k s =
    eqb (field 0 2 s) 44 && eqb (field 2 2 s) 5 && eqb (field 4 4 s) k && eqb (field 9 3 s) 0
    && is_none (refusal_of (setting_at s))

-- n of them, from version k on
unfoldable pub versions_from : ℕ → ℕ → List ℕ → Bool
versions_from zero k s = true
versions_from (suc n) k s = is_version k s && versions_from n (suc k) (drop 44 s)

-- how many versions so many bytes are
abbrev pub versions_in : ℕ → ℕ
versions_in used = used / 44

-- at most 64 whole, allowed versions 1, 2, 3 on
abbrev pub are_whole : List ℕ → Bool
are_whole s =
    eqb (length s % 44) 0 && leb (versions_in (length s)) 64 && versions_from (versions_in (length s)) 1 s

-- the bytes of a setting as version k
abbrev pub head_fields : ℕ → ℕ → List (List ℕ)
head_fields k body = bytes_le 2 44 ∷ bytes_le 2 5 ∷ bytes_le 4 k ∷ bytes_le 1 body ∷ bytes_le 3 0 ∷ []

abbrev pub eight : Float → List ℕ
eight x = bytes_le 8 (to_bits binary64 x)

abbrev pub number_pieces : Setting → List (List ℕ)
number_pieces x = eight x.mu ∷ eight x.radius ∷ eight x.closed ∷ eight x.fair ∷ []

abbrev pub version_fields : ℕ → Setting → List (List ℕ)
version_fields k x = head_fields k x.body ++ number_pieces x

abbrev pub version_bytes : ℕ → Setting → List ℕ
version_bytes k x = concat (version_fields k x)

-- a setting as memory holds it: numbers of binary64
abbrev pub Held : Setting → Type 0
Held x = AllFit (x.mu ∷ x.radius ∷ x.closed ∷ x.fair ∷ [])
