-- Pieces of text, laid one behind the other. Assumes nothing: these are definitions.
use Rattle.std.specs.Prelude.{ℕ, List, [], ◌∷◌, ◌++◌}
use Rattle.text.specs.Text.{Put}

-- the pieces as one text
unfoldable pub concat : List (List ℕ) → List ℕ
concat [] = []
concat (x ∷ xs) = x ++ concat xs

-- each piece is put behind the one before it, the first at a place: whole if it fits, and else nothing more is put
pub data Laid : List ℕ → ℕ → List (List ℕ) → List ℕ → ℕ → Type 0 where
  end : {d : List ℕ} {at : ℕ} → Laid d at [] d at
  then : {d : List ℕ} {at : ℕ} {x : List ℕ} {xs : List (List ℕ)} {m : List ℕ} {t : ℕ} {e : List ℕ} {r : ℕ} → Put d at x m t → Laid m t xs e r
      → Laid d at (x ∷ xs) e r
