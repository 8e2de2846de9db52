-- What a line asks of the settings. Each word is read once, and the first that cannot be read is told by its number, the
-- line's first word being 1; a missing word is empty, and no number or name is. Assumes nothing: these are definitions.
use Rattle.std.specs.Prelude.{ℕ, ◌+◌, Bool, true, false, cond, List, length, eqb, Float, None, Option, Some, Err, Ok, Result}
use Rattle.text.specs.Text.{ascii}
use Rattle.words.specs.Words.{word_at, is_word}
use Rattle.numerals.specs.Numbers.{word_number, word_whole}
use Rattle.orders.specs.declared.Order.{Order}
use Rattle.orders.specs.declared.Order.TheVariants as O

-- no word more behind the first k
abbrev pub ended : ℕ → List ℕ → Order → Result Order ℕ
ended k line o = cond (eqb (length (word_at k line)) 0) (Ok o) (Err (k + 1))

-- a whole number in 0..2^64−1, or a number, and what follows it; w is the number of its word
abbrev pub by_whole : Option ℕ → (ℕ → Result Order ℕ) → ℕ → Result Order ℕ
by_whole (Some n) go w = go n
by_whole None go w = Err w

abbrev pub by_number : Option Float → (Float → Result Order ℕ) → ℕ → Result Order ℕ
by_number (Some x) go w = go x
by_number None go w = Err w

-- `show K` and `back K`
unfoldable pub numbered_by : Bool → ℕ → Order
numbered_by true n = O.Back n
numbered_by false n = O.Show n

abbrev pub version_order : Bool → List ℕ → Result Order ℕ
version_order back line = by_whole (word_whole (word_at 1 line)) (λ (n : ℕ). ended 2 line (numbered_by back n)) 2

-- `store BODY MU RADIUS CLOSED FAIR`
abbrev pub fractions_order : ℕ → Float → Float → List ℕ → Result Order ℕ
fractions_order body mu radius line =
    by_number (word_number (word_at 4 line))
    (λ (closed : Float).
    by_number (word_number (word_at 5 line))
    (λ (fair : Float).
    ended 6 line (O.Store (record { body = body; mu = mu; radius = radius; closed = closed; fair = fair })))
    6)
    5

abbrev pub constants_order : ℕ → List ℕ → Result Order ℕ
constants_order body line =
    by_number (word_number (word_at 2 line))
    (λ (mu : Float).
    by_number (word_number (word_at 3 line)) (λ (radius : Float). fractions_order body mu radius line) 4)
    3

abbrev pub store_order : List ℕ → Result Order ℕ
store_order line = by_whole (word_whole (word_at 1 line)) (λ (body : ℕ). constants_order body line) 2

-- by the line's first word
unfoldable pub order_by : List ℕ → List ℕ → Result Order ℕ
order_by name line =
    cond (is_word name (ascii "list")) (ended 1 line O.List)
    (cond (is_word name (ascii "show")) (version_order false line)
    (cond (is_word name (ascii "store")) (store_order line)
    (cond (is_word name (ascii "back")) (version_order true line) (Err 1))))

abbrev pub order_of : List ℕ → Result Order ℕ
order_of line = order_by (word_at 0 line) line
