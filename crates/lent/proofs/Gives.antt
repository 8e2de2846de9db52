-- What is given, by case: an answer that was put, a refusal that left all as it was, and room or not. Assumes nothing.
use Prim.Native.Nat.{ℕ, ◌≤◌}
use mathlib.Core.Path.{◌≡◌, refl, ◌∙◌}
use mathlib.Core.Bool.{true, false}
use mathlib.Core.List.{List}
use lib.ListN.{length}
use borrow.Author.Tests.{le-leb}
use lib.Ieee.{Float}
use Rattle.refusal.specs.declared.Refusal.{Refusal}
use Rattle.refusal.specs.Refusals.{number_of}
use Rattle.lent.specs.Given.{Told, answer, refused, room_for, told_number, in_front, put_in, numbers_after, wholes_after, Given, GivenNumbers, GivenWholes}

-- xs are at most 16 and fit
abbrev pub Fit : {A : Type 0} → List A → List A → Type 0
Fit xs d = (length xs ≤ 16) × (length xs ≤ length d)

fitted : {A : Type 0} (xs d : List A) → Fit xs d → put_in xs d ≡ in_front xs d
unfolding put_in
fitted xs d f = rw (le-leb _ _ f.0, le-leb _ _ f.1)

pub put : {xs : List Float} {zs : List ℕ} {d : List Float} {w : List ℕ} {e : List Float} {v : List ℕ} → e ≡ put_in xs d → v ≡ put_in zs w → Fit xs d → Fit zs w → Given (answer xs zs) d w e v 0
unfolding told_number numbers_after wholes_after
put {xs} {zs} {d} {w} p q f g = record { number = refl; numbers = p ∙ fitted xs d f; wholes = q ∙ fitted zs w g }

pub left : {r : Refusal} {n : ℕ} {d : List Float} {w : List ℕ} → n ≡ number_of r → Given (refused r) d w d w n
unfolding told_number numbers_after wholes_after
left e = record { number = e; numbers = refl; wholes = refl }

pub short : (t : Told) {d : List Float} {w : List ℕ} → Given (room_for false t) d w d w 15
unfolding room_for
short t = left refl

pub enough : {t : Told} {d : List Float} {w : List ℕ} {e : List Float} {v : List ℕ} {r : ℕ} → Given t d w e v r → Given (room_for true t) d w e v r
unfolding room_for
enough g = g

-- the same where only numbers are lent

pub put-numbers : {xs : List Float} {zs : List ℕ} {d e : List Float} → e ≡ put_in xs d → Fit xs d → GivenNumbers (answer xs zs) d e 0
unfolding told_number numbers_after
put-numbers {xs} {zs} {d} p f = record { number = refl; numbers = p ∙ fitted xs d f }

pub left-numbers : {r : Refusal} {n : ℕ} {d : List Float} → n ≡ number_of r → GivenNumbers (refused r) d d n
unfolding told_number numbers_after
left-numbers e = record { number = e; numbers = refl }

pub short-numbers : (t : Told) {d : List Float} → GivenNumbers (room_for false t) d d 15
unfolding room_for
short-numbers t = left-numbers refl

pub enough-numbers : {t : Told} {d e : List Float} {r : ℕ} → GivenNumbers t d e r → GivenNumbers (room_for true t) d e r
unfolding room_for
enough-numbers g = g

-- the same where only whole numbers are lent

pub put-wholes : {xs : List Float} {zs w v : List ℕ} → v ≡ put_in zs w → Fit zs w → GivenWholes (answer xs zs) w v 0
unfolding told_number wholes_after
put-wholes {xs} {zs} {w} q g = record { number = refl; wholes = q ∙ fitted zs w g }

pub left-wholes : {r : Refusal} {n : ℕ} {w : List ℕ} → n ≡ number_of r → GivenWholes (refused r) w w n
unfolding told_number wholes_after
left-wholes e = record { number = e; wholes = refl }

pub short-wholes : (t : Told) {w : List ℕ} → GivenWholes (room_for false t) w w 15
unfolding room_for
short-wholes t = left-wholes refl

pub enough-wholes : {t : Told} {w v : List ℕ} {r : ℕ} → GivenWholes t w v r → GivenWholes (room_for true t) w v r
unfolding room_for
enough-wholes g = g
