-- The law of each turn of `feed`. Assumes nothing.
use Rattle.std.specs.Prelude.{Err, Ok, Result}
use Prim.Native.Nat.{ℕ, ◌≤◌, ◌<◌, zero-le}
use native.Mathlib.Omega.{arith}
use mathlib.Core.Path.{◌≡◌, refl, sym, ap, ◌∙◌}
use mathlib.Core.List.{List, []}
use lib.ListN.{length, take, drop}
use Rattle.split.specs.declared.Found.TheVariants.{Line, Kept}
use Rattle.split.specs.Split.{Rows, rows_from, found_of, room_of}
use Rattle.split.specs.Calls.{last}
use Rattle.split.proofs.Calls.{line-law, calls-law}
use Rattle.entry.specs.Entries.{entry_of}
use Rattle.enter.specs.Enter.{session_of}
use Rattle.book.specs.declared.Progress.{Progress}
use Rattle.book.specs.declared.Ended.{Ended as EndedOf}
use Rattle.book.specs.Book.{progress_by, progress_over_by, written_over_by}
use Rattle.book.proofs.Laws.{turns-none-by, turns-more-by, turns-ended-by, turn-within-by}
use Rattle.refusal.specs.Refusals.{number_of}
use Rattle.write.specs.Feed.{rows_of, Feeds}

-- what the rest of s does is what the whole does: from the room e with m bytes kept and the session f at a place
pub record Left (s l : List ℕ) (k : ℕ) (d : List ℕ) (p : Progress) (e : List ℕ) (m from : ℕ) (f : List ℕ) (q : Progress) : Type 0 where
  pub start : from ≤ length s
  pub inside : m ≤ length e
  pub size : length e ≡ length l
  pub within : q.at ≤ length f
  pub wide : length f ≡ length d
  pub turns : progress_over_by number_of (rows_from (length e) (take m e) (drop from s)).lines f (Ok q) ≡ progress_over_by number_of (rows_of s l k).lines d (Ok p)
  pub written : written_over_by number_of (rows_from (length e) (take m e) (drop from s)).lines f (Ok q) ≡ written_over_by number_of (rows_of s l k).lines d (Ok p)
  pub kept : (rows_from (length e) (take m e) (drop from s)).kept ≡ (rows_of s l k).kept

pub begin : (s l : List ℕ) (k : ℕ) (d : List ℕ) (p : Progress) → k ≤ length l → p.at ≤ length d → Left s l k d p l k 0 d p
begin s l k d p h g =
    record { start = zero-le; inside = h; size = refl; within = g; wide = refl; turns = refl; written = refl; kept = refl }

module _ {s l : List ℕ} {k : ℕ} {d : List ℕ} {p : Progress} {e : List ℕ} {m from : ℕ} {f : List ℕ} {q : Progress} (a : Left s l k d p e m from f q) {g : List ℕ} (r : g ≡ room_of e m (drop from s)) where
  module _ (z b : ℕ) (w : Line z b ≡ found_of e m from (drop from s)) where
    -- the rows behind the line
    abbrev behind : Rows
    behind = rows_from (length e) [] (drop b s)

    pub line-size : length g ≡ length l
    line-size = let y = line-law e m s from z b w a.inside a.start in ap length r ∙ y.size ∙ a.size

    pub line-short : z ≤ length g
    line-short = let y = line-law e m s from z b w a.inside a.start in omega (arith, y.short, ap length r ∙ y.size)

    pub line-forth : (from < b) × (b ≤ length s)
    line-forth = let y = line-law e m s from z b w a.inside a.start in (y.forth, y.inside)

    module _ {t : Result Progress (EndedOf ℕ)} {h : List ℕ} (u : t ≡ progress_by number_of f q (take z g)) (v : h ≡ session_of f q.at (entry_of (take z g))) where
      next-turns : progress_over_by number_of behind.lines h t ≡ progress_over_by number_of (rows_of s l k).lines d (Ok p)
      next-turns =
          let y = line-law e m s from z b w a.inside a.start in
          let x = ap (λ (i : List ℕ). take z i) r in
          let o = turns-more-by number_of f q (take z (room_of e m (drop from s))) behind.lines in
          ap (λ (i : List ℕ). progress_over_by number_of behind.lines i t) v ∙ ap (progress_over_by number_of behind.lines (session_of f q.at (entry_of (take z g)))) u
          ∙ ap (λ (i : List ℕ). progress_over_by number_of behind.lines (session_of f q.at (entry_of i)) (progress_by number_of f q i)) x
          ∙ sym o.0 ∙ sym (ap (λ (i : Rows). progress_over_by number_of i.lines f (Ok q)) y.rows) ∙ a.turns

      next-written : written_over_by number_of behind.lines h t ≡ written_over_by number_of (rows_of s l k).lines d (Ok p)
      next-written =
          let y = line-law e m s from z b w a.inside a.start in
          let x = ap (λ (i : List ℕ). take z i) r in
          let o = turns-more-by number_of f q (take z (room_of e m (drop from s))) behind.lines in
          ap (λ (i : List ℕ). written_over_by number_of behind.lines i t) v ∙ ap (written_over_by number_of behind.lines (session_of f q.at (entry_of (take z g)))) u
          ∙ ap (λ (i : List ℕ). written_over_by number_of behind.lines (session_of f q.at (entry_of i)) (progress_by number_of f q i)) x
          ∙ sym o.1 ∙ sym (ap (λ (i : Rows). written_over_by number_of i.lines f (Ok q)) y.rows) ∙ a.written

      -- the line was entered: on to the next
      pub on : (x : Progress) → t ≡ Ok x → length h ≡ length f → Left s l k d p g 0 b h x
      on x i c =
          let y = line-law e m s from z b w a.inside a.start in
          let o : length e ≡ length g = sym (ap length r ∙ y.size) in
          record {
            start = y.inside;
            inside = zero-le;
            size = line-size;
            within = rw c (turn-within-by number_of f q (take z g) x a.within (sym u ∙ i));
            wide = c ∙ a.wide;
            turns = sym (ap (λ (j : ℕ). progress_over_by number_of (rows_from j [] (drop b s)).lines h (Ok x)) o) ∙ sym (ap (progress_over_by number_of behind.lines h) i) ∙ next-turns;
            written = sym (ap (λ (j : ℕ). written_over_by number_of (rows_from j [] (drop b s)).lines h (Ok x)) o) ∙ sym (ap (written_over_by number_of behind.lines h) i) ∙ next-written;
            kept = sym (ap (λ (x : ℕ). (rows_from x [] (drop b s)).kept) o) ∙ sym (ap (λ (x : Rows). x.kept) y.rows) ∙ a.kept;
          }

      -- or it ended all
      pub ends : (x : EndedOf ℕ) → t ≡ Err x → progress_over_by number_of (rows_of s l k).lines d (Ok p) ≡ Err x
      ends x i = sym next-turns ∙ ap (progress_over_by number_of behind.lines h) i ∙ turns-ended-by number_of h x behind.lines

  -- no newline more
  pub rest : (z : ℕ) → Kept z ≡ found_of e m from (drop from s)
      → (length g ≡ length l) × (z ≤ length g) × Feeds s l (record { kept = k; progress = p }) d g f (Ok (record { kept = z; progress = q }))
  rest z w =
      let y = calls-law (last {d = e} {k = m} {p = s} {from = from} {n = z} w) a.inside a.start in
      let x = y.rows in
      let o = turns-none-by number_of f (Ok q) in (
        ap length r ∙ y.size ∙ a.size,
        rw r y.inside,
        (
          sym a.turns ∙ ap (λ (i : Rows). progress_over_by number_of i.lines f (Ok q)) x ∙ o.0,
          sym o.1 ∙ sym (ap (λ (i : Rows). written_over_by number_of i.lines f (Ok q)) x) ∙ a.written,
          ap (take z) r ∙ sym (ap (λ (i : Rows). i.kept) x) ∙ a.kept,
        ),
      )
