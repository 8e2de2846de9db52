-- `solve::kepler_ahead` meets its contract: row 1 with the times of a continuation, then the ranges. Assumes nothing.
use Rattle.std.proofs.Common.{◌++◌, ap, ◌∙◌, List, Result, Ok}
use Rattle.table.specs.Tests.{Entry, ◌▷◌}
use Rattle.table.proofs.Laws.{then, entries_same, first_failing_lem}
use Rattle.kepler.specs.Kepler.{input_row, range_rows}
use Rattle.trials.specs.Carried.{times_input}
use Rattle.solve.specs.Ahead.{kepler_ahead}
use Rattle.solve.proofs.kepler_ahead.Goals as goal

pub returns : goal.returns
returns c =
    let a = c.args in
    let row = input_row a.mu a.s a.t in
    let times = times_input a.g in
    let rows = range_rows a.mu a.s a.t a.m in
    let h = c.times_input-inputs.ensures ∙ ap (λ (es : List Entry). c.input_row.result ▷ es) (entries_same times) ∙ ap (λ (r : Result Unit Entry). r ▷ times) c.input_row.ensures ∙ then (Ok tt) row times in
    c.range_rows.ensures
    ∙ ap (λ (es : List Entry). c.times_input-inputs.result ▷ es) (entries_same rows)
    ∙ ap (λ (r : Result Unit Entry). r ▷ rows) h
    ∙ then (Ok tt) (row ++ times) rows
    ∙ first_failing_lem (kepler_ahead a.mu a.s a.t a.m a.g)
