-- A bracket as the loop holds it: at lo a low with its time, or an under; at hi a high with its time, or an over.
-- Assumes nothing: these are definitions.
use Rattle.std.specs.Prelude.{cond}
use Rattle.iterator.specs.declared.Judgement.{Judgement}
use Rattle.iterator.specs.declared.Judgement.TheVariants.{Low, High, Under, Over}
use Rattle.iterator.specs.declared.Bracket.{Bracket}
use Rattle.iterator.specs.Same.{has_time, carried_of}
use Rattle.trials.specs.declared.Span.{Span}

abbrev pub below_of : Span → Judgement
below_of s = cond s.low (Low s.below) Under

abbrev pub above_of : Span → Judgement
above_of s = cond s.high (High s.above) Over

abbrev pub bracket_of : Span → Bracket
bracket_of s = record { lo = s.lo; hi = s.hi; below = below_of s; above = above_of s; count = s.count }

abbrev pub span_of : Bracket → Span
span_of s =
    record {
      lo = s.lo;
      hi = s.hi;
      low = has_time s.below;
      below = carried_of s.below;
      high = has_time s.above;
      above = carried_of s.above;
      count = s.count;
    }
