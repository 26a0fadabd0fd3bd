use Rattle.std.proofs.Common.{◌≡◌, ℕ, ◌<◌, length, get_or}
use Rattle.book_model.specs.Bound.{small}
use Rattle.adc_tables.proofs.small.fill_in_steps.Given as goal

abbrev pub invariant-loop-w : goal.invariant-loop-w
invariant-loop-w l = record {
  width : l.part.width ≡ l.initial.part.width;
  count : length l.part.entries ≡ length l.table;
  done : (k : ℕ) → k < l.w → get_or l.part.entries k 0 ≡ small l.steps.step l.table k;
}
