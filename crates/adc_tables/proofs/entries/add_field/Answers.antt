use Rattle.std.proofs.Common.{length, min, arith}
use Rattle.adc_tables.proofs.Starts.{start_le}
use Rattle.adc_tables.proofs.entries.add_field.Goals as goal

pub overflow_add-result : goal.overflow_add-result
overflow_add-result g c =
    let ws = g.S.Shape.widths in
    let before = start_le ws (min c.args.f (length ws)) (length ws) (omega arith) in
    omega (arith, before, c.field_start.ensures, c.requires.room)
