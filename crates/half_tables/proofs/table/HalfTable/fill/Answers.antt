use Rattle.std.proofs.Common.{◌≡◌, ◌≤◌, ◌*◌, ℕ, List, get_or, length, sym, ap, ap₂, subst, ◌∙◌, arith}
use Rattle.std.proofs.lemmas.List.{with_items_is}
use Rattle.std.proofs.lemmas.Nat.{mul-le}
use Rattle.book_model.specs.Sums.{least}
use Rattle.book_model.specs.Bound.{base_sum}
use Rattle.half_tables.specs.Half.{first_of, count_of, table_from, tables_from, Bounded}
use Rattle.half_tables.proofs.Views.{count_le}
use Rattle.half_tables.proofs.table.HalfTable.fill.Goals as goal

pub invariant_of-self : goal.invariant_of-self
invariant_of-self g c =
    let ws = g.S.Shape.widths in
    let it = c.self.inside in
    let n = it.g * length ws in
    let first = c.first_of-first.ensures in
    let count : c.count_of-count.result ≡ count_of c.args.half it.split n = c.count_of-count.ensures in
    let wrote = with_items_is it.entries c.fill_half.new.entries (omega (arith, c.fill_half.auto.entries, c.deref_mut.ensures.len)) in
    let kept = with_items_is it.least c.write_least-self-inside.new.least (omega (arith, c.write_least-self-inside.auto.least, c.deref_mut-2.ensures.len)) in
    let long : length c.fill_half.new.entries ≡ length it.entries.items = c.fill_half.ensures.long ∙ ap length c.deref_mut.ensures.value in
    let places : length c.write_least-self-inside.new.least ≡ length it.least.items = c.write_least-self-inside.ensures.long ∙ ap length c.deref_mut-2.ensures.value in
    let few : n ≤ 128 = mul-le it.g (length ws) 32 4 c.self.invariant.few (omega (arith, g.S.Shape.laws.count, g.S.Shape.laws.fields_are)) in
    record {
      few = c.self.invariant.few;
      split = c.self.invariant.split;
      low = omega (arith, c.self.invariant.low, long, ap length wrote);
      high = omega (arith, c.self.invariant.high, long, ap length wrote);
      bounded = subst (Bounded 9895202000896) (sym wrote) c.fill_half.ensures.bounded;
      least_low = omega (arith, c.self.invariant.least_low, places, ap length kept);
      least_high = omega (arith, c.self.invariant.least_high, places, ap length kept);
      least = λ i h.
          ap (λ (e : List ℕ). get_or e i 0) kept ∙ c.write_least-self-inside.ensures.each i (omega (arith, h, count))
          ∙ ap₂ (λ s (e : List ℕ). least (table_from ws s e i)) first c.deref.ensures.value;
      base = c.write_least-self-inside.ensures.sum ∙ ap₂ (λ s k. base_sum (tables_from ws s k c.deref.result.now)) first count
          ∙ ap (λ (e : List ℕ). base_sum (tables_from ws (first_of c.args.half it.split) (count_of c.args.half it.split n) e)) c.deref.ensures.value;
      base_small = omega (arith, c.write_least-self-inside.ensures.small, count, count_le c.args.half it.split n c.self.invariant.split, few);
    }
