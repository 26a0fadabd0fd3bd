use Rattle.std.proofs.Common.{◌≡◌, ◌*◌, length, replicate, rules, sym, ap, subst, ◌∙◌, arith}
use Rattle.std.proofs.lemmas.List.{length-replicate}
use Rattle.adc_tables.specs.Full.{table_start}
use Rattle.adc_tables.proofs.Bounded.{Bounded, bounded_zeros}
use Rattle.adc_tables.proofs.full.FullTables.with_room.Goals as goal

pub invariant_of-result : goal.invariant_of-result
invariant_of-result g c =
    let items : c.in-Ok.entries.items ≡ replicate c.size_of_tables-count.result 0 = search rules in
    let subs : c.subs.result ≡ c.g.result * length g.S.Shape.widths =
    c.subs.ensures.value ∙ ap (λ ws. c.args.book.now.g * length ws) c.d-d.ensures.shape ∙ ap (λ n. n * length g.S.Shape.widths) (sym c.g.ensures.value) in
    record {
      few = omega (arith, c.g.ensures);
      entries = record {
        count = ap length items ∙ length-replicate c.size_of_tables-count.result 0 ∙ c.size_of_tables-count.ensures ∙ ap (table_start g.S.Shape.widths) subs;
        small = subst (λ xs. Bounded 4397912294400 xs) (sym items) (bounded_zeros 4397912294400 c.size_of_tables-count.result);
      };
    }
