use Rattle.std.proofs.Common.{[], ◌∷◌, sym, subst}
use Rattle.index_file.specs.View.{book_of, store_of, view_index, IsFresh}
use Rattle.index_file.specs.declared.index.AnyIndex.{AnyIndex}
use Rattle.adc_program.specs.Infos.{info_of}
use Rattle.adc_program.specs.Steps.{Puts}
use Rattle.adc_program.proofs.infos.write_any.Goals as goal

pub write_index-requires-clause-cells : goal.write_index-requires-clause-cells
write_index-requires-clause-cells g c = (subst (λ (i : AnyIndex). IsFresh (book_of i) (store_of i)) c.in-F4444.is c.requires.fresh).cells

pub returns-in-F4444 : goal.returns-in-F4444
returns-in-F4444 g c = record {
  puts = subst (λ (i : AnyIndex). Puts c.write_index.result (info_of (view_index i) ∷ []) (g.K.Sink.state c.args.out.now) (g.K.Sink.state c.write_index.new.out)) (sym c.in-F4444.is) c.write_index.ensures.puts;
}

pub write_index-requires-in-F555-clause-cells : goal.write_index-requires-in-F555-clause-cells
write_index-requires-in-F555-clause-cells g c = (subst (λ (i : AnyIndex). IsFresh (book_of i) (store_of i)) c.in-F555.is c.requires.fresh).cells

pub returns-in-F555 : goal.returns-in-F555
returns-in-F555 g c = record {
  puts = subst (λ (i : AnyIndex). Puts c.write_index-in-F555.result (info_of (view_index i) ∷ []) (g.K.Sink.state c.args.out.now) (g.K.Sink.state c.write_index-in-F555.new.out)) (sym c.in-F555.is) c.write_index-in-F555.ensures.puts;
}

pub write_index-requires-in-F664-clause-cells : goal.write_index-requires-in-F664-clause-cells
write_index-requires-in-F664-clause-cells g c = (subst (λ (i : AnyIndex). IsFresh (book_of i) (store_of i)) c.in-F664.is c.requires.fresh).cells

pub returns-in-F664 : goal.returns-in-F664
returns-in-F664 g c = record {
  puts = subst (λ (i : AnyIndex). Puts c.write_index-in-F664.result (info_of (view_index i) ∷ []) (g.K.Sink.state c.args.out.now) (g.K.Sink.state c.write_index-in-F664.new.out)) (sym c.in-F664.is) c.write_index-in-F664.ensures.puts;
}

pub write_index-requires-in-F88-clause-cells : goal.write_index-requires-in-F88-clause-cells
write_index-requires-in-F88-clause-cells g c = (subst (λ (i : AnyIndex). IsFresh (book_of i) (store_of i)) c.in-F88.is c.requires.fresh).cells

pub returns-in-F88 : goal.returns-in-F88
returns-in-F88 g c = record {
  puts = subst (λ (i : AnyIndex). Puts c.write_index-in-F88.result (info_of (view_index i) ∷ []) (g.K.Sink.state c.args.out.now) (g.K.Sink.state c.write_index-in-F88.new.out)) (sym c.in-F88.is) c.write_index-in-F88.ensures.puts;
}
