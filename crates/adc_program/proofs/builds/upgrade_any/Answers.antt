use Rattle.std.proofs.Common.{Ok, ◌∙◌, ap, subst}
use Rattle.index_file.specs.View.{book_of, store_of, view_index, IsFresh}
use Rattle.index_file.specs.declared.index.AnyIndex.{AnyIndex}
use Rattle.adc_program.specs.Builds.{upgraded}
use Rattle.adc_program.proofs.builds.upgrade_any.Goals as goal

pub upgrade_by-requires : goal.upgrade_by-requires
upgrade_by-requires g c = record { fresh = subst (λ (i : AnyIndex). IsFresh (book_of i) (store_of i)) c.in-F4444.is c.requires.fresh }

pub returns-in-F4444 : goal.returns-in-F4444
returns-in-F4444 g c = record {
  makes = λ before wanted reads is. c.upgrade_by.ensures.makes before wanted reads (λ files told. is files told ∙ ap (λ (i : AnyIndex). Ok (upgraded c.args.name.now (view_index i))) c.in-F4444.is);
}

pub upgrade_by-requires-in-F555 : goal.upgrade_by-requires-in-F555
upgrade_by-requires-in-F555 g c = record { fresh = subst (λ (i : AnyIndex). IsFresh (book_of i) (store_of i)) c.in-F555.is c.requires.fresh }

pub returns-in-F555 : goal.returns-in-F555
returns-in-F555 g c = record {
  makes = λ before wanted reads is. c.upgrade_by-in-F555.ensures.makes before wanted reads (λ files told. is files told ∙ ap (λ (i : AnyIndex). Ok (upgraded c.args.name.now (view_index i))) c.in-F555.is);
}

pub upgrade_by-requires-in-F664 : goal.upgrade_by-requires-in-F664
upgrade_by-requires-in-F664 g c = record { fresh = subst (λ (i : AnyIndex). IsFresh (book_of i) (store_of i)) c.in-F664.is c.requires.fresh }

pub returns-in-F664 : goal.returns-in-F664
returns-in-F664 g c = record {
  makes = λ before wanted reads is. c.upgrade_by-in-F664.ensures.makes before wanted reads (λ files told. is files told ∙ ap (λ (i : AnyIndex). Ok (upgraded c.args.name.now (view_index i))) c.in-F664.is);
}

pub upgrade_by-requires-in-F88 : goal.upgrade_by-requires-in-F88
upgrade_by-requires-in-F88 g c = record { fresh = subst (λ (i : AnyIndex). IsFresh (book_of i) (store_of i)) c.in-F88.is c.requires.fresh }

pub returns-in-F88 : goal.returns-in-F88
returns-in-F88 g c = record {
  makes = λ before wanted reads is. c.upgrade_by-in-F88.ensures.makes before wanted reads (λ files told. is files told ∙ ap (λ (i : AnyIndex). Ok (upgraded c.args.name.now (view_index i))) c.in-F88.is);
}
