use Rattle.std.proofs.Common.{rules, ◌∙◌, ap, sym, refl, arith, List, [], ℕ, slice_index_or}
use Rattle.adc_program.specs.Stages.{stage_of}
use Rattle.adc_program.proofs.StoreReplies.{put_refused_row, put_refused_id, put_on}
use Rattle.adc_program.proofs.Held.{base_held}
use Rattle.adc_program.proofs.play.put.Goals as goal

pub returns-then-number-from-clause-line : goal.returns-then-number-from-clause-line
returns-then-number-from-clause-line g c = record {
  only = search rules;
  counts = refl;
  cause = tt;
  found = λ files told.
      let stand = g.E.Played.stand c.args.engine.now in
      put_refused_row g.E.Played.means (stage_of files c.args.inputs.now stand.book) stand.store c.args.id c.args.number _ (c.requires.check files told).base.rows c.put_refused.result (omega arith) c.put_refused.ensures;
}

pub returns-then-id-gt-MAX_ID-clause-line : goal.returns-then-id-gt-MAX_ID-clause-line
returns-then-id-gt-MAX_ID-clause-line g c = record {
  only = search rules;
  counts = refl;
  cause = tt;
  found = λ files told.
      let stand = g.E.Played.stand c.args.engine.now in
      put_refused_id g.E.Played.means (stage_of files c.args.inputs.now stand.book) stand.store c.args.id c.args.number _ (c.requires.check files told).base.rows c.put_refused-then-id-gt-MAX_ID.result (omega arith) (omega arith) c.put_refused-then-id-gt-MAX_ID.ensures;
}

pub returns-in-Ok-put_vector-clause-line : goal.returns-in-Ok-put_vector-clause-line
returns-in-Ok-put_vector-clause-line g c = record {
  only = c.fetch_row.ensures.reads.only;
  counts = c.in-Ok.ensures.reads.counts;
  cause = tt;
  found = λ files told.
      let stand = g.E.Played.stand c.args.engine.now in
      let check = c.requires.check files told in
      let held = base_held files stand.book.d c.args.inputs.now check c.requires.base in
      put_on g.E.Played.means (stage_of files c.args.inputs.now stand.book) stand.store c.args.id c.args.number _ check.base.rows stand.book c.fetch_row.new.row c.in-Ok-put_vector.line (g.E.Played.stand c.put_vector.new.engine).store refl
      (ap (λ (all : List (List ℕ)). slice_index_or all c.args.number []) held ∙ sym (c.in-Ok.ensures.reads.found files told)) (omega arith) (omega arith) c.in-Ok-put_vector.ensures.line;
}
