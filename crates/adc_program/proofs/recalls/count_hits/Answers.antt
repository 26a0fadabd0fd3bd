use Rattle.std.proofs.Common.{rules, ◌∙◌, ℕ, ◌+◌, Bool, sym, ap, ap₂, arith}
use Rattle.std.specs.Prelude.{if◌then◌else◌}
use Rattle.adc_program.specs.Comparing.{numbers_in}
use Rattle.adc_program.proofs.Faults.{well_none, well_on, well_of}
use Rattle.adc_program.proofs.Recalling.{hits_more, one_hit, few_hits}
use Rattle.adc_program.proofs.recalls.count_hits.Goals as goal

pub loop-number-init : goal.loop-number-init
loop-number-init g c = record {
  within = omega arith;
  few = omega arith;
  reads = well_none _;
  hits = search rules;
}

pub loop-number-preserved : goal.loop-number-preserved
loop-number-preserved g c =
    let i = c.loop-number.invariant in
    let both = c.args.both.now in
    let n = c.loop-number.number in
    record {
      within = omega arith;
      few = omega (arith, i.few, c.from-hits.ensures, few_hits c.in-Ok.is');
      reads = well_on _ _ _ i.reads (well_of c.in-Ok.ensures.reads);
      hits = λ files told.
          let founds = numbers_in files both.found in
          let truths = numbers_in files both.truth in
          let is = c.in-Ok.ensures.reads.found files (i.reads.only.files ∙ told) in
          let one = c.from-hits.ensures ∙ one_hit c.in-Ok.is' in
          let more = hits_more c.args.k n founds truths (omega (arith, (c.requires.found files told).rows)) (omega (arith, (c.requires.truth files told).rows, both.paired)) in
          ap₂ (λ (a b : ℕ). a + b) (i.hits files told) (one ∙ ap (λ (b : Bool). if b then 1 else 0) is) ∙ sym more;
    }
