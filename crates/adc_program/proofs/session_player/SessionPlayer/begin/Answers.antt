use Rattle.std.proofs.Common.{refl, ◌∙◌, ap, sym, subst, List, [], ℕ, slice_index_or}
use Rattle.adc_ports.proofs.StateLemmas.{reads_none}
use Rattle.cell_store.specs.Held.{IsStore}
use Rattle.cell_store.proofs.StoreLemmas.{timed}
use Rattle.prune_scan.specs.declared.meters.Meters.{Meters}
use Rattle.adc_program.specs.Stages.{stage_of}
use Rattle.adc_program.proofs.Held.{queries_held, whole_row}
use Rattle.adc_program.proofs.SessionBegins.{refused_begin, opened_begin}
use Rattle.adc_program.proofs.session_player.SessionPlayer.begin.Goals as goal

pub returns-in-Some-clause-line : goal.returns-in-Some-clause-line
returns-in-Some-clause-line g c standing stands =
    let self = c.args.self.now in
    let asked = c.args.asked in
    record {
      only = reads_none _;
      counts = refl;
      cause = tt;
      found = λ files told.
          refused_begin (stage_of files self.inputs self.engine.engine.book) (standing files) self.engine.engine.store self.held.items (stands files told)
          asked.sid asked.number asked.k asked.wanted self.inputs.queries.checked.rows (c.requires.check files told).queries.rows
          c.in-Some.cause (sym c.begin_cause.ensures ∙ c.in-Some.is) c.begin_refused.result c.begin_refused.ensures c.args.meters.now;
    }

pub returns-in-Ok-open_session-clause-line : goal.returns-in-Ok-open_session-clause-line
returns-in-Ok-open_session-clause-line g c standing stands =
    let self = c.args.self.now in
    let asked = c.args.asked in
    let is = subst (IsStore g.S.Shape.widths) c.store.ensures c.stamp-stamp.ensures.is in
    let opened = c.open_session.ensures in
    record {
      only = c.in-Ok.ensures.reads.only;
      counts = c.in-Ok.ensures.reads.counts;
      cause = tt;
      found = λ files told.
          let held = queries_held files self.engine.engine.book.d self.inputs (c.requires.check files told) self.queries in
          let row = (c.deref.ensures.value ∙ whole_row self.row.len c.fetch_row.new.row _ (sym (c.fetch_row.auto.row ∙ c.deref_mut.ensures.len))) ∙ c.in-Ok.ensures.reads.found files told ∙ sym (ap (λ (all : List (List ℕ)). slice_index_or all asked.number []) held) in
          opened_begin (stage_of files self.inputs self.engine.engine.book) (standing files) self.engine.engine.store self.held.items (stands files told)
          asked.sid asked.number asked.k asked.wanted self.inputs.queries.checked.rows (c.requires.check files told).queries.rows
          (sym c.begin_cause.ensures ∙ c.in_default.is) (timed g.S.Shape.widths self.engine.engine.store is)
          c.open_session.new.engine.store c.open_session.new.held.items _ c.in-Ok-open_session.ensures.pins row c.in-Ok-open_session.ensures.held
          c.in-Ok-open_session.line c.in-Ok-open_session.ensures.line c.args.meters.now c.open_session.new.meters
          (ap (λ (m : Meters). m.full) opened.others) opened.pairs.0 opened.pairs.1;
    }
