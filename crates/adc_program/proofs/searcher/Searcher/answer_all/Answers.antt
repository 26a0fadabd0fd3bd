use Rattle.std.proofs.Common.{◌≡◌, ◌∙◌, ℕ, ◌<◌, List, [], ◌∷◌, Ok, Err, refl, sym, ap, subst, arith}
use Rattle.adc_ports.specs.Files.{Files}
use Rattle.adc_ports.specs.States.{IsThere}
use Rattle.vec_files.specs.Rows.{ivecs_row}
use Rattle.play_script.specs.Play.{Counts, query_line}
use Rattle.query_engine.specs.State.{State}
use Rattle.adc_inputs.specs.Inputs.{IsCheckOf}
use Rattle.adc_program.specs.declared.searcher.Asking.{Asking}
use Rattle.adc_program.specs.Asked.{indexed, questions_of}
use Rattle.adc_program.specs.Rowing.{Adds}
use Rattle.adc_program.specs.Searches.{Questions, counts_at, ids_at, lines_below, bytes_below, counts_below}
use Rattle.adc_program.specs.Work.{Works, RiseLittle}
use Rattle.adc_program.proofs.FileRows.{rows_more, rows_behind, rows_split}
use Rattle.adc_program.proofs.Growing.{told_on, check_after, adds_none, adds_after, adds_cut, adds_as, there_on}
use Rattle.adc_program.proofs.SearchTexts.{lines_more, counts_more, lines_behind, lines_split, asked_stays}
use Rattle.adc_program.proofs.Working.{works_none, works_on, little_start, little_more, room_after}
use Rattle.adc_program.proofs.searcher.Searcher.answer_all.Goals as goal

pub loop-number-init : goal.loop-number-init
loop-number-init g c = record {
  engine = refl;
  asking = refl;
  within = omega arith;
  there = c.requires.there;
  adds = adds_none c.args.self.now.asking.out.now _ _;
  little = little_start c.args.self.now.engine.store c.args.meters.now;
  works = λ files told. works_none c.args.meters.now;
}

pub answer-requires : goal.answer-requires
answer-requires g c =
    let i = c.loop-number.invariant in
    let asking = c.args.self.now.asking in
    let store = c.args.self.now.engine.store in
    record {
      selector = c.requires.selector;
      number = subst (λ (a : Asking). c.loop-number.number < a.queries.checked.rows) (sym i.asking) (omega arith);
      meters = room_after c.loop-number.number store store c.args.meters.now c.loop-number.meters (omega (arith, asking.queries.few)) c.requires.meters i.little;
      there = subst (λ (a : Asking). IsThere (g.H.Shelf.state c.loop-number.shelf) a.out.now) (sym i.asking) i.there;
      check = λ files told. subst (λ (a : Asking). IsCheckOf files a.queries.role a.queries.name.now a.queries.checked.d a.queries.checked) (sym i.asking)
          (check_after asking.queries.role asking.queries.name.now asking.out.now asking.queries.checked.d asking.queries.checked _ _ asking.apart i.adds.changes c.requires.check files told);
    }

pub loop-number-preserved : goal.loop-number-preserved
loop-number-preserved g c =
    let i = c.loop-number.invariant in
    let self = c.args.self.now in
    let n = c.loop-number.number in
    let ranges = g.P.IdSelector.ranges c.args.selector.now in
    let now = g.H.Shelf.state c.loop-number.shelf in
    let new = g.H.Shelf.state c.answer.new.shelf in
    let text = g.K.Sink.state c.loop-number.out in
    let text1 = g.K.Sink.state c.answer.new.out in
    let index = indexed self.engine in
    let asked = λ (files : Files). questions_of files self.asking ranges in
    let Next : State → Asking → Type 0 = λ e a. Adds a.out.now (Ok tt) (λ files. query_line n (counts_at (indexed e) (questions_of files a ranges) n) ∷ []) (λ files. ivecs_row a.k (ids_at (indexed e) (questions_of files a ranges) n)) now new text text1 in
    let next : Next self.engine self.asking = subst (λ (e : State). Next e self.asking) i.engine (subst (λ (a : Asking). Next c.loop-number.self.engine a) i.asking c.in-Ok.ensures.adds) in
    record {
      engine = c.answer.ensures.engine ∙ i.engine;
      asking = c.answer.ensures.asking ∙ i.asking;
      within = omega arith;
      there = there_on self.asking.out.now i.there next;
      adds = adds_as self.asking.out.now (Ok tt) (λ files told. lines_more index (asked files) n) (λ files told. rows_more self.asking.k (ids_at index (asked files)) n)
          (adds_after self.asking.out.now (Ok tt) (asked_stays self.asking ranges (λ (q : Questions). query_line n (counts_at index q n) ∷ [])) (asked_stays self.asking ranges (λ (q : Questions). ivecs_row q.k (ids_at index q n))) (λ files none. cc) i.adds next);
      little = little_more n self.engine.store self.engine.store self.engine.store c.args.meters.now c.loop-number.meters c.answer.new.meters i.little
          (subst (λ (e : State). RiseLittle 1 e.store e.store c.loop-number.meters c.answer.new.meters) i.engine c.answer.ensures.little);
      works = λ files told.
          let on = told_on self.asking.out.now _ _ files i.adds.changes told in
          let Done : State → Asking → Type 0 = λ e a. Works (counts_at (indexed e) (questions_of on.0 a ranges) n ∷ []) c.loop-number.meters c.answer.new.meters in
          let done : Done self.engine self.asking = subst (λ (e : State). Done e self.asking) i.engine (subst (λ (a : Asking). Done c.loop-number.self.engine a) i.asking (c.in-Ok.ensures.works on.0 on.1)) in
          subst (λ (queries : List Counts). Works queries c.args.meters.now c.answer.new.meters) (sym (counts_more index (asked files) n))
          (works_on _ _ c.args.meters.now c.loop-number.meters c.answer.new.meters (i.works files told)
          (subst (λ (q : Counts). Works (q ∷ []) c.loop-number.meters c.answer.new.meters) (asked_stays self.asking ranges (λ (q : Questions). counts_at index q n) files on.0 on.2) done));
    }

pub returns-in-Err-clause-adds : goal.returns-in-Err-clause-adds
returns-in-Err-clause-adds g c =
    let i = c.loop-number.invariant in
    let self = c.args.self.now in
    let n = c.loop-number.number in
    let halted = c.in-Err.halted in
    let ranges = g.P.IdSelector.ranges c.args.selector.now in
    let now = g.H.Shelf.state c.loop-number.shelf in
    let new = g.H.Shelf.state c.answer.new.shelf in
    let text = g.K.Sink.state c.loop-number.out in
    let text1 = g.K.Sink.state c.answer.new.out in
    let index = indexed self.engine in
    let all = self.asking.queries.checked.rows in
    let asked = λ (files : Files). questions_of files self.asking ranges in
    let Next : State → Asking → Type 0 = λ e a. Adds a.out.now (Err halted) (λ files. query_line n (counts_at (indexed e) (questions_of files a ranges) n) ∷ []) (λ files. ivecs_row a.k (ids_at (indexed e) (questions_of files a ranges) n)) now new text text1 in
    let next : Next self.engine self.asking = subst (λ (e : State). Next e self.asking) i.engine (subst (λ (a : Asking). Next c.loop-number.self.engine a) i.asking c.in-Err.ensures.adds) in
    adds_as self.asking.out.now (Err halted) (λ files told. lines_split index (asked files) n all (omega arith)) (λ files told. rows_split self.asking.k (ids_at index (asked files)) n all (omega arith))
    (adds_cut self.asking.out.now halted (λ files. lines_behind index (asked files) n all) (λ files. rows_behind self.asking.k (ids_at index (asked files)) n all)
    (adds_after self.asking.out.now (Err halted) (asked_stays self.asking ranges (λ (q : Questions). query_line n (counts_at index q n) ∷ [])) (asked_stays self.asking ranges (λ (q : Questions). ivecs_row q.k (ids_at index q n))) (λ files none. cc) i.adds next))

pub returns-clause-adds : goal.returns-clause-adds
returns-clause-adds g c =
    let i = c.loop-number.invariant in
    let self = c.args.self.now in
    let ranges = g.P.IdSelector.ranges c.args.selector.now in
    let index = indexed self.engine in
    let all : c.loop-number.number ≡ self.asking.queries.checked.rows = omega (arith, i.within) in
    adds_as self.asking.out.now (Ok tt) (λ files told. ap (lines_below index (questions_of files self.asking ranges)) (sym all)) (λ files told. ap (bytes_below index (questions_of files self.asking ranges)) (sym all)) i.adds

pub returns-clause-works : goal.returns-clause-works
returns-clause-works g c = λ files told.
    let i = c.loop-number.invariant in
    let self = c.args.self.now in
    let all : c.loop-number.number ≡ self.asking.queries.checked.rows = omega (arith, i.within) in
    subst (λ (n : ℕ). Works (counts_below (indexed self.engine) (questions_of files self.asking (g.P.IdSelector.ranges c.args.selector.now)) n) c.args.meters.now c.loop-number.meters) all (i.works files told)
