use Rattle.std.proofs.Common.{◌∙◌, ℕ, List, [], ◌∷◌, ◌++◌, Ok, Err, refl, sym, ap, subst}
use Rattle.std.proofs.lemmas.List.{append-nil}
use Rattle.adc_ports.specs.Files.{Files}
use Rattle.play_script.specs.Play.{Counts}
use Rattle.play_script.specs.declared.Role.TheVariants as role
use Rattle.play_script.specs.Texts.{rerank_done}
use Rattle.adc_program.specs.Asked.{indexed, questions_of}
use Rattle.adc_program.specs.Asking.{rows_in}
use Rattle.adc_program.specs.Reranks.{reranked_below}
use Rattle.adc_program.specs.Searches.{Questions, lines_below, counts_below}
use Rattle.adc_program.specs.Work.{Works}
use Rattle.adc_program.proofs.Growing.{told_on, changes_write, check_after, begun_there, adds_lines, adds_after, adds_cut, adds_as, makes_unbegun, makes_added}
use Rattle.adc_program.proofs.RerankTexts.{reranked_parts, reranked_stays}
use Rattle.adc_program.proofs.SearchTexts.{asked_stays}
use Rattle.adc_program.proofs.Writing.{on_ok}
use Rattle.adc_program.proofs.reranks.Reranker.write.Goals as goal

pub returns-in-Err-clause-makes : goal.returns-in-Err-clause-makes
returns-in-Err-clause-makes g c = λ before wanted reads is.
    let self = c.args.self.now in
    let asking = self.searcher.asking in
    let index = indexed self.searcher.engine in
    let all = asking.queries.checked.rows in
    let asked = λ (files : Files). questions_of files asking (g.P.IdSelector.ranges c.args.selector.now) in
    makes_unbegun before asking.out.now (λ files. lines_below index (asked files) all ++ rerank_done all ∷ []) (λ files. reranked_below index (asked files) (rows_in files self.base) self.k all) (λ files. counts_below index (asked files) all)
    (λ files told. is files told ∙ ap Ok (reranked_parts asking.out.now index (asked files) (rows_in files self.base) self.k all)) c.in-Err.halted reads c.in-Err.ensures.begins

pub answer_all-requires : goal.answer_all-requires
answer_all-requires g c =
    let self = c.args.self.now in
    let asking = self.searcher.asking in
    let changes = changes_write asking.out.now _ _ c.in-Ok.ensures.begins.only in
    record {
      selector = c.requires.selector;
      meters = c.requires.meters;
      there = begun_there role.Out asking.out.now _ _ c.in-Ok.ensures.begins;
      base = check_after self.base.role self.base.name.now asking.out.now self.base.checked.d self.base.checked _ _ self.apart changes c.requires.base;
      queries = check_after asking.queries.role asking.queries.name.now asking.out.now asking.queries.checked.d asking.queries.checked _ _ asking.apart changes c.requires.queries;
    }

pub returns-in-Err-answer_all-clause-makes : goal.returns-in-Err-answer_all-clause-makes
returns-in-Err-answer_all-clause-makes g c = λ before wanted reads is.
    let self = c.args.self.now in
    let asking = self.searcher.asking in
    let index = indexed self.searcher.engine in
    let all = asking.queries.checked.rows in
    let ranges = g.P.IdSelector.ranges c.args.selector.now in
    let halted = c.in-Err-answer_all.halted in
    let asked = λ (files : Files). questions_of files asking ranges in
    makes_added before asking.out.now (λ files. lines_below index (asked files) all ++ rerank_done all ∷ []) (λ files. reranked_below index (asked files) (rows_in files self.base) self.k all) (λ files. counts_below index (asked files) all)
    (λ files told. is files told ∙ ap Ok (reranked_parts asking.out.now index (asked files) (rows_in files self.base) self.k all)) (Err halted) reads c.in-Ok.ensures.begins
    (asked_stays asking ranges (λ (q : Questions). lines_below index q all ++ rerank_done all ∷ []))
    (reranked_stays asking self.base ranges (λ (q : Questions) (b : List (List ℕ)). reranked_below index q b self.k all) self.apart)
    (adds_as asking.out.now (Err halted) (λ files told. refl) (λ files told. sym (append-nil _)) (adds_cut asking.out.now halted (λ files. rerank_done all ∷ []) (λ files. []) c.in-Err-answer_all.ensures.adds))

pub returns-in-Ok-answer_all-clause-makes : goal.returns-in-Ok-answer_all-clause-makes
returns-in-Ok-answer_all-clause-makes g c = λ before wanted reads is.
    let self = c.args.self.now in
    let asking = self.searcher.asking in
    let index = indexed self.searcher.engine in
    let all = asking.queries.checked.rows in
    let ranges = g.P.IdSelector.ranges c.args.selector.now in
    let asked = λ (files : Files). questions_of files asking ranges in
    makes_added before asking.out.now (λ files. lines_below index (asked files) all ++ rerank_done all ∷ []) (λ files. reranked_below index (asked files) (rows_in files self.base) self.k all) (λ files. counts_below index (asked files) all)
    (λ files told. is files told ∙ ap Ok (reranked_parts asking.out.now index (asked files) (rows_in files self.base) self.k all)) c.write_line.result reads c.in-Ok.ensures.begins
    (asked_stays asking ranges (λ (q : Questions). lines_below index q all ++ rerank_done all ∷ []))
    (reranked_stays asking self.base ranges (λ (q : Questions) (b : List (List ℕ)). reranked_below index q b self.k all) self.apart)
    (adds_as asking.out.now c.write_line.result (λ files told. ap (λ (l : List ℕ). lines_below index (asked files) all ++ l ∷ []) (sym c.rerank_done.ensures)) (λ files told. sym (append-nil _))
    (adds_after asking.out.now c.write_line.result (λ files files1 stay. refl) (λ files files1 stay. refl) (λ files none. cc) c.in-Ok-answer_all.ensures.adds (adds_lines asking.out.now c.write_line.result c.write_line.ensures.puts)))

pub returns-in-Ok-answer_all-clause-works : goal.returns-in-Ok-answer_all-clause-works
returns-in-Ok-answer_all-clause-works g c = λ files told.
    let asking = c.args.self.now.searcher.asking in
    let index = indexed c.args.self.now.searcher.engine in
    let ranges = g.P.IdSelector.ranges c.args.selector.now in
    let on = told_on asking.out.now _ _ files (changes_write asking.out.now _ _ c.in-Ok.ensures.begins.only) told in
    on_ok c.write_line.result (subst (λ (q : List Counts). Works q c.args.meters.now c.answer_all.new.meters)
    (asked_stays asking ranges (λ (q : Questions). counts_below index q asking.queries.checked.rows) files on.0 on.2) (c.in-Ok-answer_all.ensures.works on.0 on.1))
