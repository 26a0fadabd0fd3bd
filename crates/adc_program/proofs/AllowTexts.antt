-- What searches among listed ids are to write, told from what was read.
use Rattle.std.proofs.Common.{◌≡◌, ◌∙◌, ℕ, List, length, Ok, Err, refl, sym, ap}
use Rattle.adc_ports.specs.Files.{Files}
use Rattle.vec_files.specs.declared.Checked.{Checked}
use Rattle.index_file.specs.Reading.{Indexed}
use Rattle.query_engine.specs.State.{State}
use Rattle.play_script.specs.Texts.{allowed_done}
use Rattle.play_script.specs.declared.Role.TheVariants as role
use Rattle.adc_inputs.specs.declared.stop.InputError.{InputError}
use Rattle.adc_inputs.specs.Names.{Name}
use Rattle.adc_inputs.specs.Words.{Allowed}
use Rattle.adc_inputs.specs.Inputs.{rows_input, rows_held, IsCheckOf}
use Rattle.adc_inputs.specs.Indexes.{index_input}
use Rattle.adc_inputs.specs.Allows.{allow_input}
use Rattle.adc_program.specs.Verdict.{output_of}
use Rattle.adc_program.specs.declared.searcher.Asking.{Asking}
use Rattle.adc_program.specs.Searches.{Questions, asked_output}
use Rattle.adc_program.specs.Allows.{found_among, allowed_by, allowed_output}
use Rattle.adc_program.specs.Asked.{indexed, questions_of}

pub allowed_is : (files : Files) (index queries : Name) (k wanted : ℕ) (allow name : Name) → output_of files (Allowed index queries k wanted allow name) ≡ allowed_output files index queries k wanted allow name
unfolding output_of
allowed_is files index queries k wanted allow name = refl

module _ (files : Files) (queries : Name) (k wanted : ℕ) (allow name : Name) where
  pub index_at : (index : Name) (error : InputError) → index_input files index ≡ Err error → allowed_output files index queries k wanted allow name ≡ Err error
  unfolding allowed_output
  index_at index error e = rw e refl

  pub allowed_by_index : (index : Name) (i : Indexed) → index_input files index ≡ Ok i → allowed_output files index queries k wanted allow name ≡ allowed_by files queries k wanted allow name i
  unfolding allowed_output
  allowed_by_index index i e = rw e refl

  pub queries_at : (i : Indexed) (error : InputError) → rows_input files role.Queries queries i.book.d ≡ Err error → allowed_by files queries k wanted allow name i ≡ Err error
  unfolding allowed_by
  queries_at i error e = rw e refl

  pub list_at : (i : Indexed) (rows : List (List ℕ)) (error : InputError) → rows_input files role.Queries queries i.book.d ≡ Ok rows → allow_input files allow ≡ Err error
      → allowed_by files queries k wanted allow name i ≡ Err error
  unfolding allowed_by
  list_at i rows error e e2 = rw e (rw e2 refl)

  allowed_of : (i : Indexed) (rows : List (List ℕ)) (ranges : List (ℕ × ℕ)) → rows_input files role.Queries queries i.book.d ≡ Ok rows → allow_input files allow ≡ Ok ranges
      → allowed_by files queries k wanted allow name i ≡ Ok (found_among name i rows k wanted ranges)
  unfolding allowed_by
  allowed_of i rows ranges e e2 = rw e (rw e2 refl)

among_is : (name name1 : Name) (index index1 : Indexed) (held : List (List ℕ)) (k wanted : ℕ) (ranges : List (ℕ × ℕ)) (questions : Questions) (n : ℕ) (last : List ℕ) → name1 ≡ name → index1 ≡ index
    → questions ≡ record { queries = held; k = k; wanted = wanted; ranges = ranges } → n ≡ length held → last ≡ allowed_done n → found_among name index held k wanted ranges ≡ asked_output name1 index1 questions n last
unfolding found_among
among_is name name1 index index1 held k wanted ranges questions n last e1 e2 e3 e4 e5 = sym (rw (e1, e2, e3, e5, e4) refl)

-- what such a search is to write, by what was checked, what was read and what is asked
pub allowed_out : (files : Files) (queries : Name) (k wanted : ℕ) (allow name : Name) (index : Indexed) (checked : Checked) (asking : Asking) (engine : State) (ranges ranges1 : List (ℕ × ℕ)) (last : List ℕ)
    → IsCheckOf files role.Queries queries index.book.d checked → checked.d ≡ index.book.d → allow_input files allow ≡ Ok ranges → asking.queries.role ≡ role.Queries → asking.queries.name.now ≡ queries
    → asking.queries.checked ≡ checked → asking.k ≡ k → asking.wanted ≡ wanted → asking.out.now ≡ name → indexed engine ≡ index → ranges1 ≡ ranges → last ≡ allowed_done checked.rows
    → allowed_by files queries k wanted allow name index ≡ Ok (asked_output asking.out.now (indexed engine) (questions_of files asking ranges1) asking.queries.checked.rows last)
allowed_out files queries k wanted allow name index checked asking engine ranges ranges1 last check size list e1 e2 e3 e4 e5 e6 e7 e8 e9 =
    let held : List (List ℕ) = rows_held files role.Queries queries index.book.d in
    let d : asking.queries.checked.d ≡ index.book.d = ap (λ (c : Checked). c.d) e3 ∙ size in
    let rows : asking.queries.checked.rows ≡ checked.rows = ap (λ (c : Checked). c.rows) e3 in
    let asked : questions_of files asking ranges1 ≡ record { queries = held; k = k; wanted = wanted; ranges = ranges } = rw (e1, e2, d, e4, e5, e8) refl in
    allowed_of files queries k wanted allow name index held ranges check.input list
    ∙ ap Ok (among_is name asking.out.now index (indexed engine) held k wanted ranges (questions_of files asking ranges1) asking.queries.checked.rows last e6 e7 asked (rows ∙ check.rows) (e9 ∙ ap allowed_done (sym rows)))
