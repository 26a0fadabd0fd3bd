-- Rows of the numbers of the nearest base rows, place by place, and what an exact search is to write.
use Rattle.std.proofs.Common.{◌≡◌, ◌∙◌, ℕ, zero, suc, ◌+◌, ◌<◌, ◌≤◌, ◌^◌, List, [], ◌∷◌, ◌++◌, length, map, take, get_or, Bool, true, false, Ok, Err, refl, sym, ap, ap₂, subst, arith}
use Rattle.std.specs.Prelude.{ℤ, pos, negsuc, Some, None, Result, nat_lt, if◌then◌else◌}
use Rattle.std.specs.Int.{w32, cast_signed}
use Rattle.std.specs.List.{AllByRecursion, enumerate_from}
use Rattle.std.proofs.lemmas.Bool.{lt-ltb}
use Rattle.std.proofs.lemmas.Int.{to_z_pos}
use Rattle.std.proofs.lemmas.List.{length-map, length-take, take_more, take_all, get_or-map, get_or_past}
use Rattle.adc_ports.specs.Files.{Files}
use Rattle.vec_files.specs.Found.{found}
use Rattle.vec_files.specs.Standing.{RefusesAt}
use Rattle.vec_files.specs.declared.Checked.{Checked}
use Rattle.vec_files.specs.declared.VecError.{VecError}
use Rattle.vec_files.specs.declared.VecError.TheVariants as rows
use Rattle.book_model.specs.Sums.{numbers_below}
use Rattle.book_model.specs.Order.{Pair, sorted, pair_cmp}
use Rattle.book_model.proofs.AllLemmas.{all_take, all_map}
use Rattle.book_model.proofs.Sorting.{all-sorted}
use Rattle.flat_truth.specs.Flat.{flat_pairs, exact, padded}
use Rattle.flat_truth.specs.Pairs.{key_of}
use Rattle.flat_truth.specs.declared.TruePair.{TruePair}
use Rattle.play_script.specs.declared.Role.{Role}
use Rattle.play_script.specs.declared.Role.TheVariants as role
use Rattle.play_script.specs.Texts.{exact_done}
use Rattle.adc_inputs.specs.declared.rows.Rows.{Rows}
use Rattle.adc_inputs.specs.declared.stop.InputError.{InputError}
use Rattle.adc_inputs.specs.Names.{Name}
use Rattle.adc_inputs.specs.Inputs.{◌>>=◌}
use Rattle.adc_inputs.specs.Words.{Exact}
use Rattle.adc_inputs.specs.Vectors.{vectors_input, length_of_rows}
use Rattle.adc_inputs.specs.Causes.{stop_of_rows}
use Rattle.adc_inputs.specs.Steps.{IsDue, nothing_wrong}
use Rattle.adc_program.specs.Asking.{rows_in}
use Rattle.adc_program.specs.Exacts.{nearest_below, with_nearest, exact_output}
use Rattle.adc_program.specs.Nearest.{row_numbers, number_of}
use Rattle.adc_program.specs.Outputs.{Output}
use Rattle.adc_program.specs.Steps.{counts_wanted}
use Rattle.adc_program.specs.Verdict.{output_of}
use Rattle.adc_program.proofs.Growing.{Ignores, held_stays}
use Rattle.adc_program.proofs.IdRows.{length-padded, get_or-padded}
use Rattle.adc_program.proofs.Numbers.{mapped_more}

-- the number of a place among the pairs, and behind them
pub number_within : (pairs : List TruePair) (i : ℕ) (d : TruePair) → i < length pairs → number_of (row_numbers pairs) i ≡ cast_signed w32 (get_or pairs i d).row
number_within pairs i d lt =
    get_or-map (cast_signed w32) (row_numbers pairs) i 0 (negsuc 0) (omega (arith, length-map (map key_of pairs) (λ (pair : Pair). pair.1), length-map pairs key_of))
    ∙ ap (cast_signed w32) (get_or-map (λ (pair : Pair). pair.1) (map key_of pairs) i (key_of d) 0 (omega (arith, length-map pairs key_of)) ∙ ap (λ (pair : Pair). pair.1) (get_or-map key_of pairs i d (key_of d) lt))

pub number_past : (pairs : List TruePair) (i : ℕ) → length pairs ≤ i → number_of (row_numbers pairs) i ≡ negsuc 0
number_past pairs i le =
    get_or_past (map (cast_signed w32) (row_numbers pairs)) i (negsuc 0) (omega (arith, length-map (row_numbers pairs) (cast_signed w32), length-map (map key_of pairs) (λ (pair : Pair). pair.1), length-map pairs key_of))

-- small numbers are themselves
signed_same : (numbers : List ℕ) → AllByRecursion (λ n. n < 2 ^ 31) numbers → map (cast_signed w32) numbers ≡ map pos numbers
signed_same [] small = refl
signed_same (n ∷ numbers) small = ap₂ (λ (x : ℤ) (xs : List ℤ). x ∷ xs) (to_z_pos w32 n small.0) (signed_same numbers small.1)

-- place by place they are the row that is padded
module _ (k : ℕ) (numbers : List ℕ) (few : length numbers ≤ k) (small : AllByRecursion (λ n. n < 2 ^ 31) numbers) where
  places_are : (n : ℕ) → n ≤ k → take n (padded k numbers) ≡ map (number_of numbers) (numbers_below n)
  places_are zero le = refl
  places_are (suc n) le =
      let here : get_or (padded k numbers) n (negsuc 0) ≡ number_of numbers n = get_or-padded k numbers n few (omega arith) ∙ ap (λ (l : List ℤ). get_or l n (negsuc 0)) (sym (signed_same numbers small)) in
      let more : take (n + 1) (padded k numbers) ≡ map (number_of numbers) (numbers_below (n + 1)) =
      take_more (padded k numbers) n (negsuc 0) (omega (arith, length-padded k numbers few)) ∙ ap₂ (λ (l : List ℤ) (x : ℤ). l ++ x ∷ []) (places_are n (omega arith)) here ∙ sym (mapped_more (number_of numbers) n) in
      let e : n + 1 ≡ suc n = omega arith in
      subst (λ (m : ℕ). take m (padded k numbers) ≡ map (number_of numbers) (numbers_below m)) e more

  padded_is : map (number_of numbers) (numbers_below k) ≡ padded k numbers
  padded_is = sym (places_are k (omega arith)) ∙ take_all k (padded k numbers) (omega (arith, length-padded k numbers few))

-- the numbers of the nearest rows are numbers of rows, and at most k
flat_small : (query : List ℕ) (most i : ℕ) (base : List (List ℕ)) → i + length base ≤ most → AllByRecursion (λ (pair : Pair). pair.1 < most) (flat_pairs query (enumerate_from i base))
flat_small query most i [] le = tt
flat_small query most i (row ∷ base) le = (omega arith, flat_small query most (i + 1) base (omega arith))

exact_small : (base : List (List ℕ)) (query : List ℕ) (k most : ℕ) → length base ≤ most → AllByRecursion (λ (pair : Pair). pair.1 < most) (exact base query k)
unfolding exact
exact_small base query k most le =
    let Small : Pair → Type 0 = λ pair. pair.1 < most in
    all_take Small k (sorted pair_cmp (flat_pairs query (enumerate_from 0 base))) (all-sorted Small pair_cmp (flat_pairs query (enumerate_from 0 base)) (flat_small query most 0 base (omega (arith, le))))

exact_few : (base : List (List ℕ)) (query : List ℕ) (k : ℕ) → length (exact base query k) ≤ k
unfolding exact
exact_few base query k = omega (arith, length-take k (sorted pair_cmp (flat_pairs query (enumerate_from 0 base))))

-- the numbers of the rows of an answer, place by place
pub numbers_are : (k : ℕ) (pairs : List TruePair) (answer : List Pair) → map key_of pairs ≡ answer → length answer ≤ k → AllByRecursion (λ (pair : Pair). pair.1 < 2 ^ 31) answer
    → map (number_of (row_numbers pairs)) (numbers_below k) ≡ padded k (map (λ (pair : Pair). pair.1) answer)
numbers_are k pairs answer e few small =
    let numbers : List ℕ = map (λ (pair : Pair). pair.1) answer in
    ap (λ (l : List Pair). map (number_of (map (λ (pair : Pair). pair.1) l)) (numbers_below k)) e
    ∙ padded_is k numbers (omega (arith, length-map answer (λ (pair : Pair). pair.1), few)) (all_map (λ (n : ℕ). n < 2 ^ 31) (λ (pair : Pair). pair.1) answer small)

pub nearest_is : (base : List (List ℕ)) (query : List ℕ) (k : ℕ) (pairs : List TruePair) → map key_of pairs ≡ exact base query k → length base ≤ 4194304
    → map (number_of (row_numbers pairs)) (numbers_below k) ≡ padded k (map (λ (pair : Pair). pair.1) (exact base query k))
nearest_is base query k pairs e le = numbers_are k pairs (exact base query k) e (exact_few base query k) (exact_small base query k (2 ^ 31) (omega (arith, le)))

-- nothing is wrong with the rows of a checked input
pub gives_sound : (files : Files) (role : Role) (error : VecError) → RefusesAt error (λ at. ⊥) → IsDue (stop_of_rows role error) (nothing_wrong files)
gives_sound files role rows.Missing gives = elim gives [ ]
gives_sound files role (rows.Malformed at) gives = elim gives [ ]
gives_sound files role (rows.Limit what value) gives = elim gives [ ]
gives_sound files role rows.ReadFault gives = tt
gives_sound files role rows.Memory gives = tt

-- what is to be written does not depend on the file that is written
pub nearest_stays : {A : Type 0} (base queries : Rows) (out : Name) (f : List (List ℕ) → List (List ℕ) → A) → (base.name.now ≡ out → ⊥) → (queries.name.now ≡ out → ⊥) → Ignores out (λ files. f (rows_in files base) (rows_in files queries))
nearest_stays base queries out f apart apart1 = λ files files1 stay.
    ap₂ f (held_stays files files1 base.role base.name.now out stay apart base.checked.d) (held_stays files files1 queries.role queries.name.now out stay apart1 queries.checked.d)

pub with_nearest_is : (name : Name) (line : List ℕ) (base queries : List (List ℕ)) (k n : ℕ) → with_nearest name line base queries k n ≡ record { lines = line ∷ []; file = Some (record { role = role.Out; name = name; bytes = nearest_below base queries k n }); queries = [] }
unfolding with_nearest
with_nearest_is name line base queries k n = refl

-- the length of row that is wanted of the queries
chosen : (b : Bool) (d : ℕ) → b ≡ true → (if b then Some d else None) ≡ Some d
chosen true d e = refl
chosen false d e = cc

pub wanted_is : (checked : Checked) (held : List (List ℕ)) → checked.rows ≡ length held → found (Some checked.d) held ≡ checked → (if nat_lt 0 checked.rows then Some checked.d else None) ≡ length_of_rows held
wanted_is checked [] count finds = rw count refl
wanted_is checked (row ∷ more) count finds =
    let many : checked.rows ≡ suc (length more) = count in
    chosen (nat_lt 0 checked.rows) checked.d (lt-ltb 0 checked.rows (omega arith)) ∙ ap (λ (c : Checked). Some c.d) (sym finds)

module _ (files : Files) (base queries : Name) (k : ℕ) (name : Name) where
  pub at_base : (error : InputError) → vectors_input files role.Base base None ≡ Err error → exact_output files base queries k name ≡ Err error
  unfolding exact_output
  at_base error e = rw e refl

  pub at_asked : (held : List (List ℕ)) (error : InputError) → vectors_input files role.Base base None ≡ Ok held → vectors_input files role.Queries queries (length_of_rows held) ≡ Err error → exact_output files base queries k name ≡ Err error
  unfolding exact_output
  at_asked held error e e2 = rw e (rw e2 refl)

  pub by_both : (held asked : List (List ℕ)) → vectors_input files role.Base base None ≡ Ok held → vectors_input files role.Queries queries (length_of_rows held) ≡ Ok asked
      → exact_output files base queries k name ≡ Ok (with_nearest name (exact_done (length asked) (length held)) held asked k (length asked))
  unfolding exact_output
  by_both held asked e e2 = rw e (rw e2 refl)

  pub exact_is : output_of files (Exact base queries k name) ≡ exact_output files base queries k name
  unfolding output_of
  exact_is = refl

-- it has no query line
counts_bind : {A : Type 0} (r : Result A InputError) (f : A → Result Output InputError) → ((x : A) → counts_wanted (f x) ≡ []) → counts_wanted (r >>= f) ≡ []
counts_bind (Ok x) f h = h x
counts_bind (Err e) f h = refl

pub exact_counts : (files : Files) (base queries : Name) (k : ℕ) (name : Name) → counts_wanted (output_of files (Exact base queries k name)) ≡ []
unfolding output_of exact_output with_nearest
exact_counts files base queries k name =
    counts_bind (vectors_input files role.Base base None) _ (λ held. counts_bind (vectors_input files role.Queries queries (length_of_rows held)) _ (λ asked. refl))
