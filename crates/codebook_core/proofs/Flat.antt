-- Words that are read one after another are cut from the numbers that stand there.
use Rattle.std.proofs.Common.{◌≡◌, ℕ, zero, suc, ◌+◌, ◌*◌, ◌^◌, ◌%◌, ◌≤◌, List, [], ◌∷◌, ◌++◌, length, get_or, drop, Result, Ok, Err, refl, sym, ap, ◌∙◌, arith, sum}
use Rattle.std.specs.Global.{Vec}
use Rattle.std.specs.Int.{Width}
use Rattle.std.proofs.Math.Nat.{suc-mul, zero-mul}
use Rattle.std.proofs.lemmas.List.{take_at, drop_at, take-append-le, drop-append-le, length-drop}
use Rattle.adc_ports.specs.Reading.{Read, numbers_at}
use Rattle.file_fields.proofs.Steps.{bind_none}
use Rattle.file_fields.proofs.Many.{made, made_pair}
use Rattle.codebook_core.specs.declared.error.BookError.{BookError}
use Rattle.codebook_core.specs.declared.error.BookError.TheVariants as error
use Rattle.codebook_core.specs.Gives.{Gives}
use Rattle.codebook_core.specs.Starts.{sub_sizes}
use Rattle.codebook_core.specs.View.{rows_of, subs_of}
use Rattle.codebook_core.specs.Reading.{words_at, subs_at}
use Rattle.codebook_core.proofs.Rows.{sum_cons}

pub words_flat : (w : Width) (n size : ℕ) (bytes : List ℕ) (at : ℕ) → words_at w n size bytes at ≡ made (rows_of n size) (numbers_at w (n * size) bytes at)
words_flat w zero size bytes at = rw (zero-mul size) refl
words_flat w (suc n) size bytes at =
    let e : size + n * size ≡ suc n * size = omega (arith, suc-mul n size) in
    made_pair w bytes size (n * size) (λ xs. xs) (rows_of n size) (rows_of (suc n) size) (numbers_at w size bytes) (words_at w n size bytes) (λ at. sym (bind_none (numbers_at w size bytes at))) (words_flat w n size bytes)
    (λ xs ys long. rw (take_at xs ys size long, drop_at xs ys size long) refl) at
    ∙ ap (λ (k : ℕ). made (rows_of (suc n) size) (numbers_at w k bytes at)) e

-- rows are cut from the front
rows_front : (n size : ℕ) (xs ys : List ℕ) → n * size ≤ length xs → rows_of n size (xs ++ ys) ≡ rows_of n size xs
rows_front zero size xs ys le = refl
rows_front (suc n) size xs ys le =
    let more : suc n * size ≡ n * size + size = suc-mul n size in
    let here : size ≤ length xs = omega arith in
    rw (take-append-le size xs ys here, drop-append-le size xs ys here, rows_front n size (drop size xs) ys (omega (arith, length-drop size xs))) refl

pub subs_flat : (w : Width) (widths : List ℕ) (j : ℕ) (lengths : List ℕ) (bytes : List ℕ) (at : ℕ) → subs_at w widths j lengths bytes at ≡ made (subs_of widths j lengths) (numbers_at w (sum (sub_sizes widths j lengths)) bytes at)
subs_flat w widths j [] bytes at = refl
subs_flat w widths j (n ∷ ns) bytes at =
    let count = 2 ^ get_or widths (j % length widths) 0 in
    let sizes = sub_sizes widths (j + 1) ns in
    made_pair w bytes (count * n) (sum sizes) (rows_of count n) (subs_of widths (j + 1) ns) (subs_of widths j (n ∷ ns)) (words_at w count n bytes) (subs_at w widths (j + 1) ns bytes) (words_flat w count n bytes) (subs_flat w widths (j + 1) ns bytes)
    (λ xs ys long. rw (rows_front count n xs ys (omega (arith, long)), drop_at xs ys (count * n) long) refl) at
    ∙ ap (λ (k : ℕ). made (subs_of widths j (n ∷ ns)) (numbers_at w k bytes at)) (sym (sum_cons (count * n) sizes))

-- what a reader of numbers gives, as what is made of them
pub made_given : {B : Type 0} (f : List ℕ → B) (r : Result (Vec ℕ × ℕ) BookError) (numbers : Read (List ℕ)) (values : Read B) → values ≡ made f numbers
    → Gives (λ x. (x.0.items, x.1)) r numbers → Gives (λ x. (f x.0.items, x.1)) r values
made_given f (Ok x) numbers values e h = e ∙ ap (made f) h
made_given f (Err error.Memory) numbers values e h = tt
made_given f (Err (error.Malformed p)) numbers values e h = e ∙ ap (made f) h
made_given f (Err (error.Limit what value)) numbers values e h = e ∙ ap (made f) h
