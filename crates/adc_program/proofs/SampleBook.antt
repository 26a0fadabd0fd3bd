-- The book of a sample: its words are stretches of the stream.
use Rattle.std.proofs.Common.{◌≡◌, ◌∙◌, ℕ, ◌+◌, ◌-◌, ◌*◌, ◌<◌, ◌≤◌, List, [], ◌∷◌, ◌++◌, length, replicate, Result, Ok, inl, refl, sym, ap, subst, lit≤, lit<}
use Rattle.std.specs.Prelude.{sum}
use Rattle.std.specs.Result.{result_unwrap_or}
use Rattle.std.specs.List.{AllByRecursion}
use Rattle.std.specs.Int.{Width, w8}
use Rattle.adc_ports.specs.Reading.{Fault}
use Rattle.book_model.specs.Book.{Book, IsGood, component_limit}
use Rattle.book_model.proofs.AllLemmas.{all_append, all_same}
use Rattle.codebook_core.specs.Spelling.{spelled, component_width, book_bytes}
use Rattle.codebook_core.specs.Starts.{sub_sizes}
use Rattle.codebook_core.specs.Reading.{book_outcome}
use Rattle.codebook_core.proofs.CutWords.{AreGoodNumbers, with_words, with_words_d, numbers_text, cut_spelled, cut_good, bytes_spelled}
use Rattle.codebook_core.proofs.Lengths.{read_again}
use Rattle.play_script.specs.declared.Role.TheVariants as role
use Rattle.play_script.specs.Stream.{Drawn, stream, sample_head, sample_book}
use Rattle.play_script.proofs.Drawing.{length-stream, stream_bytes}
use Rattle.adc_inputs.specs.Inputs.{of_role}
use Rattle.adc_program.specs.Samples.{book_of_sample}

-- the numbers that all samples' books have
unfoldable numbers : Book
numbers = record { version = 1; scale = 0; d = 128; h = 64; k0 = 256; k1 = 256; widths = 6 ∷ 6 ∷ 4 ∷ []; g = 8; lengths = replicate 16 5 ++ replicate 8 6; coarse0 = []; coarse1 = []; subs = [] }

good_numbers : AreGoodNumbers numbers
unfolding numbers
good_numbers = record {
  version = inl (refl, refl);
  d = (lit≤ tt, lit≤ tt);
  h = (lit≤ tt, lit< tt);
  k0 = (lit≤ tt, lit≤ tt);
  k1 = (lit≤ tt, lit≤ tt);
  shape = (2, lit< tt, refl);
  g = (lit≤ tt, lit≤ tt);
  length_count = refl;
  length_each = all_append (λ n. 1 ≤ n) (replicate 16 5) (replicate 8 6) (all_same (λ n. 1 ≤ n) 16 5 (lit≤ tt)) (all_same (λ n. 1 ≤ n) 8 6 (lit≤ tt));
  length_sum = refl;
}

head_is : numbers_text numbers ≡ sample_head
unfolding numbers sample_head
head_is = refl

-- how many components the words have
components : numbers.k0 * numbers.h + (numbers.k1 * (numbers.d - numbers.h) + sum (sub_sizes numbers.widths 0 numbers.lengths)) ≡ 38896
unfolding numbers
components = refl

limit_is : component_limit numbers.version ≡ 256
unfolding numbers
limit_is = refl

width_is : component_width numbers.version ≡ w8
unfolding numbers
width_is = refl

d_is : numbers.d ≡ 128
unfolding numbers
d_is = refl

module _ (sample : Drawn) where
  words : List ℕ
  words = stream 38896 sample.start

  below : AllByRecursion (λ b. b < 256) words
  unfolding words
  below = stream_bytes 38896 sample.start

  long : length words ≡ numbers.k0 * numbers.h + (numbers.k1 * (numbers.d - numbers.h) + sum (sub_sizes numbers.widths 0 numbers.lengths))
  unfolding words
  long = length-stream 38896 sample.start ∙ sym components

  pub drawn_book : Book
  drawn_book = with_words numbers words

  pub book_good : IsGood drawn_book
  unfolding drawn_book
  book_good = cut_good numbers words long good_numbers (subst (λ (n : ℕ). AllByRecursion (λ c. c < n) words) (sym limit_is) below)

  pub book_spelled : book_bytes drawn_book ≡ sample_book sample
  unfolding drawn_book words
  book_spelled =
      cut_spelled numbers words long ∙ ap (λ (w : Width). numbers_text numbers ++ spelled w words) width_is ∙ ap (λ (t : List ℕ). numbers_text numbers ++ t) (bytes_spelled words below) ∙ ap (λ (t : List ℕ). t ++ words) head_is

  pub book_is : book_of_sample sample ≡ Ok drawn_book
  book_is = ap (of_role role.Book) (ap book_outcome (sym book_spelled) ∙ read_again drawn_book book_good)

  -- a valid book of this spelling is that book, so vectors have 128 components
  pub sample_d : (book : Book) → IsGood book → sample_book sample ≡ book_bytes book → book.d ≡ 128
  unfolding drawn_book
  sample_d book good is =
      ap (λ (read : Result Book Fault). (result_unwrap_or read numbers).d) (sym (read_again book good) ∙ ap book_outcome (sym is ∙ sym book_spelled) ∙ read_again drawn_book book_good) ∙ with_words_d numbers words ∙ d_is
