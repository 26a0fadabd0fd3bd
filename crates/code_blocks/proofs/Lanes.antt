-- Lanes and the codes that they hold.
use Rattle.code_blocks.proofs.Words.{◌≡◌, ◌≢◌, ℕ, ◌<◌, List, [], length, get_or, replicate, sym, ap, ◌∙◌, arith, inl, inr, slice_index, slice_set, sum, length-map, get_or-map, get_or-set_same, get_or-set_other, get_or-set_at, length-set, get_or-replicate, ext_get_or, length-replicate, eqb_tells, pow_pos, fill_by_all, length-map-range_with_len, get_or-map-range_with_len, IsWord, AreCodeWords, code_at, word_count, AreLanes, PutsCode, all_at}
use Rattle.code_blocks.specs.Codes.{codes_of, zero_codes}

pub length-codes_of : (lanes : List (List ℕ)) → length (codes_of lanes) ≡ 32
unfolding codes_of
length-codes_of lanes = length-map-range_with_len (code_at lanes) 0 32

pub get_or-codes_of : (lanes : List (List ℕ)) (slot : ℕ) → slot < 32 → get_or (codes_of lanes) slot [] ≡ code_at lanes slot
unfolding codes_of
get_or-codes_of lanes slot h = get_or-map-range_with_len (code_at lanes) 0 32 slot slot [] h (omega arith)

pub word_count-codes_of : (lanes : List (List ℕ)) → word_count (codes_of lanes) ≡ length lanes
word_count-codes_of lanes = ap length (get_or-codes_of lanes 0 (omega arith)) ∙ length-map lanes (λ lane. slice_index lane 0)

-- what a block shows of its lanes
pub ruleset shown_lanes = (word_count-codes_of, get_or-codes_of)

-- the codes by the code of each slot
pub codes_of_is : (lanes codes : List (List ℕ)) → length codes ≡ 32 → ((slot : ℕ) → slot < 32 → get_or codes slot [] ≡ code_at lanes slot) → codes_of lanes ≡ codes
unfolding codes_of
codes_of_is lanes codes size same = sym (fill_by_all (code_at lanes) codes 32 [] size same)

-- word w of the code of a slot, and a code by its words
pub get_or-code_at : (lanes : List (List ℕ)) (slot w : ℕ) → w < length lanes → get_or (code_at lanes slot) w 0 ≡ slice_index (get_or lanes w []) slot
get_or-code_at lanes slot w h = get_or-map (λ lane. slice_index lane slot) lanes w [] 0 h

code_at_is : (lanes : List (List ℕ)) (slot : ℕ) (code : List ℕ) → length code ≡ length lanes
    → ((w : ℕ) → w < length lanes → get_or code w 0 ≡ slice_index (get_or lanes w []) slot) → code_at lanes slot ≡ code
code_at_is lanes slot code size same =
    sym (ext_get_or 0 code (code_at lanes slot) (size ∙ sym (length-map lanes (λ lane. slice_index lane slot)))
    (λ w h. same w (omega (arith, h, size)) ∙ sym (get_or-code_at lanes slot w (omega (arith, h, size)))))

module _ (old new : List (List ℕ)) (slot : ℕ) (code : List ℕ) (small : slot < 32) (puts : PutsCode old new slot code) (size : length code ≡ length old)
    (wide : (w : ℕ) → w < length old → length (get_or old w []) ≡ 32) where
  code_at-put : code_at new slot ≡ code
  code_at-put = code_at_is new slot code (size ∙ sym puts.count) (λ w h.
      let there : w < length old = omega (arith, h, puts.count) in
      rw (puts.each w there) (sym (get_or-set_same (get_or old w []) slot (slice_index code w) 0 (omega (arith, small, wide w there)))))

  code_at-stays : (k : ℕ) → k ≢ slot → code_at new k ≡ code_at old k
  code_at-stays k other = code_at_is new k (code_at old k) (length-map old (λ lane. slice_index lane k) ∙ sym puts.count) (λ w h.
      let there : w < length old = omega (arith, h, puts.count) in
      rw (get_or-code_at old k w there, puts.each w there, get_or-set_other (get_or old w []) slot k (slice_index code w) 0 other))

  pub codes_of-put : codes_of new ≡ slice_set (codes_of old) slot code
  codes_of-put = codes_of_is new (slice_set (codes_of old) slot code) (length-set (codes_of old) slot code ∙ length-codes_of old) (λ k h. elim (eqb_tells k slot) [
    | inl at ↦ get_or-set_at (codes_of old) slot k code [] at.1 (omega (arith, small, length-codes_of old)) ∙ sym (ap (code_at new) at.1 ∙ code_at-put)
    | inr off ↦ get_or-set_other (codes_of old) slot k code [] off.1 ∙ get_or-codes_of old k h ∙ sym (code_at-stays k off.1)
  ])

-- words in each lane stay words
pub AreLanes-put : (widths : List ℕ) (old new : List (List ℕ)) (slot : ℕ) (code : List ℕ) → slot < 32 → PutsCode old new slot code
    → AreCodeWords widths (length old) code → AreLanes widths old → AreLanes widths new
AreLanes-put widths old new slot code small puts words are = record {
  sizes = λ w h.
      let here : w < length old = omega (arith, h, puts.count) in
      rw (puts.each w here, length-set) (are.sizes w here);
  words = λ w k h below.
      let here : w < length old = omega (arith, h, puts.count) in
      rw (puts.each w here) (elim (eqb_tells k slot) [
        | inl at ↦ rw (get_or-set_at (get_or old w []) slot k (slice_index code w) 0 at.1 (omega (arith, small, are.sizes w here))) (all_at (IsWord widths) code w 0 words.each (omega (arith, here, words.count)))
        | inr off ↦ rw (get_or-set_other (get_or old w []) slot k (slice_index code w) 0 off.1) (are.words w k here below)
      ]);
}

-- ---- lanes of zeros

zero_at : (g w slot : ℕ) → w < g → slot < 32 → slice_index (get_or (replicate g (replicate 32 0)) w []) slot ≡ 0
zero_at g w slot h below = rw (get_or-replicate g w (replicate {A = ℕ} 32 0) [] h) (get_or-replicate 32 slot 0 0 below)

pub AreLanes-zeros : (widths : List ℕ) (g : ℕ) → AreLanes widths (replicate g (replicate 32 0))
AreLanes-zeros widths g = record {
  sizes = λ w h. ap length (get_or-replicate g w (replicate {A = ℕ} 32 0) [] (omega (arith, h, length-replicate g (replicate {A = ℕ} 32 0))));
  words = λ w slot h below. rw (zero_at g w slot (omega (arith, h, length-replicate g (replicate {A = ℕ} 32 0))) below) (pow_pos (sum widths));
}

code_at-zeros : (g slot : ℕ) → slot < 32 → code_at (replicate g (replicate 32 0)) slot ≡ replicate g 0
code_at-zeros g slot below = code_at_is (replicate g (replicate 32 0)) slot (replicate g 0) (length-replicate g 0 ∙ sym (length-replicate g (replicate {A = ℕ} 32 0))) (λ w h.
    let here : w < g = omega (arith, h, length-replicate g (replicate {A = ℕ} 32 0)) in
    get_or-replicate g w 0 0 here ∙ sym (zero_at g w slot here below))

pub codes_of-zeros : (g : ℕ) → codes_of (replicate g (replicate 32 0)) ≡ zero_codes g
unfolding zero_codes
codes_of-zeros g =
    codes_of_is (replicate g (replicate 32 0)) (replicate 32 (replicate g 0)) (length-replicate 32 (replicate {A = ℕ} g 0))
    (λ k h. get_or-replicate 32 k (replicate {A = ℕ} g 0) [] h ∙ sym (code_at-zeros g k h))

pub word_count-zero_codes : (g : ℕ) → word_count (zero_codes g) ≡ g
word_count-zero_codes g = ap word_count (sym (codes_of-zeros g)) ∙ word_count-codes_of (replicate g (replicate 32 0)) ∙ length-replicate g (replicate {A = ℕ} 32 0)

-- what a new block shows
pub ruleset zero_lanes = (codes_of-zeros, word_count-zero_codes)
