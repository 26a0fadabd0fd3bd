-- Codes in a stretch of blocks.
use Rattle.code_blocks.proofs.Words.{all_at, all_same, all_take, all_drop, ◌≡◌, ◌≢◌, ℕ, ◌+◌, ◌*◌, ◌/◌, ◌%◌, ◌-◌, ◌<◌, ◌≤◌, List, [], ◌++◌, length, get_or, set, take, drop, replicate, sym, ap, ◌∙◌, subst, arith, inl, inr, mul_comm, length-append, slice_index, slice_range, sum, mul-add-lt, mul-le, pow_pos, cases_lt, eqb_tells, fill_by_all, get_or-set_same, get_or-set_other, get_or-set_at, length-set, get_or-replicate, length-replicate, get_or_append_left, get_or-append_right, get_or-take, get_or-drop, length-take, length-drop, length-map, get_or-between, length-between, length-map-range_with_len, get_or-map-range_with_len, IsWord, AreCodeWords, code_at, codes_of, code_in, IsStretch, IsBlock, PutsIn, AreLanes, AreCodes, Coded}
use Rattle.code_blocks.specs.Codes.{zero_codes, codes_in}
use Rattle.code_blocks.proofs.Lanes.{length-codes_of, codes_of_is, get_or-code_at}

pub length-codes_in : (g blocks : ℕ) (lanes : List (List ℕ)) → length (codes_in g blocks lanes) ≡ 32 * blocks
unfolding codes_in
length-codes_in g blocks lanes = length-map-range_with_len (code_in g lanes) 0 (32 * blocks)

get_or-codes_in : (g blocks : ℕ) (lanes : List (List ℕ)) (i : ℕ) → i < 32 * blocks → get_or (codes_in g blocks lanes) i [] ≡ code_in g lanes i
unfolding codes_in
get_or-codes_in g blocks lanes i h = get_or-map-range_with_len (code_in g lanes) 0 (32 * blocks) i i [] h (omega arith)

-- the codes by each code
codes_in_is : (g blocks : ℕ) (lanes codes : List (List ℕ)) → length codes ≡ 32 * blocks → ((i : ℕ) → i < 32 * blocks → get_or codes i [] ≡ code_in g lanes i) → codes_in g blocks lanes ≡ codes
unfolding codes_in
codes_in_is g blocks lanes codes size same = sym (fill_by_all (code_in g lanes) codes (32 * blocks) [] size same)

-- word w of a code, and a code by its words
abbrev word : ℕ → List (List ℕ) → ℕ → ℕ → ℕ
word g lanes i w = slice_index (get_or lanes (i / 32 * g + w) []) (i % 32)

length-code_in : (g : ℕ) (lanes : List (List ℕ)) (i : ℕ) → length (code_in g lanes i) ≡ g
length-code_in g lanes i = length-map-range_with_len (word g lanes i) 0 g

word_in : (g : ℕ) (lanes : List (List ℕ)) (i w : ℕ) → w < g → get_or (code_in g lanes i) w 0 ≡ word g lanes i w
word_in g lanes i w h = get_or-map-range_with_len (word g lanes i) 0 g w w 0 h (omega arith)

code_in_is : (g : ℕ) (lanes : List (List ℕ)) (i : ℕ) (code : List ℕ) → length code ≡ g → ((w : ℕ) → w < g → get_or code w 0 ≡ word g lanes i w) → code_in g lanes i ≡ code
code_in_is g lanes i code size same = sym (fill_by_all (word g lanes i) code g 0 size same)

code_in-same : (g : ℕ) (lanes others : List (List ℕ)) (i : ℕ) → ((w : ℕ) → w < g → word g lanes i w ≡ word g others i w) → code_in g lanes i ≡ code_in g others i
code_in-same g lanes others i same = code_in_is g lanes i (code_in g others i) (length-code_in g others i) (λ w h. word_in g others i w h ∙ sym (same w h))

-- a lane of a block comes before those of the blocks behind it
lane_below : (g blocks b w : ℕ) → b < blocks → w < g → b * g + w < blocks * g
lane_below g blocks b w h small = omega (arith, mul-add-lt b g w blocks h small, mul_comm blocks g)

module _ (g blocks at : ℕ) (old new : List (List ℕ)) (code : List ℕ) (is : IsStretch g blocks old) (here : at < 32 * blocks) (size : length code ≡ g)
    (puts : PutsIn old new (at / 32 * g) (at % 32) code) where
  code_put : code_in g new at ≡ code
  code_put = code_in_is g new at code size (λ w h.
      let lane : at / 32 * g + w < length old = omega (arith, lane_below g blocks (at / 32) w (omega arith) h, is.size) in
      let wide : length (get_or old (at / 32 * g + w) []) ≡ 32 = is.wide (at / 32 * g + w) lane in
      rw (puts.here w (omega arith)) (sym (get_or-set_same (get_or old (at / 32 * g + w) []) (at % 32) (slice_index code w) 0 (omega arith))))

  other_code : (k : ℕ) → k ≢ at → code_in g new k ≡ code_in g old k
  other_code k differ = code_in-same g new old k (λ w h. elim (cases_lt (k / 32) (at / 32)) [
    | inl less ↦ rw (puts.before (k / 32 * g + w) (lane_below g (at / 32) (k / 32) w less h))
    | inr more ↦ elim (eqb_tells (k / 32) (at / 32)) [
      | inl one ↦
          let same : k / 32 ≡ at / 32 = one.1 in
          rw (same, puts.here w (omega arith), get_or-set_other (get_or old (at / 32 * g + w) []) (at % 32) (k % 32) (slice_index code w) 0 (λ (e : k % 32 ≡ at % 32). differ (omega arith)))
      | inr off ↦
          let past : at / 32 < k / 32 = (let n : k / 32 ≢ at / 32 = off.1 in omega arith) in
          rw (puts.behind (k / 32 * g + w) (omega (arith, lane_below g (k / 32) (at / 32) (g - 1) past (omega arith))))
    ]
  ])

  codes_in-put : codes_in g blocks new ≡ set (codes_in g blocks old) at code
  codes_in-put = codes_in_is g blocks new (set (codes_in g blocks old) at code) (length-set (codes_in g blocks old) at code ∙ length-codes_in g blocks old) (λ k h.
      elim (eqb_tells k at) [
        | inl one ↦ get_or-set_at (codes_in g blocks old) at k code [] one.1 (omega (arith, length-codes_in g blocks old)) ∙ sym (ap (code_in g new) one.1 ∙ code_put)
        | inr off ↦ get_or-set_other (codes_in g blocks old) at k code [] off.1 ∙ get_or-codes_in g blocks old k h ∙ sym (other_code k off.1)
      ])

  IsStretch-put : IsStretch g blocks new
  IsStretch-put = record {
    g_small = is.g_small;
    size = puts.count ∙ is.size;
    wide = λ v h. elim (cases_lt v (at / 32 * g)) [
      | inl less ↦ rw (puts.before v less) (is.wide v (omega (arith, h, puts.count)))
      | inr more ↦ elim (cases_lt v (at / 32 * g + g)) [
        | inl mid ↦
            let place : v ≡ at / 32 * g + (v - at / 32 * g) = omega arith in
            rw (place, puts.here (v - at / 32 * g) (omega arith), length-set) (is.wide (at / 32 * g + (v - at / 32 * g)) (omega (arith, h, puts.count)))
        | inr past ↦ rw (puts.behind v (omega arith)) (is.wide v (omega (arith, h, puts.count)))
      ]
    ];
  }

module _ (g blocks : ℕ) (lanes : List (List ℕ)) (is : IsStretch g blocks lanes) where
  -- a block more
  same_code : (k : ℕ) → k < 32 * blocks → code_in g (lanes ++ replicate g (replicate 32 0)) k ≡ code_in g lanes k
  same_code k h = code_in-same g (lanes ++ replicate g (replicate 32 0)) lanes k (λ w small.
      rw (get_or_append_left lanes (replicate g (replicate 32 0)) [] (k / 32 * g + w) (omega (arith, lane_below g blocks (k / 32) w (omega arith) small, is.size))))

  zero_code : (k : ℕ) → 32 * blocks ≤ k → k < 32 * (blocks + 1) → code_in g (lanes ++ replicate g (replicate 32 0)) k ≡ replicate g 0
  zero_code k h below = code_in_is g (lanes ++ replicate g (replicate 32 0)) k (replicate g 0) (length-replicate g 0) (λ w small.
      let block : k / 32 ≡ blocks = omega arith in
      rw (
        get_or-replicate {A = ℕ} g w 0 0 small,
        block,
        get_or-append_right lanes (replicate g (replicate 32 0)) (blocks * g) (blocks * g + w) [] is.size (omega arith),
        get_or-replicate g (blocks * g + w - blocks * g) (replicate {A = ℕ} 32 0) [] (omega arith),
        get_or-replicate {A = ℕ} 32 (k % 32) 0 0 (omega arith),
      ))

  codes_in-grown : codes_in g (blocks + 1) (lanes ++ replicate g (replicate 32 0)) ≡ codes_in g blocks lanes ++ zero_codes g
  unfolding zero_codes
  codes_in-grown =
      let size = length-codes_in g blocks lanes in
      codes_in_is g (blocks + 1) (lanes ++ replicate g (replicate 32 0)) (codes_in g blocks lanes ++ replicate 32 (replicate g 0))
      (omega (arith, size, length-append (codes_in g blocks lanes) (replicate 32 (replicate g 0)), length-replicate 32 (replicate {A = ℕ} g 0))) (λ k h.
      elim (cases_lt k (32 * blocks)) [
        | inl old ↦ get_or_append_left (codes_in g blocks lanes) (replicate 32 (replicate g 0)) [] k (omega (arith, old, size)) ∙ get_or-codes_in g blocks lanes k old ∙ sym (same_code k old)
        | inr new ↦
            get_or-append_right (codes_in g blocks lanes) (replicate 32 (replicate g 0)) (32 * blocks) k [] size new
            ∙ get_or-replicate 32 (k - 32 * blocks) (replicate {A = ℕ} g 0) [] (omega arith)
            ∙ sym (zero_code k new h)
      ])

  -- fewer blocks
  module _ (n : ℕ) (few : n ≤ blocks) where
    pub cut_room : n * g ≤ length lanes
    cut_room = omega (arith, mul-le n g blocks g few (omega arith), is.size)

    pub codes_in-cut : codes_in g n (take (n * g) lanes) ≡ take (32 * n) (codes_in g blocks lanes)
    codes_in-cut = codes_in_is g n (take (n * g) lanes) (take (32 * n) (codes_in g blocks lanes)) (omega (arith, length-take (32 * n) (codes_in g blocks lanes), length-codes_in g blocks lanes, few)) (λ k h.
        get_or-take (32 * n) (codes_in g blocks lanes) k [] h
        ∙ get_or-codes_in g blocks lanes k (omega arith)
        ∙ code_in-same g lanes (take (n * g) lanes) k (λ w small. rw (get_or-take (n * g) lanes (k / 32 * g + w) [] (lane_below g n (k / 32) w (omega arith) small))))

    pub IsStretch-cut : IsStretch g n (take (n * g) lanes)
    IsStretch-cut = record {
      g_small = is.g_small;
      size = omega (arith, length-take (n * g) lanes, cut_room);
      wide = λ v h.
          let there : v < n * g = omega (arith, h, length-take (n * g) lanes, cut_room) in
          rw (get_or-take (n * g) lanes v [] there) (is.wide v (omega (arith, there, cut_room)));
    }

  -- one block
  module _ (n : ℕ) (there : 32 * n < 32 * blocks) where
    room : n * g + g ≤ length lanes
    room = omega (arith, lane_below g blocks n (g - 1) (omega arith) (omega arith), is.size, is.g_small.0)

    length_block : length (slice_range lanes (n * g) (n * g + g)) ≡ g
    length_block = length-between lanes (n * g) (n * g + g) room ∙ omega arith

    slot_code : (s : ℕ) → s < 32 → code_in g lanes (32 * n + s) ≡ code_at (slice_range lanes (n * g) (n * g + g)) s
    slot_code s h =
        let size = length_block in
        code_in_is g lanes (32 * n + s) (code_at (slice_range lanes (n * g) (n * g + g)) s) (length-map (slice_range lanes (n * g) (n * g + g)) (λ lane. slice_index lane s) ∙ size) (λ w small.
        let block : (32 * n + s) / 32 ≡ n = omega arith in
        let slot : (32 * n + s) % 32 ≡ s = omega arith in
        get_or-code_at (slice_range lanes (n * g) (n * g + g)) s w (omega (arith, size, small)) ∙ rw (block, slot, get_or-between lanes (n * g) (n * g + g) w [] (omega arith)))

    codes_of-block : codes_of (slice_range lanes (n * g) (n * g + g)) ≡ take 32 (drop (32 * n) (codes_in g blocks lanes))
    codes_of-block =
        codes_of_is (slice_range lanes (n * g) (n * g + g)) (take 32 (drop (32 * n) (codes_in g blocks lanes)))
        (omega (arith, length-take 32 (drop (32 * n) (codes_in g blocks lanes)), length-drop (32 * n) (codes_in g blocks lanes), length-codes_in g blocks lanes, there)) (λ s h.
        get_or-take 32 (drop (32 * n) (codes_in g blocks lanes)) s [] h ∙ get_or-drop (32 * n) (codes_in g blocks lanes) s [] ∙ get_or-codes_in g blocks lanes (32 * n + s) (omega arith) ∙ slot_code s h)

    -- the lanes of a block hold words where the codes do
    lanes_of-block : (widths : List ℕ) → AreCodes widths g (codes_in g blocks lanes) → AreLanes widths (slice_range lanes (n * g) (n * g + g))
    lanes_of-block widths all =
        let size = length_block in
        record {
          sizes = λ w h. rw (get_or-between lanes (n * g) (n * g + g) w [] (omega (arith, size, h))) (is.wide (n * g + w) (omega (arith, size, h, room)));
          words = λ w s h small.
              let code : AreCodeWords widths g (code_in g lanes (32 * n + s)) =
              rw (get_or-codes_in g blocks lanes (32 * n + s) (omega arith)) at (all_at (AreCodeWords widths g) (codes_in g blocks lanes) (32 * n + s) [] all (omega (arith, length-codes_in g blocks lanes))) in
              let read : get_or (code_in g lanes (32 * n + s)) w 0 ≡ slice_index (get_or (slice_range lanes (n * g) (n * g + g)) w []) s =
              ap (λ (c : List ℕ). get_or c w 0) (slot_code s small) ∙ get_or-code_at (slice_range lanes (n * g) (n * g + g)) s w h in
              subst (IsWord widths) read (all_at (IsWord widths) (code_in g lanes (32 * n + s)) w 0 code.each (omega (arith, size, h, length-code_in g lanes (32 * n + s))));
        }

pub zero_codes_good : (widths : List ℕ) (g : ℕ) → AreCodes widths g (zero_codes g)
unfolding zero_codes
zero_codes_good widths g = all_same (AreCodeWords widths g) 32 (replicate g 0) (record { count = length-replicate g 0; each = all_same (IsWord widths) g 0 (pow_pos (sum widths)) })

pub length_zero_codes : (g : ℕ) → length (zero_codes g) ≡ 32
unfolding zero_codes
length_zero_codes g = length-replicate 32 (replicate {A = ℕ} g 0)

-- ---- as the stretch is shown

abbrev pub shown_as : ℕ → ℕ → List (List ℕ) → Coded
shown_as g blocks lanes = record { g = g; codes = codes_in g blocks lanes }

module _ {g blocks : ℕ} {lanes : List (List ℕ)} {v : Coded} (is : IsStretch g blocks lanes) (shown : shown_as g blocks lanes ≡ v) where
  pub shown_size : length v.codes ≡ 32 * blocks
  shown_size = subst (λ (v : Coded). length v.codes ≡ 32 * blocks) shown (length-codes_in g blocks lanes)

  -- the lanes of a block, and its codes
  pub block_room : (n : ℕ) → 32 * n < length v.codes → n * g + g ≤ length lanes
  block_room n h = room g blocks lanes is n (omega (arith, h, shown_size))

  pub one_block : (n : ℕ) → 32 * n < length v.codes → codes_of (slice_range lanes (n * g) (n * g + g)) ≡ take 32 (drop (32 * n) v.codes)
  one_block n h = codes_of-block g blocks lanes is n (omega (arith, h, shown_size)) ∙ ap (λ (v : Coded). take 32 (drop (32 * n) v.codes)) shown

  pub AreLanes-block : (n : ℕ) → 32 * n < length v.codes → (widths : List ℕ) → AreCodes widths v.g v.codes → AreLanes widths (slice_range lanes (n * g) (n * g + g))
  AreLanes-block n h widths all = lanes_of-block g blocks lanes is n (omega (arith, h, shown_size)) widths (subst (λ (v : Coded). AreCodes widths v.g v.codes) (sym shown) all)

  pub IsBlock-block : (n : ℕ) → 32 * n < length v.codes → (widths : List ℕ) → AreCodes widths v.g v.codes → IsBlock widths v.g (codes_of (slice_range lanes (n * g) (n * g + g)))
  IsBlock-block n h widths all = record {
    size = length-codes_of (slice_range lanes (n * g) (n * g + g));
    words = rw (one_block n h) (all_take (AreCodeWords widths v.g) 32 (drop (32 * n) v.codes) (all_drop (AreCodeWords widths v.g) (32 * n) v.codes all));
  }

  -- the lanes of a code, and the code
  pub code_room : (at : ℕ) → at < length v.codes → at / 32 * g + g ≤ length lanes
  code_room at h = block_room (at / 32) (omega arith)

  pub code_slot : (at : ℕ) → at < length v.codes → code_at (slice_range lanes (at / 32 * g) (at / 32 * g + g)) (at % 32) ≡ get_or v.codes at []
  code_slot at h =
      let place : 32 * (at / 32) + at % 32 ≡ at = omega arith in
      sym (slot_code g blocks lanes is (at / 32) (omega (arith, h, shown_size)) (at % 32) (omega arith))
      ∙ ap (code_in g lanes) place
      ∙ sym (get_or-codes_in g blocks lanes at (omega (arith, h, shown_size)))
      ∙ ap (λ (v : Coded). get_or v.codes at []) shown

  -- a code that is put
  module _ (at : ℕ) (new : List (List ℕ)) (code : List ℕ) (here : at < length v.codes) (size : length code ≡ v.g) (puts : PutsIn lanes new (at / 32 * g) (at % 32) code) where
    pub put_stretch : IsStretch g blocks new
    put_stretch = IsStretch-put g blocks at lanes new code is (omega (arith, here, shown_size)) (size ∙ ap (λ (v : Coded). v.g) (sym shown)) puts

    pub put_shown : shown_as g blocks new ≡ record v { codes = set v.codes at code }
    put_shown =
        ap (λ (codes : List (List ℕ)). let u : Coded = record { g = g; codes = codes } in u) (codes_in-put g blocks at lanes new code is (omega (arith, here, shown_size)) (size ∙ ap (λ (v : Coded). v.g) (sym shown)) puts)
        ∙ ap (λ (v : Coded). let u : Coded = record { g = v.g; codes = set v.codes at code } in u) shown

  -- a block more
  pub grown : codes_in g (blocks + 1) (lanes ++ replicate g (replicate 32 0)) ≡ v.codes ++ zero_codes v.g
  grown = codes_in-grown g blocks lanes is ∙ ap (λ (v : Coded). v.codes ++ zero_codes v.g) shown
