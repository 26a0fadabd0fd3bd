-- The index of the live rows, and how it changes with them.
use Rattle.cell_store.proofs.Words.{◌≡◌, ◌≢◌, ℕ, zero, suc, ◌<◌, Bool, true, false, List, [], ◌∷◌, ◌++◌, length, map, sym, ap, ap₂, ◌∙◌, subst, arith, inl, inr, filter, ◌==◌, ◌&&◌, Some, None, Option, if◌then◌else◌, AllByRecursion, cases_Bool, eqb_tells, common_steps, length-append, length-map, get_or-map, get_or_append_left, Place, Kept, never, is_live, is_row_of, row_at, no_row, ended, IsIndex, Replaces, all_push, all_weaken, all_map, filter_yes, filter_no}
use Rattle.std.proofs.Math.Seq.{get_or-append_seam}
use Rattle.std.proofs.lemmas.Bool.{eq-eqb}
use Rattle.cell_store.proofs.Steps.{replaced}

-- the index has a row of this cell, if it is live
abbrev pub Listed : (ℕ → Option Place) → ℕ → Kept → Type 0
Listed places cell k = is_live k ≡ true → places k.row.id ≡ Some (record { cell = cell; born = k.born })

-- a live row of this id and birth is among them
abbrev pub LiveAt : List Kept → ℕ → ℕ → Type 0
LiveAt xs id born = (at : ℕ) × (at < length xs) × ((row_at xs at).born ≡ born) × ((row_at xs at).row.id ≡ id) × (is_live (row_at xs at) ≡ true)

pub some_place : {x y : Place} → Some x ≡ Some y → x ≡ y
some_place e = cc

pub live_same : (xs ys : List Kept) (id born : ℕ) → (is : LiveAt xs id born) → is.0 < length ys → row_at ys is.0 ≡ row_at xs is.0 → LiveAt ys id born
live_same xs ys id born is h same = (is.0, h, ap (λ (l : Kept). l.born) same ∙ is.2, ap (λ (l : Kept). l.row.id) same ∙ is.3, ap is_live same ∙ is.4)

live_last : (xs : List Kept) (k : Kept) → is_live k ≡ true → LiveAt (xs ++ k ∷ []) k.row.id k.born
live_last xs k live =
    let same : row_at (xs ++ k ∷ []) (length xs) ≡ k = get_or-append_seam xs k [] no_row in
    (length xs, omega (arith, length-append xs (k ∷ [])), ap (λ (l : Kept). l.born) same, ap (λ (l : Kept). l.row.id) same, ap is_live same ∙ live)

-- in what a filter leaves that lets live rows through
module _ (p : Kept → Bool) (id born : ℕ) (lets : (k : Kept) → is_live k ≡ true → p k ≡ true) where
  filtered_at : (xs : List Kept) (at : ℕ) → at < length xs → (row_at xs at).born ≡ born → (row_at xs at).row.id ≡ id → is_live (row_at xs at) ≡ true → LiveAt (filter p xs) id born
  filtered_at [] at h b i l = absurd (omega arith)
  filtered_at (x ∷ xs) zero h b i l = subst (λ (l : List Kept). LiveAt l id born) (sym (filter_yes p x xs (lets x l))) (zero, omega arith, b, i, l)
  filtered_at (x ∷ xs) (suc at) h b i l =
      let more : LiveAt (filter p xs) id born = filtered_at xs at (omega arith) b i l in
      elim (cases_Bool (p x)) [ inl held ↦ rw (filter_yes p x xs held) ((suc more.0, omega (arith, more.1), more.2, more.3, more.4)) | inr gone ↦ rw (filter_no p x xs gone) more ]

  pub live_filtered : (xs : List Kept) → LiveAt xs id born → LiveAt (filter p xs) id born
  live_filtered xs is = filtered_at xs is.0 is.1 is.2 is.3 is.4

-- ---- a row that is added

module _ (cell : ℕ) (old new : ℕ → List Kept) (k : Kept) (changes : Replaces cell old new (old cell ++ k ∷ [])) where
  pub live_added : (c i b : ℕ) → LiveAt (old c) i b → LiveAt (new c) i b
  live_added c i b was = replaced (λ c l. LiveAt (old c) i b → LiveAt l i b) cell old new (old cell ++ k ∷ []) changes
      (λ w. live_same (old cell) (old cell ++ k ∷ []) i b w (omega (arith, w.1, length-append (old cell) (k ∷ []))) (get_or_append_left (old cell) (k ∷ []) no_row w.0 w.1)) (λ c off w. w) c was

  module _ (live : is_live k ≡ true) (places places' : ℕ → Option Place) (is : IsIndex old places) (free : places k.row.id ≡ None)
      (put : places' k.row.id ≡ Some (record { cell = cell; born = k.born })) (others : (q : ℕ) → q ≢ k.row.id → places' q ≡ places q) where
    still_listed : (c : ℕ) → AllByRecursion (Listed places' c) (old c)
    still_listed c = all_weaken (Listed places' c) (Listed places c) (old c)
        (λ l listed lives. others l.row.id (λ same. (let e : Some (record { cell = c; born = l.born }) ≡ None = sym (listed lives) ∙ ap places same ∙ free in cc)) ∙ listed lives) (is.listed c)

    pub IsIndex-added : IsIndex new places'
    IsIndex-added = record {
      listed = replaced (λ c. AllByRecursion (Listed places' c)) cell old new (old cell ++ k ∷ []) changes (all_push (Listed places' cell) (old cell) k (still_listed cell) (λ lives. put)) (λ c off. still_listed c);
      live = λ id place here. elim (eqb_tells id k.row.id) [
        | inl at ↦
            let e : place ≡ record { cell = cell; born = k.born } = some_place (sym here ∙ ap places' at.1 ∙ put) in
            let last : LiveAt (new cell) k.row.id k.born = subst (λ (l : List Kept). LiveAt l k.row.id k.born) (sym changes.own) (live_last (old cell) k live) in
            subst (λ (p : Place). LiveAt (new p.cell) id p.born) (sym e) (subst (λ (i : ℕ). LiveAt (new cell) i k.born) (sym at.1) last)
        | inr off ↦ live_added place.cell id place.born (is.live id place (sym (others id off.1) ∙ here))
      ];
    }

-- ---- a row that ends

-- the live row of an id that was born at a stamp ends
abbrev pub is_that : ℕ → ℕ → Kept → Bool
is_that id born k = is_row_of id k && (k.born == born)

abbrev pub end_that : ℕ → ℕ → ℕ → Kept → Kept
end_that s id born k = if is_that id born k then ended s k else k

abbrev pub ended_that : ℕ → ℕ → ℕ → List Kept → List Kept
ended_that s id born kept = map (end_that s id born) kept

module _ (old : ℕ → List Kept) (places places' : ℕ → Option Place) (is : IsIndex old places) (id s : ℕ) (place : Place) (found : places id ≡ Some place) (gone : places' id ≡ None)
    (others : (q : ℕ) → q ≢ id → places' q ≡ places q) (dead : (s == never) ≡ false) where
  listed_then : (c : ℕ) (k : Kept) → Listed places c k → Listed places' c (end_that s id place.born k)
  listed_then c k listed = elim (cases_Bool (is_that id place.born k)) [
    | inl that ↦ subst (λ (b : Bool). Listed places' c (if b then ended s k else k)) (sym that) (λ live. absurd (let e : true ≡ false = sym live ∙ dead in cc))
    | inr other ↦
        subst (λ (b : Bool). Listed places' c (if b then ended s k else k)) (sym other) (λ live.
        others k.row.id (λ same.
        let e : record { cell = c; born = k.born } ≡ place = some_place (sym (listed live) ∙ ap places same ∙ found) in
        let b : k.born ≡ place.born = ap (λ (p : Place). p.born) e in
        let that : is_that id place.born k ≡ true = ap₂ (λ (a b : Bool). a && b) (ap₂ (λ (a b : Bool). a && b) live (eq-eqb k.row.id id same)) (eq-eqb k.born place.born b) in
        absurd (let f : true ≡ false = sym that ∙ other in cc))
        ∙ listed live)
  ]

  other_id : (k : Kept) → k.row.id ≢ id → end_that s id place.born k ≡ k
  other_id k off = (let e : (k.row.id == id) ≡ false = grind (arith, common_steps) in let f : is_that id place.born k ≡ false = grind (arith, common_steps) in ap (λ (b : Bool). if b then ended s k else k) f)

  pub IsIndex-ended : IsIndex (λ c. ended_that s id place.born (old c)) places'
  IsIndex-ended = record {
    listed = λ c. all_map (Listed places' c) (end_that s id place.born) (old c) (all_weaken (λ k. Listed places' c (end_that s id place.born k)) (Listed places c) (old c) (listed_then c) (is.listed c));
    live = λ i p here.
        let off : i ≢ id = λ same. (let e : Some p ≡ None = sym here ∙ ap places' same ∙ gone in cc) in
        let at = is.live i p (sym (others i off) ∙ here) in
        live_same (old p.cell) (ended_that s id place.born (old p.cell)) i p.born at (omega (arith, at.1, length-map (old p.cell) (end_that s id place.born)))
        (get_or-map (end_that s id place.born) (old p.cell) at.0 no_row no_row at.1 ∙ other_id (row_at (old p.cell) at.0) (λ e. off (sym at.3 ∙ e)));
  }
