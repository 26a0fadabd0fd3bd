-- A list is filtered in place: what is kept moves to the front.
use Rattle.cell_store.proofs.Words.{◌≡◌, ℕ, ◌+◌, ◌<◌, ◌≤◌, Bool, true, false, cond, List, [], ◌∷◌, ◌++◌, length, take, drop, get_or, set, refl, sym, ap, ◌∙◌, arith, filter, filter-append, append-nil, take_all, take_more, take_more_set, drop_more, drop_more_same, drop-set-lt, length-set}

-- so many rows at the front are those that pass of the rows before a place, and the rows from that place on are as before
pub record IsCompacted {X : Type 0} (p : X → Bool) (rows all : List X) (to from : ℕ) : Type 0 where
  pub size : length rows ≡ length all
  pub front : take to rows ≡ filter p (take from all)
  pub rest : drop from rows ≡ drop from all

pub not_compacted : {X : Type 0} (p : X → Bool) (all : List X) → IsCompacted p all all 0 0
not_compacted p all = record { size = refl; front = refl; rest = refl }

pub all_compacted : {X : Type 0} {p : X → Bool} {rows all : List X} {to from : ℕ} → IsCompacted p rows all to from → length all ≤ from → take to rows ≡ filter p all
all_compacted {p = p} {all = all} {from = from} c h = c.front ∙ ap (filter p) (take_all from all h)

module _ {X : Type 0} {p : X → Bool} {rows all : List X} {to from : ℕ} (c : IsCompacted p rows all to from) (order : to ≤ from) (d : X) (here : from < length rows) where
  same_row : get_or rows from d ≡ get_or all from d
  same_row = (let e : get_or rows from d ∷ drop (from + 1) rows ≡ get_or all from d ∷ drop (from + 1) all = sym (drop_more rows from d here) ∙ c.rest ∙ drop_more all from d (omega (arith, c.size)) in cc)

  -- one more row of all
  one_more : filter p (take (from + 1) all) ≡ filter p (take from all) ++ cond (p (get_or rows from d)) (get_or rows from d ∷ []) []
  one_more = rw (take_more all from d (omega (arith, c.size)), sym same_row, filter-append)

  pub row_kept : p (get_or rows from d) ≡ true → IsCompacted p (set rows to (get_or rows from d)) all (to + 1) (from + 1)
  row_kept held = record {
    size = rw length-set c.size;
    front = take_more_set rows to (get_or rows from d) (omega arith) ∙ rw (one_more, held, c.front);
    rest = rw (drop-set-lt (from + 1) rows to (get_or rows from d) (omega arith)) (drop_more_same rows all from c.rest);
  }

  pub row_gone : p (get_or rows from d) ≡ false → IsCompacted p rows all to (from + 1)
  row_gone gone = record { size = c.size; front = rw (one_more, gone, append-nil) c.front; rest = drop_more_same rows all from c.rest }
