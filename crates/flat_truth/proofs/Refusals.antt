-- Refusals of some rows are refusals of all.
use Rattle.std.proofs.Common.{◌≡◌, ℕ, ◌+◌, ◌*◌, ◌≤◌, ◌<◌, List, length, sym, ap, ◌∙◌, subst, arith, inl, inr}
use Rattle.std.specs.Prelude.{slice_index}
use Rattle.std.proofs.lemmas.Bool.{cases_lt}
use Rattle.vec_files.specs.declared.VecError.{VecError}
use Rattle.vec_files.specs.declared.VecError.TheVariants.{Missing, Malformed, Limit, ReadFault, Memory}
use Rattle.vec_files.specs.Standing.{IsRowThere, FirstMissing, IsRowStart, RefusesAt}
use Rattle.flat_truth.specs.Missing.{FirstMissingOf, IsStartOf}

pub refuses_along : (P Q : ℕ → Type 0) (e : VecError) → ((at : ℕ) → P at → Q at) → RefusesAt e P → RefusesAt e Q
refuses_along P Q Missing f h = h
refuses_along P Q (Malformed at) f h = f at h
refuses_along P Q (Limit what value) f h = h
refuses_along P Q ReadFault f h = h
refuses_along P Q Memory f h = h

pub out_of_memory : (P : ℕ → Type 0) (e : VecError) → e ≡ Memory → RefusesAt e P
out_of_memory P e is = subst (λ (x : VecError). RefusesAt x P) (sym is) tt

pub starts_among : (d first past rows : ℕ) → past ≤ rows → (at : ℕ) → IsRowStart d first past at → IsRowStart d 0 rows at
starts_among d first past rows le at start = record { row = start.row; low = omega arith; high = omega (arith, start.high); place = start.place }

pub missing_among : (bytes : List ℕ) (d first past rows : ℕ) → past ≤ rows → ((i : ℕ) → i < first → IsRowThere bytes d i) → (at : ℕ) → FirstMissing bytes d first past at → FirstMissing bytes d 0 rows at
missing_among bytes d first past rows le there at m = record {
  row = m.row;
  low = omega arith;
  high = omega (arith, m.high);
  place = m.place;
  before = λ i low high. elim (cases_lt i first) [
    | inl lt ↦ there i lt
    | inr ge ↦ m.before i ge high
  ];
  missing = m.missing;
}

-- the one row that was read
only_row : (row id : ℕ) → id ≤ row → row < id + 1 → row ≡ id
only_row row id low high = omega arith

pub starts_chosen : (d index : ℕ) (ids : List ℕ) → index < length ids → (at : ℕ) → IsRowStart d (slice_index ids index) (slice_index ids index + 1) at → IsStartOf d ids at
starts_chosen d index ids lt at start = record {
  index = index;
  among = lt;
  place = start.place ∙ ap (λ (row : ℕ). row * (4 + d)) (only_row start.row (slice_index ids index) start.low start.high);
}

pub missing_chosen : (bytes : List ℕ) (d index : ℕ) (ids : List ℕ) → index < length ids → ((i : ℕ) → i < index → IsRowThere bytes d (slice_index ids i))
    → (at : ℕ) → FirstMissing bytes d (slice_index ids index) (slice_index ids index + 1) at → FirstMissingOf bytes d ids at
missing_chosen bytes d index ids lt there at m =
    let same : m.row ≡ slice_index ids index = only_row m.row (slice_index ids index) m.low m.high in
    record {
      index = index;
      among = lt;
      place = m.place ∙ ap (λ (row : ℕ). row * (4 + d)) same;
      before = there;
      missing = subst (λ (row : ℕ). IsRowThere bytes d row → ⊥) same m.missing;
    }
