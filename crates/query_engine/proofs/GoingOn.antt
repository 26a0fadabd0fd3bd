-- A stretch of a visit.
use Rattle.std.proofs.Common.{◌≡◌, ℕ, List, [], ◌++◌, take, refl, subst, arith}
use Rattle.std.proofs.lemmas.List.{append-nil}
use Rattle.book_model.specs.Order.{Pair}
use Rattle.book_model.specs.Rows.{Row}
use Rattle.cell_store.specs.Shown.{Shown, shown}
use Rattle.coarse_rank.specs.Ranked.{cells_of}
use Rattle.prune_scan.specs.declared.meters.Meters.{Meters}
use Rattle.query_engine.specs.Scanning.{Work, work_of, GoesOn}
use Rattle.query_engine.specs.declared.scanning.Visit.{Visit}

module _ {A C : Type 0} (went : A → C → C → List Row → List Pair → Work → Work → Type 0) (asked : A) (shows : Shown) where
  pub goes_none : ((a : A) (s : C) (rows : List Row) (w : Work) → went a s s rows [] w w) → (v : Visit C) (m : Meters) → GoesOn went asked shows v v m m
  goes_none none v m = record {
    ranks = refl;
    between = [];
    joins = append-nil _;
    scanned = none asked v.scanner (shown shows) (work_of m);
    pairs = (omega arith, omega arith);
    blocks = omega arith;
    lanes = omega arith;
    few_blocks = omega arith;
    few_lanes = omega arith;
    reads_never_fall = (omega arith, omega arith);
  }

  -- from the first cell on, the cells in between are all that were given
  pub all_between : (v v' : Visit C) (m m' : Meters) (s : GoesOn went asked shows v v' m m') → v.walk.given ≡ 0 → s.between ≡ take v'.walk.given (cells_of v.ranks)
  all_between v v' m m' s none = subst (λ (n : ℕ). take n (cells_of v.ranks) ++ s.between ≡ take v'.walk.given (cells_of v.ranks)) none s.joins
