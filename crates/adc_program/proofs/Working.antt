-- The work of queries, one after another.
use Rattle.std.proofs.Common.{ℕ, ◌+◌, ◌*◌, ◌^◌, ◌≤◌, ◌<◌, List, [], ◌∷◌, ◌++◌, arith}
use Rattle.std.proofs.lemmas.List.Sums.{sum_by-append}
use Rattle.book_model.specs.Book.{Book}
use Rattle.book_model.specs.Visit.{Query}
use Rattle.best_k.specs.Least.{Kept as Best}
use Rattle.cell_store.specs.State.{Store}
use Rattle.play_script.specs.Play.{Counts}
use Rattle.query_engine.specs.Report.{Answers, HaveRoom}
use Rattle.prune_scan.specs.declared.meters.Meters.{Meters}
use Rattle.query_engine.specs.declared.report.Report.{Report}
use Rattle.adc_program.specs.Work.{Works, RiseLittle, AreEarly, IsFarFromEnd}

pub works_none : (meters : Meters) → Works [] meters meters
works_none meters = record { full = omega arith; pairs = (omega arith, omega arith) }

pub works_on : (first more : List Counts) (a b c : Meters) → Works first a b → Works more b c → Works (first ++ more) a c
works_on first more a b c h next = record {
  full = omega (arith, h.full, next.full, sum_by-append (λ (q : Counts). q.full) first more);
  pairs = (omega (arith, h.pairs, next.pairs), omega (arith, h.pairs, next.pairs, sum_by-append (λ (q : Counts). 2 * q.cells + 1) first more));
}

-- the work of one query
pub works_query : (book : Book) (query : Query) (store : Store) (best : Best) (report : Report) (old new : Meters) → Answers book query store best report old new
    → Works (record { cells = report.cells; live = report.live; full = report.full } ∷ []) old new
works_query book query store best report old new is = record { full = omega (arith, is.full); pairs = (omega (arith, is.pairs), omega (arith, is.pairs)) }

-- nothing and a query raise the counts by little
pub little_none : (store store1 : Store) (meters : Meters) → store1.stamp ≤ store.stamp + 1 → RiseLittle 1 store store1 meters meters
little_none store store1 meters h = record { stamp = h; pairs = omega arith; full = omega arith; blocks = omega arith; lanes = omega arith }

pub little_query : (book : Book) (query : Query) (store : Store) (best : Best) (report : Report) (old new : Meters) → Answers book query store best report old new → RiseLittle 1 store store old new
little_query book query store best report old new is = record {
  stamp = omega arith;
  pairs = omega (arith, is.pairs, is.few_cells);
  full = omega (arith, is.full, is.few_full);
  blocks = omega (arith, is.blocks, is.few_blocks);
  lanes = omega (arith, is.lanes, is.few_blocks);
}

pub little_start : (store : Store) (meters : Meters) → RiseLittle 0 store store meters meters
little_start store meters = record { stamp = omega arith; pairs = omega arith; full = omega arith; blocks = omega arith; lanes = omega arith }

-- one command more
pub little_more : (n : ℕ) (s s1 s2 : Store) (a b c : Meters) → RiseLittle n s s1 a b → RiseLittle 1 s1 s2 b c → RiseLittle (n + 1) s s2 a c
little_more n s s1 s2 a b c h next = record {
  stamp = omega (arith, h.stamp, next.stamp);
  pairs = omega (arith, h.pairs, next.pairs);
  full = omega (arith, h.full, next.full);
  blocks = omega (arith, h.blocks, next.blocks);
  lanes = omega (arith, h.lanes, next.lanes);
}

-- after fewer commands than a script may have, all ends are far
pub far_after : (n : ℕ) (s s1 : Store) (a b : Meters) → n < 4294967296 → s.stamp ≤ 2 ^ 61 → AreEarly a → RiseLittle n s s1 a b → IsFarFromEnd s1 b
far_after n s s1 a b few stamp early h = record {
  stamp = omega (arith, h.stamp, stamp, few);
  room = record {
    pairs = omega (arith, h.pairs, early.pairs, few);
    full = omega (arith, h.full, early.full, few);
    blocks = omega (arith, h.blocks, early.blocks, few);
    lanes = omega (arith, h.lanes, early.lanes, few);
  };
}

-- the counts alone
pub room_after : (n : ℕ) (s s1 : Store) (a b : Meters) → n < 4294967296 → AreEarly a → RiseLittle n s s1 a b → HaveRoom b
room_after n s s1 a b few early h = record {
  pairs = omega (arith, h.pairs, early.pairs, few);
  full = omega (arith, h.full, early.full, few);
  blocks = omega (arith, h.blocks, early.blocks, few);
  lanes = omega (arith, h.lanes, early.lanes, few);
}
