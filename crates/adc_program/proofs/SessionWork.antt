-- The work of a step is little.
use Rattle.std.proofs.Common.{◌≡◌, ℕ, ◌+◌, ◌*◌, ◌≤◌, List, take, ap, arith}
use Rattle.book_model.specs.Order.{Pair}
use Rattle.book_model.specs.Rows.{Row, passing}
use Rattle.cell_store.specs.State.{rows_at}
use Rattle.cell_store.specs.Held.{IsStore}
use Rattle.coarse_rank.specs.Ranked.{cells_of}
use Rattle.query_engine.specs.State.{State}
use Rattle.query_engine.specs.Progress.{block_count}
use Rattle.prune_scan.specs.declared.meters.Meters.{Meters}
use Rattle.query_engine.proofs.Blocks.{few_blocks}
use Rattle.query_engine.proofs.Lengths.{prefix_le, full_le}
use Rattle.query_sessions.specs.Standing.{Opened, CanGoOn, SameQuestion, cells_given}
use Rattle.query_sessions.proofs.Stepping.{all_is, whole_order}
use Rattle.adc_program.specs.Work.{RiseLittle}

-- a session has visited few cells, and few of its rows are full
module _ (ws : List ℕ) (engine : State) (session : Opened) (is : IsStore ws engine.store) (sizes : engine.store.cells ≡ engine.book.k0 * engine.book.k1) (can : CanGoOn ws engine session) where
  rows_then : List Row
  rows_then = rows_at session.stamp engine.store.kept

  pub few_cells : cells_given session ≤ 1048576
  few_cells =
      omega (
        arith,
        can.stands.within,
        all_is ws engine.book (rows_at session.stamp engine.store.kept) session can.stands,
        prefix_le (passing session.ranges (rows_at session.stamp engine.store.kept)) session.needed (cells_of session.parts.ranks),
        whole_order ws engine.book (rows_at session.stamp engine.store.kept) session can.stands,
        sizes,
        is.cells,
      )

  pub few_full : session.full ≤ session.parts.state.rows
  few_full =
      omega (
        arith,
        can.stands.full,
        (can.stands.visited.stands engine.book session.query can.stands.asked.tables).rows,
        full_le engine.book session.query session.k (passing session.ranges (rows_at session.stamp engine.store.kept)) (cells_of session.parts.ranks) (cells_given session),
      )

  pub few_blocks_of : (n : ℕ) → block_count engine.store.kept (take n (cells_of session.parts.ranks)) ≤ 2621440
  few_blocks_of n =
      omega (
        arith,
        ap (λ (order : List Pair). block_count engine.store.kept (take n order)) can.stands.asked.order,
        few_blocks engine.book session.query engine.store.kept n,
        is.few_kept,
        is.most,
        is.cells,
        sizes,
      )

pub little_step : (ws : List ℕ) (engine : State) (old now : Opened) (budget : ℕ) → IsStore ws engine.store → engine.store.cells ≡ engine.book.k0 * engine.book.k1 → CanGoOn ws engine old → CanGoOn ws engine now
    → SameQuestion old now → now.parts.state.rows ≤ 16777216 → (a b : Meters) → b.full + old.full ≡ a.full + now.full → a.pairs ≤ b.pairs → b.pairs + 2 * cells_given old ≤ a.pairs + 2 * cells_given now
    → b.blocks + block_count engine.store.kept (take (cells_given old) (cells_of old.parts.ranks)) ≤ a.blocks + block_count engine.store.kept (take (cells_given now) (cells_of old.parts.ranks))
    → b.lanes + block_count engine.store.kept (take (cells_given old) (cells_of old.parts.ranks)) ≤ a.lanes + block_count engine.store.kept (take (cells_given now) (cells_of old.parts.ranks)) → RiseLittle 1 engine.store engine.store a b
little_step ws engine old now budget is sizes can can_now same few a b full rose pairs blocks lanes = record {
  stamp = omega arith;
  pairs = omega (arith, pairs, few_cells ws engine now is sizes can_now);
  full = omega (arith, full, few_full ws engine now is sizes can_now, few);
  blocks = omega (arith, blocks, few_blocks_of ws engine old is sizes can (cells_given now));
  lanes = omega (arith, lanes, few_blocks_of ws engine old is sizes can (cells_given now));
}
