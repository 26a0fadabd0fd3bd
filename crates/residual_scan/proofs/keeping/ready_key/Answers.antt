use Rattle.std.proofs.Common.{ℕ, cond, length, ap, subst, arith, length-set}
use Rattle.book_model.proofs.AllLemmas.{all_at}
use Rattle.half_tables.specs.Half.{HalfSeen, IsRoomOf}
use Rattle.residual_scan.specs.Caching.{Takes}
use Rattle.residual_scan.proofs.Tables.{head_within, tables_kept, tables_filled, not_true, not_false}
use Rattle.residual_scan.proofs.keeping.ready_key.Goals as goal

pub returns-then-not-taken-clause-there : goal.returns-then-not-taken-clause-there
returns-then-not-taken-clause-there g c =
    head_within (length c.args.tables.now) c.take_slot-taken.new.slots.entries c.take_slot-taken.result.slot c.args.key (c.take_slot-taken.ensures.within (length c.args.tables.now) c.requires.within) c.take_slot-taken.ensures.first

pub bounds-tables-taken : goal.bounds-tables-taken
bounds-tables-taken g c =
    head_within (length c.args.tables.now) c.take_slot-taken.new.slots.entries c.take_slot-taken.result.slot c.args.key (c.take_slot-taken.ensures.within (length c.args.tables.now) c.requires.within) c.take_slot-taken.ensures.first

pub returns-then-not-taken-clause-tables : goal.returns-then-not-taken-clause-tables
returns-then-not-taken-clause-tables g c kept has =
    let t = c.take_slot-taken in
    let old = c.args.slots.now in
    let takes = subst (λ fresh. Takes old.cap kept old.entries c.args.places.now t.new.slots.entries t.new.places c.args.key t.result.slot fresh has.is) (not_true t.result.fresh c.if-not-taken.true) (t.ensures.takes kept has.is) in
    let all = tables_kept c.args.book.now c.args.query.now old.cap kept old.entries c.args.places.now t.new.slots.entries t.new.places c.args.key t.result.slot c.args.tables.now has takes in
    (all.0, omega (arith, ap {B = ℕ} (λ b. cond b 0 1) all.1), all.2)

pub fill_key-requires-clause-room : goal.fill_key-requires-clause-room
fill_key-requires-clause-room g c =
    let lt = head_within (length c.args.tables.now) c.take_slot-taken.new.slots.entries c.take_slot-taken.result.slot c.args.key (c.take_slot-taken.ensures.within (length c.args.tables.now) c.requires.within) c.take_slot-taken.ensures.first in
    all_at (IsRoomOf c.args.book.now) c.args.tables.now c.take_slot-taken.result.slot c.index-tables-taken.result c.requires.room lt

pub returns-clause-there : goal.returns-clause-there
returns-clause-there g c =
    omega (
      arith,
      head_within (length c.args.tables.now) c.take_slot-taken.new.slots.entries c.take_slot-taken.result.slot c.args.key (c.take_slot-taken.ensures.within (length c.args.tables.now) c.requires.within) c.take_slot-taken.ensures.first,
      length-set {A = HalfSeen} c.args.tables.now c.take_slot-taken.result.slot c.fill_key.new.table,
    )

pub returns-clause-tables : goal.returns-clause-tables
returns-clause-tables g c kept has =
    let t = c.take_slot-taken in
    let old = c.args.slots.now in
    let lt = head_within (length c.args.tables.now) t.new.slots.entries t.result.slot c.args.key (t.ensures.within (length c.args.tables.now) c.requires.within) t.ensures.first in
    let takes = subst (λ fresh. Takes old.cap kept old.entries c.args.places.now t.new.slots.entries t.new.places c.args.key t.result.slot fresh has.is) (not_false t.result.fresh c.if-not-taken.false) (t.ensures.takes kept has.is) in
    let all = tables_filled c.args.book.now c.args.query.now old.cap kept old.entries c.args.places.now t.new.slots.entries t.new.places c.args.key t.result.slot c.args.tables.now has takes c.fill_key.new.table lt c.fill_key.ensures.table in
    (all.0, omega (arith, c.fill_key.ensures.raised, ap {B = ℕ} (λ b. cond b 0 1) all.1), all.2)
