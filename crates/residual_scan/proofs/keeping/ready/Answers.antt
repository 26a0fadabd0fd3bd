use Rattle.std.proofs.Common.{◌≡◌, ◌≢◌, ℕ, ◌+◌, ◌-◌, ◌/◌, ◌%◌, ◌<◌, ◌≤◌, List, length, get_or, sym, ap, ap₂, subst, ◌∙◌, arith, get_or-set_same, get_or-set_other, length-set}
use Rattle.std.proofs.Math.ListN.{set}
use Rattle.book_model.proofs.AllLemmas.{all_weaken}
use Rattle.book_model.proofs.Good.{first_word}
use Rattle.half_tables.specs.Half.{HalfSeen, IsHalfOf}
use Rattle.residual_scan.specs.Misses.{kept_after, cell_keys}
use Rattle.residual_scan.specs.Caching.{AreSlots, HasTables, Stands, FewKept, no_half}
use Rattle.residual_scan.proofs.Tables.{two_tables, few_step, low_table, high_table}
use Rattle.residual_scan.proofs.keeping.ready.Goals as goal

pub ready_key-high-requires-clause-within : goal.ready_key-high-requires-clause-within
ready_key-high-requires-clause-within g c =
    let n = length c.args.tables.now in
    let are = subst (AreSlots (n - 2)) c.in-Some.is c.requires.slots in
    let m = length c.ready_key-low.new.tables in
    c.ready_key-low.ensures.within m
    (all_weaken (λ (e : ℕ × ℕ). e.0 < m) (λ (e : ℕ × ℕ). e.0 < n - 2) c.in-Some.slots.entries (λ e lt. omega (arith, lt, c.ready_key-low.auto.tables)) are.3)

pub returns-in-Some-clause-stands : goal.returns-in-Some-clause-stands
returns-in-Some-clause-stands g c kept stands =
    let book = c.args.book.now in
    let v : List ℕ = c.args.query.now in
    let are = subst (AreSlots (length c.args.tables.now - 2)) c.in-Some.is c.requires.slots in
    let has : HasTables book v kept c.in-Some.slots.entries c.args.places.now c.args.tables.now = subst (λ o. Stands book v kept o c.args.places.now c.args.tables.now) c.in-Some.is stands in
    let low = c.ready_key-low.ensures.tables kept has in
    let high = c.ready_key-high.ensures.tables _ low.0 in
    let a : c.args.cell / c.k1-k1.result ≡ c.args.cell / book.k1 = ap (λ k. c.args.cell / k) c.k1-k1.ensures.value in
    let b : c.k0.result + c.args.cell % c.k1-k1.result ≡ book.k0 + c.args.cell % book.k1 = ap₂ (λ (x y : ℕ). x + c.args.cell % y) c.k0.ensures.value c.k1-k1.ensures.value in
    two_tables book v kept c.ready_key-high.new.slots.entries c.ready_key-high.new.places c.ready_key-high.new.tables (length c.args.tables.now - 2) c.in-Some.slots.cap c.ready_key-low.new.slots.cap (c.args.cell / book.k1) (book.k0 + c.args.cell % book.k1)
    (c.args.cell / c.k1-k1.result) (c.k0.result + c.args.cell % c.k1-k1.result) c.args.halves.now c.ready_key-low.new.halves c.ready_key-high.new.halves are.1 (c.ready_key-low.ensures.cap ∙ are.1) a b high.0 low.1 high.1

pub returns-in-Some-clause-slots : goal.returns-in-Some-clause-slots
returns-in-Some-clause-slots g c =
    let n = length c.args.tables.now - 2 in
    let are = subst (AreSlots n) c.in-Some.is c.requires.slots in (
      are.0,
      c.ready_key-high.ensures.cap ∙ c.ready_key-low.ensures.cap ∙ are.1,
      c.ready_key-high.ensures.length ∙ c.ready_key-low.ensures.length ∙ are.2,
      c.ready_key-high.ensures.within n (c.ready_key-low.ensures.within n are.3),
    )

pub returns-in-Some-clause-low : goal.returns-in-Some-clause-low
returns-in-Some-clause-low g c =
    let book = c.args.book.now in
    let v : List ℕ = c.args.query.now in
    let are = subst (AreSlots (length c.args.tables.now - 2)) c.in-Some.is c.requires.slots in
    let has : HasTables book v c.requires.filled.0 c.in-Some.slots.entries c.args.places.now c.args.tables.now = subst (λ o. Stands book v c.requires.filled.0 o c.args.places.now c.args.tables.now) c.in-Some.is c.requires.filled.1 in
    let low = c.ready_key-low.ensures.tables c.requires.filled.0 has in
    let within = first_word c.args.cell book.k0 book.k1 c.requires.cell in
    let key : c.args.cell / c.k1-k1.result ≡ c.args.cell / book.k1 = ap (λ k. c.args.cell / k) c.k1-k1.ensures.value in
    let differs : c.args.cell / c.k1-k1.result ≢ c.k0.result + c.args.cell % c.k1-k1.result = λ is. omega (arith, is, key, within, c.k0.ensures.value) in
    let other : c.ready_key-low.result ≢ c.ready_key-high.result =
    λ is. c.ready_key-high.ensures.apart c.ready_key-low.result (c.args.cell / c.k1-k1.result) c.ready_key-low.ensures.first differs (omega (arith, c.ready_key-low.ensures.length, are.2, are.0)) (sym is) in
    subst (λ seen. IsHalfOf book v 0 (c.args.cell / book.k1) seen) (sym (c.ready_key-high.ensures.others c.ready_key-low.result other))
    (low_table book v (c.args.cell / c.k1-k1.result) (c.args.cell / book.k1) (get_or c.ready_key-low.new.tables c.ready_key-low.result no_half) key within low.2)

pub returns-in-Some-clause-high : goal.returns-in-Some-clause-high
returns-in-Some-clause-high g c =
    let book = c.args.book.now in
    let v : List ℕ = c.args.query.now in
    let has : HasTables book v c.requires.filled.0 c.in-Some.slots.entries c.args.places.now c.args.tables.now = subst (λ o. Stands book v c.requires.filled.0 o c.args.places.now c.args.tables.now) c.in-Some.is c.requires.filled.1 in
    let low = c.ready_key-low.ensures.tables c.requires.filled.0 has in
    let high = c.ready_key-high.ensures.tables _ low.0 in
    let key : c.k0.result + c.args.cell % c.k1-k1.result ≡ book.k0 + c.args.cell % book.k1 = ap₂ (λ (x y : ℕ). x + c.args.cell % y) c.k0.ensures.value c.k1-k1.ensures.value in
    high_table book v (c.k0.result + c.args.cell % c.k1-k1.result) (c.args.cell % book.k1) (get_or c.ready_key-high.new.tables c.ready_key-high.result no_half) key high.2

pub returns-in-None-clause-stands : goal.returns-in-None-clause-stands
returns-in-None-clause-stands g c kept stands =
    let book = c.args.book.now in
    let v : List ℕ = c.args.query.now in
    let n = length c.args.tables.now - 2 in
    let few : FewKept book.k0 kept = subst (λ o. Stands book v kept o c.args.places.now c.args.tables.now) c.in-None.is stands in
    let small : n ≤ 1 = subst (AreSlots n) c.in-None.is c.requires.slots in
    let step = few_step n book.k0 kept (c.args.cell / book.k1) (book.k0 + c.args.cell % book.k1) small few (first_word c.args.cell book.k0 book.k1 c.requires.cell) (omega arith) in
    (subst (λ o. Stands book v (kept_after n kept (cell_keys book c.args.cell)) o c.args.places.now (set (set c.args.tables.now 0 c.fill_key.new.table) 1 c.fill_key-in-None.new.table)) (sym c.in-None.is) step.1, omega (arith, step.0, c.fill_key.ensures.raised, c.fill_key-in-None.ensures.raised))

pub returns-in-None-clause-low : goal.returns-in-None-clause-low
returns-in-None-clause-low g c =
    let book = c.args.book.now in
    let v : List ℕ = c.args.query.now in
    let ts = c.args.tables.now in
    let t0 = c.fill_key.new.table in
    let t1 = c.fill_key-in-None.new.table in
    let ne : ◌≢◌ {A = ℕ} 0 1 = λ is. omega (arith, is) in
    let here : get_or (set (set ts 0 t0) 1 t1) 0 no_half ≡ t0 = get_or-set_other (set ts 0 t0) 1 0 t1 no_half ne ∙ get_or-set_same ts 0 t0 no_half (omega (arith, c.requires.two)) in
    let key : c.args.cell / c.k1-k1.result ≡ c.args.cell / book.k1 = ap (λ k. c.args.cell / k) c.k1-k1.ensures.value in
    subst (λ seen. IsHalfOf book v 0 (c.args.cell / book.k1) seen) (sym here)
    (low_table book v (c.args.cell / c.k1-k1.result) (c.args.cell / book.k1) t0 key (first_word c.args.cell book.k0 book.k1 c.requires.cell) c.fill_key.ensures.table)

pub returns-in-None-clause-high : goal.returns-in-None-clause-high
returns-in-None-clause-high g c =
    let book = c.args.book.now in
    let v : List ℕ = c.args.query.now in
    let ts = c.args.tables.now in
    let t0 = c.fill_key.new.table in
    let t1 = c.fill_key-in-None.new.table in
    let here : get_or (set (set ts 0 t0) 1 t1) 1 no_half ≡ t1 = get_or-set_same (set ts 0 t0) 1 t1 no_half (omega (arith, c.requires.two, length-set {A = HalfSeen} ts 0 t0)) in
    let key : c.k0.result + c.args.cell % c.k1-k1.result ≡ book.k0 + c.args.cell % book.k1 = ap₂ (λ (x y : ℕ). x + c.args.cell % y) c.k0.ensures.value c.k1-k1.ensures.value in
    subst (λ seen. IsHalfOf book v 1 (c.args.cell % book.k1) seen) (sym here)
    (high_table book v (c.k0.result + c.args.cell % c.k1-k1.result) (c.args.cell % book.k1) t1 key c.fill_key-in-None.ensures.table)
