use Rattle.std.proofs.Common.{ℕ, get_or, refl, ap}
use Rattle.lru.specs.LruCache.{LruCache}
use Rattle.residual_scan.proofs.Slots.{takes_kept, takes_fresh, last_split, after_use, after_giving, apart_there, apart_last}
use Rattle.residual_scan.proofs.caching.take_slot.Goals as goal

pub returns-then-has_key-clause-takes : goal.returns-then-has_key-clause-takes
returns-then-has_key-clause-takes c kept was =
    takes_kept c.args.slots.now.cap kept c.args.slots.now.entries c.args.places.now was c.len-count.ensures.valid.0 c.args.key (get_or c.args.places.now c.args.key 0) c.requires.key refl
    (c.has_key.ensures.held c.if-has_key.true) c.promote.new.self.entries (ap (λ (s : LruCache ℕ ℕ). s.entries) c.promote.ensures.entries)

pub returns-then-has_key-clause-first : goal.returns-then-has_key-clause-first
returns-then-has_key-clause-first c =
    (after_use c.args.slots.now.entries c.promote.new.self.entries (get_or c.args.places.now c.args.key 0) c.args.key c.len-count.ensures.valid.0 (c.has_key.ensures.held c.if-has_key.true) (ap (λ (s : LruCache ℕ ℕ). s.entries) c.promote.ensures.entries)).0

pub returns-then-has_key-clause-within : goal.returns-then-has_key-clause-within
returns-then-has_key-clause-within c =
    (after_use c.args.slots.now.entries c.promote.new.self.entries (get_or c.args.places.now c.args.key 0) c.args.key c.len-count.ensures.valid.0 (c.has_key.ensures.held c.if-has_key.true) (ap (λ (s : LruCache ℕ ℕ). s.entries) c.promote.ensures.entries)).1

pub returns-then-has_key-clause-length : goal.returns-then-has_key-clause-length
returns-then-has_key-clause-length c =
    (after_use c.args.slots.now.entries c.promote.new.self.entries (get_or c.args.places.now c.args.key 0) c.args.key c.len-count.ensures.valid.0 (c.has_key.ensures.held c.if-has_key.true) (ap (λ (s : LruCache ℕ ℕ). s.entries) c.promote.ensures.entries)).2

pub returns-then-has_key-clause-apart : goal.returns-then-has_key-clause-apart
returns-then-has_key-clause-apart c slot other first ne two =
    apart_there c.args.slots.now.entries (get_or c.args.places.now c.args.key 0) c.args.key slot other (c.has_key.ensures.held c.if-has_key.true) first ne

pub returns-clause-takes : goal.returns-clause-takes
returns-clause-takes c kept was =
    takes_fresh c.args.slots.now kept c.args.places.now was c.len-count.ensures.valid.0 c.args.key c.requires.key (c.has_key.ensures.other c.if-has_key.false) c.requires.whole c.requires.some
    c.give-slot.result c.give-slot.ensures.last.0 c.give-slot.ensures.last.1 c.give-slot.new.slots.entries (ap (λ (s : LruCache ℕ ℕ). s.entries) c.give-slot.ensures.gives)

pub returns-clause-first : goal.returns-clause-first
returns-clause-first c =
    (after_giving c.args.slots.now c.give-slot.new.slots.entries c.give-slot.result c.give-slot.ensures.last.0 c.args.key c.len-count.ensures.valid.0 c.requires.some c.give-slot.ensures.last.1 (ap (λ (s : LruCache ℕ ℕ). s.entries) c.give-slot.ensures.gives)).0

pub returns-clause-within : goal.returns-clause-within
returns-clause-within c =
    (after_giving c.args.slots.now c.give-slot.new.slots.entries c.give-slot.result c.give-slot.ensures.last.0 c.args.key c.len-count.ensures.valid.0 c.requires.some c.give-slot.ensures.last.1 (ap (λ (s : LruCache ℕ ℕ). s.entries) c.give-slot.ensures.gives)).1

pub returns-clause-length : goal.returns-clause-length
returns-clause-length c =
    (after_giving c.args.slots.now c.give-slot.new.slots.entries c.give-slot.result c.give-slot.ensures.last.0 c.args.key c.len-count.ensures.valid.0 c.requires.some c.give-slot.ensures.last.1 (ap (λ (s : LruCache ℕ ℕ). s.entries) c.give-slot.ensures.gives)).2

pub returns-clause-apart : goal.returns-clause-apart
returns-clause-apart c slot other first ne two =
    let split = last_split c.args.slots.now.entries (c.give-slot.result, c.give-slot.ensures.last.0) c.give-slot.ensures.last.1 c.requires.some in
    apart_last c.args.slots.now.entries split.0 c.give-slot.result c.give-slot.ensures.last.0 slot other c.len-count.ensures.valid.0 split.1 first two
