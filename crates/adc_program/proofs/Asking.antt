-- The work of what is asked, one query after another.
use Rattle.std.proofs.Common.{◌≡◌, ◌∙◌, ℕ, ◌+◌, ◌*◌, ◌^◌, ◌≤◌, ◌<◌, List, [], ◌∷◌, ◌++◌, length, map, sym, ap, refl, subst, arith}
use Rattle.std.specs.Prelude.{sum_by}
use Rattle.std.proofs.lemmas.List.Sums.{sum_by-append, sum_by-cons}
use Rattle.book_model.specs.Book.{Book}
use Rattle.book_model.specs.Visit.{visit}
use Rattle.play_script.specs.Play.{Means, by_codes, Asking, Counts, counts_by, told_by}
use Rattle.prune_scan.specs.declared.meters.Meters.{Meters}
use Rattle.adc_program.specs.Work.{Works, AreEarly, IsFarFromEnd, RiseLittle}
use Rattle.adc_program.specs.Played.{Stand, Metered, Computes, HaveAsked, AreUpTo, AreFarFromEnd, RisesBy, no_halves, metered_of}

module _ (means : Means) (computes : Computes) where
  pub asked_none : (stand : Stand) (meters : Metered) → HaveAsked means computes stand [] meters meters
  asked_none stand meters = record { full = omega arith; halves = omega arith; pairs = (omega arith, omega arith) }

  pub asked_on : (stand : Stand) (first more : List Asking) (a b c : Metered) → HaveAsked means computes stand first a b → HaveAsked means computes stand more b c → HaveAsked means computes stand (first ++ more) a c
  asked_on stand first more a b c h next = record {
    full = omega (arith, h.full, next.full, sum_by-append (λ (q : Asking). means.full stand.book q.query q.rows) first more);
    halves = omega (arith, h.halves, next.halves, sum_by-append (λ (q : Asking). computes stand.cache stand.book q.query q.rows) first more);
    pairs = (omega (arith, h.pairs, next.pairs), omega (arith, h.pairs, next.pairs, sum_by-append (λ (q : Asking). 2 * length (visit stand.book q.query q.rows) + 1) first more));
  }

  -- the work is that of another stand with the same book and as much room
  pub asked_at : (stand other : Stand) (asked : List Asking) (a b : Metered) → stand.book ≡ other.book → stand.cache ≡ other.cache → HaveAsked means computes stand asked a b → HaveAsked means computes other asked a b
  asked_at stand other asked a b book cache h = record {
    full = h.full ∙ ap (λ (k : Book). a.full + sum_by (λ (q : Asking). means.full k q.query q.rows) asked) book;
    halves = h.halves ∙ ap (λ (k : Book). a.halves + sum_by (λ (q : Asking). computes stand.cache k q.query q.rows) asked) book
        ∙ ap (λ (n : ℕ). a.halves + sum_by (λ (q : Asking). computes n other.book q.query q.rows) asked) cache;
    pairs = (h.pairs.0, subst (λ (k : Book). b.pairs ≤ a.pairs + sum_by (λ (q : Asking). 2 * length (visit k q.query q.rows) + 1) asked) book h.pairs.1);
  }

-- the stamp rises by little, and the meters stay
pub rises_none : (stand stand1 : Stand) (meters : Metered) → stand1.store.stamp ≤ stand.store.stamp + 1 → RisesBy 1 stand stand1 meters meters
rises_none stand stand1 meters h = record { stamp = h; pairs = omega arith; full = omega arith; halves = omega arith; blocks = omega arith; lanes = omega arith }

pub rises_start : (stand : Stand) (meters : Metered) → RisesBy 0 stand stand meters meters
rises_start stand meters = record { stamp = omega arith; pairs = omega arith; full = omega arith; halves = omega arith; blocks = omega arith; lanes = omega arith }

-- one command more
pub rises_more : (n : ℕ) (s s1 s2 : Stand) (a b c : Metered) → RisesBy n s s1 a b → RisesBy 1 s1 s2 b c → RisesBy (n + 1) s s2 a c
rises_more n s s1 s2 a b c h next = record {
  stamp = omega (arith, h.stamp, next.stamp);
  pairs = omega (arith, h.pairs, next.pairs);
  full = omega (arith, h.full, next.full);
  halves = omega (arith, h.halves, next.halves);
  blocks = omega (arith, h.blocks, next.blocks);
  lanes = omega (arith, h.lanes, next.lanes);
}

-- after fewer commands than a script may have, all ends are far
pub far_from_end : (n : ℕ) (s s1 : Stand) (a b : Metered) → n < 4294967296 → s.store.stamp ≤ 2 ^ 61 → AreUpTo (2 ^ 61) a → RisesBy n s s1 a b → AreFarFromEnd s1 b
far_from_end n s s1 a b few stamp early h = record {
  stamp = omega (arith, h.stamp, stamp, few);
  room = record {
    pairs = omega (arith, h.pairs, early.pairs, few);
    full = omega (arith, h.full, early.full, few);
    halves = omega (arith, h.halves, early.halves, few);
    blocks = omega (arith, h.blocks, early.blocks, few);
    lanes = omega (arith, h.lanes, early.lanes, few);
  };
}

-- what is summed over what was asked is summed over what its lines tell
pub told_sum : {X : Type 0} (f : X → ℕ) (tell : Asking → X) (asked : List Asking) → sum_by f (map tell asked) ≡ sum_by (λ (q : Asking). f (tell q)) asked
told_sum f tell [] = refl
told_sum f tell (q ∷ asked) = sum_by-cons f (tell q) (map tell asked) ∙ ap (λ n. f (tell q) + n) (told_sum f tell asked) ∙ sym (sum_by-cons (λ (p : Asking). f (tell p)) q asked)

-- meters of an engine of codes
pub codes_early : (meters : Meters) → AreEarly meters → AreUpTo (2 ^ 61) (metered_of meters)
codes_early meters h = record { pairs = h.pairs; full = h.full; halves = omega arith; blocks = h.blocks; lanes = h.lanes }

pub codes_far : (stand : Stand) (meters : Meters) → IsFarFromEnd stand.store meters → AreFarFromEnd stand (metered_of meters)
codes_far stand meters h = record { stamp = h.stamp; room = record { pairs = h.room.pairs; full = h.room.full; halves = omega arith; blocks = h.room.blocks; lanes = h.room.lanes } }

pub codes_little : (n : ℕ) (stand stand1 : Stand) (a b : Meters) → RisesBy n stand stand1 (metered_of a) (metered_of b) → RiseLittle n stand.store stand1.store a b
codes_little n stand stand1 a b h = record { stamp = h.stamp; pairs = h.pairs; full = h.full; blocks = h.blocks; lanes = h.lanes }

pub codes_work : (stand : Stand) (asked : List Asking) (a b : Meters) → HaveAsked by_codes no_halves stand asked (metered_of a) (metered_of b) → Works (told_by by_codes stand.book asked) a b
codes_work stand asked a b h = record {
  full = omega (arith, h.full, told_sum (λ (c : Counts). c.full) (λ (q : Asking). counts_by by_codes stand.book q.query q.rows) asked);
  pairs = (h.pairs.0, omega (arith, h.pairs.1, told_sum (λ (c : Counts). 2 * c.cells + 1) (λ (q : Asking). counts_by by_codes stand.book q.query q.rows) asked));
}
