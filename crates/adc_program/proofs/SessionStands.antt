-- Engine and open sessions stand for the changes and sessions of a play, after a line of a play.
use Rattle.std.proofs.Common.{◌≡◌, ℕ, ◌+◌, ◌*◌, ◌^◌, ◌<◌, List, [], ◌++◌, length, map, sym, ap, ◌∙◌, subst, arith}
use Rattle.std.proofs.lemmas.List.Sums.{sum_by-append}
use Rattle.cell_store.specs.State.{Store, live_rows}
use Rattle.cell_store.specs.Held.{KeepsAs, IsStore}
use Rattle.cell_store.proofs.StoreLemmas.{timed, same_live}
use Rattle.play_script.specs.declared.Command.{Command}
use Rattle.play_script.specs.declared.SessionCommand.TheVariants.{Plain}
use Rattle.play_script.specs.Play.{Stage, by_codes, told_by, Counts, full_sum, sum_limit}
use Rattle.play_script.specs.Sessions.{Standing, store_of, session_reply, plain_reply, rows_now}
use Rattle.prune_scan.specs.declared.meters.Meters.{Meters}
use Rattle.adc_program.specs.declared.opened.HeldSession.{HeldSession}
use Rattle.adc_program.specs.Work.{Works}
use Rattle.adc_program.specs.StoreReplies.{store_reply, SameReply}
use Rattle.adc_program.specs.SessionStates.{known_of, StandsAs, IsNext, Spends, open_counts}
use Rattle.adc_program.proofs.StoreReplies.{same_reply, keeps_trans}
use Rattle.adc_program.proofs.SessionReplies.{IsLike, plain_like}

-- the work of a line's query, and that of a line without one
pub spends_queries : (visits queries before after : List Counts) (old new : Meters) → visits ≡ queries → after ≡ before → Works queries old new → Spends before (visits ++ after) old new
spends_queries visits queries before after old new same stay works = record {
  full = omega (arith, works.full, ap full_sum same, ap full_sum stay, sum_by-append (λ (q : Counts). q.full) visits after);
  pairs = (omega (arith, works.pairs), omega (arith, works.pairs, ap sum_limit same, ap sum_limit stay, sum_by-append (λ (q : Counts). 2 * q.cells + 1) visits after));
}

pub spends_on : (first more before mid after : List Counts) (a b c : Meters) → Spends before (first ++ mid) a b → Spends mid (more ++ after) b c → Spends before ((first ++ more) ++ after) a c
spends_on first more before mid after a b c h next = record {
  full = omega (arith, h.full, next.full, sum_by-append (λ (q : Counts). q.full) first mid, sum_by-append (λ (q : Counts). q.full) more after, sum_by-append (λ (q : Counts). q.full) (first ++ more) after, sum_by-append (λ (q : Counts). q.full) first more);
  pairs = (
    omega (arith, h.pairs, next.pairs),
    omega (
      arith,
      h.pairs,
      next.pairs,
      sum_by-append (λ (q : Counts). 2 * q.cells + 1) first mid,
      sum_by-append (λ (q : Counts). 2 * q.cells + 1) more after,
      sum_by-append (λ (q : Counts). 2 * q.cells + 1) (first ++ more) after,
      sum_by-append (λ (q : Counts). 2 * q.cells + 1) first more,
    ),
  );
}

pub spends_none : (meters : Meters) → Spends [] [] meters meters
spends_none meters = record { full = omega arith; pairs = (omega arith, omega arith) }

pub works_spent : (all : List Counts) (old new : Meters) → Spends [] all old new → Works all old new
works_spent all old new h = record { full = omega (arith, h.full); pairs = (omega (arith, h.pairs), omega (arith, h.pairs)) }

module _ {S : Type 0} (stage : Stage) (standing : Standing) (store : Store) (held : List (HeldSession S)) (stands : StandsAs stage standing store held) where
  -- the rows of now are the live ones
  pub rows_live : (widths : List ℕ) → IsStore widths store → live_rows store ≡ rows_now standing
  rows_live widths is = same_live store (store_of stage standing) (timed widths store is) stands.model.timed stands.keeps ∙ stands.model.now

  pub edits_are : store.stamp ≡ length standing.edits
  edits_are = stands.keeps.stamp ∙ stands.model.stamp

  module _ (widths : List ℕ) (is : IsStore widths store) (time : store.stamp < 2 ^ 62) (command : Command) where
    like : IsLike stage standing (plain_reply stage standing command) (store_reply by_codes stage (store_of stage standing) command)
    like = plain_like stage standing stands.model (omega (arith, edits_are, time)) command

    same : SameReply (store_reply by_codes stage store command) (store_reply by_codes stage (store_of stage standing) command)
    same = same_reply by_codes stage store (store_of stage standing) (timed widths store is) stands.model.timed stands.keeps command

    pub plain_lines : (session_reply stage standing (Plain command)).lines ≡ (store_reply by_codes stage store command).lines
    unfolding session_reply
    plain_lines = like.lines ∙ sym same.lines

    pub plain_next : (new : Store) (old_meters new_meters : Meters) → KeepsAs new (store_reply by_codes stage store command).after → Works (told_by by_codes stage.book (store_reply by_codes stage store command).queries) old_meters new_meters
        → IsNext stage standing (session_reply stage standing (Plain command)) new held old_meters new_meters
    unfolding session_reply
    plain_next new old_meters new_meters keeps works = record {
      stands = record {
        model = like.model;
        keeps = subst (λ (m : Store). KeepsAs new m) (sym like.store) (keeps_trans new _ _ keeps same.keeps);
        sessions = stands.sessions ∙ ap (map (known_of stage)) (sym like.opened);
      };
      spends = spends_queries _ (told_by by_codes stage.book (store_reply by_codes stage store command).queries) (open_counts stage standing) _ old_meters new_meters (like.visits ∙ ap (told_by by_codes stage.book) (sym same.queries)) like.counts works;
    }
