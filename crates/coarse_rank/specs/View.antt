-- What the fields of Ranks stand for.
use Rattle.std.specs.Prelude.{◌≤◌, map}
use Rattle.std.specs.Vec.{vec_capacity}
use Rattle.coarse_rank.specs.declared.ranks.Ranks.TheInside.{Inside}
use Rattle.coarse_rank.specs.Ranked.{Ranked, rank_of}

abbrev pub view_ranks : Inside → Ranked
view_ranks ranks = record { k0 = ranks.k0; k1 = ranks.k1; words0 = map rank_of ranks.words0.items; words1 = map rank_of ranks.words1.items }

-- the room holds each part
pub record AreRanks (ranks : Inside) : Type 0 where
  pub some : (1 ≤ ranks.k0) × (1 ≤ ranks.k1)
  pub most : (ranks.k0 ≤ 1024) × (ranks.k1 ≤ 1024)
  pub room0 : ranks.k0 ≤ vec_capacity ranks.words0
  pub room1 : ranks.k1 ≤ vec_capacity ranks.words1
