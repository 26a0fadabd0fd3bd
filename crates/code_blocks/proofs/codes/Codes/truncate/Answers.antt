use Rattle.code_blocks.proofs.Words.{◌≡◌, ◌*◌, ◌≤◌, take, ap, ◌∙◌, arith, div_ceil_times, Coded, codes_in, all_take, AreCodeWords, take-take}
use Rattle.code_blocks.proofs.Stretch.{shown_size, length-codes_in, codes_in-cut, IsStretch-cut, cut_room}
use Rattle.code_blocks.proofs.codes.Codes.truncate.Goals as goal
use Rattle.code_blocks.proofs.codes.Codes.truncate.Goals.{After-self}

few : (c : After-self) → c.div_ceil-blocks.result ≤ c.self.inside.blocks
few c = omega (arith, shown_size c.self.invariant c.self.view_is, c.requires, c.div_ceil-blocks.ensures)

pub overflow_mul-blocks : goal.overflow_mul-blocks
overflow_mul-blocks c =
    omega (arith, cut_room _ _ _ c.self.invariant c.div_ceil-blocks.result (few (goal.at.overflow_mul-blocks c).After-self), c.self.inside.lanes.ok.0, c.self.inside.lanes.ok.1, c.self.inside.lanes.small)

pub invariant_of-self : goal.invariant_of-self
invariant_of-self c = rw c.truncate.ensures.items (IsStretch-cut _ _ _ c.self.invariant c.div_ceil-blocks.result (few (goal.at.invariant_of-self c).After-self))

pub returns : goal.returns
returns c =
    let cut : codes_in c.self.inside.g c.div_ceil-blocks.result c.truncate.new.self.items ≡ take (32 * c.div_ceil-blocks.result) c.args.self.now.codes =
    rw c.truncate.ensures.items (codes_in-cut _ _ _ c.self.invariant c.div_ceil-blocks.result (few (goal.at.returns c).After-self)) ∙ ap (λ (v : Coded). take (32 * c.div_ceil-blocks.result) v.codes) c.self.view_is in
    let enough : c.args.n ≤ 32 * c.div_ceil-blocks.result = omega (arith, c.div_ceil-blocks.ensures, (div_ceil_times c.args.n 32 (omega arith)).1) in
    record {
      enough = omega (arith, enough, length-codes_in c.self.inside.g c.div_ceil-blocks.result c.truncate.new.self.items);
      few = omega (arith, c.div_ceil-blocks.ensures, length-codes_in c.self.inside.g c.div_ceil-blocks.result c.truncate.new.self.items);
      front = ap (take c.args.n) cut ∙ take-take c.args.n (32 * c.div_ceil-blocks.result) c.args.self.now.codes enough;
      g = ap (λ (v : Coded). v.g) c.self.view_is;
      words = λ widths all. rw cut (all_take (AreCodeWords widths c.args.self.now.g) (32 * c.div_ceil-blocks.result) c.args.self.now.codes all);
    }
