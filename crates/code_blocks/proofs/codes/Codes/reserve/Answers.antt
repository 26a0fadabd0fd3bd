use Rattle.code_blocks.proofs.Words.{◌≡◌, ◌+◌, ℕ, ◌++◌, replicate, rules, ap, ◌∙◌, arith, length-append, codes_in, zero_codes, all_append, AreCodeWords, take-append_seam}
use Rattle.code_blocks.proofs.Stretch.{shown_size, grown, zero_codes_good, length_zero_codes}
use Rattle.code_blocks.proofs.codes.Codes.reserve.Goals as goal

pub returns-then-at-self-clause-room : goal.returns-then-at-self-clause-room
returns-then-at-self-clause-room c = omega (arith, shown_size c.self.invariant c.self.view_is, c.if-at-self.true)

pub returns : goal.returns
returns c =
    let items : c.add_zeros.new.lanes.items ≡ c.self.inside.lanes.items ++ replicate c.self.inside.g (replicate {A = ℕ} 32 0) = search rules in
    let codes : codes_in c.self.inside.g (c.self.inside.blocks + 1) c.add_zeros.new.lanes.items ≡ c.args.self.now.codes ++ zero_codes c.args.self.now.g =
    ap (codes_in c.self.inside.g (c.self.inside.blocks + 1)) items ∙ grown c.self.invariant c.self.view_is in
    let size = length_zero_codes c.args.self.now.g in
    rw codes
    (record {
      room = omega (arith, c.requires, size, length-append c.args.self.now.codes (zero_codes c.args.self.now.g));
      front = take-append_seam c.args.self.now.codes (zero_codes c.args.self.now.g);
      longer = omega (arith, length-append c.args.self.now.codes (zero_codes c.args.self.now.g));
      few = omega (arith, size, length-append c.args.self.now.codes (zero_codes c.args.self.now.g));
      enough = λ room. absurd (omega (arith, room, shown_size c.self.invariant c.self.view_is, c.if-at-self.false));
      g = ap (λ v. v.g) c.self.view_is;
      words = λ widths all. all_append (AreCodeWords widths c.args.self.now.g) c.args.self.now.codes (zero_codes c.args.self.now.g) all (zero_codes_good widths c.args.self.now.g);
    })
