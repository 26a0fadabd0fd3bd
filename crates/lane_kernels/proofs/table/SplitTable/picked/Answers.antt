use Rattle.std.proofs.Common.{◌≡◌, ◌%◌, ◌^◌, get_or, take, ap, sym, ◌∙◌}
use Rattle.std.proofs.lemmas.List.{get_or-take}
use Rattle.std.proofs.Math.Nat.{mod-lt}
use Rattle.std.proofs.lemmas.Nat.{pow_pos}
use Rattle.lane_kernels.specs.Table.{Table}
use Rattle.lane_kernels.proofs.table.SplitTable.picked.Goals as goal

pub returns : goal.returns
returns c = record {
  long = c.select.ensures.long;
  each = λ k h.
      let x = get_or c.args.v k 0 in
      let w = c.args.width in
      let e : c.args.self.now.entries ≡ take (2 ^ w) c.self.inside.filled =
      sym (ap (λ (t : Table). t.entries) c.self.view_is) ∙ ap (λ n. take (2 ^ n) c.self.inside.filled) (ap (λ (t : Table). t.width) c.self.view_is ∙ sym c.requires) in
      c.select.ensures.each k h ∙ sym (ap (λ l. get_or l (x % 2 ^ w) 0) e ∙ get_or-take (2 ^ w) c.self.inside.filled (x % 2 ^ w) 0 (mod-lt x (pow_pos w)));
}
