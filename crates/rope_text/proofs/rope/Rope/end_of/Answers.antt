use Rattle.std.proofs.Common.{◌+◌, length, take, ap, ◌∙◌, arith}
use Rattle.rope_text.proofs.Ends.{end_is}
use Rattle.rope_text.specs.Ropes.{RopeText}
use Rattle.tendril_text.specs.TextLists.{bytes_of_all}
use Rattle.rope_text.proofs.rope.Rope.end_of.Goals as goal

pub returns : goal.returns
returns g c =
    let xs = c.self.inside.pieces.items in
    let size = ap (λ (r : RopeText). length r.pieces) c.self.view_is in
    end_is xs c.self.inside.start c.args.index c.index.result.now c.self.inside.total c.self.inside.ends.items
    (omega arith) c.self.invariant.fits c.self.invariant.counts (omega arith) c.index.ensures
    c.self.invariant.places
    ∙ ap (λ (r : RopeText). length (bytes_of_all (take (c.args.index + 1) r.pieces))) c.self.view_is
