use Rattle.std.proofs.Common.{rules, ◌≡◌, ◌+◌, ◌<◌, ◌++◌, length, get_or, take, sym, ap, subst, ◌∙◌, arith}
use Rattle.rope_text.proofs.Printed.{styled_more, written_more}
use Rattle.rope_text.proofs.Whole.{joined_read_more}
use Rattle.rope_text.specs.Ropes.{RopeText}
use Rattle.tendril_text.specs.TextLists.{bytes_of_all}
use Rattle.rope_text.proofs.rope.print.RopeDisplay.fmt.Goals as goal

pub loop-index-preserved : goal.loop-index-preserved
loop-index-preserved g c =
    let xs = c.args.self.now.pieces in
    let i = c.loop-index.index in
    let size = ap (λ (r : RopeText). length r.pieces) c.self.view_is in
    let h : i < length xs = omega arith in
    let read = subst (λ (r : RopeText). c.index.result.now ≡ get_or r.pieces i c.index.result.now) c.self.view_is
    c.index.ensures in
    let more : bytes_of_all (take (i + 1) xs) ≡ bytes_of_all (take i xs) ++ c.as_str.result.now =
    joined_read_more xs i c.index.result.now h read
    ∙ ap (λ l. bytes_of_all (take i xs) ++ l) (sym c.as_str.ensures.value) in
    record {
      plain = λ p. let w = c.loop-index.invariant.plain p in
          written_more g.W.Write.write_str_gives c.args.f.now c.loop-index.f c.write_str.new.self
          (bytes_of_all (take i xs)) c.as_str.result.now (bytes_of_all (take (i + 1) xs)) more w
          (c.in_ok-write_str.ensures.writes w.plain (search rules));
      styled = λ p. let w = c.loop-index.invariant.styled p in
          styled_more g.W.Write.write_str_gives c.args.f.now c.loop-index.f c.write_str.new.self
          (bytes_of_all (take i xs)) c.as_str.result.now (bytes_of_all (take (i + 1) xs)) more w
          (c.in_ok-write_str.ensures.styled w.flush (search rules));
    }
