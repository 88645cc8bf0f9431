use Rattle.std.proofs.Common.{rules, tests, ◌≡◌, ◌+◌, ◌<◌, length, take, sym, ap, ◌∙◌, subst, get_or, arith}
use Rattle.std.specs.Prelude.{All}
use Rattle.std.specs.Str.{IsCharBoundary}
use Rattle.std.proofs.lemmas.List.{get_or_read}
use Rattle.rope_text.proofs.Located.{cut_behind, cut_between}
use Rattle.rope_text.proofs.Whole.{joined_pieces}
use Rattle.rope_text.specs.Ropes.{IsPiece, RopeText, piece_at}
use Rattle.tendril_text.specs.TextLists.{bytes_of_all, no_text}
use Rattle.tendril_text.specs.Texts.{Text}
use Rattle.rope_text.proofs.rope.Rope.is_cut.Goals as goal

pub returns-then-count-eq0 : goal.returns-then-count-eq0
returns-then-count-eq0 g c =
    let rope = c.args.self.now in
    let xs = rope.pieces in
    let all = joined_pieces c.self.inside.pieces.items rope c.self.view_is in
    let each = subst (λ (r : RopeText). All IsPiece r.pieces) c.self.view_is c.self.invariant.each in
    let is : length (bytes_of_all (take c.args.index xs)) + c.args.count
    ≡ length (bytes_of_all (take c.args.index xs)) = omega arith in
    let cut = subst (λ b. IsCharBoundary b (length (bytes_of_all (take c.args.index xs)))) (sym all)
    (cut_between xs c.args.index each) in (
      λ _. subst (λ n. IsCharBoundary rope.bytes n) (sym is) cut,
      λ _. rw c.if-count-eq0.true (search (rules, tests)),
    )

pub returns-else-count-eq0 : goal.returns-else-count-eq0
returns-else-count-eq0 g c =
    let rope = c.args.self.now in
    let xs = rope.pieces in
    let index = c.args.index in
    let count = c.args.count in
    let at = length (bytes_of_all (take index xs)) + count in
    let h : index < length xs = c.requires.piece (omega (arith, c.if-count-eq0.false)) in
    let read = subst (λ (r : RopeText). c.index.result.now ≡ get_or r.pieces index c.index.result.now) c.self.view_is
    c.index.ensures in
    let each = subst (λ (r : RopeText). All IsPiece r.pieces) c.self.view_is c.self.invariant.each in
    let cut = cut_behind xs index count each h c.requires.within in
    let all = joined_pieces c.self.inside.pieces.items rope c.self.view_is in
    let is : c.as_str.result.now ≡ (piece_at xs index).bytes = c.as_str.ensures.value
    ∙ ap (λ (t : Text). t.bytes) (get_or_read xs index c.index.result.now h read no_text) in (
      λ t. subst (λ b. IsCharBoundary b at) (sym all)
          (cut.0 (subst (λ b. IsCharBoundary b count) is (c.is_char_boundary.ensures.test.0 t))),
      λ b. c.is_char_boundary.ensures.test.1
          (subst (λ b. IsCharBoundary b count) (sym is) (cut.1 (subst (λ b. IsCharBoundary b at) all b))),
    )
