use Rattle.std.proofs.Common.{◌≡◌, ◌-◌, min, length, take, drop, sym, ap, ◌∙◌, subst, arith, inl, inr}
use Rattle.std.specs.Prelude.{IsUtf8}
use Rattle.std.proofs.lemmas.List.{get_or_read, length-take}
use Rattle.rope_text.proofs.Shared.{growth_refused, slice_refused}
use Rattle.rope_text.proofs.Sharing.{IsSharing, IsSharing-more, IsSharing-all, IsSharing-cut, in_pieces, length_built}
use Rattle.rope_text.proofs.Sharing.{long_share, parted}
use Rattle.rope_text.specs.Ropes.{piece_at}
use Rattle.tendril_text.specs.TextLists.{unless_empty, no_text}
use Rattle.tendril_text.specs.Texts.{Text}
use Rattle.rope_text.proofs.rope.part.share.Goals as goal

pub subtendril-requires-clause-valid : goal.subtendril-requires-clause-valid
subtendril-requires-clause-valid g c =
    let xs = c.args.pieces.now.items in
    let now = c.loop-left.invariant in
    let h = in_pieces xs c.loop-left.index c.loop-left.at c.loop-left.left now.within c.loop-left-test.true in
    let e : c.index-piece.result.now ≡ piece_at xs c.loop-left.index =
    get_or_read xs c.loop-left.index c.index-piece.result.now h c.index-piece.ensures no_text in
    let l = ap (λ (t : Text). length t.bytes) e in
    let is : c.smaller-here.result
    ≡ min c.loop-left.left (length (piece_at xs c.loop-left.index).bytes - c.loop-left.at) = omega arith in
    subst (λ (t : Text). IsUtf8 (take c.smaller-here.result (drop c.loop-left.at t.bytes))) (sym e)
    (parted xs c.loop-left.index c.loop-left.at c.loop-left.left c.smaller-here.result c.requires.each h
    (now.inside c.loop-left-test.true) now.within is now.valid).valid

pub returns-in-Err : goal.returns-in-Err
returns-in-Err g c =
    let xs = c.args.pieces.now.items in
    let now = c.loop-left.invariant in
    let h = in_pieces xs c.loop-left.index c.loop-left.at c.loop-left.left now.within c.loop-left-test.true in
    let e : c.index-piece.result.now ≡ piece_at xs c.loop-left.index =
    get_or_read xs c.loop-left.index c.index-piece.result.now h c.index-piece.ensures no_text in
    let l = ap (λ (t : Text). length t.bytes) e in
    let is : c.smaller-here.result
    ≡ min c.loop-left.left (length (piece_at xs c.loop-left.index).bytes - c.loop-left.at) = omega arith in
    let full = slice_refused c.index-piece.result.now.bytes c.loop-left.at c.smaller-here.result c.in-Err.error
    c.in-Err.ensures in
    inr (
      tt,
      inl (
        c.from.ensures ∙ full.0,
        long_share xs c.args.first c.args.from c.args.count c.loop-left.index
            c.loop-left.at c.loop-left.left c.smaller-here.result c.loop-left.rope.bytes c.loop-left.rope.pieces
            c.loop-left-test.true is full.1 now,
      ),
    )

pub returns-in-Err-push_tendril : goal.returns-in-Err-push_tendril
returns-in-Err-push_tendril g c =
    let xs = c.args.pieces.now.items in
    let now = c.loop-left.invariant in
    let built = length_built xs c.args.first c.args.from c.args.count c.loop-left.index c.loop-left.at
    c.loop-left.left c.loop-left.rope.bytes c.loop-left.rope.pieces c.requires.within now in
    let part = ap length c.in-Ok.ensures.1.bytes
    ∙ length-take c.smaller-here.result (drop c.loop-left.at c.index-piece.result.now.bytes) in
    let most = now.most in
    let full = growth_refused c.in-Ok.part.bytes (unless_empty c.in-Ok.part) c.loop-left.rope c.push_tendril.new.self
    c.in-Err-push_tendril.refusal (omega arith) c.in-Err-push_tendril.ensures.grows in
    inr (tt, inr (full.0, omega arith))

pub loop-left-preserved : goal.loop-left-preserved
loop-left-preserved g c =
    let xs = c.args.pieces.now.items in
    let now = c.loop-left.invariant in
    let h = in_pieces xs c.loop-left.index c.loop-left.at c.loop-left.left now.within c.loop-left-test.true in
    let e : c.index-piece.result.now ≡ piece_at xs c.loop-left.index =
    get_or_read xs c.loop-left.index c.index-piece.result.now h c.index-piece.ensures no_text in
    let l = ap (λ (t : Text). length t.bytes) e in
    let is : c.smaller-here.result
    ≡ min c.loop-left.left (length (piece_at xs c.loop-left.index).bytes - c.loop-left.at) = omega arith in
    let longer = c.in_default.ensures.grows.1 in
    rw (longer.bytes, longer.pieces)
    (IsSharing-more xs c.args.first c.args.from c.args.count c.loop-left.index c.loop-left.at c.loop-left.left
    c.smaller-here.result c.loop-left.rope.bytes c.in-Ok.part c.loop-left.rope.pieces c.requires.each
    c.loop-left-test.true is
    (c.in-Ok.ensures.1.bytes ∙ ap (λ (t : Text). take c.smaller-here.result (drop c.loop-left.at t.bytes)) e)
    c.in-Ok.ensures.1.copied now)

pub loop-left-smaller : goal.loop-left-smaller
loop-left-smaller g c =
    let xs = c.args.pieces.now.items in
    let now = c.loop-left.invariant in
    let h = in_pieces xs c.loop-left.index c.loop-left.at c.loop-left.left now.within c.loop-left-test.true in
    let e : c.index-piece.result.now ≡ piece_at xs c.loop-left.index =
    get_or_read xs c.loop-left.index c.index-piece.result.now h c.index-piece.ensures no_text in
    let l = ap (λ (t : Text). length t.bytes) e in
    let inside = now.inside c.loop-left-test.true in
    omega arith

pub returns : goal.returns
returns g c =
    let xs = c.args.pieces.now.items in
    let now = c.loop-left.invariant in
    let none : c.loop-left.left ≡ 0 = omega arith in
    let all = subst (λ n. IsSharing xs c.args.first c.args.from c.args.count c.loop-left.index c.loop-left.at n
    c.loop-left.rope.bytes c.loop-left.rope.pieces) none now in (
      tt,
      record {
        bytes = IsSharing-all xs c.args.first c.args.from c.args.count c.loop-left.index c.loop-left.at
            c.loop-left.rope.bytes c.loop-left.rope.pieces all;
        cut_so = IsSharing-cut xs c.args.first c.args.from c.args.count c.loop-left.index c.loop-left.at
            c.loop-left.rope.bytes c.loop-left.rope.pieces all;
        shares = now.shares;
      },
    )
