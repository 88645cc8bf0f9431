use Rattle.std.proofs.Common.{◌≡◌, ◌+◌, List, ℕ, ◌++◌, true, length, take, drop, sym, ap, ap₂, ◌∙◌, arith}
use Rattle.std.proofs.Common.{append_assoc, length-append}
use Rattle.std.specs.Str.{all_scalars, encode_utf8_all}
use Rattle.std.proofs.lemmas.List.{take-append-drop}
use Rattle.tendril_fmt.specs.Blocks.{units_of}
use Rattle.tendril_fmt.specs.Wtf8.{wtf8}
use Rattle.tendril_fmt.proofs.UnitCounts.{wtf8-scalars}
use Rattle.tendril_fmt.proofs.Written.{place_written}
use Rattle.tendril_fmt.proofs.fmt.units.put_next.Goals as goal

-- the WTF-8 of units: that of a block, then that of the others
spelt : (all front after block : List ℕ) → front ≡ take 16 all → after ≡ drop 16 all → block ≡ front
    → all_scalars block ≡ true → wtf8 all ≡ encode_utf8_all block ++ wtf8 after
spelt all front after block f a b scalars =
    ap wtf8 (sym (take-append-drop 16 all) ∙ ap₂ (λ x y. x ++ y) (sym (b ∙ f)) (sym a))
    ∙ wtf8-scalars block after scalars

pub returns-then-bytes-at-ge-ROOM-clause-place : goal.returns-then-bytes-at-ge-ROOM-clause-place
returns-then-bytes-at-ge-ROOM-clause-place c =
    let block = units_of c.low_high.result.0 c.low_high.result.1 in
    let bytes = encode_utf8_all block in
    let after = c.split_at.result.1.now in
    let put = c.encode_block-end in
    let is =
    spelt c.args.units.now c.split_at.result.0.now after block c.split_at.ensures.front c.split_at.ensures.back
    c.low_high.ensures (put.ensures.scalars (c.has_surrogate.ensures.0 c.if-has_surrogate.false)) in
    let end : put.result ≡ c.args.at + length bytes =
    place_written put.new.bytes c.args.bytes.now bytes c.args.at put.result put.ensures.bytes
    (omega (arith, c.requires))
    (omega (arith, put.ensures.place, c.if-bytes-at-ge-ROOM.true, put.auto.bytes)) in
    omega (arith, end, c.requires, ap length is, length-append bytes (wtf8 after))

pub returns-then-bytes-at-ge-ROOM-clause-bytes : goal.returns-then-bytes-at-ge-ROOM-clause-bytes
returns-then-bytes-at-ge-ROOM-clause-bytes c =
    let block = units_of c.low_high.result.0 c.low_high.result.1 in
    let bytes = encode_utf8_all block in
    let after = c.split_at.result.1.now in
    let front = take c.args.at c.args.bytes.now in
    let put = c.encode_block-end in
    let is =
    spelt c.args.units.now c.split_at.result.0.now after block c.split_at.ensures.front c.split_at.ensures.back
    c.low_high.ensures (put.ensures.scalars (c.has_surrogate.ensures.0 c.if-has_surrogate.false)) in
    ap (λ l. l ++ wtf8 after) put.ensures.bytes
    ∙ append_assoc front bytes (wtf8 after)
    ∙ ap (λ l. front ++ l) (sym is)
