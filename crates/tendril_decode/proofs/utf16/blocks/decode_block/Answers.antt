use Rattle.std.proofs.Common.{◌++◌, take, sym, ap, ◌∙◌}
use Rattle.std.specs.Str.{all_scalars, encode_utf8_all}
use Rattle.tendril_decode.proofs.Utf16Blocks.{units_are}
use Rattle.tendril_decode.proofs.utf16.blocks.decode_block.Goals as goal

pub returns-clause-scalars : goal.returns-clause-scalars
returns-clause-scalars c =
    let low = c.bytes_of-low in
    let high = c.bytes_of-high in
    let units =
    units_are c.args.big c.args.bytes.now low.result high.result 16 low.ensures.len high.ensures.len low.ensures.bytes
    high.ensures.bytes in
    sym (ap all_scalars units)
    ∙ c.encode_block-end.ensures.scalars (c.has_surrogate.ensures.0 c.if-has_surrogate.false)

pub returns-clause-bytes : goal.returns-clause-bytes
returns-clause-bytes c =
    let low = c.bytes_of-low in
    let high = c.bytes_of-high in
    let units =
    units_are c.args.big c.args.bytes.now low.result high.result 16 low.ensures.len high.ensures.len low.ensures.bytes
    high.ensures.bytes in
    c.encode_block-end.ensures.bytes ∙ ap (λ l. take c.args.at c.args.out.now ++ encode_utf8_all l) units
