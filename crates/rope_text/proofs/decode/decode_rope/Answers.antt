use Rattle.std.proofs.lemmas.Result.{IfOk-weaker}
use Rattle.tendril_stream.specs.Compositions.{IsSentOfOne}
use Rattle.tendril_stream.specs.Decodings.{utf8}
use Rattle.rope_text.proofs.Decoded.{new_has, new_pieces_fit}
use Rattle.rope_text.proofs.decode.decode_rope.Goals as goal

pub decode_pieces_into-requires-clause-new : goal.decode_pieces_into-requires-clause-new
decode_pieces_into-requires-clause-new g c = new_has c.new.result c.new.ensures.bytes

pub returns-clause-shares : goal.returns-clause-shares
returns-clause-shares g c = IfOk-weaker c.decode_pieces_into.result _ _ (λ out h.
    let feeds = h.5.1 in (
      h.0,
      h.1,
      h.2,
      h.3,
      h.4,
      new_pieces_fit (IsSentOfOne utf8 h.2) feeds.sent c.new.result h.5.0 out c.new.ensures.pieces feeds.each
          feeds.calls h.5.2,
    )) c.decode_pieces_into.ensures.shares
