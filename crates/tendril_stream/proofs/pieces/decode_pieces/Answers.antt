use Rattle.std.proofs.Common.{◌∙◌, ap}
use Rattle.std.proofs.lemmas.Result.{IfOk-weaker}
use Rattle.tendril_stream.proofs.Handed.{each_stored}
use Rattle.tendril_stream.specs.Compositions.{IsSentOfOne}
use Rattle.tendril_stream.specs.Decodings.{utf8}
use Rattle.tendril_stream.specs.Events.{sent}
use Rattle.tendril_stream.specs.Sinks.{told}
use Rattle.tendril_stream.proofs.pieces.decode_pieces.Goals as goal

pub decode_pieces_into-requires-clause-new : goal.decode_pieces_into-requires-clause-new
decode_pieces_into-requires-clause-new g c = ap (λ l. told (sent l)) c.new.ensures

pub returns-clause-ok : goal.returns-clause-ok
returns-clause-ok g c = IfOk-weaker c.decode_pieces_into.result _ _
    (λ out h. (h.0, h.1, h.2, h.3, h.4, ap (λ l. told (sent l)) h.5.2 ∙ h.5.1)) c.decode_pieces_into.ensures.ok

pub returns-clause-shares : goal.returns-clause-shares
returns-clause-shares g c = IfOk-weaker c.decode_pieces_into.result _ _ (λ out h.
    let feeds = h.5.1 in (
      h.0,
      h.1,
      h.2,
      h.3,
      h.4,
      each_stored (IsSentOfOne utf8 h.2) (λ a. sent a.events.items) feeds.sent c.new.result h.5.0
          (ap sent c.new.ensures) feeds.calls feeds.each (sent out.items) (ap sent h.5.2),
    )) c.decode_pieces_into.ensures.shares
