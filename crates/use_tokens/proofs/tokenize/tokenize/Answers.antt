use Rattle.std.proofs.Common.{◌++◌, ap₂}
use Rattle.std.proofs.lemmas.Result.{IfErr-weaker, IfOk-weaker}
use Rattle.use_tokens.proofs.Halted.{halted}
use Rattle.use_tokens.proofs.Whole.{whole}
use Rattle.use_tokens.specs.Spelled.{begun_bytes, pending, joined_sources}
use Rattle.use_tokens.proofs.tokenize.tokenize.Goals as goal

pub returns-clause-ok : goal.returns-clause-ok
returns-clause-ok g c = IfOk-weaker c.read_decoded.result _ _ (λ out h.
    let tokens = g.K.TokenSink.tokens in
    let all = h.3 in
    let new = ap₂ (λ s b. joined_sources (tokens s) ++ b) c.new.ensures.sink
    (ap₂ (λ state b. begun_bytes state ++ b) c.new.ensures.state c.new.ensures.input) in (
      h.0,
      h.1,
      h.2,
      whole (λ t. tokens t.sink) (λ t. pending t.state t.input) (λ d. d.inner_sink) (λ d. d.kept)
          (λ d. d.failed) tokens (joined_sources (tokens c.args.sink)) c.new.result c.new-decoder.result all.last h.0
          out
          c.new-decoder.ensures.sink c.new-decoder.ensures.kept c.new-decoder.ensures.failed new all.receives
          all.finished.1,
      all.ends,
      all.within,
    )) c.read_decoded.ensures.ok

pub returns-clause-stopped : goal.returns-clause-stopped
returns-clause-stopped g c = IfErr-weaker c.read_decoded.result _ _ (λ s h.
    let tokens = g.K.TokenSink.tokens in
    let new = ap₂ (λ s b. joined_sources (tokens s) ++ b) c.new.ensures.sink
    (ap₂ (λ state b. begun_bytes state ++ b) c.new.ensures.state c.new.ensures.input) in (
      h.0,
      h.1,
      halted (λ t. tokens t.sink) (λ t. pending t.state t.input) (joined_sources (tokens c.args.sink))
          (λ d. d.inner_sink) (λ d. d.kept) (λ d. d.failed) _ c.new.result c.new-decoder.result c.args.max_reads h.0
          s.refusal s.sink
          c.new-decoder.ensures.sink c.new-decoder.ensures.kept c.new-decoder.ensures.failed new h.2,
    )) c.read_decoded.ensures.stopped
