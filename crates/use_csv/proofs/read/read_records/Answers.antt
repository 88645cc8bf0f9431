use Rattle.std.proofs.Common.{◌≡◌, ◌++◌, [], List, ap, ap₂, sym, ◌∙◌, append-nil}
use Rattle.std.proofs.lemmas.Result.{IfErr-weaker, IfOk-weaker}
use Rattle.use_csv.proofs.Halted.{halted}
use Rattle.use_csv.proofs.Whole.{whole}
use Rattle.use_csv.specs.Follows.{unmarked-append}
use Rattle.use_csv.specs.Spelled.{partial_bytes, record_bytes, spelled_so_far, unmarked}
use Rattle.use_csv.specs.declared.partial.PartialRecord.{PartialRecord}
use Rattle.use_csv.specs.declared.record.Record.{Record}
use Rattle.use_csv.proofs.read.read_records.Goals as goal

-- a new reader spells what the sink's earlier records spell
new_reader : (records records' : List Record) (partial : PartialRecord) → records' ≡ records → partial_bytes partial
    ≡ []
    → unmarked (spelled_so_far records' partial) ≡ unmarked (record_bytes records) ++ []
new_reader records records' partial same none =
    ap₂ (λ r p. unmarked (record_bytes r ++ p)) same none ∙ ap unmarked (append-nil (record_bytes records))
    ∙ sym (append-nil (unmarked (record_bytes records)))

pub returns-clause-ok : goal.returns-clause-ok
returns-clause-ok g c = IfOk-weaker c.read_decoded.result _ _ (λ out h.
    let records = g.K.RecordSink.records in
    let before = records c.args.sink in
    let all = h.3 in
    let new = new_reader before (records c.new.result.sink) c.new.result.partial (ap records c.new.ensures.sink)
    c.new.ensures.partial in (
      h.0,
      h.1,
      h.2,
      whole (λ t. spelled_so_far (records t.sink) t.partial) (λ d. d.inner_sink) (λ d. d.kept) (λ d. d.failed)
          (λ o. record_bytes (records o)) (unmarked (record_bytes before)) c.new.result c.new-decoder.result all.last
          h.0
          out c.new-decoder.ensures.sink c.new-decoder.ensures.kept c.new-decoder.ensures.failed new all.receives
          all.finished.1,
      all.ends,
      all.within,
    )) c.read_decoded.ensures.ok

pub returns-clause-stopped : goal.returns-clause-stopped
returns-clause-stopped g c = IfErr-weaker c.read_decoded.result _ _ (λ s h.
    let records = g.K.RecordSink.records in
    let before = records c.args.sink in
    let new = new_reader before (records c.new.result.sink) c.new.result.partial (ap records c.new.ensures.sink)
    c.new.ensures.partial in (
      h.0,
      h.1,
      halted (λ t. spelled_so_far (records t.sink) t.partial) (λ t. record_bytes (records t.sink))
          (unmarked (record_bytes before))
          (λ t. (
            unmarked (partial_bytes t.partial),
            unmarked-append (record_bytes (records t.sink))
                (partial_bytes t.partial),
          ))
          (λ d. d.inner_sink) (λ d. d.kept) (λ d. d.failed) _ c.new.result c.new-decoder.result c.args.max_reads h.0
          s.refusal
          s.sink c.new-decoder.ensures.sink c.new-decoder.ensures.kept c.new-decoder.ensures.failed new h.2,
    )) c.read_decoded.ensures.stopped
