-- What the records spell after a step that failed.
use Rattle.std.proofs.Common.{◌≡◌, ℕ, List, ◌++◌, sym, ap, ◌∙◌, append_assoc}
use Rattle.tendril.specs.Fmt.Parts.{IsFrontOf}
use Rattle.use_csv.specs.Follows.{unmarked-append}
use Rattle.use_csv.specs.Spelled.{partial_bytes, record_bytes, spelled_so_far, unmarked}
use Rattle.use_csv.specs.declared.partial.PartialRecord.{PartialRecord}
use Rattle.use_csv.specs.declared.record.Record.{Record}

-- if a step added no record, the records are a prefix of all that is spelled and left
pub front_of_step : (records records' : List Record) (partial : PartialRecord) (rest whole : List ℕ)
    → records' ≡ records
    → unmarked (spelled_so_far records partial ++ rest) ≡ unmarked whole
    → IsFrontOf (unmarked (record_bytes records')) (unmarked whole)
front_of_step records records' partial rest whole same is =
    let more = unmarked (partial_bytes partial ++ rest) in (
      more,
      sym is ∙ ap unmarked (append_assoc (record_bytes records) (partial_bytes partial) rest)
          ∙ unmarked-append (record_bytes records) (partial_bytes partial ++ rest)
          ∙ ap (λ r. unmarked (record_bytes r) ++ more) (sym same),
    )
