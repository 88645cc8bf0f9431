use Rattle.std.proofs.Common.{◌≡◌, not, take, sym, ap, ap₂, ◌∙◌, append-nil}
use Rattle.std.specs.Prelude.{option_to_list}
use Rattle.std.specs.Char.{encode_utf8}
use Rattle.std.specs.Str.{encode_utf8_all}
use Rattle.tendril_decode.specs.Machines.{broken_marks}
use Rattle.tendril_decode.specs.Gb18030.{ends_kept}
use Rattle.tendril_decode.proofs.Gb18030Steps.{ends_done, ends_some}
use Rattle.tendril_decode.proofs.gb18030.Gb18030Decode.end.Goals as goal
use Rattle.tendril_decode.proofs.gb18030.Gb18030Decode.end.Goals.{in-Some, in-None, in-Nothing, in_default}

text : (c : goal.After-new)
    → take c.match-self.written c.match-self.out ≡ encode_utf8_all (option_to_list c.args.self.now.owed)
text c =
    elim c.match-self.branch [
      | in-Some w ↦
          ap₂ (λ n l. take n l) w.written-is w.out-is ∙ w.put_code_point-written.ensures.bytes
          ∙ sym (append-nil (encode_utf8 w.in-Some.digit))
          ∙ ap (λ o. encode_utf8_all (option_to_list o)) (sym w.in-Some.is)
      | in-None w ↦
          ap₂ (λ n l. take n l) w.written-is w.out-is ∙ ap (λ o. encode_utf8_all (option_to_list o)) (sym w.in-None.is)
    ]

marks : (c : goal.After-new) → ends_kept c.args.self.now.kept ≡ broken_marks (not c.match-matches.matches)
marks c =
    elim c.match-matches.branch [
      | in-Nothing w ↦ ap ends_kept w.in-Nothing.is ∙ ap (λ b. broken_marks (not b)) (sym w.matches-is)
      | in_default w ↦
          ends_some c.args.self.now.kept w.in_default.not-Nothing
          ∙ ap (λ b. broken_marks (not b)) (sym w.matches-is)
    ]

pub returns-clause-ends : goal.returns-clause-ends
returns-clause-ends c = ends_done c.args.self.now c.new.result _ _ c.requires.fits (text c) (marks c) c.new.ensures
