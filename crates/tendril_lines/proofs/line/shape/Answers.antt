use Rattle.std.proofs.Common.{rules, ◌≡◌}
use Rattle.tendril_lines.specs.Lines.{words_of}
use Rattle.tendril_lines.specs.declared.change.ByteEdit.TheVariants as byte_edit
use Rattle.tendril_lines.specs.declared.change.Change.TheVariants as change
use Rattle.tendril_lines.specs.declared.change.Conversion.TheVariants as conversion
use Rattle.tendril_lines.specs.declared.change.Edit.TheVariants as edit
use Rattle.tendril_lines.specs.declared.command.Command.{Command}
use Rattle.tendril_lines.specs.declared.command.Command.TheVariants.{Change}
use Rattle.tendril_lines.proofs.line.shape.Goals as goal

pub returns-in_default : goal.returns-in_default
returns-in_default c =
    let Other : Command → Type 0 = λ k. c.args.verb.now ≡ (words_of k).0 → ⊥ in
    λ k.
    elim k as Other [
      | Change slot made ↦ elim made as (λ made. Other (Change slot made)) [
        | change.Edit made ↦ elim made as (λ made. Other (Change slot (change.Edit made))) [
          | edit.Clear ↦ λ verb. search rules
          | _ ↦ λ verb. search rules
        ]
        | change.EditBytes made ↦ elim made as (λ made. Other (Change slot (change.EditBytes made))) [
          | byte_edit.PushZeros count ↦ λ verb. search rules
          | _ ↦ λ verb. search rules
        ]
        | change.Convert made ↦ elim made as (λ made. Other (Change slot (change.Convert made))) [
          | conversion.Reinterpret kind ↦ λ verb. search rules
          | _ ↦ λ verb. search rules
        ]
        | _ ↦ λ verb. search rules
      ]
      | _ ↦ λ verb. search rules
    ]
